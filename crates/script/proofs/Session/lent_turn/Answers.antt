use Prim.Native.Nat.{◌-◌}
use native.Mathlib.Omega.{arith}
use mathlib.Core.Path.{refl}
use Rattle.script.proofs.RunLaws.{kept_on}
use Rattle.script.proofs.TurnLaws.{lendable-bytes, lendable-places, lent-ended, lent-few, lent_goes, part-short}
use Rattle.script.proofs.Session.lent_turn.Goals as goal

pub returns-then-not-can_lend-clause-goes : goal.returns-then-not-can_lend-clause-goes
returns-then-not-can_lend-clause-goes c = lent-ended c.args.code c.shape_of-s.result c.shape_of-s.ensures c.args.k c.can_lend.ensures c.requires.session_ready c.if-not-can_lend.true (omega (arith, c.requires.placed.onward, c.requires.placed.within)) c.ended.ensures

pub lend_bytes-requires : goal.lend_bytes-requires
lend_bytes-requires c =
    ((λ z. omega (arith, lendable-bytes c.shape_of-s.result.memory c.args.k.operands c.can_lend.ensures c.if-not-can_lend.false z, c.requires.session_ready.roomy.bytes)), omega (arith, part-short (c.args.k.to - c.args.k.from) c.args.k.from c.args.input.now, c.requires.session_ready.roomy.bytes))

pub lend_places-requires : goal.lend_places-requires
lend_places-requires c =
    ((λ z. lendable-places c.shape_of-s.result.memory c.args.k.operands c.can_lend.ensures c.if-not-can_lend.false z), omega (arith, c.requires.session_ready.seated), c.requires.session_ready.roomy.places)

pub call_turn-requires-clause-fronts : goal.call_turn-requires-clause-fronts
call_turn-requires-clause-fronts c = lent-few c.args.code c.shape_of-s.result c.shape_of-s.ensures c.args.k c.can_lend.ensures c.requires.session_ready c.lend_words-w.result.0 c.lend_words-w.result.1 c.lend_bytes.result c.lend_places.result c.lend_words-w.ensures c.lend_bytes.ensures c.if-not-can_lend.false c.lend_places.ensures.upper_bound

pub returns-clause-goes : goal.returns-clause-goes
returns-clause-goes c = lent_goes c.args.code c.shape_of-s.result c.shape_of-s.ensures c.args.k c.can_lend.ensures c.requires.session_ready c.lend_words-w.result.0 c.lend_words-w.result.1 c.lend_bytes.result c.lend_places.result c.lend_words-w.ensures c.lend_bytes.ensures c.if-not-can_lend.false c.lend_places.ensures.fronts refl c.call_turn.ensures.goes

pub returns-clause-kept : goal.returns-clause-kept
returns-clause-kept c = kept_on record { slots = refl; scalars = refl; list = refl; directory = refl; cells = refl; marks = refl; order = refl; table = refl; roots = refl; words = c.lend_words-w.auto.words; bytes = c.lend_bytes.auto.bytes; places = c.lend_places.auto.places; out = refl } c.call_turn.ensures.kept
