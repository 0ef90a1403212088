use Rattle.std.proofs.Common.{rules, SFits, w64, to_z-of_z, ◌∙◌}
use Rattle.map_store.proofs.Calls.{note_known, note-first}
use Rattle.map_store.proofs.MapStore.note_int_key.Goals.{in-Some, in-None}
use Rattle.map_store.proofs.MapStore.note_int_key.Goals as goal

pub returns : goal.returns
returns c =
    elim c.match-self.branch [
      | in-Some w ↦
          (let fit : SFits w64 w.in-Some.n = search rules in
          rw w.self-is (note_known c.args.self.now _ c.args.k _ w.in-Some.is (to_z-of_z {w = w64} {z = w.max.result} (record { sfits = w.max.type_inv }) ∙ rw (to_z-of_z fit, to_z-of_z c.ranges.k) at w.max.ensures.value)))
      | in-None w ↦ rw (w.self-is, to_z-of_z c.ranges.k) (note-first c.args.self.now c.args.k w.in-None.is)
    ]
