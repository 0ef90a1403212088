use Rattle.std.proofs.Common.{◌<◌, ◌∙◌, rules}
use Rattle.collections_maps.proofs.WriteLaws.{flag_word, map-written}
use Rattle.collections_maps.proofs.changes.write_map.Goals as goal

pub returns : goal.returns
returns c =
    let epoch : c.args.s.epoch < 4294967296 = search rules in
    map-written c.requires.1 c.requires.2 c.read_header-h.ensures c.read_part-x.ensures (c.from.ensures ∙ flag_word c.args.s.hashed) (rw c.is_some.ensures at (c.from-2.ensures ∙ flag_word c.is_some.result)) c.noted_word.ensures.word
    (rw c.noted_word.ensures.word at c.noted_word.ensures.back) epoch c.write_header.ensures (rw (← c.from-3.ensures) c.from-4.ensures) c.write_scalars.ensures
