use Rattle.std.proofs.Common.{rules, SFits, w64, to_z-of_z}
use Rattle.words.specs.WordLaws.{signed_bits_lem}
use Rattle.collections_maps.proofs.changes.noted_word.Goals as goal

pub returns-in-Some-clause-back : goal.returns-in-Some-clause-back
returns-in-Some-clause-back c =
    let f : SFits w64 c.in-Some.k = search rules in
    rw (c.bits_of.ensures, to_z-of_z f, c.in-Some.is, signed_bits_lem c.in-Some.k f)
