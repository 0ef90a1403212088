use mathlib.Core.Path.{refl}
use Rattle.collections_maps.proofs.BeginLaws.{empty-object, map-made, types_refused}
use Rattle.collections_maps.proofs.changes.new_map.Goals as goal

pub returns-then-keys-gt2 : goal.returns-then-keys-gt2
returns-then-keys-gt2 c = types_refused c.requires c.then-keys-gt2.either

pub new_with_scalars-requires : goal.new_with_scalars-requires
new_with_scalars-requires c = (c.requires, empty-object c.args.keys c.args.values refl c.from-x.ensures)

pub returns : goal.returns
returns c = map-made c.requires c.if-keys-gt2.false c.if-values-gt2.false refl c.from-x.ensures c.new_with_scalars.ensures
