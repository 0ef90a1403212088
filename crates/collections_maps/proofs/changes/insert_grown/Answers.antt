use Rattle.collections_maps.proofs.GrownLaws.{grown-fits, grown_inserting, inserted_so}
use Rattle.collections_maps.proofs.changes.insert_grown.Goals as goal

pub longer-requires : goal.longer-requires
longer-requires c = record { good = c.requires.good; room = c.requires.ready.long }

pub insert_in-n-requires : goal.insert_in-n-requires
insert_in-n-requires c = grown_inserting c.requires.good c.requires.ready c.longer.ensures.grown c.read_header-h.ensures c.requires.number

pub write_map-requires : goal.write_map-requires
write_map-requires c = grown-fits c.requires.good c.requires.ready c.longer.ensures.grown

pub returns : goal.returns
returns c =
    inserted_so c.args.traced c.args.hash c.args.key c.args.value c.requires.good c.requires.ready c.longer.ensures c.read_header-h.ensures c.insert_in-n.ensures c.write_map.ensures
