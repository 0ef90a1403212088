use Rattle.collections_maps.proofs.GrownLaws.{grown-fits, grown_removing, removed_so}
use Rattle.collections_maps.proofs.changes.remove_grown.Goals as goal

pub longer-requires : goal.longer-requires
longer-requires c = record { good = c.requires.good; room = c.requires.ready.long }

pub remove_in-n-requires : goal.remove_in-n-requires
remove_in-n-requires c = grown_removing c.requires.good c.requires.ready c.longer.ensures.grown c.read_header-h.ensures

pub write_map-requires : goal.write_map-requires
write_map-requires c = grown-fits c.requires.good c.requires.ready c.longer.ensures.grown

pub returns : goal.returns
returns c = removed_so c.args.pos c.requires.good c.requires.ready c.longer.ensures c.read_header-h.ensures c.remove_in-n.ensures c.write_map.ensures
