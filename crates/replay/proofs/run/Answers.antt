use Rattle.replay.proofs.StartLaws.{started_ready}
use Rattle.replay.proofs.run.Goals as goal

pub play-requires : goal.play-requires
play-requires g c = started_ready c.start-started.ensures c.in-Ok.is
