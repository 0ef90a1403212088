use lib.ListN.{drop}
use Rattle.collector_marking.proofs.Adding.{Going}
use Rattle.collector_marking.proofs.Marker.mark_words.Given as goal

abbrev pub invariant-loop-w : goal.invariant-loop-w
invariant-loop-w l = Going l.words l.initial.self (drop l.w-index l.words) l.self
