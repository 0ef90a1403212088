use Prim.Native.Nat.{◌-◌}
use Rattle.layout.specs.Layout.{is_traced}
use Rattle.map_store.specs.View.{entries_in}
use Rattle.model.specs.Content.{entry_words}
use Rattle.collector_marking.proofs.Adding.{Going}
use Rattle.collector_marking.proofs.Marker.mark_entries.Given as goal

abbrev pub invariant-loop-p : goal.invariant-loop-p
invariant-loop-p l = Going (entry_words (is_traced l.keys) (is_traced l.values) (entries_in l.cells 0 l.count)) l.initial.self (entry_words (is_traced l.keys) (is_traced l.values) (entries_in l.cells l.p (l.count - l.p))) l.self
