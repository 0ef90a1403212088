-- The heap that a view shows.
use Rattle.heap.specs.declared.view.HeapView.{HeapView}
use Rattle.heap.specs.State.{State, state}

abbrev pub held : HeapView → State
held v = state v.heap v.slots.now v.scalars.now v.list.now v.directory.now v.cells.now
