-- What a marker's methods promise.
use Rattle.std.specs.Prelude.{◌≡◌, ℕ}
use mathlib.Core.List.{List}
use Rattle.collector_marking.specs.Children.{hit}
use Rattle.collector_marking.specs.Marks.{Marks}
use Rattle.collector_marking.specs.declared.Marker.{Marker}

-- the marker b marks what a does
pub record Same (a b : Marker) : Type 0 where
  pub slots : b.slots ≡ a.slots
  pub fresh : b.fresh ≡ a.fresh
  pub marks : b.marks.ghost_name ≡ a.marks.ghost_name
  pub order : b.order.ghost_name ≡ a.order.ghost_name

-- and the words ws were marked
pub record Adds (ws : List ℕ) (a b : Marker) : Type 0 where
  pub marked : Marks (hit a.slots.now a.fresh) ws a.marks.now a.order.now a.marked b.marks.now b.order.now b.marked
  pub same : Same a b
