-- What holds of every heap that an accepted opening and any calls give, beside demand 3 and what is shut out.
use Rattle.std.specs.Prelude.{ℕ, ◌+◌, ◌≤◌, ◌<◌, ◌≡◌, true, false, leb}
use mathlib.Core.List.{List, Memᴰ}
use Rattle.std.proofs.Math.Option.{Option, some}
use Rattle.map_store.specs.Store as Maps
use Rattle.map_store.specs.Store.{Store}
use Rattle.model.specs.Content.{Content, Iterator, Map, iterator, map_object}
use Rattle.model.specs.View.{look}
use Rattle.model.specs.Calls.{Call, insert_entry}
use Rattle.model.specs.Slots.{dropped, rewritten}
use Rattle.model.specs.Model.{Model, cells_used, view_of, weights_kept}
use Rattle.model.specs.Refusals.{cell_less, unless}
use Rattle.model.specs.Terms.{iterable}
use Rattle.model.specs.Opening.{Opening, open_heap}
use Rattle.model.specs.Demand3.{run}

-- The cells in use never exceed the total, so that 7 is said exactly where the cells in use and those added exceed it, a call that adds none
-- included.
abbrev pub CellsFitHold : Type 0
CellsFitHold = (o : Opening) (m : Model) → open_heap o ≡ some m → (cs : List Call) →
    (cells_used (run m cs).table ≤ (run m cs).cells) × ((n : ℕ) → cell_less (run m cs) n ≡ unless (leb (cells_used (run m cs).table + n) (run m cs).cells) 7)

-- The kept weights stay below 2^64, so that "used becomes the kept weights" needs no saturation.
abbrev pub WeightsFitHold : Type 0
WeightsFitHold = (o : Opening) (m : Model) → open_heap o ≡ some m → (cs : List Call) → weights_kept (run m cs).weights (run m cs).table < 0x10000000000000000

-- An iterator's source is present and an array or a map, so that what its step would do without one never shows.
pub record SourceThere (m : Model) (i : Iterator) : Type 0 where
  pub content : Content
  pub there : look (view_of m) i.source ≡ some content
  pub kind : iterable content ≡ true

abbrev pub SourcesHold : Type 0
SourcesHold = (o : Opening) (m : Model) → open_heap o ≡ some m → (cs : List Call) → (w : ℕ) (i : Iterator) → look (view_of (run m cs)) w ≡ some (iterator i) → SourceThere (run m cs) i

-- The freed count never reaches its ceiling 2^64-1: each of at most 65,536 slots has at most 32,768 objects. So "counts stop at 2^64-1" never
-- shows of it, and a sweep adds exactly what it frees. (The count of collections has no such bound.)
pub record FreedBelow (m : Model) : Type 0 where
  pub below : m.table.freed ≤ 0x80000000
  pub exact : (f : ℕ → Content → Option Content) → (rewritten m.table f).freed ≡ m.table.freed + dropped f m.table

abbrev pub FreedCountHolds : Type 0
FreedCountHolds = (o : Opening) (m : Model) → open_heap o ≡ some m → (cs : List Call) → FreedBelow (run m cs)

-- "A store is packed while each added integer key equals its position": the places of a packed map are live, and each key is its position.
pub record PackedKeys (s : Store) : Type 0 where
  pub alive : s.hashed ≡ false → (p : ℕ) → p < Maps.places s → (Maps.entry_of s p).live ≡ true
  pub keys : s.hashed ≡ false → (p : ℕ) → p < Maps.places s → (Maps.entry_of s p).key ≡ p

abbrev pub PackedKeysHold : Type 0
PackedKeysHold = (o : Opening) (m : Model) → open_heap o ≡ some m → (cs : List Call) → (w : ℕ) (x : Map) → look (view_of (run m cs)) w ≡ some (map_object x) → PackedKeys x.store

-- Put alone never makes two live entries of equal hash and key: without insert, every map has at most one for each hash and key.
pub record SingleEntries (s : Store) : Type 0 where
  pub one_place : (p q : ℕ) → p < Maps.places s → q < Maps.places s → (Maps.entry_of s p).live ≡ true → (Maps.entry_of s q).live ≡ true →
      (Maps.entry_of s p).hash ≡ (Maps.entry_of s q).hash → (Maps.entry_of s p).key ≡ (Maps.entry_of s q).key → p ≡ q

abbrev pub NoInsert : List Call → Type 0
NoInsert cs = (r h k w : ℕ) → ¬ Memᴰ (insert_entry r h k w) cs

abbrev pub SingleEntriesHold : Type 0
SingleEntriesHold = (o : Opening) (m : Model) → open_heap o ≡ some m → (cs : List Call) → NoInsert cs → (w : ℕ) (x : Map) → look (view_of (run m cs)) w ≡ some (map_object x) → SingleEntries x.store
