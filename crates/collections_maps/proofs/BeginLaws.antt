-- New maps. Assumes nothing.
use Rattle.std.proofs.Common.{Result, Err}
use Rattle.heap.specs.declared.Refusal.{Refusal}
use Prim.Native.Nat.{ℕ, ◌+◌, ◌*◌, ◌≤◌, ◌<◌}
use mathlib.Core.Path.{◌≡◌, refl, sym, ◌∙◌}
use mathlib.Core.Logic.{◌⊎◌, inl, inr}
use mathlib.Core.List.{[], ◌∷◌}
use native.Mathlib.Omega.{arith}
use Rattle.account.specs.AccountLaws.{saturated-below}
use Rattle.heap_slots.specs.Header.{with_region}
use Rattle.heap_slots.specs.Kinds.{MAP}
use Rattle.heap_slots.specs.Limits.{HALF}
use Rattle.heap_slots.specs.declared.Header.{Header}
use Rattle.heap_slots.specs.declared.Scalars.{Scalars}
use Rattle.map_store.specs.Store.{empty_room, empty_store, live_of}
use Rattle.map_store.specs.Map as Map
use Rattle.map_store.specs.Numbered.{Rising}
use Rattle.map_store.specs.View.{entries_in}
use Rattle.model.specs.Calls as Calls
use Rattle.model.specs.Calls.{effect}
use Rattle.model.specs.Content.{bytes_of, cells_of, map_object}
use Rattle.model.specs.Refusals.{type_4}
use Rattle.model.specs.Terms.{terms}
use Rattle.heap.specs.declared.Refusal.TheVariants as No
use Rattle.heap.specs.Answers.{made_is}
use Rattle.heap.specs.Kinds.{map_of}
use Rattle.heap.specs.State.{State}
use Rattle.heap.specs.Good.{Good}
use Rattle.heap.specs.Promise.{Performs}
use Rattle.heap.specs.Placing.{Object, new_raw}
use Rattle.heap.proofs.DoesLaws.{first_none, first_passes, first_refuses}
use Rattle.heap.proofs.KindLaws.{content-map, room-map}
use Rattle.heap_allocation.specs.Making.{MadePlain, headerOf, with_next}
use Rattle.heap_allocation.proofs.MakeLaws.{Means, above_4, makes, refused-own, scalars_performs, within_4}
use Rattle.collections_maps.specs.Beginning.{empty_map}
use Rattle.collections_maps.proofs.MapStoreLaws.{map-slot-good}

empty-good : (keys values : ℕ) → Map.Good (map_of (new_raw HALF (headerOf MAP 0 0 0 0) []) (empty_map keys values)) []
unfolding entries_in Rising live_of
empty-good keys values = record {
  live = refl;
  fits = omega arith;
  room = omega arith;
  small = omega arith;
  numbers = omega arith;
  numbered = omega arith;
  packed = λ e. refl;
  indexed = λ e. absurd (let z : ◌≡◌ {A = ℕ} 0 1 = cc in omega arith);
}

pub empty-object : {h : Header} {x : Scalars} (keys values : ℕ) → h ≡ headerOf MAP 0 0 0 0 → x ≡ empty_map keys values → Object (with_region h 0 0 0) [] x
empty-object keys values e ex = rw (e, ex) record { some_kind = λ z. absurd (omega (arith, z)); fit = map-slot-good (omega arith) (omega arith) refl (empty-good keys values) refl (omega arith) }

map_means : (keys values : ℕ) → Means (headerOf MAP 0 0 0 0) [] (empty_map keys values) (map_object record { key_type = keys; value_type = values; store = empty_store }) empty_room
unfolding entries_in
map_means keys values = record {
  object = empty-object keys values refl refl;
  content = content-map (new_raw HALF (headerOf MAP 0 0 0 0) []) (empty_map keys values) refl;
  room = room-map (new_raw HALF (headerOf MAP 0 0 0 0) []) refl;
}

module _ {t : State} (g : Good t) {keys values : ℕ} where
  pub map-made : {h : Header} {x : Scalars} {r : Result ℕ Refusal} {a : State} → keys ≤ 2 → values ≤ 2 → h ≡ headerOf MAP 0 0 0 0 → x ≡ empty_map keys values → MadePlain t (with_next t x) h t.heap.weights.slot r a → Performs (Calls.new_map keys values) t (made_is r) a
  unfolding effect terms bytes_of cells_of
  map-made {r = r} {a = a} k v e ex d =
      let d' : MadePlain t (with_next t (empty_map keys values)) (headerOf MAP 0 0 0 0) t.heap.weights.slot r a = rw (e, ex) at d in
      let w = g.weights.slot in
      scalars_performs (empty_map keys values) g
      (makes (λ l. type_4 keys ∷ type_4 values ∷ []) (λ l. refl) (λ l. refl) (λ l. first_passes (type_4 values ∷ []) (within_4 keys 2 k) ∙ first_passes [] (within_4 values 2 v) ∙ first_none))
      (sym (let z : t.heap.weights.slot + (t.heap.weights.entry * 0 + 4 * 0) ≡ t.heap.weights.slot = omega arith in rw z (saturated-below t.heap.weights.slot (omega arith)))) refl
      (map_means keys values)
      d'

  keys-refused : 2 < keys → Performs (Calls.new_map keys values) t (made_is (Err No.BadType)) t
  unfolding effect terms
  keys-refused l = refused-own No.BadType (λ z. type_4 keys ∷ type_4 values ∷ []) g (λ z. refl) (λ z. refl) (λ z. first_refuses (type_4 values ∷ []) No.BadType (above_4 keys 2 l))

  values_refused : keys ≤ 2 → 2 < values → Performs (Calls.new_map keys values) t (made_is (Err No.BadType)) t
  unfolding effect terms
  values_refused k l =
      refused-own No.BadType (λ z. type_4 keys ∷ type_4 values ∷ []) g (λ z. refl) (λ z. refl)
      (λ z. first_passes (type_4 values ∷ []) (within_4 keys 2 k) ∙ first_refuses [] No.BadType (above_4 values 2 l))

  pub types_refused : (2 < keys) ⊎ ((keys ≤ 2) × (2 < values)) → Performs (Calls.new_map keys values) t (made_is (Err No.BadType)) t
  types_refused (inl k) = keys-refused k
  types_refused (inr v) = values_refused v.0 v.1
