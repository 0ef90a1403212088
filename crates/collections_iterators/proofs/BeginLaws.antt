-- New iterators. Assumes nothing.
use Rattle.std.proofs.Common.{Result, Ok, Err}
use Prim.Native.Nat.{ℕ, ◌+◌}
use mathlib.Core.Path.{◌≡◌, refl, ap, sym, ◌∙◌}
use mathlib.Core.Bool.{Bool, false, ◌||◌}
use mathlib.Core.List.{[], ◌∷◌}
use mathlib.Core.Option.{none, some}
use native.Mathlib.Omega.{arith}
use lib.Dec.{eqb}
use Rattle.account.specs.AccountLaws.{saturated-below}
use Rattle.heap_slots.specs.Header.{header_at, scalars_at, with_region}
use Rattle.heap_slots.specs.Kinds.{ITERATOR}
use Rattle.heap_slots.specs.Limits.{HALF}
use Rattle.heap_slots.specs.Lookup.{Finds}
use Rattle.heap_slots.specs.declared.Miss.{Miss}
use Rattle.heap_slots.specs.declared.Miss.TheVariants as F
use Rattle.heap_slots.specs.declared.Header.{Header}
use Rattle.heap_slots.specs.Scalars.{map_part}
use Rattle.heap_slots.specs.declared.MapScalars.{MapScalars}
use Rattle.heap_slots.specs.declared.Scalars.{Scalars}
use Rattle.heap_cells.specs.Regions.{raw_at}
use Rattle.history.proofs.Facts.{eqb_no}
use Rattle.layout.specs.Layout.{Layout}
use Rattle.model.specs.Calls as Calls
use Rattle.model.specs.Calls.{effect, no_room}
use Rattle.model.specs.Content.{Content, array, box, bytes_of, cell, cells_of, closure, coroutine, error, integer, iterator, map_object, row, string, struct}
use Rattle.model.specs.View.{look}
use Rattle.model.specs.Model.{view_of}
use Rattle.model.specs.Refusals.{target, unless}
use Rattle.model.specs.Rules.{key_type_of, start_cursor}
use Rattle.model.specs.Terms.{iterable, terms}
use Rattle.heap.specs.declared.Refusal.{Refusal}
use Rattle.heap.specs.declared.Refusal.TheVariants as No
use Rattle.heap.specs.Answers.{made_is, missing, number_of}
use Rattle.heap.specs.Kinds.{content_of}
use Rattle.heap.specs.State.{State, model_of, more_of, raw_of}
use Rattle.heap.specs.Good.{Good}
use Rattle.heap.specs.Promise.{Performs}
use Rattle.heap.specs.Placing.{Object, new_raw}
use Rattle.heap.proofs.DoesLaws.{first_none, first_passes, first_refuses}
use Rattle.heap.proofs.KindLaws.{content-array, content-iterator, content-map, iterable_test, room-none, row_of_content}
use Rattle.heap.proofs.ReachLaws.{dead-look, dead-target, found-reached, nil-look, nil-target, reached-look, reached-target, wrong_look, wrong_target}
use Rattle.heap_allocation.specs.Making.{headerOf}
use Rattle.heap_allocation.proofs.MakeLaws.{Means, makes, refused-own, scalars_performs}
use Rattle.collections_iterators.specs.Beginning.{Begins, unbegun}
use Rattle.collections_iterators.proofs.VisitLaws.{iterator-good}

abbrev new_iterator : ℕ → ℕ → Content
new_iterator source keys = iterator record { source = source; key_type = keys; ended = false; key = none; cursor = start_cursor }

pub iterator-object : {h : Header} {x : Scalars} (source keys : ℕ) → h ≡ headerOf ITERATOR source keys 0 0 → x ≡ unbegun → Object (with_region h 0 0 0) [] x
iterator-object source keys e ex = rw (e, ex) record { some_kind = λ z. absurd (omega (arith, z)); fit = iterator-good (omega arith) (omega arith) refl refl (omega arith) }

iterator_means : (source keys : ℕ) → Means (headerOf ITERATOR source keys 0 0) [] unbegun (new_iterator source keys) no_room
iterator_means source keys = record {
  object = iterator-object source keys refl refl;
  content = content-iterator (new_raw HALF (headerOf ITERATOR source keys 0 0) []) unbegun refl;
  room = room-none (new_raw HALF (headerOf ITERATOR source keys 0 0) []) (λ z. absurd (omega (arith, z))) (λ z. absurd (omega (arith, z)));
}

-- only a map has a type of keys
no_keys : (c : Content) → (row c ≡ 7 → ⊥) → key_type_of (some c) ≡ 0
unfolding key_type_of row
no_keys (string a) z = refl
no_keys (integer a) z = refl
no_keys (cell a) z = refl
no_keys (error a) z = refl
no_keys (box a) z = refl
no_keys (array a) z = refl
no_keys (map_object a) z = absurd (z refl)
no_keys (struct a) z = refl
no_keys (closure a) z = refl
no_keys (iterator a) z = refl
no_keys (coroutine a) z = refl

module _ {t : State} (g : Good t) {source : ℕ} where
  -- what it goes over gives the type of its keys, and passes
  iterator-made : (keys : ℕ) {r : Result ℕ Refusal} {a : State} → ((l : Layout) → key_type_of (look (view_of (model_of l t)) source) ≡ keys) → ((l : Layout) → target (view_of (model_of l t)) iterable source ≡ 0) → Begins t source keys r a →
      Performs (Calls.new_iter source) t (made_is r) a
  unfolding effect terms bytes_of cells_of
  iterator-made keys k p d =
      let a = g.weights.slot in
      let b = g.weights.iterator in
      scalars_performs unbegun g
      (makes {c = new_iterator source keys} {s = no_room} (λ l. target (view_of (model_of l t)) iterable source ∷ []) (λ l. rw (k l)) (λ l. refl) (λ l. first_passes [] (p l) ∙ first_none))
      (sym (saturated-below (t.heap.weights.slot + t.heap.weights.iterator) (omega arith))) refl
      (iterator_means source keys)
      d

  iterator-refused : (q : Refusal) (keys : ℕ) → ((l : Layout) → key_type_of (look (view_of (model_of l t)) source) ≡ keys) → ((l : Layout) → target (view_of (model_of l t)) iterable source ≡ number_of q) →
      Performs (Calls.new_iter source) t (made_is (Err q)) t
  unfolding effect terms
  iterator-refused q keys k p = refused-own {c = new_iterator source keys} {s = no_room} q (λ l. target (view_of (model_of l t)) iterable source ∷ []) g (λ l. rw (k l)) (λ l. refl) (λ l. first_refuses [] q (p l))

  module _ {f : Result ℕ Miss} (d : Finds t.slots t.heap.fresh source f) where
    missed_by : (m : Miss) → f ≡ Err m → Performs (Calls.new_iter source) t (made_is (Err (missing m))) t
    unfolding key_type_of number_of missing
    missed_by F.Nil e = iterator-refused No.NilTarget 0 (λ l. rw (nil-look l g d e)) (λ l. nil-target l g d e iterable)
    missed_by F.Dead e = iterator-refused No.DeadReference 0 (λ l. rw (dead-look l g d e)) (λ l. dead-target l g d e iterable)
    missed_by F.Wrong e = iterator-refused No.OtherKind 0 (λ l. rw (wrong_look l g d e)) (λ l. wrong_target l g d e iterable)

    pub iterates_missed : {m : Miss} → f ≡ Err m → Performs (Calls.new_iter source) t (made_is (Err (missing m))) t
    iterates_missed e = missed_by _ e

    module _ {j : ℕ} {h : Header} (e : f ≡ Ok j) (eh : h ≡ header_at t.slots j) where
      row_is : row (content_of (raw_of t j) (more_of t j)) ≡ h.kind
      unfolding raw_at
      row_is =
          let o = found-reached g d e in
          rw eh (row_of_content (raw_of t j) (more_of t j) (omega (arith, o.present)) (g.each j o.within).kind)

      source_test : (l : Layout) → target (view_of (model_of l t)) iterable source ≡ unless (eqb h.kind 6 || eqb h.kind 7) 2
      unfolding raw_at
      source_test l =
          let o = found-reached g d e in
          reached-target o l iterable ∙ rw eh (ap (λ (b : Bool). unless b 2) (iterable_test (raw_of t j) (more_of t j) (omega (arith, o.present)) (g.each j o.within).kind))

      pub iterates_array : {r : Result ℕ Refusal} {a : State} → h.kind ≡ 6 → Begins t source 0 r a → Performs (Calls.new_iter source) t (made_is r) a
      unfolding key_type_of unless raw_at
      iterates_array k v =
          let o = found-reached g d e in
          iterator-made 0 (λ l. rw (reached-look o l, content-array (raw_of t j) (more_of t j) (rw (← eh) k))) (λ l. source_test l ∙ rw k) v

      pub iterates_map : {x : MapScalars} {r : Result ℕ Refusal} {a : State} → h.kind ≡ 7 → x ≡ map_part (scalars_at t.scalars j) → Begins t source x.keys r a → Performs (Calls.new_iter source) t (made_is r) a
      unfolding key_type_of unless raw_at
      iterates_map {x} k ex v =
          let o = found-reached g d e in
          iterator-made x.keys (λ l. rw (reached-look o l, content-map (raw_of t j) (more_of t j) (rw (← eh) k), ex)) (λ l. source_test l ∙ rw k) v

      pub iterates_else : (h.kind ≡ 6 → ⊥) → (h.kind ≡ 7 → ⊥) → Performs (Calls.new_iter source) t (made_is (Err No.OtherKind)) t
      unfolding unless number_of
      iterates_else a b =
          let o = found-reached g d e in
          iterator-refused No.OtherKind 0 (λ l. rw (reached-look o l) (no_keys (content_of (raw_of t j) (more_of t j)) (λ z. b (sym row_is ∙ z)))) (λ l. source_test l ∙ rw (eqb_no h.kind 6 a, eqb_no h.kind 7 b))
