-- Demand 3 of every list of calls that a caller makes of the library, from an accepted opening on.
use Rattle.std.proofs.Common.{Result, Ok, Err}
use Prim.Native.Nat.{ℕ}
use mathlib.Core.Path.{◌≡◌, ap, refl, subst, sym, ◌∙◌}
use mathlib.Core.Bool.{Bool, true, false}
use mathlib.Core.List.{List, [], ◌∷◌}
use mathlib.Core.Option.{some}
use native.Mathlib.Omega.{arith}
use Rattle.layout.specs.Layout.{Layout}
use Rattle.layout.specs.Sections.{layout_of}
use Rattle.model.specs.Calls.{Call}
use Rattle.model.specs.Opening.{Opening, open_heap}
use Rattle.model.specs.Step.{step}
use Rattle.model.specs.Demand3.{Seen}
use Rattle.history.proofs.Lift.{call, seen, start}
use Rattle.heap.specs.State.{State, model_of, with_heap}
use Rattle.heap.specs.Promise.{Does}
use Rattle.heap.specs.declared.Heap.{Heap}
use Rattle.heap.specs.declared.Refusal.{Refusal}
use Rattle.heap.specs.declared.Refusal.TheVariants.{BadOpening}
use Rattle.heap.specs.Opens.{Beside, accepts, opened_by}
use Rattle.heap.proofs.WholeLaws.{Made, heap-demand_3, heap_shut_out}
use Rattle.answers.specs.declared.Shown.{Shown}
use Rattle.answers.specs.Promise.{ShowsCall}
use Rattle.answers.proofs.ShownLaws.{shown-refusal}
use Rattle.heap_record.specs.Record.{OpensWords, loaded, opened_in}
use Rattle.capi.specs.Session.{AllShow, LibraryDemand3, Session, Sight, and_then, by_list, by_words, in_list, in_words, no_call, show_next, show_none}

-- a call's outcome, by what was shown of it
outcome : (l : Layout) (k : Call) (b a : State) (s : Shown) → ShowsCall l k b s a → Does l k b (seen (step (model_of l b) k)) a
outcome l k b a s d = record {
  shows = refl;
  next = d.next;
  good = d.good;
  kept = λ n. d.kept (λ z. n (sym (shown-refusal (seen (step (model_of l b) k))) ∙ (ap (λ (x : Shown). x.refusal) (sym d.shown) ∙ z)));
}

record Outcomes (l : Layout) (b : State) (ks : List Call) (xs : List Sight) (a : State) : Type 0 where
  outcomes : List Seen
  shown : AllShow outcomes xs
  made : Made l b ks outcomes a

module _ (l : Layout) where
  outcomes_of : {b a : State} {ks : List Call} {xs : List Sight} → Session l b ks xs a → Outcomes l b ks xs a
  unfolding seen
  outcomes_of no_call = record { outcomes = []; shown = show_none; made = start }
  outcomes_of (and_then {b = b} {c = c} {k = k} (by_words {s = s} d) h) =
      let r = outcomes_of h in
      record { outcomes = seen (step (model_of l b) k) ∷ r.outcomes; shown = show_next (in_words d.shown) r.shown; made = call (outcome l k b c s d) r.made }
  outcomes_of (and_then {b = b} {c = c} {k = k} (by_list {s = s} d) h) =
      let r = outcomes_of h in
      record { outcomes = seen (step (model_of l b) k) ∷ r.outcomes; shown = show_next (in_list d.call.shown d.lent) r.shown; made = call (outcome l k b c s d.call) r.made }

  pub library_demand_3 : (o : Opening) {b a : State} {ks : List Call} {xs : List Sight} → open_heap o ≡ some (model_of l b) → Session l b ks xs a → LibraryDemand3 l ks xs a
  library_demand_3 o e h =
      let r = outcomes_of h in
      record { outcomes = r.outcomes; shown = r.shown; demand = heap-demand_3 l o e r.made; shut_out = heap_shut_out l o e r.made }

-- the record that an accepted opening left is the new heap's
module _ {o : Opening} {t : State} {x y : Beside} {before after : List ℕ} (p : OpensWords o t x before 0 after y) where
  abbrev opened : State
  opened = with_heap t (loaded after)

  abbrev heap_of : Result Heap Refusal → Heap
  heap_of (Ok h) = h
  heap_of (Err q) = t.heap

  opened-model : open_heap o ≡ some (model_of (layout_of o.layout) opened)
  opened-model = go (accepts o t x) refl
    where
      answer : (b : Bool) → accepts o t x ≡ b → ◌≡◌ {A = Result Heap Refusal} (Ok (loaded after)) (opened_by b t.heap)
      answer b e =
          let h : ◌≡◌ {A = Result Heap Refusal} (Ok (loaded after)) (opened_by (accepts o t x) t.heap) = (unfold opened_in in p.opens.answer) in
          h ∙ ap (λ (c : Bool). opened_by c t.heap) e

      go : (b : Bool) → accepts o t x ≡ b → open_heap o ≡ some (model_of (layout_of o.layout) opened)
      go true e =
          let q : ◌≡◌ {A = Result Heap Refusal} (Ok (loaded after)) (Ok t.heap) = (unfold opened_by in answer true e) in
          let h : loaded after ≡ t.heap = ap heap_of q in
          subst (λ (g : Heap). open_heap o ≡ some (model_of (layout_of o.layout) (with_heap t g))) (sym h) (p.opens.accepted e).model
      go false e = let z : ◌≡◌ {A = Result Heap Refusal} (Ok (loaded after)) (Err BadOpening) = (unfold opened_by in answer false e) in let n : ◌≡◌ {A = ℕ} 0 1 = cc in absurd (omega arith)

  -- so demand 3 holds of every session that follows it
  pub since-opening : {a : State} {ks : List Call} {xs : List Sight} → Session (layout_of o.layout) opened ks xs a → LibraryDemand3 (layout_of o.layout) ks xs a
  since-opening h = library_demand_3 (layout_of o.layout) o opened-model h
