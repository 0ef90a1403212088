-- Calls that change one object. Assumes nothing.
use Prim.Native.Nat.{ℕ, ◌-◌}
use mathlib.Core.Path.{◌≡◌, refl, sym, ◌∙◌}
use mathlib.Core.Bool.{true}
use mathlib.Core.Option.{Option, none, some}
use native.Mathlib.Omega.{arith}
use Rattle.account.specs.Account.{charged, fits}
use Rattle.heap_slots.proofs.Cases.{by_cases, same_or_not}
use Rattle.heap_slots.specs.declared.Scalars.{Scalars}
use Rattle.heap_cells.specs.Regions.{RawSlot}
use Rattle.history.proofs.Judging.{fits_so, no-cells-added, says_none}
use Rattle.history.proofs.Lift.{seen, step-stores}
use Rattle.layout.specs.Layout.{Layout}
use Rattle.map_store.specs.Store.{Room}
use Rattle.model.specs.Content.{Content, cells_of}
use Rattle.model.specs.Calls.{Call, change, effect}
use Rattle.model.specs.Replies.{Lent, Reply, reply}
use Rattle.model.specs.Model.{view_of}
use Rattle.model.specs.Refusals.{added, added_to, budget, cell_less, first, slotless}
use Rattle.model.specs.Terms.{terms}
use Rattle.model.specs.Step.{paid}
use Rattle.heap.specs.Kinds.{content_of, room_of}
use Rattle.heap.specs.State.{State, model_of, more_of, raw_of}
use Rattle.heap.specs.Good.{Good, SlotGood}
use Rattle.heap.specs.Promise.{Does}
use Rattle.heap.proofs.KindLaws.{cells_of_content}
use Rattle.heap.proofs.SlotLaws.{raw-length}
use Rattle.heap.proofs.ReachLaws.{Reached, reached-look, reached-room}
use Rattle.heap.proofs.DoesLaws.{cells_left}
use Rattle.heap.proofs.TouchLaws.{Touched, touched_good, touched_model}

-- from the state b to the state a, slot i's contents were changed by p and its room by q
pub record Stored (b a : State) (i : ℕ) (p : Content → Content) (q : Content → Room → Room) : Type 0 where
  pub touched : Touched b a i
  pub slot-good : SlotGood (raw_of a i) (more_of a i)
  pub content : content_of (raw_of a i) (more_of a i) ≡ p (content_of (raw_of b i) (more_of b i))
  pub room : room_of (raw_of a i) ≡ q (content_of (raw_of b i) (more_of b i)) (room_of (raw_of b i))

-- from what slot i holds after it
pub stored : {b a : State} {i : ℕ} {p : Content → Content} {q : Content → Room → Room} {r : RawSlot} {x : Scalars} → Touched b a i → raw_of a i ≡ r → more_of a i ≡ x → SlotGood r x →
    content_of r x ≡ p (content_of (raw_of b i) (more_of b i)) → room_of r ≡ q (content_of (raw_of b i) (more_of b i)) (room_of (raw_of b i)) → Stored b a i p q
stored c er ex g h k = record { touched = c; slot-good = rw (er, ex) g; content = rw (er, ex) h; room = rw er k }

-- the cells that a change adds
pub added-change : (l : Layout) {t : State} {w i : ℕ} → Good t → Reached t w i → (p : Content → Content) (q : Content → Room → Room) →
    added (model_of l t) (change w p q) ≡ cells_of (p (content_of (raw_of t i) (more_of t i))) (q (content_of (raw_of t i) (more_of t i)) (room_of (raw_of t i))) - (raw_of t i).size
unfolding added added_to
added-change l {t} {w} {i} g o p q =
    rw (reached-look o l, reached-room o l, cells_of_content (raw_of t i) (more_of t i) (g.each i o.within) (raw-length g.laid i o.within) o.present)

module _ (l : Layout) {b a : State} {w i : ℕ} {p : Content → Content} {q : Content → Room → Room} (g : Good b) (o : Reached b w i) (s : Stored b a i p q) where
  -- the cells after it fit, so 7 is not met
  stored_cells : cell_less (model_of l b) (added (model_of l b) (change w p q)) ≡ 0
  stored_cells =
      let present : (raw_of a i).kind ≡ 0 → ⊥ = λ e. o.present (sym s.touched.kind ∙ e) in
      let after = cells_of_content (raw_of a i) (more_of a i) s.slot-good (raw-length s.touched.laid i o.within) present in
      let n : added (model_of l b) (change w p q) ≡ (raw_of a i).size - (raw_of b i).size = added-change l g o p q ∙ rw (← s.content, ← s.room, after) in
      rw n
      (by_cases (same_or_not ((raw_of a i).size - (raw_of b i).size) 0)
      (λ e. no-cells-added (model_of l b) ((raw_of a i).size - (raw_of b i).size) e)
      (λ ne. cells_left l g ((raw_of a i).size - (raw_of b i).size) (omega (arith, s.touched.taken, s.touched.cells_fit))))

  pub does_stored : (k : Call) {ch : Option ℕ} {r : Reply} {x : Lent} → effect (view_of (model_of l b)) k ≡ change w p q → (terms (model_of l b) k).charge ≡ ch → budget b.heap.account ch ≡ 0 →
      a.heap.account ≡ paid b.heap.account ch → first (terms (model_of l b) k).refusals ≡ 0 → (terms (model_of l b) k).lent_after ≡ x → (terms (model_of l b) k).answer ≡ r →
      Does l k b record { refusal = 0; answer = reply r; lent = x } a
  unfolding seen slotless model_of
  does_stored k e c f account h x r =
      let m = model_of l b in
      let t = step-stores m k w p q (says_none m (terms m k) (effect (view_of m) k) h (rw c f) (rw e) (rw e stored_cells)) e in
      record {
        shows = rw (t, x, r);
        next = touched_model o s.touched p q s.content s.room l ∙ rw (t, account, c);
        good = touched_good g o.within s.touched s.slot-good;
        kept = λ z. absurd (z refl);
      }

  -- a store that makes no charge
  pub does_stored_free : (k : Call) {r : Reply} {x : Lent} → effect (view_of (model_of l b)) k ≡ change w p q → (terms (model_of l b) k).charge ≡ none → a.heap.account ≡ b.heap.account →
      first (terms (model_of l b) k).refusals ≡ 0 → (terms (model_of l b) k).lent_after ≡ x → (terms (model_of l b) k).answer ≡ r → Does l k b record { refusal = 0; answer = reply r; lent = x } a
  unfolding budget paid
  does_stored_free k e c account h x r = does_stored k e c refl account h x r

  -- one that charges n bytes, perhaps 0
  pub does_stored_charged : (k : Call) {n : ℕ} {r : Reply} {x : Lent} → effect (view_of (model_of l b)) k ≡ change w p q → (terms (model_of l b) k).charge ≡ some n → fits b.heap.account n ≡ true →
      a.heap.account ≡ charged b.heap.account n → first (terms (model_of l b) k).refusals ≡ 0 → (terms (model_of l b) k).lent_after ≡ x → (terms (model_of l b) k).answer ≡ r →
      Does l k b record { refusal = 0; answer = reply r; lent = x } a
  unfolding paid
  does_stored_charged k {n} e c f account h x r = does_stored k e c (fits_so b.heap.account n f) account h x r
