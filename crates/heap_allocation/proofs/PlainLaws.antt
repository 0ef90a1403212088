-- Integers, cells, errors and boxes: objects without cells and scalars. Assumes nothing.
use Rattle.std.proofs.Common.{Result, Err}
use Rattle.heap.specs.declared.Refusal.{Refusal}
use Prim.Native.Nat.{ℕ, ◌+◌, ◌≤◌, ◌<◌}
use mathlib.Core.Path.{◌≡◌, refl, sym, ◌∙◌}
use mathlib.Core.List.{[], ◌∷◌}
use native.Mathlib.Omega.{arith}
use lib.IntN.{ℤ}
use mir.Syntax.{w64}
use mir.Val.{SFits}
use Rattle.heap_slots.specs.Limits.{HALF}
use Rattle.account.specs.Account.{saturated}
use Rattle.account.specs.AccountLaws.{saturated-below}
use Rattle.words.specs.Word.{bits_of_signed}
use Rattle.heap_slots.specs.Header.{with_region}
use Rattle.heap_slots.specs.declared.Header.{Header}
use Rattle.heap_slots.specs.declared.Scalars.{Scalars}
use Rattle.words.specs.WordLaws.{signed_bits_lem}
use Rattle.model.specs.Calls as Calls
use Rattle.model.specs.Calls.{Call, effect, no_room}
use Rattle.model.specs.Content.{Content, bytes_of, cells_of}
use Rattle.model.specs.Refusals.{type_4}
use Rattle.model.specs.Terms.{terms}
use Rattle.heap.specs.declared.Refusal.TheVariants as No
use Rattle.heap.specs.Answers.{made_is}
use Rattle.heap.specs.Kinds.{content_of}
use Rattle.heap.specs.State.{State}
use Rattle.heap.specs.Good.{Good}
use Rattle.heap.specs.Promise.{Performs}
use Rattle.heap.specs.Placing.{new_raw}
use Rattle.heap.proofs.GoodLaws.{good_plain}
use Rattle.heap.proofs.KindLaws.{content-box, content-cell, content-error, content-integer, room-none}
use Rattle.heap.proofs.DoesLaws.{first_none, first_passes, first_refuses}
use Rattle.heap_allocation.specs.Making.{MadePlain, Scalarless, headerOf}
use Rattle.heap_allocation.proofs.MakeLaws.{Makes, above_4, makes, plain_performs, ready_self, refused-own, within_4}

-- the charge is the slot weight alone
slot_weight : {t : State} → Good t → t.heap.weights.slot ≡ saturated (t.heap.weights.slot + 0)
slot_weight {t} g =
    let e : t.heap.weights.slot + 0 ≡ t.heap.weights.slot = omega arith in
    sym (rw e (saturated-below t.heap.weights.slot (omega (arith, g.weights.slot.1))))

-- one of the four, whatever its words are
pub four_object : {h : Header} (kind value mode : ℕ) → 2 ≤ kind → kind ≤ 5 → h ≡ headerOf kind value mode 0 0 → Scalarless (with_region h 0 0 0) []
four_object kind value mode lo hi h-is x =
    rw h-is
    record {
      some_kind = λ z. absurd (omega (arith, z));
      fit = good_plain lo hi (omega arith) (omega arith) refl;
    }

module _ {t a : State} {h : Header} {r : Result ℕ Refusal} (g : Good t) where
  four : {k : Call} {c : Content} (kind value mode : ℕ) → Makes t k c no_room → 2 ≤ kind → kind ≤ 5 → h ≡ headerOf kind value mode 0 0 →
      ((x : Scalars) → content_of (new_raw HALF (headerOf kind value mode 0 0) []) x ≡ c) → bytes_of t.heap.weights c no_room ≡ 0 → cells_of c no_room ≡ 0 →
      MadePlain t t h t.heap.weights.slot r a → Performs k t (made_is r) a
  four {c = c} kind value mode w lo hi h-is content bytes cells d =
      let d' : MadePlain t t (headerOf kind value mode 0 0) t.heap.weights.slot r a = rw h-is at d in
      plain_performs g w (rw bytes (slot_weight g)) cells (λ e. ready_self g e)
      (λ e. record { object = four_object kind value mode lo hi refl _; content = content _; room = room-none _ (λ z. absurd (omega (arith, z))) (λ z. absurd (omega (arith, z))) })
      d'

  pub integer-made : {z : ℤ} {v : ℕ} → SFits w64 z → v ≡ bits_of_signed z → h ≡ headerOf 2 v 0 0 0 → MadePlain t t h t.heap.weights.slot r a → Performs (Calls.new_integer z) t (made_is r) a
  unfolding effect terms bytes_of cells_of
  integer-made {z} {v} f v-is h-is d =
      four 2 v 0 (makes (λ l. []) (λ l. refl) (λ l. refl) (λ l. first_none)) (omega arith) (omega arith) h-is
      (λ x. content-integer (new_raw HALF (headerOf 2 v 0 0 0) []) x refl ∙ rw (v-is, signed_bits_lem z f)) refl refl d

  pub cell-made : {t' w : ℕ} → t' ≤ 2 → h ≡ headerOf 3 w t' 0 0 → MadePlain t t h t.heap.weights.slot r a → Performs (Calls.new_cell t' w) t (made_is r) a
  unfolding effect terms bytes_of cells_of
  cell-made {t'} {w} le h-is d =
      four 3 w t' (makes (λ l. type_4 t' ∷ []) (λ l. refl) (λ l. refl) (λ l. first_passes [] (within_4 t' 2 le) ∙ first_none)) (omega arith) (omega arith) h-is
      (λ x. content-cell (new_raw HALF (headerOf 3 w t' 0 0) []) x refl) refl refl d

  pub error-made : {kind w : ℕ} → h ≡ headerOf 4 w kind 0 0 → MadePlain t t h t.heap.weights.slot r a → Performs (Calls.new_error kind w) t (made_is r) a
  unfolding effect terms bytes_of cells_of
  error-made {kind} {w} h-is d =
      four 4 w kind (makes (λ l. []) (λ l. refl) (λ l. refl) (λ l. first_none)) (omega arith) (omega arith) h-is
      (λ x. content-error (new_raw HALF (headerOf 4 w kind 0 0) []) x refl) refl refl d

  pub box-made : {w : ℕ} → h ≡ headerOf 5 w 0 0 0 → MadePlain t t h t.heap.weights.slot r a → Performs (Calls.new_box w) t (made_is r) a
  unfolding effect terms bytes_of cells_of
  box-made {w} h-is d =
      four 5 w 0 (makes (λ l. []) (λ l. refl) (λ l. refl) (λ l. first_none)) (omega arith) (omega arith) h-is
      (λ x. content-box (new_raw HALF (headerOf 5 w 0 0 0) []) x refl) refl refl d

pub cell-refused : {t : State} → Good t → (t' w : ℕ) → 2 < t' → Performs (Calls.new_cell t' w) t (made_is (Err No.BadType)) t
unfolding effect terms
cell-refused g t' w lt = refused-own No.BadType (λ l. type_4 t' ∷ []) g (λ l. refl) (λ l. refl) (λ l. first_refuses [] No.BadType (above_4 t' 2 lt))
