-- What a line shows of a call, and the sheet after it. Assumes nothing.
use Prim.Native.Nat.{ℕ, ◌+◌, ◌<◌}
use mathlib.Core.Path.{◌≡◌, refl, sym, ap, ◌∙◌}
use mathlib.Core.List.{List, [], ◌∷◌, ◌++◌}
use mathlib.Core.Bool.{cond}
use native.Mathlib.Omega.{arith}
use native.Mathlib.Numerals.{add-one}
use lib.Dec.{leb}
use lib.ListN.{length, set, take}
use lib.Seq.{take-suc-set}
use Rattle.std.proofs.Common.{Result, Ok, Err}
use Rattle.layout.specs.Layout.{Layout}
use Rattle.layout.specs.Sections.{layout_of}
use Rattle.layout.specs.declared.ReadLayout.{ReadLayout}
use Rattle.map_store.specs.Store as Store
use Rattle.words.specs.Word as Word
use Rattle.history.proofs.Facts.{leb_no}
use Rattle.history.proofs.Lift.{Seen}
use Rattle.history.proofs.Sizes.{step-size}
use Rattle.model.specs.Calls.{Call}
use Rattle.model.specs.Model.{Model}
use Rattle.model.specs.Callsheet.{answer_word, reply_word}
use Rattle.heap.specs.declared.Heap.{Heap}
use Rattle.heap.specs.declared.Refusal.{Refusal}
use Rattle.heap.specs.Answers.{made_is, reading_is, seen_by}
use Rattle.heap.specs.State.{model_of}
use Rattle.heap.specs.Promise.{Does, Performs}
use Rattle.collector.specs.declared.Collection.{Collection}
use Rattle.collector.specs.Answer.{collection_is}
use Rattle.sheet.specs.declared.state.Buffers.{Buffers}
use Rattle.sheet.specs.declared.state.Sheet.{Sheet}
use Rattle.sheet.specs.Whole.{Whole, held_in}
use Rattle.sheet.specs.Promise.{Shows, model_in, roots_in, shown_of, state_in}

shown-made : (a : Result ℕ Refusal) → shown_of (made_is a) ≡ shown_of (reading_is a)
unfolding seen_by answer_word reply_word
shown-made (Ok w) = refl
shown-made (Err q) = refl

-- ---- from what a call promises

-- a call keeps what holds of a sheet
pub whole_kept : {h h' : Heap} {b b' : Buffers} {count : ℕ} {k : Call} {x : Seen} (l : Layout) → Whole h b count → b'.marks ≡ b.marks → b'.order ≡ b.order → Does l k (held_in h b) x (held_in h' b') → Whole h' b' count
unfolding model_of
whole_kept {h} {h'} {b} {k = k} l w m o d =
    let size : h'.size ≡ h.size = ap (λ (y : Model). y.table.size) d.next ∙ step-size (model_of l (held_in h b)) k in
    record { good = d.good; rested = rw (size, m, o) w.rested; few = w.few }

pub whole_performed : {h h' : Heap} {b b' : Buffers} {count : ℕ} {k : Call} {x : Seen} → Whole h b count → b'.marks ≡ b.marks → b'.order ≡ b.order → Performs k (held_in h b) x (held_in h' b') → Whole h' b' count
whole_performed w m o p = let l : Layout = record { structs = []; functions = [] } in whole_kept l w m o (p l)

module _ {b a : Sheet} {k : Call} (l : a.layout ≡ b.layout) (s : roots_in a ≡ roots_in b) where
  shows-does : {x : Seen} {r : Result ℕ Refusal} → Does (layout_of b.layout.bytes.now) k (state_in b) x (state_in a) → shown_of x ≡ shown_of (reading_is r) → Shows k b r a
  shows-does d e =
      let held : model_in a ≡ model_of (layout_of b.layout.bytes.now) (state_in a) = ap (λ (y : ReadLayout). model_of (layout_of y.bytes.now) (state_in a)) l in
      record { shown = sym e ∙ ap shown_of d.shows; next = λ j. record { heap = (held ∙ d.next) j; roots = s j } }

  pub shows-reading : {r : Result ℕ Refusal} → Performs k (state_in b) (reading_is r) (state_in a) → Shows k b r a
  shows-reading p = shows-does (p (layout_of b.layout.bytes.now)) refl

  pub shows-made : {r : Result ℕ Refusal} → Performs k (state_in b) (made_is r) (state_in a) → Shows k b r a
  shows-made {r} p = shows-does (p (layout_of b.layout.bytes.now)) (shown-made r)

  pub shows-freed : {c : Collection} {r : Result Collection Refusal} (places : List ℕ) → r ≡ Ok c → Does (layout_of b.layout.bytes.now) k (state_in b) (collection_is r places) (state_in a) → Shows k b (Ok c.freed) a
  unfolding collection_is seen_by answer_word reply_word
  shows-freed places e d = shows-does (rw e at d) refl

  pub shows-short : {q : Refusal} {r : Result Collection Refusal} (places : List ℕ) → r ≡ Err q → Does (layout_of b.layout.bytes.now) k (state_in b) (collection_is r places) (state_in a) → Shows k b (Err q) a
  unfolding collection_is seen_by answer_word reply_word
  shows-short places e d = shows-does (rw e at d) refl

-- the same call by another name, and the same answer
pub shows_same : {k k' : Call} {b a : Sheet} {r : Result ℕ Refusal} → k ≡ k' → Shows k b r a → Shows k' b r a
shows_same e p = rw e at p

pub signed_same : (w : ℕ) → Word.signed_bits w ≡ Store.signed64 w
unfolding Word.signed_bits Store.signed64
signed_same w = refl

-- ---- roots

pub root-added : (roots : List ℕ) (count w : ℕ) → count < 64 → length roots ≡ 64 → take (count + 1) (set roots count w) ≡ cond (leb 64 count) (take count roots) (take count roots ++ (w ∷ []))
root-added roots count w h l = rw (leb_no 64 count h, add-one count) (take-suc-set roots count w (omega arith))
