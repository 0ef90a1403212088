-- The text of a line's parts. Assumes nothing.
use Prim.Native.Nat.{ℕ, ◌+◌, ◌*◌, ◌≤◌, ◌<◌}
use mathlib.Core.Path.{◌≡◌, refl, sym, ap, ◌∙◌}
use mathlib.Core.List.{List, [], ◌∷◌, ◌++◌, append_assoc, append-nil}
use native.Mathlib.Omega.{arith}
use native.Mathlib.Numerals.{add-one}
use lib.ListN.{length, get_or, take, drop, length-append, length-take, drop_of_length-le}
use lib.Seq.{drop-cons}
use Rattle.model.specs.Callsheet.{digits}
use Rattle.answers.specs.declared.Shown.{Shown}
use Rattle.text.specs.Writes.{Writes}
use Rattle.text.specs.declared.Writer.{Writer}
use Rattle.text.specs.Lines.{line_head}
use Rattle.text.proofs.DigitsLaws.{length_digits, decimal_most}
use Rattle.text.proofs.WritesLaws.{writes-append, writes-none, writes-same}
use Rattle.script.specs.declared.lines.FieldForm.{FieldForm}
use Rattle.script.specs.declared.lines.FieldForm.TheVariants.{Absent, Decimal, Hexadecimal}
use Rattle.script.specs.declared.lines.Forms.{Forms}
use Rattle.script.specs.Lines.{buffer_text, extra_text, field_text, forms_of, hex_text, lent_text, line_text, list_text}
use Rattle.commands.specs.declared.Form.{Form}
use Rattle.commands.specs.declared.Memory.{Memory}
use Rattle.commands.specs.declared.Memory.TheVariants.{Own, Buffer, Places, Roots}

pub length-field : (form : FieldForm) (w : ℕ) → length (field_text form w) ≤ 21
unfolding field_text
length-field Absent w = omega arith
length-field Decimal w = omega (arith, decimal_most w)
length-field Hexadecimal w = omega (arith, length_digits 16 16 w)

pub length_extra : (f : Forms) (s : Shown) → length (extra_text f s) ≤ 105
unfolding extra_text
length_extra f s = simp length-append (omega (arith, length-field f.x s.x, length-field f.y s.y, length-field f.z s.z, length-field f.u s.u, length-field f.v s.v))

pub length-list : (ws : List ℕ) → length (list_text ws) ≡ 17 * length ws
unfolding list_text
length-list [] = refl
length-list (w ∷ ws) = omega (arith, length-append (32 ∷ digits 16 16 w) (list_text ws), length_digits 16 16 w, length-list ws)

pub length_hex : (ns : List ℕ) → length (hex_text ns) ≡ 2 * length ns
unfolding hex_text
length_hex [] = refl
length_hex (n ∷ ns) = omega (arith, length-append (digits 16 2 n) (hex_text ns), length_digits 16 2 n, length_hex ns)

-- ---- items one after the other: those that stand and those left come to the whole

pub record Listing (items : List ℕ → List ℕ) (ws : List ℕ) (a b : Writer) (i : ℕ) : Type 0 where
  pub done : List ℕ
  pub whole : done ++ items (drop i ws) ≡ items ws
  pub writes : Writes done a b
  pub inside : i ≤ length ws

pub listing_start : (items : List ℕ → List ℕ) (ws : List ℕ) (a : Writer) → Listing items ws a a 0
listing_start items ws a = record { done = []; whole = refl; writes = writes-none; inside = omega arith }

module _ {items : List ℕ → List ℕ} {ws : List ℕ} {a b : Writer} {i : ℕ} (g : Listing items ws a b i) where
  pub listing-size : length b.out.now ≡ length a.out.now
  listing-size = g.writes.puts.size

  -- what is put so far and what is left have the length of the whole
  pub listing-room : (step : ℕ) → ((l : List ℕ) → length (items l) ≡ step * length l) → b.end + length (items (drop i ws)) ≡ a.end + length (items ws)
  listing-room step f = omega (arith, g.writes.puts.ends, length-append g.done (items (drop i ws)), ap length g.whole)

  pub listing_step : (item : List ℕ) {d : Writer} → i < length ws → items (drop i ws) ≡ item ++ items (drop (i + 1) ws) → Writes item b d → Listing items ws a d (i + 1)
  listing_step item h f p = record {
    done = g.done ++ item;
    whole = append_assoc g.done item (items (drop (i + 1) ws)) ∙ rw (← f) g.whole;
    writes = writes-append g.writes p;
    inside = omega arith;
  }

  pub listing-end : items [] ≡ [] → length ws ≤ i → Writes (items ws) a b
  listing-end z h =
      let d : drop i ws ≡ [] = drop_of_length-le ws h in
      writes-same (sym (append-nil g.done) ∙ rw (← z, ← d) g.whole) g.writes

module _ (ws : List ℕ) (i : ℕ) (h : i < length ws) where
  pub list-next : list_text (drop i ws) ≡ (32 ∷ digits 16 16 (get_or ws i 0)) ++ list_text (drop (i + 1) ws)
  unfolding list_text
  list-next = rw (drop-cons ws i 0 h, add-one i)

  pub hex_next : hex_text (drop i ws) ≡ digits 16 2 (get_or ws i 0) ++ hex_text (drop (i + 1) ws)
  unfolding hex_text
  hex_next = rw (drop-cons ws i 0 h, add-one i)

pub list-none : list_text [] ≡ []
unfolding list_text
list-none = refl

pub hex_none : hex_text [] ≡ []
unfolding hex_text
hex_none = refl

-- ---- the buffer

module _ {a b d : Writer} (p : Writes (32 ∷ []) a b) where
  pub buffer-none : (ns : List ℕ) → length ns ≡ 0 → Writes (45 ∷ []) b d → Writes (buffer_text ns) a d
  unfolding buffer_text
  buffer-none [] e q = writes-append p q
  buffer-none (n ∷ ns) e q = absurd (omega arith)

  pub buffer-some : (ns : List ℕ) → (length ns ≡ 0 → ⊥) → Writes (hex_text ns) b d → Writes (buffer_text ns) a d
  unfolding buffer_text
  buffer-some [] e q = absurd (e refl)
  buffer-some (n ∷ ns) e q = writes-append p q

-- ---- the whole line

most : (x : ℕ) (ws : List ℕ) → length (take x ws) ≤ length ws
most x ws = omega (arith, length-take x ws)

length-buffer : (k : ℕ) (ns : List ℕ) → 2 + 2 * length ns ≤ k → length (buffer_text ns) ≤ k
unfolding buffer_text
length-buffer k [] l = omega arith
length-buffer k (m ∷ ms) l = omega (arith, length_hex (m ∷ ms))

pub length-lent : (e : Memory) (s : Shown) (places bytes : List ℕ) (k : ℕ) → 17 * length places ≤ k → 2 + 2 * length bytes ≤ k → length (lent_text e s places bytes) ≤ k
unfolding lent_text
length-lent Own s places bytes k a b = omega arith
length-lent Buffer s places bytes k a b = length-buffer k bytes b
length-lent Places s places bytes k a b = omega (arith, length-list places)
length-lent Roots s places bytes k a b = omega (arith, length-list (take s.x places), most s.x places)

pub writes-shown : (n : ℕ) (f : Form) (e : Memory) (used : ℕ) (places bytes : List ℕ) {s t : Shown} {g : Forms} {a₁ a₂ a₃ a₄ a₅ : Writer} → s ≡ t → Writes (line_head (digits 16 2 n) s.refusal s.word used) a₁ a₂ → g ≡ forms_of f s.refusal s.x →
    Writes (extra_text g s) a₂ a₃ → Writes (lent_text e s places bytes) a₃ a₄ → Writes (10 ∷ []) a₄ a₅ → Writes (line_text n f e t used places bytes) a₁ a₅
unfolding line_text
writes-shown n f e used places bytes q p z x y w = rw (← q) (writes-append p (writes-append (rw z at x) (writes-append y w)))
