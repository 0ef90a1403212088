-- Operands read one after the other. Assumes nothing.
use Prim.Native.Nat.{ℕ, zero, suc, ◌+◌, ◌-◌, ◌*◌, ◌/◌, ◌≤◌, ◌<◌}
use mathlib.Core.Path.{◌≡◌, refl, sym, ap, ◌∙◌}
use mathlib.Core.Bool.{Bool, true, false, cond, ◌&&◌}
use mathlib.Core.List.{List, [], ◌∷◌, ◌++◌, append_assoc, append-nil}
use mathlib.Core.Option as maybe
use mathlib.Core.Option.{none, some}
use native.Mathlib.Omega.{arith}
use native.Mathlib.Numerals.{add-one}
use borrow.Author.Tests.{leb-true}
use lib.Dec.{leb}
use lib.ListN.{length, get_or, set, take, drop, length-append, length-drop, length-set, get_or-append, get_or-eq_default}
use Rattle.std.proofs.Math.Nat.{div-lt_iff_lt-mul, mul-div-le, mul-le-mul_left, mul_comm}
use lib.Seq.{drop-drop, get_or-append_seam, get_or-set_other, get_or-set_same, take-suc-set}
use Rattle.std.proofs.Common.{Option, None, Some}
use Rattle.history.proofs.Facts.{leb_yes, leb_no}
use Rattle.heap_slots.proofs.Cases.{by_cases, lt_or_le}
use Rattle.model.specs.Callsheet.{little_endian}
use Rattle.text.specs.Puts.{ReadsLittle}
use Rattle.script.specs.declared.Reader.{Reader}
use Rattle.script.specs.Parse.{Parsed, take_list, take_number, with_bytes, with_frames, with_number, with_words, words_in}
use Rattle.script.specs.Reads.{Fills, Holds, Takes, counted}

-- ---- words

words_more : (i : ℕ) (bs : List ℕ) → words_in (suc i) bs ≡ words_in i bs ++ (little_endian (take 8 (drop (8 * i) bs)) ∷ [])
unfolding words_in
words_more zero bs = refl
words_more (suc i) bs =
    let e : drop (8 * i) (drop 8 bs) ≡ drop (8 * suc i) bs = let z : 8 + 8 * i ≡ 8 * suc i = omega arith in drop-drop (8 * i) 8 bs ∙ rw z in
    ap (λ (l : List ℕ). little_endian (take 8 bs) ∷ l) (words_more i (drop 8 bs) ∙ rw e)

pub record Filling (bs ws : List ℕ) (filled i : ℕ) (ws' : List ℕ) : Type 0 where
  pub size : length ws' ≡ length ws
  pub words : take (filled + i) ws' ≡ take filled ws ++ words_in i bs

pub filling_start : (bs ws : List ℕ) (filled : ℕ) → Filling bs ws filled 0 ws
unfolding words_in
filling_start bs ws filled =
    let e : filled + 0 ≡ filled = omega arith in
    record { size = refl; words = rw (e, append-nil) }

pub filling_step : (input : List ℕ) {ws ws' : List ℕ} (from filled i x : ℕ) → Filling (drop from input) ws filled i ws' → filled + i < length ws → ReadsLittle input (from + 8 * i) 8 x → Filling (drop from input) ws filled (i + 1) (set ws' (filled + i) x)
filling_step input {ws} {ws'} from filled i x g h r =
    let e : filled + (i + 1) ≡ suc (filled + i) = omega arith in
    let d : x ≡ little_endian (take 8 (drop (8 * i) (drop from input))) = r.is ∙ ap (λ (l : List ℕ). little_endian (take 8 l)) (sym (drop-drop (8 * i) from input)) in
    record {
      size = length-set ws' (filled + i) x ∙ g.size;
      words =
          ap (λ (n : ℕ). take n (set ws' (filled + i) x)) e ∙ take-suc-set ws' (filled + i) x (omega (arith, g.size)) ∙ ap (λ (l : List ℕ). l ++ (x ∷ [])) g.words ∙ append_assoc (take filled ws) (words_in i (drop from input)) (x ∷ []) ∙
          ap (λ (l : List ℕ). take filled ws ++ l) (rw (add-one i, words_more i (drop from input), ← d));
    }

pub filling_end : {bs ws ws' : List ℕ} {filled i : ℕ} (n : ℕ) → Filling bs ws filled i ws' → i ≤ n → n ≤ i → Fills (words_in n bs) ws filled n ws' (filled + n)
filling_end {i = i} n g h k =
    let e : i ≡ n = omega arith in
    record { size = g.size; ends = refl; words = rw e at g.words }

-- ---- missing operands

module _ {input ns ws : List ℕ} {t : Reader} where
  takes_none : {reads : Parsed → maybe.Option Parsed} → ((p : Parsed) → Holds input ns ws t p → reads p ≡ none) → Takes reads input ns ws t ns ws None
  takes_none f = record { steps = tt; parses = λ p g. rw (f p g) }

  -- too few bytes, or too large a number
  pub number_short : (size most : ℕ) → length input - t.at < size → Takes (take_number size most) input ns ws t ns ws None
  unfolding take_number
  number_short size most h = takes_none (λ p g. let l : length p.rest < size = rw (← g.rest) (omega (arith, length-drop t.at input)) in rw (leb_no size (length p.rest) l))

  pub number-large : (size most : ℕ) {x : ℕ} → size ≤ length input - t.at → ReadsLittle input t.at size x → most < x → Takes (take_number size most) input ns ws t ns ws None
  unfolding take_number
  number-large size most {x} h q m =
      takes_none
      (λ p g.
      let l : size ≤ length p.rest = rw (← g.rest) (omega (arith, length-drop t.at input)) in
      let y : little_endian (take size p.rest) ≡ x = rw (← g.rest) (sym q.is) in
      rw (leb_yes size (length p.rest) l, y, leb_no x most m))

-- ---- a number

snoc_at : (ns ms : List ℕ) (n x : ℕ) → n ≡ length ms → n < length ns → ((i : ℕ) → get_or ns i 0 ≡ get_or ms i 0) → (i : ℕ) → get_or (set ns n x) i 0 ≡ get_or (ms ++ (x ∷ [])) i 0
snoc_at ns ms n x e h f i =
    by_cases (lt_or_le i n)
    (λ l. get_or-set_other ns n i x 0 (λ z. absurd (omega (arith, z))) ∙ f i ∙ sym (get_or-append ms (x ∷ []) 0 i (omega arith)))
    (λ l. by_cases (lt_or_le n i)
    (λ k. get_or-set_other ns n i x 0 (λ z. absurd (omega (arith, z))) ∙ f i ∙ get_or-eq_default ms 0 (omega arith) ∙ sym (get_or-eq_default (ms ++ (x ∷ [])) 0 (omega (arith, length-append ms (x ∷ [])))))
    (λ k.
    let z : i ≡ n = omega arith in
    rw z (get_or-set_same ns n x 0 h ∙ rw e (sym (get_or-append_seam ms x [] 0)))))

abbrev pub numbered : Reader → ℕ → Reader
numbered t size = record { at = t.at + size; count = t.count + 1; words = t.words; framed = t.framed; from = t.from; to = t.to }

pub number-taken : {input ns ws : List ℕ} {t : Reader} (size most : ℕ) {x : ℕ} → size ≤ length input - t.at → t.at ≤ length input → t.count < length ns → ReadsLittle input t.at size x → x ≤ most → Takes (take_number size most) input ns ws t (set ns t.count x) ws (Some (numbered t size))
unfolding take_number with_number
number-taken {input} {ns} {ws} {t} size most {x} h a b q m = record {
  steps = record {
    room = λ r. record { inside = omega arith; room = omega (arith, r.room); framed = r.framed; bytes = r.bytes; within = r.within };
    few = omega arith;
    onward = omega arith;
  };
  parses = λ p g.
      let l : size ≤ length p.rest = rw (← g.rest) (omega (arith, length-drop t.at input)) in
      let y : little_endian (take size p.rest) ≡ x = rw (← g.rest) (sym q.is) in
      rw (leb_yes size (length p.rest) l, y, leb_yes x most m) (
        numbered t size,
        refl,
        record {
          numbers = snoc_at ns p.numbers t.count x g.count b g.numbers;
          count = omega (arith, g.count, length-append p.numbers (x ∷ []));
          words = g.words;
          framed = g.framed;
          bytes = g.bytes;
          rest = rw (← g.rest) (sym (drop-drop size t.at input));
        },
      );
}

-- ---- counts

module _ (input : List ℕ) (at size : ℕ) where
  pub count_short : length input - at < 8 → None ≡ counted size (drop at input)
  unfolding counted
  count_short h = rw (leb_no 8 (length (drop at input)) (omega (arith, length-drop at input)))

  pub count_large : {n : ℕ} → 8 ≤ length input - at → 1 ≤ size → ReadsLittle input at 8 n → (length input - at - 8) / size < n → None ≡ counted size (drop at input)
  unfolding counted
  count_large {n} h l q m =
      let k : length (drop 8 (drop at input)) < size * n = omega (arith, length-drop 8 (drop at input), length-drop at input, (div-lt_iff_lt-mul l).0 m, mul_comm n size) in
      rw (leb_yes 8 (length (drop at input)) (omega (arith, length-drop at input)), ← q.is, leb_no (size * n) (length (drop 8 (drop at input))) k)

  pub count_taken : {n : ℕ} → 8 ≤ length input - at → 1 ≤ size → ReadsLittle input at 8 n → n ≤ (length input - at - 8) / size → Some n ≡ counted size (drop at input)
  unfolding counted
  count_taken {n} h l q m =
      let k : size * n ≤ length (drop 8 (drop at input)) = omega (arith, length-drop 8 (drop at input), length-drop at input, mul-div-le (length input - at - 8) size, mul-le-mul_left size m) in
      rw (leb_yes 8 (length (drop at input)) (omega (arith, length-drop at input)), ← q.is, leb_yes (size * n) (length (drop 8 (drop at input))) k)

pub record Counts (size n : ℕ) (bs : List ℕ) : Type 0 where
  pub long : 8 ≤ length bs
  pub room : size * n ≤ length (drop 8 bs)
  pub is : n ≡ little_endian (take 8 bs)

pub counts : (size : ℕ) (bs : List ℕ) {o : Option ℕ} {n : ℕ} → o ≡ counted size bs → o ≡ Some n → Counts size n bs
unfolding counted
counts size bs {n = n} e z = go (leb 8 (length bs)) (leb (size * little_endian (take 8 bs)) (length (drop 8 bs))) refl refl (sym z ∙ e)
  where
    go : (a b : Bool) → leb 8 (length bs) ≡ a → leb (size * little_endian (take 8 bs)) (length (drop 8 bs)) ≡ b → Some n ≡ cond (a && b) (Some (little_endian (take 8 bs))) None → Counts size n bs
    go true true x y q = let w : n ≡ little_endian (take 8 bs) = cc in record { long = leb-true 8 (length bs) x; room = rw w (leb-true (size * little_endian (take 8 bs)) (length (drop 8 bs)) y); is = w }
    go true false x y q = let w : ◌≡◌ {A = ℕ} 0 1 = cc in absurd (omega arith)
    go false b x y q = let w : ◌≡◌ {A = ℕ} 0 1 = cc in absurd (omega arith)

pub counts_inside : (size : ℕ) (input : List ℕ) (at : ℕ) {n : ℕ} → Counts size n (drop at input) → (8 ≤ length input - at) × (size * n ≤ length input - (at + 8))
counts_inside size input at k = (omega (arith, k.long, length-drop at input), omega (arith, k.room, length-drop 8 (drop at input), length-drop at input))

-- ---- lists

module _ {input ns ws : List ℕ} {t : Reader} where
  pub list_none : (size : ℕ) (more : ℕ → List ℕ → Parsed → Parsed) {o : Option ℕ} → o ≡ counted size (drop t.at input) → o ≡ None → Takes (take_list size more) input ns ws t ns ws None
  unfolding take_list counted
  list_none size more e z = takes_none (λ p g. rw (← g.rest) (go _ _ (leb 8 (length (drop t.at input))) (leb (size * little_endian (take 8 (drop t.at input))) (length (drop 8 (drop t.at input)))) (sym z ∙ e)))
    where
      go : (x : Parsed) (n : ℕ) (a b : Bool) → None ≡ cond (a && b) (Some n) None → cond a (cond b (some x) none) none ≡ none
      go x n true true q = let w : ◌≡◌ {A = ℕ} 0 1 = cc in absurd (omega arith)
      go x n true false q = refl
      go x n false b q = refl

module _ {input ns ws : List ℕ} {t : Reader} {n size : ℕ} (c : Counts size n (drop t.at input)) where
  -- what is read where the items are there
  listed : (more : ℕ → List ℕ → Parsed → Parsed) (p : Parsed) → Holds input ns ws t p → take_list size more p ≡ some (more n (drop (t.at + 8) input) p)
  unfolding take_list
  listed more p g =
      let d : drop 8 (drop t.at input) ≡ drop (t.at + 8) input = drop-drop 8 t.at input in
      rw (← g.rest, leb_yes 8 (length (drop t.at input)) c.long, ← c.is, leb_yes (size * n) (length (drop 8 (drop t.at input))) c.room, d)

module _ {input ns ws : List ℕ} {t : Reader} {n : ℕ} (inside : t.at ≤ length input) where
  pub words-taken : {ws' : List ℕ} {filled : ℕ} → Counts 8 n (drop t.at input) → Fills (words_in n (drop (t.at + 8) input)) ws t.words n ws' filled →
      Takes (take_list 8 with_words) input ns ws t ns ws' (Some record { at = t.at + 8 + 8 * n; count = t.count; words = filled; framed = t.framed; from = t.from; to = t.to })
  unfolding with_words
  words-taken {ws'} {filled} c f =
      let m = counts_inside 8 input t.at c in
      record {
        steps = record {
          room = λ r. record { inside = omega (arith, m.0, m.1); room = omega (arith, m.0, m.1, r.room, f.ends, f.size); framed = omega (arith, r.framed, f.ends); bytes = r.bytes; within = r.within };
          few = omega arith;
          onward = omega arith;
        };
        parses = λ p g. rw (listed c with_words p g) (
          _,
          refl,
          record {
            numbers = g.numbers;
            count = g.count;
            words = f.words ∙ rw g.words;
            framed = g.framed;
            bytes = g.bytes;
            rest = sym (drop-drop (8 * n) (t.at + 8) input);
          },
        );
      }

  pub frames-taken : {ws' : List ℕ} {filled : ℕ} → Counts 32 n (drop t.at input) → Fills (words_in (4 * n) (drop (t.at + 8) input)) ws t.words (4 * n) ws' filled →
      Takes (take_list 32 with_frames) input ns ws t ns ws' (Some record { at = t.at + 8 + 32 * n; count = t.count; words = filled; framed = t.framed + 4 * n; from = t.from; to = t.to })
  unfolding with_frames
  frames-taken {ws'} {filled} c f =
      let m = counts_inside 32 input t.at c in
      record {
        steps = record {
          room = λ r. record { inside = omega (arith, m.0, m.1); room = omega (arith, m.0, m.1, r.room, f.ends, f.size); framed = omega (arith, r.framed, f.ends); bytes = r.bytes; within = r.within };
          few = omega arith;
          onward = omega arith;
        };
        parses = λ p g. rw (listed c with_frames p g) (
          _,
          refl,
          record {
            numbers = g.numbers;
            count = g.count;
            words = f.words ∙ rw g.words;
            framed = rw g.framed;
            bytes = g.bytes;
            rest = sym (drop-drop (32 * n) (t.at + 8) input);
          },
        );
      }

  pub bytes-taken : Counts 1 n (drop t.at input) → Takes (take_list 1 with_bytes) input ns ws t ns ws (Some record { at = t.at + 8 + n; count = t.count; words = t.words; framed = t.framed; from = t.at + 8; to = t.at + 8 + n })
  unfolding with_bytes
  bytes-taken c =
      let m = counts_inside 1 input t.at c in
      let e : t.at + 8 + n - (t.at + 8) ≡ n = omega arith in
      record {
        steps = record {
          room = λ r. record { inside = omega (arith, m.0, m.1); room = omega (arith, m.0, m.1, r.room); framed = r.framed; bytes = omega arith; within = omega (arith, m.0, m.1) };
          few = omega arith;
          onward = omega arith;
        };
        parses = λ p g. rw (listed c with_bytes p g) (
          _,
          refl,
          record {
            numbers = g.numbers;
            count = g.count;
            words = g.words;
            framed = g.framed;
            bytes = rw e;
            rest = sym (drop-drop n (t.at + 8) input);
          },
        );
      }
