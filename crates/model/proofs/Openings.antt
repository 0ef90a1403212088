-- An opening is accepted exactly if its sizes and weights lie in their ranges and its bytes spell a layout.
use Prim.Native.Nat.{ℕ, zero, suc, ◌+◌, ◌*◌, ◌≤◌, ◌<◌}
use mathlib.Core.Path.{◌≡◌, refl, sym, ◌∙◌, subst}
use mathlib.Core.Logic.{◌≢◌}
use mathlib.Core.Bool.{Bool, true, false, cond, ◌&&◌}
use mathlib.Core.List.{List, [], ◌∷◌}
use mathlib.Core.Option.{Option, none, some, some-injective}
use native.Mathlib.Omega.{arith}
use native.Mathlib.Decide.{ℕ_discrete, dec_lt, dec_le}
use lib.Dec.{leb}
use lib.ListN.{length}
use Rattle.layout.specs.Layout.{Layout, Reading, byte, command, proceed, reading, parse, when, with_capture, with_field, with_function, with_register, with_struct}
use Rattle.model.specs.Model.{Model}
use Rattle.model.specs.Refusals.{unless}
use Rattle.model.specs.Terms.{is_some}
use Rattle.model.specs.ShutOut.{OpeningsHold}
use Rattle.model.specs.Opening.{Opening, no_layout, open_heap, open_with, opened, opening_refusal, sizes_fit}
use Rattle.model.specs.Causes.{Openable, Spells, Within, capture, end, field, function, register, type}
use Rattle.model.proofs.Deciding.{eqb_no, ltb_yes, ltb_no, leb_yes, leb_no}

abbrev at : Layout → ℕ → Reading
at l under = record { layout = l; under = under; operands = 0; ended = false }

-- ---- what is spelled is read

two_there : (a b : ℕ) (bs : List ℕ) → leb 2 (length (a ∷ b ∷ bs)) ≡ true
two_there a b bs = leb_yes 2 (length (a ∷ b ∷ bs)) (omega arith)

one-there : (a : ℕ) (bs : List ℕ) → leb 1 (length (a ∷ bs)) ≡ true
one-there a bs = leb_yes 1 (length (a ∷ bs)) (omega arith)

spelled_read : {l r : Layout} {under : ℕ} {bs : List ℕ} → Spells l under bs r → reading (at l under) bs ≡ some r
unfolding reading byte command proceed when
spelled_read end = refl
spelled_read (type {l = l} n h) = rw (ltb_yes (length l.structs) 256 n) (spelled_read h)
spelled_read (field {a = a} {b = b} {bs = bs} h) = rw (two_there a b bs) (spelled_read h)
spelled_read (function {l = l} n h) = rw (ltb_yes (length l.functions) 256 n) (spelled_read h)
spelled_read (register {a = a} {b = b} {bs = bs} h) = rw (two_there a b bs) (spelled_read h)
spelled_read (capture {t = t} {bs = bs} n h) = rw (one-there t bs, leb_yes t 2 n) (spelled_read h)

-- ---- what is read is spelled

no-layout : {A : Type 0} {r : Layout} → ◌≡◌ {A = Option Layout} none (some r) → A
no-layout e = let z : ◌≡◌ {A = ℕ} 0 1 = cc in absurd (omega arith)

module _ (n : ℕ) (rest : (bs : List ℕ) (l r : Layout) (under : ℕ) → length bs ≤ n → reading (at l under) bs ≡ some r → Spells l under bs r) (l r : Layout) where
  at_0 : (under : ℕ) (cs : List ℕ) → reading (at l under) (0 ∷ cs) ≡ some r → Spells l under (0 ∷ cs) r
  unfolding reading byte command proceed
  at_0 under [] h = subst (λ (x : Layout). Spells l under (0 ∷ []) x) (some-injective _ _ h) end
  at_0 under (c ∷ cs) h = no-layout h

  at_1 : (under : ℕ) (cs : List ℕ) → length cs ≤ n → reading (at l under) (1 ∷ cs) ≡ some r → Spells l under (1 ∷ cs) r
  unfolding reading byte command proceed when
  at_1 under cs k h = go (dec_lt (length l.structs) 256)
    where
      go : Dec (length l.structs < 256) → Spells l under (1 ∷ cs) r
      go (yes f) = type f (rest cs (with_struct l) r 1 k (rw (ltb_yes (length l.structs) 256 f) at h))
      go (no f) = no-layout (rw (ltb_no (length l.structs) 256 (omega arith)) at h)

  at_2 : (cs : List ℕ) → length cs ≤ n → reading (at l 1) (2 ∷ cs) ≡ some r → Spells l 1 (2 ∷ cs) r
  unfolding reading byte command proceed when
  at_2 [] k h = no-layout h
  at_2 (a ∷ []) k h = no-layout h
  at_2 (a ∷ b ∷ bs) k h = field (rest bs (with_field (a + 256 * b) l) r 1 (omega arith) (rw (two_there a b bs) at h))

  at_3 : (under : ℕ) (cs : List ℕ) → length cs ≤ n → reading (at l under) (3 ∷ cs) ≡ some r → Spells l under (3 ∷ cs) r
  unfolding reading byte command proceed when
  at_3 under cs k h = go (dec_lt (length l.functions) 256)
    where
      go : Dec (length l.functions < 256) → Spells l under (3 ∷ cs) r
      go (yes f) = function f (rest cs (with_function l) r 3 k (rw (ltb_yes (length l.functions) 256 f) at h))
      go (no f) = no-layout (rw (ltb_no (length l.functions) 256 (omega arith)) at h)

  at_4 : (cs : List ℕ) → length cs ≤ n → reading (at l 3) (4 ∷ cs) ≡ some r → Spells l 3 (4 ∷ cs) r
  unfolding reading byte command proceed when
  at_4 [] k h = no-layout h
  at_4 (a ∷ []) k h = no-layout h
  at_4 (a ∷ b ∷ bs) k h = register (rest bs (with_register (a + 256 * b) l) r 3 (omega arith) (rw (two_there a b bs) at h))

  at_5 : (cs : List ℕ) → length cs ≤ n → reading (at l 3) (5 ∷ cs) ≡ some r → Spells l 3 (5 ∷ cs) r
  unfolding reading byte command proceed when
  at_5 [] k h = no-layout h
  at_5 (t ∷ bs) k h = go (dec_le t 2)
    where
      go : Dec (t ≤ 2) → Spells l 3 (5 ∷ t ∷ bs) r
      go (yes f) = capture f (rest bs (with_capture t l) r 3 (omega arith) (rw (one-there t bs, leb_yes t 2 f) at h))
      go (no f) = no-layout (rw (one-there t bs, leb_no t 2 (omega arith)) at h)

  -- a command that stands under another
  under-is : (u v c : ℕ) (cs : List ℕ) → (reading (at l v) (c ∷ cs) ≡ some r → Spells l v (c ∷ cs) r) → (u ≢ v → reading (at l u) (c ∷ cs) ≡ some r → Spells l u (c ∷ cs) r) →
      reading (at l u) (c ∷ cs) ≡ some r → Spells l u (c ∷ cs) r
  under-is u v c cs f g h = go (ℕ_discrete u v)
    where
      go : Dec (u ≡ v) → Spells l u (c ∷ cs) r
      go (yes e) = subst (λ (x : ℕ). reading (at l x) (c ∷ cs) ≡ some r → Spells l x (c ∷ cs) r) (sym e) f h
      go (no e) = g e h

  elsewhere_2 : (u : ℕ) (cs : List ℕ) → u ≢ 1 → reading (at l u) (2 ∷ cs) ≡ some r → Spells l u (2 ∷ cs) r
  unfolding reading byte command proceed when
  elsewhere_2 u cs e h = no-layout (rw (eqb_no u 1 e) at h)

  elsewhere_4 : (u : ℕ) (cs : List ℕ) → u ≢ 3 → reading (at l u) (4 ∷ cs) ≡ some r → Spells l u (4 ∷ cs) r
  unfolding reading byte command proceed when
  elsewhere_4 u cs e h = no-layout (rw (eqb_no u 3 e) at h)

  elsewhere_5 : (u : ℕ) (cs : List ℕ) → u ≢ 3 → reading (at l u) (5 ∷ cs) ≡ some r → Spells l u (5 ∷ cs) r
  unfolding reading byte command proceed when
  elsewhere_5 u cs e h = no-layout (rw (eqb_no u 3 e) at h)

  by-command : (u c : ℕ) (cs : List ℕ) → length cs ≤ n → reading (at l u) (c ∷ cs) ≡ some r → Spells l u (c ∷ cs) r
  unfolding reading byte command proceed
  by-command u c cs k h = go_0 (ℕ_discrete c 0)
    where
      named : (d : ℕ) → c ≡ d → (reading (at l u) (d ∷ cs) ≡ some r → Spells l u (d ∷ cs) r) → Spells l u (c ∷ cs) r
      named d e f = subst (λ (x : ℕ). reading (at l u) (x ∷ cs) ≡ some r → Spells l u (x ∷ cs) r) (sym e) f h

      go_5 : c ≢ 0 → c ≢ 1 → c ≢ 2 → c ≢ 3 → c ≢ 4 → Dec (c ≡ 5) → Spells l u (c ∷ cs) r
      go_5 a0 a1 a2 a3 a4 (yes e) = named 5 e (under-is u 3 5 cs (at_5 cs k) (elsewhere_5 u cs))
      go_5 a0 a1 a2 a3 a4 (no e) = no-layout (rw (eqb_no c 0 a0, eqb_no c 1 a1, eqb_no c 2 a2, eqb_no c 3 a3, eqb_no c 4 a4, eqb_no c 5 e) at h)

      go_4 : c ≢ 0 → c ≢ 1 → c ≢ 2 → c ≢ 3 → Dec (c ≡ 4) → Spells l u (c ∷ cs) r
      go_4 a0 a1 a2 a3 (yes e) = named 4 e (under-is u 3 4 cs (at_4 cs k) (elsewhere_4 u cs))
      go_4 a0 a1 a2 a3 (no e) = go_5 a0 a1 a2 a3 e (ℕ_discrete c 5)

      go_3 : c ≢ 0 → c ≢ 1 → c ≢ 2 → Dec (c ≡ 3) → Spells l u (c ∷ cs) r
      go_3 a0 a1 a2 (yes e) = named 3 e (at_3 u cs k)
      go_3 a0 a1 a2 (no e) = go_4 a0 a1 a2 e (ℕ_discrete c 4)

      go_2 : c ≢ 0 → c ≢ 1 → Dec (c ≡ 2) → Spells l u (c ∷ cs) r
      go_2 a0 a1 (yes e) = named 2 e (under-is u 1 2 cs (at_2 cs k) (elsewhere_2 u cs))
      go_2 a0 a1 (no e) = go_3 a0 a1 e (ℕ_discrete c 3)

      go_1 : c ≢ 0 → Dec (c ≡ 1) → Spells l u (c ∷ cs) r
      go_1 a0 (yes e) = named 1 e (at_1 u cs k)
      go_1 a0 (no e) = go_2 a0 e (ℕ_discrete c 2)

      go_0 : Dec (c ≡ 0) → Spells l u (c ∷ cs) r
      go_0 (yes e) = named 0 e (at_0 u cs)
      go_0 (no e) = go_1 e (ℕ_discrete c 1)

none_left : (bs : List ℕ) (l r : Layout) (under : ℕ) → length bs ≤ 0 → reading (at l under) bs ≡ some r → Spells l under bs r
unfolding reading
none_left [] l r under k h = no-layout h
none_left (c ∷ cs) l r under k h = absurd (omega arith)

some_left : (n : ℕ) → ((bs : List ℕ) (l r : Layout) (under : ℕ) → length bs ≤ n → reading (at l under) bs ≡ some r → Spells l under bs r) →
    (bs : List ℕ) (l r : Layout) (under : ℕ) → length bs ≤ suc n → reading (at l under) bs ≡ some r → Spells l under bs r
unfolding reading
some_left n rest [] l r under k h = no-layout h
some_left n rest (c ∷ cs) l r under k h = by-command n rest l r under c cs (omega arith) h

read_in : (n : ℕ) (bs : List ℕ) (l r : Layout) (under : ℕ) → length bs ≤ n → reading (at l under) bs ≡ some r → Spells l under bs r
read_in zero bs l r under k h = none_left bs l r under k h
read_in (suc n) bs l r under k h = some_left n (λ cs a b u j g. read_in n cs a b u j g) bs l r under k h

read_spelled : (bs : List ℕ) (l : Layout) → parse bs ≡ some l → Spells no_layout 0 bs l
unfolding parse
read_spelled bs l h = read_in (length bs) bs no_layout l 0 (omega arith) h

-- ---- sizes

within-yes : (low n high : ℕ) → Within low n high → (leb low n && leb n high) ≡ true
within-yes low n high h = rw (leb_yes low n h.0, leb_yes n high h.1)

le_of : (m n : ℕ) → leb m n ≡ true → m ≤ n
le_of m n e = go (dec_le m n)
  where
    go : Dec (m ≤ n) → m ≤ n
    go (yes l) = l
    go (no l) = let x : false ≡ true = sym (leb_no m n (omega arith)) ∙ e in let z : ◌≡◌ {A = ℕ} 0 1 = cc in absurd (omega arith)

and_yes : {a b : Bool} → a ≡ true → b ≡ true → (a && b) ≡ true
and_yes e f = rw (e, f)

both : (a b : Bool) → (a && b) ≡ true → (a ≡ true) × (b ≡ true)
both true b e = (refl, e)
both false b e = let z : ◌≡◌ {A = ℕ} 0 1 = cc in absurd (omega arith)

within_of : (low n high : ℕ) → (leb low n && leb n high) ≡ true → Within low n high
within_of low n high e = let p = both (leb low n) (leb n high) e in (le_of low n p.0, le_of n high p.1)

module _ (o : Opening) (l : Layout) where
  fitting : Openable o l → sizes_fit o ≡ true
  unfolding sizes_fit
  fitting x =
      and_yes (within-yes 1 o.slots 65536 x.slots)
      (and_yes (leb_yes o.cells 1048576 x.cells)
      (and_yes (within-yes 1 o.weights.slot 4096 x.slot_weight)
      (and_yes (within-yes 1 o.weights.entry 4096 x.entry_weight)
      (and_yes (within-yes 1 o.weights.iterator 4096 x.iterator_weight)
      (and_yes (within-yes 1 o.weights.coroutine 4096 x.coroutine_weight) (within-yes 1 o.weights.frame 4096 x.frame_weight))))))

  openable : sizes_fit o ≡ true → parse o.layout ≡ some l → Openable o l
  unfolding sizes_fit
  openable e h =
      let p = both _ _ e in
      let q = both _ _ p.1 in
      let a = both _ _ q.1 in
      let b = both _ _ a.1 in
      let c = both _ _ b.1 in
      let d = both _ _ c.1 in
      record {
        slots = within_of 1 o.slots 65536 p.0;
        cells = le_of o.cells 1048576 q.0;
        slot_weight = within_of 1 o.weights.slot 4096 a.0;
        entry_weight = within_of 1 o.weights.entry 4096 b.0;
        iterator_weight = within_of 1 o.weights.iterator 4096 c.0;
        coroutine_weight = within_of 1 o.weights.coroutine 4096 d.0;
        frame_weight = within_of 1 o.weights.frame 4096 d.1;
        spelled = read_spelled o.layout l h;
      }

-- ---- together

opening-accepted : (o : Opening) (l : Layout) → Openable o l → open_heap o ≡ some (opened o l)
unfolding open_heap open_with
opening-accepted o l x = let p : parse o.layout ≡ some l = (unfold parse in spelled_read x.spelled) in rw (p, fitting o l x)

opening-only : (o : Opening) (m : Model) → open_heap o ≡ some m → Openable o m.layout
unfolding open_heap open_with opened
opening-only o m h = by_layout (parse o.layout) refl h
  where
    by_size : (l : Layout) → parse o.layout ≡ some l → (t : Bool) → sizes_fit o ≡ t → cond t (some (opened o l)) none ≡ some m → Openable o m.layout
    by_size l p true e q = subst (λ (x : Model). Openable o x.layout) (some-injective _ _ q) (openable o l e p)
    by_size l p false e q = let z : ◌≡◌ {A = Option Model} none (some m) = q in let n : ◌≡◌ {A = ℕ} 0 1 = cc in absurd (omega arith)

    by_layout : (x : Option Layout) → parse o.layout ≡ x → open_with o x ≡ some m → Openable o m.layout
    by_layout none p q = let z : ◌≡◌ {A = Option Model} none (some m) = q in let n : ◌≡◌ {A = ℕ} 0 1 = cc in absurd (omega arith)
    by_layout (some l) p q = by_size l p (sizes_fit o) refl q

opening-refused : (o : Opening) → ((l : Layout) → ¬ Openable o l) → opening_refusal o ≡ 10
unfolding opening_refusal is_some unless
opening-refused o n = go (open_heap o) refl
  where
    go : (x : Option Model) → open_heap o ≡ x → unless (is_some x) 10 ≡ 10
    go none e = refl
    go (some m) e = absurd (n m.layout (opening-only o m e))

pub openings_hold : OpeningsHold
openings_hold = record { accepted = opening-accepted; refused = opening-refused; only = opening-only }
