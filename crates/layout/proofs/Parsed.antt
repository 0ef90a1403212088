-- What is parsed is what the sections list: the layout's struct types and functions, in the order of their starts. Assumes nothing.
use mathlib.Core.Path.{◌≡◌, refl, sym, ◌∙◌, ap}
use Prim.Native.Nat.{ℕ, zero, suc, ◌-◌, ◌≤◌, ◌<◌}
use native.Mathlib.Omega.{arith}
use mathlib.Core.Bool.{Bool, true, false, cond, ◌&&◌}
use mathlib.Core.List.{List, [], ◌∷◌, ◌++◌, map, append-nil}
use mathlib.Core.Option.{none, some}
use lib.Dec.{eqb, leb, ltb}
use lib.ListN.{length, get_or, set, drop, length-set}
use lib.Seq.{append_snoc, set-get_or, set-set, get_or-set_same, set_at, get_or_at}
use borrow.Author.Tests.{ltb-true, lt-ltb, ne_eqb}
use Rattle.layout.specs.Layout.{Layout, Function, no_function, at_last, with_struct, with_field, with_function, with_register, with_capture, when, command, byte, proceed, reading, u16}
use Rattle.layout.specs.Sections.{operand_bytes, starts_from, belongs, operand, listed, fields_from, registers_from, captures_from}
use Rattle.layout.proofs.Accepting.{by-command, at, length_snoc, length-at-last}

-- ---- lists

-- the last element, changed twice; and where it was added just now
at-last_twice : {A : Type 0} (d : A) (f g : A → A) (xs : List A) → at_last d f (at_last d g xs) ≡ at_last d (λ x. f (g x)) xs
unfolding at_last
at-last_twice d f g [] = refl
at-last_twice d f g (x ∷ xs) =
    let ys : List _ = x ∷ xs in
    let i : ℕ = length ys - 1 in
    let n : length (set ys i (g (get_or ys i d))) ≡ length ys = length-set ys i (g (get_or ys i d)) in
    let h : i < length ys = omega arith in
    rw (n, get_or-set_same ys i (g (get_or ys i d)) d h, set-set ys i (g (get_or ys i d)) (f (g (get_or ys i d))))

at-last_snoc : {A : Type 0} (d : A) (f : A → A) (xs : List A) (x : A) → at_last d f (xs ++ (x ∷ [])) ≡ xs ++ (f x ∷ [])
unfolding at_last
at-last_snoc d f xs x =
    let n : length (xs ++ (x ∷ [])) - 1 ≡ length xs = omega (arith, length_snoc xs x) in
    rw (n, get_or_at xs x [] d (length xs) refl, set_at xs x [] (f x) (length xs) refl)

at-last-same : {A : Type 0} (d : A) (f : A → A) (xs : List A) → ((x : A) → f x ≡ x) → at_last d f xs ≡ xs
unfolding at_last
at-last-same d f xs e = rw (e (get_or xs (length xs - 1) d)) (set-get_or xs (length xs - 1) d)

drop_tail : {A : Type 0} (xs : List A) (p : ℕ) (b : A) (bs : List A) → drop p xs ≡ b ∷ bs → drop (suc p) xs ≡ bs
drop_tail [] zero b bs e = let z : ◌≡◌ {A = ℕ} 0 (suc (length bs)) = ap length e in absurd (omega arith)
drop_tail [] (suc p) b bs e = let z : ◌≡◌ {A = ℕ} 0 (suc (length bs)) = ap length e in absurd (omega arith)
drop_tail (x ∷ xs) zero b bs e = cc
drop_tail (x ∷ xs) (suc p) b bs e = drop_tail xs p b bs e

-- ---- what the rest of a section adds to what stands last

unfoldable pub add_fields : List ℕ → List (List ℕ) → List (List ℕ)
add_fields ns ss = at_last [] (λ fs. fs ++ ns) ss

unfoldable pub add_lists : List ℕ → List ℕ → List Function → List Function
add_lists rs cs fs = at_last no_function (λ f. record { registers = f.registers ++ rs; captures = f.captures ++ cs }) fs

no_fields : (t : Bool) (ss : List (List ℕ)) → add_fields (cond t [] []) ss ≡ ss
unfolding add_fields
no_fields true ss = at-last-same [] (λ ns. ns ++ []) ss append-nil
no_fields false ss = at-last-same [] (λ ns. ns ++ []) ss append-nil

no-lists : (t : Bool) (fs : List Function) → add_lists (cond t [] []) (cond t [] []) fs ≡ fs
unfolding add_lists
no-lists true fs = at-last-same no_function _ fs (λ f. rw (append-nil f.registers, append-nil f.captures))
no-lists false fs = at-last-same no_function _ fs (λ f. rw (append-nil f.registers, append-nil f.captures))

at-last_as : {A : Type 0} (d : A) (f g : A → A) (xs : List A) → ((x : A) → f x ≡ g x) → at_last d f xs ≡ at_last d g xs
unfolding at_last
at-last_as d f g xs e = rw (e (get_or xs (length xs - 1) d))

add-field : (n : ℕ) (ns : List ℕ) (ss : List (List ℕ)) → add_fields ns (at_last [] (λ fs. fs ++ (n ∷ [])) ss) ≡ add_fields (n ∷ ns) ss
unfolding add_fields
add-field n ns ss = at-last_twice [] _ _ ss ∙ at-last_as [] _ _ ss (λ fs. append_snoc fs n ns)

add-register : (n : ℕ) (rs cs : List ℕ) (fs : List Function) → add_lists rs cs (at_last no_function (λ f. record { registers = f.registers ++ (n ∷ []); captures = f.captures }) fs) ≡ add_lists (n ∷ rs) cs fs
unfolding add_lists
add-register n rs cs fs = at-last_twice no_function _ _ fs ∙ at-last_as no_function _ _ fs (λ f. rw (append_snoc f.registers n rs))

add-capture : (n : ℕ) (rs cs : List ℕ) (fs : List Function) → add_lists rs cs (at_last no_function (λ f. record { registers = f.registers; captures = f.captures ++ (n ∷ []) }) fs) ≡ add_lists rs (n ∷ cs) fs
unfolding add_lists
add-capture n rs cs fs = at-last_twice no_function _ _ fs ∙ at-last_as no_function _ _ fs (λ f. rw (append_snoc f.captures n cs))

begin_struct : (ns : List ℕ) (ss : List (List ℕ)) (t : Bool) (rest : List (List ℕ)) → add_fields ns (ss ++ ([] ∷ [])) ++ rest ≡ add_fields (cond t [] []) ss ++ (ns ∷ rest)
unfolding add_fields
begin_struct ns ss t rest = rw (at-last_snoc [] (λ fs. fs ++ ns) ss [], no_fields t ss) (append_snoc ss ns rest)

begin_function : (rs cs : List ℕ) (fs : List Function) (t : Bool) (rest : List Function) → add_lists rs cs (fs ++ (no_function ∷ [])) ++ rest ≡ add_lists (cond t [] []) (cond t [] []) fs ++ (record { registers = rs; captures = cs } ∷ rest)
unfolding add_lists
begin_function rs cs fs t rest =
    rw (at-last_snoc no_function (λ f. record { registers = f.registers ++ rs; captures = f.captures ++ cs }) fs no_function, no-lists t fs)
    (append_snoc fs record { registers = rs; captures = cs } rest)

-- ---- one command after another

abbrev pub function_at : List ℕ → ℕ → Function
function_at bs p = record { registers = registers_from bs p; captures = captures_from bs p }

-- what commands c still list in an open section
abbrev pub open_list : ℕ → ℕ → ℕ → ℕ → List ℕ → List ℕ
open_list section u c k bs = cond (eqb u section) (listed c k bs) []

-- reading the bytes `bs` from the place p of `all` on, from the layout l to the layout m
pub record Sections (all bs : List ℕ) (l : Layout) (u k p : ℕ) (m : Layout) : Type 0 where
  pub structs : m.structs ≡ add_fields (open_list 1 u 2 k bs) l.structs ++ map (fields_from all) (starts_from 1 k p bs)
  pub functions : m.functions ≡ add_lists (open_list 3 u 4 k bs) (open_list 3 u 5 k bs) l.functions ++ map (function_at all) (starts_from 3 k p bs)
  pub structs_most : length l.structs ≤ 256 → length m.structs ≤ 256
  pub functions_most : length l.functions ≤ 256 → length m.functions ≤ 256

Parsed : List ℕ → List ℕ → Type 0
Parsed all bs = (l : Layout) (u k p : ℕ) (m : Layout) → reading (at l u k) bs ≡ some m → drop p all ≡ bs → Sections all bs l u k p m

when-some : (ok : Bool) (l : Layout) (u k : ℕ) (bs : List ℕ) (m : Layout) → proceed (when ok l u k) (λ q. reading q bs) ≡ some m → (ok ≡ true) × (reading (at l u k) bs ≡ some m)
unfolding proceed when
when-some true l u k bs m e = (refl, e)
when-some false l u k bs m e = let z : ◌≡◌ {A = ℕ} 0 1 = cc in absurd (omega arith)

and_left : (a b : Bool) → a && b ≡ true → a ≡ true
and_left true b e = refl
and_left false b e = e

and_right : (a b : Bool) → a && b ≡ true → b ≡ true
and_right true b e = e
and_right false b e = let z : ◌≡◌ {A = ℕ} 0 1 = cc in absurd (omega arith)

Step : List ℕ → List ℕ → Layout → ℕ → ℕ → Layout → ℕ → Type 0
Step all bs l u p m b = reading (at l u 0) (b ∷ bs) ≡ some m → drop p all ≡ b ∷ bs → Sections all (b ∷ bs) l u 0 p m

ended : (all bs : List ℕ) (l : Layout) (u p : ℕ) (m : Layout) → reading record { layout = l; under = 0; operands = 0; ended = true } bs ≡ some m → Sections all (0 ∷ bs) l u 0 p m
unfolding reading byte proceed listed starts_from belongs operand_bytes
ended all [] l u p m e =
    let f : l ≡ m = cc in
    record {
      structs = rw (no_fields (eqb u 1) l.structs, append-nil l.structs) (ap (λ x. x.structs) (sym f));
      functions = rw (no-lists (eqb u 3) l.functions, append-nil l.functions) (ap (λ x. x.functions) (sym f));
      structs_most = λ h. rw f at h;
      functions_most = λ h. rw f at h;
    }
ended all (b ∷ bs) l u p m e = let z : ◌≡◌ {A = ℕ} 0 1 = cc in absurd (omega arith)

module _ (all bs : List ℕ) (go : Parsed all bs) (l : Layout) (u p : ℕ) (m : Layout) where
  step_0 : Step all bs l u p m 0
  unfolding Step reading byte proceed command
  step_0 e d = ended all bs l u p m e

  step_1 : Step all bs l u p m 1
  unfolding Step Parsed reading byte proceed command with_struct listed starts_from belongs operand_bytes
  step_1 e d =
      let w : (ltb (length l.structs) 256 ≡ true) × (reading (at (with_struct l) 1 0) bs ≡ some m) = when-some (ltb (length l.structs) 256) (with_struct l) 1 0 bs m e in
      let t : drop (suc p) all ≡ bs = drop_tail all p 1 bs d in
      let q : Sections all bs (with_struct l) 1 0 (suc p) m = go (with_struct l) 1 0 (suc p) m w.1 t in
      record {
        structs = rw t (q.structs ∙ begin_struct (listed 2 0 bs) l.structs (eqb u 1) (map (fields_from all) (starts_from 1 0 (suc p) bs)));
        functions = q.functions ∙ rw (no-lists false l.functions, no-lists (eqb u 3) l.functions);
        structs_most = λ h. q.structs_most (omega (arith, ltb-true (length l.structs) 256 w.0, length_snoc l.structs []));
        functions_most = q.functions_most;
      }

  step_2 : Step all bs l u p m 2
  unfolding Step Parsed reading byte proceed command with_field listed starts_from belongs operand_bytes operand
  step_2 e d =
      let ok : Bool = eqb u 1 && leb 2 (length bs) in
      let w : (ok ≡ true) × (reading (at (with_field (u16 bs) l) 1 2) bs ≡ some m) = when-some ok (with_field (u16 bs) l) 1 2 bs m e in
      let q : Sections all bs (with_field (u16 bs) l) 1 2 (suc p) m = go (with_field (u16 bs) l) 1 2 (suc p) m w.1 (drop_tail all p 2 bs d) in
      let v : eqb u 1 ≡ true = and_left (eqb u 1) (leb 2 (length bs)) w.0 in
      let n : leb 2 (length bs) ≡ true = and_right (eqb u 1) (leb 2 (length bs)) w.0 in
      record {
        structs = q.structs ∙ rw (v, n, add-field (u16 bs) (listed 2 2 bs) l.structs);
        functions = q.functions ∙ rw (no-lists false l.functions, no-lists (eqb u 3) l.functions);
        structs_most = λ h. q.structs_most (omega (arith, length-at-last [] (λ fs. fs ++ (u16 bs ∷ [])) l.structs));
        functions_most = q.functions_most;
      }

  step_3 : Step all bs l u p m 3
  unfolding Step Parsed reading byte proceed command with_function listed starts_from belongs operand_bytes
  step_3 e d =
      let w : (ltb (length l.functions) 256 ≡ true) × (reading (at (with_function l) 3 0) bs ≡ some m) = when-some (ltb (length l.functions) 256) (with_function l) 3 0 bs m e in
      let t : drop (suc p) all ≡ bs = drop_tail all p 3 bs d in
      let q : Sections all bs (with_function l) 3 0 (suc p) m = go (with_function l) 3 0 (suc p) m w.1 t in
      record {
        structs = q.structs ∙ rw (no_fields false l.structs, no_fields (eqb u 1) l.structs);
        functions = rw t (q.functions ∙ begin_function (listed 4 0 bs) (listed 5 0 bs) l.functions (eqb u 3) (map (function_at all) (starts_from 3 0 (suc p) bs)));
        structs_most = q.structs_most;
        functions_most = λ h. q.functions_most (omega (arith, ltb-true (length l.functions) 256 w.0, length_snoc l.functions no_function));
      }

  step_4 : Step all bs l u p m 4
  unfolding Step Parsed reading byte proceed command with_register listed starts_from belongs operand_bytes operand
  step_4 e d =
      let ok : Bool = eqb u 3 && leb 2 (length bs) in
      let w : (ok ≡ true) × (reading (at (with_register (u16 bs) l) 3 2) bs ≡ some m) = when-some ok (with_register (u16 bs) l) 3 2 bs m e in
      let q : Sections all bs (with_register (u16 bs) l) 3 2 (suc p) m = go (with_register (u16 bs) l) 3 2 (suc p) m w.1 (drop_tail all p 4 bs d) in
      let v : eqb u 3 ≡ true = and_left (eqb u 3) (leb 2 (length bs)) w.0 in
      let n : leb 2 (length bs) ≡ true = and_right (eqb u 3) (leb 2 (length bs)) w.0 in
      record {
        structs = q.structs ∙ rw (no_fields false l.structs, no_fields (eqb u 1) l.structs);
        functions = q.functions ∙ rw (v, n, add-register (u16 bs) (listed 4 2 bs) (listed 5 2 bs) l.functions);
        structs_most = q.structs_most;
        functions_most = λ h. q.functions_most (omega (arith, length-at-last no_function (λ f. record { registers = f.registers ++ (u16 bs ∷ []); captures = f.captures }) l.functions));
      }

  step_5 : Step all bs l u p m 5
  unfolding Step Parsed reading byte proceed command with_capture listed starts_from belongs operand_bytes operand
  step_5 e d =
      let b : ℕ = get_or bs 0 0 in
      let ok : Bool = eqb u 3 && (leb 1 (length bs) && leb b 2) in
      let w : (ok ≡ true) × (reading (at (with_capture b l) 3 1) bs ≡ some m) = when-some ok (with_capture b l) 3 1 bs m e in
      let q : Sections all bs (with_capture b l) 3 1 (suc p) m = go (with_capture b l) 3 1 (suc p) m w.1 (drop_tail all p 5 bs d) in
      let v : eqb u 3 ≡ true = and_left (eqb u 3) (leb 1 (length bs) && leb b 2) w.0 in
      let n : leb 1 (length bs) ≡ true = and_left (leb 1 (length bs)) (leb b 2) (and_right (eqb u 3) (leb 1 (length bs) && leb b 2) w.0) in
      record {
        structs = q.structs ∙ rw (no_fields false l.structs, no_fields (eqb u 1) l.structs);
        functions = q.functions ∙ rw (v, n, add-capture b (listed 4 1 bs) (listed 5 1 bs) l.functions);
        structs_most = q.structs_most;
        functions_most = λ h. q.functions_most (omega (arith, length-at-last no_function (λ f. record { registers = f.registers; captures = f.captures ++ (b ∷ []) }) l.functions));
      }

  step-more : (b : ℕ) → 6 ≤ b → Step all bs l u p m b
  unfolding Step reading byte proceed command
  step-more b h e d =
      let f : none ≡ some m = rw (ne_eqb b 0 (λ e. omega arith), ne_eqb b 1 (λ e. omega arith), ne_eqb b 2 (λ e. omega arith), ne_eqb b 3 (λ e. omega arith), ne_eqb b 4 (λ e. omega arith), ne_eqb b 5 (λ e. omega arith)) at e in
      let z : ◌≡◌ {A = ℕ} 0 1 = cc in
      absurd (omega arith)

pub parsed : (all bs : List ℕ) (l : Layout) (u k p : ℕ) (m : Layout) → reading (at l u k) bs ≡ some m → drop p all ≡ bs → Sections all bs l u k p m
unfolding Step Parsed reading byte proceed starts_from listed
parsed all [] l u k p m e d = let z : ◌≡◌ {A = ℕ} 0 1 = cc in absurd (omega arith)
parsed all (b ∷ bs) l u zero p m e d =
    by-command (Step all bs l u p m)
    (step_0 all bs (parsed all bs) l u p m)
    (step_1 all bs (parsed all bs) l u p m)
    (step_2 all bs (parsed all bs) l u p m)
    (step_3 all bs (parsed all bs) l u p m)
    (step_4 all bs (parsed all bs) l u p m)
    (step_5 all bs (parsed all bs) l u p m)
    (step-more all bs (parsed all bs) l u p m)
    b e d
parsed all (b ∷ bs) l u (suc k) p m e d =
    let n : suc k - 1 ≡ k = omega arith in
    let f : reading (at l u k) bs ≡ some m = rw (lt-ltb 0 (suc k) (omega arith), n) at e in
    let q : Sections all bs l u k (suc p) m = parsed all bs l u k (suc p) m f (drop_tail all p b bs d) in
    record { structs = q.structs; functions = q.functions; structs_most = q.structs_most; functions_most = q.functions_most }
