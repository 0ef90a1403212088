-- How many bytes of operands a command has, and whether they are there. Assumes nothing.
use Prim.Native.Nat.{ℕ, ◌≤◌, ◌<◌}
use mathlib.Core.Path.{◌≡◌, refl, sym, ◌∙◌}
use mathlib.Core.Bool.{Bool, true, false, cond}
use mathlib.Core.List.{List}
use mathlib.Core.Option.{Option, none, some}
use native.Mathlib.Omega.{arith}
use borrow.Author.Tests.{leb-true}
use lib.Dec.{leb}
use lib.ListN.{length}
use Rattle.std.proofs.Common as Std
use Rattle.std.proofs.Common.{Some, None, IfSome}
use Rattle.history.proofs.Facts.{leb_yes, leb_no}
use Rattle.model.specs.Callsheet.{operand_bytes, present_operands}
use Rattle.sheet.specs.declared.Command.{Command}
use Rattle.sheet.specs.declared.Command.TheVariants as Commanded
use Rattle.sheet.specs.Turns.{Supplied, code_of, operands_is}

pub named_some : {c : ℕ} {r : Std.Option Command} {k : Command} → IfSome r (λ k. code_of k ≡ c) → r ≡ Some k → code_of k ≡ c
named_some p e = rw e at p

-- ---- all present, or not

module _ (have c : ℕ) {r : Std.Option Command} (p : operands_is r ≡ operand_bytes c) where
  pub present-unknown : r ≡ None → operands_is None ≡ present_operands have (operand_bytes c)
  unfolding operands_is present_operands
  present-unknown e = rw (← p, e)

  module _ {k : Command} {n : ℕ} (e : r ≡ Some k) (q : some n ≡ operand_bytes (code_of k)) where
    counted : operand_bytes c ≡ some n
    unfolding operands_is
    counted = sym p ∙ rw e (sym q)

    pub present-short : have < n → operands_is None ≡ present_operands have (operand_bytes c)
    unfolding operands_is present_operands
    present-short h = rw counted (rw (leb_no n have h))

    pub present-whole : n ≤ have → operands_is (Some k) ≡ present_operands have (operand_bytes c)
    unfolding operands_is present_operands
    present-whole h = sym q ∙ rw counted (rw (leb_yes n have h))

-- ---- what follows for the bytes

supplied_by : (have n : ℕ) (o : Option ℕ) → some n ≡ present_operands have o → (o ≡ some n) × (n ≤ have)
unfolding present_operands
supplied_by have n none e = let z : ◌≡◌ {A = ℕ} 0 1 = cc in absurd (omega arith)
supplied_by have n (some m) e = go (leb m have) refl e
  where
    go : (t : Bool) → leb m have ≡ t → some n ≡ cond t (some m) none → (some m ≡ some n) × (n ≤ have)
    go true h e = (sym e, let q : n ≡ m = cc in omega (arith, leb-true m have h))
    go false h e = let z : ◌≡◌ {A = ℕ} 0 1 = cc in absurd (omega arith)

module _ (c n : ℕ) (bs : List ℕ) {r : Std.Option Command} {k : Command} (p : operands_is r ≡ present_operands (length bs) (operand_bytes c)) (e : r ≡ Some k) (q : some n ≡ operand_bytes (code_of k)) where
  pub present_some : some n ≡ present_operands (length bs) (operand_bytes c)
  unfolding operands_is
  present_some = q ∙ rw e at p

  pub supplied : Supplied c bs
  supplied m q = let s = supplied_by (length bs) n (operand_bytes c) present_some in let k : m ≡ n = cc in omega arith

  pub supplied_size : n ≤ length bs
  supplied_size = (supplied_by (length bs) n (operand_bytes c) present_some).1

-- ---- the commands with operands

module _ (k : Command) (bs : List ℕ) where
  pub needs_box : k ≡ Commanded.NewBox → Supplied (code_of k) bs → 8 ≤ length bs
  unfolding code_of operand_bytes
  needs_box e p = p 8 (rw e)

  pub needs_array : k ≡ Commanded.NewArray → Supplied (code_of k) bs → 9 ≤ length bs
  unfolding code_of operand_bytes
  needs_array e p = p 9 (rw e)

  pub needs_read : k ≡ Commanded.ReadBox → Supplied (code_of k) bs → 8 ≤ length bs
  unfolding code_of operand_bytes
  needs_read e p = p 8 (rw e)

  pub needs_root : k ≡ Commanded.Root → Supplied (code_of k) bs → 8 ≤ length bs
  unfolding code_of operand_bytes
  needs_root e p = p 8 (rw e)

pub supplied_same : {c c' : ℕ} {bs bs' : List ℕ} → c' ≡ c → bs' ≡ bs → Supplied c bs → Supplied c' bs'
supplied_same d e p = rw (d, e) p

-- only a root has its byte
pub no_root : (k : Command) → (k ≡ Commanded.Root → ⊥) → code_of k ≡ 11 → ⊥
unfolding code_of
no_root Commanded.NewBox h e = omega (arith, e)
no_root Commanded.NewArray h e = omega (arith, e)
no_root Commanded.ReadBox h e = omega (arith, e)
no_root Commanded.Root h e = h refl
no_root Commanded.Collect h e = omega (arith, e)
