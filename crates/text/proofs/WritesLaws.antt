-- A writer's steps. Assumes nothing.
use Prim.Native.Nat.{ℕ, ◌+◌, ◌-◌, ◌/◌, ◌%◌, ◌≤◌, ◌<◌}
use mathlib.Core.Path.{◌≡◌, refl, sym, ◌∙◌}
use mathlib.Core.List.{List, [], ◌∷◌, ◌++◌}
use native.Mathlib.Omega.{arith}
use lib.ListN.{length, set}
use Rattle.model.specs.Callsheet.{digit, digits, printed}
use Rattle.text.specs.Puts.{Puts}
use Rattle.text.specs.Lines.{line_fields, line_head}
use Rattle.text.specs.Writes.{Writes}
use Rattle.text.specs.declared.Writer.{Writer}
use Rattle.text.proofs.PutsLaws.{puts_none, puts-append, puts_head, puts_line, Putting, putting_start, putting_step, putting_end}

pub writes-none : {a : Writer} → Writes [] a a
writes-none {a} = record { puts = puts_none a.out.now a.end; same = refl }

-- one text behind another
pub writes-append : {t₁ t₂ : List ℕ} {a b d : Writer} → Writes t₁ a b → Writes t₂ b d → Writes (t₁ ++ t₂) a d
writes-append p q = record { puts = puts-append p.puts q.puts; same = q.same ∙ p.same }

-- another name for the same text
pub writes-same : {t₁ t₂ : List ℕ} {a b : Writer} → t₁ ≡ t₂ → Writes t₁ a b → Writes t₂ a b
writes-same e p = rw e at p

-- the text in the buffer that the writer was lent, when it is back
pub writes-lent : {t : List ℕ} {a b : Writer} {out : List ℕ} → Writes t a b → (a.out.ghost_name ≡ b.out.ghost_name → out ≡ b.out.now) → Puts t a.out.now a.end out b.end
writes-lent p f = rw (f (sym p.same)) p.puts

module _ (name : List ℕ) (refusal word used : ℕ) {a b d : Writer} where
  pub writes_head : Writes name a b → Writes (line_fields refusal word used) b d → Writes (line_head name refusal word used) a d
  writes_head p q = record { puts = puts_head name refusal word used p.puts q.puts; same = q.same ∙ p.same }

  pub writes_line : Writes (line_head name refusal word used) a b → Writes (10 ∷ []) b d → Writes (printed name refusal word used) a d
  writes_line p q = record { puts = puts_line name refusal word used p.puts q.puts; same = q.same ∙ p.same }

-- ---- digits from the lowest up

-- of the n digits that the writer a was to put, b has left before it
pub record Going (base n w : ℕ) (a b : Writer) (left rest : ℕ) : Type 0 where
  pub putting : Putting base n w a.out.now a.end b.out.now left rest
  pub ends : b.end ≡ a.end
  pub same : b.out.ghost_name ≡ a.out.ghost_name

pub going_start : (base n w : ℕ) (a : Writer) → Going base n w a a n w
going_start base n w a = record { putting = putting_start base n w a.out.now a.end; ends = refl; same = refl }

module _ {base n w : ℕ} {a b d : Writer} {left rest : ℕ} (g : Going base n w a b left rest) (room : a.end + n ≤ length a.out.now) where
  pub going_step : {x : ℕ} → x ≡ digit (rest % base) → 0 < left → d.out.now ≡ set b.out.now (b.end + (left - 1)) x → d.end ≡ b.end → d.out.ghost_name ≡ b.out.ghost_name → Going base n w a d (left - 1) (rest / base)
  going_step {x} e h o f s = record {
    putting = rw (o, g.ends) (putting_step base n w a.out.now a.end b.out.now left rest g.putting room x e h);
    ends = f ∙ g.ends;
    same = s ∙ g.same;
  }

  pub going_end : left ≤ 0 → d.out.now ≡ b.out.now → d.end ≡ b.end + n → d.out.ghost_name ≡ b.out.ghost_name → Writes (digits base n w) a d
  going_end h o f s = record {
    puts = rw (o, f, g.ends) (putting_end base n w a.out.now a.end b.out.now left rest g.putting room (omega arith));
    same = s ∙ g.same;
  }
