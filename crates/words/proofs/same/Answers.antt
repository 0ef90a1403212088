use Rattle.std.proofs.Common.{◌≡◌, refl, arith, ◌∙◌}
use Rattle.std.specs.Prelude.{ℤ, pos, negsuc}
use Rattle.std.specs.Ordering.{int_eq}
use Rattle.std.proofs.lemmas.Grind.{common_steps}
use Rattle.words.specs.Word.{same_int, same_raw, same_value}
use Rattle.words.specs.declared.Raw.{Raw}
use Rattle.words.specs.declared.Raw.TheVariants as R
use Rattle.words.specs.contracts.RawPartialEq.TheImpl as derived
use Rattle.words.proofs.same.Goals as goal

int-same : (a b : ℤ) → int_eq a b ≡ same_int a b
unfolding same_int
int-same (pos a) (pos b) = grind (arith, common_steps)
int-same (pos a) (negsuc b) = refl
int-same (negsuc a) (pos b) = refl
int-same (negsuc a) (negsuc b) = grind (arith, common_steps)

-- the derived comparison is that of the definition
derived-same : (x y : Raw) → derived.ghosts.eq x y ≡ same_raw x y
unfolding same_raw same_value
derived-same R.Nil R.Nil = refl
derived-same (R.Bool a) (R.Bool b) = refl
derived-same (R.Int a) (R.Int b) = int-same a b
derived-same (R.Float a) (R.Float b) = refl
derived-same (R.Char a) (R.Char b) = refl
derived-same (R.Ref a s) (R.Ref b t) = refl
derived-same x y = refl

pub returns : goal.returns
returns c = rw (← c.decode.ensures, ← c.decode-2.ensures) (c.eq.ensures ∙ derived-same _ _)
