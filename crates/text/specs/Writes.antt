-- What a writer promises.
use Rattle.std.specs.Prelude.{ℕ, List, ◌≡◌}
use Rattle.text.specs.Puts.{Puts}
use Rattle.text.specs.declared.Writer.{Writer}

-- the writer a has put the text t and is now b: in the same memory
pub record Writes (t : List ℕ) (a b : Writer) : Type 0 where
  pub puts : Puts t a.out.now a.end b.out.now b.end
  pub same : b.out.ghost_name ≡ a.out.ghost_name
