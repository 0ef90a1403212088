-- What a writer of text and a reader of numbers promise.
use Rattle.std.specs.Prelude.{ℕ, ◌+◌, ◌^◌, ◌<◌, ◌≡◌, List, ◌++◌, length, take, drop}
use Rattle.model.specs.Callsheet.{little_endian}

-- the text t put into the buffer out at the place at, up to r: what stands before it and behind it stays
pub record Puts (t out : List ℕ) (at : ℕ) (out' : List ℕ) (r : ℕ) : Type 0 where
  pub size : length out' ≡ length out
  pub ends : r ≡ at + length t
  pub text : take r out' ≡ take at out ++ t
  pub rest : drop r out' ≡ drop r out

-- the number of the n bytes from the place at on, the lowest byte first
pub record ReadsLittle (bytes : List ℕ) (at n r : ℕ) : Type 0 where
  pub is : r ≡ little_endian (take n (drop at bytes))
  pub small : r < 256 ^ n
