-- The heap's record in nineteen words, and an opening that leaves them.
use Rattle.std.specs.Prelude.{ℕ, ◌≡◌, ◌≢◌, cond, List, eqb, get_or, Result, Ok, Err}
use Rattle.account.specs.declared.Account.{Account}
use Rattle.model.specs.Opening.{Opening}
use Rattle.model.specs.declared.Weights.{Weights}
use Rattle.heap.specs.State.{State}
use Rattle.heap.specs.Answers.{number_of}
use Rattle.heap.specs.Opens.{Beside, Opens, opened_number}
use Rattle.heap.specs.declared.Heap.{Heap}
use Rattle.heap.specs.declared.Refusal.{Refusal}
use Rattle.heap.specs.declared.Refusal.TheVariants.{BadOpening}

-- the account, the weights, and the record's own numbers
abbrev pub account_in : List ℕ → Account
account_in ws = record { used = get_or ws 0 0; since = get_or ws 1 0; threshold = get_or ws 2 0; limit = get_or ws 3 0 }

abbrev pub weights_at : List ℕ → ℕ → ℕ → ℕ → ℕ → ℕ → Weights
weights_at ws a b c d e = record { slot = get_or ws a 0; entry = get_or ws b 0; iterator = get_or ws c 0; coroutine = get_or ws d 0; frame = get_or ws e 0 }

abbrev pub weights_in : List ℕ → Weights
weights_in ws = weights_at ws 0 1 2 3 4

abbrev pub loaded : List ℕ → Heap
loaded ws = record {
  account = account_in ws;
  weights = weights_at ws 4 5 6 7 8;
  size = get_or ws 9 0;
  fresh = get_or ws 10 0;
  free = get_or ws 11 0;
  top = get_or ws 12 0;
  entries = get_or ws 13 0;
  taken = get_or ws 14 0;
  present = get_or ws 15 0;
  coroutines = get_or ws 16 0;
  collections = get_or ws 17 0;
  freed = get_or ws 18 0;
}

-- an opening that returned r and left these words
unfoldable pub opened_in : ℕ → List ℕ → Result Heap Refusal
opened_in r words = cond (eqb r 0) (Ok (loaded words)) (Err BadOpening)

-- what became of an opening: the words before and after, and the number returned
unfoldable pub Settles : Result Heap Refusal → List ℕ → ℕ → List ℕ → Type 0
Settles (Ok h) before r after = (r ≡ 0) × (loaded after ≡ h)
Settles (Err q) before r after = (r ≡ number_of q) × (after ≡ before)

-- t: the new record over the buffers; x and y: what is lent beside them, before and after
pub record OpensWords (o : Opening) (t : State) (x : Beside) (before : List ℕ) (r : ℕ) (after : List ℕ) (y : Beside) : Type 0 where
  pub opens : Opens o t x (opened_in r after) y
  pub returned : r ≡ opened_number (opened_in r after)
  pub kept : r ≢ 0 → after ≡ before
