-- What a collection leaves in the buffers.
use Rattle.std.specs.Prelude.{ℕ, ◌≤◌, ◌<◌, ◌≡◌, List, length, Result, Ok, Err}
use Rattle.model.specs.Replies.{written}
use Rattle.model.specs.declared.Weights.{Weights}
use Rattle.heap.specs.Answers.{number_of}
use Rattle.heap.specs.declared.Refusal.{Refusal}
use Rattle.collector_finalizing.specs.Dropped.{ListAnswer, finalized_in, list_answer}
use Rattle.collector.specs.declared.Tally.{Tally}
use Rattle.collector.specs.declared.Ending.{Ending}
use Rattle.collector.specs.Sweep.{Swept}

-- slots, scalars, free list, marks, order, places
pub record Buffers : Type 0 where
  pub slots : List ℕ
  pub scalars : List ℕ
  pub list : List ℕ
  pub marks : List ℕ
  pub order : List ℕ
  pub places : List ℕ

abbrev pub buffers : List ℕ → List ℕ → List ℕ → List ℕ → List ℕ → List ℕ → Buffers
buffers s x l m o p = record { slots = s; scalars = x; list = l; marks = m; order = o; places = p }

-- the lent list is shorter than F: nothing has changed
pub record Refuses (f : List ℕ) (b a : Buffers) : Type 0 where
  pub short : length b.places < length f
  pub same : a ≡ b

-- F is listed and finalized, what is not kept is freed; marks and order are at rest again
pub record Collects (n : ℕ) (w : Weights) (free : ℕ) (f kept : List ℕ) (b a : Buffers) (t : Tally) (listed : ℕ) : Type 0 where
  pub count : listed ≡ length f
  pub fits : length f ≤ length b.places
  pub places : a.places ≡ written f b.places
  pub scalars : a.scalars ≡ finalized_in f b.scalars
  pub swept : Swept n w b.slots a.scalars b.list kept free n a.slots a.list t
  pub marks : a.marks ≡ b.marks
  pub order : a.order ≡ b.order

-- document 01's number, and how many coroutines are listed
abbrev pub ending_is : Result Ending Refusal → ListAnswer
ending_is (Ok e) = record { refusal = 0; listed = e.listed }
ending_is (Err q) = record { refusal = number_of q; listed = 0 }

abbrev pub EndedBy : Result Ending Refusal → ℕ → Weights → ℕ → List ℕ → List ℕ → Buffers → Buffers → Type 0
EndedBy (Ok e) n w free f kept b a = Collects n w free f kept b a e.tally e.listed
EndedBy (Err q) n w free f kept b a = Refuses f b a

pub record Ends (r : Result Ending Refusal) (n : ℕ) (w : Weights) (free : ℕ) (f kept : List ℕ) (b a : Buffers) : Type 0 where
  pub answer : ending_is r ≡ list_answer f b.places
  pub leaves : EndedBy r n w free f kept b a
