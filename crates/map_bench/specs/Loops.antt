-- What the loops make of a store.
use Rattle.std.specs.Prelude.{◌≡◌, false, cond, List, ℕ, zero, suc, ◌+◌, ◌%◌, eqb, leb, ltb, get_or, length}
use Rattle.std.specs.Prelude.{None, Result, Ok, Err}
use Rattle.std.proofs.Math.Option.{Option, none, some}
use Rattle.map_store.specs.Store as S
use Rattle.map_store.specs.View.{store_of, room_of}
use Rattle.map_store.specs.Map.{Good}
use Rattle.map_store.specs.declared.MapStore.{MapStore}
use Rattle.map_bench.specs.declared.Refusal.{Refusal}
use Rattle.map_bench.specs.declared.Refusal.TheVariants.{NoCells, NumbersSpent}

-- The record in seven words; no key is noted.
abbrev pub loaded : List ℕ → MapStore
loaded ws = record {
  noted = None;
  len = get_or ws 0 0;
  live = get_or ws 1 0;
  fresh = get_or ws 2 0;
  capacity = get_or ws 3 0;
  index = get_or ws 4 0;
  epoch = get_or ws 5 0 % 4294967296;
  hashed = eqb (get_or ws 6 0) 1;
}

abbrev pub bare : MapStore → MapStore
bare m = record { noted = None; len = m.len; live = m.live; fresh = m.fresh; capacity = m.capacity; index = m.index; epoch = m.epoch; hashed = m.hashed }

-- The words and cells hold what the rule makes of the store that they held.
pub record Ran (rule : S.Store → S.Store) (words cells words' cells' : List ℕ) : Type 0 where
  pub store : store_of (loaded words') cells' ≡ rule (store_of (loaded words) cells)
  pub good : Good (loaded words') cells'

-- document 01's number of each case
unfoldable pub refusal_number : Result Unit Refusal → ℕ
refusal_number (Ok u) = 0
refusal_number (Err NoCells) = 7
refusal_number (Err NumbersSpent) = 9

-- put: where the key is absent, "9 a map's 2^32 sequence numbers are spent", then "7 no cells"
unfoldable pub put_refusal : Option ℕ → ℕ → MapStore → List ℕ → ℕ
put_refusal (some p) key s cells = 0
put_refusal none key s cells =
    cond (leb 4294967296 s.fresh) 9
    (cond (ltb (length cells) (S.cells_of (S.room_after_insert false key (store_of s cells) (room_of s)))) 7 0)

unfoldable pub AnsweredBy : ℕ → ℕ → ℕ → MapStore → List ℕ → Result Unit Refusal → MapStore → List ℕ → Type 0
AnsweredBy hash key value s cells (Ok u) s' cells' = (store_of s' cells' ≡ S.put false hash key value (store_of s cells)) × Good s' cells'
AnsweredBy hash key value s cells (Err n) s' cells' = (s' ≡ s) × (cells' ≡ cells)

pub record Answered (hash key value : ℕ) (s : MapStore) (cells : List ℕ) (r : Result Unit Refusal) (s' : MapStore) (cells' : List ℕ) : Type 0 where
  pub number : refusal_number r ≡ put_refusal (S.find false hash key (store_of s cells)) key s cells
  pub leaves : AnsweredBy hash key value s cells r s' cells'

-- the first n keys put, and removed
unfoldable pub put_to : List ℕ → List ℕ → ℕ → S.Store → S.Store
put_to hs ks zero s = s
put_to hs ks (suc n) s = S.put false (get_or hs n 0) (get_or ks n 0) n (put_to hs ks n s)

unfoldable pub removed_to : List ℕ → List ℕ → ℕ → S.Store → S.Store
removed_to hs ks zero s = s
removed_to hs ks (suc n) s = S.removed_key false (get_or hs n 0) (get_or ks n 0) (removed_to hs ks n s)

abbrev pub one_of : Option ℕ → ℕ
one_of none = 0
one_of (some p) = 1

-- how many of the first n answers are positions
unfoldable pub met_to : (ℕ → Option ℕ) → ℕ → ℕ
met_to answer zero = 0
met_to answer (suc n) = met_to answer n + one_of (answer n)

-- how many of the first n keys are found
abbrev pub found_to : List ℕ → List ℕ → ℕ → S.Store → ℕ
found_to hs ks n s = met_to (λ i. S.find false (get_or hs i 0) (get_or ks i 0) s) n

-- how many of the first n cursors meet an entry, of which each yielded a sequence number of the list last, at this epoch
abbrev pub resumed_to : ℕ → List ℕ → ℕ → S.Store → ℕ
resumed_to epoch lasts n s = met_to (λ i. (S.next_of s (record { last = some (get_or lasts i 0); pos = 0; epoch = epoch })).answer) n

-- a cursor that has yielded nothing
abbrev pub front : S.Cursor
front = record { last = none; pos = 0; epoch = 0 }

-- how many steps in a row, up to n, meet an entry
abbrev pub onward : Option ℕ → ℕ → ℕ
onward none k = 0
onward (some p) k = suc k

unfoldable pub walked : ℕ → S.Store → S.Cursor → ℕ
walked zero s c = 0
walked (suc n) s c = onward (S.next_of s c).answer (walked n s (S.next_of s c).cursor)
