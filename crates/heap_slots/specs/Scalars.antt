-- Scalars: eight more words to a slot, and what they are in a map, an iterator and a coroutine.
use Rattle.std.specs.Prelude.{ℕ, ◌+◌, ◌*◌, List, [], ◌∷◌, get_or, set}
use Rattle.heap_slots.specs.declared.Scalars.{Scalars}
use Rattle.heap_slots.specs.declared.MapScalars.{MapScalars}
use Rattle.heap_slots.specs.declared.IteratorScalars.{IteratorScalars}
use Rattle.heap_slots.specs.declared.CoroutineScalars.{CoroutineScalars}
use Rattle.heap_slots.specs.Limits.{SLOT_WORDS}
use Rattle.heap_slots.specs.Eight.{set_eight}

unfoldable pub scalars_at : List ℕ → ℕ → Scalars
scalars_at s i = record {
  a = get_or s (i * SLOT_WORDS) 0;
  b = get_or s (i * SLOT_WORDS + 1) 0;
  c = get_or s (i * SLOT_WORDS + 2) 0;
  d = get_or s (i * SLOT_WORDS + 3) 0;
  e = get_or s (i * SLOT_WORDS + 4) 0;
  f = get_or s (i * SLOT_WORDS + 5) 0;
  g = get_or s (i * SLOT_WORDS + 6) 0;
  h = get_or s (i * SLOT_WORDS + 7) 0;
}

unfoldable pub set_scalars : List ℕ → ℕ → Scalars → List ℕ
set_scalars s i x = set_eight s i x.a (x.b ∷ x.c ∷ x.d ∷ x.e ∷ x.f ∷ x.g ∷ x.h ∷ [])

-- scalars that differ in word k
abbrev pub scalar_words : Scalars → List ℕ
scalar_words x = x.a ∷ x.b ∷ x.c ∷ x.d ∷ x.e ∷ x.f ∷ x.g ∷ x.h ∷ []

abbrev pub scalars_of : List ℕ → Scalars
scalars_of l = record { a = get_or l 0 0; b = get_or l 1 0; c = get_or l 2 0; d = get_or l 3 0; e = get_or l 4 0; f = get_or l 5 0; g = get_or l 6 0; h = get_or l 7 0 }

abbrev pub with_scalar : Scalars → ℕ → ℕ → Scalars
with_scalar x k v = scalars_of (set (scalar_words x) k v)

-- ---- by kind

abbrev pub map_part : Scalars → MapScalars
map_part x = record { keys = x.a; values = x.b; hashed = x.c; known = x.d; noted = x.e; next = x.f; epoch = x.g; live = x.h }

abbrev pub scalars_of_map : MapScalars → Scalars
scalars_of_map k = record { a = k.keys; b = k.values; c = k.hashed; d = k.known; e = k.noted; f = k.next; g = k.epoch; h = k.live }

abbrev pub iterator_part : Scalars → IteratorScalars
iterator_part x = record { ended = x.a; keyed = x.b; key = x.c; stepped = x.d; last = x.e; position = x.f; epoch = x.g }

abbrev pub scalars_of_iterator : IteratorScalars → Scalars
scalars_of_iterator k = record { a = k.ended; b = k.keyed; c = k.key; d = k.stepped; e = k.last; f = k.position; g = k.epoch; h = 0 }

abbrev pub coroutine_part : Scalars → CoroutineScalars
coroutine_part x = record { finalized = x.a; payload = x.b; key = x.c; result = x.d; signal = x.e; frames = x.f }

abbrev pub scalars_of_coroutine : CoroutineScalars → Scalars
scalars_of_coroutine k = record { a = k.finalized; b = k.payload; c = k.key; d = k.result; e = k.signal; f = k.frames; g = 0; h = 0 }
