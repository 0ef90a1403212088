-- The heap's record: made from nothing, and each change of it.
use Rattle.std.specs.Prelude.{ℕ}
use Rattle.account.specs.Account.{new_account}
use Rattle.account.specs.declared.Account.{Account}
use Rattle.model.specs.declared.Weights.{Weights}
use Rattle.heap.specs.declared.Heap.{Heap}

abbrev pub new_heap : ℕ → ℕ → Weights → Heap
new_heap size limit weights = record {
  account = new_account limit;
  weights = weights;
  size = size;
  fresh = 0;
  free = 0;
  top = 0;
  entries = 0;
  taken = 0;
  present = 0;
  coroutines = 0;
  collections = 0;
  freed = 0;
}

-- another account, and regions at other places
abbrev pub with_regions : Heap → Account → ℕ → ℕ → ℕ → Heap
with_regions h account top entries taken = record {
  account = account;
  weights = h.weights;
  size = h.size;
  fresh = h.fresh;
  free = h.free;
  top = top;
  entries = entries;
  taken = taken;
  present = h.present;
  coroutines = h.coroutines;
  collections = h.collections;
  freed = h.freed;
}

-- other slots in use, with their regions
abbrev pub with_objects : Heap → Account → ℕ → ℕ → ℕ → ℕ → ℕ → ℕ → ℕ → Heap
with_objects h account fresh free top entries taken present coroutines = record {
  account = account;
  weights = h.weights;
  size = h.size;
  fresh = fresh;
  free = free;
  top = top;
  entries = entries;
  taken = taken;
  present = present;
  coroutines = coroutines;
  collections = h.collections;
  freed = h.freed;
}

-- after a collection
abbrev pub with_swept : Heap → Account → ℕ → ℕ → ℕ → ℕ → ℕ → ℕ → Heap
with_swept h account free taken present coroutines collections freed = record {
  account = account;
  weights = h.weights;
  size = h.size;
  fresh = h.fresh;
  free = free;
  top = h.top;
  entries = h.entries;
  taken = taken;
  present = present;
  coroutines = coroutines;
  collections = collections;
  freed = freed;
}
