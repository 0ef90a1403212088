-- What a store makes of the contents, by kind. Assumes nothing.
use Prim.Native.Nat.{ℕ, ◌≤◌, ◌<◌}
use mathlib.Core.Path.{◌≡◌, refl, ap, sym, ◌∙◌}
use native.Mathlib.Omega.{arith}
use lib.ListN.{length, set, take}
use lib.Seq.{drop-set-lt, set_out, take-set-lt}
use Rattle.heap_slots.specs.Header.{with_scalar}
use Rattle.heap_slots.specs.declared.Scalars.{Scalars}
use Rattle.heap_cells.specs.Regions.{RawSlot}
use Rattle.model.specs.Rules.{Part, key, payload, put_box, put_capture, put_cell, put_field, put_item, put_part, put_register, put_state, result, signal, with_part}
use Rattle.heap.specs.Kinds.{content_of}
use Rattle.heap.proofs.KindLaws.{content-array, content-box, content-cell, content-coroutine, content-function, content-struct}
use Rattle.heap_access.proofs.ReadCalls.{place}
use Rattle.heap_access.proofs.StoringLaws.{WordRule, raw_own}

-- ---- a word of the header, or of the scalars

module _ (r : RawSlot) (x : Scalars) (v : ℕ) where
  pub box-put : r.kind ≡ 5 → content_of (raw_own r v r.mode r.cells) x ≡ put_box v (content_of r x)
  unfolding put_box
  box-put e = content-box (raw_own r v r.mode r.cells) x e ∙ sym (ap (put_box v) (content-box r x e))

  pub cell-put : r.kind ≡ 3 → content_of (raw_own r v r.mode r.cells) x ≡ put_cell v (content_of r x)
  unfolding put_cell
  cell-put e = content-cell (raw_own r v r.mode r.cells) x e ∙ sym (ap (put_cell v) (content-cell r x e))

  pub state-put : r.kind ≡ 11 → content_of (raw_own r r.value v r.cells) x ≡ put_state v (content_of r x)
  unfolding put_state
  state-put e = content-coroutine (raw_own r r.value v r.cells) x e ∙ sym (ap (put_state v) (content-coroutine r x e))

pub part-put : (r : RawSlot) (x : Scalars) (v : ℕ) (p : Part) → r.kind ≡ 11 → content_of r (with_scalar x (place p) v) ≡ put_part p v (content_of r x)
unfolding put_part with_part
part-put r x v payload e = content-coroutine r (with_scalar x 1 v) e ∙ sym (ap (put_part payload v) (content-coroutine r x e))
part-put r x v key e = content-coroutine r (with_scalar x 2 v) e ∙ sym (ap (put_part key v) (content-coroutine r x e))
part-put r x v result e = content-coroutine r (with_scalar x 3 v) e ∙ sym (ap (put_part result v) (content-coroutine r x e))
part-put r x v signal e = content-coroutine r (with_scalar x 4 v) e ∙ sym (ap (put_part signal v) (content-coroutine r x e))

pub part-frames : (x : Scalars) (v : ℕ) (p : Part) → (with_scalar x (place p) v).f ≡ x.f
part-frames x v payload = refl
part-frames x v key = refl
part-frames x v result = refl
part-frames x v signal = refl

pub place-max : (p : Part) → place p < 8
place-max payload = omega arith
place-max key = omega arith
place-max result = omega arith
place-max signal = omega arith

-- ---- a word in the cells

pub item_rule : WordRule 6 put_item
unfolding put_item
item_rule = record {
  puts = λ r x k v e l.
      content-array (raw_own r r.value r.mode (set r.cells k v)) x e
      ∙ rw (take-set-lt r.len r.cells k v l) (sym (ap (put_item k v) (content-array r x e)));
}

pub field_rule : WordRule 8 put_field
unfolding put_field
field_rule = record {
  puts = λ r x k v e l.
      content-struct (raw_own r r.value r.mode (set r.cells k v)) x e
      ∙ rw (take-set-lt r.len r.cells k v l) (sym (ap (put_field k v) (content-struct r x e)));
}

pub capture_rule : WordRule 9 put_capture
unfolding put_capture
capture_rule = record {
  puts = λ r x k v e l.
      content-function (raw_own r r.value r.mode (set r.cells k v)) x e
      ∙ rw (take-set-lt r.len r.cells k v l) (sym (ap (put_capture k v) (content-function r x e)));
}

-- the frames behind the registers stay
pub register_rule : WordRule 11 put_register
unfolding put_register
register_rule = record {
  puts = λ r x k v e l.
      content-coroutine (raw_own r r.value r.mode (set r.cells k v)) x e
      ∙ rw (take-set-lt r.len r.cells k v l, drop-set-lt r.len r.cells k v l) (sym (ap (put_register k v) (content-coroutine r x e)));
}

-- "array store outside the length, within budget, is accepted and changes nothing"
pub item_out : (r : RawSlot) (x : Scalars) (k v : ℕ) → r.kind ≡ 6 → length (take r.len r.cells) ≤ k → content_of r x ≡ put_item k v (content_of r x)
unfolding put_item
item_out r x k v e l = content-array r x e ∙ sym (ap (put_item k v) (content-array r x e) ∙ rw (set_out (take r.len r.cells) k v l))
