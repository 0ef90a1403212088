-- Every packed map's keys are its positions; without insert, no map has two live entries of equal hash and key.
use Prim.Native.Nat.{ℕ}
use mathlib.Core.Path.{◌≡◌, refl, sym, ap, ◌∙◌, subst}
use mathlib.Core.Bool.{Bool, true, false, cond}
use mathlib.Core.List.{List, Memᴰ}
use mathlib.Core.Option.{Option, none, some, some-injective}
use native.Mathlib.Omega.{arith}
use lib.IntN.{ℤ}
use Rattle.map_store.specs.Store as Maps
use Rattle.map_store.specs.Store.{Store}
use Rattle.history.proofs.Entries.{Packed, PackedStore, SingleStore, alike, alike_once, matches-own, packed-at, packed-inserted, packed-noted, packed-put, packed_removed, packed_removed_at, packed-value, single_noted, single_put, single_removed, single_removed_at, single_value}
use Rattle.history.proofs.Everywhere.{Preserves, everywhere}
use Rattle.history.proofs.Looking.{swept-stays}
use Rattle.history.proofs.Shapes.{Rule, Shape, adds, adds_iterator, adds_map, by-advance, by-box, by-capture, by-cell, by_field, by-insert, by-item, by-note, by_part, by-pop, by-push, by-put, by_register, by-remove, by-remove-at, by_state, by_value, changes, keeps, map_of, shape, sweeps}
use Rattle.history.proofs.Stores.{array-only, box-only, cell-only, closure-only, coroutine-only, iterator-only, struct-only}
use Rattle.layout.specs.Layout.{is_traced}
use Rattle.model.specs.Content.{Content, Map, array, box, cell, closure, coroutine, error, finalize, integer, iterator, map_object, string, struct}
use Rattle.model.specs.View.{View, mem}
use Rattle.model.specs.Kept.{finalizable, kept, settled}
use Rattle.model.specs.Rules.{advance, on_map, pop_item, push_item, put_box, put_capture, put_cell, put_field, put_item, put_part, put_register, put_state}
use Rattle.model.specs.Calls.{Call, Effect, insert_entry}
use Rattle.model.specs.Invariants.{PackedKeysHold, SingleEntriesHold}

-- a fact of every map's store, told whether the key type is traced
record MapFact (Q : Bool → Store → Type 0) (c : Content) : Type 0 where
  of_map : (x : Map) → map_of c ≡ some x → Q (is_traced x.key_type) x.store

-- what the map rules must do, so that it stays so
record StoreRules (Q : Bool → Store → Type 0) : Type 0 where
  empty : (t : Bool) → Q t Maps.empty_store
  putting : (t : Bool) (h k v : ℕ) (s : Store) → Q t s → Q t (Maps.put t h k v s)
  removing : (t : Bool) (h k : ℕ) (s : Store) → Q t s → Q t (Maps.removed_key t h k s)
  removing_at : (t : Bool) (p : ℕ) (s : Store) → Q t s → Q t (Maps.removed_at p s)
  revaluing : (t : Bool) (p v : ℕ) (s : Store) → Q t s → Q t (Maps.with_value p v s)
  noting : (t : Bool) (z : ℤ) (s : Store) → Q t s → Q t (Maps.noted_key_of z s)

mapped : (Bool → Store → Store) → Option Map → Option Map
mapped f none = none
mapped f (some m) = some record { key_type = m.key_type; value_type = m.value_type; store = f (is_traced m.key_type) m.store }

map_of_rule : (f : Bool → Store → Store) (c : Content) → map_of (on_map f c) ≡ mapped f (map_of c)
unfolding map_of on_map mapped
map_of_rule f (string x) = refl
map_of_rule f (integer x) = refl
map_of_rule f (cell x) = refl
map_of_rule f (error x) = refl
map_of_rule f (box x) = refl
map_of_rule f (array x) = refl
map_of_rule f (map_object x) = refl
map_of_rule f (struct x) = refl
map_of_rule f (closure x) = refl
map_of_rule f (iterator x) = refl
map_of_rule f (coroutine x) = refl

module _ (Q : Bool → Store → Type 0) where
  -- a rule that leaves maps alone
  other : (g : Content → Content) → ((c : Content) → map_of (g c) ≡ map_of c) → (c : Content) → MapFact Q c → MapFact Q (g c)
  other g e c h = record { of_map = λ x l. h.of_map x (sym (e c) ∙ l) }

  on_store : (f : Bool → Store → Store) → ((t : Bool) (s : Store) → Q t s → Q t (f t s)) → (c : Content) → MapFact Q c → MapFact Q (on_map f c)
  unfolding mapped
  on_store f k c h = record { of_map = λ x l. go (map_of c) refl x (sym (map_of_rule f c) ∙ l) }
    where
      go : (o : Option Map) → map_of c ≡ o → (x : Map) → mapped f o ≡ some x → Q (is_traced x.key_type) x.store
      go none e x l = let z : ◌≡◌ {A = ℕ} 0 1 = cc in absurd (omega arith)
      go (some m) e x l = subst (λ (y : Map). Q (is_traced y.key_type) y.store) (some-injective _ _ l) (k (is_traced m.key_type) m.store (h.of_map m e))

  module _ (rules : StoreRules Q) where
    by_call : {v : View} {k : Call} {g : Content → Content} → ((r h x w : ℕ) → k ≡ insert_entry r h x w → (t : Bool) (s : Store) → Q t s → Q t (Maps.inserted t h x w s)) → Rule v k g → (c : Content) → MapFact Q c → MapFact Q (g c)
    unfolding map_of put_box put_cell put_item push_item pop_item put_field put_capture put_register put_part put_state advance
    by_call n (by-box w) = other (put_box w) (box-only map_of _ (λ x. refl))
    by_call n (by-cell w) = other (put_cell w) (cell-only map_of _ (λ x. refl))
    by_call n (by-item i w) = other (put_item i w) (array-only map_of _ (λ x. refl))
    by_call {v} n (by-push w) = other (push_item v w) (array-only map_of _ (λ x. refl))
    by_call n by-pop = other pop_item (array-only map_of _ (λ x. refl))
    by_call n (by_field i w) = other (put_field i w) (struct-only map_of _ (λ x. refl))
    by_call n (by-capture i w) = other (put_capture i w) (closure-only map_of _ (λ x. refl))
    by_call n (by_register i w) = other (put_register i w) (coroutine-only map_of _ (λ x. refl))
    by_call n (by_part p w) = other (put_part p w) (coroutine-only map_of _ (λ x. refl))
    by_call n (by_state s) = other (put_state s) (coroutine-only map_of _ (λ x. refl))
    by_call {v} n by-advance = other (advance v) (iterator-only map_of _ (λ x. refl))
    by_call n (by-put h x w) = on_store _ (λ t s. rules.putting t h x w s)
    by_call n (by-insert {r = r} h x w) = on_store _ (λ t s. n r h x w refl t s)
    by_call n (by-remove h x) = on_store _ (λ t s. rules.removing t h x s)
    by_call n (by-remove-at p) = on_store _ (λ t s. rules.removing_at t p s)
    by_call n (by_value p w) = on_store _ (λ t s. rules.revaluing t p w s)
    by_call n (by-note z) = on_store _ (λ t s. rules.noting t z s)

    finalized : (c : Content) → MapFact Q c → MapFact Q (finalize c)
    unfolding map_of finalize
    finalized = other finalize (coroutine-only map_of _ (λ x. refl))

    swept_too : (f : List ℕ) (w : ℕ) (c : Content) → MapFact Q c → MapFact Q (settled f w c)
    unfolding settled
    swept_too f w c h = go (mem w f)
      where
        go : (b : Bool) → MapFact Q (cond b (finalize c) c)
        go true = finalized c h
        go false = h

    no-map : (c : Content) → map_of c ≡ none → MapFact Q c
    no-map c e = record { of_map = λ x l. let z : ◌≡◌ {A = ℕ} 0 1 = cc (sym e ∙ l) in absurd (omega arith) }

    preserved : {v : View} {k : Call} {e : Effect} → ((r h x w : ℕ) → k ≡ insert_entry r h x w → (t : Bool) (s : Store) → Q t s → Q t (Maps.inserted t h x w s)) → Shape v k e → Preserves (MapFact Q) e
    unfolding Preserves map_of
    preserved n keeps = tt
    preserved n (adds s t) = no-map _ t
    preserved n adds_map = record { of_map = λ x l. subst (λ (y : Map). Q (is_traced y.key_type) y.store) (some-injective _ _ l) (rules.empty _) }
    preserved n adds_iterator = no-map _ refl
    preserved n (changes r) = by_call n r
    preserved {v} n (sweeps roots) = λ w c d e h. subst (MapFact Q) (swept-stays (kept v roots) (finalizable v roots) w c d e).1 (swept_too (finalizable v roots) w c h)

-- ---- packed keys

packed_rules : StoreRules PackedStore
unfolding PackedStore Packed
packed_rules = record {
  empty = λ t e. tt;
  putting = packed-put;
  removing = packed_removed;
  removing_at = λ t p s h. packed_removed_at t p s;
  revaluing = packed-value;
  noting = packed-noted;
}

pub packed-keys : PackedKeysHold
unfolding map_of PackedStore
packed-keys o m opening cs w x l =
    let p = (everywhere (MapFact PackedStore) o m opening cs (λ k i v. preserved PackedStore packed_rules (λ r h y z e t s. packed-inserted t h y z s) (shape v k)) w (map_object x) l).of_map x refl in
    record {
      alive = λ e q i. (packed-at (is_traced x.key_type) 0 x.store.entries q (p e) i).0;
      keys = λ e q i. (packed-at (is_traced x.key_type) 0 x.store.entries q (p e) i).1 ∙ omega arith;
    }

-- ---- single entries

Fine : Bool → Store → Type 0
Fine t s = PackedStore t s × SingleStore s

fine_rules : StoreRules Fine
unfolding Fine PackedStore SingleStore Packed alike
fine_rules = record {
  empty = λ t. (λ e. tt, λ h k. omega arith);
  putting = λ t h k v s f. (packed-put t h k v s f.0, single_put t h k v s f.0 f.1);
  removing = λ t h k s f. (packed_removed t h k s f.0, single_removed t h k s f.1);
  removing_at = λ t p s f. (packed_removed_at t p s, single_removed_at p s f.1);
  revaluing = λ t p v s f. (packed-value t p v s f.0, single_value p v s f.1);
  noting = λ t z s f. (packed-noted t z s f.0, single_noted z s f.1);
}

pub single_entries : SingleEntriesHold
unfolding map_of Fine SingleStore
single_entries o m opening cs none-inserted w x l =
    let f = (everywhere (MapFact Fine) o m opening cs (λ k i v. preserved Fine fine_rules (λ r h y z e. absurd (none-inserted r h y z (subst (λ (c : Call). Memᴰ c cs) e i))) (shape v k)) w (map_object x) l).of_map x refl in
    record {
      one_place = λ p q a b live_p live-q same-hash same_key.
          let e = Maps.entry_of x.store p in
          alike_once e.hash e.key x.store.entries p q (f.1 e.hash e.key) a b (matches-own e live_p)
          (ap (λ (h : ℕ). Maps.matches h e.key (Maps.entry_of x.store q)) same-hash ∙ ap (λ (k : ℕ). Maps.matches (Maps.entry_of x.store q).hash k (Maps.entry_of x.store q)) same_key ∙ matches-own (Maps.entry_of x.store q) live-q);
    }
