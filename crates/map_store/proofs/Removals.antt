-- An entry is taken out of a hashed store.
use Rattle.std.proofs.Common.{◌≡◌, ℕ, ◌+◌, ◌-◌, ◌*◌, ◌%◌, ◌<◌, ◌≤◌, Bool, true, false, cond, ◌&&◌, ◌≢◌, List, length, get_or, set, sym, refl, ap, ◌∙◌, subst, arith, length-set, get_or-set_other, get_or-set_same, ltb-true, le-ltb, lt-ltb, eq-eqb, ne_eqb}
use Rattle.probing.specs.Table.{vacancy}
use Rattle.map_store.specs.Half.{held}
use Rattle.map_store.specs.Store as S
use Rattle.map_store.specs.StoreLaws.{live_le, live-set, live-only, length-only}
use Rattle.map_store.specs.View.{entry_at, entries_in, store_of, room_of}
use Rattle.map_store.specs.Map.{Mapped, Framed, Alive, Sits, Good, Indexed, Became, Rebuildable, Rebuilt, Squeezed, live_in}
use Rattle.map_store.proofs.Parts.{Tightened, Taken, killed_at, lessened_to}
use Rattle.map_store.specs.Entries.{length_entries, entries_at, entries_below, entries_set, entry_same}
use Rattle.map_store.specs.Numbered.{Numbered, numbered_dead, numbered_settled}
use Rattle.map_store.specs.declared.MapStore.{MapStore}
use Rattle.map_store.proofs.Calls.{places_are, entry_of_lem}

first : (a b : Bool) → (a && b) ≡ true → a ≡ true
first true b e = refl
first false b e = e

-- tighten
module _ (cells : List ℕ) (ib n m : ℕ) (R : Rebuildable cells ib n m) (cells₁ : List ℕ) (r : ℕ) (Q : Squeezed cells cells₁ m r) where
  all_live : live_in cells₁ r ≡ live_in cells m
  all_live = ap S.live_of Q.entries ∙ live-only (entries_in cells 0 m)

  pub squeezed_able : Rebuildable cells₁ ib n r
  squeezed_able =
      record {
        entries = omega (arith, Q.fewer, R.entries);
        index = omega (arith, R.index, Q.same_length);
        size = R.size;
        least = R.least;
        half_full = omega (arith, R.half_full, all_live);
        small = omega (arith, R.small, Q.same_length);
      }

  pub tightened : (cells₂ : List ℕ) → Rebuilt cells₁ cells₂ ib n r → Tightened cells cells₂ ib n m r
  tightened cells₂ Z =
      record {
        same_length = Z.frame.same_length ∙ Q.same_length;
        fewer = Q.fewer;
        entries = entries_below cells₁ cells₂ r ib (omega (arith, Q.fewer, R.entries)) Z.frame.before ∙ Q.entries;
        indexed = rw all_live at Z.indexed;
      }

-- take: cells₁ is without the entry
module _ (cells : List ℕ) (ib n m l pos slot : ℕ) (X : Indexed cells ib n m l) (L : l ≡ live_in cells m) (small : length cells ≤ 1048576) (T : Sits cells ib n m slot pos) where
  flagged : List ℕ
  flagged = set cells (pos * 5 + 4) 0

  here : get_or (entries_in cells 0 m) pos S.blank ≡ entry_at cells pos
  here = entries_at cells 0 m pos T.2.0 ∙ ap (entry_at cells) (let e : 0 + pos ≡ pos = omega arith in e)

  lived : (get_or (entries_in cells 0 m) pos S.blank).live ≡ true
  unfolding entry_at
  lived = ap (λ (e : S.Entry). e.live) here ∙ eq-eqb _ _ T.2.1

  fewer : S.live_of (killed_at pos (entries_in cells 0 m)) + 1 ≡ l
  fewer =
      let e = live-set (entries_in cells 0 m) pos (S.killed (get_or (entries_in cells 0 m) pos S.blank)) (omega (arith, length_entries cells 0 m, T.2.0)) in
      let o : S.one (get_or (entries_in cells 0 m) pos S.blank).live ≡ 1 = ap S.one lived in
      omega (arith, e, o, L)

  pub some-live : 1 ≤ l
  some-live = omega (arith, fewer)

  pub live_most : l ≤ m
  live_most = omega (arith, L, live_le (entries_in cells 0 m), length_entries cells 0 m)

  inside : pos * 5 + 4 < length cells
  inside = omega (arith, X.mapped.entries, X.mapped.index, T.2.0)

  dies : entry_at flagged pos ≡ S.killed (entry_at cells pos)
  unfolding entry_at flagged
  dies =
      let e0 = get_or-set_other cells (pos * 5 + 4) (pos * 5) 0 0 (omega arith) in
      let e1 = get_or-set_other cells (pos * 5 + 4) (pos * 5 + 1) 0 0 (omega arith) in
      let e2 = get_or-set_other cells (pos * 5 + 4) (pos * 5 + 2) 0 0 (omega arith) in
      let e3 = get_or-set_other cells (pos * 5 + 4) (pos * 5 + 3) 0 0 (omega arith) in
      let e4 = get_or-set_same cells (pos * 5 + 4) 0 0 (omega (arith, inside)) in
      rw (e0, e1, e2, e3, e4)

  module _ (cells₁ : List ℕ) (M : Mapped cells₁ ib n m) (F : Framed (set cells (pos * 5 + 4) 0) cells₁ ib n)
      (v : vacancy n (held cells₁ ib) ≡ vacancy n (held cells ib) + 1) where
    es : entries_in cells₁ 0 m ≡ killed_at pos (entries_in cells 0 m)
    unfolding flagged
    es =
        let z : 0 + pos ≡ pos = omega arith in
        entries_below flagged cells₁ m ib X.mapped.entries F.before
        ∙ entries_set cells flagged 0 m pos T.2.0 (λ q a b ne. entry_same cells flagged q (λ i l u. get_or-set_other cells (pos * 5 + 4) i 0 0 (omega arith)))
        ∙ ap (set (entries_in cells 0 m) pos) (ap (entry_at flagged) z ∙ dies ∙ ap S.killed (sym here))

    same_length : length cells₁ ≡ length cells
    same_length = F.same_length ∙ length-set cells (pos * 5 + 4) 0

    left : live_in cells₁ m ≡ l - 1
    left = omega (arith, ap S.live_of es, fewer)

    pub left-able : Rebuildable cells₁ ib n m
    left-able =
        record {
          entries = M.entries;
          index = M.index;
          size = M.table.size;
          least = X.least;
          half_full = omega (arith, X.half_full, left);
          small = omega (arith, small, same_length);
        }

    kept : (b : Bool) → S.compacts (m - (l - 1)) (l - 1) ≡ b → b ≡ false → Taken cells cells₁ ib n m l pos m
    kept b e f =
        let g = e ∙ f in
        record {
          same_length = same_length;
          places = rw g;
          entries = rw g es;
          indexed = record { mapped = M; room = omega (arith, v, X.room, some-live); half_full = omega (arith, X.half_full); least = X.least };
        }

    pub taken-few : m - (l - 1) ≤ 16 → Taken cells cells₁ ib n m l pos m
    unfolding S.compacts
    taken-few a = kept _ refl (rw (le-ltb _ _ a))

    pub taken_less : 16 < m - (l - 1) → m - (l - 1) ≤ l - 1 → Taken cells cells₁ ib n m l pos m
    unfolding S.compacts
    taken_less a b = kept _ refl (rw (lt-ltb _ _ a, le-ltb _ _ b))

    pub tight-places : (cells₂ : List ℕ) (r : ℕ) → Tightened cells₁ cells₂ ib n m r → r ≡ l - 1
    tight-places cells₂ r Z = sym (length_entries cells₂ 0 r) ∙ ap length Z.entries ∙ length-only (entries_in cells₁ 0 m) ∙ left

    pub taken-tight : 16 < m - (l - 1) → l - 1 < m - (l - 1) → (cells₂ : List ℕ) (r : ℕ) → Tightened cells₁ cells₂ ib n m r → Taken cells cells₂ ib n m l pos r
    unfolding S.compacts
    taken-tight a b cells₂ r Z =
        let g : S.compacts (m - (l - 1)) (l - 1) ≡ true = rw (lt-ltb _ _ a, lt-ltb _ _ b) in
        record {
          same_length = Z.same_length ∙ same_length;
          places = rw g (tight-places cells₂ r Z);
          entries = rw g (Z.entries ∙ ap S.live_only es);
          indexed = rw left at Z.indexed;
        }

-- the store afterwards
abbrev pub less : MapStore → ℕ → ℕ → MapStore
less s len epoch = record { noted = s.noted; len = len; live = s.live - 1; fresh = s.fresh; capacity = s.capacity; index = s.index; epoch = epoch; hashed = s.hashed }

module _ (s : MapStore) (cells : List ℕ) (pos : ℕ) (G : Good s cells) where
  abbrev dead : S.Store
  dead = S.with_dead pos (store_of s cells)

  abbrev crowded : Bool
  crowded = S.compacts (s.len - (s.live - 1)) (s.live - 1)

  module _ (cells' : List ℕ) (r : ℕ) (T : Taken cells cells' (s.capacity * 5) s.index s.len s.live pos r)
      (A : Alive cells s.len pos) where
    lives : S.living dead ≡ s.live - 1
    unfolding S.with_dead entry_at
    lives =
        let e = live-set (entries_in cells 0 s.len) pos (S.killed (S.entry_of (store_of s cells) pos)) (rw (places_are s cells) A.0) in
        let o : S.one (S.entry_of (store_of s cells) pos).live ≡ 1 = ap (λ (x : S.Entry). S.one x.live) (entry_of_lem s cells pos A.0) ∙ ap S.one (eq-eqb _ _ A.1) in
        omega (arith, e, o, G.live)

    place_count : S.places dead ≡ s.len
    unfolding S.with_dead
    place_count = length-set (entries_in cells 0 s.len) pos _ ∙ places_are s cells

    crowd : S.compacts (S.dead dead) (S.living dead) ≡ crowded
    crowd = ap (λ (d : ℕ). S.compacts d (S.living dead)) (let e : S.dead dead ≡ s.len - (s.live - 1) = omega (arith, lives, place_count) in e)
        ∙ ap (S.compacts (s.len - (s.live - 1))) lives

    -- the two ways of a removal
    both : (b : Bool) → crowded ≡ b → (r ≡ cond b (s.live - 1) s.len) × (entries_in cells' 0 r ≡ cond b (S.live_only dead.entries) dead.entries)
    unfolding S.with_dead
    both b e = (rw e at T.places, rw e at T.entries)

    after : (b : Bool) → crowded ≡ b → store_of (lessened_to s r) cells' ≡ cond b (S.compacted dead) dead
    unfolding S.with_dead S.compacted S.compacts
    after true e =
        let w = both true e in
        let few : r ≢ s.len = (let d = ltb-true 16 (s.len - (s.live - 1)) (first _ _ e) in omega (arith, w.0)) in
        rw (w.1, ne_eqb r s.len few)
    after false e =
        let w = both false e in
        rw (w.1, eq-eqb r s.len w.0)

    live-after : (b : Bool) → crowded ≡ b → s.live - 1 ≡ live_in cells' r
    live-after true e = sym (ap S.live_of (both true e).1 ∙ live-only dead.entries ∙ lives)
    live-after false e = sym (ap S.live_of (both false e).1 ∙ lives)

    places-after : (b : Bool) → crowded ≡ b → r ≤ s.len
    places-after true e = omega (arith, (both true e).0, G.live, live_le (entries_in cells 0 s.len), length_entries cells 0 s.len)
    places-after false e = omega (arith, (both false e).0)

    settled_is : store_of (lessened_to s r) cells' ≡ S.settled dead
    unfolding S.settled
    settled_is = after crowded refl ∙ ap (λ (b : Bool). cond b (S.compacted dead) dead) (sym crowd)

    pub lessened_became : Became (λ t. S.settled (S.with_dead pos t)) (room_of s) s cells (lessened_to s r) cells'
    lessened_became =
        record {
          store = settled_is;
          room = refl;
          good = record {
            live = live-after crowded refl;
            fits = omega (arith, G.fits, places-after crowded refl);
            room = omega (arith, G.room, T.same_length);
            small = omega (arith, G.small, T.same_length);
            numbers = G.numbers;
            numbered = subst Numbered (sym settled_is) (numbered_settled dead (numbered_dead pos (store_of s cells) G.numbered));
            packed = G.packed;
            indexed = λ k. T.indexed;
          };
        }

    pub took-fewer : r ≢ s.len → Became (λ t. S.settled (S.with_dead pos t)) (room_of s) s cells (less s r ((s.epoch + 1) % 4294967296)) cells'
    took-fewer ne = rw (ne_eqb r s.len ne) at lessened_became

  pub took-kept : (cells' : List ℕ) → Taken cells cells' (s.capacity * 5) s.index s.len s.live pos s.len → Alive cells s.len pos
      → Became (λ t. S.settled (S.with_dead pos t)) (room_of s) s cells (less s s.len s.epoch) cells'
  took-kept cells' T A = rw (eq-eqb s.len s.len refl) at (lessened_became cells' s.len T A)
