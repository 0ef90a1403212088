-- A section lists what the layout has of its type or function; the table of a layout's starts describes it. Assumes nothing.
use mathlib.Core.Path.{◌≡◌, refl, sym, ◌∙◌, ap, subst}
use Prim.Native.Nat.{ℕ, zero, suc, ◌+◌, ◌≤◌, ◌<◌}
use native.Mathlib.Omega.{arith}
use native.Mathlib.Nat.{add-zero}
use mathlib.Core.Bool.{Bool, true, false}
use mathlib.Core.List.{List, [], ◌∷◌, map}
use mathlib.Core.Option.{Option, none, some}
use lib.Dec.{eqb, leb}
use lib.ListN.{length, get_or, set, length-set, length-map, get_or-map, get_or-eq_default}
use lib.Seq.{drop-length, sets, length-sets, get_or-set_same, get_or-set_other}
use borrow.Author.Tests.{le-leb, lt-leb}
use Rattle.std.proofs.Math.Bool.{and-false}
use Rattle.layout.specs.Layout.{Layout, Function, no_function, at_last, parse, fields_of}
use Rattle.layout.specs.Sections.{is_given, or_empty, is_layout, layout_of, operand_bytes, cons_if, starts_from, starts, section_at, listed, fields_from, SectionStarts, Tabled, table_of, readable, table_after, LayoutRead, StructSection, FunctionSection, SectionAt, begin_of, base_of, count_of}
use Rattle.layout.specs.declared.Section.{Section}
use Rattle.layout.specs.declared.Section.TheVariants as Kind
use Rattle.std.specs.Prelude.{Ok, Err}
use Rattle.layout.proofs.Accepting.{by_test}
use Rattle.layout.proofs.Parsed.{Sections, parsed, add_fields, add_lists, function_at}

-- ---- starts lie within the bytes

cons_if_within : (t : Bool) (x most : ℕ) (xs : List ℕ) → x ≤ most → ((n d : ℕ) → d ≤ most → get_or xs n d ≤ most) → (n d : ℕ) → d ≤ most → get_or (cons_if t x xs) n d ≤ most
cons_if_within true x most xs h go zero d e = h
cons_if_within true x most xs h go (suc n) d e = go n d e
cons_if_within false x most xs h go n d e = go n d e

starts-within : (c : ℕ) (bs : List ℕ) (k p n d : ℕ) → d ≤ p + length bs → get_or (starts_from c k p bs) n d ≤ p + length bs
unfolding starts_from
starts-within c [] k p n d h = h
starts-within c (b ∷ bs) (suc k) p n d h = omega (arith, starts-within c bs k (suc p) n d (omega arith))
starts-within c (b ∷ bs) zero p n d h =
    cons_if_within (eqb b c) (suc p) (p + suc (length bs)) (starts_from c (operand_bytes b) (suc p) bs) (omega arith)
    (λ n d e. omega (arith, starts-within c bs (operand_bytes b) (suc p) n d (omega arith)))
    n d h

pub section_within : (c : ℕ) (bs : List ℕ) (n : ℕ) → section_at c bs n ≤ length bs
section_within c bs n = omega (arith, starts-within c bs 0 0 n (length bs) (omega arith))

-- ---- lookups

given_some : (o : Option Layout) → is_given o ≡ true → o ≡ some (or_empty o)
given_some none e = let z : ◌≡◌ {A = ℕ} 0 1 = cc in absurd (omega arith)
given_some (some l) e = refl

none_given : (o : Option Layout) → is_given o ≡ false → o ≡ none
none_given none e = refl
none_given (some l) e = let z : ◌≡◌ {A = ℕ} 0 1 = cc in absurd (omega arith)

-- the bytes are no layout
pub none-parsed : (bs : List ℕ) → is_layout bs ≡ false → parse bs ≡ none
unfolding is_layout
none-parsed bs h = none_given (parse bs) h

pub tabled-layout : (bs t : List ℕ) → Tabled bs t → is_layout bs ≡ true
unfolding is_layout
tabled-layout bs t g = rw g.parsed

module _ (bs : List ℕ) (h : is_layout bs ≡ true) where
  pub layout-parsed : parse bs ≡ some (layout_of bs)
  unfolding is_layout layout_of
  layout-parsed = given_some (parse bs) h

  whole : Sections bs bs record { structs = []; functions = [] } 0 0 0 (layout_of bs)
  unfolding parse
  whole = parsed bs bs record { structs = []; functions = [] } 0 0 0 (layout_of bs) layout-parsed refl

  structs_are : (layout_of bs).structs ≡ map (fields_from bs) (starts 1 bs)
  unfolding add_fields at_last
  structs_are = whole.structs

  functions_are : (layout_of bs).functions ≡ map (function_at bs) (starts 3 bs)
  unfolding add_lists at_last
  functions_are = whole.functions

  pub structs_most : length (starts 1 bs) ≤ 256
  structs_most = omega (arith, whole.structs_most (omega arith), ap length structs_are, length-map (starts 1 bs) (fields_from bs))

  pub functions_most : length (starts 3 bs) ≤ 256
  functions_most = omega (arith, whole.functions_most (omega arith), ap length functions_are, length-map (starts 3 bs) (function_at bs))

  pub fields_at : (n : ℕ) → fields_from bs (section_at 1 bs n) ≡ fields_of (layout_of bs) n
  unfolding listed
  fields_at n =
      let e : get_or (map (fields_from bs) (starts 1 bs)) n (fields_from bs (length bs)) ≡ fields_from bs (section_at 1 bs n) = get_or-map (fields_from bs) (starts 1 bs) n (length bs) in
      let d : fields_from bs (length bs) ≡ [] = rw (drop-length bs) in
      rw structs_are (sym e ∙ ap (λ x. get_or (map (fields_from bs) (starts 1 bs)) n x) d)

  function-at : (n : ℕ) → function_at bs (section_at 3 bs n) ≡ get_or (layout_of bs).functions n no_function
  unfolding listed
  function-at n =
      let e : get_or (map (function_at bs) (starts 3 bs)) n (function_at bs (length bs)) ≡ function_at bs (section_at 3 bs n) = get_or-map (function_at bs) (starts 3 bs) n (length bs) in
      let d : function_at bs (length bs) ≡ no_function = rw (drop-length bs) in
      rw functions_are (sym e ∙ ap (λ x. get_or (map (function_at bs) (starts 3 bs)) n x) d)

  pub struct_section : (n : ℕ) → StructSection bs n (section_at 1 bs n)
  struct_section n = record { place = refl; within = section_within 1 bs n; fields = fields_at n }

  pub function_section : (n : ℕ) → FunctionSection bs n (section_at 3 bs n)
  function_section n =
      record {
        place = refl;
        within = section_within 3 bs n;
        registers = ap (λ (f : Function). f.registers) (function-at n);
        captures = ap (λ (f : Function). f.captures) (function-at n);
      }

-- ---- the table

-- a list written from a place on
sets_below : (vs t : List ℕ) (i j : ℕ) → j < i → get_or (sets t i vs) j 0 ≡ get_or t j 0
sets_below [] t i j h = refl
sets_below (v ∷ vs) t i j h = sets_below vs (set t i v) (suc i) j (omega arith) ∙ get_or-set_other t i j v 0 (λ e. omega arith)

sets_above : (vs t : List ℕ) (i j : ℕ) → i + length vs ≤ j → get_or (sets t i vs) j 0 ≡ get_or t j 0
sets_above [] t i j h = refl
sets_above (v ∷ vs) t i j h = sets_above vs (set t i v) (suc i) j (omega arith) ∙ get_or-set_other t i j v 0 (λ e. omega arith)

sets_inside : (vs t : List ℕ) (i n : ℕ) → i + length vs ≤ length t → n < length vs → get_or (sets t i vs) (i + n) 0 ≡ get_or vs n 0
sets_inside [] t i n f h = absurd (omega arith)
sets_inside (v ∷ vs) t i zero f h = rw (add-zero i) (sets_below vs (set t i v) (suc i) i (omega arith) ∙ get_or-set_same t i v 0 (omega arith))
sets_inside (v ∷ vs) t i (suc n) f h =
    let e : i + suc n ≡ suc i + n = omega arith in
    rw e (sets_inside vs (set t i v) (suc i) n (omega (arith, length-set t i v)) (omega arith))

module _ (bs t : List ℕ) where
  first : List ℕ
  first = sets t 0 (starts 1 bs)

  second : List ℕ
  second = sets first 256 (starts 3 bs)

  second-len : length second ≡ length t
  unfolding first second
  second-len = length-sets first 256 (starts 3 bs) ∙ length-sets t 0 (starts 1 bs)

  -- what stands in the table but for the two counts
  rest_at : (i : ℕ) → (i ≡ 512 → ⊥) → (i ≡ 513 → ⊥) → get_or (table_of bs t) i 0 ≡ get_or second i 0
  unfolding table_of first second
  rest_at i a b =
      get_or-set_other (set second 512 (length (starts 1 bs))) 513 i (length (starts 3 bs)) 0 b ∙ get_or-set_other second 512 i (length (starts 1 bs)) 0 a

  pub table-len : length (table_of bs t) ≡ length t
  unfolding table_of first second
  table-len =
      length-set (set second 512 (length (starts 1 bs))) 513 (length (starts 3 bs)) ∙ length-set second 512 (length (starts 1 bs)) ∙ second-len

  module _ (h : is_layout bs ≡ true) (room : 514 ≤ length t) where
    pub table-tabled : Tabled bs (table_of bs t)
    unfolding table_of first second
    table-tabled =
        let s : length (starts 1 bs) ≤ 256 = structs_most bs h in
        let f : length (starts 3 bs) ≤ 256 = functions_most bs h in
        let n : length second ≡ length t = second-len in
        let m : length first ≡ length t = length-sets t 0 (starts 1 bs) in
        let k : length (set second 512 (length (starts 1 bs))) ≡ length second = length-set second 512 (length (starts 1 bs)) in
        record {
          parsed = layout-parsed bs h;
          room = omega (arith, table-len);
          structs = record {
            count =
                get_or-set_other (set second 512 (length (starts 1 bs))) 513 512 (length (starts 3 bs)) 0 (λ e. omega arith)
                ∙ get_or-set_same second 512 (length (starts 1 bs)) 0 (omega arith);
            at = λ i l.
                rest_at (0 + i) (λ e. omega arith) (λ e. omega arith)
                ∙ sets_below (starts 3 bs) first 256 (0 + i) (omega arith)
                ∙ sets_inside (starts 1 bs) t 0 i (omega arith) l;
          };
          functions = record {
            count = get_or-set_same (set second 512 (length (starts 1 bs))) 513 (length (starts 3 bs)) 0 (omega arith);
            at = λ i l.
                rest_at (256 + i) (λ e. omega arith) (λ e. omega arith)
                ∙ sets_inside (starts 3 bs) first 256 i (omega arith) l;
          };
        }

    pub table-past : (i : ℕ) → 514 ≤ i → get_or (table_of bs t) i 0 ≡ get_or t i 0
    unfolding first second
    table-past i p =
        let s : length (starts 1 bs) ≤ 256 = structs_most bs h in
        let f : length (starts 3 bs) ≤ 256 = functions_most bs h in
        rest_at i (λ e. omega arith) (λ e. omega arith)
        ∙ sets_above (starts 3 bs) first 256 i (omega arith)
        ∙ sets_above (starts 1 bs) t 0 i (omega arith)

-- ---- the two outcomes of reading a layout

unreadable : (bs t : List ℕ) → readable bs t ≡ false → 514 ≤ length t → is_layout bs ≡ false
unreadable bs t e room = by_test (is_layout bs) (λ h. let f : true ≡ false = rw (h, le-leb 514 (length t) room) at e in let z : ◌≡◌ {A = ℕ} 0 1 = cc in absurd (omega arith)) (λ h. h)

module _ (bs t : List ℕ) where
  pub read_accepted : is_layout bs ≡ true → 514 ≤ length t → LayoutRead bs t (table_of bs t) (Ok tt)
  unfolding table_after
  read_accepted h room =
      let r : leb 514 (length t) ≡ true = le-leb 514 (length t) room in
      record {
        number = rw (h, r);
        table = rw (h, r);
        tabled = λ e. table-tabled bs t h room;
        refused = λ f. let z : ◌≡◌ {A = ℕ} 0 1 = cc in absurd (omega arith);
        len = table-len bs t;
        past = table-past bs t h room;
      }

  read_refused : readable bs t ≡ false → LayoutRead bs t t (Err record {})
  unfolding table_after
  read_refused e =
      record {
        number = rw e;
        table = rw e;
        tabled = λ f. let z : ◌≡◌ {A = ℕ} 0 1 = cc in absurd (omega arith);
        refused = λ f room. none-parsed bs (unreadable bs t e room);
        len = refl;
        past = λ i p. refl;
      }

  pub read_short : length t < 514 → LayoutRead bs t t (Err record {})
  read_short h = read_refused (rw (lt-leb 514 (length t) h) (and-false (is_layout bs)))

  pub read_bad : is_layout bs ≡ false → LayoutRead bs t t (Err record {})
  read_bad h = read_refused (rw h)

-- ---- what a table of the layout says of a number

get_d_any : (xs : List ℕ) (n d e : ℕ) → n < length xs → get_or xs n d ≡ get_or xs n e
get_d_any [] n d e h = absurd (omega arith)
get_d_any (x ∷ xs) zero d e h = refl
get_d_any (x ∷ xs) (suc n) d e h = get_d_any xs n d e (omega arith)

module _ (bs t : List ℕ) (c base place : ℕ) (s : SectionStarts bs t c base place) (n : ℕ) where
  known_place : n < get_or t place 0 → get_or t (base + n) 0 ≡ section_at c bs n
  known_place h =
      let i : n < length (starts c bs) = omega (arith, s.count) in
      s.at n i ∙ get_d_any (starts c bs) n 0 (length bs) i

  unknown-place : get_or t place 0 ≤ n → length bs ≡ section_at c bs n
  unknown-place h = sym (get_or-eq_default (starts c bs) (length bs) (omega (arith, s.count)))

pub starts_most : (k : Section) (bs : List ℕ) → is_layout bs ≡ true → length (starts (begin_of k) bs) ≤ 256
starts_most Kind.Struct bs h = structs_most bs h
starts_most Kind.Function bs h = functions_most bs h

section_there : (k : Section) (bs : List ℕ) → is_layout bs ≡ true → (n : ℕ) → SectionAt k bs n (section_at (begin_of k) bs n)
section_there Kind.Struct bs h n = struct_section bs h n
section_there Kind.Function bs h n = function_section bs h n

starts_there : (k : Section) (bs t : List ℕ) → Tabled bs t → SectionStarts bs t (begin_of k) (base_of k) (count_of k)
starts_there Kind.Struct bs t g = g.structs
starts_there Kind.Function bs t g = g.functions

pub base_most : (k : Section) → base_of k ≤ 256
base_most Kind.Struct = omega arith
base_most Kind.Function = omega arith

module _ (bs t : List ℕ) (g : Tabled bs t) (k : Section) (n : ℕ) where
  section_from : (p : ℕ) → p ≡ section_at (begin_of k) bs n → SectionAt k bs n p
  section_from p e = subst (SectionAt k bs n) (sym e) (section_there k bs (tabled-layout bs t g) n)

  pub section-inside : n < get_or t (count_of k) 0 → base_of k + n < 512
  section-inside h =
      let s = starts_there k bs t g in
      omega (arith, s.count, starts_most k bs (tabled-layout bs t g), base_most k)

  pub section_known : n < get_or t (count_of k) 0 → SectionAt k bs n (get_or t (base_of k + n) 0)
  section_known h = section_from (get_or t (base_of k + n) 0) (known_place bs t (begin_of k) (base_of k) (count_of k) (starts_there k bs t g) n h)

  pub section-unknown : get_or t (count_of k) 0 ≤ n → SectionAt k bs n (length bs)
  section-unknown h = section_from (length bs) (unknown-place bs t (begin_of k) (base_of k) (count_of k) (starts_there k bs t g) n h)
