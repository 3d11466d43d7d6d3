-- The tables of a map after a change.
use Rattle.std.specs.Prelude.{◌≡◌, ◌≢◌, ℕ, Bool, true, false, cond, List, Some, None, refl}
use Rattle.std.proofs.Common.{sym, ap, ◌∙◌}
use Rattle.std.specs.declared.cmp.Ordering.{Ordering}
use Rattle.std.specs.declared.cmp.Ordering.TheVariants.{Less, Equal, Greater}
use Rattle.std.specs.Ordering.{nat_cmp, is_eq, eq_by_cmp}
use Rattle.std.specs.Cmp.{tied_itself}
use Rattle.std.specs.Cmp.Lexicographic.{slice_cmp}
use Rattle.std.specs.FinMap as maps
use Rattle.std.proofs.lemmas.Cmp.{nat_list_cmp_total}
use Rattle.cells.specs.Cell.{PlainTable}
use Rattle.tables.specs.Tables.{Tables, no_tables, table_at, with_table, without_table}

-- a name compares equal to itself
same_name : (name : List ℕ) → eq_by_cmp (slice_cmp nat_cmp) name name ≡ true
same_name name = ap is_eq (tied_itself nat_list_cmp_total name)

other_name : (a b : List ℕ) → a ≢ b → eq_by_cmp (slice_cmp nat_cmp) a b ≡ false
other_name a b apart = by_order (slice_cmp nat_cmp a b) refl
  where
    by_order : (r : Ordering) → slice_cmp nat_cmp a b ≡ r → is_eq r ≡ false
    by_order Less e = refl
    by_order Greater e = refl
    by_order Equal e = absurd (apart (maps.slice_cmp-IsAntisymmetric maps.nat_cmp-IsAntisymmetric a b e))

pub found_here : (t : Tables) (name : List ℕ) (table : PlainTable) → table_at (with_table t name table) name ≡ Some table
found_here t name table = maps.get-insert nat_list_cmp_total t name table name ∙ ap (λ (b : Bool). cond b (Some table) (table_at t name)) (same_name name)

pub found_elsewhere : (t : Tables) (name : List ℕ) (table : PlainTable) (other : List ℕ) → other ≢ name → table_at (with_table t name table) other ≡ table_at t other
found_elsewhere t name table other apart =
    maps.get-insert nat_list_cmp_total t name table other ∙ ap (λ (b : Bool). cond b (Some table) (table_at t other)) (other_name other name apart)

pub gone_here : (t : Tables) (name : List ℕ) → table_at (without_table t name) name ≡ None
gone_here t name = maps.get-remove nat_list_cmp_total t name name ∙ ap (λ (b : Bool). cond b None (table_at t name)) (same_name name)

pub gone_elsewhere : (t : Tables) (name other : List ℕ) → other ≢ name → table_at (without_table t name) other ≡ table_at t other
gone_elsewhere t name other apart =
    maps.get-remove nat_list_cmp_total t name other ∙ ap (λ (b : Bool). cond b None (table_at t other)) (other_name other name apart)

-- maps with the same table at each name are equal
pub one_map : (a b : Tables) → ((name : List ℕ) → table_at a name ≡ table_at b name) → a ≡ b
one_map a b same = maps.same_map nat_list_cmp_total (maps.slice_cmp-IsAntisymmetric maps.nat_cmp-IsAntisymmetric) a b same

-- ---- two changes

abbrev pub tied : List ℕ → List ℕ → Bool
tied = eq_by_cmp (slice_cmp nat_cmp)

tied_is : (a b : List ℕ) → tied a b ≡ true → a ≡ b
tied_is a b is = by_order (slice_cmp nat_cmp a b) refl is
  where
    by_order : (r : Ordering) → slice_cmp nat_cmp a b ≡ r → is_eq r ≡ true → a ≡ b
    by_order Less e h = absurd (cc h)
    by_order Greater e h = absurd (cc h)
    by_order Equal e h = maps.slice_cmp-IsAntisymmetric maps.nat_cmp-IsAntisymmetric a b e

pub at_with : (t : Tables) (name : List ℕ) (table : PlainTable) (q : List ℕ) → table_at (with_table t name table) q ≡ cond (tied q name) (Some table) (table_at t q)
at_with t name table q = maps.get-insert nat_list_cmp_total t name table q

pub at_without : (t : Tables) (name q : List ℕ) → table_at (without_table t name) q ≡ cond (tied q name) None (table_at t q)
at_without t name q = maps.get-remove nat_list_cmp_total t name q

swapped : {A : Type 0} (p r : Bool) (x y z : A) → (p ≡ true → r ≡ true → ⊥) → cond p x (cond r y z) ≡ cond r y (cond p x z)
swapped true true x y z apart = absurd (apart refl refl)
swapped true false x y z apart = refl
swapped false r x y z apart = refl

shadowed : {A : Type 0} (p : Bool) (x y z : A) → cond p x (cond p y z) ≡ cond p x z
shadowed true x y z = refl
shadowed false x y z = refl

not_both : (a b : List ℕ) → a ≢ b → (q : List ℕ) → tied q a ≡ true → tied q b ≡ true → ⊥
not_both a b apart q one two = apart (sym (tied_is q a one) ∙ tied_is q b two)

-- puts at two different names commute
pub put_apart : (t : Tables) (a b : List ℕ) (x y : PlainTable) → a ≢ b → with_table (with_table t a x) b y ≡ with_table (with_table t b y) a x
put_apart t a b x y apart =
    one_map (with_table (with_table t a x) b y) (with_table (with_table t b y) a x)
    (λ q. at_with (with_table t a x) b y q ∙ ap (cond (tied q b) (Some y)) (at_with t a x q) ∙ swapped (tied q b) (tied q a) (Some y) (Some x) (table_at t q) (λ one two. not_both a b apart q two one)
    ∙ ap (cond (tied q a) (Some x)) (sym (at_with t b y q)) ∙ sym (at_with (with_table t b y) a x q))

-- a second put at a name replaces the first
pub put_over : (t : Tables) (name : List ℕ) (x y : PlainTable) → with_table (with_table t name x) name y ≡ with_table t name y
put_over t name x y =
    one_map (with_table (with_table t name x) name y) (with_table t name y)
    (λ q. at_with (with_table t name x) name y q ∙ ap (cond (tied q name) (Some y)) (at_with t name x q) ∙ shadowed (tied q name) (Some y) (Some x) (table_at t q) ∙ sym (at_with t name y q))

-- removing a table that was just put at a free name restores the map
pub put_and_taken : (t : Tables) (name : List ℕ) (table : PlainTable) → table_at t name ≡ None → without_table (with_table t name table) name ≡ t
put_and_taken t name table none =
    one_map (without_table (with_table t name table) name) t (λ q. at_without (with_table t name table) name q ∙ ap (cond (tied q name) None) (at_with t name table q) ∙ by_test q (tied q name) refl)
  where
    by_test : (q : List ℕ) (b : Bool) → tied q name ≡ b → cond b None (cond b (Some table) (table_at t q)) ≡ table_at t q
    by_test q true e = sym (ap (table_at t) (tied_is q name e) ∙ none)
    by_test q false e = refl

-- a put and a removal at different names commute
pub put_not_taken : (t : Tables) (a b : List ℕ) (table : PlainTable) → a ≢ b → without_table (with_table t a table) b ≡ with_table (without_table t b) a table
put_not_taken t a b table apart =
    one_map (without_table (with_table t a table) b) (with_table (without_table t b) a table)
    (λ q. at_without (with_table t a table) b q ∙ ap (cond (tied q b) None) (at_with t a table q) ∙ swapped (tied q b) (tied q a) None (Some table) (table_at t q) (λ one two. not_both a b apart q two one)
    ∙ ap (cond (tied q a) (Some table)) (sym (at_without t b q)) ∙ sym (at_with (without_table t b) a table q))

-- removing from the empty map leaves it empty
pub none_taken : (name : List ℕ) → without_table no_tables name ≡ no_tables
none_taken name = one_map (without_table no_tables name) no_tables (λ q. at_without no_tables name q ∙ by_test q (tied q name))
  where
    none : (q : List ℕ) → table_at no_tables q ≡ None
    none q = maps.get-empty (slice_cmp nat_cmp) q

    by_test : (q : List ℕ) (b : Bool) → cond b None (table_at no_tables q) ≡ table_at no_tables q
    by_test q true = sym (none q)
    by_test q false = refl
