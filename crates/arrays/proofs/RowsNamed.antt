-- The cells of a dictionary column of arrays are no more distinct values than its indices name.
use Rattle.std.specs.Prelude.{ℤ, pos, negsuc, neg_ℤ, int_lt, int_le, not, ◌&&◌, ◌||◌, nat_le, nat_eq, slice_get, is_some, if◌then◌else◌}
use Rattle.std.specs.List.{AllByRecursion, list_any, list_all, flat_map, range_with_len}
use Rattle.std.specs.List.{IsDistinct}
use Rattle.std.specs.Cmp.{nat_eq_equiv}
use Rattle.std.proofs.Common.{◌≡◌, ◌⊎◌, inl, inr, ℕ, zero, suc, ◌+◌, ◌-◌, ◌*◌, ◌/◌, ◌^◌, ◌≤◌, ◌<◌, Bool, true, false, List, [], ◌∷◌, ◌++◌, map, length, drop, get_or, Option, Some, None, refl, sym, ap, subst, arith, ◌∙◌}
use Rattle.std.proofs.lemmas.Bool.{and_parts, and_from, or_parts, or_from, le-leb, eqb-true, not-true}
use Rattle.std.proofs.lemmas.Bool.Decides.{Decides-int_eq}
use Rattle.std.proofs.lemmas.Int.{ints}
use Rattle.std.proofs.lemmas.List.{length-map, map-append}
use Rattle.std.proofs.lemmas.List.Folds.{list_all-append, list_any-append}
use Rattle.std.proofs.lemmas.Map.Keys.{IsDistinct-push}
use Rattle.std.proofs.lemmas.Map.Steps.{length-le_from_distinct_below}
use Rattle.std.proofs.lemmas.Slice.Eq.{bytes_eq-Decides}
use Rattle.arrow_schema.specs.Column.{is_bit_width, Index, Pair, Kind, Column, Columns, lists, large_lists, fixed_lists, structs, column, no_column, and_column, columns_of, PlainSchema}
use Rattle.arrow_schema.specs.Limits.{IsWithinLimits, is_nested, is_kind_of_width, has_flat_dictionary, has_bit_widths}
use Rattle.arrow_schema.specs.Preorder.{preorder, preorder_below, preorder_all}
use Rattle.cells.specs.Cell.{Cell, null, boolean, number, text, bytes, items, parts, cells_of, cell_list}
use Rattle.cells.specs.Dictionary.{Holding, item_list, part_list, cells_at, holdings, holdings_below, holdings_from, entry_in, is_entry, with_new, with_entry, with_entries, entries_of, has_few_entries, is_within, entry_limit, dictionaries_fit}
use Rattle.cells.specs.Fit.{in_range}
use Rattle.cells.specs.laws.Ranges.{integer_fits}
use Rattle.cells.specs.laws.Entries.{none_below}
use Rattle.cells.specs.laws.Cells.{cells_listed}
use Rattle.columns.specs.Array.{Array, Arrays, items_in, children_in, dictionary_in, indices_in, first_array, other_arrays}
use Rattle.columns.specs.CellAt.{is_valid, number_at, span_start, span_size, cells_from, entries_of_kind, entry_at, index_at, cell_at, kind_cell, part_cells, rows_in, row_at}
use Rattle.columns.specs.laws.Held.{AreSoundColumns, HaveFew}
use Rattle.arrays.specs.Bytes.{are_bytes, has_bytes, have_bytes}
use Rattle.arrays.specs.Shared.{SharesEntries, SharesBelow, ShareEntries, AreRowsSharing}
use Rattle.arrays.proofs.RowsFit.{sound_columns, front_sound, rest_sound, small_number, items_bytes, children_bytes, dictionary_bytes, first_bytes}

-- ---- distinct entries are named by distinct numbers

each_append : {X : Type 0} (P : X → Type 0) (xs ys : List X) → AllByRecursion P xs → AllByRecursion P ys → AllByRecursion P (xs ++ ys)
each_append P [] ys a b = b
each_append P (x ∷ xs) ys a b = (a.0, each_append P xs ys a.1 b)

each_below : {X Y : Type 0} (P : X → Type 0) (Q : Y → Type 0) (f : X → List Y) → ((x : X) → P x → AllByRecursion Q (f x)) → (xs : List X) → AllByRecursion P xs → AllByRecursion Q (flat_map f xs)
each_below P Q f h [] e = tt
each_below P Q f h (x ∷ xs) e = each_append Q (f x) (flat_map f xs) (h x e.0) (each_below P Q f h xs e.1)

each_mapped : {X Y : Type 0} (P : X → Type 0) (Q : Y → Type 0) (f : X → Y) → ((x : X) → P x → Q (f x)) → (xs : List X) → AllByRecursion P xs → AllByRecursion Q (map f xs)
each_mapped P Q f h [] e = tt
each_mapped P Q f h (x ∷ xs) e = (h x e.0, each_mapped P Q f h xs e.1)

-- a null, or the entry of a number below this one
abbrev IsNamed : List Cell → ℕ → Cell → Type 0
IsNamed entries most c = (c ≡ null) ⊎ ((n : ℕ) × (n < most) × (c ≡ get_or entries n null))

-- the entries so far, by their numbers
record Tracks (entries : List Cell) (most : ℕ) (found : List Cell) : Type 0 where
  numbers : List ℕ
  are : found ≡ map (λ n. get_or entries n null) numbers
  distinct : IsDistinct nat_eq numbers
  below : (n : ℕ) → list_any (nat_eq n) numbers ≡ true → n < most

same_entry : (c : Cell) → entry_in c ≡ Some c → is_entry c c ≡ true
same_entry (boolean true) h = refl
same_entry (boolean false) h = refl
same_entry (number n) h = (Decides-int_eq n n).1 refl
same_entry (text t) h = (bytes_eq-Decides t t).1 refl
same_entry (bytes t) h = (bytes_eq-Decides t t).1 refl
same_entry _ h = absurd cc

-- a number that is among the numbers has its entry among the entries
number_lacking : (entries : List Cell) (n : ℕ) (ns : List ℕ) → is_entry (get_or entries n null) (get_or entries n null) ≡ true
    → list_any (is_entry (get_or entries n null)) (map (λ m. get_or entries m null) ns) ≡ false → list_any (nat_eq n) ns ≡ false
number_lacking entries n [] own h = refl
number_lacking entries n (m ∷ ns) own h =
    let both = or_parts (is_entry (get_or entries n null) (get_or entries m null)) _ h in
    or_from (nat_eq n m) (list_any (nat_eq n) ns) (apart (nat_eq n m) refl both.0) (number_lacking entries n ns own both.1)
  where
    apart : (b : Bool) → nat_eq n m ≡ b → is_entry (get_or entries n null) (get_or entries m null) ≡ false → nat_eq n m ≡ false
    apart false e other = e
    apart true e other =
        let same : n ≡ m = eqb-true n m e in
        absurd (let found : is_entry (get_or entries n null) (get_or entries m null) ≡ true = ap (λ (k : ℕ). is_entry (get_or entries n null) (get_or entries k null)) (sym same) ∙ own in cc)

other_true : (a b : Bool) → a ≡ false → (a || (b || false)) ≡ true → b ≡ true
other_true true b e h = absurd cc
other_true false true e h = refl
other_true false false e h = absurd cc

any_last : (q n : ℕ) (ns : List ℕ) (most : ℕ) → ((m : ℕ) → list_any (nat_eq m) ns ≡ true → m < most) → n < most → list_any (nat_eq q) (ns ++ n ∷ []) ≡ true → q < most
any_last q n ns most below less h = last (list_any (nat_eq q) ns) refl
  where
    last : (b : Bool) → list_any (nat_eq q) ns ≡ b → q < most
    last true e = below q e
    last false e =
        let whole = sym (list_any-append (nat_eq q) ns (n ∷ [])) ∙ h in
        let own : nat_eq q n ≡ true = other_true (list_any (nat_eq q) ns) (nat_eq q n) e whole in
        let same : q ≡ n = eqb-true q n own in
        omega (arith, same, less)

with_one : (entries : List Cell) (most n : ℕ) (found : List Cell) (c : Cell) → Tracks entries most found → n < most → c ≡ get_or entries n null → entry_in c ≡ Some c → Tracks entries most (with_new found c)
with_one entries most n found c t less is entry = one (list_any (is_entry c) found) refl
  where
    one : (b : Bool) → list_any (is_entry c) found ≡ b → Tracks entries most (if b then found else found ++ c ∷ [])
    one true e = t
    one false e =
        let named : ℕ → Cell = λ m. get_or entries m null in
        let own : is_entry (named n) (named n) ≡ true = subst (λ (x : Cell). is_entry x x ≡ true) is (same_entry c entry) in
        let lacks : list_any (is_entry (named n)) (map named t.numbers) ≡ false = ap (λ (x : Cell). list_any (is_entry x) (map named t.numbers)) (sym is) ∙ ap (list_any (is_entry c)) (sym t.are) ∙ e in
        record {
          numbers = t.numbers ++ n ∷ [];
          are = ap (λ (xs : List Cell). xs ++ c ∷ []) t.are ∙ ap (λ (x : Cell). map named t.numbers ++ x ∷ []) is ∙ sym (map-append named t.numbers (n ∷ []));
          distinct = IsDistinct-push nat_eq_equiv t.numbers n t.distinct (number_lacking entries n t.numbers own lacks);
          below = λ q h. any_last q n t.numbers most t.below less h;
        }

next_tracked : (entries : List Cell) (most : ℕ) (found : List Cell) (c : Cell) → Tracks entries most found → IsNamed entries most c → Tracks entries most (with_entry found c)
next_tracked entries most found (boolean b) t (inl e) = absurd cc
next_tracked entries most found (boolean b) t (inr n) = with_one entries most n.0 found (boolean b) t n.1 n.2 refl
next_tracked entries most found (number z) t (inl e) = absurd cc
next_tracked entries most found (number z) t (inr n) = with_one entries most n.0 found (number z) t n.1 n.2 refl
next_tracked entries most found (text x) t (inl e) = absurd cc
next_tracked entries most found (text x) t (inr n) = with_one entries most n.0 found (text x) t n.1 n.2 refl
next_tracked entries most found (bytes x) t (inl e) = absurd cc
next_tracked entries most found (bytes x) t (inr n) = with_one entries most n.0 found (bytes x) t n.1 n.2 refl
next_tracked entries most found _ t named = t

all_tracked : (entries : List Cell) (most : ℕ) (found cells : List Cell) → Tracks entries most found → AllByRecursion (IsNamed entries most) cells → Tracks entries most (with_entries found cells)
unfolding with_entries
all_tracked entries most found [] t e = t
all_tracked entries most found (c ∷ cells) t e = all_tracked entries most (with_entry found c) cells (next_tracked entries most found c t e.0) e.1

few_named : (entries : List Cell) (most : ℕ) (cells : List Cell) → AllByRecursion (IsNamed entries most) cells → length (entries_of cells) ≤ most
unfolding IsDistinct
few_named entries most cells e =
    let t = all_tracked entries most [] cells (record { numbers = []; are = refl; distinct = tt; below = λ n h. absurd cc }) e in
    let count : length (entries_of cells) ≡ length t.numbers = ap length t.are ∙ length-map t.numbers (λ n. get_or entries n null) in
    let few : length t.numbers ≤ most = length-le_from_distinct_below t.numbers most t.distinct t.below in
    omega (arith, count, few)

-- ---- what an index names

abbrev most_of : Index → ℕ
most_of index = if index.signed then 2 ^ (index.bits - 1) else 2 ^ index.bits

limit_is : (index : Index) (most : ℕ) → entry_limit index ≡ Some most → most_of index ≡ most
limit_is index most h = by (nat_le 32 index.bits) h
  where
    by : (b : Bool) → (if b then None else Some (most_of index)) ≡ Some most → most_of index ≡ most
    by true e = absurd cc
    by false e = cc

range_below : (bits : ℕ) (signed : Bool) (z : ℤ) → in_range bits signed z ≡ true → int_lt z (pos (if signed then 2 ^ (bits - 1) else 2 ^ bits)) ≡ true
range_below bits true z h = (and_parts (int_le (neg_ℤ (pos (2 ^ (bits - 1)))) z) _ h).1
range_below bits false z h = (and_parts (int_le (pos 0) z) _ h).1

named_by : (entries : List Cell) (z : ℤ) (most : ℕ) → int_lt z (pos most) ≡ true → IsNamed entries most (entry_at entries z)
named_by entries (pos n) most h = inr (n, omega (ints, arith, h), refl)
named_by entries (negsuc n) most h = inl refl

index_named : (index : Index) (entries : List Cell) (a : Array) (i most : ℕ) → is_bit_width index.bits ≡ true → are_bytes (indices_in a) ≡ true → entry_limit index ≡ Some most
    → IsNamed entries most (entry_at entries (index_at index a i))
index_named index entries a i most wide small limit =
    let w : ℕ = index.bits / 8 in
    let fits : in_range index.bits index.signed (index_at index a i) ≡ true = integer_fits index.bits index.signed (number_at w (indices_in a) i) wide (small_number w i (indices_in a) small) in
    named_by entries (index_at index a i) most
    (ap (λ (m : ℕ). int_lt (index_at index a i) (pos m)) (sym (limit_is index most limit)) ∙ range_below index.bits index.signed (index_at index a i) fits)

within_limit : (o : Option ℕ) (n : ℕ) → ((most : ℕ) → o ≡ Some most → n ≤ most) → is_within o n ≡ true
within_limit None n h = refl
within_limit (Some most) n h = le-leb n most (h most refl)

-- ---- every column

-- a null, or a cell of an array of bytes that has the entries of this one
abbrev IsCellOf : Column → Array → Cell → Type 0
IsCellOf c a x = (x ≡ null) ⊎ ((b : Array) × (j : ℕ) × (has_bytes b ≡ true) × SharesEntries c a b × (x ≡ cell_at c b j))

abbrev IsRowOf : ℕ → Columns → Arrays → List Cell → Type 0
IsRowOf i cs arrays row = (drop i row ≡ []) ⊎ ((others : Arrays) × (j : ℕ) × (have_bytes others ≡ true) × ShareEntries cs arrays others × (drop i row ≡ cell_list (part_cells cs others j)))

have_both : (xs ys : List Holding) → HaveFew xs → HaveFew ys → HaveFew (xs ++ ys)
have_both xs ys a b = list_all-append has_few_entries xs ys ∙ and_from _ _ a b

each_cell : (c : Column) (a b : Array) (start n : ℕ) → has_bytes b ≡ true → SharesEntries c a b → AllByRecursion (IsCellOf c a) (cells_from (cell_at c b) start n)
each_cell c a b start zero small shares = tt
each_cell c a b start (suc n) small shares = (inr (b, start, small, shares, refl), each_cell c a b (start + 1) n small shares)

items_here : (c : Column) (a b : Array) (v : Bool) (start n : ℕ) → has_bytes b ≡ true → SharesEntries c a b
    → AllByRecursion (IsCellOf c a) (item_list (if v then items (cells_of (cells_from (cell_at c b) start n)) else null))
items_here c a b true start n small shares = subst (AllByRecursion (IsCellOf c a)) (sym (cells_listed (cells_from (cell_at c b) start n))) (each_cell c a b start n small shares)
items_here c a b false start n small shares = tt

parts_here : (cs : Columns) (arrays others : Arrays) (v : Bool) (j : ℕ) → have_bytes others ≡ true → ShareEntries cs arrays others
    → IsRowOf 0 cs arrays (part_list (if v then parts (part_cells cs others j) else null))
parts_here cs arrays others true j small shares = inr (others, j, small, shares, refl)
parts_here cs arrays others false j small shares = inl refl

cell_there : (i : ℕ) (row : List Cell) (x : Cell) (xs : List Cell) → drop i row ≡ x ∷ xs → (slice_get row i ≡ Some x) × (drop (i + 1) row ≡ xs)
cell_there zero [] x xs h = absurd cc
cell_there zero (y ∷ row) x xs h = (cc, cc)
cell_there (suc i) [] x xs h = absurd cc
cell_there (suc i) (y ∷ row) x xs h =
    let e : suc i + 1 ≡ suc (i + 1) = omega arith in
    rw e (cell_there i row x xs h)

no_cell_there : (i : ℕ) (row : List Cell) → drop i row ≡ [] → (slice_get row i ≡ None) × (drop (i + 1) row ≡ [])
no_cell_there zero [] h = (refl, refl)
no_cell_there zero (y ∷ row) h = absurd cc
no_cell_there (suc i) [] h =
    let e : suc i + 1 ≡ suc (i + 1) = omega arith in
    rw e (refl, refl)
no_cell_there (suc i) (y ∷ row) h =
    let e : suc i + 1 ≡ suc (i + 1) = omega arith in
    rw e (no_cell_there i row h)

each_weaker : {X : Type 0} (P Q : X → Type 0) → ((x : X) → P x → Q x) → (xs : List X) → AllByRecursion P xs → AllByRecursion Q xs
each_weaker P Q h [] e = tt
each_weaker P Q h (x ∷ xs) e = (h x e.0, each_weaker P Q h xs e.1)

by_cell : (c : Column) (a : Array) (Q : Cell → Type 0) → Q null → ((b : Array) (j : ℕ) → has_bytes b ≡ true → SharesEntries c a b → Q (cell_at c b j)) → (x : Cell) → IsCellOf c a x → Q x
by_cell c a Q none each x (inl e) = subst Q (sym e) none
by_cell c a Q none each x (inr w) = subst Q (sym w.4) (each w.0 w.1 w.2 w.3)

named_if : (v : Bool) (entries : List Cell) (most : ℕ) (x : Cell) → IsNamed entries most x → IsNamed entries most (if v then x else null)
named_if true entries most x h = h
named_if false entries most x h = inl refl

named_cell : (name : List ℕ) (nullable : Bool) (kind : Kind) (index : Index) (pairs : List Pair) (a : Array) (entries : List Cell) (most : ℕ) (x : Cell) → entries_of_kind kind (dictionary_in a) ≡ entries
    → is_bit_width index.bits ≡ true → entry_limit index ≡ Some most → IsCellOf (column name nullable kind (Some index) pairs) a x → IsNamed entries most x
unfolding cell_at SharesEntries
named_cell name nullable kind index pairs a entries most x are wide limit is =
    by_cell (column name nullable kind (Some index) pairs) a (IsNamed entries most) (inl refl)
    (λ b j small shares.
    let own : entries_of_kind kind (dictionary_in b) ≡ entries = shares (ap is_some limit) ∙ are in
    subst (λ (es : List Cell). IsNamed entries most (if is_valid b j then entry_at es (index_at index b j) else null)) (sym own)
    (named_if (is_valid b j) entries most (entry_at entries (index_at index b j)) (index_named index entries b j most wide (dictionary_bytes b small).0 limit))) x is

firsts_here : (i : ℕ) (c : Column) (cs : Columns) (arrays : Arrays) (rows : List (List Cell)) → AllByRecursion (IsRowOf i (and_column c cs) arrays) rows → AllByRecursion (IsCellOf c (first_array arrays)) (cells_at i rows)
unfolding part_cells ShareEntries
firsts_here i c cs arrays [] each = tt
firsts_here i c cs arrays (row ∷ rows) (inl none, others) =
    rw (no_cell_there i row none).0 (firsts_here i c cs arrays rows others)
firsts_here i c cs arrays (row ∷ rows) (inr w, others) =
    rw (cell_there i row (cell_at c (first_array w.0) w.1) (cell_list (part_cells cs (other_arrays w.0) w.1)) w.4).0
    (inr (first_array w.0, w.1, (first_bytes w.0 w.2).0, w.3.0, refl), firsts_here i c cs arrays rows others)

others_here : (i : ℕ) (c : Column) (cs : Columns) (arrays : Arrays) (rows : List (List Cell)) → AllByRecursion (IsRowOf i (and_column c cs) arrays) rows → AllByRecursion (IsRowOf (i + 1) cs (other_arrays arrays)) rows
unfolding part_cells ShareEntries
others_here i c cs arrays [] each = tt
others_here i c cs arrays (row ∷ rows) (inl none, others) = (inl (no_cell_there i row none).1, others_here i c cs arrays rows others)
others_here i c cs arrays (row ∷ rows) (inr w, others) =
    (inr (other_arrays w.0, w.1, (first_bytes w.0 w.2).1, w.3.1, (cell_there i row (cell_at c (first_array w.0) w.1) (cell_list (part_cells cs (other_arrays w.0) w.1)) w.4).1), others_here i c cs arrays rows others)

mutual
  unfolding cell_at kind_cell part_cells holdings holdings_below holdings_from preorder preorder_below preorder_all SharesEntries SharesBelow ShareEntries

  column_few : (c : Column) (a : Array) (cells : List Cell) → AreSoundColumns (preorder c) → AllByRecursion (IsCellOf c a) cells → HaveFew (holdings c cells)
  column_few (column name nullable kind (Some index) pairs) a cells limits each =
      let flat = not-true _ (and_parts (not (is_nested kind)) (list_all has_flat_dictionary (preorder_below kind)) limits.0).0 in
      let wide = (and_parts (is_kind_of_width kind) (is_bit_width index.bits) (and_parts (is_kind_of_width kind && is_bit_width index.bits) (list_all has_bit_widths (preorder_below kind)) limits.1).0).1 in
      let entries : List Cell = entries_of_kind kind (dictionary_in a) in
      let own : is_within (entry_limit index) (length (entries_of cells)) ≡ true =
      within_limit (entry_limit index) (length (entries_of cells))
      (λ most limit. few_named entries most cells
      (each_weaker (IsCellOf (column name nullable kind (Some index) pairs) a) (IsNamed entries most) (λ x is. named_cell name nullable kind index pairs a entries most x refl wide limit is) cells each)) in
      and_from _ _ own (subst HaveFew (sym (none_below kind cells flat)) refl)
  column_few (column name nullable kind None pairs) a cells limits each =
      below_few name nullable kind pairs a cells ((and_parts (not (false && is_nested kind)) (list_all has_flat_dictionary (preorder_below kind)) limits.0).1, (and_parts (is_kind_of_width kind && true) (list_all has_bit_widths (preorder_below kind)) limits.1).1) each

  below_few : (name : List ℕ) (nullable : Bool) (k : Kind) (pairs : List Pair) (a : Array) (cells : List Cell) → AreSoundColumns (preorder_below k)
      → AllByRecursion (IsCellOf (column name nullable k None pairs) a) cells → HaveFew (holdings_below k cells)
  below_few name nullable (lists item) pairs a cells limits each =
      column_few item (items_in a) (flat_map item_list cells) limits
      (each_below (IsCellOf (column name nullable (lists item) None pairs) a) (IsCellOf item (items_in a)) item_list
      (λ x is. by_cell (column name nullable (lists item) None pairs) a (λ y. AllByRecursion (IsCellOf item (items_in a)) (item_list y)) tt
      (λ b j small shares. items_here item (items_in a) (items_in b) (is_valid b j) (span_start 4 b j) (span_size 4 b j) (items_bytes b small) shares) x is) cells each)
  below_few name nullable (large_lists item) pairs a cells limits each =
      column_few item (items_in a) (flat_map item_list cells) limits
      (each_below (IsCellOf (column name nullable (large_lists item) None pairs) a) (IsCellOf item (items_in a)) item_list
      (λ x is. by_cell (column name nullable (large_lists item) None pairs) a (λ y. AllByRecursion (IsCellOf item (items_in a)) (item_list y)) tt
      (λ b j small shares. items_here item (items_in a) (items_in b) (is_valid b j) (span_start 8 b j) (span_size 8 b j) (items_bytes b small) shares) x is) cells each)
  below_few name nullable (fixed_lists size item) pairs a cells limits each =
      column_few item (items_in a) (flat_map item_list cells) limits
      (each_below (IsCellOf (column name nullable (fixed_lists size item) None pairs) a) (IsCellOf item (items_in a)) item_list
      (λ x is. by_cell (column name nullable (fixed_lists size item) None pairs) a (λ y. AllByRecursion (IsCellOf item (items_in a)) (item_list y)) tt
      (λ b j small shares. items_here item (items_in a) (items_in b) (is_valid b j) (j * size) size (items_bytes b small) shares) x is) cells each)
  below_few name nullable (structs columns) pairs a cells limits each =
      parts_few 0 columns (children_in a) (map part_list cells) limits
      (each_mapped (IsCellOf (column name nullable (structs columns) None pairs) a) (IsRowOf 0 columns (children_in a)) part_list
      (λ x is. by_cell (column name nullable (structs columns) None pairs) a (λ y. IsRowOf 0 columns (children_in a) (part_list y)) (inl refl)
      (λ b j small shares. parts_here columns (children_in a) (children_in b) (is_valid b j) j (children_bytes b small) shares) x is) cells each)
  below_few name nullable _ pairs a cells limits each = refl

  parts_few : (i : ℕ) (cs : Columns) (arrays : Arrays) (rows : List (List Cell)) → AreSoundColumns (preorder_all cs) → AllByRecursion (IsRowOf i cs arrays) rows → HaveFew (holdings_from i cs rows)
  parts_few i no_column arrays rows limits each = refl
  parts_few i (and_column c cs) arrays rows limits each =
      have_both (holdings c (cells_at i rows)) (holdings_from (i + 1) cs rows)
      (column_few c (first_array arrays) (cells_at i rows) (front_sound (preorder c) (preorder_all cs) limits) (firsts_here i c cs arrays rows each))
      (parts_few (i + 1) cs (other_arrays arrays) rows (rest_sound (preorder c) (preorder_all cs) limits) (others_here i c cs arrays rows each))

-- ---- arrays share their own entries

mutual
  unfolding SharesEntries SharesBelow ShareEntries

  shares_own : (c : Column) (a : Array) → SharesEntries c a a
  shares_own (column name nullable kind (Some index) pairs) a = λ limited. refl
  shares_own (column name nullable kind None pairs) a = shares_below kind a

  shares_below : (k : Kind) (a : Array) → SharesBelow k a a
  shares_below (lists item) a = shares_own item (items_in a)
  shares_below (large_lists item) a = shares_own item (items_in a)
  shares_below (fixed_lists size item) a = shares_own item (items_in a)
  shares_below (structs columns) a = share_own columns (children_in a)
  shares_below _ a = tt

  pub share_own : (cs : Columns) (arrays : Arrays) → ShareEntries cs arrays arrays
  share_own no_column arrays = tt
  share_own (and_column c cs) arrays = (shares_own c (first_array arrays), share_own cs (other_arrays arrays))

-- ---- rows

rows_sharing : (cs : Columns) (own : Arrays) (rows : List (List Cell)) → AreRowsSharing cs own rows → AllByRecursion (IsRowOf 0 cs own) rows
rows_sharing cs own [] are = tt
rows_sharing cs own (row ∷ rows) are = (inr (are.0.0, are.0.1, are.0.2, are.0.3, are.0.4), rows_sharing cs own rows are.1)

pub shared_fit : (s : PlainSchema) (own : Arrays) (rows : List (List Cell)) → IsWithinLimits s → AreRowsSharing (columns_of s.columns) own rows → dictionaries_fit s rows ≡ true
shared_fit s own rows limits are = parts_few 0 (columns_of s.columns) own rows (sound_columns s limits) (rows_sharing (columns_of s.columns) own rows are)

rows_from : (q : List Cell → Bool) (g : ℕ → List Cell) (start n : ℕ) → ((j : ℕ) → q (g j) ≡ true) → list_all q (map g (range_with_len start n)) ≡ true
rows_from q g start zero h = refl
rows_from q g start (suc n) h = and_from _ _ (h start) (rows_from q g (start + 1) n h)

pub rows_named : (s : PlainSchema) (arrays : Arrays) (rows : ℕ) → IsWithinLimits s → have_bytes arrays ≡ true → list_all (λ row. dictionaries_fit s (row ∷ [])) (rows_in (columns_of s.columns) arrays rows) ≡ true
rows_named s arrays rows limits small =
    rows_from (λ row. dictionaries_fit s (row ∷ [])) (row_at (columns_of s.columns) arrays) 0 rows
    (λ j. shared_fit s arrays (row_at (columns_of s.columns) arrays j ∷ []) limits ((arrays, j, small, share_own (columns_of s.columns) arrays, refl), tt))
