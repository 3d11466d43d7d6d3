-- No visible slot of a written array is refused: its cell fits its column.
use Rattle.std.specs.Prelude.{ℤ, pos, ◌&&◌, ◌||◌, ◌==◌, not, if◌then◌else◌}
use Rattle.std.specs.List.{flat_map, list_all, list_any, range_with_len}
use Rattle.std.proofs.Common.{◌≡◌, ℕ, zero, suc, ◌+◌, ◌*◌, ◌<◌, ◌≤◌, Bool, true, false, List, [], ◌∷◌, map, length, get_or, Some, None, refl, arith, ap, sym, subst, ◌∙◌}
use Rattle.std.proofs.lemmas.Bool.{and_parts, and_from, or_from, or_parts, lt-leb, leb-true, eqb-true}
use Rattle.std.proofs.lemmas.List.{length-map, get_or-map, get_or-drop, get_or_append_left}
use Rattle.std.proofs.Math.Nat.{mul-le-mul, le_refl}
use Rattle.std.proofs.lemmas.List.Concat.{get_or-flat_map}
use Rattle.std.proofs.lemmas.List.Folds.{list_any-append}
use Rattle.arrow_schema.specs.Column.{Index, Pair, Kind, Column, Columns, nulls, booleans, integers, dates, timestamps, texts, large_texts, binaries, large_binaries, fixed_binaries, lists, large_lists, fixed_lists, structs, column, no_column, and_column}
use Rattle.cells.specs.Cell.{Cell, Cells, null, text, items, parts, no_cell, and_cell, cells_of, cell_list}
use Rattle.cells.specs.Dictionary.{entries_of, item_list, part_list}
use Rattle.cells.specs.Fit.{null_or, fits, fits_kind, each_fits, all_cells, count_of, items_where, parts_where}
use Rattle.cells.specs.laws.Cells.{cells_list}
use Rattle.columns.specs.Array.{Array, Layout, dictionary_in, no_array, and_array, list_layout, fixed_list_layout, struct_layout, dictionary_layout}
use Rattle.columns.specs.Buildable.{are_nulls_or_fit, is_null_or_entry, names_entries, small_offset, large_offset, items_fit, can_build, can_build_below, can_build_parts, can_build_rows, has_each_part}
use Rattle.cells.specs.Nulls.{is_null, is_there}
use Rattle.columns.specs.Built.{with_validity, fixed_items, list_offsets, entry_index, index_bytes, built, built_kind, built_parts, first_cell, other_cells}
use Rattle.columns.specs.CellAt.{is_valid, cell_at, span_start, span_size, index_at, entries_of_kind}
use Rattle.columns.specs.laws.FitTexts.{good_text}
use Rattle.columns.specs.Visible.{Slot, slot, visible, visible_below, visible_parts, visible_in, is_forbidden, is_bad_text, is_no_text, is_past, has_bad_index, names_no_entry}
use Rattle.columns.proofs.BuiltCells.{EntriesAreFound, column_found, kind_found, entries_back, index_there, entry_of_cell}
use Rattle.columns.proofs.Found.{size_is, every_size, count_list, has_size}
use Rattle.columns.proofs.ReadBack.{PackedReadsBack, all_at, valid_is}
use Rattle.columns.proofs.Spans.{HaveWidth, before, next_before, before_all, at_width, all_width}

abbrev pub is_wrong : Slot → Bool
is_wrong s = names_no_entry s || (is_no_text s || is_forbidden s)

-- ---- one cell that fits

not_forbidden : (p : Cell → Bool) (nullable : Bool) (x : Cell) → null_or nullable p x ≡ true → (not nullable && is_null x) ≡ false
not_forbidden p true x h = refl
not_forbidden p false null h = cc
not_forbidden p false _ h = refl

no_bad_text : (k : Kind) (nullable : Bool) (x : Cell) → null_or nullable (fits_kind k) x ≡ true → is_bad_text x ≡ false
no_bad_text k nullable (text t) h = ap not (good_text k t h)
no_bad_text k nullable _ h = refl

-- ---- slots of a range

none_in : (f : ℕ → List Slot) (start n : ℕ) → ((k : ℕ) → k < n → list_any is_wrong (f (start + k)) ≡ false) → list_any is_wrong (flat_map f (range_with_len start n)) ≡ false
none_in f start zero h = refl
none_in f start (suc n) h =
    let e : start + 0 ≡ start = omega arith in
    let first : list_any is_wrong (f start) ≡ false = subst (λ (k : ℕ). list_any is_wrong (f k) ≡ false) e (h 0 (omega arith)) in
    let rest = none_in f (start + 1) n (λ k lt. let g : start + suc k ≡ start + 1 + k = omega arith in subst (λ (j : ℕ). list_any is_wrong (f j) ≡ false) g (h (suc k) (omega arith))) in
    list_any-append is_wrong (f start) (flat_map f (range_with_len (start + 1) n)) ∙ or_from _ _ first rest

listed_fit : (p : Cell → Bool) (cs : Cells) (k : ℕ) → all_cells p cs ≡ true → k < length (cell_list cs) → p (get_or (cell_list cs) k null) ≡ true
listed_fit p no_cell k h lt = absurd (omega arith)
listed_fit p (and_cell c cs) zero h lt = (and_parts (p c) (all_cells p cs) h).0
listed_fit p (and_cell c cs) (suc k) h lt = listed_fit p cs k (and_parts (p c) (all_cells p cs) h).1 (omega arith)

list_fits : (item : Column) (x : Cell) (k : ℕ) → items_where (all_cells (fits item)) x ≡ true → k < length (item_list x) → fits item (get_or (item_list x) k null) ≡ true
list_fits item (items cs) k h lt = listed_fit (fits item) cs k h lt
list_fits item _ k h lt = cc

fixed_fits : (size : ℕ) (item : Column) (x : Cell) (k : ℕ) → items_where (has_size size (fits item)) x ≡ true → k < size → fits item (get_or (fixed_items size x) k null) ≡ true
fixed_fits size item (items cs) k h lt =
    let p = and_parts (count_of cs == size) (all_cells (fits item) cs) h in
    let count = count_list cs in
    let size_of = eqb-true _ _ p.0 in
    listed_fit (fits item) cs k p.1 (omega (arith, lt, count, size_of))
fixed_fits size item _ k h lt = cc

fixed_long : (size : ℕ) (item : Column) (x : Cell) → items_where (has_size size (fits item)) x ≡ true → length (fixed_items size x) ≡ size
fixed_long size item (items cs) h = count_list cs ∙ eqb-true _ _ (and_parts (count_of cs == size) (all_cells (fits item) cs) h).0
fixed_long size item _ h = cc

row_fits_parts : (cs : Columns) (x : Cell) → parts_where (each_fits cs) x ≡ true → each_fits cs (cells_of (part_list x)) ≡ true
row_fits_parts cs (parts xs) h = subst (λ (ys : Cells). each_fits cs ys ≡ true) (sym (cells_list xs)) h
row_fits_parts cs _ h = cc

-- what fits and is there fits the type
there_fits : (p : Cell → Bool) (nullable : Bool) (x : Cell) → null_or nullable p x ≡ true → is_there x ≡ true → p x ≡ true
there_fits p nullable null h there = cc
there_fits p nullable _ h there = h

nothing_below : (b : Bool) → list_any is_wrong (if b then [] else []) ≡ false
nothing_below true = refl
nothing_below false = refl

-- where a slot is valid its cell is there
below_valid : PackedReadsBack → (cells : List Cell) (layout : Layout) (i : ℕ) → i < length cells → (below : List Slot)
    → (is_there (get_or cells i null) ≡ true → list_any is_wrong below ≡ false) → list_any is_wrong (if is_valid (with_validity cells layout) i then below else []) ≡ false
below_valid back cells layout i lt below h = by_there (is_there (get_or cells i null)) refl
  where
    by_there : (b : Bool) → is_there (get_or cells i null) ≡ b → list_any is_wrong (if is_valid (with_validity cells layout) i then below else []) ≡ false
    by_there true e = rw (valid_is back cells layout i lt, e) (h e)
    by_there false e = rw (valid_is back cells layout i lt, e) refl

own_right : (c : Column) (a : Array) (i : ℕ) (x : Cell) → cell_at c a i ≡ x → fits c x ≡ true → has_bad_index c a i ≡ false → is_wrong (slot c a i) ≡ false
unfolding fits
own_right (column name nullable kind dictionary pairs) a i x is h index =
    let c : Column = column name nullable kind dictionary pairs in
    or_from _ _ index
    (or_from _ _ (ap is_bad_text is ∙ no_bad_text kind nullable x h) (ap (λ (y : Cell). not nullable && is_null y) is ∙ not_forbidden (fits_kind kind) nullable x h))

row_parts : (c : Column) (cs : Columns) (row : List Cell) → each_fits (and_column c cs) (cells_of row) ≡ true → (fits c (first_cell row) ≡ true) × (each_fits cs (cells_of (other_cells row)) ≡ true)
unfolding fits
row_parts c cs [] h = cc
row_parts c cs (x ∷ xs) h = and_parts (fits c x) (each_fits cs (cells_of xs)) h

-- the index of a slot that is there names an entry
index_right : PackedReadsBack → EntriesAreFound → (name : List ℕ) (nullable : Bool) (kind : Kind) (index : Index) (pairs : List Pair) (cells : List Cell)
    → can_build (column name nullable kind (Some index) pairs) cells ≡ true → (i : ℕ) → i < length cells
    → has_bad_index (column name nullable kind (Some index) pairs) (built (column name nullable kind (Some index) pairs) cells) i ≡ false
unfolding can_build built
index_right back entries name nullable kind index pairs cells can i lt = by_there (is_there (get_or cells i null)) refl
  where
    by_there : (b : Bool) → is_there (get_or cells i null) ≡ b → has_bad_index (column name nullable kind (Some index) pairs) (built (column name nullable kind (Some index) pairs) cells) i ≡ false
    by_there false e =
        let layout : Layout = dictionary_layout (flat_map (index_bytes index (entries_of cells)) cells) (and_array (built_kind kind (entries_of cells)) no_array) in
        let a : Array = with_validity cells layout in
        ap (λ (v : Bool). v && is_past (index_at index a i) (entries_of_kind kind (dictionary_in a))) (valid_is back cells layout i lt ∙ e)
    by_there true e =
        let es : List Cell = entries_of cells in
        let layout : Layout = dictionary_layout (flat_map (index_bytes index es) cells) (and_array (built_kind kind es) no_array) in
        let a : Array = with_validity cells layout in
        let p = and_parts (list_all is_null_or_entry cells) _ can in
        let q = and_parts (names_entries index (length es)) _ p.1 in
        let r = and_parts (are_nulls_or_fit kind es) (can_build_below kind es) q.1 in
        let x : Cell = get_or cells i null in
        let named = entries cells x i lt refl (entry_of_cell x (all_at is_null_or_entry cells i null p.0 lt) e) in
        let known : entries_of_kind kind (dictionary_in a) ≡ es = entries_back kind es (kind_found back entries kind es r.0 r.1) in
        let at : index_at index a i ≡ pos (entry_index es x) = index_there index es cells i (length es) lt q.0 named.0 in
        ap (λ (v : Bool). v && is_past (index_at index a i) (entries_of_kind kind (dictionary_in a))) (valid_is back cells layout i lt ∙ e)
        ∙ ap (λ (z : ℤ). is_past z (entries_of_kind kind (dictionary_in a))) at
        ∙ ap (is_past (pos (entry_index es x))) known
        ∙ lt-leb (length es) (entry_index es x) named.0

-- no slot of these cells that fit is refused
abbrev pub AreRight : Column → List Cell → Type 0
AreRight item xs = (j : ℕ) → j < length xs → fits item (get_or xs j null) ≡ true → list_any is_wrong (visible item (built item xs) j) ≡ false

-- one of the items of a slot
items_visible : (item : Column) (f : Cell → List Cell) (cells : List Cell) → AreRight item (flat_map f cells) → (i k : ℕ) → i < length cells → k < length (f (get_or cells i null))
    → fits item (get_or (f (get_or cells i null)) k null) ≡ true → list_any is_wrong (visible item (built item (flat_map f cells)) (before f cells i + k)) ≡ false
items_visible item f cells right i k lt below fit =
    let at : get_or (flat_map f cells) (before f cells i + k) null ≡ get_or (f (get_or cells i null)) k null = get_or-flat_map f cells i k null null lt below in
    let next = next_before f cells i null lt in
    let all = before_all f cells (i + 1) (omega (arith, lt)) in
    right (before f cells i + k) (omega (arith, next, all, below)) (rw at fit)

-- the same where each slot has as many
sized_visible : (size : ℕ) (item : Column) (f : Cell → List Cell) (cells : List Cell) → HaveWidth f size cells → AreRight item (flat_map f cells) → (i k : ℕ) → i < length cells → k < size
    → length (f (get_or cells i null)) ≡ size → fits item (get_or (f (get_or cells i null)) k null) ≡ true → list_any is_wrong (visible item (built item (flat_map f cells)) (i * size + k)) ≡ false
sized_visible size item f cells wide right i k lt below long fit =
    let r = at_width f size cells i null wide lt in
    let at : get_or (flat_map f cells) (i * size + k) null ≡ get_or (f (get_or cells i null)) k null =
    sym (get_or-drop (i * size) (flat_map f cells) k null) ∙ ap (λ (xs : List Cell). get_or xs k null) r.1 ∙ get_or_append_left (f (get_or cells i null)) r.0 null k (omega (arith, below, long)) in
    let whole = all_width f size cells wide in
    let count : suc i ≤ length cells = omega (arith, lt) in
    let more : suc i * size ≤ length cells * size = mul-le-mul count (le_refl size) in
    right (i * size + k) (omega (arith, below, whole, more)) (rw at fit)

mutual
  unfolding fits can_build cell_at built visible

  pub column_visible : PackedReadsBack → EntriesAreFound → (c : Column) (cells : List Cell) → can_build c cells ≡ true → (i : ℕ) → i < length cells → fits c (get_or cells i null) ≡ true
      → list_any is_wrong (visible c (built c cells) i) ≡ false
  column_visible back entries (column name nullable kind None pairs) cells can i lt fit =
      let c : Column = column name nullable kind None pairs in
      let p = and_parts (are_nulls_or_fit kind cells) (can_build_below kind cells) can in
      or_from _ _ (own_right c (built c cells) i (get_or cells i null) (column_found back entries c cells can i lt) fit refl) (below_visible back entries kind nullable cells p.0 p.1 i lt fit)
  column_visible back entries (column name nullable kind (Some index) pairs) cells can i lt fit =
      let c : Column = column name nullable kind (Some index) pairs in
      or_from _ _ (own_right c (built c cells) i (get_or cells i null) (column_found back entries c cells can i lt) fit (index_right back entries name nullable kind index pairs cells can i lt)) refl

  below_visible : PackedReadsBack → EntriesAreFound → (k : Kind) (nullable : Bool) (cells : List Cell) → are_nulls_or_fit k cells ≡ true → can_build_below k cells ≡ true → (i : ℕ) → i < length cells → null_or nullable (fits_kind k) (get_or cells i null) ≡ true
      → list_any is_wrong (if is_valid (built_kind k cells) i then visible_below k (built_kind k cells) i else []) ≡ false
  below_visible back entries nulls nullable cells fits_all can i lt fit = nothing_below (is_valid (built_kind nulls cells) i)
  below_visible back entries booleans nullable cells fits_all can i lt fit = nothing_below (is_valid (built_kind booleans cells) i)
  below_visible back entries (integers bits signed) nullable cells fits_all can i lt fit = nothing_below (is_valid (built_kind (integers bits signed) cells) i)
  below_visible back entries (dates unit) nullable cells fits_all can i lt fit = nothing_below (is_valid (built_kind (dates unit) cells) i)
  below_visible back entries (timestamps unit timezone) nullable cells fits_all can i lt fit = nothing_below (is_valid (built_kind (timestamps unit timezone) cells) i)
  below_visible back entries texts nullable cells fits_all can i lt fit = nothing_below (is_valid (built_kind texts cells) i)
  below_visible back entries large_texts nullable cells fits_all can i lt fit = nothing_below (is_valid (built_kind large_texts cells) i)
  below_visible back entries binaries nullable cells fits_all can i lt fit = nothing_below (is_valid (built_kind binaries cells) i)
  below_visible back entries large_binaries nullable cells fits_all can i lt fit = nothing_below (is_valid (built_kind large_binaries cells) i)
  below_visible back entries (fixed_binaries width) nullable cells fits_all can i lt fit = nothing_below (is_valid (built_kind (fixed_binaries width) cells) i)
  below_visible back entries (lists item) nullable cells fits_all can i lt fit =
      let p = and_parts (items_fit small_offset cells) (can_build item (flat_map item_list cells)) can in
      let child : Array = built item (flat_map item_list cells) in
      let x : Cell = get_or cells i null in
      let layout : Layout = list_layout (list_offsets 4 cells) child in
      let s = size_is item_list 4 cells i (with_validity cells layout) lt (omega (arith, leb-true _ _ p.0)) in
      let a : Array = with_validity cells layout in
      below_valid back cells layout i lt (flat_map (visible item child) (range_with_len (span_start 4 a i) (span_size 4 a i)))
      (λ there. ap (λ (n : ℕ). list_any is_wrong (flat_map (visible item child) (range_with_len (span_start 4 a i) n))) s.1
      ∙ ap (λ (n : ℕ). list_any is_wrong (flat_map (visible item child) (range_with_len n (length (item_list x))))) s.0
      ∙ (none_in (visible item child) (before item_list cells i) (length (item_list x))
      (λ k below. items_visible item item_list cells (column_visible back entries item (flat_map item_list cells) p.1) i k lt below (list_fits item x k (there_fits (fits_kind (lists item)) nullable x fit there) below))))
  below_visible back entries (large_lists item) nullable cells fits_all can i lt fit =
      let p = and_parts (items_fit large_offset cells) (can_build item (flat_map item_list cells)) can in
      let child : Array = built item (flat_map item_list cells) in
      let x : Cell = get_or cells i null in
      let layout : Layout = list_layout (list_offsets 8 cells) child in
      let s = size_is item_list 8 cells i (with_validity cells layout) lt (omega (arith, leb-true _ _ p.0)) in
      let a : Array = with_validity cells layout in
      below_valid back cells layout i lt (flat_map (visible item child) (range_with_len (span_start 8 a i) (span_size 8 a i)))
      (λ there. ap (λ (n : ℕ). list_any is_wrong (flat_map (visible item child) (range_with_len (span_start 8 a i) n))) s.1
      ∙ ap (λ (n : ℕ). list_any is_wrong (flat_map (visible item child) (range_with_len n (length (item_list x))))) s.0
      ∙ (none_in (visible item child) (before item_list cells i) (length (item_list x))
      (λ k below. items_visible item item_list cells (column_visible back entries item (flat_map item_list cells) p.1) i k lt below (list_fits item x k (there_fits (fits_kind (large_lists item)) nullable x fit there) below))))
  below_visible back entries (fixed_lists size item) nullable cells fits_all can i lt fit =
      let child : Array = built item (flat_map (fixed_items size) cells) in
      let x : Cell = get_or cells i null in
      below_valid back cells (fixed_list_layout child) i lt (flat_map (visible item child) (range_with_len (i * size) size))
      (λ there.
      let own = there_fits (fits_kind (fixed_lists size item)) nullable x fit there in
      none_in (visible item child) (i * size) size
      (λ k below. sized_visible size item (fixed_items size) cells (every_size size (fits item) cells fits_all) (column_visible back entries item (flat_map (fixed_items size) cells) can) i k lt below
      (fixed_long size item x own) (fixed_fits size item x k own below)))
  below_visible back entries (structs columns) nullable cells fits_all can i lt fit =
      let x : Cell = get_or cells i null in
      let rows : List (List Cell) = map part_list cells in
      let row : get_or rows i [] ≡ part_list x = get_or-map part_list cells i null [] lt in
      below_valid back cells (struct_layout (built_parts columns rows)) i lt (visible_parts columns (built_parts columns rows) i)
      (λ there. parts_visible back entries columns rows can i (omega (arith, lt, length-map cells part_list))
      (subst (λ (r : List Cell). each_fits columns (cells_of r) ≡ true) (sym row) (row_fits_parts columns x (there_fits (fits_kind (structs columns)) nullable x fit there))))

  pub parts_visible : PackedReadsBack → EntriesAreFound → (cs : Columns) (rows : List (List Cell)) → can_build_parts cs rows ≡ true → (i : ℕ) → i < length rows → each_fits cs (cells_of (get_or rows i [])) ≡ true
      → list_any is_wrong (visible_parts cs (built_parts cs rows) i) ≡ false
  parts_visible back entries no_column rows can i lt fit = refl
  parts_visible back entries (and_column c cs) rows can i lt fit =
      let p = and_parts (can_build c (map first_cell rows)) (can_build_parts cs (map other_cells rows)) can in
      let row : List Cell = get_or rows i [] in
      let r = row_parts c cs row fit in
      let first : get_or (map first_cell rows) i null ≡ first_cell row = get_or-map first_cell rows i [] null lt in
      let others : get_or (map other_cells rows) i [] ≡ other_cells row = get_or-map other_cells rows i [] [] lt in
      list_any-append is_wrong (visible c (built c (map first_cell rows)) i) (visible_parts cs (built_parts cs (map other_cells rows)) i)
      ∙ or_from _ _
      (column_visible back entries c (map first_cell rows) p.0 i (omega (arith, lt, length-map rows first_cell)) (rw first r.0))
      (parts_visible back entries cs (map other_cells rows) p.1 i (omega (arith, lt, length-map rows other_cells)) (rw others r.1))

-- ---- all slots of a batch

pub all_visible : PackedReadsBack → EntriesAreFound → (cs : Columns) (rows : List (List Cell)) → can_build_parts cs rows ≡ true → list_all (λ row. each_fits cs (cells_of row)) rows ≡ true
    → list_any is_wrong (visible_in cs (built_parts cs rows) (length rows)) ≡ false
unfolding can_build built visible_in
all_visible back entries no_column rows can fit = refl
all_visible back entries (and_column c cs) rows can fit =
    let p = and_parts (can_build c (map first_cell rows)) (can_build_parts cs (map other_cells rows)) can in
    let first : List Slot = flat_map (visible c (built c (map first_cell rows))) (range_with_len 0 (length rows)) in
    let count : length (map other_cells rows) ≡ length rows = length-map rows other_cells in
    let here = none_in (visible c (built c (map first_cell rows))) 0 (length rows) (λ k lt.
    let e : 0 + k ≡ k = omega arith in
    let r = row_parts c cs (get_or rows k []) (all_at (λ row. each_fits (and_column c cs) (cells_of row)) rows k [] fit lt) in
    let is : get_or (map first_cell rows) k null ≡ first_cell (get_or rows k []) = get_or-map first_cell rows k [] null lt in
    rw e (column_visible back entries c (map first_cell rows) p.0 k (omega (arith, lt, length-map rows first_cell)) (rw is r.0))) in
    let rest = all_visible back entries cs (map other_cells rows) p.1 (others_fit c cs rows fit) in
    list_any-append is_wrong first (visible_in cs (built_parts cs (map other_cells rows)) (length rows))
    ∙ or_from _ _ here (ap (λ (n : ℕ). list_any is_wrong (visible_in cs (built_parts cs (map other_cells rows)) n)) (sym count) ∙ rest)
  where
    others_fit : (c : Column) (cs : Columns) (rows : List (List Cell)) → list_all (λ row. each_fits (and_column c cs) (cells_of row)) rows ≡ true → list_all (λ row. each_fits cs (cells_of row)) (map other_cells rows) ≡ true
    others_fit c cs [] h = refl
    others_fit c cs (row ∷ rows) h =
        let a = and_parts (each_fits (and_column c cs) (cells_of row)) (list_all (λ row. each_fits (and_column c cs) (cells_of row)) rows) h in
        and_from _ _ (row_parts c cs row a.0).1 (others_fit c cs rows a.1)

-- ---- test by test

any_slot : (p q : Slot → Bool) → ((t : Slot) → q t ≡ false → p t ≡ false) → (ts : List Slot) → list_any q ts ≡ false → list_any p ts ≡ false
any_slot p q h [] all = refl
any_slot p q h (t ∷ ts) all = let a = or_parts (q t) (list_any q ts) all in or_from _ _ (h t a.0) (any_slot p q h ts a.1)

pub index_test : (ts : List Slot) → list_any is_wrong ts ≡ false → list_any names_no_entry ts ≡ false
index_test ts h = any_slot names_no_entry is_wrong (λ t e. (or_parts (names_no_entry t) (is_no_text t || is_forbidden t) e).0) ts h

pub text_test : (ts : List Slot) → list_any is_wrong ts ≡ false → list_any is_no_text ts ≡ false
text_test ts h = any_slot is_no_text is_wrong (λ t e. (or_parts (is_no_text t) (is_forbidden t) (or_parts (names_no_entry t) (is_no_text t || is_forbidden t) e).1).0) ts h

pub null_test : (ts : List Slot) → list_any is_wrong ts ≡ false → list_any is_forbidden ts ≡ false
null_test ts h = any_slot is_forbidden is_wrong (λ t e. (or_parts (is_no_text t) (is_forbidden t) (or_parts (names_no_entry t) (is_no_text t || is_forbidden t) e).1).1) ts h

pub no_wrong : PackedReadsBack → EntriesAreFound → (cs : Columns) (rows : List (List Cell)) → can_build_rows cs rows ≡ true → list_all (λ row. each_fits cs (cells_of row)) rows ≡ true
    → list_any is_wrong (visible_in cs (built_parts cs rows) (length rows)) ≡ false
no_wrong back entries cs rows can fit = all_visible back entries cs rows (and_parts (list_all (has_each_part cs) rows) (can_build_parts cs rows) can).1 fit
