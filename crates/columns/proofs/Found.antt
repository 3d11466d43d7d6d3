-- What stands at a slot of a written array is the cell that was written there, layout by layout.
use Rattle.std.specs.Prelude.{◌&&◌, ◌==◌}
use Rattle.std.specs.List.{flat_map, list_all}
use Rattle.std.proofs.Common.{◌≡◌, ℕ, suc, ◌+◌, ◌*◌, ◌^◌, ◌<◌, ◌≤◌, Bool, true, List, [], ◌∷◌, ◌++◌, map, length, get_or, take, drop, refl, arith, ap, ◌∙◌}
use Rattle.std.proofs.lemmas.Bool.{and_parts, eqb-true}
use Rattle.std.proofs.lemmas.List.{length-replicate}
use Rattle.std.proofs.Math.Nat.{mul-le-mul, le_refl}
use Rattle.byteorder.specs.Endian.{little_number}
use Rattle.byteorder.specs.Numbers.{little_number-reads_back, length-bytes_low_first}
use Rattle.bitmap.specs.Bits.{bit, packed}
use Rattle.cells.specs.Cell.{Cell, Cells, null, boolean, number, text, bytes, items, no_cell, and_cell, cells_of, cell_list}
use Rattle.cells.specs.Dictionary.{item_list}
use Rattle.cells.specs.Fit.{null_or, is_boolean, number_where, text_where, bytes_where, items_where, in_range, count_of, all_cells}
use Rattle.cells.specs.Integers.{integer_of, number_of}
use Rattle.cells.specs.laws.Cells.{cells_list}
use Rattle.columns.specs.Array.{Array, array, binary_layout, list_layout}
use Rattle.cells.specs.Nulls.{is_there}
use Rattle.columns.specs.Built.{is_set, integer_bytes, fixed_bytes, contents_of, fixed_items, binary_of, list_offsets, with_validity, offsets_of}
use Rattle.columns.specs.CellAt.{integer_at, value_at, contents_at, span_start, span_size, cells_from, span_cells}
use Rattle.columns.specs.laws.Integers.{number_fits, number_back}
use Rattle.columns.proofs.ReadBack.{PackedReadsBack, bit_of}
use Rattle.columns.proofs.Spans.{HaveWidth, have_width, all_width, at_width, taken, before, next_before, before_all, offset_at, slice_there, run_is}

-- a cell that is there fits, where nulls or fitting cells do
pub fit_there : (p : Cell → Bool) (c : Cell) → null_or true p c ≡ true → is_there c ≡ true → p c ≡ true
fit_there p null h there = cc
fit_there p _ h there = h

-- ---- booleans

pub boolean_found : PackedReadsBack → (cells : List Cell) (i : ℕ) (c : Cell) → get_or cells i null ≡ c → i < length cells → is_boolean c ≡ true → boolean (bit (packed (map is_set cells)) i) ≡ c
boolean_found back cells i (boolean b) e lt h = ap boolean (bit_of back is_set cells i lt ∙ ap is_set e)
boolean_found back cells i _ e lt h = cc

-- ---- integers

pub length-integer : (w : ℕ) (c : Cell) → length (integer_bytes w c) ≡ w
length-integer w (number z) = length-bytes_low_first 0 w (number_of w z)
length-integer w _ = length-replicate w 0

pub integer_found : (w : ℕ) (signed : Bool) (cells : List Cell) (i : ℕ) (c : Cell) → get_or cells i null ≡ c → i < length cells → 1 ≤ w → number_where (in_range (8 * w) signed) c ≡ true
    → number (integer_at w signed (flat_map (integer_bytes w) cells) i) ≡ c
integer_found w signed cells i (number z) e lt one h =
    let r = at_width (integer_bytes w) w cells i null (have_width (integer_bytes w) w (length-integer w) cells) lt in
    let read : little_number w (drop (i * w) (flat_map (integer_bytes w) cells)) ≡ number_of w z =
    ap (little_number w) (r.1 ∙ ap (λ (c : Cell). integer_bytes w c ++ r.0) e) ∙ little_number-reads_back w (number_of w z) r.0 (number_fits w signed z one h) in
    ap (λ (n : ℕ). number (integer_of w signed n)) read ∙ ap number (number_back w signed z one h)
integer_found w signed cells i _ e lt one h = cc

-- ---- texts and binaries

pub size_is : {A : Type 0} (f : Cell → List A) (w : ℕ) (cells : List Cell) (i : ℕ) (a : Array) → i < length cells → length (flat_map f cells) < 256 ^ w
    → (span_start w (array (length cells) [] (binary_layout (offsets_of w (map (λ c. length (f c)) cells)) [])) i ≡ before f cells i)
    × (span_size w (array (length cells) [] (binary_layout (offsets_of w (map (λ c. length (f c)) cells)) [])) i ≡ length (f (get_or cells i null)))
size_is f w cells i a lt small =
    let start = offset_at f w cells i (omega arith) small in
    let end = offset_at f w cells (i + 1) (omega arith) small in
    let next = next_before f cells i null lt in
    (start, omega (arith, start, end, next))

contents_are : (w : ℕ) (cells : List Cell) (i : ℕ) → i < length cells → length (flat_map contents_of cells) < 256 ^ w
    → contents_at w (with_validity cells (binary_of w cells)) i ≡ contents_of (get_or cells i null)
contents_are w cells i lt small =
    let s = size_is contents_of w cells i (with_validity cells (binary_of w cells)) lt small in
    ap (λ (n : ℕ). take n (drop (span_start w (with_validity cells (binary_of w cells)) i) (flat_map contents_of cells))) s.1
    ∙ ap (λ (n : ℕ). take (length (contents_of (get_or cells i null))) (drop n (flat_map contents_of cells))) s.0
    ∙ slice_there contents_of cells i null lt

pub text_found : (w : ℕ) (p : List ℕ → Bool) (cells : List Cell) (i : ℕ) (c : Cell) → get_or cells i null ≡ c → i < length cells → length (flat_map contents_of cells) < 256 ^ w → text_where p c ≡ true
    → text (contents_at w (with_validity cells (binary_of w cells)) i) ≡ c
text_found w p cells i (text t) e lt small h = ap text (contents_are w cells i lt small ∙ ap contents_of e)
text_found w p cells i _ e lt small h = cc

pub bytes_found : (w : ℕ) (p : List ℕ → Bool) (cells : List Cell) (i : ℕ) (c : Cell) → get_or cells i null ≡ c → i < length cells → length (flat_map contents_of cells) < 256 ^ w → bytes_where p c ≡ true
    → bytes (contents_at w (with_validity cells (binary_of w cells)) i) ≡ c
bytes_found w p cells i (bytes t) e lt small h = ap bytes (contents_are w cells i lt small ∙ ap contents_of e)
bytes_found w p cells i _ e lt small h = cc

-- ---- binaries of one width

abbrev pub is_of_width : ℕ → List ℕ → Bool
is_of_width width t = length t == width

pub one_width : (width : ℕ) (c : Cell) → null_or true (bytes_where (is_of_width width)) c ≡ true → length (fixed_bytes width c) ≡ width
one_width width (bytes t) h = eqb-true _ _ h
one_width width _ h = length-replicate width 0

pub every_width : (width : ℕ) (cells : List Cell) → list_all (null_or true (bytes_where (is_of_width width))) cells ≡ true → HaveWidth (fixed_bytes width) width cells
every_width width [] h = tt
every_width width (c ∷ cs) h =
    let p = and_parts (null_or true (bytes_where (is_of_width width)) c) (list_all (null_or true (bytes_where (is_of_width width))) cs) h in
    (one_width width c p.0, every_width width cs p.1)

pub fixed_found : (width : ℕ) (cells : List Cell) (i : ℕ) (c : Cell) → get_or cells i null ≡ c → i < length cells → list_all (null_or true (bytes_where (is_of_width width))) cells ≡ true
    → bytes_where (is_of_width width) c ≡ true → bytes (value_at width (flat_map (fixed_bytes width) cells) i) ≡ c
fixed_found width cells i (bytes t) e lt all h =
    let wide : length (fixed_bytes width (get_or cells i null)) ≡ width = ap (λ (c : Cell). length (fixed_bytes width c)) e ∙ eqb-true _ _ h in
    ap bytes (taken (fixed_bytes width) width cells i null (every_width width cells all) wide lt ∙ ap (fixed_bytes width) e)
fixed_found width cells i _ e lt all h = cc

-- ---- lists

-- the items of all cells are found one by one
abbrev pub AreFound : (ℕ → Cell) → List Cell → Type 0
AreFound g xs = (j : ℕ) → j < length xs → g j ≡ get_or xs j null

items_are : (w : ℕ) (cells : List Cell) (i : ℕ) (child : Array) (g : ℕ → Cell) → i < length cells → length (flat_map item_list cells) < 256 ^ w → AreFound g (flat_map item_list cells)
    → span_cells w g (with_validity cells (list_layout (list_offsets w cells) child)) i ≡ item_list (get_or cells i null)
items_are w cells i child g lt small found =
    let s = size_is item_list w cells i child lt small in
    let next = next_before item_list cells i null lt in
    let within = before_all item_list cells (i + 1) (omega arith) in
    ap (λ (n : ℕ). cells_from g n (span_size w (with_validity cells (list_layout (list_offsets w cells) child)) i)) s.0
    ∙ ap (λ (n : ℕ). cells_from g (before item_list cells i) n) s.1
    ∙ run_is g (flat_map item_list cells) (before item_list cells i) (length (item_list (get_or cells i null))) found (omega (arith, next, within))
    ∙ slice_there item_list cells i null lt

pub list_found : (w : ℕ) (p : Cells → Bool) (cells : List Cell) (i : ℕ) (child : Array) (g : ℕ → Cell) (c : Cell) → get_or cells i null ≡ c → i < length cells
    → length (flat_map item_list cells) < 256 ^ w → AreFound g (flat_map item_list cells) → items_where p c ≡ true
    → items (cells_of (span_cells w g (with_validity cells (list_layout (list_offsets w cells) child)) i)) ≡ c
list_found w p cells i child g (items cs) e lt small found h = ap (λ (xs : List Cell). items (cells_of xs)) (items_are w cells i child g lt small found ∙ ap item_list e) ∙ ap items (cells_list cs)
list_found w p cells i child g _ e lt small found h = cc

-- ---- lists of one size

pub count_list : (cs : Cells) → length (cell_list cs) ≡ count_of cs
count_list no_cell = refl
count_list (and_cell c cs) = let rest = count_list cs in omega (arith, rest)

abbrev pub has_size : ℕ → (Cell → Bool) → Cells → Bool
has_size size p cs = count_of cs == size && all_cells p cs

one_size : (size : ℕ) (p : Cell → Bool) (c : Cell) → null_or true (items_where (has_size size p)) c ≡ true → length (fixed_items size c) ≡ size
one_size size p null h = length-replicate size null
one_size size p (items cs) h = count_list cs ∙ eqb-true _ _ (and_parts (count_of cs == size) (all_cells p cs) h).0
one_size size p _ h = cc

pub every_size : (size : ℕ) (p : Cell → Bool) (cells : List Cell) → list_all (null_or true (items_where (has_size size p))) cells ≡ true → HaveWidth (fixed_items size) size cells
every_size size p [] h = tt
every_size size p (c ∷ cs) h =
    let q = and_parts (null_or true (items_where (has_size size p)) c) (list_all (null_or true (items_where (has_size size p))) cs) h in
    (one_size size p c q.0, every_size size p cs q.1)

pub fixed_list_found : (size : ℕ) (p : Cell → Bool) (cells : List Cell) (i : ℕ) (g : ℕ → Cell) (c : Cell) → get_or cells i null ≡ c → i < length cells
    → list_all (null_or true (items_where (has_size size p))) cells ≡ true → AreFound g (flat_map (fixed_items size) cells) → items_where (has_size size p) c ≡ true
    → items (cells_of (cells_from g (i * size) size)) ≡ c
fixed_list_found size p cells i g (items cs) e lt all found h =
    let sizes = every_size size p cells all in
    let whole = all_width (fixed_items size) size cells sizes in
    let count : suc i ≤ length cells = omega arith in
    let more : suc i * size ≤ length cells * size = mul-le-mul count (le_refl size) in
    let room : i * size + size ≤ length (flat_map (fixed_items size) cells) = omega (arith, more, whole) in
    let one : length (fixed_items size (get_or cells i null)) ≡ size = ap (λ (c : Cell). length (fixed_items size c)) e ∙ (count_list cs ∙ eqb-true _ _ (and_parts (count_of cs == size) (all_cells p cs) h).0) in
    let is : cells_from g (i * size) size ≡ cell_list cs =
    run_is g (flat_map (fixed_items size) cells) (i * size) size found room ∙ taken (fixed_items size) size cells i null sizes one lt ∙ ap (fixed_items size) e in
    ap (λ (xs : List Cell). items (cells_of xs)) is ∙ ap items (cells_list cs)
fixed_list_found size p cells i g _ e lt all found h = cc
