-- What valid slots weigh, type by type.
use Rattle.std.specs.Prelude.{nat_le}
use Rattle.std.proofs.Common.{◌≡◌, ℕ, ◌+◌, ◌-◌, ◌*◌, ◌≤◌, ◌<◌, true, false, List, [], ◌∷◌, length, take, drop, sum_by, refl, sym, ap, arith, ◌∙◌, length-take, length-drop}
use Rattle.std.proofs.Math.Nat.{mul-le-mul_left}
use Rattle.std.proofs.lemmas.Bool.{leb-true}
use Rattle.std.proofs.lemmas.List.Sums.{sum_by-cons}
use Rattle.arrow_schema.specs.Column.{Column, Columns, texts, large_texts, binaries, large_binaries, lists, large_lists, fixed_lists, structs, no_column, and_column}
use Rattle.cells.specs.Cell.{Cell, cells_of}
use Rattle.cells.specs.Weight.{weight, kind_weight, parts_weight, sum_of, capped_weight}
use Rattle.columns.specs.Array.{Array, Arrays, slots_in, offsets_in, contents_in, items_in, children_in, first_array, other_arrays}
use Rattle.columns.specs.CellAt.{number_at, span_start, span_size, contents_at, span_cells, cells_from, cell_at, kind_cell, part_cells}
use Rattle.columns.specs.Tests.{are_unordered}
use Rattle.columns.specs.laws.Offsets.{offsets_ascend, spans_fit}
use Rattle.arrays.specs.inner.Weights.{sum_from, span_weight, valid_weight, parts_span_weight}
use Rattle.arrays.proofs.SpanWeights.{each_same, each_both, each_more, each_spanned}

-- ---- texts and binaries

pub size_taken : (n k : ℕ) (xs : List ℕ) → k + n ≤ length xs → length (take n (drop k xs)) ≡ n
size_taken n k xs le = simp (length-take, length-drop) (omega arith)

contents_weigh : (width : ℕ) (a : Array) (w : Cell → ℕ) (f : ℕ → Cell) (start n : ℕ) → ((i : ℕ) → w (f i) ≡ 1 + length (contents_at width a i))
    → are_unordered width (length (contents_in a)) a ≡ false → 0 < n → start + n ≤ slots_in a
    → sum_from w f start n ≡ n + (number_at width (offsets_in a) (start + n) - span_start width a start)
contents_weigh width a w f start n own ordered some le =
    let most : ℕ = length (contents_in a) in
    let at : ℕ → ℕ = number_at width (offsets_in a) in
    let ones : (k m : ℕ) → sum_from (λ (x : ℕ). 1) (λ (x : ℕ). x) k m ≡ m * 1 = λ k m. each_same (λ (x : ℕ). 1) (λ (x : ℕ). x) 1 k m (λ i l r. refl) in
    let each : (i : ℕ) → start ≤ i → i < start + n → w (f i) ≡ 1 + sum_from (λ (x : ℕ). 1) (λ (x : ℕ). x) (at i) (at (i + 1) - at i) = λ i l r.
    (let size : length (contents_at width a i) ≡ at (i + 1) - at i = size_taken (span_size width a i) (span_start width a i) (contents_in a) (spans_fit width most a i 1 ordered (omega arith) (omega arith)) in
    let one = own i in
    let all = ones (at i) (at (i + 1) - at i) in
    omega (arith, size, one, all)) in
    let up : (i m : ℕ) → start ≤ i → i + m ≤ start + n → at i ≤ at (i + m) = λ i m l r. offsets_ascend width most a i m ordered (omega arith) (omega arith) in
    let whole = each_spanned w f (λ (x : ℕ). 1) (λ (x : ℕ). x) at start n each up in
    let all = ones (at start) (at (start + n) - at start) in
    omega (arith, whole, all)

pub texts_weigh : (width : ℕ) (a : Array) (start n : ℕ) → are_unordered width (length (contents_in a)) a ≡ false → 0 < n → start + n ≤ slots_in a → width ≡ 4
    → n + (number_at width (offsets_in a) (start + n) - span_start width a start) ≡ valid_weight texts a start n
unfolding kind_weight kind_cell
texts_weigh width a start n ordered some le is =
    sym (contents_weigh width a (kind_weight texts) (kind_cell texts a) start n (λ i. ap (λ (w : ℕ). 1 + length (contents_at w a i)) (sym is)) ordered some le)

pub large_texts_weigh : (width : ℕ) (a : Array) (start n : ℕ) → are_unordered width (length (contents_in a)) a ≡ false → 0 < n → start + n ≤ slots_in a → width ≡ 8
    → n + (number_at width (offsets_in a) (start + n) - span_start width a start) ≡ valid_weight large_texts a start n
unfolding kind_weight kind_cell
large_texts_weigh width a start n ordered some le is =
    sym (contents_weigh width a (kind_weight large_texts) (kind_cell large_texts a) start n (λ i. ap (λ (w : ℕ). 1 + length (contents_at w a i)) (sym is)) ordered some le)

pub binaries_weigh : (width : ℕ) (a : Array) (start n : ℕ) → are_unordered width (length (contents_in a)) a ≡ false → 0 < n → start + n ≤ slots_in a → width ≡ 4
    → n + (number_at width (offsets_in a) (start + n) - span_start width a start) ≡ valid_weight binaries a start n
unfolding kind_weight kind_cell
binaries_weigh width a start n ordered some le is =
    sym (contents_weigh width a (kind_weight binaries) (kind_cell binaries a) start n (λ i. ap (λ (w : ℕ). 1 + length (contents_at w a i)) (sym is)) ordered some le)

pub large_binaries_weigh : (width : ℕ) (a : Array) (start n : ℕ) → are_unordered width (length (contents_in a)) a ≡ false → 0 < n → start + n ≤ slots_in a → width ≡ 8
    → n + (number_at width (offsets_in a) (start + n) - span_start width a start) ≡ valid_weight large_binaries a start n
unfolding kind_weight kind_cell
large_binaries_weigh width a start n ordered some le is =
    sym (contents_weigh width a (kind_weight large_binaries) (kind_cell large_binaries a) start n (λ i. ap (λ (w : ℕ). 1 + length (contents_at w a i)) (sym is)) ordered some le)

-- ---- lists

pub sum_listed : (w : Cell → ℕ) (xs : List Cell) → sum_of w (cells_of xs) ≡ sum_by w xs
sum_listed w [] = refl
sum_listed w (x ∷ xs) = let rest = sum_listed w xs in let one = sum_by-cons w x xs in omega (arith, rest, one)

items_weigh : (width : ℕ) (item : Column) (a : Array) (w : Cell → ℕ) (f : ℕ → Cell) (start n : ℕ)
    → ((i : ℕ) → w (f i) ≡ 1 + sum_of (weight item) (cells_of (span_cells width (cell_at item (items_in a)) a i)))
    → are_unordered width (slots_in (items_in a)) a ≡ false → 0 < n → start + n ≤ slots_in a
    → sum_from w f start n ≡ n + span_weight item (items_in a) (span_start width a start) (number_at width (offsets_in a) (start + n) - span_start width a start)
items_weigh width item a w f start n own ordered some le =
    let most : ℕ = slots_in (items_in a) in
    let at : ℕ → ℕ = number_at width (offsets_in a) in
    let each : (i : ℕ) → start ≤ i → i < start + n → w (f i) ≡ 1 + span_weight item (items_in a) (at i) (at (i + 1) - at i) = λ i l r.
    (own i ∙ ap (λ (k : ℕ). 1 + k) (sum_listed (weight item) (span_cells width (cell_at item (items_in a)) a i))) in
    let up : (i m : ℕ) → start ≤ i → i + m ≤ start + n → at i ≤ at (i + m) = λ i m l r. offsets_ascend width most a i m ordered (omega arith) (omega arith) in
    each_spanned w f (weight item) (cell_at item (items_in a)) at start n each up

pub lists_weigh : (width : ℕ) (item : Column) (a : Array) (start n : ℕ) → are_unordered width (slots_in (items_in a)) a ≡ false → 0 < n → start + n ≤ slots_in a → width ≡ 4
    → n + span_weight item (items_in a) (span_start width a start) (number_at width (offsets_in a) (start + n) - span_start width a start) ≡ valid_weight (lists item) a start n
unfolding kind_weight kind_cell
lists_weigh width item a start n ordered some le is =
    sym (items_weigh width item a (kind_weight (lists item)) (kind_cell (lists item) a) start n
    (λ i. ap (λ (w : ℕ). 1 + sum_of (weight item) (cells_of (span_cells w (cell_at item (items_in a)) a i))) (sym is)) ordered some le)

pub large_lists_weigh : (width : ℕ) (item : Column) (a : Array) (start n : ℕ) → are_unordered width (slots_in (items_in a)) a ≡ false → 0 < n → start + n ≤ slots_in a → width ≡ 8
    → n + span_weight item (items_in a) (span_start width a start) (number_at width (offsets_in a) (start + n) - span_start width a start) ≡ valid_weight (large_lists item) a start n
unfolding kind_weight kind_cell
large_lists_weigh width item a start n ordered some le is =
    sym (items_weigh width item a (kind_weight (large_lists item)) (kind_cell (large_lists item) a) start n
    (λ i. ap (λ (w : ℕ). 1 + sum_of (weight item) (cells_of (span_cells w (cell_at item (items_in a)) a i))) (sym is)) ordered some le)

-- ---- fixed lists

pub fixed_own : (size : ℕ) (item : Column) (a : Array) (i : ℕ) → kind_weight (fixed_lists size item) (kind_cell (fixed_lists size item) a i) ≡ 1 + span_weight item (items_in a) (i * size) size
unfolding kind_weight kind_cell
fixed_own size item a i = ap (λ (k : ℕ). 1 + k) (sum_listed (weight item) (cells_from (cell_at item (items_in a)) (i * size) size))

pub fixed_lists_weigh : (size : ℕ) (item : Column) (a : Array) (start n : ℕ)
    → valid_weight (fixed_lists size item) a start n ≡ n + span_weight item (items_in a) (start * size) (n * size)
fixed_lists_weigh size item a start n =
    let at : ℕ → ℕ = λ i. i * size in
    let each : (i : ℕ) → start ≤ i → i < start + n → kind_weight (fixed_lists size item) (kind_cell (fixed_lists size item) a i) ≡ 1 + span_weight item (items_in a) (i * size) ((i + 1) * size - i * size) = λ i l r.
    (let e : (i + 1) * size - i * size ≡ size = omega arith in rw e (fixed_own size item a i)) in
    let up : (i m : ℕ) → start ≤ i → i + m ≤ start + n → i * size ≤ (i + m) * size = λ i m l r. omega arith in
    let whole = each_spanned (kind_weight (fixed_lists size item)) (kind_cell (fixed_lists size item) a) (weight item) (cell_at item (items_in a)) at start n each up in
    let e : (start + n) * size - start * size ≡ n * size = omega arith in
    rw e at whole

-- ---- structs

parts_once : (cs : Columns) (arrays : Arrays) (start n : ℕ) → sum_from (parts_weight cs) (part_cells cs arrays) start n ≡ parts_span_weight cs arrays start n
unfolding parts_weight part_cells parts_span_weight
parts_once no_column arrays start n = each_same (parts_weight no_column) (part_cells no_column arrays) 0 start n (λ i l r. refl) ∙ (let e : n * 0 ≡ 0 = omega arith in e)
parts_once (and_column c cs) arrays start n =
    each_both (parts_weight (and_column c cs)) (part_cells (and_column c cs) arrays) (weight c) (cell_at c (first_array arrays)) (parts_weight cs) (part_cells cs (other_arrays arrays)) start n (λ i. refl)
    ∙ ap (λ (k : ℕ). span_weight c (first_array arrays) start n + k) (parts_once cs (other_arrays arrays) start n)

pub parts_more : {X : Type 0} (cs : Columns) (arrays : Arrays) (w : X → ℕ) (f : ℕ → X) (start n : ℕ) → ((i : ℕ) → w (f i) ≡ 1 + parts_weight cs (part_cells cs arrays i))
    → sum_from w f start n ≡ n + parts_span_weight cs arrays start n
parts_more cs arrays w f start n own =
    let whole = each_more w f (parts_weight cs) (part_cells cs arrays) 1 start n (λ i l r. own i) in
    let once = parts_once cs arrays start n in
    omega (arith, whole, once)

pub structs_weigh : (cs : Columns) (a : Array) (start n : ℕ) → valid_weight (structs cs) a start n ≡ n + parts_span_weight cs (children_in a) start n
unfolding kind_weight kind_cell
structs_weigh cs a start n = parts_more cs (children_in a) (kind_weight (structs cs)) (kind_cell (structs cs) a) start n (λ i. refl)

-- ---- the totals that are reported

pub items_total : (width : ℕ) (item : Column) (a b : Array) (start n from_start len weight result : ℕ) → b ≡ items_in a → from_start ≡ span_start width a start
    → len ≡ number_at width (offsets_in a) (start + n) - span_start width a start → weight ≡ capped_weight (span_weight item b from_start len) → result ≡ capped_weight (n + weight)
    → are_unordered width (slots_in (items_in a)) a ≡ false → 0 < n → start + n ≤ slots_in a
    → (width ≡ 4 → result ≡ capped_weight (valid_weight (lists item) a start n)) × (width ≡ 8 → result ≡ capped_weight (valid_weight (large_lists item) a start n))
items_total width item a b start n from_start len weight result is starts ends below total ordered some le =
    let size : ℕ = number_at width (offsets_in a) (start + n) - span_start width a start in
    let same : weight ≡ capped_weight (span_weight item (items_in a) (span_start width a start) size) = below ∙ λ j. capped_weight (span_weight item (is j) (starts j) (ends j)) in
    let all : result ≡ capped_weight (n + span_weight item (items_in a) (span_start width a start) size) = omega (arith, same, total) in
    (λ e. all ∙ ap capped_weight (lists_weigh width item a start n ordered some le e), λ e. all ∙ ap capped_weight (large_lists_weigh width item a start n ordered some le e))

pub fixed_total : (size : ℕ) (item : Column) (a b : Array) (start n weight result : ℕ) → b ≡ items_in a → weight ≡ capped_weight (span_weight item b (start * size) (n * size))
    → result ≡ capped_weight (n + weight) → result ≡ capped_weight (valid_weight (fixed_lists size item) a start n)
fixed_total size item a b start n weight result is below total =
    let same : weight ≡ capped_weight (span_weight item (items_in a) (start * size) (n * size)) = below ∙ λ j. capped_weight (span_weight item (is j) (start * size) (n * size)) in
    let all : result ≡ capped_weight (n + span_weight item (items_in a) (start * size) (n * size)) = omega (arith, same, total) in
    all ∙ ap capped_weight (sym (fixed_lists_weigh size item a start n))

pub fixed_within : (size start n slots most : ℕ) → nat_le (slots * size) most ≡ true → start + n ≤ slots → start * size + n * size ≤ most
fixed_within size start n slots most long le =
    let all : slots * size ≤ most = leb-true _ _ long in
    let own : size * (start + n) ≤ size * slots = mul-le-mul_left size le in
    omega (arith, all, own)

pub fields_total : (cs : Columns) (a : Array) (arrays : Arrays) (start n weight result : ℕ) → arrays ≡ children_in a → weight ≡ capped_weight (parts_span_weight cs arrays start n)
    → result ≡ capped_weight (n + weight) → result ≡ capped_weight (valid_weight (structs cs) a start n)
fields_total cs a arrays start n weight result is below total =
    let same : weight ≡ capped_weight (parts_span_weight cs (children_in a) start n) = below ∙ λ j. capped_weight (parts_span_weight cs (is j) start n) in
    let all : result ≡ capped_weight (n + parts_span_weight cs (children_in a) start n) = omega (arith, same, total) in
    all ∙ ap capped_weight (sym (structs_weigh cs a start n))

-- ---- what a sound array has
