-- What cells weigh bounds how many there are below them, and how many bytes.
use Rattle.std.proofs.Common.{◌≡◌, ℕ, zero, suc, ◌+◌, ◌*◌, ◌≤◌, List, [], ◌∷◌, map, length, replicate, sum_by, refl, arith, ap, ◌∙◌, length-append}
use Rattle.std.specs.List.{flat_map}
use Rattle.std.proofs.lemmas.List.Concat.{flat_map-cons}
use Rattle.std.proofs.lemmas.List.Sums.{sum_by-cons, sum_by-append}
use Rattle.arrow_schema.specs.Column.{Column, nulls, column}
use Rattle.cells.specs.Cell.{Cell, Cells, null, items, no_cell, and_cell, cell_list}
use Rattle.cells.specs.Dictionary.{item_list}
use Rattle.cells.specs.Weight.{byte_count, items_in, sum_of, fixed_sum, weight}
use Rattle.columns.specs.Built.{contents_of, fixed_items}

-- ---- sums

-- where each element counts as much below as it weighs at most, so do all of them
pub sum_below : {X Y : Type 0} (f : X → List Y) (w : Y → ℕ) (v : X → ℕ) → ((x : X) → sum_by w (f x) ≤ v x) → (xs : List X) → sum_by w (flat_map f xs) ≤ sum_by v xs
sum_below f w v h [] = omega arith
sum_below f w v h (x ∷ xs) =
    let rest = sum_below f w v h xs in
    let whole : sum_by w (flat_map f (x ∷ xs)) ≡ sum_by w (f x) + sum_by w (flat_map f xs) = ap (sum_by w) (flat_map-cons f x xs) ∙ sum_by-append w (f x) (flat_map f xs) in
    let here = h x in
    let sums : sum_by v (x ∷ xs) ≡ v x + sum_by v xs = sum_by-cons v x xs in
    omega (arith, rest, whole, here, sums)

pub size_below : {X Y : Type 0} (f : X → List Y) (v : X → ℕ) → ((x : X) → length (f x) ≤ v x) → (xs : List X) → length (flat_map f xs) ≤ sum_by v xs
size_below f v h [] = omega arith
size_below f v h (x ∷ xs) =
    let rest = size_below f v h xs in
    let whole = ap length (flat_map-cons f x xs) ∙ length-append (f x) (flat_map f xs) in
    let here = h x in
    let sums : sum_by v (x ∷ xs) ≡ v x + sum_by v xs = sum_by-cons v x xs in
    omega (arith, rest, whole, here, sums)

pub sum_map : {X Y : Type 0} (f : X → Y) (w : Y → ℕ) (v : X → ℕ) → ((x : X) → w (f x) ≤ v x) → (xs : List X) → sum_by w (map f xs) ≤ sum_by v xs
sum_map f w v h [] = omega arith
sum_map f w v h (x ∷ xs) =
    let rest = sum_map f w v h xs in
    let here = h x in
    let one : sum_by w (f x ∷ map f xs) ≡ w (f x) + sum_by w (map f xs) = sum_by-cons w (f x) (map f xs) in
    let two : sum_by v (x ∷ xs) ≡ v x + sum_by v xs = sum_by-cons v x xs in
    omega (arith, rest, here, one, two)

-- ---- one cell

pub some_weight : (c : Column) (x : Cell) → 1 ≤ weight c x
unfolding weight
some_weight (column name nullable nulls dictionary pairs) x = omega arith
some_weight _ x = omega arith

pub contents_weigh : (x : Cell) → length (contents_of x) ≡ byte_count x
contents_weigh null = refl
contents_weigh _ = refl

listed_sum : (w : Cell → ℕ) (cs : Cells) → sum_by w (cell_list cs) ≡ sum_of w cs
listed_sum w no_cell = refl
listed_sum w (and_cell c cs) = let rest = listed_sum w cs in let one : sum_by w (c ∷ cell_list cs) ≡ w c + sum_by w (cell_list cs) = sum_by-cons w c (cell_list cs) in omega (arith, rest, one)

pub count_below : (w : Cell → ℕ) → ((x : Cell) → 1 ≤ w x) → (cs : Cells) → length (cell_list cs) ≤ sum_of w cs
count_below w h no_cell = omega arith
count_below w h (and_cell c cs) = let rest = count_below w h cs in let one = h c in omega (arith, rest, one)

pub items_weigh : (w : Cell → ℕ) (x : Cell) → sum_by w (item_list x) ≡ sum_of w (items_in x)
items_weigh w x = listed_sum w (items_in x)

null_sum : (w : Cell → ℕ) (n : ℕ) → sum_by w (replicate n null) ≡ n * w null
null_sum w zero = omega arith
null_sum w (suc n) = let rest = null_sum w n in let one : sum_by w (null ∷ replicate n null) ≡ w null + sum_by w (replicate n null) = sum_by-cons w null (replicate n null) in omega (arith, rest, one)

pub fixed_weigh : (size : ℕ) (w : Cell → ℕ) (x : Cell) → sum_by w (fixed_items size x) ≡ fixed_sum size w x
fixed_weigh size w null = null_sum w size
fixed_weigh size w (items cs) = listed_sum w cs
fixed_weigh size w _ = listed_sum w no_cell
