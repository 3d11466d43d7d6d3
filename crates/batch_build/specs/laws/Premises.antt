-- What buffers ask of cells that can be built.
use Rattle.std.specs.Prelude.{Option, None, Some, nat_le}
use Rattle.std.proofs.Common.{◌≡◌, ℕ, Bool, true, List, map, length, refl, arith}
use Rattle.std.proofs.lemmas.Bool.{and_parts, le-leb, leb-true}
use Rattle.std.specs.List.{flat_map}
use Rattle.arrow_schema.specs.Column.{Index, Pair, DateKind, TimeKind, Kind, Column, Columns, integers, dates, timestamps, fixed_lists, structs, column}
use Rattle.cells.specs.Cell.{Cell}
use Rattle.cells.specs.Dictionary.{item_list, part_list}
use Rattle.cells.specs.Fit.{date_bits, fits_kind}
use Rattle.columns.specs.Buildable.{are_nulls_or_fit, can_build, can_build_below, can_build_parts, contents_fit, items_fit, small_offset, large_offset}
use Rattle.columns.specs.Built.{contents_of, fixed_items}
use Rattle.columns.specs.declared.numbers.OffsetWidth.{OffsetWidth}
use Rattle.columns.specs.declared.numbers.OffsetWidth.TheVariants.{Four, Eight}
use Rattle.batch_build.specs.Batch.{plain_column}
use Rattle.batch_build.specs.Nodes.{text_kind, binary_kind, list_kind}

of_kind : (kind : Kind) (cells : List Cell) → can_build (plain_column kind None) cells ≡ true → are_nulls_or_fit kind cells ≡ true
unfolding can_build
of_kind kind cells h = (and_parts (are_nulls_or_fit kind cells) (can_build_below kind cells) h).0

below : (kind : Kind) (cells : List Cell) → can_build (plain_column kind None) cells ≡ true → can_build_below kind cells ≡ true
unfolding can_build
below kind cells h = (and_parts (are_nulls_or_fit kind cells) (can_build_below kind cells) h).1

pub any_name_can : (name : List ℕ) (nullable : Bool) (kind : Kind) (dictionary : Option Index) (pairs : List Pair) (cells : List Cell)
    → can_build (column name nullable kind dictionary pairs) cells ≡ can_build (plain_column kind dictionary) cells
unfolding can_build
any_name_can name nullable kind None pairs cells = refl
any_name_can name nullable kind (Some index) pairs cells = refl

-- dates and timestamps are integers with a sign
pub dates_fit : (unit : DateKind) (bits : ℕ) (signed : Bool) (cells : List Cell) → bits ≡ date_bits unit → signed ≡ true → can_build (plain_column (dates unit) None) cells ≡ true
    → are_nulls_or_fit (integers bits signed) cells ≡ true
unfolding fits_kind
dates_fit unit bits signed cells same sign h = rw (same, sign) (of_kind (dates unit) cells h)

pub timestamps_fit : (unit : TimeKind) (timezone : List ℕ) (cells : List Cell) → can_build (plain_column (timestamps unit timezone) None) cells ≡ true
    → are_nulls_or_fit (integers 64 true) cells ≡ true
unfolding fits_kind
timestamps_fit unit timezone cells h = of_kind (timestamps unit timezone) cells h

larger : (n : ℕ) → nat_le n small_offset ≡ true → nat_le n large_offset ≡ true
larger n h = let small = leb-true n small_offset h in le-leb n large_offset (omega (arith, small))

pub texts_fit : (width : OffsetWidth) (cells : List Cell) → can_build (plain_column (text_kind width) None) cells ≡ true → contents_fit large_offset cells ≡ true
unfolding can_build_below
texts_fit Four cells h = larger (length (flat_map contents_of cells)) (below _ cells h)
texts_fit Eight cells h = below _ cells h

pub binaries_fit : (width : OffsetWidth) (cells : List Cell) → can_build (plain_column (binary_kind width) None) cells ≡ true → contents_fit large_offset cells ≡ true
unfolding can_build_below
binaries_fit Four cells h = larger (length (flat_map contents_of cells)) (below _ cells h)
binaries_fit Eight cells h = below _ cells h

pub lists_fit : (width : OffsetWidth) (item : Column) (cells : List Cell) → can_build (plain_column (list_kind width item) None) cells ≡ true → items_fit large_offset cells ≡ true
unfolding can_build_below
lists_fit Four item cells h = larger (length (flat_map item_list cells)) (and_parts (items_fit small_offset cells) (can_build item (flat_map item_list cells)) (below _ cells h)).0
lists_fit Eight item cells h = (and_parts (items_fit large_offset cells) (can_build item (flat_map item_list cells)) (below _ cells h)).0

pub items_can_be_built : (width : OffsetWidth) (item : Column) (cells : List Cell) → can_build (plain_column (list_kind width item) None) cells ≡ true
    → can_build item (flat_map item_list cells) ≡ true
unfolding can_build_below
items_can_be_built Four item cells h = (and_parts (items_fit small_offset cells) (can_build item (flat_map item_list cells)) (below _ cells h)).1
items_can_be_built Eight item cells h = (and_parts (items_fit large_offset cells) (can_build item (flat_map item_list cells)) (below _ cells h)).1

pub fixed_items_can_be_built : (size : ℕ) (item : Column) (cells : List Cell) → can_build (plain_column (fixed_lists size item) None) cells ≡ true
    → can_build item (flat_map (fixed_items size) cells) ≡ true
unfolding can_build_below
fixed_items_can_be_built size item cells h = below _ cells h

pub parts_can_be_built : (columns : Columns) (cells : List Cell) → can_build (plain_column (structs columns) None) cells ≡ true → can_build_parts columns (map part_list cells) ≡ true
unfolding can_build_below
parts_can_be_built columns cells h = below _ cells h
