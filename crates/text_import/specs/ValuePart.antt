-- The part of a JSON value that is refused when the value is read for a column: the first one in the order in which a cell is read (`Objects.antt`).
use Rattle.std.specs.Prelude.{ℕ, ◌+◌, ◌++◌, ◌==◌, Bool, true, false, codes, decimal, not, List, [], ◌∷◌, find, Option, Some, None, option_map, Result, Ok, Err, string_bytes, if◌then◌else◌}
use Rattle.std.specs.Option.{option_or}
use Rattle.serde_json.specs.Data.{Data, Items, no_items, item, Members}
use Rattle.serde_json.specs.Data as json
use Rattle.serde_json.specs.Find.{get_member}
use Rattle.arrow_schema.specs.Column.{Kind, Column, Columns, lists, large_lists, fixed_lists, structs, column, no_column, and_column}
use Rattle.arrow_schema.specs.Parts.{name_of_column, is_nullable_column}
use Rattle.cells.specs.Cell.{Cell}
use Rattle.text_import.specs.declared.refusal.Refusal.{Refusal}
use Rattle.text_import.specs.declared.value_part.Reason.{Reason}
use Rattle.text_import.specs.declared.value_part.Reason.TheVariants.{Value, Missing, Unknown, Repeated, Count}
use Rattle.text_import.specs.declared.value_part.ValuePart.{ValuePart}
use Rattle.text_import.specs.Objects.{item_count, column_count, first_item, other_items, kind_in, has_name, names_of, keys_of}
use Rattle.civil_days.specs.declared.date_form.DateForm.{DateForm}

-- the refused part of a value: the path to it, which is empty for the value itself; the place of its field, by index at each step from the field of the
-- value; and what is refused there
pub record PlainValuePart : Type 0 where
  pub path : List ℕ
  pub place : List ℕ
  pub reason : Reason

abbrev pub value_part_of : ValuePart → PlainValuePart
value_part_of part = record { path = string_bytes part.path; place = part.place.items; reason = part.reason }

-- the step of a path to the item at a place, counted from 0
abbrev pub item_step : ℕ → List ℕ
item_step place = codes "[" ++ decimal place ++ codes "]"

-- what stands before the name of a field in a path that leads to it from its struct
abbrev pub dot : List ℕ
dot = codes "."

-- the part of a value from which this step, to the field of this index, leads to the part
abbrev pub below : List ℕ → (index : ℕ) → PlainValuePart → PlainValuePart
below step index part = record { path = step ++ part.path; place = index ∷ part.place; reason = part.reason }

-- the value itself, or that there is none
abbrev pub itself : Reason → PlainValuePart
itself reason = record { path = []; place = []; reason = reason }

abbrev pub is_refused : Result Cell Refusal → Bool
is_refused (Ok c) = false
is_refused (Err e) = true

-- a value of a flat type is refused as a whole
abbrev pub flat_part : Result Cell Refusal → Option PlainValuePart
flat_part read = if is_refused read then Some (itself Value) else None

-- the items of an array, the first of which has this place
abbrev pub items_part : ℕ → (Data → Option PlainValuePart) → Items → Option PlainValuePart
items_part place f no_items = None
items_part place f (item d ds) = option_or (option_map (below (item_step place) 0) (f d)) (items_part (place + 1) f ds)

abbrev pub list_part : (Data → Option PlainValuePart) → Data → Option PlainValuePart
list_part f (json.array ds) = items_part 0 f ds
list_part f _ = Some (itself Value)

-- the number of items is tested before any item
abbrev pub sized_part : ℕ → (Items → Option PlainValuePart) → Items → Option PlainValuePart
sized_part size f ds = if item_count ds == size then f ds else Some (itself (Count (item_count ds) size))

abbrev pub fixed_list_part : ℕ → (Data → Option PlainValuePart) → Data → Option PlainValuePart
fixed_list_part size f (json.array ds) = sized_part size (items_part 0 f) ds
fixed_list_part size f _ = Some (itself Value)

abbrev pub null_part : Bool → (Data → Option PlainValuePart) → Data → Option PlainValuePart
null_part nullable f json.null = if nullable then None else Some (itself Value)
null_part nullable f d = f d

-- a member, or that it is missing
abbrev pub member_part : Bool → (Data → Option PlainValuePart) → Option Data → Option PlainValuePart
member_part nullable f None = if nullable then None else Some (itself Missing)
member_part nullable f (Some d) = f d

-- the first key that is not among the names
abbrev pub first_unknown : List (List ℕ) → List (List ℕ) → Option (List ℕ)
first_unknown names keys = find (λ k. not (has_name names k)) keys

-- the first of these names that is also a later one
abbrev pub first_repeated : List (List ℕ) → Option (List ℕ)
first_repeated [] = None
first_repeated (name ∷ names) = if has_name names name then Some name else first_repeated names

-- a name in an object or of a field of its struct
abbrev pub at_name : Reason → List ℕ → PlainValuePart
at_name reason name = record { path = dot ++ name; place = []; reason = reason }

-- names are tested before any member, first those of the fields
abbrev pub names_part : List (List ℕ) → Members → Option PlainValuePart
names_part names ms = option_or (option_map (at_name Repeated) (first_repeated names)) (option_map (at_name Unknown) (first_unknown names (keys_of ms)))

abbrev pub struct_part : (Items → Option PlainValuePart) → (Members → Option PlainValuePart) → Data → Option PlainValuePart
struct_part f g (json.array ds) = f ds
struct_part f g (json.object ms) = g ms
struct_part f g _ = Some (itself Value)

unfoldable mutual
  -- of a value in a column
  pub cell_part : DateForm → Column → Data → Option PlainValuePart
  cell_part date_form (column name nullable kind dictionary pairs) = null_part nullable (kind_part date_form kind)

  -- of a value that is not null
  pub kind_part : DateForm → Kind → Data → Option PlainValuePart
  kind_part date_form (lists inner) = list_part (cell_part date_form inner)
  kind_part date_form (large_lists inner) = list_part (cell_part date_form inner)
  kind_part date_form (fixed_lists size inner) = fixed_list_part size (cell_part date_form inner)
  kind_part date_form (structs columns) =
      struct_part (sized_part (column_count columns) (part_by_place date_form dot 0 columns)) (λ ms. option_or (names_part (names_of columns) ms) (part_by_name date_form dot 0 columns ms))
  kind_part date_form kind = λ d. flat_part (kind_in date_form kind d)

  -- of as many items as columns, in order; `before` stands before the name of each, and the first column has this index
  pub part_by_place : (date_form : DateForm) (before : List ℕ) → (index : ℕ) → Columns → Items → Option PlainValuePart
  part_by_place date_form before index no_column = λ ds. None
  part_by_place date_form before index (and_column c cs) = λ ds.
      option_or (option_map (below (before ++ name_of_column c) index) (cell_part date_form c (first_item ds))) (part_by_place date_form before (index + 1) cs (other_items ds))

  -- of the members with the names of the columns, in the order of the columns
  pub part_by_name : (date_form : DateForm) (before : List ℕ) → (index : ℕ) → Columns → Members → Option PlainValuePart
  part_by_name date_form before index no_column = λ ms. None
  part_by_name date_form before index (and_column c cs) = λ ms.
      option_or
      (option_map (below (before ++ name_of_column c) index) (member_part (is_nullable_column c) (cell_part date_form c) (get_member (name_of_column c) ms)))
      (part_by_name date_form before (index + 1) cs ms)
