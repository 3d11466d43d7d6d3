-- A borrowed text, and the names of an object's members.
use Rattle.std.specs.Prelude.{◌≡◌, ℕ, List, Option, Some, None, Result, Ok, Err, option_map, if◌then◌else◌}
use Rattle.std.specs.Borrow.{Bor}
use Rattle.std.specs.Str.{is_utf8}
use Rattle.serde_json.specs.Data.{Members}
use Rattle.serde_json.specs.Find.{get_member}
use Rattle.arrow_schema.specs.Column.{Column}
use Rattle.cells.specs.Cell.{Cell}
use Rattle.text_import.specs.declared.refusal.Refusal.{Refusal}
use Rattle.arrow_schema.specs.Parts.{name_of_column, is_nullable_column}
use Rattle.text_import.specs.declared.refusal.Refusal.TheVariants.{AmbiguousNames, UnknownName}
use Rattle.text_import.specs.Objects.{member_in, cell_in, repeats, has_unknown, keys_of}
use Rattle.text_import.specs.ValuePart.{PlainValuePart, member_part, cell_part}
use Rattle.civil_days.specs.declared.date_form.DateForm.{DateForm}

-- the text, if there is one
abbrev pub IsText : Option (List ℕ) → Option (Bor (List ℕ)) → Type 0
IsText text found = option_map (λ t. t.now) found ≡ text

abbrev pub text_where_utf8 : List ℕ → Option (List ℕ)
text_where_utf8 t = if is_utf8 t then Some t else None

-- the cell of a column from an object's members
abbrev pub member_of : DateForm → Column → Members → Result Cell Refusal
member_of date_form c ms = member_in (is_nullable_column c) (cell_in date_form c) (get_member (name_of_column c) ms)

-- the refused part of the same member
abbrev pub member_part_of : DateForm → Column → Members → Option PlainValuePart
member_part_of date_form c ms = member_part (is_nullable_column c) (cell_part date_form c) (get_member (name_of_column c) ms)

-- the refusal of the test of names
abbrev pub tested : List (List ℕ) → Members → Result Members Refusal
tested names ms = if repeats names then Err AmbiguousNames else if has_unknown names (keys_of ms) then Err UnknownName else Ok ms
