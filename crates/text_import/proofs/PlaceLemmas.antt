-- A part that is refused is at its place.
use Rattle.std.proofs.Common.{◌≡◌, ℕ, List, [], ◌∷◌, refl, ◌∙◌}
use Rattle.std.specs.Prelude.{Option, Some, None, slice_get, Err}
use Rattle.serde_json.specs.Data.{Data}
use Rattle.arrow_schema.specs.Column.{Kind, Column, PlainSchema, lists, large_lists, fixed_lists, structs}
use Rattle.arrow_schema.specs.Parts.{kind_of_column}
use Rattle.text_import.specs.declared.form.TextForm.{TextForm}
use Rattle.text_import.specs.declared.form.TextForm.TheVariants.{Csv, JsonLines}
use Rattle.text_import.specs.declared.refusal.Refusal.{Refusal}
use Rattle.text_import.specs.declared.refusal.Refused.{Refused}
use Rattle.text_import.specs.declared.value_part.Reason.{Reason}
use Rattle.text_import.specs.declared.value_part.Reason.TheVariants.{Value}
use Rattle.text_import.specs.Form.{rows_of_text}
use Rattle.text_import.specs.Objects.{cell_in}
use Rattle.text_import.specs.ValuePart.{PlainValuePart}
use Rattle.text_import.specs.Part.{PlainPart, nested_column, header_name, header_count, record_count, field, line, value_part, other_count, unknown_name, repeated_name, refused_part}
use Rattle.text_import.specs.Cause.{IsRefusedAt, is_refused_value, is_missing, is_count, is_unknown, is_repeated, in_item, in_field, item_of_kind, fields_of_kind, IsRefusedBelow, IsCause}
use Rattle.text_import.specs.Place.{parts_of_kind, column_below, column_at, IsRefusedThere, IsAtItsPlace}
use Rattle.text_import.proofs.CauseLemmas.{parts_are_causes}
use Rattle.civil_days.specs.declared.date_form.DateForm.{DateForm}

-- the item of a list, and a field of a struct
item_part : (kind : Kind) (item : Column) → item_of_kind kind ≡ Some item → slice_get (parts_of_kind kind) 0 ≡ Some item
item_part (lists c) item is = is
item_part (large_lists c) item is = is
item_part (fixed_lists size c) item is = is
item_part _ item is = absurd cc

field_part : (kind : Kind) (index : ℕ) (c : Column) → slice_get (fields_of_kind kind) index ≡ Some c → slice_get (parts_of_kind kind) index ≡ Some c
field_part (structs cs) index c is = is
field_part _ index c is = absurd cc

-- one step down
step_below : (c part : Column) (index : ℕ) (place : List ℕ) → slice_get (parts_of_kind (kind_of_column c)) index ≡ Some part → column_below c (index ∷ place) ≡ column_below part place
unfolding column_below
step_below c part index place is = rw is refl

here : (c : Column) → column_below c [] ≡ Some c
unfolding column_below
here c = refl

-- a value is refused for the field below this one at this place
record IsBelow (date_form : DateForm) (c : Column) (place : List ℕ) (e : Refusal) : Type 0 where
  column : Column
  stands : column_below c place ≡ Some column
  value : Data
  refused : cell_in date_form column value ≡ Err e

one_below : (date_form : DateForm) (c part : Column) (index : ℕ) (place : List ℕ) (e : Refusal) → slice_get (parts_of_kind (kind_of_column c)) index ≡ Some part → IsBelow date_form part place e → IsBelow date_form c (index ∷ place) e
one_below date_form c part index place e is h = record { column = h.column; stands = step_below c part index place is ∙ h.stands; value = h.value; refused = h.refused }

is_below : (date_form : DateForm) (e : Refusal) (c : Column) (v : Option Data) (path place : List ℕ) (reason : Reason) → IsRefusedAt date_form e c v path place reason → reason ≡ Value → IsBelow date_form c place e
is_below date_form e c v path place reason (is_refused_value c2 d h) is = record { column = c2; stands = here c2; value = d; refused = h }
is_below date_form e c v path place reason (is_missing c2 n h) is = absurd cc
is_below date_form e c v path place reason (is_count c2 ds size s n h) is = absurd cc
is_below date_form e c v path place reason (is_unknown c2 cs ms name k n t h) is = absurd cc
is_below date_form e c v path place reason (is_repeated c2 cs ms name k r h) is = absurd cc
is_below date_form e c v path place reason (in_item c2 item ds d n path2 place2 reason2 is_item there h) is =
    one_below date_form c2 item 0 place2 e (item_part (kind_of_column c2) item is_item) (is_below date_form e item (Some d) path2 place2 reason2 h is)
is_below date_form e c v path place reason (in_field c2 f d n path2 place2 reason2 stands h) is =
    one_below date_form c2 f n place2 e (field_part (kind_of_column c2) n f stands) (is_below date_form e f _ path2 place2 reason2 h is)

-- of a line
is_there : (date_form : DateForm) (cs : List Column) (value : Data) (p : PlainValuePart) (e : Refusal) → IsRefusedBelow date_form cs value p e → p.reason ≡ Value → IsRefusedThere date_form cs p.place e
is_there date_form cs value p e h is =
    let below = is_below date_form e h.column _ h.path h.place p.reason h.refused is in
    let at_once : column_at cs (h.index ∷ h.place) ≡ column_below h.column h.place = rw h.stands refl in
    rw h.placed (record { column = below.column; stands = at_once ∙ below.stands; value = below.value; refused = below.refused })

at_its_place : (form : TextForm) (s : PlainSchema) (t : List ℕ) (part : PlainPart) (e : Refusal) → IsCause form s t part e → IsAtItsPlace form s.columns part e
at_its_place (Csv form) s t (field name place text) e h = record { column = h.column; stands = h.stands; refused = h.refused }
at_its_place (Csv form) s t (nested_column name) e h = tt
at_its_place (Csv form) s t (header_name found wanted) e h = tt
at_its_place (Csv form) s t (header_count names columns) e h = tt
at_its_place (Csv form) s t (record_count fields columns) e h = tt
at_its_place (Csv form) s t (line part text) e h = tt
at_its_place (JsonLines date_form) s t (line (Some (value_part p)) text) e h = (λ is. let (value, reads, cause) = h.1 in is_there date_form s.columns value p e cause is)
at_its_place (JsonLines date_form) s t (line (Some (other_count items columns)) text) e h = tt
at_its_place (JsonLines date_form) s t (line (Some (unknown_name name)) text) e h = tt
at_its_place (JsonLines date_form) s t (line (Some (repeated_name name)) text) e h = tt
at_its_place (JsonLines date_form) s t (line None text) e h = tt
at_its_place (JsonLines date_form) s t (field name place text) e h = tt
at_its_place (JsonLines date_form) s t (nested_column name) e h = tt
at_its_place (JsonLines date_form) s t (header_name found wanted) e h = tt
at_its_place (JsonLines date_form) s t (header_count names columns) e h = tt
at_its_place (JsonLines date_form) s t (record_count fields columns) e h = tt

pub parts_are_at_their_places : (form : TextForm) (s : PlainSchema) (t : List ℕ) (r : Refused) (part : PlainPart) → rows_of_text form s t ≡ Err r → refused_part form s t r.number ≡ Some part
    → IsAtItsPlace form s.columns part r.refusal
parts_are_at_their_places form s t r part h names = at_its_place form s t part r.refusal (parts_are_causes form s t r part h names)
