use Rattle.std.proofs.Common.{◌≡◌, ◌∙◌, ◌+◌, ◌≤◌, sym, List, ℕ, [], ◌∷◌, ap, length, map, arith}
use Rattle.std.proofs.lemmas.List.{map-append}
use Rattle.csv.specs.Records.{fields_of}
use Rattle.arrow_schema.specs.View.{schema_of}
use Rattle.cells.specs.Row.{row_of}
use Rattle.text_import.specs.Rows.{rows_from}
use Rattle.text_import.specs.Refusals.{numbered, refused_by}
use Rattle.text_import.specs.Records.{record_row}
use Rattle.text_import.specs.laws.Behind.{taken_none, taken_some}
use Rattle.text_import.specs.laws.Behind.{told, row_more, row_refused, rows_end}
use Rattle.text_import.proofs.records.record_rows.Goals as goal
use Rattle.text_import.specs.FieldForm.{field_form}

pub loop-index-preserved : goal.loop-index-preserved
loop-index-preserved c =
    λ records stands few.
    let (left, has, size, kept) = c.loop-index.invariant records stands few in
    let fields = fields_of c.read_next.new.row in
    let (others, whole, more) = taken_some left c.in_ok-read_next.field-0 fields c.read_next.new.reader (c.in_ok-read_next.ensures left has) c.if-not-branch.false in
    let read = record_row (schema_of c.args.schema.now) (field_form c.args.form.now) in
    let i = c.loop-index.index in
    let len = ap length whole in
    let next = row_more read (i + 1) (map row_of c.loop-index.rows.items) fields others (row_of c.in-Ok.read) c.in-Ok.ensures in
    (others, more, omega (arith, len, size), rw (c.in_ok-push.ensures.items, map-append row_of c.loop-index.rows.items (c.in-Ok.read ∷ [])) (sym next ∙ rw whole at kept))

pub returns : goal.returns
returns c =
    λ records stands few.
    let (left, has, size, kept) = c.loop-index.invariant records stands few in
    let none : left ≡ [] = none_of left (omega (arith, size)) in
    sym (rw none at kept) ∙ rows_end (record_row (schema_of c.args.schema.now) (field_form c.args.form.now)) (c.loop-index.index + 1) (map row_of c.loop-index.rows.items)
  where
    none_of : (xs : List (List (List ℕ))) → length xs ≤ 0 → xs ≡ []
    none_of [] h = cc
    none_of (x ∷ xs) h = absurd (omega arith)

pub returns-then-not-branch : goal.returns-then-not-branch
returns-then-not-branch c =
    λ records stands few.
    let (left, has, size, kept) = c.loop-index.invariant records stands few in
    let none = taken_none left c.in_ok-read_next.field-0 (fields_of c.read_next.new.row) c.read_next.new.reader (c.in_ok-read_next.ensures left has) c.if-not-branch.true in
    sym (rw none at kept) ∙ rows_end (record_row (schema_of c.args.schema.now) (field_form c.args.form.now)) (c.loop-index.index + 1) (map row_of c.loop-index.rows.items)

pub returns-in-Err : goal.returns-in-Err
returns-in-Err c =
    λ records stands few.
    let (left, has, size, kept) = c.loop-index.invariant records stands few in
    let fields = fields_of c.read_next.new.row in
    let (others, whole, more) = taken_some left c.in_ok-read_next.field-0 fields c.read_next.new.reader (c.in_ok-read_next.ensures left has) c.if-not-branch.false in
    let read = record_row (schema_of c.args.schema.now) (field_form c.args.form.now) in
    let i = c.loop-index.index in
    told
    (refused_by c.in-Err.error)
    (numbered (i + 1) (read fields))
    (rows_from read 1 records)
    c.in-Err.ensures
    (λ f e. sym (rw whole at kept) ∙ row_refused read (i + 1) (map row_of c.loop-index.rows.items) fields others f e)
