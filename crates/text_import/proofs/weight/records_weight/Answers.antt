use Rattle.std.proofs.Common.{◌≡◌, ◌+◌, ◌-◌, ◌≤◌, List, ℕ, [], ◌∷◌, ap, length, arith}
use Rattle.csv.specs.Records.{fields_of}
use Rattle.arrow_schema.specs.View.{schema_of}
use Rattle.cells.specs.Row.{row_of}
use Rattle.text_import.specs.Records.{record_row}
use Rattle.text_import.specs.Refusals.{refused_by}
use Rattle.text_import.specs.Rows.{rows_from}
use Rattle.text_import.specs.laws.Behind.{taken_none, taken_some}
use Rattle.text_import.proofs.WeightLemmas.{all_weighed, none_weighed, one_refused, one_weighed}
use Rattle.text_import.proofs.weight.records_weight.Goals as goal
use Rattle.text_import.specs.FieldForm.{field_form}

pub loop-index-init : goal.loop-index-init
loop-index-init c =
    λ records stands few.
    let s = schema_of c.args.schema.now in
    (records, stands, omega (arith, few), none_weighed s (record_row s (field_form c.args.form.now)) records)

pub loop-index-preserved : goal.loop-index-preserved
loop-index-preserved c =
    λ records stands few.
    let (left, has, size, kept) = c.loop-index.invariant records stands few in
    let fields = fields_of c.read_next.new.row in
    let (others, whole, more) = taken_some left c.in_ok-read_next.field-0 fields c.read_next.new.reader (c.in_ok-read_next.ensures left has) c.if-not-branch.false in
    let s = schema_of c.args.schema.now in
    let read = record_row s (field_form c.args.form.now) in
    let len = ap length whole in (
      others,
      more,
      omega (arith, len, size),
      one_weighed s read (rows_from read 1 records) (c.loop-index.index + 1) fields others (row_of c.in-Ok.read) c.loop-index.weight c.weight_with-weight.result c.in-Ok.ensures c.weight_with-weight.ensures (rw whole at kept),
    )

pub returns : goal.returns
returns c =
    λ records stands few.
    let (left, has, size, kept) = c.loop-index.invariant records stands few in
    let none : left ≡ [] = none_of left (omega (arith, size)) in
    let s = schema_of c.args.schema.now in
    let read = record_row s (field_form c.args.form.now) in
    all_weighed s read (rows_from read 1 records) (c.loop-index.index + 1) c.loop-index.weight (rw none at kept)
  where
    none_of : (xs : List (List (List ℕ))) → length xs ≤ 0 → xs ≡ []
    none_of [] h = cc
    none_of (x ∷ xs) h = absurd (omega arith)

pub returns-then-not-branch : goal.returns-then-not-branch
returns-then-not-branch c =
    λ records stands few.
    let (left, has, size, kept) = c.loop-index.invariant records stands few in
    let none = taken_none left c.in_ok-read_next.field-0 (fields_of c.read_next.new.row) c.read_next.new.reader (c.in_ok-read_next.ensures left has) c.if-not-branch.true in
    let s = schema_of c.args.schema.now in
    let read = record_row s (field_form c.args.form.now) in
    all_weighed s read (rows_from read 1 records) (c.loop-index.index + 1) c.loop-index.weight (rw none at kept)

pub returns-in-Err : goal.returns-in-Err
returns-in-Err c =
    λ records stands few.
    let (left, has, size, kept) = c.loop-index.invariant records stands few in
    let fields = fields_of c.read_next.new.row in
    let (others, whole, more) = taken_some left c.in_ok-read_next.field-0 fields c.read_next.new.reader (c.in_ok-read_next.ensures left has) c.if-not-branch.false in
    let s = schema_of c.args.schema.now in
    let read = record_row s (field_form c.args.form.now) in
    one_refused s read (rows_from read 1 records) (c.loop-index.index + 1) fields others c.loop-index.weight (refused_by c.in-Err.error) c.in-Err.ensures (rw whole at kept)
