use Rattle.std.proofs.Common.{◌∙◌, sym}
use Rattle.csv.specs.Records.{fields_of}
use Rattle.arrow_schema.specs.View.{schema_of}
use Rattle.text_import.specs.laws.Behind.{taken_none, taken_some}
use Rattle.text_import.proofs.RecordLemmas.{no_header, other_header, right_header}
use Rattle.text_import.proofs.records.pass_header.Goals as goal

pub returns-then-not-branch : goal.returns-then-not-branch
returns-then-not-branch c = record {
  behind = tt;
  refused = λ all has form.
      let read = c.in_ok-read_next.ensures all has in
      rw c.whole.ensures (no_header (schema_of c.args.schema.now) form all (taken_none all c.in_ok-read_next.field-0 (fields_of c.read_next.new.row) c.read_next.new.reader read c.if-not-branch.true));
}

pub returns-then-are_names : goal.returns-then-are_names
returns-then-are_names c = record {
  behind = λ all has.
      let header = fields_of c.read_next.new.row in
      let read = c.in_ok-read_next.ensures all has in
      let (records, whole, left) = taken_some all c.in_ok-read_next.field-0 header c.read_next.new.reader read c.if-not-branch.false in
      let names = rw c.deref.ensures.value at (sym c.are_names.ensures ∙ c.if-are_names.true) in
      (header, records, whole, left, λ form. right_header (schema_of c.args.schema.now) form all records header whole names);
  refused = tt;
}

pub returns-else-are_names : goal.returns-else-are_names
returns-else-are_names c = record {
  behind = tt;
  refused = λ all has form.
      let header = fields_of c.read_next.new.row in
      let read = c.in_ok-read_next.ensures all has in
      let (records, whole, left) = taken_some all c.in_ok-read_next.field-0 header c.read_next.new.reader read c.if-not-branch.false in
      let names = rw c.deref.ensures.value at (sym c.are_names.ensures ∙ c.if-are_names.false) in
      rw c.whole-else-are_names.ensures (other_header (schema_of c.args.schema.now) form all records header whole names);
}
