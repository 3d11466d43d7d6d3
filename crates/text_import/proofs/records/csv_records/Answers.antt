use Rattle.std.proofs.Common.{◌∙◌, sym}
use Rattle.arrow_schema.specs.View.{schema_of}
use Rattle.text_import.specs.Records.{records_of}
use Rattle.text_import.proofs.RecordLemmas.{few_behind, nested_refused, unnested}
use Rattle.text_import.proofs.records.csv_records.Goals as goal

pub returns-then-has_nested : goal.returns-then-has_nested
returns-then-has_nested c =
    let nested = rw c.deref.ensures.value at (sym c.has_nested.ensures ∙ c.if-has_nested.true) in
    record { behind = tt; refused = λ form. rw c.whole.ensures (nested_refused (schema_of c.args.schema.now) form c.args.text.now nested) }

pub returns-in-Ok : goal.returns-in-Ok
returns-in-Ok c =
    let t = c.args.text.now in
    let s = schema_of c.args.schema.now in
    let (header, records, whole, has, rows) = c.in-Ok.ensures.behind (records_of t) c.reader_of-reader.ensures in
    let flat = rw c.deref.ensures.value at (sym c.has_nested.ensures ∙ c.if-has_nested.false) in
    record { behind = (records, has, few_behind t header records whole, (header, whole), λ form. unnested s form t flat ∙ rows form); refused = tt }

pub returns : goal.returns
returns c =
    let t = c.args.text.now in
    let s = schema_of c.args.schema.now in
    let flat = rw c.deref.ensures.value at (sym c.has_nested.ensures ∙ c.if-has_nested.false) in
    record { behind = tt; refused = λ form. rw (unnested s form t flat) (c.in-Err.ensures.refused (records_of t) c.reader_of-reader.ensures form) }
