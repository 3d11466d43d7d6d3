use Rattle.std.proofs.Common.{[], None}
use Rattle.arrow_schema.specs.View.{schema_of}
use Rattle.catalogue.specs.Entries.{PlainEntry}
use Rattle.catalogue.specs.Reading.{entry_from}
use Rattle.pages.proofs.reading.read_page.Goals as goal

pub returns-in-Ok-decode_page-clause-schema : goal.returns-in-Ok-decode_page-clause-schema
returns-in-Ok-decode_page-clause-schema g c =
    let body = c.in-Ok-decode_page.body in
    let e : PlainEntry = entry_from [] None (schema_of body.0, body.1.items) in
    (c.one_page_each.ensures.kept c.args.form c.args.most _ e c.in-Ok-decode_page.ensures.exact).0

pub returns-in-Ok-decode_page-clause-segments : goal.returns-in-Ok-decode_page-clause-segments
returns-in-Ok-decode_page-clause-segments g c =
    let body = c.in-Ok-decode_page.body in
    let e : PlainEntry = entry_from [] None (schema_of body.0, body.1.items) in
    (c.one_page_each.ensures.kept c.args.form c.args.most _ e c.in-Ok-decode_page.ensures.exact).1

pub returns-in-Ok-decode_page-clause-form : goal.returns-in-Ok-decode_page-clause-form
returns-in-Ok-decode_page-clause-form g c =
    let body = c.in-Ok-decode_page.body in
    let e : PlainEntry = entry_from [] None (schema_of body.0, body.1.items) in
    c.one_page_each.ensures.formed c.args.form c.args.most _ e c.in-Ok-decode_page.ensures.exact
