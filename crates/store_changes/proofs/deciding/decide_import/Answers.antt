use Rattle.std.proofs.Common.{◌≡◌, None, Ok, inl, refl, ap, sym, ◌∙◌, subst, string_bytes}
use Rattle.cells.specs.Cell.{PlainTable}
use Rattle.values.specs.Table.{IsTable}
use Rattle.values.specs.TableView.{table_of}
use Rattle.catalogue.specs.Entries.{PlainCatalogue}
use Rattle.catalogue.specs.View.{catalogue_of}
use Rattle.commit.specs.Placing.{AreShort}
use Rattle.tables.specs.Commands.{import_stream}
use Rattle.store_runs.specs.Changes.{PlainChange, IsChange}
use Rattle.store_changes.specs.Change.{change_of, IsPut}
use Rattle.tables.specs.Verdict.{import_tests}
use Rattle.store_runs.specs.Deciding.{full_in, IsAnswered}
use Rattle.std.proofs.lemmas.Result.{err_from_is_err_and}
use Rattle.store_changes.specs.laws.Tested.{Counts, import_named, table_is_change}
use Rattle.store_changes.specs.laws.Decided.{import_answers, failed_answers, table_answers}
use Rattle.store_changes.proofs.deciding.decide_import.Goals as goal

pub returns-clause-ok : goal.returns-clause-ok
returns-clause-ok c = λ short.
    let listed : PlainCatalogue = catalogue_of c.args.catalogue.now in
    let table : PlainTable = table_of c.in_ok-table.table in
    let sound : IsTable table = c.in_ok-table.table.kept in
    let counts : Counts listed = record { more = c.counts_after_changes.ensures.put listed; same = c.counts_after_changes.ensures.replaced listed } in
    let tested : import_tests (string_bytes c.args.name) c.args.bytes.items ≡ None = sym (λ i. import_tests (c.deref.ensures i) (c.deref-2.ensures.value i)) ∙ c.in_ok-test_import.ensures in
    let room : full_in listed (string_bytes c.args.name) ≡ None = sym (ap (full_in listed) c.deref-3.ensures) ∙ c.in_ok-test_room.ensures.test in
    let put : IsPut (string_bytes c.args.name) table (change_of c.in_ok-put_table.field-0) = c.in_ok-put_table.ensures in
    subst (IsChange listed) (sym put)
    (table_is_change listed (string_bytes c.args.name) table counts c.in_ok-test_room.ensures.kept (import_named (string_bytes c.args.name) c.args.bytes.items tested) room sound.schema
    (c.pieces_are_tables.ensures.each table sound) (subst (λ (x : PlainChange). AreShort x.streams) put short))

pub returns-in_err-test_import-clause-answers : goal.returns-in_err-test_import-clause-answers
returns-in_err-test_import-clause-answers c = λ tells image.
    let p = err_from_is_err_and c.from_residual.result c.from_residual.ensures.1 in
    rw (p.1, p.2)
    (import_answers tells image (catalogue_of c.args.catalogue.now) (string_bytes c.args.name) c.args.bytes.items _ _
    (sym (λ i. import_tests (c.deref.ensures i) (c.deref-2.ensures.value i)) ∙ c.in_err-test_import.ensures) refl)

pub returns-in_err-table-clause-answers : goal.returns-in_err-table-clause-answers
returns-in_err-table-clause-answers c = λ tells image.
    let p = err_from_is_err_and c.from_residual-in_err-table.result c.from_residual-in_err-table.ensures.1 in
    let tested : import_tests (string_bytes c.args.name) c.args.bytes.items ≡ None = sym (λ i. import_tests (c.deref.ensures i) (c.deref-2.ensures.value i)) ∙ c.in_ok-test_import.ensures in
    rw (p.1, p.2) (failed_answers tells image (catalogue_of c.args.catalogue.now) (string_bytes c.args.name) c.args.bytes.items _ tested c.in_err-table.ensures.exact)

pub returns-in_err-test_room-clause-answers : goal.returns-in_err-test_room-clause-answers
returns-in_err-test_room-clause-answers c = λ tells image.
    let tested : import_tests (string_bytes c.args.name) c.args.bytes.items ≡ None = sym (λ i. import_tests (c.deref.ensures i) (c.deref-2.ensures.value i)) ∙ c.in_ok-test_import.ensures in
    let p = err_from_is_err_and c.from_residual-in_err-test_room.result c.from_residual-in_err-test_room.ensures.1 in
    rw (p.1, p.2)
    (table_answers tells image (catalogue_of c.args.catalogue.now) (string_bytes c.args.name) c.args.bytes.items (table_of c.in_ok-table.table) _ tested c.in_ok-table.ensures.exact
    (sym (ap (full_in (catalogue_of c.args.catalogue.now)) c.deref-3.ensures) ∙ c.in_err-test_room.ensures.test))

pub returns-clause-answers : goal.returns-clause-answers
returns-clause-answers c = λ tells image.
    let listed : PlainCatalogue = catalogue_of c.args.catalogue.now in
    let table : PlainTable = table_of c.in_ok-table.table in
    let tested : import_tests (string_bytes c.args.name) c.args.bytes.items ≡ None = sym (λ i. import_tests (c.deref.ensures i) (c.deref-2.ensures.value i)) ∙ c.in_ok-test_import.ensures in
    let room : full_in listed (string_bytes c.args.name) ≡ None = sym (ap (full_in listed) c.deref-3.ensures) ∙ c.in_ok-test_room.ensures.test in
    let put : IsPut (string_bytes c.args.name) table (change_of c.in_ok-put_table.field-0) = c.in_ok-put_table.ensures in
    subst (λ (x : PlainChange). IsAnswered tells image listed (import_stream (string_bytes c.args.name) c.args.bytes.items) (Ok x)) (sym put)
    (table_answers tells image listed (string_bytes c.args.name) c.args.bytes.items table _ tested c.in_ok-table.ensures.exact room)

pub returns-in_err-put_table-clause-answers : goal.returns-in_err-put_table-clause-answers
returns-in_err-put_table-clause-answers c = λ tells image.
    let p = err_from_is_err_and c.from_residual-in_err-put_table.result c.from_residual-in_err-put_table.ensures.1 in
    rw (p.1, p.2) (inl refl)
