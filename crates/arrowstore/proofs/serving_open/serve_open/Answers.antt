use Rattle.std.proofs.Common.{inr, refl, sym, true≢false}
use Rattle.arrowstore.specs.declared.open_command.OpenCommand.TheVariants as opened
use Rattle.arrowstore.specs.Serving.{channels, Serves}
use Rattle.arrowstore.proofs.ServingLemmas.{serves_import, serves_new, serves_append, serves_text, serves_as}
use Rattle.arrowstore.proofs.serving_open.serve_open.Goals as goal

pub returns-in-CreateLike-clause-serves : goal.returns-in-CreateLike-clause-serves
unfolding Serves
returns-in-CreateLike-clause-serves g c =
    let e = c.create_like.ensures in
    let new = c.create_like.new in
    serves_as g.R.Read.remaining g.W.Write.contents c.args.command (opened.CreateLike c.in-CreateLike.name c.in-CreateLike.like) c.args.store.now new.store (channels c.args.input.now c.args.output.now c.args.hint.now)
    (channels c.args.input.now new.output c.args.hint.now) c.create_like.result c.in-CreateLike.is (record { goes = e.goes; told = e.told; written = e.written; unhinted = refl })

pub returns-in-Import-clause-serves : goal.returns-in-Import-clause-serves
returns-in-Import-clause-serves g c =
    let e = c.import_input.ensures in
    let new = c.import_input.new in
    serves_import g.R.Read.remaining g.W.Write.contents c.args.command c.in-Import.name c.args.store.now new.store (channels c.args.input.now c.args.output.now c.args.hint.now)
    (channels new.input new.output c.args.hint.now) c.import_input.result c.in-Import.is (record { told = e.told; written = e.written; silent = e.silent; unhinted = refl })

pub returns-in-ImportNew-clause-serves : goal.returns-in-ImportNew-clause-serves
returns-in-ImportNew-clause-serves g c =
    let e = c.import_new.ensures in
    let new = c.import_new.new in
    serves_new g.R.Read.remaining g.W.Write.contents c.args.command c.in-ImportNew.name c.args.store.now new.store (channels c.args.input.now c.args.output.now c.args.hint.now)
    (channels new.input new.output c.args.hint.now) c.import_new.result c.in-ImportNew.is
    (record { taken = e.taken; told = e.told; written = e.written; silent = e.silent; unhinted = refl })

pub returns-in-Append-clause-serves : goal.returns-in-Append-clause-serves
returns-in-Append-clause-serves g c =
    let e = c.append_input.ensures in
    let new = c.append_input.new in
    serves_append g.R.Read.remaining g.W.Write.contents c.args.command c.in-Append.name c.args.store.now new.store (channels c.args.input.now c.args.output.now c.args.hint.now)
    (channels new.input new.output c.args.hint.now) c.append_input.result c.in-Append.is (record { told = e.told; written = e.written; silent = e.silent; unhinted = refl })

pub returns-in-AppendText-clause-serves : goal.returns-in-AppendText-clause-serves
returns-in-AppendText-clause-serves g c =
    let e = c.append_text.ensures in
    let new = c.append_text.new in
    serves_text g.R.Read.remaining g.W.Write.contents c.args.command c.in-AppendText.name c.args.store.now new.store (channels c.args.input.now c.args.output.now c.args.hint.now)
    (channels new.input new.output new.hint) c.append_text.result c.in-AppendText.form c.in-AppendText.is (record { goes = e.goes; told = e.told; refused = e.refused; hinted = e.hint; written = e.written })

pub returns-in-ImportComplete-clause-serves : goal.returns-in-ImportComplete-clause-serves
unfolding Serves
returns-in-ImportComplete-clause-serves g c =
    let e = c.import_complete.ensures in
    let new = c.import_complete.new in
    serves_as g.R.Read.remaining g.W.Write.contents c.args.command (opened.ImportComplete c.in-ImportComplete.name c.in-ImportComplete.is_new) c.args.store.now new.store
    (channels c.args.input.now c.args.output.now c.args.hint.now) (channels new.input new.output c.args.hint.now) c.import_complete.result c.in-ImportComplete.is
    (record { refused = e.taken; unread = e.unread; goes = e.goes; told = e.told; written = e.written; unhinted = refl })

pub returns-in-AppendComplete-clause-serves : goal.returns-in-AppendComplete-clause-serves
unfolding Serves
returns-in-AppendComplete-clause-serves g c =
    let e = c.append_complete.ensures in
    let new = c.append_complete.new in
    serves_as g.R.Read.remaining g.W.Write.contents c.args.command (opened.AppendComplete c.in-AppendComplete.name) c.args.store.now new.store
    (channels c.args.input.now c.args.output.now c.args.hint.now) (channels new.input new.output c.args.hint.now) c.append_complete.result c.in-AppendComplete.is
    (record { refused = λ t. absurd (true≢false (sym t)); unread = λ _. e.unread; goes = λ _. e.goes; told = λ _. e.told; written = e.written; unhinted = refl })

pub returns-in-SchemaFields-clause-serves : goal.returns-in-SchemaFields-clause-serves
unfolding Serves
returns-in-SchemaFields-clause-serves g c =
    let e = c.print_fields.ensures in
    let new = c.print_fields.new in
    serves_as g.R.Read.remaining g.W.Write.contents c.args.command (opened.SchemaFields c.in-SchemaFields.name) c.args.store.now c.args.store.now (channels c.args.input.now c.args.output.now c.args.hint.now)
    (channels c.args.input.now new.output c.args.hint.now) c.print_fields.result c.in-SchemaFields.is (record { written = e.written; told = e.told; leaves = refl; unhinted = refl })

pub returns-in-Tables-clause-unread : goal.returns-in-Tables-clause-unread
returns-in-Tables-clause-unread g c = inr refl

pub returns-in-Change-clause-serves : goal.returns-in-Change-clause-serves
unfolding Serves
returns-in-Change-clause-serves g c =
    let e = c.apply_command.ensures in
    let new = c.apply_command.new in
    serves_as g.R.Read.remaining g.W.Write.contents c.args.command (opened.Change c.in-Change.command) c.args.store.now new.store (channels c.args.input.now c.args.output.now c.args.hint.now)
    (channels c.args.input.now new.output c.args.hint.now) c.apply_command.result c.in-Change.is (record { goes = e.goes; told = e.told; written = e.written; unhinted = refl })

pub returns-in-Select-clause-serves : goal.returns-in-Select-clause-serves
unfolding Serves
returns-in-Select-clause-serves g c =
    let e = c.print_selection.ensures in
    let new = c.print_selection.new in
    serves_as g.R.Read.remaining g.W.Write.contents c.args.command (opened.Select c.in-Select.name c.in-Select.query c.in-Select.form) c.args.store.now new.store (channels c.args.input.now c.args.output.now c.args.hint.now)
    (channels c.args.input.now new.output c.args.hint.now) c.print_selection.result c.in-Select.is (record { written = e.written; told = e.told; leaves = e.reads; unhinted = refl })

pub returns-in-Tables-clause-serves : goal.returns-in-Tables-clause-serves
unfolding Serves
returns-in-Tables-clause-serves g c =
    let e = c.print_tables.ensures in
    let new = c.print_tables.new in
    serves_as g.R.Read.remaining g.W.Write.contents c.args.command opened.Tables c.args.store.now c.args.store.now (channels c.args.input.now c.args.output.now c.args.hint.now)
    (channels c.args.input.now new.output c.args.hint.now) c.print_tables.result c.in-Tables.is (record { written = e.written; told = e.told; leaves = refl; unhinted = refl })

pub returns-in-Schema-clause-serves : goal.returns-in-Schema-clause-serves
unfolding Serves
returns-in-Schema-clause-serves g c =
    let e = c.print_schema.ensures in
    let new = c.print_schema.new in
    serves_as g.R.Read.remaining g.W.Write.contents c.args.command (opened.Schema c.in-Schema.name) c.args.store.now c.args.store.now (channels c.args.input.now c.args.output.now c.args.hint.now)
    (channels c.args.input.now new.output c.args.hint.now) c.print_schema.result c.in-Schema.is (record { written = e.written; told = e.told; leaves = refl; unhinted = refl })

pub returns-in-Export-clause-serves : goal.returns-in-Export-clause-serves
unfolding Serves
returns-in-Export-clause-serves g c =
    let e = c.export_table.ensures in
    let new = c.export_table.new in
    serves_as g.R.Read.remaining g.W.Write.contents c.args.command (opened.Export c.in-Export.name) c.args.store.now new.store (channels c.args.input.now c.args.output.now c.args.hint.now)
    (channels c.args.input.now new.output c.args.hint.now) c.export_table.result c.in-Export.is (record { written = e.written; told = e.told; leaves = e.reads; unhinted = refl })

pub returns-in-Check-clause-serves : goal.returns-in-Check-clause-serves
unfolding Serves
returns-in-Check-clause-serves g c =
    let e = c.check_tables.ensures in
    let new = c.check_tables.new in
    serves_as g.R.Read.remaining g.W.Write.contents c.args.command opened.Check c.args.store.now new.store (channels c.args.input.now c.args.output.now c.args.hint.now)
    (channels c.args.input.now new.output new.hint) c.check_tables.result c.in-Check.is (record { written = e.written; read = e.read; told = e.told; reads = e.reads; hinted = e.hint })

pub returns-in-Info-clause-serves : goal.returns-in-Info-clause-serves
unfolding Serves
returns-in-Info-clause-serves g c =
    let e = c.print_summary.ensures in
    let new = c.print_summary.new in
    serves_as g.R.Read.remaining g.W.Write.contents c.args.command (opened.Info c.in-Info.as_json c.in-Info.kind) c.args.store.now new.store (channels c.args.input.now c.args.output.now c.args.hint.now)
    (channels c.args.input.now new.output c.args.hint.now) c.print_summary.result c.in-Info.is (record { written = e.written; told = e.told; leaves = e.reads; unhinted = refl })

pub returns-in-Compact-clause-serves : goal.returns-in-Compact-clause-serves
unfolding Serves
returns-in-Compact-clause-serves g c =
    let new = c.compact_tables.new in
    serves_as g.R.Read.remaining g.W.Write.contents c.args.command (opened.Compact c.in-Compact.steps) c.args.store.now new.store (channels c.args.input.now c.args.output.now c.args.hint.now)
    (channels c.args.input.now new.output c.args.hint.now) c.compact_tables.result c.in-Compact.is (c.compact_tables.ensures.compacts, refl)

pub returns-in-Upgrade-clause-serves : goal.returns-in-Upgrade-clause-serves
unfolding Serves
returns-in-Upgrade-clause-serves g c =
    let e = c.upgrade_store.ensures in
    let new = c.upgrade_store.new in
    serves_as g.R.Read.remaining g.W.Write.contents c.args.command opened.Upgrade c.args.store.now new.store (channels c.args.input.now c.args.output.now c.args.hint.now)
    (channels c.args.input.now new.output c.args.hint.now) c.upgrade_store.result c.in-Upgrade.is (record { goes = e.goes; told = e.told; written = e.written; unhinted = refl })

pub returns-in-Have-clause-serves : goal.returns-in-Have-clause-serves
unfolding Serves
returns-in-Have-clause-serves g c =
    let e = c.list_digests.ensures in
    let new = c.list_digests.new in
    serves_as g.R.Read.remaining g.W.Write.contents c.args.command opened.Have c.args.store.now new.store (channels c.args.input.now c.args.output.now c.args.hint.now)
    (channels c.args.input.now new.output c.args.hint.now) c.list_digests.result c.in-Have.is (record { written = e.written; told = e.told; leaves = e.reads; unhinted = refl })
