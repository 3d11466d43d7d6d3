use Rattle.std.specs.Prelude.{◌≢◌}
use Rattle.std.proofs.Common.{◌≡◌, true, false, None, refl, sym, ap, ◌∙◌, subst, string_bytes}
use Rattle.std.proofs.lemmas.Bool.{true≢false}
use Rattle.std.proofs.lemmas.Result.{IfErr-weaker}
use Rattle.sector_dev.specs.Disk.{Image}
use Rattle.arrow_schema.specs.View.{schema_of}
use Rattle.catalogue.specs.View.{catalogue_of}
use Rattle.tables.specs.declared.command.Command.{Command}
use Rattle.tables.specs.declared.refusal.Refusal.TheVariants as refusals
use Rattle.tables.specs.Commands.{create, import_stream, rename, drop_table}
use Rattle.tables.specs.View.{command_of}
use Rattle.store_runs.specs.Calls.{is_failure}
use Rattle.store_runs.specs.Deciding.{reads_device, IsAnswered}
use Rattle.store_runs.specs.Reading.{ended}
use Rattle.store_changes.specs.Draft.{laid, streams_of}
use Rattle.store_changes.specs.Tests.{decision_of}
use Rattle.store_changes.specs.laws.Quiet.{IsQuiet, answers_quiet}
use Rattle.store_changes.specs.laws.ReadTables.{reads_quiet}
use Rattle.store.proofs.Applied.{ended_quiet}
use Rattle.store.proofs.drafting.decide_line.Goals as goal

-- an image, where any will do
none : Image
none = λ n. None

-- ---- Create

pub returns-in-Create-clause-reads : goal.returns-in-Create-clause-reads
returns-in-Create-clause-reads g c =
    let D = g.D.SectorDevice in
    let made = catalogue_of c.args.draft.now.made in
    let quiet = answers_quiet D.tells none made (create (string_bytes c.in-Create.new.name) (schema_of c.in-Create.new.schema)) c.decide_create.result tt refl (c.decide_create.ensures.answers D.tells none) in
    reads_quiet D.size D.story D.failed D.tells (ended c.decide_create.result) c.args.device.now (ended_quiet c.decide_create.result (IfErr-weaker c.decide_create.result IsQuiet (λ e. is_failure e ≡ false) (λ e q. q.device) quiet))

pub returns-in-Create-clause-ok : goal.returns-in-Create-clause-ok
returns-in-Create-clause-ok g c = c.decide_create.ensures.ok

pub returns-in-Create-clause-not_halted : goal.returns-in-Create-clause-not_halted
returns-in-Create-clause-not_halted g c =
    let D = g.D.SectorDevice in
    let made = catalogue_of c.args.draft.now.made in
    IfErr-weaker c.decide_create.result IsQuiet (λ e. e ≢ refusals.Halted) (λ e q. q.halted) (answers_quiet D.tells none made (create (string_bytes c.in-Create.new.name) (schema_of c.in-Create.new.schema)) c.decide_create.result tt refl (c.decide_create.ensures.answers D.tells none))

pub returns-in-Create-clause-answers : goal.returns-in-Create-clause-answers
returns-in-Create-clause-answers g c = λ image shows.
    let D = g.D.SectorDevice in
    let d = c.args.draft.now in
    let over = laid d.from (streams_of d) image in
    subst (λ (k : Command). IsAnswered D.tells over (catalogue_of d.made) (command_of k) (decision_of c.decide_create.result)) (sym c.in-Create.is) (c.decide_create.ensures.answers D.tells over)

-- ---- ImportStream

pub returns-in-ImportStream-clause-reads : goal.returns-in-ImportStream-clause-reads
returns-in-ImportStream-clause-reads g c =
    let D = g.D.SectorDevice in
    let made = catalogue_of c.args.draft.now.made in
    let quiet = answers_quiet D.tells none made (import_stream (string_bytes c.in-ImportStream.name) c.in-ImportStream.bytes.items) c.decide_import.result tt refl (c.decide_import.ensures.answers D.tells none) in
    reads_quiet D.size D.story D.failed D.tells (ended c.decide_import.result) c.args.device.now (ended_quiet c.decide_import.result (IfErr-weaker c.decide_import.result IsQuiet (λ e. is_failure e ≡ false) (λ e q. q.device) quiet))

pub returns-in-ImportStream-clause-ok : goal.returns-in-ImportStream-clause-ok
returns-in-ImportStream-clause-ok g c = c.decide_import.ensures.ok

pub returns-in-ImportStream-clause-not_halted : goal.returns-in-ImportStream-clause-not_halted
returns-in-ImportStream-clause-not_halted g c =
    let D = g.D.SectorDevice in
    let made = catalogue_of c.args.draft.now.made in
    IfErr-weaker c.decide_import.result IsQuiet (λ e. e ≢ refusals.Halted) (λ e q. q.halted) (answers_quiet D.tells none made (import_stream (string_bytes c.in-ImportStream.name) c.in-ImportStream.bytes.items) c.decide_import.result tt refl (c.decide_import.ensures.answers D.tells none))

pub returns-in-ImportStream-clause-answers : goal.returns-in-ImportStream-clause-answers
returns-in-ImportStream-clause-answers g c = λ image shows.
    let D = g.D.SectorDevice in
    let d = c.args.draft.now in
    let over = laid d.from (streams_of d) image in
    subst (λ (k : Command). IsAnswered D.tells over (catalogue_of d.made) (command_of k) (decision_of c.decide_import.result)) (sym c.in-ImportStream.is) (c.decide_import.ensures.answers D.tells over)

-- ---- Rename

pub returns-in-Rename-clause-reads : goal.returns-in-Rename-clause-reads
returns-in-Rename-clause-reads g c =
    let D = g.D.SectorDevice in
    let made = catalogue_of c.args.draft.now.made in
    let quiet = answers_quiet D.tells none made (rename (string_bytes c.in-Rename.from) (string_bytes c.in-Rename.to)) c.decide_rename.result tt refl (c.decide_rename.ensures.answers D.tells none) in
    reads_quiet D.size D.story D.failed D.tells (ended c.decide_rename.result) c.args.device.now (ended_quiet c.decide_rename.result (IfErr-weaker c.decide_rename.result IsQuiet (λ e. is_failure e ≡ false) (λ e q. q.device) quiet))

pub returns-in-Rename-clause-ok : goal.returns-in-Rename-clause-ok
returns-in-Rename-clause-ok g c = c.decide_rename.ensures.ok

pub returns-in-Rename-clause-not_halted : goal.returns-in-Rename-clause-not_halted
returns-in-Rename-clause-not_halted g c =
    let D = g.D.SectorDevice in
    let made = catalogue_of c.args.draft.now.made in
    IfErr-weaker c.decide_rename.result IsQuiet (λ e. e ≢ refusals.Halted) (λ e q. q.halted) (answers_quiet D.tells none made (rename (string_bytes c.in-Rename.from) (string_bytes c.in-Rename.to)) c.decide_rename.result tt refl (c.decide_rename.ensures.answers D.tells none))

pub returns-in-Rename-clause-answers : goal.returns-in-Rename-clause-answers
returns-in-Rename-clause-answers g c = λ image shows.
    let D = g.D.SectorDevice in
    let d = c.args.draft.now in
    let over = laid d.from (streams_of d) image in
    subst (λ (k : Command). IsAnswered D.tells over (catalogue_of d.made) (command_of k) (decision_of c.decide_rename.result)) (sym c.in-Rename.is) (c.decide_rename.ensures.answers D.tells over)

-- ---- Drop

pub returns-in-Drop-clause-reads : goal.returns-in-Drop-clause-reads
returns-in-Drop-clause-reads g c =
    let D = g.D.SectorDevice in
    let made = catalogue_of c.args.draft.now.made in
    let quiet = answers_quiet D.tells none made (drop_table (string_bytes c.in-Drop.name)) c.decide_drop.result tt refl (c.decide_drop.ensures.answers D.tells none) in
    reads_quiet D.size D.story D.failed D.tells (ended c.decide_drop.result) c.args.device.now (ended_quiet c.decide_drop.result (IfErr-weaker c.decide_drop.result IsQuiet (λ e. is_failure e ≡ false) (λ e q. q.device) quiet))

pub returns-in-Drop-clause-ok : goal.returns-in-Drop-clause-ok
returns-in-Drop-clause-ok g c = c.decide_drop.ensures.ok

pub returns-in-Drop-clause-not_halted : goal.returns-in-Drop-clause-not_halted
returns-in-Drop-clause-not_halted g c =
    let D = g.D.SectorDevice in
    let made = catalogue_of c.args.draft.now.made in
    IfErr-weaker c.decide_drop.result IsQuiet (λ e. e ≢ refusals.Halted) (λ e q. q.halted) (answers_quiet D.tells none made (drop_table (string_bytes c.in-Drop.name)) c.decide_drop.result tt refl (c.decide_drop.ensures.answers D.tells none))

pub returns-in-Drop-clause-answers : goal.returns-in-Drop-clause-answers
returns-in-Drop-clause-answers g c = λ image shows.
    let D = g.D.SectorDevice in
    let d = c.args.draft.now in
    let over = laid d.from (streams_of d) image in
    subst (λ (k : Command). IsAnswered D.tells over (catalogue_of d.made) (command_of k) (decision_of c.decide_drop.result)) (sym c.in-Drop.is) (c.decide_drop.ensures.answers D.tells over)

-- ---- AppendStream

pub returns-in-AppendStream-clause-reads : goal.returns-in-AppendStream-clause-reads
returns-in-AppendStream-clause-reads g c = c.append_line.ensures.reads

pub returns-in-AppendStream-clause-still : goal.returns-in-AppendStream-clause-still
returns-in-AppendStream-clause-still g c = λ plain.
    let both : true ≡ false = ap (λ (k : Command). reads_device (command_of k)) (sym c.in-AppendStream.is) ∙ plain in absurd (true≢false both)

pub returns-in-AppendStream-clause-ok : goal.returns-in-AppendStream-clause-ok
returns-in-AppendStream-clause-ok g c = c.append_line.ensures.ok

pub returns-in-AppendStream-clause-not_halted : goal.returns-in-AppendStream-clause-not_halted
returns-in-AppendStream-clause-not_halted g c = c.append_line.ensures.not_halted

pub returns-in-AppendStream-clause-answers : goal.returns-in-AppendStream-clause-answers
returns-in-AppendStream-clause-answers g c = λ image shows.
    let D = g.D.SectorDevice in
    let d = c.args.draft.now in
    subst (λ (k : Command). IsAnswered D.tells (laid d.from (streams_of d) image) (catalogue_of d.made) (command_of k) (decision_of c.append_line.result)) (sym c.in-AppendStream.is) (c.append_line.ensures.answers image shows)

-- ---- AppendRows

pub returns-in-AppendRows-clause-reads : goal.returns-in-AppendRows-clause-reads
returns-in-AppendRows-clause-reads g c = c.append_line-in-AppendRows.ensures.reads

pub returns-in-AppendRows-clause-still : goal.returns-in-AppendRows-clause-still
returns-in-AppendRows-clause-still g c = λ plain.
    let both : true ≡ false = ap (λ (k : Command). reads_device (command_of k)) (sym c.in-AppendRows.is) ∙ plain in absurd (true≢false both)

pub returns-in-AppendRows-clause-ok : goal.returns-in-AppendRows-clause-ok
returns-in-AppendRows-clause-ok g c = c.append_line-in-AppendRows.ensures.ok

pub returns-in-AppendRows-clause-not_halted : goal.returns-in-AppendRows-clause-not_halted
returns-in-AppendRows-clause-not_halted g c = c.append_line-in-AppendRows.ensures.not_halted

pub returns-in-AppendRows-clause-answers : goal.returns-in-AppendRows-clause-answers
returns-in-AppendRows-clause-answers g c = λ image shows.
    let D = g.D.SectorDevice in
    let d = c.args.draft.now in
    subst (λ (k : Command). IsAnswered D.tells (laid d.from (streams_of d) image) (catalogue_of d.made) (command_of k) (decision_of c.append_line-in-AppendRows.result)) (sym c.in-AppendRows.is) (c.append_line-in-AppendRows.ensures.answers image shows)

-- ---- AppendTable

pub returns-in-AppendTable-clause-reads : goal.returns-in-AppendTable-clause-reads
returns-in-AppendTable-clause-reads g c = c.append_line-in-AppendTable.ensures.reads

pub returns-in-AppendTable-clause-still : goal.returns-in-AppendTable-clause-still
returns-in-AppendTable-clause-still g c = λ plain.
    let both : true ≡ false = ap (λ (k : Command). reads_device (command_of k)) (sym c.in-AppendTable.is) ∙ plain in absurd (true≢false both)

pub returns-in-AppendTable-clause-ok : goal.returns-in-AppendTable-clause-ok
returns-in-AppendTable-clause-ok g c = c.append_line-in-AppendTable.ensures.ok

pub returns-in-AppendTable-clause-not_halted : goal.returns-in-AppendTable-clause-not_halted
returns-in-AppendTable-clause-not_halted g c = c.append_line-in-AppendTable.ensures.not_halted

pub returns-in-AppendTable-clause-answers : goal.returns-in-AppendTable-clause-answers
returns-in-AppendTable-clause-answers g c = λ image shows.
    let D = g.D.SectorDevice in
    let d = c.args.draft.now in
    subst (λ (k : Command). IsAnswered D.tells (laid d.from (streams_of d) image) (catalogue_of d.made) (command_of k) (decision_of c.append_line-in-AppendTable.result)) (sym c.in-AppendTable.is) (c.append_line-in-AppendTable.ensures.answers image shows)

-- ---- SaveAs

pub returns-in-SaveAs-clause-reads : goal.returns-in-SaveAs-clause-reads
returns-in-SaveAs-clause-reads g c = c.save_line.ensures.reads

pub returns-in-SaveAs-clause-still : goal.returns-in-SaveAs-clause-still
returns-in-SaveAs-clause-still g c = λ plain.
    let both : true ≡ false = ap (λ (k : Command). reads_device (command_of k)) (sym c.in-SaveAs.is) ∙ plain in absurd (true≢false both)

pub returns-in-SaveAs-clause-ok : goal.returns-in-SaveAs-clause-ok
returns-in-SaveAs-clause-ok g c = c.save_line.ensures.ok

pub returns-in-SaveAs-clause-not_halted : goal.returns-in-SaveAs-clause-not_halted
returns-in-SaveAs-clause-not_halted g c = c.save_line.ensures.not_halted

pub returns-in-SaveAs-clause-answers : goal.returns-in-SaveAs-clause-answers
returns-in-SaveAs-clause-answers g c = λ image shows.
    let D = g.D.SectorDevice in
    let d = c.args.draft.now in
    subst (λ (k : Command). IsAnswered D.tells (laid d.from (streams_of d) image) (catalogue_of d.made) (command_of k) (decision_of c.save_line.result)) (sym c.in-SaveAs.is) (c.save_line.ensures.answers image shows)

pub returns-in-AppendStream-clause-weighed : goal.returns-in-AppendStream-clause-weighed
returns-in-AppendStream-clause-weighed g c = c.append_line.ensures.weighed

pub returns-in-AppendRows-clause-weighed : goal.returns-in-AppendRows-clause-weighed
returns-in-AppendRows-clause-weighed g c = c.append_line-in-AppendRows.ensures.weighed

pub returns-in-AppendTable-clause-weighed : goal.returns-in-AppendTable-clause-weighed
returns-in-AppendTable-clause-weighed g c = c.append_line-in-AppendTable.ensures.weighed
