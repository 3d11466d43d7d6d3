use Rattle.std.specs.Prelude.{◌≢◌, false}
use Rattle.std.proofs.Common.{◌≡◌, inl, refl}
use Rattle.std.proofs.lemmas.Result.{IfOk-weaker, IfErr-weaker}
use Rattle.sector_dev.specs.Disk.{Image, now, shown_image}
use Rattle.catalogue.specs.View.{catalogue_of}
use Rattle.tables.specs.declared.refusal.Refusal.{Refusal}
use Rattle.tables.specs.declared.refusal.Refusal.TheVariants as refusals
use Rattle.tables.specs.View.{command_of}
use Rattle.store_runs.specs.Calls.{is_failure}
use Rattle.store_runs.specs.Changes.{PlainChange}
use Rattle.store_runs.specs.Deciding.{Leaves}
use Rattle.store_changes.specs.declared.drafting.Draft.{Draft}
use Rattle.store_changes.specs.Change.{change_of}
use Rattle.store_changes.specs.Draft.{laid, streams_of}
use Rattle.store_changes.specs.Verdicts.{EndsAtLine}
use Rattle.store_changes.specs.laws.Lines.{line_decided, line_edits}
use Rattle.store_changes.specs.laws.ReadTables.{reads_ended}
use Rattle.store.specs.Drafted.{KnowsWeight}
use Rattle.store.specs.inner.Drafting.{Shows, StepsTo}
use Rattle.store.proofs.Applied.{single_command}
use Rattle.store.proofs.KnownWeights.{knows_after}
use Rattle.store.proofs.Listed.{NotAdded, ends_unadded, unadded_quiet}
use Rattle.store.proofs.drafting.add_line.Goals as goal

pub add-requires-clause-line : goal.add-requires-clause-line
add-requires-clause-line g c =
    let D = g.D.SectorDevice in
    let d = c.args.draft in
    let shown = shown_image (now (D.story c.args.device.now)) in
    let change : PlainChange = change_of c.in-Ok.change in
    line_edits D.tells (laid d.from (streams_of d) shown) (catalogue_of d.made) (command_of c.args.command) change (single_command c.args.command) (c.in-Ok.ensures.answers shown (λ told. refl))

pub returns-in-Ok-clause-reads : goal.returns-in-Ok-clause-reads
returns-in-Ok-clause-reads g c =
    let D = g.D.SectorDevice in
    let d = c.args.draft in
    let change : PlainChange = change_of c.in-Ok.change in
    reads_ended D.size D.story D.failed D.tells c.add.result c.args.device.now c.decide_line.new.device
    (IfErr-weaker c.add.result (NotAdded d.next (catalogue_of d.made) change) (λ e. is_failure e ≡ false) (λ e why. (unadded_quiet d.next (catalogue_of d.made) change e why).0) c.add.ensures.told) c.in-Ok.ensures.reads

pub returns-in-Ok-clause-steps : goal.returns-in-Ok-clause-steps
returns-in-Ok-clause-steps g c =
    let D = g.D.SectorDevice in
    let d = c.args.draft in
    let made = catalogue_of d.made in
    let change : PlainChange = change_of c.in-Ok.change in
    IfOk-weaker c.add.result
    (λ (next : Draft). (image : Image) → Leaves d.next (laid d.from (streams_of d) image) made change next.next (laid next.from (streams_of next) image) (catalogue_of next.made))
    (λ (next : Draft). (image : Image) → Shows D.tells (D.story c.args.device.now) image → StepsTo D.tells image d (command_of c.args.command) next)
    (λ next leaves image shows. (change, line_decided D.tells (laid d.from (streams_of d) image) made (command_of c.args.command) change (c.in-Ok.ensures.answers image shows), leaves image)) c.add.ensures.leaves

pub returns-in-Ok-clause-ends : goal.returns-in-Ok-clause-ends
returns-in-Ok-clause-ends g c =
    let D = g.D.SectorDevice in
    let d = c.args.draft in
    let made = catalogue_of d.made in
    let change : PlainChange = change_of c.in-Ok.change in
    IfErr-weaker c.add.result (NotAdded d.next made change)
    (λ (e : Refusal). (image : Image) → Shows D.tells (D.story c.args.device.now) image → EndsAtLine D.tells d.next (laid d.from (streams_of d) image) made (command_of c.args.command) e)
    (λ e why image shows.
    ends_unadded D.tells d.next (laid d.from (streams_of d) image) made (command_of c.args.command) change e
    (line_decided D.tells (laid d.from (streams_of d) image) made (command_of c.args.command) change (c.in-Ok.ensures.answers image shows)) why) c.add.ensures.told

pub returns-in-Ok-clause-not_halted : goal.returns-in-Ok-clause-not_halted
returns-in-Ok-clause-not_halted g c =
    let d = c.args.draft in
    let made = catalogue_of d.made in
    let change : PlainChange = change_of c.in-Ok.change in
    IfErr-weaker c.add.result (NotAdded d.next made change) (λ e. e ≢ refusals.Halted) (λ e why. (unadded_quiet d.next made change e why).1) c.add.ensures.told

pub returns-in-Err-clause-reads : goal.returns-in-Err-clause-reads
returns-in-Err-clause-reads g c = c.in-Err.ensures.reads

pub returns-in-Err-clause-ends : goal.returns-in-Err-clause-ends
returns-in-Err-clause-ends g c = λ image shows. inl (c.in-Err.ensures.answers image shows)

pub returns-in-Ok-clause-weighed : goal.returns-in-Ok-clause-weighed
returns-in-Ok-clause-weighed g c =
    let D = g.D.SectorDevice in
    let d = c.args.draft in
    let made = catalogue_of d.made in
    let change : PlainChange = change_of c.in-Ok.change in
    let weighed = c.decide_line.new.weighed in
    IfOk-weaker c.add.result
    (λ (next : Draft). (image : Image) → Leaves d.next (laid d.from (streams_of d) image) made change next.next (laid next.from (streams_of next) image) (catalogue_of next.made))
    (λ (next : Draft). (image : Image) → Shows D.tells (D.story c.args.device.now) image → KnowsWeight D.tells image next weighed)
    (λ next leaves image shows. knows_after c.table_laws.ensures D.tells image d next weighed change c.requires.draft.drafted.stands (leaves image) (c.in-Ok.ensures.weighed image shows)) c.add.ensures.leaves
