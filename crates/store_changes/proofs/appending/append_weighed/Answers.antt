use Rattle.std.proofs.Common.{◌+◌, inr, subst, string_bytes}
use Rattle.std.proofs.lemmas.Result.{IfOk-weaker}
use Rattle.sector_dev.specs.Disk.{now, shown_image}
use Rattle.catalogue.specs.Entries.{plain_entry}
use Rattle.values.specs.TableView.{table_of}
use Rattle.store_changes.specs.Change.{change_of}
use Rattle.store_changes.specs.Tests.{decision_of}
use Rattle.store_changes.proofs.Appended.{weighed_both, heavy_alone, appended_behind, weighs_after}
use Rattle.tables.specs.declared.refusal.Refusal.{Refusal}
use Rattle.store_runs.specs.Reading.{Unreads}
use Rattle.store_changes.specs.laws.Quiet.{unread_told}
use Rattle.store_changes.specs.laws.ReadTables.{reads_ended}
use Rattle.store_changes.proofs.appending.append_weighed.Goals as goal

pub returns-in-Some-clause-reads : goal.returns-in-Some-clause-reads
returns-in-Some-clause-reads g c =
    let D = g.D.SegmentSource in
    reads_ended D.size D.story D.failed D.tells c.decide_extension.result c.args.device.now c.standing_weight.new.device c.decide_extension.ensures.no_device c.in-Ok.ensures.reads

pub returns-in-Some-clause-answers : goal.returns-in-Some-clause-answers
returns-in-Some-clause-answers g c = λ tested are.
    let D = g.D.SegmentSource in
    let e = plain_entry c.args.entry.now in
    let standing = c.in-Ok.ensures.weight in
    let rows = (table_of c.in-Some.field-0.table).rows in
    let passed = rw c.in-Some.is at are in
    appended_behind D.tells (shown_image (now (D.story c.args.device.now))) (string_bytes c.args.name) e tested rows standing.0 passed.0 standing.1
    (decision_of c.decide_extension.result)
    (c.in-Ok.standing + c.in-Some.field-0.weight)
    (weighed_both e standing.0 rows c.in-Ok.standing c.in-Some.field-0.weight standing.1.schema standing.2 passed.1)
    c.decide_extension.ensures.answers

pub returns-in-None-clause-answers : goal.returns-in-None-clause-answers
returns-in-None-clause-answers g c = λ tested are.
    let D = g.D.SegmentSource in
    let e = plain_entry c.args.entry.now in
    let passed = rw c.in-None.is at are in
    let standing = c.in-Ok.ensures.weight in
    inr (inr (heavy_alone D.tells (shown_image (now (D.story c.args.device.now))) (string_bytes c.args.name) e tested passed.0 standing.0 passed.1
    standing.1 passed.2))

pub returns-in-Some-clause-ok : goal.returns-in-Some-clause-ok
returns-in-Some-clause-ok g c = c.decide_extension.ensures.ok

pub returns-in-Some-clause-not_halted : goal.returns-in-Some-clause-not_halted
returns-in-Some-clause-not_halted g c = c.decide_extension.ensures.not_halted

pub returns-in-None-clause-reads : goal.returns-in-None-clause-reads
returns-in-None-clause-reads g c =
    let reads = c.in-Ok.ensures.reads in record { same = reads.same; moments = reads.moments; count = reads.count }

pub returns-in-Err-clause-reads : goal.returns-in-Err-clause-reads
returns-in-Err-clause-reads g c = c.in-Err.ensures.reads

pub returns-in-Err-clause-answers : goal.returns-in-Err-clause-answers
returns-in-Err-clause-answers g c = λ tested are.
    let D = g.D.SegmentSource in
    let e = plain_entry c.args.entry.now in
    unread_told D.tells (shown_image (now (D.story c.args.device.now))) (string_bytes c.args.name) e tested c.args.passed c.in-Err.refusal are c.in-Err.ensures.unread

pub returns-in-Err-clause-not_halted : goal.returns-in-Err-clause-not_halted
returns-in-Err-clause-not_halted g c = λ is.
    let D = g.D.SegmentSource in
    subst (λ (r : Refusal). Unreads D.tells (shown_image (now (D.story c.args.device.now))) (plain_entry c.args.entry.now) r) is c.in-Err.ensures.unread

-- ---- what is known then

pub returns-in-Some-clause-known : goal.returns-in-Some-clause-known
returns-in-Some-clause-known g c = λ tested are.
    let D = g.D.SegmentSource in
    let e = plain_entry c.args.entry.now in
    let standing = c.in-Ok.ensures.weight in
    let rows = (table_of c.in-Some.field-0.table).rows in
    let passed = rw c.in-Some.is at are in
    let weight = c.in-Ok.standing + c.in-Some.field-0.weight in
    let weighs = weighed_both e standing.0 rows c.in-Ok.standing c.in-Some.field-0.weight standing.1.schema standing.2 passed.1 in
    IfOk-weaker c.decide_extension.result _ _
    (λ change is.
    weighs_after c.laws_below.ensures D.tells (shown_image (now (D.story c.args.device.now))) e (string_bytes c.args.name) (change_of change) standing.0 rows weight
    standing.1 passed.2 is.1 is.0 weighs)
    c.decide_extension.ensures.light

pub returns-in-None-clause-known : goal.returns-in-None-clause-known
returns-in-None-clause-known g c = λ tested are. tt

pub returns-in-Err-clause-known : goal.returns-in-Err-clause-known
returns-in-Err-clause-known g c = λ tested are. tt
