use Rattle.std.specs.Prelude.{IfOk, IfSome}
use Rattle.std.proofs.Common.{ℕ, Option, sym, subst, string_bytes}
use Rattle.std.proofs.lemmas.Result.{IfOk-weaker}
use Rattle.sector_dev.specs.Disk.{now, shown_image}
use Rattle.catalogue.specs.Entries.{plain_entry}
use Rattle.catalogue.specs.laws.Kept.{entry_is}
use Rattle.values.specs.TableView.{table_of}
use Rattle.store_changes.specs.Appending.{added_to}
use Rattle.store_changes.specs.Change.{change_of}
use Rattle.store_changes.specs.Tests.{decision_of}
use Rattle.store_changes.specs.Weights.{WeighsAfter}
use Rattle.store_changes.proofs.Appended.{appended_unread}
use Rattle.store_runs.specs.Calls.{refused}
use Rattle.store_changes.specs.laws.Quiet.{passes_quiet, passes_told}
use Rattle.store_changes.specs.laws.ReadTables.{reads_ended, reads_none, reads_quiet}
use Rattle.store_changes.proofs.appending.append_to_entry.Goals as goal

pub pass_new-requires : goal.pass_new-requires
pass_new-requires g c = (entry_is (plain_entry c.args.entry.now) c.requires.sound).schema

pub append_unread-requires : goal.append_unread-requires
append_unread-requires g c = let passed = rw c.in-Ok-Some.field-0-is at c.in-Ok-Some.ensures.passed in record { table = passed.2 }

pub returns-then-stays_light-clause-reads : goal.returns-then-stays_light-clause-reads
returns-then-stays_light-clause-reads g c =
    let D = g.D.SegmentSource in
    reads_ended D.size D.story D.failed D.tells c.append_unread.result c.args.device.now c.args.device.now c.append_unread.ensures.no_device (reads_none D.size D.story D.failed D.tells c.args.device.now)

pub returns-then-stays_light-clause-answers : goal.returns-then-stays_light-clause-answers
returns-then-stays_light-clause-answers g c =
    let D = g.D.SegmentSource in
    let e = plain_entry c.args.entry.now in
    let passed = rw c.in-Ok-Some.field-0-is at c.in-Ok-Some.ensures.passed in
    let rows = (table_of c.in-Ok-Some.weighed.table).rows in
    appended_unread D.tells (shown_image (now (D.story c.args.device.now))) (string_bytes c.args.name) e (added_to c.args.new e) rows (decision_of c.append_unread.result)
    passed.0 (c.stays_light.ensures.light c.if-stays_light.true rows passed.1) c.append_unread.ensures.answers

pub returns-else-stays_light-clause-answers : goal.returns-else-stays_light-clause-answers
returns-else-stays_light-clause-answers g c =
    let passed = rw c.in-Ok-Some.field-0-is at c.in-Ok-Some.ensures.passed in
    c.append_weighed.ensures.answers (added_to c.args.new (plain_entry c.args.entry.now)) passed

pub returns-in-Ok-None-clause-answers : goal.returns-in-Ok-None-clause-answers
returns-in-Ok-None-clause-answers g c =
    let passed = rw c.in-Ok-None.field-0-is at c.in-Ok-None.ensures.passed in
    c.append_weighed-in-Ok-None.ensures.answers (added_to c.args.new (plain_entry c.args.entry.now)) passed

pub returns-in-Err-clause-reads : goal.returns-in-Err-clause-reads
returns-in-Err-clause-reads g c =
    let D = g.D.SegmentSource in
    reads_quiet D.size D.story D.failed D.tells (refused c.in-Err.refusal) c.args.device.now (passes_quiet c.args.new (plain_entry c.args.entry.now) c.in-Err.refusal c.in-Err.ensures.refused).device

pub returns-in-Err-clause-answers : goal.returns-in-Err-clause-answers
returns-in-Err-clause-answers g c =
    let D = g.D.SegmentSource in
    passes_told c.args.new (plain_entry c.args.entry.now) c.in-Err.refusal c.in-Err.ensures.refused D.tells (shown_image (now (D.story c.args.device.now))) (string_bytes c.args.name)

pub returns-in-Err-clause-not_halted : goal.returns-in-Err-clause-not_halted
returns-in-Err-clause-not_halted g c = (passes_quiet c.args.new (plain_entry c.args.entry.now) c.in-Err.refusal c.in-Err.ensures.refused).halted

-- ---- what is known then

pub returns-then-stays_light-clause-known : goal.returns-then-stays_light-clause-known
returns-then-stays_light-clause-known g c =
    let D = g.D.SegmentSource in
    let e = plain_entry c.args.entry.now in
    subst (λ (o : Option ℕ). IfOk c.append_unread.result (λ change. IfSome o (WeighsAfter D.tells (shown_image (now (D.story c.args.device.now))) e (string_bytes c.args.name) (change_of change))))
    (sym (c.stays_light.ensures.unknown c.if-stays_light.true)) (IfOk-weaker c.append_unread.result _ _ (λ change can. tt) c.append_unread.ensures.ok)

pub returns-else-stays_light-clause-known : goal.returns-else-stays_light-clause-known
returns-else-stays_light-clause-known g c =
    let passed = rw c.in-Ok-Some.field-0-is at c.in-Ok-Some.ensures.passed in
    c.append_weighed.ensures.known (added_to c.args.new (plain_entry c.args.entry.now)) passed

pub returns-in-Ok-None-clause-known : goal.returns-in-Ok-None-clause-known
returns-in-Ok-None-clause-known g c =
    let passed = rw c.in-Ok-None.field-0-is at c.in-Ok-None.ensures.passed in
    c.append_weighed-in-Ok-None.ensures.known (added_to c.args.new (plain_entry c.args.entry.now)) passed
