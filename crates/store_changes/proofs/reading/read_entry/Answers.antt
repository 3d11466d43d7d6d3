use Rattle.std.proofs.Common.{◌≡◌, false, sym, ap, subst}
use Rattle.std.proofs.lemmas.Result.{IfOk-weaker, IfErr-weaker}
use Rattle.sector_dev.specs.Disk.{now, shown_image}
use Rattle.values.specs.TableView.{table_of}
use Rattle.catalogue.specs.Entries.{plain_entry}
use Rattle.tables.specs.declared.refusal.Refusal.TheVariants.{OutOfMemory}
use Rattle.store_runs.specs.Calls.{is_failure}
use Rattle.store_runs.specs.Reading.{IsRead, Unreads}
use Rattle.store_changes.specs.inner.TableBuilder.{table_so_far}
use Rattle.store_changes.specs.laws.ReadTables.{reads_ended}
use Rattle.store_changes.proofs.reading.read_entry.Goals as goal

pub returns-in-Ok-clause-reads : goal.returns-in-Ok-clause-reads
returns-in-Ok-clause-reads g c =
    let D = g.D.SectorDevice in
    reads_ended D.size D.story D.failed D.tells c.finish_table.result c.args.device.now c.gather_entry.new.device
    (IfErr-weaker c.finish_table.result (λ e. e ≡ OutOfMemory) (λ e. is_failure e ≡ false) (λ e is. ap is_failure is) c.finish_table.ensures.memory) c.in-Ok.ensures.reads

pub returns-in-Ok-clause-table : goal.returns-in-Ok-clause-table
returns-in-Ok-clause-table g c =
    let D = g.D.SectorDevice in
    let image = shown_image (now (D.story c.args.device.now)) in
    let e = plain_entry c.args.entry.now in
    IfOk-weaker c.finish_table.result (λ t. table_of t ≡ table_so_far c.in-Ok.gathered) (λ t. IsRead D.tells image e (table_of t)) (λ t is. subst (IsRead D.tells image e) (sym is) c.in-Ok.ensures.table) c.finish_table.ensures.table

pub returns-in-Ok-clause-unread : goal.returns-in-Ok-clause-unread
returns-in-Ok-clause-unread g c =
    let D = g.D.SectorDevice in
    let unread = Unreads D.tells (shown_image (now (D.story c.args.device.now))) (plain_entry c.args.entry.now) in
    IfErr-weaker c.finish_table.result (λ e. e ≡ OutOfMemory) unread (λ e is. subst unread (sym is) tt) c.finish_table.ensures.memory
