use Rattle.std.proofs.Common.{false, List, Some, sym, ap, ◌∙◌, subst, ◌≡◌}
use Rattle.std.proofs.lemmas.Result.{IfOk-weaker, IfErr-weaker}
use Rattle.sector_dev.specs.Disk.{now, shown_image}
use Rattle.arrow_schema.specs.Column.{PlainSchema}
use Rattle.cells.specs.Cell.{Cell}
use Rattle.values.specs.TableView.{table_of}
use Rattle.ipc_canonical.specs.Canonical.{rows_messages}
use Rattle.tables.specs.declared.refusal.Refusal.{Refusal}
use Rattle.tables.specs.declared.refusal.Refusal.TheVariants.{OutOfMemory}
use Rattle.store_runs.specs.Calls.{is_failure}
use Rattle.store_runs.specs.Reading.{LacksRows}
use Rattle.store_changes.specs.laws.ReadTables.{reads_ended}
use Rattle.store.proofs.exports.read_piece.Goals as goal

pub returns-in-Ok-clause-reads : goal.returns-in-Ok-clause-reads
returns-in-Ok-clause-reads g c =
    let D = g.D.SectorDevice in
    reads_ended D.size D.story D.failed D.tells c.rows_piece.result c.args.device.now c.read_segment.new.device
    (IfErr-weaker c.rows_piece.result (λ e. e ≡ OutOfMemory) (λ e. is_failure e ≡ false) (λ e is. ap is_failure is) c.rows_piece.ensures.memory) c.in-Ok.ensures.reads

pub returns-in-Ok-clause-piece : goal.returns-in-Ok-clause-piece
returns-in-Ok-clause-piece g c =
    let rows : List (List Cell) = (table_of c.in-Ok.weighed.table).rows in
    IfOk-weaker c.rows_piece.result _ _
    (λ piece is s within message. (rows, c.in-Ok.ensures.rows s message, is ∙ ap (λ (x : PlainSchema). Some (rows_messages x rows)) (c.in-Ok.ensures.schema s within message))) c.rows_piece.ensures.messages

pub returns-in-Ok-clause-told : goal.returns-in-Ok-clause-told
returns-in-Ok-clause-told g c =
    let D = g.D.SectorDevice in
    let image = shown_image (now (D.story c.args.device.now)) in
    IfErr-weaker c.rows_piece.result _ _ (λ e is s message. subst (λ (r : Refusal). LacksRows D.tells image s c.args.segment c.args.place r) (sym is) tt) c.rows_piece.ensures.memory
