use Rattle.std.proofs.Common.{◌≡◌, true, List, map, ap, sym, subst, ◌∙◌}
use Rattle.std.specs.Prelude.{IfOk}
use Rattle.std.proofs.lemmas.Result.{IfOk-weaker}
use Rattle.batch_build.specs.Batch.{batch_of, built_below}
use Rattle.columns.specs.Runs.{HaveRuns, can_build_columns}
use Rattle.columns.specs.declared.slot_runs.SlotRun.{SlotRun}
use Rattle.arrow_schema.specs.Column.{PlainSchema, columns_of}
use Rattle.arrow_schema.specs.View.{column_of, schema_of}
use Rattle.arrow_schema.specs.declared.types.Field.{Field}
use Rattle.ipc_encode.proofs.RunSteps.{AreRunsOf, same_runs, same_sound, piece_can}
use Rattle.ipc_encode.proofs.Steps.{PieceLaws, IsBuiltPiece, built_piece}
use Rattle.cells.specs.Cell.{Cell}
use Rattle.columns.specs.View.{fields_of}
use Rattle.table_cut.specs.Rows.{runs_rows, are_runs_sound}
use Rattle.ipc_encode.proofs.messages.build_run_piece.Goals as goal

pub column_runs-requires : goal.column_runs-requires
column_runs-requires c = subst (λ (fs : List Field). are_runs_sound (fields_of fs) c.args.runs.now ≡ true) (sym c.deref.ensures.value) c.requires.sound

pub build_runs-requires : goal.build_runs-requires
build_runs-requires c =
    let s : PlainSchema = schema_of c.args.schema.now in
    let own : List Field = c.args.schema.now.fields.items in
    let lists : List (List SlotRun) = map (λ v. v.items) c.in_ok-columns.columns.items in
    let given : List (List SlotRun) = map (λ v. v.items) c.deref-3.result.now in
    let is : given ≡ lists = ap (map (λ v. v.items)) c.deref-3.ensures.value in
    let to : own ≡ c.deref-2.result.now = sym c.deref-2.ensures.value in
    let have : AreRunsOf own given c.args.runs.now = same_runs c.deref.result.now own lists given c.args.runs.now c.deref.ensures.value is c.in_ok-columns.ensures.have in
    let can : can_build_columns (fields_of own) given ≡ true = piece_can s (runs_rows (columns_of s.columns) c.args.runs.now) given c.requires.piece have in
    record {
      sound = same_sound c.deref.result.now c.deref-2.result.now lists given (c.deref.ensures.value ∙ to) is c.in_ok-columns.ensures.sound;
      fits = subst (λ (fs : List Field). can_build_columns (fields_of fs) given ≡ true) to can;
    }

pub returns : goal.returns
returns c =
    let s : PlainSchema = schema_of c.args.schema.now in
    let own : List Field = c.args.schema.now.fields.items in
    let rows : List (List Cell) = runs_rows (columns_of s.columns) c.args.runs.now in
    let laws : PieceLaws = record {
      weight = c.written_arrays_have_their_shape.ensures.weight;
      alone = c.dictionaries_are_written_alone.ensures.alone;
      batch = c.written_batches_pass.ensures.writable;
      entries = c.written_entries_are_read.ensures.writable;
    } in
    let lists : List (List SlotRun) = map (λ v. v.items) c.in_ok-columns.columns.items in
    let given : List (List SlotRun) = map (λ v. v.items) c.deref-3.result.now in
    let is : given ≡ lists = ap (map (λ v. v.items)) c.deref-3.ensures.value in
    let have : HaveRuns (fields_of own) given rows = same_runs c.deref.result.now own lists given c.args.runs.now c.deref.ensures.value is c.in_ok-columns.ensures.have in
    let have' : HaveRuns (fields_of c.deref-2.result.now) given rows = subst (λ (fs : List Field). HaveRuns (fields_of fs) given rows) (sym c.deref-2.ensures.value) have in
    let fields = ap (λ (fs : List Field). batch_of (built_below (columns_of (map column_of fs)) rows)) c.deref-2.ensures.value in
    let piece : IfOk c.build_runs.result (IsBuiltPiece s rows) = IfOk-weaker c.build_runs.result _ (IsBuiltPiece s rows) (λ b built. built_piece laws s rows b c.requires.piece (built rows have' ∙ fields)) c.build_runs.ensures in
    record {
      entries = IfOk-weaker c.build_runs.result _ _ (λ b is. is.entries) piece;
      rows = IfOk-weaker c.build_runs.result _ _ (λ b is. is.batch) piece;
      few_entries = IfOk-weaker c.build_runs.result _ _ (λ b is. is.few_entries) piece;
      few_rows = IfOk-weaker c.build_runs.result _ _ (λ b is. is.few_rows) piece;
    }
