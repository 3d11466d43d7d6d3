use Rattle.std.proofs.Common.{Option, sym, ap, ◌∙◌, subst}
use Rattle.std.proofs.lemmas.Result.{IfOk-weaker}
use Rattle.arrow_schema.specs.declared.types.Schema.{Schema}
use Rattle.ipc_canonical.specs.PieceStreams.{piece_streams, piece_counts}
use Rattle.store_changes.specs.Under.{table_under}
use Rattle.values.specs.Table.{IsTable}
use Rattle.store_changes.proofs.change.SegmentRows.pieces.Goals as goal

pub returns-in_ok-message-in-Some-clause-streams : goal.returns-in_ok-message-in-Some-clause-streams
returns-in_ok-message-in-Some-clause-streams c =
    let rows = c.args.self.now in
    let same = ap (λ (s : Option Schema). piece_streams (table_under s rows.table)) c.in-Some.is in
    IfOk-weaker c.encode_pieces_behind.result _ _ (λ pieces is. is ∙ sym same) c.encode_pieces_behind.ensures.streams

pub returns-in_ok-message-in-Some-clause-counts : goal.returns-in_ok-message-in-Some-clause-counts
returns-in_ok-message-in-Some-clause-counts c =
    let rows = c.args.self.now in
    let same = ap (λ (s : Option Schema). piece_counts (table_under s rows.table)) c.in-Some.is in
    IfOk-weaker c.encode_pieces_behind.result _ _ (λ pieces is. is ∙ sym same) c.encode_pieces_behind.ensures.rows

pub returns-in_ok-message-in-Some-clause-short : goal.returns-in_ok-message-in-Some-clause-short
returns-in_ok-message-in-Some-clause-short c = c.encode_pieces_behind.ensures.short

pub keep_message-requires : goal.keep_message-requires
keep_message-requires c = (subst (λ (s : Option Schema). IsTable (table_under s c.args.self.now.table)) c.in-Some.is c.args.self.now.kept).schema
