use Rattle.std.proofs.Common.{◌∙◌}
use Rattle.arrow_schema.specs.Column.{PlainSchema, columns_of}
use Rattle.arrow_schema.specs.View.{schema_of}
use Rattle.ipc_encode.specs.inner.Stream.{stream_in}
use Rattle.ipc_encode.proofs.Steps.{whole_written}
use Rattle.table_cut.specs.Left.{rows_left}
use Rattle.ipc_encode.proofs.by_runs.encode_left.Goals as goal

pub returns : goal.returns
returns c =
    let s : PlainSchema = schema_of c.args.schema.now in
    whole_written s (rows_left (columns_of s.columns) c.args.all) (stream_in c.begin_stream-stream.result) (stream_in c.write_runs.new.stream) (stream_in c.end_stream.new.stream)
    (c.begin_stream-stream.ensures ∙ c.in_ok-first.ensures.message) c.in_ok-write_runs.ensures c.in_ok-end_stream.ensures
