use Rattle.std.proofs.Common.{◌∙◌}
use Rattle.arrow_schema.specs.Column.{PlainSchema}
use Rattle.arrow_schema.specs.View.{schema_of}
use Rattle.ipc_encode.specs.inner.Stream.{stream_in}
use Rattle.ipc_encode.proofs.Steps.{whole_written}
use Rattle.values.specs.TableView.{table_of}
use Rattle.ipc_encode.proofs.encoder.encode_rows.Goals as goal

pub returns : goal.returns
returns c =
    let s : PlainSchema = schema_of c.args.schema.now in
    whole_written s (table_of c.args.table.now).rows (stream_in c.begin_stream-stream.result) (stream_in c.write_rows.new.stream) (stream_in c.end_stream.new.stream)
    (c.begin_stream-stream.ensures ∙ c.in_ok-first.ensures.message) c.in_ok-write_rows.ensures c.in_ok-end_stream.ensures
