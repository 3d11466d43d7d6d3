use Rattle.std.specs.Prelude.{List, length}
use Rattle.std.proofs.Common.{arith}
use Rattle.arrow_schema.specs.Column.{Columns}
use Rattle.cells.specs.Cell.{Cell}
use Rattle.columns.specs.Built.{built_parts}
use Rattle.columns.specs.Buffers.{buffers_of}
use Rattle.ipc_canonical.specs.WrittenBatch.{IsWritable}
use Rattle.ipc_canonical.proofs.Written.{most, AreWritten, StandInBody, is_writable}
use Rattle.ipc_canonical.proofs.Checked.{checks_pass, arrays_again}
use Rattle.ipc_canonical.proofs.laws.written_batches_pass.Goals as goal

pub returns : goal.returns
returns c =
    let shape = c.written_arrays_have_their_shape.ensures in
    let pass = c.written_arrays_pass.ensures in
    let listed = c.listed_reads_back.ensures in
    let stand = c.buffers_stand_in_their_body.ensures in
    let written : (columns : Columns) (rows : List (List Cell)) → IsWritable columns rows → AreWritten columns (length rows) (built_parts columns rows) =
    λ columns rows w. record {
      slots = shape.slots columns rows;
      children = shape.children columns rows w.can;
      nodes = shape.nodes columns (built_parts columns rows);
      buffers = shape.buffers columns (built_parts columns rows);
      few_nodes = omega (arith, shape.few_nodes columns (built_parts columns rows), w.few_columns);
      few_buffers = omega (arith, shape.few_nodes columns (built_parts columns rows), shape.few_buffers columns (built_parts columns rows), w.few_columns);
      few_rows = w.few_rows;
      few_slots = shape.few_slots most columns rows w.can w.weighs;
      few_bytes = shape.few_bytes most columns rows w.can w.weighs;
      long = pass.long columns rows w.can;
      ordered = pass.ordered columns rows w.can;
      counted = pass.counted columns (built_parts columns rows);
      again = listed.arrays columns (built_parts columns rows) (listed.written columns rows);
    } in
    let stands : (columns : Columns) (rows : List (List Cell)) → StandInBody (buffers_of columns (built_parts columns rows)) =
    λ columns rows. record {
      found = stand.found (buffers_of columns (built_parts columns rows));
      inside = stand.inside (buffers_of columns (built_parts columns rows));
      size = stand.size (buffers_of columns (built_parts columns rows));
    } in
    record {
      writable = λ columns rows w. is_writable columns (length rows) (built_parts columns rows) (written columns rows w) (stands columns rows);
      checks = λ columns rows w. checks_pass columns (length rows) (built_parts columns rows) (written columns rows w) (stands columns rows);
      arrays = λ columns rows w. arrays_again columns (length rows) (built_parts columns rows) (written columns rows w) (stands columns rows);
    }
