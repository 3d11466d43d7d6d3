use Rattle.columns.specs.Built.{built_parts}
use Rattle.columns.specs.Visible.{visible_in}
use Rattle.std.proofs.Common.{length}
use Rattle.columns.proofs.BuiltCells.{entries_found}
use Rattle.columns.proofs.BuiltVisible.{no_wrong, index_test, text_test, null_test}
use Rattle.columns.proofs.laws.written_slots_pass.Goals as goal

pub returns : goal.returns
returns c =
    let back = c.packed_reads_back.ensures in
    let entries = entries_found c.one_entry_is_one_value.ensures c.entries_are_the_distinct_values.ensures.values in
    record {
      indices = λ columns rows can fit. index_test (visible_in columns (built_parts columns rows) (length rows)) (no_wrong back entries columns rows can fit);
      texts = λ columns rows can fit. text_test (visible_in columns (built_parts columns rows) (length rows)) (no_wrong back entries columns rows can fit);
      nulls = λ columns rows can fit. null_test (visible_in columns (built_parts columns rows) (length rows)) (no_wrong back entries columns rows can fit);
    }
