use Rattle.std.proofs.Common.{◌≡◌, ◌+◌, map, drop, length}
use Rattle.arrow_schema.specs.Column.{columns_of}
use Rattle.arrow_schema.specs.View.{column_of}
use Rattle.columns.specs.Array.{no_array}
use Rattle.columns.specs.Tests.{every_array}
use Rattle.arrays.specs.inner.Counted.{capped, buffers_among, dictionaries_among}
use Rattle.arrays.proofs.counts.+counts.Given as goal

-- what the columns so far take, and what the others do
abbrev pub invariant-counts_of-loop-field : goal.invariant-counts_of-loop-field
invariant-counts_of-loop-field l = let others = every_array (columns_of (map column_of (drop l.field-index l.fields))) no_array in let every = every_array (columns_of (map column_of l.fields)) no_array in record {
  nodes : capped (l.all.nodes + length others) ≡ capped (length every);
  buffers : capped (l.all.buffers + buffers_among others) ≡ capped (buffers_among every);
  dictionaries : capped (l.all.dictionaries + dictionaries_among others) ≡ capped (dictionaries_among every);
  few_nodes : l.all.nodes ≡ capped l.all.nodes;
  few_buffers : l.all.buffers ≡ capped l.all.buffers;
  few_dictionaries : l.all.dictionaries ≡ capped l.all.dictionaries;
}
