use Rattle.std.proofs.Common.{◌≡◌, ◌++◌, map, drop}
use Rattle.arrow_schema.specs.Column.{columns_of}
use Rattle.arrow_schema.specs.View.{column_of}
use Rattle.columns.specs.Tests.{every_array}
use Rattle.columns.specs.View.{placed_arrays}
use Rattle.arrays.specs.inner.Every.{all_of}
use Rattle.arrays.proofs.every.+every.Given as goal

-- those so far, and those that are left
abbrev pub invariant-add_all-loop-i : goal.invariant-add_all-loop-i
invariant-add_all-loop-i l =
    all_of l.every.items ++ every_array (columns_of (map column_of (drop l.i l.fields))) (placed_arrays l.bytes l.dictionaries (drop l.i l.arrays))
    ≡ all_of l.fn.every.items ++ every_array (columns_of (map column_of l.fields)) (placed_arrays l.bytes l.dictionaries l.arrays)
