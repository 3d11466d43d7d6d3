-- The arrays that are read, in the bytes that they stand in.
use Rattle.columns.specs.Array.{Arrays}
use Rattle.columns.specs.View.{placed_arrays}
use Rattle.arrays.specs.declared.batch_arrays.Placed.{Placed}

abbrev pub placed_in : Placed → Arrays
placed_in p = placed_arrays p.bytes.now p.dictionaries.now p.arrays.now
