use Rattle.std.proofs.Common.{◌≡◌, map, drop}
use Rattle.arrow_schema.specs.View.{column_of}
use Rattle.arrays.specs.Dictionaries.{column_of_id}
use Rattle.arrays.specs.DictionaryColumns.{columns_with}
use Rattle.arrays.proofs.dictionary_batch.find_values.Given as goal

abbrev pub invariant-loop-i : goal.invariant-loop-i
invariant-loop-i l =
    column_of_id l.id (columns_with l.ids (map column_of l.values)) ≡ column_of_id l.id (columns_with (drop l.i l.ids) (drop l.i (map column_of l.values)))
