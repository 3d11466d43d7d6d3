use Rattle.std.proofs.Common.{◌≡◌, List, ℕ, map, take}
use Rattle.columns.specs.Array.{Array}
use Rattle.columns.specs.View.{array_in}
use Rattle.columns.specs.declared.array.DictionaryPart.{DictionaryPart}
use Rattle.selection.proofs.copying.+copy.Given as goal

abbrev pub invariant-copy_arrays-loop-array : goal.invariant-copy_arrays-loop-array
invariant-copy_arrays-loop-array l =
    (bytes : List ℕ) (known : DictionaryPart → List Array) → map (array_in bytes known) l.copies.items ≡ map (array_in bytes known) (take l.array-index l.arrays)
