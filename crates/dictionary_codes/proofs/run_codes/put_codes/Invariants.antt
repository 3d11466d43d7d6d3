use Rattle.std.proofs.Common.{◌≡◌, ◌+◌, ◌/◌, true, drop, length}
use Rattle.std.specs.List.{list_all}
use Rattle.arrow_schema.specs.View.{bits_of, column_of}
use Rattle.dictionary_codes.specs.Named.{named_cells}
use Rattle.dictionary_codes.specs.inner.Codes.{IsPartWritten}
use Rattle.dictionary_codes.specs.CodedCells.{is_coded}
use Rattle.dictionary_codes.specs.Masks.{runs_bits, masked_cells}
use Rattle.dictionary_codes.proofs.MaskedCodes.{cells_behind}
use Rattle.columns.specs.Runs.{are_runs_sound}
use Rattle.dictionary_codes.proofs.run_codes.put_codes.Given as goal

-- what is written so far, and the cells of the other runs
abbrev pub invariant-loop-run : goal.invariant-loop-run
invariant-loop-run l =
    let left = cells_behind (column_of l.field) l.mask l.at (drop l.run-index l.runs) in
    record {
      sound : are_runs_sound (column_of l.field) (drop l.run-index l.runs) ≡ true;
      coded : list_all is_coded left ≡ true;
      count : l.at + length (runs_bits (drop l.run-index l.runs)) ≡ length (runs_bits l.runs);
      written : IsPartWritten (bits_of l.spec.index.width / 8) (named_cells l.fn.entries) (masked_cells (column_of l.field) l.mask l.runs) (named_cells l.entries) left
          l.indices l.valid l.at;
    }
