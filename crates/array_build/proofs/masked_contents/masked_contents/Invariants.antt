use Rattle.std.specs.Prelude.{None}
use Rattle.std.proofs.Common.{◌≡◌, ◌++◌, ◌+◌, true, length, drop}
use Rattle.std.specs.List.{flat_map}
use Rattle.arrow_schema.specs.View.{kind_of}
use Rattle.batch_build.specs.Batch.{plain_column}
use Rattle.array_build.specs.inner.Masked.{are_below}
use Rattle.dictionary_codes.specs.Masks.{mask_bits, runs_bits}
use Rattle.array_build.specs.inner.MaskedContents.{runs_under}
use Rattle.columns.specs.Runs.{are_runs_sound}
use Rattle.columns.specs.Built.{contents_of}
use Rattle.array_build.proofs.masked_contents.masked_contents.Given as goal

-- the bytes so far and those of the other runs
abbrev pub invariant-loop-run : goal.invariant-loop-run
invariant-loop-run l =
    let kind = kind_of l.data_type in
    let others = drop l.run-index l.runs in
    record {
      sound : are_runs_sound (plain_column kind None) others ≡ true;
      place : l.at + length (runs_bits others) ≡ length (runs_bits l.runs);
      below : are_below (mask_bits l.mask l.at (length (runs_bits others))) (runs_bits others) ≡ true;
      contents : l.contents.items ++ flat_map contents_of (runs_under kind l.mask l.at others) ≡ flat_map contents_of (runs_under kind l.mask 0 l.runs);
    }
