use Rattle.std.proofs.Common.{◌≡◌, ◌++◌, ◌+◌, drop}
use Rattle.std.specs.List.{flat_map}
use Rattle.byteorder.specs.Endian.{little_bytes}
use Rattle.array_build.proofs.run_offsets.run_offsets.Given as goal
use Rattle.array_build.specs.inner.MaskedContents.{total}
use Rattle.array_build.specs.inner.RunOffsets.{HaveOffsets, runs_sizes}
use Rattle.columns.specs.Built.{offsets_of, sums_from}
use Rattle.columns.specs.Offsets.{width_of}

-- the offsets so far and those of the other runs, which end where all end
abbrev pub invariant-loop-run : goal.invariant-loop-run
invariant-loop-run l =
    let w = width_of l.width in
    let others = drop l.run-index l.runs in
    record {
      have : HaveOffsets w others;
      next : l.next + total (runs_sizes w others) ≡ total (runs_sizes w l.runs);
      offsets : l.offsets.items ++ flat_map (little_bytes w) (sums_from l.next (runs_sizes w others)) ≡ offsets_of w (runs_sizes w l.runs);
    }
