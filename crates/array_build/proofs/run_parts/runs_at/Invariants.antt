use Rattle.std.proofs.Common.{◌≡◌, ◌≤◌, drop, length, vec_len, vec_capacity}
use Rattle.array_build.proofs.RunParts.{ArePartsLeft}
use Rattle.array_build.proofs.run_parts.runs_at.Given as goal

abbrev pub invariant-loop-run : goal.invariant-loop-run
invariant-loop-run l = record {
  parts : ArePartsLeft l.place l.runs (drop l.run-index l.runs) l.parts.items;
  len : vec_len l.parts ≡ l.run-index;
  room : length l.runs ≤ vec_capacity l.parts;
}
