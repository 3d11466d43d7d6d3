use Rattle.std.specs.List.{flat_map}
use Rattle.std.proofs.Common.{◌≡◌, ◌*◌, take, map}
use Rattle.columns.specs.Borrowed.{borrowed_cell}
use Rattle.batch_build.specs.inner.Stored.{low_bytes_of}
use Rattle.batch_build.proofs.value_bytes.put_integers.Given as goal

-- the front has the integers so far
abbrev pub invariant-loop-i : goal.invariant-loop-i
invariant-loop-i g l = take (g.row.SIZE * l.i) l.values ≡ flat_map (low_bytes_of g.row.SIZE) (take l.i (map borrowed_cell l.cells))
