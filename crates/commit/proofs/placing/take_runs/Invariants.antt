use Rattle.std.proofs.Common.{◌≡◌, ◌≤◌, take, length, vec_len, vec_capacity}
use Rattle.segments.specs.Usages.{IsSearched}
use Rattle.commit.specs.laws.Taking.{TookAll}
use Rattle.commit.proofs.placing.take_runs.Given as goal

abbrev pub invariant-loop-count : goal.invariant-loop-count
invariant-loop-count l = record {
  len : vec_len l.runs ≡ l.count-index;
  room : length l.counts ≤ vec_capacity l.runs;
  taken : TookAll l.fn.map l.map (take l.count-index l.counts) l.runs.items;
  searched : IsSearched l.map l.searched;
}
