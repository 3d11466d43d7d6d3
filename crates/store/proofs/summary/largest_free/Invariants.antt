use Rattle.std.proofs.Common.{◌-◌}
use Rattle.segments.specs.Usages.{IsUsedIn}
use Rattle.store.proofs.Fitted.{Between}
use Rattle.store.proofs.summary.largest_free.Given as goal

abbrev pub invariant-loop-some : goal.invariant-loop-some
invariant-loop-some l = Between l.sectors (IsUsedIn l.map.entries) l.some l.most

abbrev pub decreases-loop-some : goal.decreases-loop-some
decreases-loop-some l = l.most - l.some
