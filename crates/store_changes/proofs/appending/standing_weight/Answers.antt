use Rattle.store_changes.specs.laws.ReadTables.{reads_none}
use Rattle.store_changes.proofs.appending.standing_weight.Goals as goal

pub returns-in-Some-clause-reads : goal.returns-in-Some-clause-reads
returns-in-Some-clause-reads g c = let D = g.D.SegmentSource in reads_none D.size D.story D.failed D.tells c.args.device.now

pub returns-in-Some-clause-goes_on : goal.returns-in-Some-clause-goes_on
returns-in-Some-clause-goes_on g c = g.met.D.SegmentSource.stays c.args.device.now

pub returns-in-Some-clause-weight : goal.returns-in-Some-clause-weight
returns-in-Some-clause-weight g c = rw c.in-Some.is at c.requires.known
