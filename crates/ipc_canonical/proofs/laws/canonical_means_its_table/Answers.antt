use Rattle.ipc_canonical.proofs.Joined.{whole_means_its_table}
use Rattle.ipc_canonical.proofs.laws.canonical_means_its_table.Goals as goal

pub returns : goal.returns
returns c t table = whole_means_its_table c.joined_parts_mean_their_table.ensures t table
