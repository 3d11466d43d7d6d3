use Rattle.table_cut.specs.Piece.{pieces_of, within_piece}
use Rattle.table_cut.specs.laws.Joined.{pieces_joined}
use Rattle.ipc_encode.proofs.Meant.{all_meant}
use Rattle.ipc_encode.proofs.laws.pieces_are_tables.Goals as goal

pub returns-clause-each : goal.returns-clause-each
returns-clause-each c t table = all_meant c.canonical_means_its_table.ensures t.schema (pieces_of t) (c.pieces_can_be_built.ensures t table)

pub returns-clause-whole : goal.returns-clause-whole
returns-clause-whole c t = pieces_joined (within_piece t.schema) t.rows
