use Rattle.std.proofs.Common.{arith}
use Rattle.arrow_schema.specs.View.{schema_of}
use Rattle.ipc_write.proofs.Room.{schema_ids}
use Rattle.ipc_write.proofs.trees.schema_node.Goals as goal

pub field_nodes-requires : goal.field_nodes-requires
field_nodes-requires c = rw c.deref.ensures.value (omega (arith, schema_ids (schema_of c.args.schema.now) c.requires))
