use Rattle.std.proofs.Common.{ℕ, List, ◌++◌, refl, ap, ◌∙◌}
use Rattle.std.proofs.lemmas.Result.{on_ok_weaker}
use Rattle.arrow_schema.specs.Column.{PlainSchema}
use Rattle.arrow_schema.specs.View.{schema_of}
use Rattle.flatbuf.specs.View.{node_of}
use Rattle.ipc_message.specs.declared.header_type.TheConstants.{SCHEMA}
use Rattle.ipc_write.specs.Trees.{schema_tree}
use Rattle.ipc_write.proofs.BatchNode.{schema_is}
use Rattle.ipc_write.proofs.Room.{schema_fits, same_fits, same_size}
use Rattle.ipc_write.proofs.framing.write_schema.Goals as goal

pub write_front-requires-clause-fits : goal.write_front-requires-clause-fits
write_front-requires-clause-fits c =
    let s : PlainSchema = schema_of c.args.schema.now in
    same_fits SCHEMA (node_of c.in_ok-header.header) (schema_tree s) 0 0 c.in_ok-header.ensures refl (schema_fits s c.requires)

pub write_front-requires-clause-small : goal.write_front-requires-clause-small
write_front-requires-clause-small c =
    let s : PlainSchema = schema_of c.args.schema.now in
    same_size SCHEMA (node_of c.in_ok-header.header) (schema_tree s) 0 0 c.in_ok-header.ensures refl (c.metadata_is_within_its_limit.ensures.schema s c.requires)

pub returns-clause-appended : goal.returns-clause-appended
returns-clause-appended c =
    let s : PlainSchema = schema_of c.args.schema.now in
    on_ok_weaker c.write_front.result
    (λ done. done ∙ ap (λ (bytes : List ℕ). c.args.out.now.items ++ bytes) (schema_is (node_of c.in_ok-header.header) s c.in_ok-header.ensures))
    c.write_front.ensures.appended
