use Rattle.std.proofs.Common.{◌++◌, List, ℕ, map, ap, ◌∙◌}
use Rattle.ipc_write.specs.Trees.{raw_node}
use Rattle.ipc_write.specs.Written.{batch_message}
use Rattle.ipc_encode.proofs.Steps.{code_room, batch_is}
use Rattle.ipc_encode.proofs.front.front_bytes.Goals as goal

pub write_batch_front-requires : goal.write_batch_front-requires
write_batch_front-requires c = (c.requires.0, (c.requires.1.0, code_room c.args.nodes.items c.requires.0 c.requires.1.1))

pub returns : goal.returns
returns c = λ buffers same.
    c.in_ok-write_batch_front.ensures.appended buffers same
    ∙ ap (λ (x : List ℕ). x ++ batch_message c.args.rows (map raw_node c.args.nodes.items) buffers) c.new-bytes.ensures.items
    ∙ batch_is c.args.rows c.args.nodes.items buffers
