use Rattle.std.proofs.Common.{◌≡◌, ℕ, List, length, map, refl, ◌∙◌}
use Rattle.std.proofs.lemmas.Result.{on_ok_weaker}
use Rattle.flatbuf.specs.Laid.{metadata}
use Rattle.flatbuf.specs.Tree.{Tree}
use Rattle.flatbuf.specs.View.{node_of}
use Rattle.ipc_message.specs.declared.header_type.TheConstants.{RECORD_BATCH}
use Rattle.ipc_message.specs.Raw.{RawNode}
use Rattle.ipc_write.specs.Contents.{shape_nodes}
use Rattle.ipc_write.specs.Trees.{message_tree}
use Rattle.ipc_write.specs.Written.{batch_message, body, framed}
use Rattle.ipc_write.proofs.BatchNode.{batch_is, framed_is}
use Rattle.ipc_write.proofs.Fronts.{then_body}
use Rattle.ipc_write.proofs.Room.{same_fits, same_size}
use Rattle.ipc_write.proofs.SameLengths.{room_for_zeros, same_batch, same_end}
use Rattle.ipc_write.proofs.WrittenMessages.{batch_tree_fits}
use Rattle.ipc_write.proofs.framing.write_batch_front.Goals as goal

pub write_front-requires-clause-fits : goal.write_front-requires-clause-fits
write_front-requires-clause-fits c =
    let made = c.in_ok-header.ensures in
    same_fits RECORD_BATCH _ _ _ _ made.node made.length (batch_tree_fits _ _ _ made.writable)

pub write_front-requires-clause-small : goal.write_front-requires-clause-small
write_front-requires-clause-small c =
    let made = c.in_ok-header.ensures in
    same_size RECORD_BATCH _ _ _ _ made.node made.length (c.metadata_is_within_its_limit.ensures.batch _ _ _ made.writable)

pub batch_header-requires : goal.batch_header-requires
batch_header-requires c = room_for_zeros _ c.args.shape.lengths.now c.requires.0 c.requires.1.0 c.requires.1.1

pub returns-clause-appended : goal.returns-clause-appended
returns-clause-appended c =
    let rows : ℕ = c.args.shape.rows in
    let nodes : List RawNode = shape_nodes c.args.shape in
    let lengths : List ℕ = c.args.shape.lengths.now in
    let header : Tree = node_of c.in_ok-header.header in
    let len : ℕ = c.in_ok-header.body_length in
    let made = c.in_ok-header.ensures in
    let is : (buffers : List (List ℕ)) → map length buffers ≡ lengths → framed (metadata (message_tree RECORD_BATCH header len)) (body buffers) ≡ batch_message rows nodes buffers =
    λ buffers same. framed_is _ (message_tree RECORD_BATCH header len) header RECORD_BATCH len (body buffers) refl refl (made.length ∙ same_end lengths buffers same)
    ∙ batch_is header rows nodes buffers (made.node ∙ same_batch rows nodes lengths buffers same) in
    on_ok_weaker c.write_front.result
    (λ done buffers same. then_body c.write_front.new.out.items c.args.out.now.items (metadata (message_tree RECORD_BATCH header len)) (body buffers) (batch_message rows nodes buffers) done (is buffers same))
    c.write_front.ensures.appended
