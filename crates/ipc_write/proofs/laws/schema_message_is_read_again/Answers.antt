use Rattle.ipc_write.proofs.Checked.{schema_checked}
use Rattle.ipc_write.proofs.Decoding.{schema_decoded}
use Rattle.ipc_write.proofs.WrittenMessages.{schema_next_message, schema_type, schema_read_again, schema_after}
use Rattle.ipc_write.proofs.laws.schema_message_is_read_again.Goals as goal

pub returns : goal.returns
returns c =
    let root = c.written_is_read.ensures.root in
    let small = c.metadata_is_within_its_limit.ensures.schema in
    record {
      next_message = λ s rest limits. schema_next_message root c.next_message_is_framed.ensures.read s rest limits (small s limits);
      kind = λ s limits. schema_type root s limits (small s limits);
      header = λ supported s holds limits. schema_read_again root supported s holds limits (small s limits);
      decoded = schema_decoded;
      checked = schema_checked;
      after = schema_after;
    }
