use Rattle.std.proofs.Common.{ap, ◌∙◌}
use Rattle.ipc_write.specs.Written.{schema_message}
use Rattle.store_changes.proofs.kept_message.KeptMessage.copy_for.Goals as goal

pub returns-in_ok-from_slice : goal.returns-in_ok-from_slice
returns-in_ok-from_slice c =
    c.in_ok-from_slice.ensures.items ∙ c.deref.ensures.value ∙ c.args.self.now.kept ∙ ap schema_message (c.equals.ensures.0 c.if-equals.true)
