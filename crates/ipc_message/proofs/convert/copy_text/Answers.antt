use Rattle.std.proofs.lemmas.Str.{IsUtf8-from_is_utf8}
use Rattle.ipc_message.proofs.convert.copy_text.Goals as goal

pub unreachable-requires : goal.unreachable-requires
unreachable-requires c = c.in-Err.ensures.cases.0 (IsUtf8-from_is_utf8 c.args.bytes.now c.requires)
