use Rattle.std.proofs.Common.{sym}
use Rattle.std.proofs.lemmas.Str.{is_utf8-from_IsUtf8}
use Rattle.cells.proofs.fit.is_utf8.Goals as goal

pub returns : goal.returns
returns c = sym (is_utf8-from_IsUtf8 c.args.text.now c.utf8.text)
