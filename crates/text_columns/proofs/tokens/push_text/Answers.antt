use Rattle.std.proofs.Common.{ap}
use Rattle.std.proofs.lemmas.Str.{is_utf8-from_IsUtf8}
use Rattle.json.specs.Reads.{token_of}
use Rattle.text_columns.proofs.TokenCells.{string_appended}
use Rattle.text_columns.proofs.tokens.push_text.Goals as goal

pub returns : goal.returns
returns c =
    string_appended c.args.width (token_of c.args.token) c.in-String.text.now c.args.offsets.now.items c.args.contents.now.items c.push_utf8.new.offsets.items c.push_utf8.new.contents.items c.push_utf8.result
    (ap token_of c.in-String.is) (rw c.as_bytes.ensures.value at c.push_utf8.ensures)

pub push_utf8-requires : goal.push_utf8-requires
push_utf8-requires c = is_utf8-from_IsUtf8 c.as_bytes.result.now c.as_bytes.ensures.utf8
