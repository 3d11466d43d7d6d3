use Rattle.std.proofs.Common.{ap}
use Rattle.std.proofs.lemmas.Str.{is_utf8-from_IsUtf8}
use Rattle.json.specs.Reads.{token_of}
use Rattle.text_columns.proofs.TokenCells.{coded_string_step}
use Rattle.text_columns.proofs.coding.Coding.push_string.Goals as goal

pub returns : goal.returns
returns c = λ date_form.
    coded_string_step date_form (token_of c.args.token) c.in-String.text.now c.args.self.now c.push_utf8.new.self c.args.entries.now c.push_utf8.new.entries c.push_utf8.result
    (ap token_of c.in-String.is) c.requires (rw c.as_bytes.ensures.value at (c.push_utf8.ensures date_form))

pub push_utf8-requires : goal.push_utf8-requires
push_utf8-requires c = is_utf8-from_IsUtf8 c.as_bytes.result.now c.as_bytes.ensures.utf8
