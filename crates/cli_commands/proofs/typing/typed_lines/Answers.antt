use Rattle.std.proofs.Common.{string_bytes, sym}
use Rattle.cli_commands.proofs.TypingLemmas.{next_field, first_without, all_fields}
use Rattle.cli_commands.proofs.typing.typed_lines.Goals as goal

pub loop-place-preserved : goal.loop-place-preserved
loop-place-preserved c =
    next_field c.args.fields.now c.loop-place.place c.index-fields-place.result c.in-Some.line (string_bytes c.loop-place.text) _ _ c.loop-place-test.true
    (sym c.index-fields-place.is) (rw c.in-Some.is at c.in_ok-line.ensures) c.loop-place.invariant
    (rw c.as_str.ensures.value at c.in_ok-push_str.ensures.bytes) c.in_ok-push_str-2.ensures.bytes

pub returns-in_default-clause-refused : goal.returns-in_default-clause-refused
returns-in_default-clause-refused c =
    first_without c.args.fields.now c.loop-place.place c.index-fields-place.result (string_bytes c.loop-place.text) c.loop-place-test.true
    (sym c.index-fields-place.is) (rw c.in_default.is at c.in_ok-line.ensures) c.loop-place.invariant
