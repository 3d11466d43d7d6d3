use Rattle.std.specs.Prelude.{codes}
use Rattle.std.proofs.Common.{◌≡◌, ◌∙◌, ◌++◌, ℕ, List, append_assoc, string_bytes}
use Rattle.facts.specs.laws.Lists.{drop-item}
use Rattle.field_texts.specs.FieldText.{printed, field_text}
use Rattle.arrow_schema.specs.View.{column_of}
use Rattle.cli_commands.proofs.printing.lines_of_fields.Goals as goal

-- two texts more
two_more : (old one two a b rest : List ℕ) → one ≡ old ++ a → two ≡ one ++ b → two ++ rest ≡ old ++ (a ++ b ++ rest)
two_more old one two a b rest first second = rw (second, first) (simp append_assoc)

pub loop-field-preserved : goal.loop-field-preserved
loop-field-preserved c =
    let field = c.field-item.result in
    let left = rw (drop-item c.args.fields.now c.loop-field.field-index field c.loop-field-test.true c.field-item.is) at c.loop-field.invariant in
    two_more (string_bytes c.loop-field.text) _ _ (field_text printed (column_of field)) (codes "\n") _
    (rw (c.as_str.ensures.value ∙ c.in_ok-field_text.ensures) at c.in_ok-push_str.ensures.bytes) c.in_ok-push_str-2.ensures.bytes
    ∙ left
