use Rattle.std.specs.Prelude.{codes}
use Rattle.std.specs.Fmt.{decimal}
use Rattle.std.proofs.Common.{◌≡◌, ◌∙◌, ◌++◌, ℕ, List, append_assoc, string_bytes}
use Rattle.facts.specs.laws.Lists.{drop-item}
use Rattle.cli_commands.proofs.printing.lines_of_tables.Goals as goal

-- four texts more, of which two were appended at once
four_more : (old one two three a b c d rest : List ℕ) → one ≡ old ++ a → two ≡ one ++ (b ++ c) → three ≡ two ++ d → three ++ rest ≡ old ++ (a ++ b ++ c ++ d ++ rest)
four_more old one two three a b c d rest first second third = rw (third, second, first) (simp append_assoc)

pub loop-table-preserved : goal.loop-table-preserved
loop-table-preserved c =
    let t = c.table-item.result in
    let left = rw (drop-item c.args.tables.now c.loop-table.table-index t c.loop-table-test.true c.table-item.is) at c.loop-table.invariant in
    four_more (string_bytes c.loop-table.text) _ _ _ (string_bytes t.0) (codes " ") (decimal t.1) (codes "\n") _
    (rw c.as_str.ensures.value at c.in_ok-push_str.ensures.bytes) c.in_ok-push_number.ensures c.in_ok-push_str-2.ensures.bytes
    ∙ left
