use Rattle.text_import.proofs.jsonl.jsonl_rows.Goals as goal

pub returns : goal.returns
returns c = record { exact = rw c.in_ok-parts.ensures at (rw c.deref.ensures.value at c.line_rows.ensures) }
