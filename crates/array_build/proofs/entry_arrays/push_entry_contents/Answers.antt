use Rattle.std.proofs.Common.{◌≡◌, ◌∙◌, ℕ, List, ap, ap₂, length, map}
use Rattle.std.proofs.lemmas.Result.{on_ok_weaker}
use Rattle.array_build.proofs.EntryArrays.{entry_slots}
use Rattle.batch_build.specs.Batch.{PlainBatch, batch_in}
use Rattle.batch_build.specs.Nodes.{with_buffer, with_slots, with_validity}
use Rattle.cells.specs.Entry.{entry_cell}
use Rattle.array_build.proofs.entry_arrays.push_entry_contents.Goals as goal

pub returns : goal.returns
returns c =
    let start : PlainBatch = batch_in c.args.batch.now in
    let slots : batch_in c.push_validity.new.batch ≡ with_slots start (map entry_cell c.args.entries.now) =
    c.in_ok-push_validity.ensures ∙ ap (with_validity start (length c.args.entries.now)) c.new.ensures.items ∙ entry_slots start c.args.entries.now in
    let offsets = c.in_ok-push_buffer.ensures ∙ ap₂ (λ (p : PlainBatch) (bytes : List ℕ). with_buffer p bytes) slots c.in_ok-offsets.ensures in
    on_ok_weaker c.push_buffer-2.result
    (λ h. h ∙ ap₂ (λ (p : PlainBatch) (bytes : List ℕ). with_buffer p bytes) offsets c.in_ok-entry_contents.ensures)
    c.push_buffer-2.ensures
