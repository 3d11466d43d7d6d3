use Rattle.std.proofs.Common.{length, map, refl, sym, ap, ◌∙◌}
use Rattle.std.proofs.lemmas.List.{length-map}
use Rattle.arrow_schema.specs.Column.{columns_of}
use Rattle.arrow_schema.specs.View.{column_of}
use Rattle.ipc_message.specs.View.{raw_batch_of}
use Rattle.arrays.specs.inner.Every.{typed_view}
use Rattle.arrays.specs.inner.Read.{placed_in}
use Rattle.arrays.proofs.Layouts.{every_has_a_node}
use Rattle.arrays.proofs.batch_arrays.array_fault.Goals as goal

pub any_miscounted-requires-clause-count : goal.any_miscounted-requires-clause-count
any_miscounted-requires-clause-count c =
    sym (length-map c.args.every.now typed_view) ∙ ap length c.requires
    ∙ every_has_a_node (columns_of (map column_of c.args.placed.fields.now)) (raw_batch_of c.args.batch.now) (placed_in c.args.placed) (sym c.if-has_other_layout.ensures)

pub returns-then-batch : goal.returns-then-batch
returns-then-batch c = rw c.if-batch.true refl

pub returns-then-has_other_layout : goal.returns-then-has_other_layout
returns-then-has_other_layout c = rw (c.if-batch.false, ← c.if-has_other_layout.ensures) refl

pub returns-then-has_bad_length : goal.returns-then-has_bad_length
returns-then-has_bad_length c = rw (c.if-batch.false, ← c.if-has_other_layout.ensures, ← c.if-has_bad_length.ensures) refl

pub returns-then-any_outside : goal.returns-then-any_outside
returns-then-any_outside c = rw (c.if-batch.false, ← c.if-has_other_layout.ensures, ← c.if-has_bad_length.ensures, ← c.if-any_outside.ensures) refl

pub returns-then-any_short : goal.returns-then-any_short
returns-then-any_short c = rw (c.if-batch.false, ← c.if-has_other_layout.ensures, ← c.if-has_bad_length.ensures, ← c.if-any_outside.ensures, ← c.requires, ← c.if-any_short.ensures) refl

pub returns-then-any_miscounted : goal.returns-then-any_miscounted
returns-then-any_miscounted c = rw (c.if-batch.false, ← c.if-has_other_layout.ensures, ← c.if-has_bad_length.ensures, ← c.if-any_outside.ensures, ← c.requires, ← c.if-any_short.ensures, ← c.if-any_miscounted.ensures) refl

pub returns-then-any_unordered : goal.returns-then-any_unordered
returns-then-any_unordered c = rw (c.if-batch.false, ← c.if-has_other_layout.ensures, ← c.if-has_bad_length.ensures, ← c.if-any_outside.ensures, ← c.requires, ← c.if-any_short.ensures, ← c.if-any_miscounted.ensures, ← c.if-any_unordered.ensures) refl

pub returns : goal.returns
returns c = rw (c.if-batch.false, ← c.if-has_other_layout.ensures, ← c.if-has_bad_length.ensures, ← c.if-any_outside.ensures, ← c.requires, ← c.if-any_short.ensures, ← c.if-any_miscounted.ensures, ← c.if-any_unordered.ensures) refl
