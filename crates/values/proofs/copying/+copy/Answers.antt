use Rattle.std.proofs.Common.{◌∙◌, [], ◌∷◌, map, append_assoc, sym, arith, rules}
use Rattle.std.proofs.lemmas.List.{map-append, append-nil}
use Rattle.cells.specs.View.{cell}
use Rattle.cells.specs.declared.value.Value.{the_lemmas as value_lemmas}
use Rattle.columns.specs.Borrowed.{borrowed_cell}
use Rattle.values.proofs.copying.+copy.Goals as goal

pub copy_values-loop-value-preserved : goal.copy_values-loop-value-preserved
copy_values-loop-value-preserved t c =
    let so = map cell c.loop-value.copies.items in
    let kept = rw c.in-Some.ensures.steps at c.loop-value.invariant.cells in
    let room = rw c.in-Some.ensures.steps at c.loop-value.invariant.room in
    let below = rw c.in-Some.ensures.steps at c.loop-value.invariant.below in
    record {
      cells = rw (c.push_reserved.ensures.items, map-append cell c.loop-value.copies.items (c.in_ok-copy_value.field-0 ∷ []), c.in_ok-copy_value.ensures)
          (append_assoc so (borrowed_cell c.in-Some.value ∷ []) _ ∙ kept);
      room = omega (arith, c.push_reserved.ensures.len, c.push_reserved.ensures.capacity, room);
      below = omega (arith, below);
    }

pub copy_values-push_reserved-requires : goal.copy_values-push_reserved-requires
copy_values-push_reserved-requires t c =
    let room = rw c.in-Some.ensures.steps at c.loop-value.invariant.room in
    omega (arith, room)

pub copy_values-returns : goal.copy_values-returns
copy_values-returns t c = sym (append-nil (map cell c.loop-value.copies.items)) ∙ rw c.in-None.ensures.steps.0 at c.loop-value.invariant.cells

pub copy_value-returns-in-Null : goal.copy_value-returns-in-Null
copy_value-returns-in-Null t c = rw c.in-Null.is (search (rules, value_lemmas))

pub copy_value-returns-in-Bool : goal.copy_value-returns-in-Bool
copy_value-returns-in-Bool t c = rw c.in-Bool.is (search (rules, value_lemmas))

pub copy_value-returns-in-Text : goal.copy_value-returns-in-Text
copy_value-returns-in-Text t c = rw c.in-Text.is c.copy_text.ensures

pub copy_value-returns-in-Bytes : goal.copy_value-returns-in-Bytes
copy_value-returns-in-Bytes t c = rw c.in-Bytes.is c.copy_bytes.ensures

pub copy_value-returns-in-List : goal.copy_value-returns-in-List
copy_value-returns-in-List t c = rw c.in-List.is (c.list_of.ensures _ c.copy_values.ensures)

pub copy_value-returns-in-Struct : goal.copy_value-returns-in-Struct
copy_value-returns-in-Struct t c = rw c.in-Struct.is (c.struct_of.ensures _ c.copy_values-in-Struct.ensures)
