use Rattle.std.proofs.Common.{◌≡◌, ◌<◌, ◌+◌, ◌++◌, ℕ, List, map, drop, length, get_or, append-nil, sym, ap, ◌∙◌, arith}
use Rattle.std.proofs.lemmas.List.{at_drop_all}
use Rattle.flatbuf.specs.declared.nodes.Slot.{Slot}
use Rattle.flatbuf.specs.Laid.{distances}
use Rattle.flatbuf.specs.View.{slot_before, slots_in}
use Rattle.facts.specs.laws.Lists.{drop-item}
use Rattle.flatbuf.proofs.Cases.{offset_fits, field_fits}
use Rattle.flatbuf.proofs.Puts.{next_part}
use Rattle.flatbuf.proofs.emit.put_distances.Goals as goal
use Rattle.flatbuf.proofs.emit.put_distances.Goals.{in-None+in_ok-extend_from_slice-in-None, in-Some+in_ok-extend_from_slice-in-Some}

-- one distance is put, and those of the other slots are left
distance_put : (old new field whole : List ℕ) (from to i : ℕ) (slots : List Slot) (slot : Slot) → i < length slots → slot ≡ get_or slots i slot → new ≡ old ++ field
    → field ++ distances to (slots_in (map slot_before (drop (i + 1) slots))) ≡ distances from (slot_before slot (slots_in (map slot_before (drop (i + 1) slots))))
    → old ++ distances from (slots_in (map slot_before (drop i slots))) ≡ whole → new ++ distances to (slots_in (map slot_before (drop (i + 1) slots))) ≡ whole
distance_put old new field whole from to i slots slot lt is e f h =
    next_part old new field _ whole e (rw f (rw (drop-item slots i slot lt is) at h))

pub aligned-field-requires : goal.aligned-field-requires
aligned-field-requires c = record {
  positive = c.in-Some.ensures.low;
  small = omega (arith, offset_fits c.args.slots.now c.loop-slot.slot-index c.loop-slot.offset _ c.loop-slot.invariant.end);
}

pub overflow_cast-field : goal.overflow_cast-field
overflow_cast-field c =
    omega (arith, c.aligned-field.ensures, field_fits c.args.slots.now c.loop-slot.slot-index c.slot-item.result c.loop-slot.offset c.in-Some.width _ (omega arith) c.slot-item.is (c.in-Some.ensures.inline c.loop-slot.offset) c.loop-slot.invariant.end)

pub overflow_add-offset : goal.overflow_add-offset
overflow_add-offset c =
    omega (arith, c.aligned-field.ensures, field_fits c.args.slots.now c.loop-slot.slot-index c.slot-item.result c.loop-slot.offset c.in-Some.width _ (omega arith) c.slot-item.is (c.in-Some.ensures.inline c.loop-slot.offset) c.loop-slot.invariant.end)

pub loop-slot-preserved : goal.loop-slot-preserved
loop-slot-preserved c =
    let old = c.loop-slot.out.items in
    let new = c.match-width.out.items in
    let from = c.loop-slot.offset in
    let to = c.match-width.offset in
    let i = c.loop-slot.slot-index in
    let slots = c.args.slots.now in
    let slot = c.slot-item.result in
    let rest = slots_in (map slot_before (drop (i + 1) slots)) in
    let end = rw (drop-item slots i slot (omega arith) c.slot-item.is) at c.loop-slot.invariant.end in
    elim c.match-width.branch [
      | in-None+in_ok-extend_from_slice-in-None w ↦ record {
        bytes = distance_put old new w.to_le_bytes.result _ from to i slots slot (omega arith) c.slot-item.is
            (rw w.out-is w.in_ok-extend_from_slice-in-None.ensures.items)
            (rw (w.offset-is, w.to_le_bytes.ensures) (sym (w.in-None.ensures.vtable from rest)))
            c.loop-slot.invariant.bytes;
        end = rw w.offset-is (sym (w.in-None.ensures.inline from rest) ∙ end);
      }
      | in-Some+in_ok-extend_from_slice-in-Some w ↦ record {
        bytes = distance_put old new w.to_le_bytes-in-Some.result _ from to i slots slot (omega arith) c.slot-item.is
            (rw w.out-is w.in_ok-extend_from_slice-in-Some.ensures.items)
            (rw (w.offset-is, w.to_le_bytes-in-Some.ensures, w.aligned-field.ensures) (sym (w.in-Some.ensures.vtable from rest)))
            c.loop-slot.invariant.bytes;
        end = rw (w.offset-is, w.aligned-field.ensures) (sym (w.in-Some.ensures.inline from rest) ∙ end);
      }
    ]

pub returns : goal.returns
returns c =
    let left = at_drop_all (λ (ss : List Slot). distances c.loop-slot.offset (slots_in (map slot_before ss))) c.args.slots.now c.loop-slot.slot-index (omega arith) in
    sym (append-nil c.loop-slot.out.items) ∙ ap (λ (t : List ℕ). c.loop-slot.out.items ++ t) (sym left) ∙ c.loop-slot.invariant.bytes
