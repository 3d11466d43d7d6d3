use Rattle.std.proofs.Common.{◌≡◌, ◌<◌, ◌+◌, ◌^◌, ◌++◌, ℕ, List, length, map, drop, sym, ap, ◌∙◌, arith}
use Rattle.std.proofs.lemmas.List.{at_drop_all}
use Rattle.std.proofs.lemmas.Result.{on_ok_weaker}
use Rattle.flatbuf.specs.declared.nodes.Slot.{Slot}
use Rattle.flatbuf.specs.Ends.{below_ends_at}
use Rattle.flatbuf.specs.Laid.{inline, inline_end, slot_starts}
use Rattle.flatbuf.specs.Tree.{Slots}
use Rattle.flatbuf.specs.View.{slot_before, slots_in}
use Rattle.facts.specs.laws.Lists.{drop-item}
use Rattle.flatbuf.proofs.Cases.{offset_fits, slot_fits}
use Rattle.flatbuf.proofs.Ends.{below_le}
use Rattle.flatbuf.proofs.Puts.{inline_len}
use Rattle.flatbuf.proofs.ReadBack.{inline_le_end}
use Rattle.flatbuf.proofs.emit.put_inline.Goals as goal

-- what is written of the inline part stands before what it refers to
written_small : (old new : List ℕ) (at offset cursor below : ℕ) (rest all : Slots) → new ++ inline at offset (slot_starts cursor rest) rest ≡ old ++ inline at 4 (slot_starts below all) all
    → inline_end offset rest ≡ inline_end 4 all → length old ≡ at + 4 → below ≡ at + inline_end 4 all → below_ends_at below all < 2 ^ 31 → length new < 2 ^ 31
written_small old new at offset cursor below rest all bytes end here room small =
    omega (arith, inline_len old new at offset cursor below rest all bytes end, inline_le_end offset rest, end, here, room, small, below_le below all)

pub put_slot-requires-clause-near : goal.put_slot-requires-clause-near
put_slot-requires-clause-near c = omega (arith, offset_fits c.args.slots.now c.loop-slot.slot-index c.loop-slot.reached.offset _ c.loop-slot.invariant.end)

pub put_slot-requires-clause-low : goal.put_slot-requires-clause-low
put_slot-requires-clause-low c =
    omega (arith, slot_fits c.args.slots.now c.loop-slot.slot-index c.slot-item.result c.loop-slot.reached.cursor (omega arith) c.slot-item.is, c.loop-slot.invariant.below)

pub put_slot-requires-clause-small : goal.put_slot-requires-clause-small
put_slot-requires-clause-small c =
    written_small c.args.out.now.items c.loop-slot.out.items c.args.at c.loop-slot.reached.offset c.loop-slot.reached.cursor c.args.below _ _ c.loop-slot.invariant.bytes c.loop-slot.invariant.end c.requires.here c.requires.room c.requires.small

pub put_slot-requires-clause-room : goal.put_slot-requires-clause-room
put_slot-requires-clause-room c =
    let slots = c.args.slots.now in
    let end = rw (drop-item slots c.loop-slot.slot-index c.slot-item.result (omega arith) c.slot-item.is) at c.loop-slot.invariant.end in
    (slots_in (map slot_before (drop (c.loop-slot.slot-index + 1) slots)), omega (arith, end, c.loop-slot.invariant.low))

pub pad-requires-clause-near : goal.pad-requires-clause-near
pad-requires-clause-near c = omega (arith, offset_fits c.args.slots.now c.loop-slot.slot-index c.loop-slot.reached.offset _ c.loop-slot.invariant.end)

pub pad-requires-clause-small : goal.pad-requires-clause-small
pad-requires-clause-small c =
    let small = written_small c.args.out.now.items c.loop-slot.out.items c.args.at c.loop-slot.reached.offset c.loop-slot.reached.cursor c.args.below _ _ c.loop-slot.invariant.bytes c.loop-slot.invariant.end c.requires.here c.requires.room c.requires.small in
    omega (arith, small)

pub loop-slot-preserved : goal.loop-slot-preserved
loop-slot-preserved c =
    let slots = c.args.slots.now in
    let rest = slots_in (map slot_before (drop (c.loop-slot.slot-index + 1) slots)) in
    let next = drop-item slots c.loop-slot.slot-index c.slot-item.result (omega arith) c.slot-item.is in
    record {
      bytes = c.in_ok-reached.ensures.bytes rest ∙ (rw next at c.loop-slot.invariant.bytes);
      end = c.in_ok-reached.ensures.inline rest ∙ (rw next at c.loop-slot.invariant.end);
      low = omega (arith, c.in_ok-reached.ensures.up, c.loop-slot.invariant.low);
      below = c.in_ok-reached.ensures.below rest ∙ (rw next at c.loop-slot.invariant.below);
    }

pub returns : goal.returns
unfolding inline slot_starts
returns c =
    let out = c.loop-slot.out.items in
    let left = at_drop_all (λ (ss : List Slot). inline c.args.at c.loop-slot.reached.offset (slot_starts c.loop-slot.reached.cursor (slots_in (map slot_before ss))) (slots_in (map slot_before ss))) c.args.slots.now c.loop-slot.slot-index (omega arith) in
    on_ok_weaker c.pad.result (λ h. h ∙ ap (λ (t : List ℕ). out ++ t) (sym left) ∙ c.loop-slot.invariant.bytes) c.pad.ensures
