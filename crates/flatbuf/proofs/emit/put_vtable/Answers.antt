use Rattle.std.proofs.Common.{◌+◌, ◌*◌, ◌≡◌, map, length, arith}
use Rattle.flatbuf.specs.Laid.{vtable_len}
use Rattle.flatbuf.specs.View.{slot_before, slots_in}
use Rattle.flatbuf.proofs.Cases.{count_slots}
use Rattle.flatbuf.proofs.Puts.{vtable_put}
use Rattle.flatbuf.proofs.emit.put_vtable.Goals as goal

pub returns : goal.returns
returns c =
    let slots = slots_in (map slot_before c.args.slots.now) in
    let size : 4 + 2 * length c.args.slots.now ≡ vtable_len slots = omega (arith, count_slots c.args.slots.now) in
    let len : c.len.result ≡ length c.args.out.now.items = omega (arith, c.len.ensures) in
    vtable_put c.args.out.now.items c.pad.new.out.items c.extend_from_slice.new.self.items c.extend_from_slice-2.new.self.items _ (4 + 2 * length c.args.slots.now) slots size
    (rw len at c.in_ok-pad.ensures)
    (rw c.to_le_bytes.ensures at c.in_ok-extend_from_slice.ensures.items)
    (rw (c.to_le_bytes-2.ensures, c.inline_end.ensures) at c.in_ok-extend_from_slice-2.ensures.items)
    c.in_ok-put_distances.ensures
