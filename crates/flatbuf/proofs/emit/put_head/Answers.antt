use Rattle.std.proofs.Common.{◌≡◌, ◌<◌, ◌+◌, ◌*◌, ◌^◌, map, length, arith, ap}
use Rattle.flatbuf.specs.Tree.{table}
use Rattle.flatbuf.specs.Laid.{table_start, vtable_len, inline_end}
use Rattle.flatbuf.specs.View.{slot_before, slots_in}
use Rattle.flatbuf.proofs.Cases.{count_slots}
use Rattle.flatbuf.proofs.Ends.{start_le, end_le}
use Rattle.flatbuf.proofs.ReadBack.{length-vtable}
use Rattle.flatbuf.proofs.Puts.{head_put, length_more}
use Rattle.flatbuf.proofs.emit.put_head.Goals as goal

pub table_start-at-requires : goal.table_start-at-requires
table_start-at-requires c =
    let slots = slots_in (map slot_before c.args.slots.now) in
    let here : c.len.result ≡ length c.args.out.now.items = omega (arith, c.len.ensures) in
    let low : table_start (length c.args.out.now.items) slots < 2 ^ 31 = omega (arith, c.requires.small, start_le (length c.args.out.now.items) (table slots)) in
    record { small = rw here low }

pub put_vtable-requires-clause-near : goal.put_vtable-requires-clause-near
put_vtable-requires-clause-near c =
    omega (arith, c.requires.small, end_le (length c.args.out.now.items) (table (slots_in (map slot_before c.args.slots.now))))

pub overflow_cast-slots : goal.overflow_cast-slots
overflow_cast-slots c = omega (arith, c.requires.fits.1, count_slots c.args.slots.now)

pub put_inline-requires-clause-here : goal.put_inline-requires-clause-here
put_inline-requires-clause-here c =
    let slots = slots_in (map slot_before c.args.slots.now) in
    let here : c.len.result ≡ length c.args.out.now.items = omega (arith, c.len.ensures) in
    let start : c.table_start-at.result ≡ table_start (length c.args.out.now.items) slots = rw here at c.table_start-at.ensures in
    omega (
      arith,
      start,
      length_more c.args.out.now.items c.put_vtable.new.out.items _ c.in_ok-put_vtable.ensures,
      length_more c.put_vtable.new.out.items c.extend_from_slice.new.self.items _ c.in_ok-extend_from_slice.ensures.items,
      ap length c.to_le_bytes.ensures,
      length-vtable (length c.args.out.now.items) slots,
    )

pub returns : goal.returns
returns c =
    let slots = slots_in (map slot_before c.args.slots.now) in
    let here : c.len.result ≡ length c.args.out.now.items = omega (arith, c.len.ensures) in
    let start : c.table_start-at.result ≡ table_start (length c.args.out.now.items) slots = rw here at c.table_start-at.ensures in
    let size : 4 + 2 * length c.args.slots.now ≡ vtable_len slots = omega (arith, count_slots c.args.slots.now) in
    let below : c.table_start-at.result + c.inline_end.result ≡ c.table_start-at.result + inline_end 4 slots = omega (arith, c.inline_end.ensures) in
    head_put c.args.out.now.items c.put_vtable.new.out.items c.extend_from_slice.new.self.items c.put_inline.new.out.items c.table_start-at.result (c.table_start-at.result + c.inline_end.result) slots start below
    c.in_ok-put_vtable.ensures
    (rw (c.to_le_bytes.ensures, size) at c.in_ok-extend_from_slice.ensures.items)
    c.in_ok-put_inline.ensures
