use Rattle.std.proofs.Common.{arith}
use Rattle.text_columns.proofs.PlacedBuffers.{flat_placed}
use Rattle.text_columns.proofs.placing.place_flat.Goals as goal

pub returns : goal.returns
returns c =
    flat_placed c.args.column.now c.len.result c.args.bytes.now.items c.append_validity.new.bytes.items c.place_layout.new.bytes.items c.args.dictionaries.now.items c.place_layout.new.dictionaries.items
    c.in_ok-validity.validity c.in_ok-layout.layout
    (omega (arith, c.len.ensures, c.args.column.now.valid.ok.0)) (rw (c.has_validity.ensures, c.deref.ensures.value) at c.in_ok-validity.ensures) c.in_ok-layout.ensures
