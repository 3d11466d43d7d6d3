use Rattle.std.proofs.Common.{◌<◌, ◌≤◌, ◌^◌, ◌+◌, arith, refl, ap}
use Rattle.byteorder.specs.Endian.{little_bytes}
use Rattle.flatbuf.specs.Laid.{slot_starts, inline_end, gap}
use Rattle.flatbuf.specs.Ends.{end_at, below_ends_at}
use Rattle.flatbuf.specs.View.{node_of}
use Rattle.flatbuf.proofs.Cases.{byte_is, short_is, word_is, long_is, refers_is}
use Rattle.flatbuf.proofs.Ends.{start_le, end_le}
use Rattle.flatbuf.proofs.ReadBack.{inline_le_end, start_ge}
use Rattle.flatbuf.proofs.Puts.{scalar_put, refers_put, field_end}
use Rattle.flatbuf.proofs.emit.put_slot.Goals as goal

pub start_of-requires : goal.start_of-requires
start_of-requires c =
    let seen = refers_is c.args.slot.now c.in-Refers.node c.in-Refers.is in
    let low : end_at c.args.reached.cursor (node_of c.in-Refers.node) < 2 ^ 31 = rw seen at c.requires.low in
    record { small = omega (arith, low, start_le c.args.reached.cursor (node_of c.in-Refers.node)) }

pub overflow_cast-distance : goal.overflow_cast-distance
overflow_cast-distance c =
    let seen = refers_is c.args.slot.now c.in-Refers.node c.in-Refers.is in
    let low : end_at c.args.reached.cursor (node_of c.in-Refers.node) < 2 ^ 31 = rw seen at c.requires.low in
    omega (arith, low, start_le c.args.reached.cursor (node_of c.in-Refers.node), c.start_of.ensures)

pub overflow_add-distance : goal.overflow_add-distance
overflow_add-distance c =
    let seen = refers_is c.args.slot.now c.in-Refers.node c.in-Refers.is in
    let low : end_at c.args.reached.cursor (node_of c.in-Refers.node) < 2 ^ 31 = rw seen at c.requires.low in
    let offset = c.args.reached.offset in
    let room : c.args.at + inline_end (offset + gap 4 offset + 4) c.requires.room.0 ≤ c.args.reached.cursor = rw seen at c.requires.room.1 in
    omega (arith, low, end_le c.args.reached.cursor (node_of c.in-Refers.node), room, inline_le_end (offset + gap 4 offset + 4) c.requires.room.0, c.aligned.ensures)

pub overflow_sub-distance : goal.overflow_sub-distance
overflow_sub-distance c =
    let seen = refers_is c.args.slot.now c.in-Refers.node c.in-Refers.is in
    let offset = c.args.reached.offset in
    let room : c.args.at + inline_end (offset + gap 4 offset + 4) c.requires.room.0 ≤ c.args.reached.cursor = rw seen at c.requires.room.1 in
    omega (arith, start_ge c.args.reached.cursor (node_of c.in-Refers.node), c.start_of.ensures, room, inline_le_end (offset + gap 4 offset + 4) c.requires.room.0, c.aligned.ensures)

pub returns-in_ok-offset-in-Byte-clause-bytes : goal.returns-in_ok-offset-in-Byte-clause-bytes
unfolding slot_starts
returns-in_ok-offset-in-Byte-clause-bytes c = λ rest.
    let seen = byte_is c.args.slot.now c.in-Byte.n c.in-Byte.is in
    rw seen (scalar_put c.args.out.now.items _ (little_bytes 1 c.in-Byte.n) c.args.at c.args.reached.offset _ 1 c.in-Byte.n (slot_starts c.args.reached.cursor rest) rest refl c.in_ok-offset-in-Byte.ensures.bytes c.in_ok-offset-in-Byte.ensures.end)

pub returns-in_ok-offset-in-Short-clause-bytes : goal.returns-in_ok-offset-in-Short-clause-bytes
unfolding slot_starts
returns-in_ok-offset-in-Short-clause-bytes c = λ rest.
    let seen = short_is c.args.slot.now c.in-Short.n c.in-Short.is in
    rw seen (scalar_put c.args.out.now.items _ c.to_le_bytes.result c.args.at c.args.reached.offset _ 2 c.in-Short.n (slot_starts c.args.reached.cursor rest) rest c.to_le_bytes.ensures c.in_ok-offset-in-Short.ensures.bytes c.in_ok-offset-in-Short.ensures.end)

pub returns-in_ok-offset-in-Word-clause-bytes : goal.returns-in_ok-offset-in-Word-clause-bytes
unfolding slot_starts
returns-in_ok-offset-in-Word-clause-bytes c = λ rest.
    let seen = word_is c.args.slot.now c.in-Word.n c.in-Word.is in
    rw seen (scalar_put c.args.out.now.items _ c.to_le_bytes-in-Word.result c.args.at c.args.reached.offset _ 4 c.in-Word.n (slot_starts c.args.reached.cursor rest) rest c.to_le_bytes-in-Word.ensures c.in_ok-offset-in-Word.ensures.bytes c.in_ok-offset-in-Word.ensures.end)

pub returns-in_ok-offset-in-Long-clause-bytes : goal.returns-in_ok-offset-in-Long-clause-bytes
unfolding slot_starts
returns-in_ok-offset-in-Long-clause-bytes c = λ rest.
    let seen = long_is c.args.slot.now c.in-Long.n c.in-Long.is in
    rw seen (scalar_put c.args.out.now.items _ c.to_le_bytes-in-Long.result c.args.at c.args.reached.offset _ 8 c.in-Long.n (slot_starts c.args.reached.cursor rest) rest c.to_le_bytes-in-Long.ensures c.in_ok-offset-in-Long.ensures.bytes c.in_ok-offset-in-Long.ensures.end)

pub returns-in_ok-offset-in-Refers-clause-bytes : goal.returns-in_ok-offset-in-Refers-clause-bytes
returns-in_ok-offset-in-Refers-clause-bytes c = λ rest.
    let seen = refers_is c.args.slot.now c.in-Refers.node c.in-Refers.is in
    rw seen (refers_put c.args.out.now.items _ c.to_le_bytes-in-Refers.result c.args.at c.args.reached.offset _ _ c.args.reached.cursor _ (node_of c.in-Refers.node) rest c.to_le_bytes-in-Refers.ensures c.in_ok-offset-in-Refers.ensures.bytes c.in_ok-offset-in-Refers.ensures.end (omega arith) c.end_of.ensures)

pub returns-in_ok-offset-in-Byte-clause-inline : goal.returns-in_ok-offset-in-Byte-clause-inline
returns-in_ok-offset-in-Byte-clause-inline c = λ rest.
    let seen = byte_is c.args.slot.now c.in-Byte.n c.in-Byte.is in
    rw seen (ap (λ e. inline_end e rest) (c.in_ok-offset-in-Byte.ensures.end))

pub returns-in_ok-offset-in-Byte-clause-below : goal.returns-in_ok-offset-in-Byte-clause-below
returns-in_ok-offset-in-Byte-clause-below c = λ rest.
    let seen = byte_is c.args.slot.now c.in-Byte.n c.in-Byte.is in
    rw seen refl

pub returns-in_ok-offset-in-Byte-clause-up : goal.returns-in_ok-offset-in-Byte-clause-up
returns-in_ok-offset-in-Byte-clause-up c = omega arith

pub returns-in_ok-offset-in-Short-clause-inline : goal.returns-in_ok-offset-in-Short-clause-inline
returns-in_ok-offset-in-Short-clause-inline c = λ rest.
    let seen = short_is c.args.slot.now c.in-Short.n c.in-Short.is in
    rw seen (ap (λ e. inline_end e rest) (field_end c.to_le_bytes.result c.args.reached.offset _ 2 c.in-Short.n c.to_le_bytes.ensures c.in_ok-offset-in-Short.ensures.end))

pub returns-in_ok-offset-in-Short-clause-below : goal.returns-in_ok-offset-in-Short-clause-below
returns-in_ok-offset-in-Short-clause-below c = λ rest.
    let seen = short_is c.args.slot.now c.in-Short.n c.in-Short.is in
    rw seen refl

pub returns-in_ok-offset-in-Short-clause-up : goal.returns-in_ok-offset-in-Short-clause-up
returns-in_ok-offset-in-Short-clause-up c = omega arith

pub returns-in_ok-offset-in-Word-clause-inline : goal.returns-in_ok-offset-in-Word-clause-inline
returns-in_ok-offset-in-Word-clause-inline c = λ rest.
    let seen = word_is c.args.slot.now c.in-Word.n c.in-Word.is in
    rw seen (ap (λ e. inline_end e rest) (field_end c.to_le_bytes-in-Word.result c.args.reached.offset _ 4 c.in-Word.n c.to_le_bytes-in-Word.ensures c.in_ok-offset-in-Word.ensures.end))

pub returns-in_ok-offset-in-Word-clause-below : goal.returns-in_ok-offset-in-Word-clause-below
returns-in_ok-offset-in-Word-clause-below c = λ rest.
    let seen = word_is c.args.slot.now c.in-Word.n c.in-Word.is in
    rw seen refl

pub returns-in_ok-offset-in-Word-clause-up : goal.returns-in_ok-offset-in-Word-clause-up
returns-in_ok-offset-in-Word-clause-up c = omega arith

pub returns-in_ok-offset-in-Long-clause-inline : goal.returns-in_ok-offset-in-Long-clause-inline
returns-in_ok-offset-in-Long-clause-inline c = λ rest.
    let seen = long_is c.args.slot.now c.in-Long.n c.in-Long.is in
    rw seen (ap (λ e. inline_end e rest) (field_end c.to_le_bytes-in-Long.result c.args.reached.offset _ 8 c.in-Long.n c.to_le_bytes-in-Long.ensures c.in_ok-offset-in-Long.ensures.end))

pub returns-in_ok-offset-in-Long-clause-below : goal.returns-in_ok-offset-in-Long-clause-below
returns-in_ok-offset-in-Long-clause-below c = λ rest.
    let seen = long_is c.args.slot.now c.in-Long.n c.in-Long.is in
    rw seen refl

pub returns-in_ok-offset-in-Long-clause-up : goal.returns-in_ok-offset-in-Long-clause-up
returns-in_ok-offset-in-Long-clause-up c = omega arith

pub returns-in_ok-offset-in-Refers-clause-inline : goal.returns-in_ok-offset-in-Refers-clause-inline
returns-in_ok-offset-in-Refers-clause-inline c = λ rest.
    let seen = refers_is c.args.slot.now c.in-Refers.node c.in-Refers.is in
    rw seen (ap (λ e. inline_end e rest) (field_end c.to_le_bytes-in-Refers.result c.args.reached.offset _ 4 _ c.to_le_bytes-in-Refers.ensures c.in_ok-offset-in-Refers.ensures.end))

pub returns-in_ok-offset-in-Refers-clause-below : goal.returns-in_ok-offset-in-Refers-clause-below
returns-in_ok-offset-in-Refers-clause-below c = λ rest.
    let seen = refers_is c.args.slot.now c.in-Refers.node c.in-Refers.is in
    rw seen (ap (λ e. below_ends_at e rest) c.end_of.ensures)

pub returns-in_ok-offset-in-Refers-clause-up : goal.returns-in_ok-offset-in-Refers-clause-up
returns-in_ok-offset-in-Refers-clause-up c = omega (arith, c.end_of.ensures, end_le c.args.reached.cursor (node_of c.in-Refers.node))

pub end_of-requires : goal.end_of-requires
end_of-requires c =
    let seen = refers_is c.args.slot.now c.in-Refers.node c.in-Refers.is in
    record { small = rw seen at c.requires.low }
