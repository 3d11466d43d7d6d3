-- Single steps of the writer: how far a part has come, and what is still to be written.
use Rattle.std.specs.Prelude.{ℕ, ◌+◌, List, ◌++◌, length, Option, Some, None}
use Rattle.byteorder.specs.Endian.{little_bytes}
use Rattle.flatbuf.specs.declared.emit.Reached.{Reached}
use Rattle.flatbuf.specs.Tree.{Nodes, Slots}
use Rattle.flatbuf.specs.Laid.{gap, distances, inline, slot_starts, laid_all, laid_slots}

-- where the inline content of a slot ends, if it is present and has this width
abbrev pub after_slot : ℕ → Option ℕ → ℕ
after_slot offset None = offset
after_slot offset (Some width) = offset + gap width offset + width

-- the distance of the slot, followed by those of the other slots
abbrev pub then_distances : ℕ → Option ℕ → Slots → List ℕ
then_distances offset None rest = little_bytes 2 0 ++ distances offset rest
then_distances offset (Some width) rest = little_bytes 2 (offset + gap width offset) ++ distances (offset + gap width offset + width) rest

-- the inline content of these slots, from what was reached on
abbrev pub to_put : ℕ → Reached → Slots → List ℕ
to_put at r slots = inline at r.offset (slot_starts r.cursor slots) slots

-- what was written, followed by what these slots or references refer to
abbrev pub then_slots : List ℕ → Slots → List ℕ
then_slots out slots = out ++ laid_slots (length out) slots

abbrev pub then_nodes : List ℕ → Nodes → List ℕ
then_nodes out nodes = out ++ laid_all (length out) nodes
