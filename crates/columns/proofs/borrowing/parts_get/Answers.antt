use Rattle.std.proofs.Common.{◌≡◌, ◌<◌, ℕ, true, length, map, Some, ap, sym, ◌∙◌, arith}
use Rattle.std.specs.Prelude.{nat_lt}
use Rattle.std.proofs.lemmas.Bool.{and_parts, ltb-true}
use Rattle.std.proofs.lemmas.Option.{slice_get_past}
use Rattle.arrow_schema.specs.declared.types.Field.{Field}
use Rattle.arrow_schema.specs.Column.{columns_of}
use Rattle.arrow_schema.specs.View.{column_of}
use Rattle.columns.specs.declared.array.PlacedArray.{PlacedArray}
use Rattle.columns.specs.declared.borrowed.PartsAt.{PartsAt}
use Rattle.columns.specs.Array.{Arrays, arrays_of}
use Rattle.columns.specs.CellAt.{part_cells}
use Rattle.columns.specs.Sound.{are_sound}
use Rattle.columns.specs.Texts.{have_utf8_texts}
use Rattle.columns.specs.Borrowed.{parts_cells}
use Rattle.columns.specs.View.{array_in, arrays_in}
use Rattle.columns.proofs.Runs.{count_parts, part_there, PartAt, part_at}
use Rattle.columns.proofs.borrowing.parts_get.Goals as goal

inside : (p : PartsAt)
    → (are_sound (columns_of (map column_of p.fields.now)) p.slots (arrays_of (map (array_in p.bytes.now (arrays_in p.bytes.now p.dictionaries.now)) p.arrays.now)) ≡ true) × (p.place < p.slots)
    × (have_utf8_texts (part_cells (columns_of (map column_of p.fields.now)) (arrays_of (map (array_in p.bytes.now (arrays_in p.bytes.now p.dictionaries.now)) p.arrays.now)) p.place) ≡ true)
inside p =
    let first = and_parts (are_sound (columns_of (map column_of p.fields.now)) p.slots (arrays_of (map (array_in p.bytes.now (arrays_in p.bytes.now p.dictionaries.now)) p.arrays.now))) _ p.readable in
    let second = and_parts (nat_lt p.place p.slots) _ first.1 in
    (first.0, ltb-true _ _ second.0, second.1)

part_in : (p : PartsAt) (k : ℕ) (f : Field) (x : PlacedArray) → k < length p.fields.now
    → PartAt p.fields.now (array_in p.bytes.now (arrays_in p.bytes.now p.dictionaries.now)) p.arrays.now p.slots p.place k f x
part_in p k f x lt =
    let h = inside p in
    part_at p.fields.now (array_in p.bytes.now (arrays_in p.bytes.now p.dictionaries.now)) p.arrays.now p.slots p.place k f x h.0 h.1 h.2 lt

pub returns-then-i-parts : goal.returns-then-i-parts
returns-then-i-parts c =
    let p : PartsAt = c.args.parts.now in
    let arrays : Arrays = arrays_of (map (array_in p.bytes.now (arrays_in p.bytes.now p.dictionaries.now)) p.arrays.now) in
    sym (slice_get_past (parts_cells p) c.args.i (omega (arith, count_parts p.fields.now arrays p.place)))

pub bounds-parts-i-2 : goal.bounds-parts-i-2
bounds-parts-i-2 c =
    let p : PartsAt = c.args.parts.now in
    let h = inside p in
    part_there p.fields.now (array_in p.bytes.now (arrays_in p.bytes.now p.dictionaries.now)) p.arrays.now p.slots c.args.i h.0 (omega (arith, h.1)) (omega arith)

pub value-requires : goal.value-requires
value-requires c =
    let p : PartsAt = c.args.parts.now in
    let h = inside p in
    let part = part_in p c.args.i c.index-parts-i.result c.index-parts-i-2.result (omega arith) in
    record { sound = part.sound; within = omega (arith, part.long, h.1); texts = part.texts }

pub returns : goal.returns
returns c =
    let part = part_in c.args.parts.now c.args.i c.index-parts-i.result c.index-parts-i-2.result (omega arith) in
    ap Some c.value.ensures ∙ sym part.cell
