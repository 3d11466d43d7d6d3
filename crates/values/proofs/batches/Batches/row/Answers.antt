use Rattle.std.proofs.Common.{◌∙◌, Some, ap, sym, arith}
use Rattle.cells.specs.laws.Cells.{cells_list}
use Rattle.columns.specs.View.{fields_of}
use Rattle.values.proofs.PartLemmas.{row_in_parts, many_parts}
use Rattle.values.proofs.batches.Batches.row.Goals as goal

pub part_start-requires : goal.part_start-requires
part_start-requires c = omega (arith, c.requires.there.in_part.there, many_parts c.args.self.now.parts.items)

pub batch_start-requires-clause-in_parts : goal.batch_start-requires-clause-in_parts
batch_start-requires-clause-in_parts c = omega (arith, c.requires.there.in_part.there, many_parts c.args.self.now.parts.items)

pub row-requires-clause-within : goal.row-requires-clause-within
row-requires-clause-within c =
    let found = row_in_parts (fields_of c.args.fields.now) c.args.self.now.parts.items c.args.place.part c.args.place.batch c.args.row c.index-part.result.now c.index-batch.result.now c.requires.there c.index-part.ensures c.index-batch.ensures in
    rw (c.part_start.ensures, c.batch_start.ensures) found.2

pub row-requires-clause-texts : goal.row-requires-clause-texts
row-requires-clause-texts c =
    let found = row_in_parts (fields_of c.args.fields.now) c.args.self.now.parts.items c.args.place.part c.args.place.batch c.args.row c.index-part.result.now c.index-batch.result.now c.requires.there c.index-part.ensures c.index-batch.ensures in
    let texts = rw cells_list at (c.requires.texts _ found.0) in
    rw (c.deref.ensures.value, c.deref-2.ensures.value, c.deref-3.ensures.value, c.part_start.ensures, c.batch_start.ensures) texts

pub returns : goal.returns
returns c =
    let found = row_in_parts (fields_of c.args.fields.now) c.args.self.now.parts.items c.args.place.part c.args.place.batch c.args.row c.index-part.result.now c.index-batch.result.now c.requires.there c.index-part.ensures c.index-batch.ensures in
    let row = rw (c.deref.ensures.value, c.deref-2.ensures.value, c.deref-3.ensures.value, c.part_start.ensures, c.batch_start.ensures) at c.row.ensures in
    ap Some row ∙ sym found.0
