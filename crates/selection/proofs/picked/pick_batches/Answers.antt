use Rattle.std.specs.List.{list_all}
use Rattle.std.proofs.Common.{◌∙◌, ◌++◌, List, map, take, sym, ap}
use Rattle.std.proofs.lemmas.List.{map-append}
use Rattle.facts.specs.laws.Lists.{flat_map-item, all_with_item}
use Rattle.arrow_schema.specs.Column.{Columns}
use Rattle.columns.specs.View.{fields_of}
use Rattle.query.specs.Selection.{pick}
use Rattle.values.specs.Parts.{part_rows, parts_rows, is_batch_sound}
use Rattle.values.specs.declared.table_part.TablePart.{TablePart}
use Rattle.selection.proofs.picked.pick_batches.Goals as goal

pub loop-part-preserved : goal.loop-part-preserved
loop-part-preserved c =
    let fields : Columns = fields_of c.args.fields.now in
    let parts : List TablePart = c.args.parts.now in
    let i = c.loop-part.part-index in
    let part : TablePart = c.part-item.result in
    let more = ap (map (pick c.args.places.now)) (flat_map-item (part_rows fields) parts i part c.loop-part-test.true c.part-item.is)
    ∙ map-append (pick c.args.places.now) (parts_rows fields (take i parts)) (part_rows fields part) in
    record {
      rows = c.in_ok-pick_part.ensures.rows ∙ (λ j. c.loop-part.invariant.rows j ++ map (pick c.args.places.now) (part_rows fields part)) ∙ sym more;
      sound = λ all.
          let both = all_with_item (λ (p : TablePart). list_all (is_batch_sound fields p) p.batches.items) parts i part c.loop-part-test.true c.part-item.is all in
          c.in_ok-pick_part.ensures.sound (c.loop-part.invariant.sound both.0) both.1;
    }
