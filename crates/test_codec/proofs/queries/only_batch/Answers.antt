use Rattle.std.specs.Prelude.{Bool, ◌&&◌}
use Rattle.std.specs.List.{list_all}
use Rattle.std.proofs.Common.{◌≡◌, ℕ, List, [], ◌∷◌, ap, sym, ◌∙◌}
use Rattle.arrow_schema.specs.Column.{Columns, columns_of}
use Rattle.columns.specs.CellAt.{rows_in}
use Rattle.columns.specs.Sound.{are_sound}
use Rattle.columns.specs.View.{placed_arrays}
use Rattle.columns.specs.declared.array.Dictionary.{Dictionary}
use Rattle.columns.specs.declared.array.PlacedArray.{PlacedArray}
use Rattle.query.specs.BatchArrays.{has_texts}
use Rattle.values.specs.TableView.{table_of}
use Rattle.values.specs.declared.table_part.Batch.{Batch}
use Rattle.values.specs.declared.table_part.TablePart.{TablePart}
use Rattle.test_codec.proofs.OnlyBatch.{only_item, only_batch_is_readable}
use Rattle.test_codec.proofs.queries.only_batch.Goals as goal

pub returns : goal.returns
returns c =
    let t = table_of c.args.table.now in
    let columns : Columns = columns_of t.schema.columns in
    let parts : List TablePart = c.in-Some-len1.field-0.now in
    let p : TablePart = c.part-item.result in
    let b : Batch = c.batch-item.result in
    let readable : List PlacedArray → List ℕ → List Dictionary → Bool =
    λ arrays bytes all. let own = placed_arrays bytes all arrays in are_sound columns b.rows own && list_all has_texts (rows_in columns own b.rows) in
    let one : parts ≡ p ∷ [] = only_item parts p c.in-Some-len1.len_at_least c.in-Some-len1.len_below c.part-item.is in
    let batches : p.batches.items ≡ b ∷ [] =
    sym c.as_slice.ensures.value ∙ only_item c.as_slice.result.now b c.in-len1.len_at_least c.in-len1.len_below c.batch-item.is in
    ap (λ (arrays : List PlacedArray). readable arrays c.deref-2.result.now c.deref-3.result.now) c.deref.ensures.value
    ∙ ap (λ (bytes : List ℕ). readable b.arrays.items bytes c.deref-3.result.now) c.deref-2.ensures.value
    ∙ ap (λ (all : List Dictionary). readable b.arrays.items p.bytes.items all) c.deref-3.ensures.value
    ∙ only_batch_is_readable t parts p b c.schema-schema.ensures.kept c.in-Some-len1.ensures.rows c.in-Some-len1.ensures.sound one batches
