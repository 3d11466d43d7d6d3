use Rattle.std.proofs.Common.{◌≡◌, true, List, map, sym, ap, subst, ◌∙◌}
use Rattle.std.proofs.lemmas.Result.{IfOk-weaker}
use Rattle.arrow_schema.specs.Column.{Column, PlainSchema, columns_of}
use Rattle.arrow_schema.specs.View.{column_of}
use Rattle.values.specs.Parts.{are_parts_sound}
use Rattle.values.specs.TableView.{table_of}
use Rattle.query.specs.inner.BoundView.{bound_in}
use Rattle.query.proofs.SlotFlags.{parts_there, parts_mask}
use Rattle.query.proofs.selecting.mask_of.Goals as goal

pub mask_of-requires : goal.mask_of-requires
mask_of-requires c =
    let columns : map column_of c.deref.result.now ≡ (table_of c.args.table.now).schema.columns =
    ap (map column_of) c.deref.ensures.value ∙ ap (λ (s : PlainSchema). s.columns) c.schema-schema.ensures.schema in
    let parts = c.in-Some-Some.parts.now in
    let P : List Column → Type 0 = λ cs. are_parts_sound (columns_of cs) parts ≡ true in
    parts_there (map column_of c.deref.result.now) (bound_in c.args.bound.now) c.in-Some-Some.test c.in-Some-Some.ensures' parts (subst P (sym columns) c.in-Some-Some.ensures.sound)

pub returns-in-Some-Some : goal.returns-in-Some-Some
returns-in-Some-Some c =
    let columns : map column_of c.deref.result.now ≡ (table_of c.args.table.now).schema.columns =
    ap (map column_of) c.deref.ensures.value ∙ ap (λ (s : PlainSchema). s.columns) c.schema-schema.ensures.schema in
    IfOk-weaker c.mask_of.result _ _
    (λ mask h. parts_mask (table_of c.args.table.now) (map column_of c.deref.result.now) (bound_in c.args.bound.now) c.in-Some-Some.test c.in-Some-Some.parts.now mask.items
    c.in-Some-Some.ensures' columns c.in-Some-Some.ensures.rows h)
    c.mask_of.ensures
