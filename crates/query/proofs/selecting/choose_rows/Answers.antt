use Rattle.std.proofs.Common.{Bool, List, map, subst, ap, ◌∙◌}
use Rattle.std.proofs.lemmas.List.{length-map}
use Rattle.std.proofs.lemmas.Result.{IfOk-weaker}
use Rattle.bitmap.specs.Bits.{bytes_of}
use Rattle.cells.specs.Cell.{Cell}
use Rattle.values.specs.TableView.{table_of}
use Rattle.query.specs.Selection.{pick, holds_all}
use Rattle.query.specs.inner.BoundView.{bound_in}
use Rattle.query.specs.inner.Masks.{IsMask}
use Rattle.query.proofs.Keeping.{set_rows_are}
use Rattle.query.proofs.selecting.choose_rows.Goals as goal

pub returns-clause-rows : goal.returns-clause-rows
returns-clause-rows c =
    let rows = (table_of c.args.table.now).rows in
    let p : List Cell → Bool = holds_all (map bound_in c.args.query.now.bounds.items) in
    IfOk-weaker c.mask_of_all.result _ _
    (λ mask is places. set_rows_are mask.items p (pick places) rows (subst (λ bounds. IsMask mask.items (map (holds_all (map bound_in bounds)) rows)) c.deref.ensures.value is))
    c.mask_of_all.ensures

pub returns-clause-bits : goal.returns-clause-bits
returns-clause-bits c =
    let rows = (table_of c.args.table.now).rows in
    IfOk-weaker c.mask_of_all.result _ _
    (λ mask is. (subst (λ bounds. IsMask mask.items (map (holds_all (map bound_in bounds)) rows)) c.deref.ensures.value is).each) c.mask_of_all.ensures

pub returns-clause-size : goal.returns-clause-size
returns-clause-size c =
    let rows = (table_of c.args.table.now).rows in
    let p : List Cell → Bool = holds_all (map bound_in c.deref.result.now) in
    IfOk-weaker c.mask_of_all.result _ _ (λ mask is. is.size ∙ ap bytes_of (length-map rows p)) c.mask_of_all.ensures
