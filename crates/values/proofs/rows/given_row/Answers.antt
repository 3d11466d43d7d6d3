use Rattle.std.proofs.Common.{List, map, length, ap, sym, ◌∙◌, refl}
use Rattle.std.specs.Prelude.{Some, option_map}
use Rattle.std.proofs.lemmas.Option.{slice_get-map, slice_get_read}
use Rattle.cells.specs.declared.row.Row.{Row}
use Rattle.cells.specs.declared.value.Value.{Value}
use Rattle.cells.specs.Row.{row_of}
use Rattle.cells.specs.View.{cell}
use Rattle.values.proofs.rows.given_row.Goals as goal

pub returns : goal.returns
returns c =
    let there = slice_get_read c.args.rows.now (length c.args.rows.now) c.args.i c.index-rows-i.result refl c.requires c.index-rows-i.is in
    let own = c.deref.ensures.value ∙ ap (λ (row : Row). row.cells.items) (sym c.index-rows-i.is) in
    ap (λ (values : List Value). Some (map cell values)) own ∙ sym (slice_get-map row_of c.args.rows.now c.args.i ∙ ap (option_map row_of) there)
