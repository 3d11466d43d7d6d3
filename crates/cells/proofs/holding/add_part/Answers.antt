use Rattle.std.proofs.Common.{◌∷◌, [], sym, append-nil}
use Rattle.std.proofs.lemmas.List.{map-append}
use Rattle.cells.specs.View.{cell_behind}
use Rattle.cells.proofs.CellLemmas.{part_found, part_absent}
use Rattle.cells.proofs.holding.add_part.Goals as goal

pub returns-in_ok-push : goal.returns-in_ok-push
returns-in_ok-push c =
    let p = part_found c.args.row.now c.args.i c.in-Some.value.now c.in-Some.ensures.lookup.3.0 (sym (c.in-Some.ensures.lookup.3.1 _)) in
    rw (c.in_ok-push.ensures.items, p) (map-append cell_behind c.args.cells.now.items (c.in-Some.value ∷ []))

pub returns-in_default : goal.returns-in_default
returns-in_default c = rw (part_absent c.args.row.now c.args.i c.in_default.ensures.lookup.3) (sym (append-nil _))
