use Rattle.std.proofs.Common.{◌≤◌, List, length, sym, ap, ◌∙◌}
use Rattle.std.proofs.lemmas.List.{drop_all}
use Rattle.columns.specs.declared.array.PlacedArray.{PlacedArray}
use Rattle.columns.specs.Array.{first_array}
use Rattle.columns.specs.View.{placed_arrays}
use Rattle.columns.proofs.view.array_or.Goals as goal

pub returns-in-None : goal.returns-in-None
returns-in-None c = λ bytes all.
    let past : length c.args.arrays.now ≤ c.args.i = c.in-None.ensures.lookup.3 in
    c.requires bytes all ∙ sym (ap (λ (xs : List PlacedArray). first_array (placed_arrays bytes all xs)) (drop_all c.args.i c.args.arrays.now past))
