use Rattle.std.proofs.Common.{ap, ◌∙◌}
use Rattle.std.specs.Prelude.{map, string_bytes}
use Rattle.store.specs.Fits.{listed_in}
use Rattle.arrowstore.proofs.NoteLemmas.{rows_listed}
use Rattle.arrowstore.proofs.notes.rows_of.Goals as goal

pub returns : goal.returns
returns g c =
    let listed = ap (map (λ t. (string_bytes t.0, t.1))) c.deref.ensures.value ∙ c.in_ok-tables.ensures.listed.1 in
    c.find_rows.ensures ∙ rows_listed c.deref.result.now (listed_in c.args.store.now) c.args.name.now listed
