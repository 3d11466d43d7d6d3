use Rattle.std.proofs.Common.{◌≡◌, ◌∙◌, sym, true}
use Rattle.std.specs.Prelude.{bytes_eq}
use Rattle.text_columns.proofs.LineRows.{stands}
use Rattle.text_columns.proofs.members.stands_at.Goals as goal

pub returns-in-Some : goal.returns-in-Some
returns-in-Some c = λ same.
    let equal : bytes_eq c.in-Some.found.now.items c.args.name.now ≡ true = rw (c.as_slice.ensures.value, c.as_bytes.ensures.value) at (sym c.eq.ensures ∙ same) in
    stands c.args.names.now.keys c.args.at c.in-Some.found.now c.args.name.now (sym c.in-Some.ensures.key) equal
