use Rattle.std.specs.Prelude.{OnOk}
use Rattle.std.proofs.Common.{◌≡◌, ◌++◌, ℕ, List, map, subst}
use Rattle.arrow_schema.specs.View.{column_of}
use Rattle.columns.specs.Borrowed.{borrowed_cells}
use Rattle.query.proofs.SlotLines.{dated_line}
use Rattle.query.proofs.object_line.push_line_in.Goals as goal

pub returns-in-Iso : goal.returns-in-Iso
returns-in-Iso c =
    let P : List ℕ → Type 0 = λ line. OnOk c.push_dated_row.result (c.push_dated_row.new.out.items ≡ c.args.text.now.items ++ line) in
    rw c.in-Iso.is (subst P (dated_line c.args.form.shape (map column_of c.args.fields.now) (borrowed_cells c.args.row)) c.push_dated_row.ensures)
