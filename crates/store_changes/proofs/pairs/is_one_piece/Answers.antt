use Rattle.std.specs.Prelude.{nat_eq}
use Rattle.std.proofs.Common.{◌≡◌, ◌≤◌, ◌+◌, ◌∷◌, ◌∙◌, ℕ, length, drop, map, subst, arith}
use Rattle.arrow_schema.specs.Column.{PlainSchema}
use Rattle.table_cut.specs.Cut.{pieces}
use Rattle.table_cut.specs.Piece.{within_piece}
use Rattle.columns.specs.Borrowed.{borrowed_cells}
use Rattle.values.specs.TableView.{table_of}
use Rattle.store_runs.specs.Compacting.{is_one_piece}
use Rattle.store_changes.proofs.StepFound.{one_is}
use Rattle.store_changes.proofs.pairs.is_one_piece.Goals as goal

pub returns : goal.returns
returns c =
    let t = table_of c.args.table.now in
    let piece = c.in_ok-piece.piece in
    let number : 0 + length piece.items ≡ length piece.items = omega arith in
    let first = subst (λ (s : PlainSchema). pieces (within_piece s) t.rows ≡ map borrowed_cells piece.items ∷ pieces (within_piece s) (drop (0 + length piece.items) t.rows)) c.schema.ensures.schema c.in_ok-piece.ensures.piece in
    let cut = subst (λ (n : ℕ). pieces (within_piece t.schema) t.rows ≡ map borrowed_cells piece.items ∷ pieces (within_piece t.schema) (drop n t.rows)) number first in
    let within = c.in_ok-piece.ensures.within in
    let few : length piece.items ≤ length t.rows = omega (arith, within) in
    let one = one_is (within_piece t.schema) t.rows (map borrowed_cells piece.items) (length piece.items) cut few in
    let taken : c.len.result ≡ length piece.items = omega (arith, c.len.ensures, piece.ok.0) in
    let all : c.len-2.result ≡ length t.rows = omega (arith, c.len-2.ensures) in
    let is : nat_eq c.len.result c.len-2.result ≡ is_one_piece t = (λ i. nat_eq (taken i) (all i)) ∙ one in
    is
