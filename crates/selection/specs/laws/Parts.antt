-- What is printed and selected of parts of a table, one after another.
use Rattle.std.proofs.Common.{◌≡◌, ℕ, List, [], ◌++◌, length, sym, ap, ◌∙◌, append_assoc}
use Rattle.std.proofs.lemmas.List.{append-nil}
use Rattle.cells.specs.Cell.{Cell}
use Rattle.query.specs.BoundQuery.{PlainBoundQuery, rows_selected, limit_after, query_after}
use Rattle.query.specs.ObjectLine.{lines_text}
use Rattle.query.specs.laws.Limits.{rows_selected_both, query_after_both, limit_counted, none_selected, query_after_none}
use Rattle.query.specs.laws.Lines.{lines_append}
use Rattle.selection.specs.LinePrinter.{PlainPrinter, printed_lines, printer_after}
use Rattle.selection.specs.SelectionBuilder.{PlainBuilder, builder_after}

-- of the rows of two parts
pub lines_of_both : (p : PlainPrinter) (xs ys : List (List Cell)) → printed_lines p (xs ++ ys) ≡ printed_lines p xs ++ printed_lines (printer_after p xs) ys
lines_of_both p xs ys =
    ap (lines_text p.form p.columns) (rows_selected_both p.query xs ys) ∙ lines_append p.form p.columns (rows_selected p.query xs) (rows_selected (query_after p.query xs) ys)

pub after_both : (p : PlainPrinter) (xs ys : List (List Cell)) → printer_after (printer_after p xs) ys ≡ printer_after p (xs ++ ys)
after_both p xs ys = let whole : PlainBoundQuery → PlainPrinter = λ q. record { form = p.form; columns = p.columns; query = q } in ap whole (query_after_both p.query xs ys)

-- of no part
pub lines_of_none : (p : PlainPrinter) → printed_lines p [] ≡ []
lines_of_none p = ap (lines_text p.form p.columns) (none_selected p.query)

pub after_none : (p : PlainPrinter) → printer_after p [] ≡ p
after_none p = let whole : PlainBoundQuery → PlainPrinter = λ q. record { form = p.form; columns = p.columns; query = q } in ap whole (query_after_none p.query)

-- of a part more
pub part_printed : (p q r : PlainPrinter) (front own : List (List Cell)) (before old new : List ℕ) → old ≡ before ++ printed_lines p front → q ≡ printer_after p front → new ≡ old ++ printed_lines q own
    → r ≡ printer_after q own → (new ≡ before ++ printed_lines p (front ++ own)) × (r ≡ printer_after p (front ++ own))
part_printed p q r front own before old new so at added moved = (
  added
      ∙ (λ k. so k ++ printed_lines (at k) own)
      ∙ append_assoc before (printed_lines p front) (printed_lines (printer_after p front) own)
      ∙ ap (λ (lines : List ℕ). before ++ lines) (sym (lines_of_both p front own)),
  moved ∙ ap (λ (x : PlainPrinter). printer_after x own) at ∙ after_both p front own,
)

-- ---- what is selected of them

pub built_both : (b : PlainBuilder) (xs ys : List (List Cell)) → builder_after (builder_after b xs) ys ≡ builder_after b (xs ++ ys)
built_both b xs ys =
    let rows : (builder_after (builder_after b xs) ys).rows ≡ (builder_after b (xs ++ ys)).rows =
    append_assoc b.rows (rows_selected b.query xs) (rows_selected (query_after b.query xs) ys) ∙ ap (λ (zs : List (List Cell)). b.rows ++ zs) (sym (rows_selected_both b.query xs ys)) in
    λ k. record { schema = b.schema; rows = rows k; query = query_after_both b.query xs ys k }

-- where nothing is selected
pub nothing_built : (b : PlainBuilder) (rows : List (List Cell)) → rows_selected b.query rows ≡ [] → builder_after b rows ≡ b
nothing_built b rows none =
    let q = b.query in
    let left : (query_after q rows).limit ≡ q.limit =
    sym (limit_counted q rows) ∙ ap (λ (xs : List (List Cell)). limit_after q.limit (length xs)) none ∙ ap (λ (x : PlainBoundQuery). x.limit) (query_after_none q) in
    let more : b.rows ++ rows_selected q rows ≡ b.rows = ap (λ (xs : List (List Cell)). b.rows ++ xs) none ∙ append-nil b.rows in
    λ k. record { schema = b.schema; rows = more k; query = record { places = q.places; bounds = q.bounds; limit = left k } }

pub built_none : (b : PlainBuilder) → builder_after b [] ≡ b
built_none b = nothing_built b [] (none_selected b.query)
