use Rattle.std.proofs.Common.{◌≡◌, ◌+◌, map, drop}
use Rattle.std.specs.Vec.{vec_len}
use Rattle.std.specs.Prelude.{not}
use Rattle.std.specs.List.{filter}
use Rattle.facts.specs.Texts.{text_list}
use Rattle.arrow_schema.specs.View.{schema_of}
use Rattle.cells.specs.Row.{row_of}
use Rattle.text_import.specs.Rows.{rows_from}
use Rattle.text_import.specs.Objects.{is_blank, line_row}
use Rattle.text_import.specs.laws.Behind.{behind}
use Rattle.text_import.proofs.jsonl.line_rows.Given as goal

abbrev pub invariant-loop-line : goal.invariant-loop-line
invariant-loop-line l =
    behind (map row_of l.rows.items)
    (rows_from (line_row l.date_form (schema_of l.schema)) (vec_len l.rows + 1) (filter (λ line. not (is_blank line)) (text_list (drop l.line-index l.lines))))
    ≡ rows_from (line_row l.date_form (schema_of l.schema)) 1 (filter (λ line. not (is_blank line)) (text_list l.lines))
