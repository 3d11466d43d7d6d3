-- The weight of the rows of a text.
use Rattle.std.specs.Prelude.{◌≡◌, ℕ, List, Result, Ok, Err}
use Rattle.arrow_schema.specs.Column.{PlainSchema}
use Rattle.cells.specs.Cell.{Cell}
use Rattle.cells.specs.Weight.{capped_weight, table_weight}
use Rattle.facts.specs.Outcomes.{Reports}
use Rattle.text_import.specs.declared.refusal.Refused.{Refused}
use Rattle.text_import.specs.declared.refusal.TextError.{TextError}
use Rattle.text_import.specs.Refusals.{refused_by}

-- the weight of the rows, capped, or their refusal
abbrev pub Weighs : PlainSchema → Result (List (List Cell)) Refused → Result ℕ TextError → Type 0
Weighs s read (Ok w) = (rows : List (List Cell)) × (read ≡ Ok rows) × (w ≡ capped_weight (table_weight s rows))
Weighs s read (Err e) = Reports (refused_by e) read
