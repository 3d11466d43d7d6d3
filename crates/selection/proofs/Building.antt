-- The selection of a part more.
use Rattle.std.specs.Prelude.{Option, Some, None}
use Rattle.std.proofs.Common.{◌≡◌, ◌-◌, ◌≤◌, ℕ, List, [], ◌++◌, map, length, take, drop, sym, ap, subst, ◌∙◌, arith}
use Rattle.std.proofs.lemmas.Grind.{flat_map-append}
use Rattle.std.proofs.lemmas.List.{append-nil, take-take, take-append-drop}
use Rattle.arrow_schema.specs.Column.{PlainSchema, columns_of}
use Rattle.cells.specs.Cell.{Cell, PlainTable}
use Rattle.query.specs.BoundQuery.{rows_held, rows_selected, limit_after, query_after}
use Rattle.query.specs.Selection.{pick, limited}
use Rattle.query.specs.laws.Limits.{limit_counted}
use Rattle.selection.specs.SelectionBuilder.{PlainBuilder, builder_after, SelectsOf}
use Rattle.values.specs.Parts.{part_rows, parts_rows, parts_table}
use Rattle.values.specs.Table.{IsTable}
use Rattle.values.specs.declared.table_part.TablePart.{TablePart}

-- what a lower limit allows comes first
lower_first : {X : Type 0} (limit : Option ℕ) (n : ℕ) (xs : List X) → (rest : List X) × (limited limit xs ≡ limited (limit_after limit n) xs ++ rest)
lower_first None n xs = ([], sym (append-nil xs))
lower_first {X = X} (Some most) n xs =
    let all = take most xs in
    let rest = drop (most - n) all in
    let less : most - n ≤ most = omega arith in
    (rest, sym (take-append-drop (most - n) all) ∙ ap (λ (ys : List X). ys ++ rest) (take-take (most - n) most xs less))

-- the first rows of a table are one
abbrev pub AreCut : Type 0
AreCut = (s : PlainSchema) (a b : List (List Cell)) → IsTable (record { schema = s; rows = a ++ b }) → IsTable (record { schema = s; rows = a }) × IsTable (record { schema = s; rows = b })

-- what is selected after some rows is a table too
pub selects_after : AreCut → (b : PlainBuilder) (s : PlainSchema) (front : List (List Cell)) → SelectsOf b s → SelectsOf (builder_after b front) s
selects_after cut b s front is = record {
  schema = is.schema;
  tables = λ rows kept.
      let less = lower_first b.query.limit (length (rows_held b.query front)) (map (pick b.query.places) (rows_held b.query rows)) in
      let P : List (List Cell) → Type 0 = λ xs. IsTable (record { schema = b.schema; rows = xs }) in
      (cut b.schema (rows_selected (query_after b.query front) rows) less.0 (subst P less.1 (is.tables rows kept))).0;
}

-- the builder after a part more
pub part_built : (b : PlainBuilder) (rows own all : List (List Cell)) (limit : Option ℕ) (n : ℕ) → own ≡ rows_selected b.query rows → all ≡ b.rows ++ own → limit ≡ limit_after b.query.limit n
    → n ≡ length own → record { schema = b.schema; rows = all; query = record { places = b.query.places; bounds = b.query.bounds; limit = limit } } ≡ builder_after b rows
part_built b rows own all limit n are joined left count =
    let more = joined ∙ ap (λ (xs : List (List Cell)). b.rows ++ xs) are in
    let most = left ∙ ap (limit_after b.query.limit) (count ∙ ap length are) ∙ limit_counted b.query rows in
    λ k. record { schema = b.schema; rows = more k; query = record { places = b.query.places; bounds = b.query.bounds; limit = most k } }

-- the rows of a part more
pub more_rows : (s : PlainSchema) (a b all : List TablePart) (t : PlainTable) → t.schema ≡ s → t ≡ parts_table t.schema b → all ≡ a ++ b
    → parts_rows (columns_of s.columns) all ≡ parts_rows (columns_of s.columns) a ++ t.rows
more_rows s a b all t same is joined =
    ap (parts_rows (columns_of s.columns)) joined
    ∙ flat_map-append (part_rows (columns_of s.columns)) a b
    ∙ ap (λ (rows : List (List Cell)). parts_rows (columns_of s.columns) a ++ rows) (sym (ap (λ (x : PlainTable). x.rows) is ∙ ap (λ (x : PlainSchema). parts_rows (columns_of x.columns) b) same))
