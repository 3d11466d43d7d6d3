-- The selection of a table: the rows for which all conditions hold, then the columns asked for, then the first rows.
use Rattle.std.specs.Prelude.{ℕ, ◌==◌, Bool, true, not, ◌&&◌, List, [], ◌∷◌, map, filter, take, length, slice_get, Option, Some, None, option_map, Result, Ok, Err, if◌then◌else◌}
use Rattle.std.specs.List.{filter_map, range_with_len, list_all, list_any}
use Rattle.std.specs.Option.{option_and_then}
use Rattle.arrow_schema.specs.Column.{Column}
use Rattle.cells.specs.Cell.{Cell, PlainTable}
use Rattle.query.specs.Query.{PlainQuery}
use Rattle.query.specs.Bound.{SelectionRefusal, unknown_column, place_of, Bound, bound, holds}

-- the elements at these places
abbrev pub pick : {X : Type 0} → List ℕ → List X → List X
pick places xs = filter_map (slice_get xs) places

-- all of them, if each is there
abbrev pub joined : {X : Type 0} → Option X → Option (List X) → Option (List X)
joined None rest = None
joined (Some x) rest = option_map (λ xs. x ∷ xs) rest

abbrev pub all_some : {X : Type 0} → List (Option X) → Option (List X)
all_some [] = Some []
all_some (o ∷ os) = joined o (all_some os)

abbrev pub is_distinct : List ℕ → Bool
is_distinct [] = true
is_distinct (x ∷ xs) = not (list_any (λ y. x == y) xs) && is_distinct xs

abbrev pub where_distinct : List ℕ → Option (List ℕ)
where_distinct places = if is_distinct places then Some places else None

-- the places of the columns asked for, in that order: each name is that of exactly one column, and none is asked for twice; an empty list asks for
-- all
unfoldable pub chosen : List Column → List (List ℕ) → Option (List ℕ)
chosen cs [] = Some (range_with_len 0 (length cs))
chosen cs (name ∷ names) = option_and_then where_distinct (all_some (map (place_of cs) (name ∷ names)))

-- all of them, or the first refusal
abbrev pub added : {X E : Type 0} → Result X E → Result (List X) E → Result (List X) E
added (Err e) rest = Err e
added (Ok x) (Err e) = Err e
added (Ok x) (Ok xs) = Ok (x ∷ xs)

abbrev pub all_ok : {X E : Type 0} → List (Result X E) → Result (List X) E
all_ok [] = Ok []
all_ok (r ∷ rs) = added r (all_ok rs)

abbrev pub limited : {X : Type 0} → Option ℕ → List X → List X
limited None xs = xs
limited (Some most) xs = take most xs

abbrev pub holds_all : List Bound → List Cell → Bool
holds_all bounds row = list_all (λ b. holds b row) bounds

-- the fields keep all that they have, and the schema its pairs
abbrev pub selected : List ℕ → List Bound → Option ℕ → PlainTable → PlainTable
selected places bounds most t = record {
  schema = record { columns = pick places t.schema.columns; pairs = t.schema.pairs };
  rows = limited most (map (pick places) (filter (holds_all bounds) t.rows));
}

abbrev pub selected_where : Option (List ℕ) → Result (List Bound) SelectionRefusal → Option ℕ → PlainTable → Result PlainTable SelectionRefusal
selected_where None bounds most t = Err unknown_column
selected_where (Some places) (Err e) most t = Err e
selected_where (Some places) (Ok bounds) most t = Ok (selected places bounds most t)

-- the selection, or the first refusal: the columns asked for are tested first, and then the conditions in order
unfoldable pub selection : PlainTable → PlainQuery → Result PlainTable SelectionRefusal
selection t q = selected_where (chosen t.schema.columns q.columns) (all_ok (map (bound q.dates t.schema.columns) q.conditions)) q.limit t
