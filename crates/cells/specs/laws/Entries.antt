-- Entries are added one by one, and there are never more than cells.
use Rattle.std.proofs.Common.{◌≡◌, ◌+◌, ◌≤◌, Bool, true, false, List, [], ◌∷◌, ◌++◌, length, refl, arith, length-append}
use Rattle.std.specs.Prelude.{if◌then◌else◌, Option, Some, None}
use Rattle.std.specs.List.{list_any}
use Rattle.arrow_schema.specs.Column.{Kind, lists, large_lists, fixed_lists, structs}
use Rattle.arrow_schema.specs.Limits.{is_nested}
use Rattle.cells.specs.Cell.{Cell}
use Rattle.cells.specs.Dictionary.{is_entry, entry_in, with_option, with_entry, with_entries, holdings, holdings_below}

length-cond : (b : Bool) (es : List Cell) (c : Cell) → (length es ≤ length (if b then es else es ++ c ∷ [])) × (length (if b then es else es ++ c ∷ []) ≤ length es + 1)
length-cond true es c = (omega arith, omega arith)
length-cond false es c = (omega (arith, length-append es (c ∷ [])), omega (arith, length-append es (c ∷ [])))

length-with_option : (es : List Cell) (o : Option Cell) → (length es ≤ length (with_option es o)) × (length (with_option es o) ≤ length es + 1)
length-with_option es None = (omega arith, omega arith)
length-with_option es (Some c) = length-cond (list_any (is_entry c) es) es c

-- entries are never removed
pub entries_grow : (es cs : List Cell) → length es ≤ length (with_entries es cs)
unfolding with_entries
entries_grow es [] = omega arith
entries_grow es (c ∷ cs) = omega (arith, (length-with_option es (entry_in c)).0, entries_grow (with_entry es c) cs)

-- each cell adds at most one entry
pub entries_few : (es cs : List Cell) → length (with_entries es cs) ≤ length es + length cs
unfolding with_entries
entries_few es [] = omega arith
entries_few es (c ∷ cs) = omega (arith, (length-with_option es (entry_in c)).1, entries_few (with_entry es c) cs)

-- the entries of some cells and then of others
pub entries_append : (es xs ys : List Cell) → with_entries es (xs ++ ys) ≡ with_entries (with_entries es xs) ys
unfolding with_entries
entries_append es [] ys = refl
entries_append es (c ∷ xs) ys = entries_append (with_entry es c) xs ys

-- a type without children has no dictionary below it
pub none_below : (k : Kind) (cells : List Cell) → is_nested k ≡ false → holdings_below k cells ≡ []
unfolding holdings
none_below (lists item) cells flat = cc
none_below (large_lists item) cells flat = cc
none_below (fixed_lists size item) cells flat = cc
none_below (structs columns) cells flat = cc
none_below _ cells flat = refl
