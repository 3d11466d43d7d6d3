-- What runs of rows weigh.
use Rattle.std.specs.List.{range_with_len}
use Rattle.std.proofs.Common.{◌≡◌, ℕ, ◌+◌, ◌<◌, ◌≤◌, true, List, [], map, take, refl, sym, ap, subst, ◌∙◌, arith}
use Rattle.std.proofs.lemmas.List.FromFn.{take-map-range_with_len, sum_by-map-range_with_len_more}
use Rattle.std.proofs.lemmas.List.Sums.{sum_by-cons}
use Rattle.arrow_schema.specs.Column.{PlainSchema, columns_of}
use Rattle.arrow_schema.specs.declared.types.Field.{Field}
use Rattle.cells.specs.Cell.{Cell}
use Rattle.cells.specs.Weight.{row_weight, table_weight}
use Rattle.columns.specs.Array.{Arrays}
use Rattle.columns.specs.CellAt.{row_at}
use Rattle.columns.specs.Sound.{are_sound}
use Rattle.columns.specs.View.{fields_of}
use Rattle.columns.specs.laws.Rows.{fewer_sound}

-- n rows of the arrays of a schema's columns
abbrev span : PlainSchema → Arrays → (from n : ℕ) → List (List Cell)
span s arrays from n = map (row_at (columns_of s.columns) arrays) (range_with_len from n)

pub sound_front : (fields own : List Field) (arrays : Arrays) (slots fewer : ℕ) → fields ≡ own → are_sound (fields_of own) slots arrays ≡ true → fewer ≤ slots → are_sound (fields_of fields) fewer arrays ≡ true
sound_front fields own arrays slots fewer same h le = subst (λ (fs : List Field). are_sound (fields_of fs) fewer arrays ≡ true) (sym same) (fewer_sound (fields_of own) arrays slots fewer h le)

pub one_weighs : (s : PlainSchema) (arrays : Arrays) (i : ℕ) → table_weight s (span s arrays i 1) ≡ row_weight s (row_at (columns_of s.columns) arrays i)
one_weighs s arrays i =
    let one = sum_by-cons (row_weight s) (row_at (columns_of s.columns) arrays i) [] in
    omega (arith, one)

-- the first rows of a span, and one more
pub next_weighs : (s : PlainSchema) (arrays : Arrays) (from n i : ℕ) → i < n
    → table_weight s (take (i + 1) (span s arrays from n)) ≡ table_weight s (take i (span s arrays from n)) + row_weight s (row_at (columns_of s.columns) arrays (from + i))
next_weighs s arrays from n i lt =
    let f : ℕ → List Cell = row_at (columns_of s.columns) arrays in
    ap (table_weight s) (take-map-range_with_len f from n (i + 1) (omega arith))
    ∙ sum_by-map-range_with_len_more (row_weight s) f from i (from + i) refl
    ∙ ap (λ (w : ℕ). w + row_weight s (f (from + i))) (ap (table_weight s) (sym (take-map-range_with_len f from n i (omega arith))))
