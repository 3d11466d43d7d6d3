-- Rows that are weighed one by one, and the lines that they are read from.
use Rattle.std.proofs.Common.{◌≡◌, ◌∙◌, ℕ, ◌+◌, List, [], ◌∷◌, ◌++◌, sym, arith}
use Rattle.std.specs.Prelude.{Option, Result, Ok}
use Rattle.arrow_schema.specs.Column.{PlainSchema}
use Rattle.cells.specs.Cell.{Cell}
use Rattle.cells.specs.Weight.{capped_weight, table_weight}
use Rattle.facts.specs.Outcomes.{Reports}
use Rattle.text_import.specs.declared.refusal.Refusal.{Refusal}
use Rattle.text_import.specs.declared.refusal.Refused.{Refused}
use Rattle.text_import.specs.Refusals.{numbered}
use Rattle.text_import.specs.Rows.{rows_from}
use Rattle.text_import.specs.laws.Behind.{behind, behind_none, row_more, row_refused, rows_end, told}

-- ---- rows

-- some rows were read, and what is left gives the others; the weight is that of the former
pub record RowsWeighed {A : Type 0} (s : PlainSchema) (read : A → Result (List Cell) Refusal) (all : Result (List (List Cell)) Refused) (n : ℕ) (left : List A) (weight : ℕ) : Type 0 where
  pub rows : List (List Cell)
  pub are_read : behind rows (rows_from read n left) ≡ all
  pub weighs : weight ≡ capped_weight (table_weight s rows)

pub none_weighed : {A : Type 0} (s : PlainSchema) (read : A → Result (List Cell) Refusal) (left : List A) → RowsWeighed s read (rows_from read 1 left) 1 left 0
none_weighed s read left = let none : capped_weight 0 ≡ 0 = omega arith in record { rows = []; are_read = behind_none (rows_from read 1 left); weighs = sym none }

pub one_weighed : {A : Type 0} (s : PlainSchema) (read : A → Result (List Cell) Refusal) (all : Result (List (List Cell)) Refused) (n : ℕ) (x : A) (left : List A) (row : List Cell) (before weight : ℕ)
    → numbered n (read x) ≡ Ok row
    → ((rows : List (List Cell)) → before ≡ capped_weight (table_weight s rows) → weight ≡ capped_weight (table_weight s (rows ++ row ∷ [])))
    → RowsWeighed s read all n (x ∷ left) before → RowsWeighed s read all (n + 1) left weight
one_weighed s read all n x left row before weight is more h = record {
  rows = h.rows ++ row ∷ [];
  are_read = sym (row_more read n h.rows x left row is) ∙ h.are_read;
  weighs = more h.rows h.weighs;
}

pub one_refused : {A : Type 0} (s : PlainSchema) (read : A → Result (List Cell) Refusal) (all : Result (List (List Cell)) Refused) (n : ℕ) (x : A) (left : List A) (before : ℕ) (o : Option Refused)
    → Reports o (numbered n (read x)) → RowsWeighed s read all n (x ∷ left) before → Reports o all
one_refused s read all n x left before o said h = told o (numbered n (read x)) all said (λ f is. sym h.are_read ∙ row_refused read n h.rows x left f is)

pub all_weighed : {A : Type 0} (s : PlainSchema) (read : A → Result (List Cell) Refusal) (all : Result (List (List Cell)) Refused) (n weight : ℕ) → RowsWeighed s read all n [] weight
    → (rows : List (List Cell)) × (all ≡ Ok rows) × (weight ≡ capped_weight (table_weight s rows))
all_weighed s read all n weight h = (h.rows, sym h.are_read ∙ rows_end read n h.rows, h.weighs)
