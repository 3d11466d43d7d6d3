-- The lines of rows.
use Rattle.std.specs.Prelude.{codes}
use Rattle.std.proofs.Common.{◌≡◌, ℕ, ◌+◌, ◌-◌, ◌≤◌, List, [], ◌∷◌, ◌++◌, length, refl, sym, ap, ◌∙◌, append_assoc, arith, length-append}
use Rattle.std.proofs.lemmas.List.{append-nil}
use Rattle.arrow_schema.specs.Column.{Column}
use Rattle.cells.specs.Cell.{Cell}
use Rattle.query.specs.ObjectLine.{line_in, lines_text}
use Rattle.query.specs.declared.row_form.RowForm.{RowForm}

-- those of rows and of more rows
pub lines_append : (form : RowForm) (cs : List Column) (xs ys : List (List Cell)) → lines_text form cs (xs ++ ys) ≡ lines_text form cs xs ++ lines_text form cs ys
lines_append form cs [] ys = refl
lines_append form cs (x ∷ xs) ys =
    ap (λ (t : List ℕ). line_in form cs x ++ codes "\n" ++ t) (lines_append form cs xs ys)
    ∙ sym (append_assoc (line_in form cs x ++ codes "\n") (lines_text form cs xs) (lines_text form cs ys))

-- what is printed where these are the rows so far, and there may be `most`
pub record ArePrinted (form : RowForm) (cs : List Column) (most : ℕ) (rows : List (List Cell)) (old new : List ℕ) (left : ℕ) : Type 0 where
  pub room : left + length rows ≡ most
  pub text : new ≡ old ++ lines_text form cs rows

pub none_printed : (form : RowForm) (cs : List Column) (most : ℕ) (rows : List (List Cell)) (out : List ℕ) → [] ≡ rows → ArePrinted form cs most rows out out most
none_printed form cs most rows out none = record {
  room = omega (arith, ap (λ (xs : List (List Cell)). length xs) none);
  text = sym (append-nil out) ∙ ap (λ (xs : List (List Cell)). out ++ lines_text form cs xs) none;
}

pub more_printed : (form : RowForm) (cs : List Column) (most : ℕ) (rows more whole : List (List Cell)) (old out new : List ℕ) (left n : ℕ) → whole ≡ rows ++ more → n ≡ length more → n ≤ left
    → ArePrinted form cs most rows old out left → new ≡ out ++ lines_text form cs more → ArePrinted form cs most whole old new (left - n)
more_printed form cs most rows more whole old out new left n is count few h added = record {
  room = omega (arith, h.room, few, count, ap (λ (xs : List (List Cell)). length xs) is, length-append rows more);
  text = added
      ∙ ap (λ (t : List ℕ). t ++ lines_text form cs more) h.text
      ∙ append_assoc old (lines_text form cs rows) (lines_text form cs more)
      ∙ ap (λ (t : List ℕ). old ++ t) (sym (lines_append form cs rows more))
      ∙ ap (λ (xs : List (List Cell)). old ++ lines_text form cs xs) (sym is);
}
