-- Which text is taken for a column.
use Rattle.std.proofs.Common.{◌≡◌, ◌↔◌, ◌<◌, ◌≢◌, ℕ, zero, suc, Bool, true, false, inl, inr, List, [], ◌∷◌, length, get_or, refl, sym, ap, ◌∙◌, subst, arith, IsTrue}
use Rattle.std.specs.Prelude.{Ok, Err, Result}
use Rattle.arrow_schema.specs.Column.{Column}
use Rattle.arrow_schema.specs.Limits.{IsWithinLimits}
use Rattle.field_texts.specs.declared.parse.ParseError.{ParseError}
use Rattle.field_texts.specs.declared.parse.ParseError.TheVariants.{BadText, Limit, OutOfMemory}
use Rattle.field_texts.specs.FieldText.{plain, field_text}
use Rattle.field_texts.specs.Typed.{IsTextOf, IsFieldText}
use Rattle.field_texts.specs.Reported.{AreTextsOf, IsReported, IsFirstRefused, IsTakenFor, schema_with}
use Rattle.field_texts.proofs.Parsing.{one_column}

first_is : (text : List ℕ) (i : ℕ) → i < 1 → get_or (text ∷ []) i [] ≡ text
first_is text zero h = refl
first_is text (suc i) h = absurd (omega arith)

-- a text that is taken is not refused
not_refused : (text : List ℕ) (c : Column) (i : ℕ) → IsFirstRefused (text ∷ []) i → ¬ IsTakenFor text c
not_refused text c i first taken = first.refused (subst (λ (t : List ℕ). IsFieldText true t) (sym (first_is text i first.among)) (c, taken.0.0))

-- the columns of a text that is taken for one are that one
only : (text : List ℕ) (c : Column) (found : List Column) → IsTakenFor text c → AreTextsOf (text ∷ []) found → found ≡ c ∷ []
only text c [] taken of = absurd of
only text c (d ∷ []) taken of = ap (λ (x : Column). x ∷ []) (one_column text d c of.0 taken.0.0)
only text c (d ∷ e ∷ more) taken of = absurd of.1

-- what is read of a text alone decides whether it is taken for a column
pub taken_if_same : (text : List ℕ) (c : Column) (found : List Column) → IsReported (text ∷ []) (Ok found) → (found ≡ c ∷ []) ↔ IsTakenFor text c
taken_if_same text c found is = (
  (λ same. subst (λ (x : List Column). IsReported (text ∷ []) (Ok x)) same is),
  (λ taken. only text c found taken is.0),
)

pub not_taken : (text : List ℕ) (c : Column) (error : ParseError) → error ≢ OutOfMemory → IsReported (text ∷ []) (Err error) → ¬ IsTakenFor text c
not_taken text c (BadText number) other is taken = not_refused text c is.index is.first taken
not_taken text c Limit other (inl is) taken = not_refused text c is.index is.first taken
not_taken text c Limit other (inr is) taken =
    is.past (subst (λ (found : List Column). IsWithinLimits (schema_with found)) (sym (only text c is.columns taken is.texts_of)) taken.1)
not_taken text c OutOfMemory other is taken = absurd (other refl)

pub no_other : (text other : List ℕ) (c : Column) → text ≡ field_text plain c → ¬ IsTakenFor text c → ¬ IsTakenFor other c
no_other text other c is not taken = not (subst (λ (t : List ℕ). IsTakenFor t c) (taken.0.0.1 ∙ sym is) taken)

pub limit_is_other : (e : ParseError) → e ≡ Limit → e ≢ OutOfMemory
limit_is_other e is = λ m. absurd cc

pub bad_is_other : (e : ParseError) (n : ℕ) → e ≡ BadText n → e ≢ OutOfMemory
bad_is_other e n is = λ m. absurd cc
