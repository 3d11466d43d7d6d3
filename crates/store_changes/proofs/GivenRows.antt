-- Rows that are given: what is made of them.
use Rattle.std.specs.Prelude.{nat_le}
use Rattle.std.proofs.Common.{◌≡◌, ◌<◌, ℕ, Bool, true, false, List, Option, Some, None, Result, Ok, Err, if◌then◌else◌, refl, ap, ◌∙◌}
use Rattle.std.proofs.lemmas.Bool.{leb-false}
use Rattle.arrow_schema.specs.Column.{PlainSchema}
use Rattle.cells.specs.Cell.{Cell, PlainTable}
use Rattle.cells.specs.Weight.{table_weight}
use Rattle.cells.specs.declared.limits.TheConstants.{MAX_TABLE_WEIGHT}
use Rattle.values.specs.Table as values
use Rattle.values.specs.Table.{first_unfit, weighed, table_from}
use Rattle.facts.specs.Checks.{unless}
use Rattle.catalogue.specs.Entries.{PlainEntry}
use Rattle.tables.specs.declared.refusal.Refusal.{Refusal}
use Rattle.tables.specs.declared.refusal.Refusal.TheVariants as refusals
use Rattle.store_runs.specs.Deciding.{given_rows}

pub record AreHeavy (s : PlainSchema) (rows : List (List Cell)) : Type 0 where
  pub fit : first_unfit s rows ≡ None
  pub heavy : MAX_TABLE_WEIGHT < table_weight s rows

module _ (s : PlainSchema) (rows : List (List Cell)) where
  abbrev by_weight : Bool → Result PlainTable values.Refusal
  by_weight b = if b then Ok (record { schema = s; rows = rows }) else Err values.too_heavy

  pub made_by : (t : PlainTable) → table_from s rows ≡ Ok t → first_unfit s rows ≡ None
  unfolding table_from
  made_by t h = by_first (first_unfit s rows) refl h
    where
      by_first : (o : Option ℕ) → first_unfit s rows ≡ o → weighed s rows o ≡ Ok t → first_unfit s rows ≡ None
      by_first (Some i) e h = absurd (cc h)
      by_first None e h = e

  pub heavy_by : table_from s rows ≡ Err values.too_heavy → AreHeavy s rows
  unfolding table_from
  heavy_by h = by_first (first_unfit s rows) refl h
    where
      past_by : (b : Bool) → nat_le (table_weight s rows) MAX_TABLE_WEIGHT ≡ b → by_weight b ≡ Err values.too_heavy → MAX_TABLE_WEIGHT < table_weight s rows
      past_by true e h = absurd (cc h)
      past_by false e h = leb-false (table_weight s rows) MAX_TABLE_WEIGHT e

      by_first : (o : Option ℕ) → first_unfit s rows ≡ o → weighed s rows o ≡ Err values.too_heavy → AreHeavy s rows
      by_first (Some i) e h = absurd (cc h)
      by_first None e h = record { fit = e; heavy = past_by (nat_le (table_weight s rows) MAX_TABLE_WEIGHT) refl h }

  pub unfit_by : (i : ℕ) → table_from s rows ≡ Err (values.unfit i) → first_unfit s rows ≡ Some i
  unfolding table_from
  unfit_by i h = by_first (first_unfit s rows) refl h
    where
      never : (b : Bool) → by_weight b ≡ Err (values.unfit i) → ⊥
      never true h = cc h
      never false h = cc h

      by_first : (o : Option ℕ) → first_unfit s rows ≡ o → weighed s rows o ≡ Err (values.unfit i) → first_unfit s rows ≡ Some i
      by_first (Some k) e h = let same : k ≡ i = cc h in e ∙ ap Some same
      by_first None e h = absurd (never (nat_le (table_weight s rows) MAX_TABLE_WEIGHT) h)

-- what is reported of the first row that does not fit
abbrev told : Option ℕ → Option Refusal
told o = elim o [ None ↦ None | Some i ↦ Some (refusals.RowUnfit i) ]

pub given_fit : (e : PlainEntry) (rows : List (List Cell)) → first_unfit e.schema rows ≡ None → given_rows rows e ≡ Ok (record { entry = e; rows = rows })
given_fit e rows fit = ap (λ (o : Option ℕ). unless (told o) (Ok (record { entry = e; rows = rows }))) fit

pub given_unfit : (e : PlainEntry) (rows : List (List Cell)) (i : ℕ) → first_unfit e.schema rows ≡ Some i → given_rows rows e ≡ Err (refusals.RowUnfit i)
given_unfit e rows i first = ap (λ (o : Option ℕ). unless (told o) (Ok (record { entry = e; rows = rows }))) first
