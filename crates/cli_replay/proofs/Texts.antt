-- Texts that were parsed once are parsed again.
use Rattle.std.proofs.Common.{◌≡◌, ◌≢◌, ◌⊎◌, ◌<◌, ◌∙◌, ◌&&◌, ◌∷◌, [], ℕ, zero, suc, Bool, true, List, length, map, get_or, Option, Some, None, option_map, Ok, Err, inl, inr, ap, sym, refl, subst, arith}
use Rattle.std.specs.Prelude.{is_some}
use Rattle.std.proofs.lemmas.Bool.{and_parts}
use Rattle.arrow_schema.specs.Column.{Column}
use Rattle.arrow_schema.specs.Limits.{IsWithinLimits}
use Rattle.civil_days.specs.declared.date_form.DateForm.TheVariants.{Numbers}
use Rattle.field_texts.specs.Reported.{AreTextsOf, IsReported, schema_with}
use Rattle.field_texts.specs.Typed.{IsTextOf, IsFieldText}
use Rattle.field_texts.specs.declared.parse.ParseError.{ParseError}
use Rattle.field_texts.specs.declared.parse.ParseError.TheVariants.{BadText, Limit, OutOfMemory}
use Rattle.query.specs.ConditionText.{condition_of}
use Rattle.query.specs.Query.{PlainCondition, PlainQuery}
use Rattle.query.specs.Selection.{joined}
use Rattle.tables.specs.declared.refusal.QueryRefusal.{QueryRefusal}
use Rattle.tables.specs.declared.refusal.QueryRefusal.TheVariants.{BadCondition}
use Rattle.cli_reports.specs.declared.refusal.Refusal.{Refusal}
use Rattle.cli_reports.specs.declared.refusal.Refusal.TheVariants as refusals
use Rattle.cli_commands.specs.Changing.{RefusesFields}
use Rattle.cli_commands.specs.Selecting.{conditions_of, named_columns, stated_query, RefusesWords}
use Rattle.cli_scripts.specs.Script.{are_conditions, StateFields}

-- ---- fields

text_at : (texts : List (List ℕ)) (columns : List Column) (i : ℕ) → AreTextsOf texts columns → i < length texts → IsFieldText true (get_or texts i [])
text_at [] columns i are lt = absurd (omega (arith, lt))
text_at (t ∷ ts) [] i are lt = absurd are
text_at (t ∷ ts) (c ∷ cs) zero are lt = (c, are.0)
text_at (t ∷ ts) (c ∷ cs) (suc i) are lt = text_at ts cs i are.1 (omega (arith, lt))

-- a text is that of one column at most
abbrev pub IsUnique : Type 0
IsUnique = (text : List ℕ) (c d : Column) → IsTextOf true text c → IsTextOf true text d → c ≡ d

same_columns : IsUnique → (texts : List (List ℕ)) (cs ds : List Column) → AreTextsOf texts cs → AreTextsOf texts ds → cs ≡ ds
same_columns unique [] [] [] of_cs of_ds = refl
same_columns unique [] [] (d ∷ ds) of_cs of_ds = absurd of_ds
same_columns unique [] (c ∷ cs) ds of_cs of_ds = absurd of_cs
same_columns unique (t ∷ ts) [] ds of_cs of_ds = absurd of_cs
same_columns unique (t ∷ ts) (c ∷ cs) [] of_cs of_ds = absurd of_ds
same_columns unique (t ∷ ts) (c ∷ cs) (d ∷ ds) of_cs of_ds = λ i. unique t c d of_cs.0 of_ds.0 i ∷ same_columns unique ts cs ds of_cs.1 of_ds.1 i

-- texts that state fields are not refused
pub fields_right : IsUnique → (texts : List (List ℕ)) (e : ParseError) → e ≢ OutOfMemory → StateFields true texts → IsReported texts (Err e) → ⊥
fields_right unique texts (BadText number) other state bad = bad.first.refused (text_at texts state.0 bad.index state.1.0 bad.first.among)
fields_right unique texts Limit other state (inl past) = past.first.refused (text_at texts state.0 past.index state.1.0 past.first.among)
fields_right unique texts Limit other state (inr past) =
    past.past (subst (λ (cs : List Column). IsWithinLimits (schema_with cs)) (same_columns unique texts state.0 past.columns state.1.0 past.texts_of) state.1.1)
fields_right unique texts OutOfMemory other state memory = other refl

pub fields_parsed : IsUnique → (texts : List (List ℕ)) (e : Refusal) (r s : ParseError) → s ≢ OutOfMemory → StateFields true texts → e ≡ refusals.Fields r → r ≡ s
    → RefusesFields texts e → ⊥
fields_parsed unique texts e r s other state is same refused =
    fields_right unique texts s other state (subst (λ (error : ParseError). IsReported texts (Err error)) same (subst (RefusesFields texts) is refused))

-- ---- conditions

first_stated : (found : Option PlainCondition) (others : Option (List PlainCondition)) → is_some found ≡ true → ((cs : List PlainCondition) × (others ≡ Some cs))
    → (cs : List PlainCondition) × (joined found others ≡ Some cs)
first_stated None others is rest = absurd cc
first_stated (Some c) others is rest = (c ∷ rest.0, ap (joined (Some c)) rest.1)

all_stated : (texts : List (List ℕ)) → are_conditions texts ≡ true → (cs : List PlainCondition) × (conditions_of texts ≡ Some cs)
all_stated [] are = ([], refl)
all_stated (t ∷ ts) are =
    let parts = and_parts (is_some (condition_of t)) (are_conditions ts) are in
    first_stated (condition_of t) (conditions_of ts) parts.0 (all_stated ts parts.1)

-- texts that have the form of conditions state a query
query_right : (texts : List (List ℕ)) (columns : Option (List ℕ)) (limit : Option ℕ) → are_conditions texts ≡ true → stated_query texts columns limit Numbers ≢ None
query_right texts columns limit are none =
    let stated = all_stated texts are in
    some_is_not_none (stated_by stated.0) (sym (ap stated_as stated.1) ∙ none) where
      stated_by : List PlainCondition → PlainQuery
      stated_by cs = record { columns = named_columns columns; conditions = cs; limit = limit; dates = Numbers }

      stated_as : Option (List PlainCondition) → Option PlainQuery
      stated_as found = option_map stated_by found

      some_is_not_none : (q : PlainQuery) → Some q ≡ None → ⊥
      some_is_not_none q is = absurd cc

-- so the words are not refused
pub words_right : (texts slice : List (List ℕ)) (columns : Option (List ℕ)) (limit : Option ℕ) (e : Refusal) (r : QueryRefusal) → slice ≡ texts → are_conditions texts ≡ true → e ≡ refusals.Query r
    → RefusesWords (stated_query slice columns limit Numbers) e → ⊥
words_right texts slice columns limit e r same are is refused =
    by r (subst (λ (ts : List (List ℕ)). RefusesWords (stated_query ts columns limit Numbers) (refusals.Query r)) same
    (subst (RefusesWords (stated_query slice columns limit Numbers)) is refused))
  where
    by : (r : QueryRefusal) → RefusesWords (stated_query texts columns limit Numbers) (refusals.Query r) → ⊥
    by BadCondition none = query_right texts columns limit are none
    by _ none = none
