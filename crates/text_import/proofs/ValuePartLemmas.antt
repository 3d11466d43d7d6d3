-- The refused part of a value, found item by item.
use Rattle.std.proofs.Common.{◌≡◌, ℕ, ◌+◌, List, ◌∷◌, ◌++◌, length, refl}
use Rattle.std.specs.Prelude.{is_some, Option, Some, None, option_map, if◌then◌else◌, Ok, Err}
use Rattle.std.specs.Option.{option_or}
use Rattle.std.proofs.lemmas.Bool.{ne_eqb, eq-eqb}
use Rattle.serde_json.specs.Data.{Items, Members}
use Rattle.serde_json.specs.View.{view, items_view}
use Rattle.serde_json.specs.declared.value.Value.{Value}
use Rattle.arrow_schema.specs.Column.{Column, Columns, no_column, and_column}
use Rattle.arrow_schema.specs.Parts.{name_of_column}
use Rattle.text_import.specs.declared.refusal.Refusal.TheVariants.{AmbiguousNames, UnknownName}
use Rattle.text_import.specs.declared.value_part.Reason.TheVariants as reasons
use Rattle.text_import.specs.Objects.{keys_of, repeats, has_unknown}
use Rattle.text_import.specs.ValuePart.{PlainValuePart, below, itself, sized_part, first_repeated, first_unknown, at_name, names_part, cell_part, part_by_place, part_by_name}
use Rattle.text_import.specs.inner.Names.{member_part_of, tested}
use Rattle.text_import.proofs.ObjectLemmas.{item_count_is, column_count_is}
use Rattle.text_import.proofs.NameLemmas.{any_repeated}
use Rattle.text_import.proofs.PartLemmas.{any_unknown}
use Rattle.civil_days.specs.declared.date_form.DateForm.{DateForm}

-- the number of items
pub sized_no : (size : ℕ) (f : Items → Option PlainValuePart) (vs : List Value) → (length vs ≡ size → ⊥) → sized_part size f (items_view vs) ≡ Some (itself (reasons.Count (length vs) size))
sized_no size f vs h = rw (item_count_is vs, ne_eqb (length vs) size h) refl

pub sized_yes : (size : ℕ) (f : Items → Option PlainValuePart) (vs : List Value) → length vs ≡ size → sized_part size f (items_view vs) ≡ f (items_view vs)
sized_yes size f vs h = rw (item_count_is vs, eq-eqb (length vs) size h) refl

pub ruleset sized_rules = (sized_no, sized_yes, column_count_is)

-- a field with a refused part, one without, and the end
pub place_named : (date_form : DateForm) (before : List ℕ) (index : ℕ) (c : Column) (cs : Columns) (v : Value) (vs : List Value) (p : PlainValuePart) → cell_part date_form c (view v) ≡ Some p
    → part_by_place date_form before index (and_column c cs) (items_view (v ∷ vs)) ≡ Some (below (before ++ name_of_column c) index p)
unfolding part_by_place
place_named date_form before index c cs v vs p e = rw e refl

pub place_passed : (date_form : DateForm) (before : List ℕ) (index : ℕ) (c : Column) (cs : Columns) (v : Value) (vs : List Value) → cell_part date_form c (view v) ≡ None
    → part_by_place date_form before index (and_column c cs) (items_view (v ∷ vs)) ≡ part_by_place date_form before (index + 1) cs (items_view vs)
unfolding part_by_place
place_passed date_form before index c cs v vs e = rw e refl

pub no_place : (date_form : DateForm) (before : List ℕ) (index : ℕ) (ds : Items) → part_by_place date_form before index no_column ds ≡ None
unfolding part_by_place
no_place date_form before index ds = refl

pub name_named : (date_form : DateForm) (before : List ℕ) (index : ℕ) (c : Column) (cs : Columns) (ms : Members) (p : PlainValuePart) → member_part_of date_form c ms ≡ Some p
    → part_by_name date_form before index (and_column c cs) ms ≡ Some (below (before ++ name_of_column c) index p)
unfolding part_by_name
name_named date_form before index c cs ms p e = rw e refl

pub name_passed : (date_form : DateForm) (before : List ℕ) (index : ℕ) (c : Column) (cs : Columns) (ms : Members) → member_part_of date_form c ms ≡ None
    → part_by_name date_form before index (and_column c cs) ms ≡ part_by_name date_form before (index + 1) cs ms
unfolding part_by_name
name_passed date_form before index c cs ms e = rw e refl

pub no_name : (date_form : DateForm) (before : List ℕ) (index : ℕ) (ms : Members) → part_by_name date_form before index no_column ms ≡ None
unfolding part_by_name
no_name date_form before index ms = refl

-- names that are not refused
pub names_pass : (names : List (List ℕ)) (ms : Members) → tested names ms ≡ Ok ms → names_part names ms ≡ None
names_pass names ms e = by (first_repeated names) (any_repeated names) (first_unknown names (keys_of ms)) (any_unknown names (keys_of ms)) e
  where
    by : (r : Option (List ℕ)) → is_some r ≡ repeats names → (o : Option (List ℕ)) → is_some o ≡ has_unknown names (keys_of ms)
        → (if repeats names then Err AmbiguousNames else if has_unknown names (keys_of ms) then Err UnknownName else Ok ms) ≡ Ok ms
        → option_or (option_map (at_name reasons.Repeated) r) (option_map (at_name reasons.Unknown) o) ≡ None
    by (Some name) twice o is e = (let told = rw (← twice) at e in absurd cc)
    by None twice None is e = refl
    by None twice (Some name) is e = (let told = rw (← twice, ← is) at e in absurd cc)
