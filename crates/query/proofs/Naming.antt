-- Columns that have a name, found among fields.
use Rattle.std.proofs.Common.{◌≡◌, ℕ, ◌+◌, ◌<◌, Bool, false, cond, List, [], ◌∷◌, map, length, drop, get_or, refl, ap, ◌∙◌, sym, Bor}
use Rattle.std.specs.Prelude.{not, count_by, position, find, slice_get, option_map, Option, Some, None}
use Rattle.std.specs.List.{prefix_len}
use Rattle.std.proofs.lemmas.Bool.{eq-eqb, ne_eqb}
use Rattle.std.proofs.lemmas.Option.{slice_get-map}
use Rattle.std.proofs.lemmas.List.{length-map, drop_more}
use Rattle.std.proofs.lemmas.List.Sums.{sum_by-cons}
use Rattle.arrow_schema.specs.declared.types.Field.{Field, out-Field}
use Rattle.arrow_schema.specs.Column.{Kind, Column}
use Rattle.arrow_schema.specs.laws.Parts.{kind_of_field}
use Rattle.arrow_schema.specs.View.{column_of, kind_of}
use Rattle.std.specs.Option.{option_copied}
use Rattle.query.specs.declared.errors.QueryError.{QueryError}
use Rattle.query.specs.View.{Reports}
use Rattle.query.proofs.Binding.{reports_first}
use Rattle.civil_days.specs.declared.date_form.DateForm.{DateForm}
use Rattle.query.specs.Query.{PlainCondition}
use Rattle.query.specs.Bound.{has_name, place_of, predicate_of, bound_at, bound}

pub count_by-map : {X Y : Type 0} (p : Y → Bool) (f : X → Y) (xs : List X) → count_by p (map f xs) ≡ count_by (λ x. p (f x)) xs
count_by-map p f [] = refl
count_by-map p f (x ∷ xs) =
    sum_by-cons (λ y. cond (p y) 1 0) (f x) (map f xs) ∙ (ap (λ (n : ℕ). cond (p (f x)) 1 0 + n) (count_by-map p f xs) ∙ sym (sum_by-cons (λ y. cond (p (f y)) 1 0) x xs))

prefix_len-map : {X Y : Type 0} (p : Y → Bool) (f : X → Y) (xs : List X) → prefix_len p (map f xs) ≡ prefix_len (λ x. p (f x)) xs
prefix_len-map p f [] = refl
prefix_len-map p f (x ∷ xs) = rw (prefix_len-map p f xs) refl

pub position-map : {X Y : Type 0} (p : Y → Bool) (f : X → Y) (xs : List X) → position p (map f xs) ≡ position (λ x. p (f x)) xs
position-map p f xs = rw (prefix_len-map (λ y. not (p y)) f xs, length-map xs f) refl

-- the one column of a name among fields
pub place_once : (fields : List Field) (name : List ℕ) → count_by (λ f. has_name name (column_of f)) fields ≡ 1 → place_of (map column_of fields) name ≡ position (λ f. has_name name (column_of f)) fields
unfolding place_of
place_once fields name h =
    rw (eq-eqb (count_by (has_name name) (map column_of fields)) 1 (count_by-map (has_name name) column_of fields ∙ h)) (position-map (has_name name) column_of fields)

pub place_not : (fields : List Field) (name : List ℕ) → (count_by (λ f. has_name name (column_of f)) fields ≡ 1 → ⊥) → place_of (map column_of fields) name ≡ None
unfolding place_of
place_not fields name h = rw (ne_eqb (count_by (has_name name) (map column_of fields)) 1 (λ e. h (sym (count_by-map (has_name name) column_of fields) ∙ e))) refl

-- the column of a field that was looked up
pub column_there : (r : Option (Bor Field)) (fields : List Field) (place : ℕ) → option_copied r ≡ slice_get fields place → option_map (λ f. column_of f.now) r ≡ slice_get (map column_of fields) place
column_there None fields place e = sym (slice_get-map column_of fields place ∙ ap (option_map column_of) (sym e))
column_there (Some f) fields place e = sym (slice_get-map column_of fields place ∙ ap (option_map column_of) (sym e))

-- a condition whose column stands among fields
pub bound_is : (form : DateForm) (cs : List Column) (c : PlainCondition) (place : ℕ) (field : Field) → place_of cs c.column ≡ Some place → slice_get cs place ≡ Some (column_of field)
    → bound form cs c ≡ bound_at place (predicate_of form (kind_of (out-Field field).data_type) c.test)
unfolding bound
bound_is form cs c place field e h = rw (e, h) (ap (λ (k : Kind). bound_at place (predicate_of form k c.test)) (kind_of_field field))

-- what it reports, where it is refused
pub bound_reports : (form : DateForm) (cs : List Column) (c : PlainCondition) (place : ℕ) (field : Field) → place_of cs c.column ≡ Some place → slice_get cs place ≡ Some (column_of field)
    → (e : QueryError) → Reports e (predicate_of form (kind_of (out-Field field).data_type) c.test) → Reports e (bound form cs c)
bound_reports form cs c place field e h error r =
    reports_first error (predicate_of form (kind_of (out-Field field).data_type) c.test) (bound form cs c) (λ x k. bound_is form cs c place field e h ∙ ap (bound_at place) k) r

-- a search passes over an element
pub skip_one : {X : Type 0} (p : X → Bool) (xs : List X) (i : ℕ) (d : X) → i < length xs → p (get_or xs i d) ≡ false → find p (drop (i + 1) xs) ≡ find p (drop i xs)
skip_one p xs i d h e = sym (rw (drop_more xs i d h, e) refl)
