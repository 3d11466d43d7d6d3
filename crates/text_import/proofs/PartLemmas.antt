-- The refused part of a header, a record or a line, found item by item; and the line at a place of a text.
use Rattle.std.proofs.Common.{◌≡◌, ℕ, ◌+◌, ◌-◌, ◌≤◌, ◌<◌, zero, suc, Bool, true, false, List, [], ◌∷◌, length, drop, refl, ap, ◌∙◌, arith, length-drop}
use Rattle.std.specs.Prelude.{◌==◌, ◌||◌, not, bytes_eq, filter, get_or, is_some, map, Option, Some, None, option_map, slice_get, if◌then◌else◌}
use Rattle.std.proofs.lemmas.Bool.{ne_eqb, eq-eqb}
use Rattle.std.specs.Borrow.{Bor}
use Rattle.std.proofs.lemmas.List.{drop_more, length-map}
use Rattle.std.proofs.lemmas.Option.{slice_get_past}
use Rattle.facts.specs.Texts.{text_list}
use Rattle.csv.specs.Records.{field_at}
use Rattle.serde_json.specs.Data.{Members}
use Rattle.serde_json.specs.View.{items_view}
use Rattle.serde_json.specs.declared.value.Value.{Value}
use Rattle.arrow_schema.specs.Column.{Column, Columns, columns_of}
use Rattle.arrow_schema.specs.View.{column_of}
use Rattle.arrow_schema.specs.declared.types.Field.{Field}
use Rattle.arrow_schema.specs.Parts.{name_of_column}
use Rattle.text_import.specs.Flat.{field_cell}
use Rattle.text_import.specs.Records.{is_nested_column, records_of}
use Rattle.text_import.specs.Objects.{is_blank, has_name, names_of, keys_of, has_unknown}
use Rattle.text_import.specs.ValuePart.{is_refused, first_repeated, first_unknown, part_by_place, part_by_name}
use Rattle.text_import.specs.Part.{nested_column, header_name, header_count, field, value_part, other_count, unknown_name, repeated_name, nested_part, other_name, refused_names, header_of, refused_field, refused_in_items, refused_in_members}
use Rattle.text_import.proofs.ObjectLemmas.{item_count_is, column_count_is}
use Rattle.text_import.proofs.RecordLemmas.{field_here, field_past}
use Rattle.civil_days.specs.declared.date_form.DateForm.{DateForm}
use Rattle.text_import.specs.FieldForm.{PlainFieldForm}

-- whether a key is no name, by the first that is none
pub any_unknown : (names keys : List (List ℕ)) → is_some (first_unknown names keys) ≡ has_unknown names keys
any_unknown names [] = refl
any_unknown names (k ∷ keys) = by (has_name names k) (any_unknown names keys)
  where
    by : (b : Bool) → is_some (first_unknown names keys) ≡ has_unknown names keys → is_some (if not b then Some k else first_unknown names keys) ≡ (not b || has_unknown names keys)
    by true e = e
    by false e = refl

pub unknown_found : (names keys : List (List ℕ)) (found : Option (Bor (List ℕ))) → option_map (λ t. t.now) found ≡ first_unknown names keys → is_some found ≡ has_unknown names keys
unknown_found names keys found is = is_mapped found ∙ ap is_some is ∙ any_unknown names keys
  where
    is_mapped : (o : Option (Bor (List ℕ))) → is_some o ≡ is_some (option_map (λ (t : Bor (List ℕ)). t.now) o)
    is_mapped None = refl
    is_mapped (Some t) = refl

-- a name of a header that is another, one that is not, the end of the header and that of the columns
pub name_differs : (ts : List (List ℕ)) (i : ℕ) (c : Column) (cs : List Column) (t : List ℕ) → field_at ts i ≡ Some t → bytes_eq t (name_of_column c) ≡ false
    → other_name (drop i ts) (c ∷ cs) ≡ Some (header_name t (name_of_column c))
unfolding other_name
name_differs ts i c cs t is e = rw (field_here ts i t is, e) refl

pub name_agrees : (ts : List (List ℕ)) (i : ℕ) (c : Column) (cs : List Column) (t : List ℕ) → field_at ts i ≡ Some t → bytes_eq t (name_of_column c) ≡ true
    → other_name (drop i ts) (c ∷ cs) ≡ other_name (drop (suc i) ts) cs
unfolding other_name
name_agrees ts i c cs t is e = rw (field_here ts i t is, e) refl

pub no_name : (ts : List (List ℕ)) (i : ℕ) (cs : List Column) → field_at ts i ≡ None → other_name (drop i ts) cs ≡ None
unfolding other_name
no_name ts i cs is = rw (field_past ts i is) refl

pub no_column_left : (ts : List (List ℕ)) → other_name ts [] ≡ None
unfolding other_name
no_column_left [] = refl
no_column_left (t ∷ ts) = refl

no_header_names : (cs : List Column) → other_name [] cs ≡ None
unfolding other_name
no_header_names cs = refl

-- a column that is a list or a struct, one that is not, and the end
pub column_nested : (c : Column) (cs : List Column) → is_nested_column c ≡ true → nested_part (c ∷ cs) ≡ Some (nested_column (name_of_column c))
unfolding nested_part
column_nested c cs e = rw e refl

pub column_flat : (c : Column) (cs : List Column) → is_nested_column c ≡ false → nested_part (c ∷ cs) ≡ nested_part cs
unfolding nested_part
column_flat c cs e = rw e refl

pub none_nested : nested_part [] ≡ None
unfolding nested_part
none_nested = refl

-- a text without records
pub headless : (fs : List Field) (t : List ℕ) → slice_get (records_of t) 0 ≡ None
    → refused_names (map column_of fs) (header_of t) ≡ (if 0 == length fs then None else Some (header_count 0 (length fs)))
headless fs t none = rw (none, no_header_names (map column_of fs), length-map fs column_of) refl

-- a field that is refused, one that is not, and the end
pub field_named : (form : PlainFieldForm) (place : ℕ) (c : Column) (cs : List Column) (t : List ℕ) (ts : List (List ℕ)) → is_refused (field_cell form c t) ≡ true
    → refused_field form place (c ∷ cs) (t ∷ ts) ≡ Some (field (name_of_column c) place t)
unfolding refused_field
field_named form place c cs t ts e = rw e refl

pub field_passed : (form : PlainFieldForm) (place : ℕ) (c : Column) (cs : List Column) (t : List ℕ) (ts : List (List ℕ)) → is_refused (field_cell form c t) ≡ false
    → refused_field form place (c ∷ cs) (t ∷ ts) ≡ refused_field form (place + 1) cs ts
unfolding refused_field
field_passed form place c cs t ts e = rw e refl

pub no_field : (form : PlainFieldForm) (place : ℕ) (ts : List (List ℕ)) → refused_field form place [] ts ≡ None
unfolding refused_field
no_field form place ts = refl

-- the number of items
pub counted_no : (date_form : DateForm) (fs : List Field) (vs : List Value) → (length vs ≡ length fs → ⊥)
    → refused_in_items date_form (columns_of (map column_of fs)) (items_view vs) ≡ Some (other_count (length vs) (length fs))
counted_no date_form fs vs h = rw (item_count_is vs, column_count_is fs, ne_eqb (length vs) (length fs) h) refl

pub counted_yes : (date_form : DateForm) (fs : List Field) (vs : List Value) → length vs ≡ length fs
    → refused_in_items date_form (columns_of (map column_of fs)) (items_view vs) ≡ option_map value_part (part_by_place date_form [] 0 (columns_of (map column_of fs)) (items_view vs))
counted_yes date_form fs vs h = rw (item_count_is vs, column_count_is fs, eq-eqb (length vs) (length fs) h) refl

pub ruleset counted_rules = (counted_no, counted_yes)

-- the tests of names
pub name_repeated : (date_form : DateForm) (cs : Columns) (ms : Members) (name : List ℕ) → first_repeated (names_of cs) ≡ Some name → refused_in_members date_form cs ms ≡ Some (repeated_name name)
name_repeated date_form cs ms name e = rw e refl

pub name_unknown : (date_form : DateForm) (cs : Columns) (ms : Members) (name : List ℕ) → first_repeated (names_of cs) ≡ None → first_unknown (names_of cs) (keys_of ms) ≡ Some name
    → refused_in_members date_form cs ms ≡ Some (unknown_name name)
name_unknown date_form cs ms name e is = rw (e, is) refl

pub names_known : (date_form : DateForm) (cs : Columns) (ms : Members) → first_repeated (names_of cs) ≡ None → first_unknown (names_of cs) (keys_of ms) ≡ None
    → refused_in_members date_form cs ms ≡ option_map value_part (part_by_name date_form [] 0 cs ms)
names_known date_form cs ms e is = rw (e, is) refl

pub ruleset named_rules = (name_repeated, name_unknown, names_known)

-- the item at a place, from what stands there
pub at_here : {X : Type 0} (xs : List X) (i : ℕ) (x : X) (ys : List X) → drop i xs ≡ x ∷ ys → slice_get xs i ≡ Some x
at_here [] zero x ys e = absurd cc
at_here [] (suc i) x ys e = absurd cc
at_here (z ∷ xs) zero x ys e = (let same : z ≡ x = cc in rw same refl)
at_here (z ∷ xs) (suc i) x ys e = at_here xs i x ys e

pub behind_here : {X : Type 0} (xs : List X) (i : ℕ) (x : X) (ys : List X) → drop i xs ≡ x ∷ ys → drop (suc i) xs ≡ ys
behind_here [] zero x ys e = absurd cc
behind_here [] (suc i) x ys e = absurd cc
behind_here (z ∷ xs) zero x ys e = cc
behind_here (z ∷ xs) (suc i) x ys e = behind_here xs i x ys e

pub none_at : {X : Type 0} (xs : List X) (i n : ℕ) → drop i xs ≡ [] → i ≤ n → slice_get xs n ≡ None
none_at xs i n e lt = let size = length-drop i xs in let none = ap length e in slice_get_past xs n (omega arith)

-- a line that is skipped, one that is counted, and the line that is meant
abbrev pub filled : List (Bor (List ℕ)) → List (List ℕ)
filled lines = filter (λ line. not (is_blank line)) (text_list lines)

skipped_here : (line : Bor (List ℕ)) (lines : List (Bor (List ℕ))) → is_blank line.now ≡ true → filled (line ∷ lines) ≡ filled lines
skipped_here line lines e = rw e refl

filled_here : (line : Bor (List ℕ)) (lines : List (Bor (List ℕ))) → is_blank line.now ≡ false → filled (line ∷ lines) ≡ line.now ∷ filled lines
filled_here line lines e = rw e refl

pub blank_line : (lines : List (Bor (List ℕ))) (i : ℕ) (d : Bor (List ℕ)) → i < length lines → is_blank (get_or lines i d).now ≡ true → filled (drop i lines) ≡ filled (drop (i + 1) lines)
blank_line lines i d lt e = ap filled (drop_more lines i d lt) ∙ skipped_here (get_or lines i d) (drop (i + 1) lines) e

pub filled_line : (lines : List (Bor (List ℕ))) (i : ℕ) (d : Bor (List ℕ)) → i < length lines → is_blank (get_or lines i d).now ≡ false → filled (drop i lines) ≡ (get_or lines i d).now ∷ filled (drop (i + 1) lines)
filled_line lines i d lt e = ap filled (drop_more lines i d lt) ∙ filled_here (get_or lines i d) (drop (i + 1) lines) e

pub at_front : {X : Type 0} (xs ys : List X) (x : X) (n : ℕ) → xs ≡ x ∷ ys → n ≡ 0 → slice_get xs n ≡ Some x
at_front xs ys x n e z = rw (e, z) refl

pub past_front : {X : Type 0} (xs ys : List X) (x : X) (n : ℕ) → xs ≡ x ∷ ys → (n ≡ 0 → ⊥) → slice_get ys (n - 1) ≡ slice_get xs n
past_front xs ys x zero e z = absurd (z refl)
past_front xs ys x (suc n) e z = (let one : suc n - 1 ≡ n = omega arith in rw (e, one) refl)
