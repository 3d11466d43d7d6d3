-- A value has a refused part exactly if it is refused, and the part is why.
use Rattle.std.proofs.Common.{◌≡◌, ℕ, ◌+◌, suc, Bool, true, false, List, [], ◌∷◌, ◌++◌, refl, sym, ap, ◌∙◌, arith}
use Rattle.std.specs.Prelude.{◌==◌, not, bytes_eq, is_some, Option, Some, None, option_map, slice_get, if◌then◌else◌, Result, Ok, Err}
use Rattle.std.specs.Option.{option_or}
use Rattle.std.proofs.lemmas.Bool.{eqb-true, eqb-false, or_right}
use Rattle.std.proofs.lemmas.Slice.Eq.{bytes_eq-Decides}
use Rattle.serde_json.specs.Data.{Data, Items, no_items, item, Members}
use Rattle.serde_json.specs.Data as json
use Rattle.serde_json.specs.Find.{get_item, get_member}
use Rattle.arrow_schema.specs.Column.{Kind, Column, Columns, nulls, booleans, integers, dates, timestamps, texts, large_texts, binaries, large_binaries, fixed_binaries, lists, large_lists, fixed_lists, structs, column, no_column, and_column, list_of}
use Rattle.arrow_schema.specs.Parts.{name_of_column, is_nullable_column, kind_of_column}
use Rattle.cells.specs.Cell.{Cell, Cells, items, parts, and_cell}
use Rattle.text_import.specs.declared.refusal.Refusal.{Refusal}
use Rattle.text_import.specs.declared.refusal.Refusal.TheVariants.{Width, AmbiguousNames, UnknownName, WrongKind}
use Rattle.text_import.specs.declared.value_part.Reason.TheVariants.{Missing, Unknown, Repeated, Count}
use Rattle.text_import.specs.Refusals.{and_then, given}
use Rattle.text_import.specs.Objects.{item_count, column_count, list_in, each_item, fixed_list_in, absent, member_in, has_name, names_of, keys_of, repeats, has_unknown, cell_in, kind_in, cells_by_place, cells_by_name, cells_in}
use Rattle.text_import.specs.ValuePart.{PlainValuePart, item_step, dot, below, itself, flat_part, items_part, list_part, sized_part, fixed_list_part, member_part, first_repeated, first_unknown, at_name, names_part, struct_part, cell_part, kind_part, part_by_place, part_by_name}
use Rattle.text_import.specs.Cause.{item_of_kind, size_of_kind, value_at, IsRefusedAt, is_refused_value, is_missing, is_count, is_unknown, is_repeated, in_item, in_field}
use Rattle.text_import.proofs.NameLemmas.{any_repeated, repeated_there}
use Rattle.text_import.proofs.PartLemmas.{any_unknown}
use Rattle.civil_days.specs.declared.date_form.DateForm.{DateForm}

-- an outcome of reading, and the refused part: there is one exactly if the outcome is a refusal, and it is why
abbrev pub Explained : {A : Type 0} → (why : PlainValuePart → Refusal → Type 0) → Result A Refusal → Option PlainValuePart → Type 0
Explained why (Ok x) None = Unit {0}
Explained why (Ok x) (Some p) = ⊥
Explained why (Err e) None = ⊥
Explained why (Err e) (Some p) = why p e

-- why a value of a column, or that there is none, is refused
abbrev pub Why : (date_form : DateForm) → Column → Option Data → PlainValuePart → Refusal → Type 0
Why date_form c v p e = IsRefusedAt date_form e c v p.path p.place p.reason

-- why a value is refused for these columns, the first of which has the index `first`: the path begins with `before` and the name of one of them
pub record Within (date_form : DateForm) (before : List ℕ) (first : ℕ) (cs : Columns) (value : Data) (p : PlainValuePart) (e : Refusal) : Type 0 where
  pub index : ℕ
  pub column : Column
  pub path : List ℕ
  pub place : List ℕ
  pub stands : slice_get (list_of cs) index ≡ Some column
  pub leads : p.path ≡ (before ++ name_of_column column) ++ path
  pub placed : p.place ≡ (first + index) ∷ place
  pub refused : IsRefusedAt date_form e column (value_at index (name_of_column column) value) path place p.reason

given_explained : {A B : Type 0} (why : PlainValuePart → Refusal → Type 0) (f : A → B) (r : Result A Refusal) (o : Option PlainValuePart) → Explained why r o → Explained why (given f r) o
given_explained why f (Ok x) None h = tt
given_explained why f (Ok x) (Some p) h = absurd h
given_explained why f (Err e) None h = absurd h
given_explained why f (Err e) (Some p) h = h

pub mapped_explained : {A : Type 0} (why other : PlainValuePart → Refusal → Type 0) (r : Result A Refusal) (o : Option PlainValuePart) → ((p : PlainValuePart) (e : Refusal) → why p e → other p e)
    → Explained why r o → Explained other r o
mapped_explained why other (Ok x) None f h = tt
mapped_explained why other (Ok x) (Some p) f h = absurd h
mapped_explained why other (Err e) None f h = absurd h
mapped_explained why other (Err e) (Some p) f h = f p e h

-- one more cell
step_explained : (why : PlainValuePart → Refusal → Type 0) (step : List ℕ) (index : ℕ) (r : Result Cell Refusal) (o : Option PlainValuePart) (rest : Result Cells Refusal) (more : Option PlainValuePart)
    → Explained (λ p e. why (below step index p) e) r o → Explained why rest more → Explained why (and_then r (λ x. given (and_cell x) rest)) (option_or (option_map (below step index) o) more)
step_explained why step index (Ok x) None (Ok xs) None h k = tt
step_explained why step index (Ok x) None (Ok xs) (Some p) h k = absurd k
step_explained why step index (Ok x) None (Err e) None h k = absurd k
step_explained why step index (Ok x) None (Err e) (Some p) h k = k
step_explained why step index (Ok x) (Some p) rest more h k = absurd h
step_explained why step index (Err e) None rest more h k = absurd h
step_explained why step index (Err e) (Some p) rest more h k = h

flat_explained : (date_form : DateForm) (c : Column) (d : Data) (r : Result Cell Refusal) → ((e : Refusal) → r ≡ Err e → cell_in date_form c d ≡ Err e) → Explained (Why date_form c (Some d)) r (flat_part r)
flat_explained date_form c d (Ok x) is = tt
flat_explained date_form c d (Err e) is = is_refused_value c d (is e refl)

-- the items of a list
items_explained : (why : PlainValuePart → Refusal → Type 0) (f : Data → Result Cell Refusal) (g : Data → Option PlainValuePart) (place : ℕ) (ds : Items)
    → ((n m : ℕ) (d : Data) → get_item n ds ≡ Some d → m ≡ n + place → Explained (λ p e. why (below (item_step m) 0 p) e) (f d) (g d))
    → Explained why (each_item f ds) (items_part place g ds)
items_explained why f g place no_items each = tt
items_explained why f g place (item d ds) each =
    step_explained why (item_step place) 0 (f d) (g d) (each_item f ds) (items_part (place + 1) g ds)
    (each 0 place d refl (omega arith))
    (items_explained why f g (place + 1) ds (λ n m x is at. each (suc n) m x is (omega arith)))

all_explained : (date_form : DateForm) (c inner : Column) (ds : Items) → item_of_kind (kind_of_column c) ≡ Some inner → ((d : Data) → Explained (Why date_form inner (Some d)) (cell_in date_form inner d) (cell_part date_form inner d))
    → Explained (Why date_form c (Some (json.array ds))) (each_item (cell_in date_form inner) ds) (items_part 0 (cell_part date_form inner) ds)
all_explained date_form c inner ds is each =
    items_explained (Why date_form c (Some (json.array ds))) (cell_in date_form inner) (cell_part date_form inner) 0 ds (λ n m d there at.
    let here : get_item m ds ≡ Some d = (let same : m ≡ n = omega arith in rw same there) in
    mapped_explained (Why date_form inner (Some d)) (λ p e. Why date_form c (Some (json.array ds)) (below (item_step m) 0 p) e) (cell_in date_form inner d) (cell_part date_form inner d)
    (λ p e h. in_item c inner ds d m p.path p.place p.reason is here h)
    (each d))

list_explained : (date_form : DateForm) (c inner : Column) → item_of_kind (kind_of_column c) ≡ Some inner → ((d : Data) → Explained (Why date_form inner (Some d)) (cell_in date_form inner d) (cell_part date_form inner d)) → (d : Data)
    → ((e : Refusal) → list_in (cell_in date_form inner) d ≡ Err e → cell_in date_form c d ≡ Err e) → Explained (Why date_form c (Some d)) (list_in (cell_in date_form inner) d) (list_part (cell_part date_form inner) d)
list_explained date_form c inner is each json.null same = is_refused_value c json.null (same WrongKind refl)
list_explained date_form c inner is each (json.boolean b) same = is_refused_value c (json.boolean b) (same WrongKind refl)
list_explained date_form c inner is each (json.number n) same = is_refused_value c (json.number n) (same WrongKind refl)
list_explained date_form c inner is each (json.string t) same = is_refused_value c (json.string t) (same WrongKind refl)
list_explained date_form c inner is each (json.object ms) same = is_refused_value c (json.object ms) (same WrongKind refl)
list_explained date_form c inner is each (json.array ds) same =
    given_explained (Why date_form c (Some (json.array ds))) items (each_item (cell_in date_form inner) ds) (items_part 0 (cell_part date_form inner) ds) (all_explained date_form c inner ds is each)

fixed_list_explained : (date_form : DateForm) (c inner : Column) (size : ℕ) → item_of_kind (kind_of_column c) ≡ Some inner → size_of_kind (kind_of_column c) ≡ Some size
    → ((d : Data) → Explained (Why date_form inner (Some d)) (cell_in date_form inner d) (cell_part date_form inner d)) → (d : Data)
    → ((e : Refusal) → fixed_list_in size (cell_in date_form inner) d ≡ Err e → cell_in date_form c d ≡ Err e) → Explained (Why date_form c (Some d)) (fixed_list_in size (cell_in date_form inner) d) (fixed_list_part size (cell_part date_form inner) d)
fixed_list_explained date_form c inner size is wants each json.null same = is_refused_value c json.null (same WrongKind refl)
fixed_list_explained date_form c inner size is wants each (json.boolean b) same = is_refused_value c (json.boolean b) (same WrongKind refl)
fixed_list_explained date_form c inner size is wants each (json.number n) same = is_refused_value c (json.number n) (same WrongKind refl)
fixed_list_explained date_form c inner size is wants each (json.string t) same = is_refused_value c (json.string t) (same WrongKind refl)
fixed_list_explained date_form c inner size is wants each (json.object ms) same = is_refused_value c (json.object ms) (same WrongKind refl)
fixed_list_explained date_form c inner size is wants each (json.array ds) same = by (item_count ds == size) refl
  where
    by : (b : Bool) → (item_count ds == size) ≡ b
        → Explained (Why date_form c (Some (json.array ds))) (given items (if b then each_item (cell_in date_form inner) ds else Err Width)) (if b then items_part 0 (cell_part date_form inner) ds else Some (itself (Count (item_count ds) size)))
    by true counted = given_explained (Why date_form c (Some (json.array ds))) items (each_item (cell_in date_form inner) ds) (items_part 0 (cell_part date_form inner) ds) (all_explained date_form c inner ds is each)
    by false counted = is_count c ds size wants (eqb-false (item_count ds) size counted) refl

-- names
unknown_is : (names keys : List (List ℕ)) (name : List ℕ) → first_unknown names keys ≡ Some name → has_name names name ≡ false
unknown_is names [] name is = absurd cc
unknown_is names (k ∷ keys) name is = by (has_name names k) refl is (unknown_is names keys name)
  where
    by : (b : Bool) → has_name names k ≡ b → (if not b then Some k else first_unknown names keys) ≡ Some name → (first_unknown names keys ≡ Some name → has_name names name ≡ false)
        → has_name names name ≡ false
    by true known is more = more is
    by false unknown is more = (let same : k ≡ name = cc in rw (← same) unknown)

unknown_there : (names keys : List (List ℕ)) (name : List ℕ) → first_unknown names keys ≡ Some name → has_name keys name ≡ true
unknown_there names [] name is = absurd cc
unknown_there names (k ∷ keys) name is = by (has_name names k) is (unknown_there names keys name)
  where
    by : (b : Bool) → (if not b then Some k else first_unknown names keys) ≡ Some name → (first_unknown names keys ≡ Some name → has_name keys name ≡ true) → has_name (k ∷ keys) name ≡ true
    by true is more = or_right (bytes_eq name k) _ (more is)
    by false is more = (let same : k ≡ name = cc in let own : bytes_eq name k ≡ true = (bytes_eq-Decides name k).1 (sym same) in rw own refl)

pub unknown_among : (names keys : List (List ℕ)) (name : List ℕ) → first_unknown names keys ≡ Some name → (has_name names name ≡ false) × (has_name keys name ≡ true)
unknown_among names keys name is = (unknown_is names keys name is, unknown_there names keys name is)

-- a struct
struct_explained : (date_form : DateForm) (c : Column) (cs : Columns) → kind_of_column c ≡ structs cs
    → ((ds : Items) → item_count ds ≡ column_count cs → Explained (Why date_form c (Some (json.array ds))) (cells_by_place date_form cs ds) (part_by_place date_form dot 0 cs ds))
    → ((ms : Members) → Explained (Why date_form c (Some (json.object ms))) (cells_by_name date_form cs ms) (part_by_name date_form dot 0 cs ms))
    → (d : Data) → ((e : Refusal) → cells_in date_form cs d ≡ Err e → cell_in date_form c d ≡ Err e)
    → Explained (Why date_form c (Some d)) (cells_in date_form cs d)
    (struct_part (sized_part (column_count cs) (part_by_place date_form dot 0 cs)) (λ ms. option_or (names_part (names_of cs) ms) (part_by_name date_form dot 0 cs ms)) d)
struct_explained date_form c cs kind places names json.null same = is_refused_value c json.null (same WrongKind refl)
struct_explained date_form c cs kind places names (json.boolean b) same = is_refused_value c (json.boolean b) (same WrongKind refl)
struct_explained date_form c cs kind places names (json.number n) same = is_refused_value c (json.number n) (same WrongKind refl)
struct_explained date_form c cs kind places names (json.string t) same = is_refused_value c (json.string t) (same WrongKind refl)
struct_explained date_form c cs kind places names (json.array ds) same = by (item_count ds == column_count cs) refl
  where
    by : (b : Bool) → (item_count ds == column_count cs) ≡ b
        → Explained (Why date_form c (Some (json.array ds))) (if b then cells_by_place date_form cs ds else Err Width) (if b then part_by_place date_form dot 0 cs ds else Some (itself (Count (item_count ds) (column_count cs))))
    by true counted = places ds (eqb-true (item_count ds) (column_count cs) counted)
    by false counted = is_count c ds (column_count cs) (ap size_of_kind kind) (eqb-false (item_count ds) (column_count cs) counted) refl
struct_explained date_form c cs kind places names (json.object ms) same = by (first_repeated (names_of cs)) refl (first_unknown (names_of cs) (keys_of ms)) refl
  where
    by : (r : Option (List ℕ)) → first_repeated (names_of cs) ≡ r → (o : Option (List ℕ)) → first_unknown (names_of cs) (keys_of ms) ≡ o
        → Explained (Why date_form c (Some (json.object ms))) (if repeats (names_of cs) then Err AmbiguousNames else if has_unknown (names_of cs) (keys_of ms) then Err UnknownName else cells_by_name date_form cs ms)
        (option_or (option_or (option_map (at_name Repeated) r) (option_map (at_name Unknown) o)) (part_by_name date_form dot 0 cs ms))
    by (Some name) twice o found =
        let some : repeats (names_of cs) ≡ true = sym (any_repeated (names_of cs)) ∙ ap is_some twice in
        rw some (is_repeated c cs ms name kind (repeated_there (names_of cs) name twice) refl)
    by None twice None found =
        let none : repeats (names_of cs) ≡ false = sym (any_repeated (names_of cs)) ∙ ap is_some twice in
        let all : has_unknown (names_of cs) (keys_of ms) ≡ false = sym (any_unknown (names_of cs) (keys_of ms)) ∙ ap is_some found in
        rw (none, all) (names ms)
    by None twice (Some name) found =
        let none : repeats (names_of cs) ≡ false = sym (any_repeated (names_of cs)) ∙ ap is_some twice in
        let some : has_unknown (names_of cs) (keys_of ms) ≡ true = sym (any_unknown (names_of cs) (keys_of ms)) ∙ ap is_some found in
        let is = unknown_among (names_of cs) (keys_of ms) name found in
        rw (none, some) (is_unknown c cs ms name kind is.0 is.1 refl)

member_explained : (date_form : DateForm) (c : Column) (o : Option Data) → ((d : Data) → Explained (Why date_form c (Some d)) (cell_in date_form c d) (cell_part date_form c d))
    → Explained (Why date_form c o) (member_in (is_nullable_column c) (cell_in date_form c) o) (member_part (is_nullable_column c) (cell_part date_form c) o)
member_explained date_form c (Some d) each = each d
member_explained date_form c None each = by (is_nullable_column c) refl
  where
    by : (b : Bool) → is_nullable_column c ≡ b → Explained (Why date_form c None) (absent b) (if b then None else Some (itself Missing))
    by true is = tt
    by false is = is_missing c is refl

column_explained : (date_form : DateForm) (name : List ℕ) (nullable : Bool) (kind : Kind) (i : _) (p : _) (d : Data)
    → (((e : Refusal) → kind_in date_form kind d ≡ Err e → cell_in date_form (column name nullable kind i p) d ≡ Err e) → Explained (Why date_form (column name nullable kind i p) (Some d)) (kind_in date_form kind d) (kind_part date_form kind d))
    → Explained (Why date_form (column name nullable kind i p) (Some d)) (cell_in date_form (column name nullable kind i p) d) (cell_part date_form (column name nullable kind i p) d)
unfolding cell_in cell_part
column_explained date_form name true kind i p json.null more = tt
column_explained date_form name false kind i p json.null more = is_refused_value (column name false kind i p) json.null refl
column_explained date_form name nullable kind i p _ more = more (λ e h. h)

-- the place of a field, where the first has the index 0
pub from_none : (index : ℕ) (place : List ℕ) → ((0 + index) ∷ place) ≡ (index ∷ place)
from_none index place = (let same : 0 + index ≡ index = omega arith in ap (λ (n : ℕ). n ∷ place) same)

-- in a field of a struct
in_struct : (date_form : DateForm) (c : Column) (cs : Columns) (d : Data) (p : PlainValuePart) (e : Refusal) → kind_of_column c ≡ structs cs → Within date_form dot 0 cs d p e → Why date_form c (Some d) p e
in_struct date_form c cs d p e kind h = rw (h.leads, h.placed ∙ from_none h.index h.place) (in_field c h.column d h.index h.path h.place p.reason (rw kind h.stands) h.refused)

-- in the first column, from an array and from an object, and in another one
first_of : (first : ℕ) (place : List ℕ) → (first ∷ place) ≡ ((first + 0) ∷ place)
first_of first place = (let here : first ≡ first + 0 = omega arith in ap (λ (n : ℕ). n ∷ place) here)

next_of : (first index : ℕ) (place : List ℕ) → ((first + 1 + index) ∷ place) ≡ ((first + suc index) ∷ place)
next_of first index place = (let next : first + 1 + index ≡ first + suc index = omega arith in ap (λ (n : ℕ). n ∷ place) next)

place_here : (date_form : DateForm) (before : List ℕ) (first : ℕ) (c : Column) (cs : Columns) (d : Data) (ds : Items) (p : PlainValuePart) (e : Refusal) → Why date_form c (Some d) p e
    → Within date_form before first (and_column c cs) (json.array (item d ds)) (below (before ++ name_of_column c) first p) e
place_here date_form before first c cs d ds p e h =
    record { index = 0; column = c; path = p.path; place = p.place; stands = refl; leads = refl; placed = first_of first p.place; refused = h }

place_later : (date_form : DateForm) (before : List ℕ) (first : ℕ) (c : Column) (cs : Columns) (d : Data) (ds : Items) (p : PlainValuePart) (e : Refusal) → Within date_form before (first + 1) cs (json.array ds) p e
    → Within date_form before first (and_column c cs) (json.array (item d ds)) p e
place_later date_form before first c cs d ds p e h =
    record { index = suc h.index; column = h.column; path = h.path; place = h.place; stands = h.stands; leads = h.leads; placed = h.placed ∙ next_of first h.index h.place; refused = h.refused }

name_here : (date_form : DateForm) (before : List ℕ) (first : ℕ) (c : Column) (cs : Columns) (ms : Members) (p : PlainValuePart) (e : Refusal) → Why date_form c (get_member (name_of_column c) ms) p e
    → Within date_form before first (and_column c cs) (json.object ms) (below (before ++ name_of_column c) first p) e
name_here date_form before first c cs ms p e h =
    record { index = 0; column = c; path = p.path; place = p.place; stands = refl; leads = refl; placed = first_of first p.place; refused = h }

name_later : (date_form : DateForm) (before : List ℕ) (first : ℕ) (c : Column) (cs : Columns) (ms : Members) (p : PlainValuePart) (e : Refusal) → Within date_form before (first + 1) cs (json.object ms) p e
    → Within date_form before first (and_column c cs) (json.object ms) p e
name_later date_form before first c cs ms p e h =
    record { index = suc h.index; column = h.column; path = h.path; place = h.place; stands = h.stands; leads = h.leads; placed = h.placed ∙ next_of first h.index h.place; refused = h.refused }

mutual
  unfolding kind_in cells_by_place cells_by_name kind_part part_by_place part_by_name

  explained : (date_form : DateForm) (c : Column) (d : Data) → Explained (Why date_form c (Some d)) (cell_in date_form c d) (cell_part date_form c d)
  explained date_form (column name nullable kind i p) d = column_explained date_form name nullable kind i p d (λ same. kind_explained date_form kind (column name nullable kind i p) refl d same)

  kind_explained : (date_form : DateForm) (kind : Kind) (c : Column) → kind_of_column c ≡ kind → (d : Data) → ((e : Refusal) → kind_in date_form kind d ≡ Err e → cell_in date_form c d ≡ Err e) → Explained (Why date_form c (Some d)) (kind_in date_form kind d) (kind_part date_form kind d)
  kind_explained date_form nulls c is d same = flat_explained date_form c d (kind_in date_form nulls d) same
  kind_explained date_form booleans c is d same = flat_explained date_form c d (kind_in date_form booleans d) same
  kind_explained date_form (integers bits signed) c is d same = flat_explained date_form c d (kind_in date_form (integers bits signed) d) same
  kind_explained date_form (dates unit) c is d same = flat_explained date_form c d (kind_in date_form (dates unit) d) same
  kind_explained date_form (timestamps unit timezone) c is d same = flat_explained date_form c d (kind_in date_form (timestamps unit timezone) d) same
  kind_explained date_form texts c is d same = flat_explained date_form c d (kind_in date_form texts d) same
  kind_explained date_form large_texts c is d same = flat_explained date_form c d (kind_in date_form large_texts d) same
  kind_explained date_form binaries c is d same = flat_explained date_form c d (kind_in date_form binaries d) same
  kind_explained date_form large_binaries c is d same = flat_explained date_form c d (kind_in date_form large_binaries d) same
  kind_explained date_form (fixed_binaries width) c is d same = flat_explained date_form c d (kind_in date_form (fixed_binaries width) d) same
  kind_explained date_form (lists inner) c is d same = list_explained date_form c inner (ap item_of_kind is) (λ x. explained date_form inner x) d same
  kind_explained date_form (large_lists inner) c is d same = list_explained date_form c inner (ap item_of_kind is) (λ x. explained date_form inner x) d same
  kind_explained date_form (fixed_lists size inner) c is d same = fixed_list_explained date_form c inner size (ap item_of_kind is) (ap size_of_kind is) (λ x. explained date_form inner x) d same
  kind_explained date_form (structs cs) c is d same =
      given_explained (Why date_form c (Some d)) parts (cells_in date_form cs d) (kind_part date_form (structs cs) d)
      (struct_explained date_form c cs is
      (λ ds size.
      mapped_explained (Within date_form dot 0 cs (json.array ds)) (Why date_form c (Some (json.array ds))) (cells_by_place date_form cs ds) (part_by_place date_form dot 0 cs ds)
      (λ p e h. in_struct date_form c cs (json.array ds) p e is h)
      (place_explained date_form cs dot 0 ds size))
      (λ ms.
      mapped_explained (Within date_form dot 0 cs (json.object ms)) (Why date_form c (Some (json.object ms))) (cells_by_name date_form cs ms) (part_by_name date_form dot 0 cs ms)
      (λ p e h. in_struct date_form c cs (json.object ms) p e is h)
      (name_explained date_form cs dot 0 ms))
      d
      (λ e h. same e (ap (λ (r : Result Cells Refusal). given parts r) h)))

  pub place_explained : (date_form : DateForm) (cs : Columns) (before : List ℕ) (first : ℕ) (ds : Items) → item_count ds ≡ column_count cs
      → Explained (Within date_form before first cs (json.array ds)) (cells_by_place date_form cs ds) (part_by_place date_form before first cs ds)
  place_explained date_form no_column before first ds size = tt
  place_explained date_form (and_column c cs) before first no_items size = absurd (omega arith)
  place_explained date_form (and_column c cs) before first (item d ds) size =
      let why = Within date_form before first (and_column c cs) (json.array (item d ds)) in
      step_explained why (before ++ name_of_column c) first (cell_in date_form c d) (cell_part date_form c d) (cells_by_place date_form cs ds) (part_by_place date_form before (first + 1) cs ds)
      (mapped_explained (Why date_form c (Some d)) (λ p e. why (below (before ++ name_of_column c) first p) e) (cell_in date_form c d) (cell_part date_form c d) (place_here date_form before first c cs d ds) (explained date_form c d))
      (mapped_explained (Within date_form before (first + 1) cs (json.array ds)) why (cells_by_place date_form cs ds) (part_by_place date_form before (first + 1) cs ds) (place_later date_form before first c cs d ds)
      (place_explained date_form cs before (first + 1) ds (omega arith)))

  pub name_explained : (date_form : DateForm) (cs : Columns) (before : List ℕ) (first : ℕ) (ms : Members)
      → Explained (Within date_form before first cs (json.object ms)) (cells_by_name date_form cs ms) (part_by_name date_form before first cs ms)
  name_explained date_form no_column before first ms = tt
  name_explained date_form (and_column c cs) before first ms =
      let why = Within date_form before first (and_column c cs) (json.object ms) in
      let found = get_member (name_of_column c) ms in
      let cell = member_in (is_nullable_column c) (cell_in date_form c) found in
      let part = member_part (is_nullable_column c) (cell_part date_form c) found in
      step_explained why (before ++ name_of_column c) first cell part (cells_by_name date_form cs ms) (part_by_name date_form before (first + 1) cs ms)
      (mapped_explained (Why date_form c found) (λ p e. why (below (before ++ name_of_column c) first p) e) cell part (name_here date_form before first c cs ms) (member_explained date_form c found (λ x. explained date_form c x)))
      (mapped_explained (Within date_form before (first + 1) cs (json.object ms)) why (cells_by_name date_form cs ms) (part_by_name date_form before (first + 1) cs ms) (name_later date_form before first c cs ms)
      (name_explained date_form cs before (first + 1) ms))
