-- Names and members of objects.
use Rattle.std.proofs.Common.{◌≡◌, ℕ, Bool, true, false, ◌||◌, List, [], ◌∷◌, ◌++◌, map, refl, sym, ap, ◌∙◌}
use Rattle.std.specs.Prelude.{bytes_eq, length, String, string_bytes, Result, Ok, Err}
use Rattle.std.specs.Global.{Global}
use Rattle.std.specs.Borrow.{Bor}
use Rattle.std.specs.Map.{keys_of as keys_of_entries}
use Rattle.std.proofs.Common.{arith}
use Rattle.std.proofs.lemmas.Bool.{ne_eqb, eq-eqb, or_right}
use Rattle.serde_json.specs.Data.{Data, Items, Members}
use Rattle.serde_json.specs.View.{view, items_view, members_view}
use Rattle.serde_json.specs.declared.value.Value.{Value}
use Rattle.arrow_schema.specs.Column.{Column, Columns, no_column, and_column, columns_of, PlainSchema}
use Rattle.arrow_schema.specs.View.{column_of}
use Rattle.arrow_schema.specs.declared.types.Field.{Field}
use Rattle.std.specs.Prelude.{not, filter, ◌+◌, ◌<◌, get_or, drop, Option, if◌then◌else◌}
use Rattle.std.proofs.lemmas.List.{drop_more}
use Rattle.cells.specs.declared.row.Row.{Row}
use Rattle.cells.specs.Row.{row_of}
use Rattle.text_import.specs.declared.refusal.Refused.{Refused}
use Rattle.text_import.specs.declared.refusal.CellError.{CellError}
use Rattle.text_import.specs.Refusals.{refusal_of, numbered, and_then}
use Rattle.facts.specs.Outcomes.{Gives, Reports}
use Rattle.facts.specs.Texts.{text_list}
use Rattle.text_import.specs.Rows.{rows_from}
use Rattle.cells.specs.Cell.{Cell, Cells, cells_of}
use Rattle.text_import.specs.declared.refusal.Refusal.{Refusal}
use Rattle.text_import.specs.declared.refusal.Refusal.TheVariants.{Width, AmbiguousNames, UnknownName}
use Rattle.text_import.specs.inner.Names.{member_of, tested}
use Rattle.text_import.proofs.RowLemmas.{cells_behind, cells_behind_more, cells_behind_end}
use Rattle.text_import.specs.laws.Behind.{behind, told, row_more, row_refused, rows_end}
use Rattle.std.specs.List.{list_any}
use Rattle.std.proofs.lemmas.Bool.{false≢true}
use Rattle.std.proofs.lemmas.Bool.Decides.{same_from_decides, Decides-like}
use Rattle.std.proofs.lemmas.Slice.Eq.{bytes_eq-Decides}
use Rattle.text_import.specs.Objects.{has_name, has_unknown, named_parts, repeats, keys_of, item_count, column_count, sized, each_item, cell_in, cells_by_place, cells_by_name, is_blank, line_row}
use Rattle.civil_days.specs.declared.date_form.DateForm.{DateForm}

pub columns_counted : (cs : List Column) → column_count (columns_of cs) ≡ length cs
columns_counted [] = refl
columns_counted (c ∷ cs) = let e = columns_counted cs in omega (arith, e)

pub bytes_eq_sym : (a b : List ℕ) → bytes_eq a b ≡ bytes_eq b a
bytes_eq_sym a b = same_from_decides (bytes_eq a b) (bytes_eq b a) (bytes_eq-Decides a b) (Decides-like (bytes_eq b a) sym sym (bytes_eq-Decides b a))

among_later : (xs ys : List (List ℕ)) (x y : List ℕ) → bytes_eq x y ≡ true → has_name (xs ++ x ∷ ys) y ≡ true
among_later [] ys x y e = rw (bytes_eq_sym y x, e) refl
among_later (z ∷ zs) ys x y e = or_right (bytes_eq y z) _ (among_later zs ys x y e)

-- a name that stands among those before it
pub repeats_at : (xs ys : List (List ℕ)) (x : List ℕ) → has_name xs x ≡ true → repeats (xs ++ x ∷ ys) ≡ true
repeats_at [] ys x e = absurd (false≢true e)
repeats_at (y ∷ zs) ys x e = by (bytes_eq x y) refl e (repeats_at zs ys x)
  where
    by : (b : Bool) → bytes_eq x y ≡ b → (b || has_name zs x) ≡ true → (has_name zs x ≡ true → repeats (zs ++ x ∷ ys) ≡ true) → repeats ((y ∷ zs) ++ x ∷ ys) ≡ true
    by true is h more = rw (among_later zs ys x y is) refl
    by false is h more = or_right (has_name (zs ++ x ∷ ys) y) _ (more h)

any_append : (k : List ℕ) (xs ys : List (List ℕ)) → has_name (xs ++ ys) k ≡ (has_name xs k || has_name ys k)
any_append k [] ys = refl
any_append k (x ∷ xs) ys = by (bytes_eq k x) (any_append k xs ys)
  where
    by : (b : Bool) → has_name (xs ++ ys) k ≡ (has_name xs k || has_name ys k) → (b || has_name (xs ++ ys) k) ≡ ((b || has_name xs k) || has_name ys k)
    by true e = refl
    by false e = e

turned : (a b c d : Bool) → ((a || (b || false)) || (c || d)) ≡ ((b || c) || (a || d))
turned true true c d = refl
turned true false true d = refl
turned true false false d = refl
turned false true c d = refl
turned false false c d = refl

-- a name that does not stand among those before it repeats none
pub repeats_more : (xs : List (List ℕ)) (x : List ℕ) → repeats (xs ++ x ∷ []) ≡ (has_name xs x || repeats xs)
repeats_more [] x = refl
repeats_more (y ∷ ys) x =
    rw (any_append y ys (x ∷ []), repeats_more ys x, bytes_eq_sym y x) (turned (has_name ys y) (bytes_eq x y) (has_name ys x) (repeats ys))

-- names as the code keeps them
pub among_texts : (k : Bor (List ℕ)) (ks : List (Bor (List ℕ))) → list_any (λ (q : Bor (List ℕ)). bytes_eq k.now q.now) ks ≡ has_name (text_list ks) k.now
among_texts k [] = refl
among_texts k (q ∷ ks) = ap (λ b. bytes_eq k.now q.now || b) (among_texts k ks)

pub keys_listed : (es : List (String Global × Value)) → map string_bytes (keys_of_entries es) ≡ keys_of (members_view es)
keys_listed [] = refl
keys_listed (e ∷ es) = ap (λ ks. string_bytes e.0 ∷ ks) (keys_listed es)

-- counts
pub item_count_is : (vs : List Value) → item_count (items_view vs) ≡ length vs
item_count_is [] = refl
item_count_is (v ∷ vs) = let e = item_count_is vs in omega arith

pub column_count_is : (fs : List Field) → column_count (columns_of (map column_of fs)) ≡ length fs
column_count_is [] = refl
column_count_is (f ∷ fs) = let e = column_count_is fs in omega arith

pub sized_no : {A : Type 0} (size : ℕ) (f : Items → Result A Refusal) (vs : List Value) → (length vs ≡ size → ⊥) → sized size f (items_view vs) ≡ Err Width
sized_no size f vs h = rw (item_count_is vs, ne_eqb (length vs) size h) refl

pub sized_yes : {A : Type 0} (size : ℕ) (f : Items → Result A Refusal) (vs : List Value) → length vs ≡ size → sized size f (items_view vs) ≡ f (items_view vs)
sized_yes size f vs h = rw (item_count_is vs, eq-eqb (length vs) size h) refl

pub ruleset sized_rules = (sized_no, sized_yes, column_count_is)

-- the names are asked first
pub named_first : (names : List (List ℕ)) (f : Members → Result Cells Refusal) (ms : Members) → named_parts names f ms ≡ and_then (tested names ms) f
named_first names f ms = by (repeats names) (has_unknown names (keys_of ms))
  where
    by : (twice other : Bool) → (if twice then Err AmbiguousNames else if other then Err UnknownName else f ms) ≡ and_then (if twice then Err AmbiguousNames else if other then Err UnknownName else Ok ms) f
    by true other = refl
    by false true = refl
    by false false = refl

-- one more item, or part, and the end
pub item_more : (f : Data → Result Cell Refusal) (so : List Cell) (v : Value) (vs : List Value) (x : Cell) → f (view v) ≡ Ok x
    → cells_behind so (each_item f (items_view (v ∷ vs))) ≡ cells_behind (so ++ x ∷ []) (each_item f (items_view vs))
item_more f so v vs x e = rw e (cells_behind_more so x (each_item f (items_view vs)))

pub place_more : (date_form : DateForm) (so : List Cell) (c : Column) (cs : Columns) (v : Value) (vs : List Value) (x : Cell) → cell_in date_form c (view v) ≡ Ok x
    → cells_behind so (cells_by_place date_form (and_column c cs) (items_view (v ∷ vs))) ≡ cells_behind (so ++ x ∷ []) (cells_by_place date_form cs (items_view vs))
unfolding cells_by_place
place_more date_form so c cs v vs x e = rw e (cells_behind_more so x (cells_by_place date_form cs (items_view vs)))

pub places_end : (date_form : DateForm) (so : List Cell) (ds : Items) → cells_behind so (cells_by_place date_form no_column ds) ≡ Ok (cells_of so)
unfolding cells_by_place
places_end date_form so ds = cells_behind_end so

pub name_more : (date_form : DateForm) (so : List Cell) (c : Column) (cs : Columns) (ms : Members) (x : Cell) → member_of date_form c ms ≡ Ok x
    → cells_behind so (cells_by_name date_form (and_column c cs) ms) ≡ cells_behind (so ++ x ∷ []) (cells_by_name date_form cs ms)
unfolding cells_by_name
name_more date_form so c cs ms x e = rw e (cells_behind_more so x (cells_by_name date_form cs ms))

pub names_end : (date_form : DateForm) (so : List Cell) (ms : Members) → cells_behind so (cells_by_name date_form no_column ms) ≡ Ok (cells_of so)
unfolding cells_by_name
names_end date_form so ms = cells_behind_end so

-- one that is refused
pub item_refused : (f : Data → Result Cell Refusal) (so : List Cell) (v : Value) (vs : List Value) (r : Refusal) → f (view v) ≡ Err r → cells_behind so (each_item f (items_view (v ∷ vs))) ≡ Err r
item_refused f so v vs r e = rw e refl

pub place_refused : (date_form : DateForm) (so : List Cell) (c : Column) (cs : Columns) (v : Value) (vs : List Value) (r : Refusal) → cell_in date_form c (view v) ≡ Err r
    → cells_behind so (cells_by_place date_form (and_column c cs) (items_view (v ∷ vs))) ≡ Err r
unfolding cells_by_place
place_refused date_form so c cs v vs r e = rw e refl

pub name_refused : (date_form : DateForm) (so : List Cell) (c : Column) (cs : Columns) (ms : Members) (r : Refusal) → member_of date_form c ms ≡ Err r → cells_behind so (cells_by_name date_form (and_column c cs) ms) ≡ Err r
unfolding cells_by_name
name_refused date_form so c cs ms r e = rw e refl

-- the rows of the lines from a place on
abbrev pub rows_of_lines : (date_form : DateForm) → PlainSchema → ℕ → List (Bor (List ℕ)) → Result (List (List Cell)) Refused
rows_of_lines date_form s n lines = rows_from (line_row date_form s) n (filter (λ line. not (is_blank line)) (text_list lines))

filled_at : (date_form : DateForm) (s : PlainSchema) (n : ℕ) (line : Bor (List ℕ)) (lines : List (Bor (List ℕ))) → is_blank line.now ≡ false
    → rows_of_lines date_form s n (line ∷ lines) ≡ rows_from (line_row date_form s) n (line.now ∷ filter (λ l. not (is_blank l)) (text_list lines))
filled_at date_form s n line lines e = rw e refl

skipped_at : (date_form : DateForm) (s : PlainSchema) (n : ℕ) (line : Bor (List ℕ)) (lines : List (Bor (List ℕ))) → is_blank line.now ≡ true → rows_of_lines date_form s n (line ∷ lines) ≡ rows_of_lines date_form s n lines
skipped_at date_form s n line lines e = rw e refl

-- a line that is skipped, one that is read, and one that is refused
pub line_skipped : (date_form : DateForm) (s : PlainSchema) (lines : List (Bor (List ℕ))) (i : ℕ) (d : Bor (List ℕ)) (n : ℕ) → i < length lines → is_blank (get_or lines i d).now ≡ true
    → rows_of_lines date_form s n (drop i lines) ≡ rows_of_lines date_form s n (drop (i + 1) lines)
line_skipped date_form s lines i d n lt e = ap (rows_of_lines date_form s n) (drop_more lines i d lt) ∙ skipped_at date_form s n (get_or lines i d) (drop (i + 1) lines) e

pub line_more : (date_form : DateForm) (s : PlainSchema) (lines : List (Bor (List ℕ))) (i : ℕ) (d : Bor (List ℕ)) (n m : ℕ) (so : List (List Cell)) (row : List Cell) (r : Result Row CellError)
    → i < length lines → is_blank (get_or lines i d).now ≡ false → Gives refusal_of row_of r (line_row date_form s (get_or lines i d).now)
    → ((R : Result (List Cell) Refusal) → Gives refusal_of row_of r R → numbered n R ≡ Ok row) → n ≡ m
    → behind so (rows_of_lines date_form s m (drop i lines)) ≡ behind (so ++ row ∷ []) (rows_of_lines date_form s (m + 1) (drop (i + 1) lines))
line_more date_form s lines i d n m so row r lt e given_row made is =
    let x = (get_or lines i d).now in
    let read : numbered m (line_row date_form s x) ≡ Ok row = rw is at (made (line_row date_form s x) given_row) in
    ap (λ (xs : List (Bor (List ℕ))). behind so (rows_of_lines date_form s m xs)) (drop_more lines i d lt)
    ∙ ap (behind so) (filled_at date_form s m (get_or lines i d) (drop (i + 1) lines) e)
    ∙ row_more (line_row date_form s) m so x (filter (λ l. not (is_blank l)) (text_list (drop (i + 1) lines))) row read

pub line_refused : (date_form : DateForm) (s : PlainSchema) (lines : List (Bor (List ℕ))) (i : ℕ) (d : Bor (List ℕ)) (n m : ℕ) (so : List (List Cell)) (o : Option Refused) (r : Result Row CellError)
    → i < length lines → is_blank (get_or lines i d).now ≡ false → Gives refusal_of row_of r (line_row date_form s (get_or lines i d).now)
    → ((R : Result (List Cell) Refusal) → Gives refusal_of row_of r R → Reports o (numbered n R)) → n ≡ m
    → Reports o (behind so (rows_of_lines date_form s m (drop i lines)))
line_refused date_form s lines i d n m so o r lt e given_row made is =
    let x = (get_or lines i d).now in
    let reported : Reports o (numbered m (line_row date_form s x)) = rw is at (made (line_row date_form s x) given_row) in
    told o (numbered m (line_row date_form s x)) (behind so (rows_of_lines date_form s m (drop i lines))) reported (λ f no.
    ap (λ (xs : List (Bor (List ℕ))). behind so (rows_of_lines date_form s m xs)) (drop_more lines i d lt)
    ∙ ap (behind so) (filled_at date_form s m (get_or lines i d) (drop (i + 1) lines) e)
    ∙ row_refused (line_row date_form s) m so x (filter (λ l. not (is_blank l)) (text_list (drop (i + 1) lines))) f no)

pub lines_end : (date_form : DateForm) (s : PlainSchema) (n : ℕ) (so : List (List Cell)) → behind so (rows_of_lines date_form s n []) ≡ Ok so
lines_end date_form s n so = rows_end (line_row date_form s) n so
