-- Lines of the rows of record batches.
use Rattle.std.specs.Prelude.{nat_le, codes, if◌then◌else◌}
use Rattle.std.specs.List.{range_with_len}
use Rattle.std.proofs.Common.{◌≡◌, ℕ, zero, suc, ◌+◌, ◌-◌, ◌<◌, ◌≤◌, Bool, true, List, [], ◌∷◌, ◌++◌, map, length, get_or, take, drop, refl, sym, ap, subst, ◌∙◌, append_assoc, arith}
use Rattle.std.proofs.lemmas.Bool.{and_parts, leb-true, lt-ltb}
use Rattle.std.proofs.lemmas.List.{append-nil}
use Rattle.std.proofs.lemmas.List.FromFn.{get_or-map-range_with_len, length-map-range_with_len, map-range_with_len_more, take-map-range_with_len}
use Rattle.facts.specs.laws.Lists.{maps_same}
use Rattle.json.specs.Print.{quoted}
use Rattle.arrow_schema.specs.Column.{Column, columns_of}
use Rattle.arrow_schema.specs.Parts.{name_of_column}
use Rattle.arrow_schema.specs.View.{column_of}
use Rattle.arrow_schema.specs.declared.types.Field.{Field}
use Rattle.cells.specs.Cell.{Cell, Cells, no_cell, and_cell, cells_of, cell_list}
use Rattle.cells.specs.laws.Cells.{cells_list}
use Rattle.civil_days.specs.declared.date_form.DateForm.{DateForm}
use Rattle.civil_days.specs.declared.date_form.DateForm.TheVariants.{Numbers, Iso}
use Rattle.columns.specs.Array.{slots_in}
use Rattle.columns.specs.CellAt.{cell_at, part_cells, row_at}
use Rattle.columns.specs.Sound.{is_sound, are_sound}
use Rattle.columns.specs.Texts.{has_utf8_texts, have_utf8_texts}
use Rattle.columns.specs.View.{view_array, fields_of}
use Rattle.columns.specs.laws.Rows.{fewer_sound}
use Rattle.query.specs.BatchArrays.{arrays_of, rows_of, has_texts, is_readable}
use Rattle.query.specs.Line.{json_of, json_of_all, json_of_others}
use Rattle.query.specs.ObjectLine.{members, other_members, line_of_shape, line_in, lines_text}
use Rattle.query.specs.Shown.{dated_cell, dated_cells, shown_cell, shown_row}
use Rattle.query.specs.declared.batch_arrays.BatchArrays.{BatchArrays}
use Rattle.query.specs.declared.column_slots.ColumnSlots.{ColumnSlots}
use Rattle.query.specs.declared.row_form.RowForm.{RowForm}
use Rattle.query.specs.declared.row_form.RowShape.{RowShape}
use Rattle.query.specs.declared.row_form.RowShape.TheVariants as shapes
use Rattle.query.specs.inner.ColumnSlots.{AreColumns, slot_columns, slot_arrays, slot_cells, slot_row, HasBuffers, AreReadable}
use Rattle.query.specs.inner.SlotLines.{opening, closing, separator, lead, rest_of_shape, line_of_cells, shown_cells, rest_of_line}
use Rattle.query.specs.laws.Lines.{lines_append}
use Rattle.query.proofs.ColumnSlots.{cells_are, sound_are, buffers_all}
use Rattle.query.specs.laws.Tests.{all_here}

-- ---- lines

-- of no slot
pub no_line : (form : RowForm) (cs : List Column) (row : ℕ → List Cell) (from n : ℕ) (out : List ℕ) → n ≡ 0 → out ≡ out ++ lines_text form cs (map row (range_with_len from n))
no_line form cs row from n out none = sym (append-nil out) ∙ ap (λ (k : ℕ). out ++ lines_text form cs (map row (range_with_len from k))) (sym none)

-- of one slot more
pub line_more : (form : RowForm) (cs : List Column) (row : ℕ → List Cell) (from k slot more : ℕ) (start out new : List ℕ) → from + k ≡ slot → more ≡ k + 1
    → out ≡ start ++ lines_text form cs (map row (range_with_len from k)) → new ≡ out ++ (line_in form cs (row slot) ++ codes "\n")
    → new ≡ start ++ lines_text form cs (map row (range_with_len from more))
line_more form cs row from k slot more start out new at is h added =
    let before = map row (range_with_len from k) in
    added
    ∙ ap (λ (ys : List ℕ). ys ++ (line_in form cs (row slot) ++ codes "\n")) h
    ∙ append_assoc start (lines_text form cs before) (line_in form cs (row slot) ++ codes "\n")
    ∙ ap (λ (ys : List ℕ). start ++ (lines_text form cs before ++ ys)) (sym (append-nil (line_in form cs (row slot) ++ codes "\n")))
    ∙ ap (λ (ys : List ℕ). start ++ ys) (sym (lines_append form cs before (row slot ∷ [])) ∙ ap (lines_text form cs) (sym (map-range_with_len_more row from k slot at)))
    ∙ ap (λ (n : ℕ). start ++ lines_text form cs (map row (range_with_len from n))) (sym is)

rows_behind : {X : Type 0} (row : ℕ → X) (a m n : ℕ) → drop m (map row (range_with_len a (m + n))) ≡ map row (range_with_len (a + m) n)
rows_behind row a zero n =
    let e : 0 + n ≡ n = omega arith in
    let g : a + 0 ≡ a = omega arith in
    rw (e, g) refl
rows_behind row a (suc m) n =
    let e : suc m + n ≡ suc (m + n) = omega arith in
    let g : a + suc m ≡ a + 1 + m = omega arith in
    rw (e, g) (rows_behind row (a + 1) m n)

-- the rows at some slots of all
pub rows_between : {X : Type 0} (row : ℕ → X) (m n slots : ℕ) → m + n ≤ slots → take n (drop m (map row (range_with_len 0 slots))) ≡ map row (range_with_len m n)
rows_between row m n slots within =
    let whole : slots ≡ m + (slots - m) = omega arith in
    let here : 0 + m ≡ m = omega arith in
    ap (λ (k : ℕ). take n (drop m (map row (range_with_len 0 k)))) whole
    ∙ ap (take n) (rows_behind row 0 m (slots - m))
    ∙ ap (λ (k : ℕ). take n (map row (range_with_len k (slots - m)))) here
    ∙ take-map-range_with_len row m (slots - m) n (omega arith)

-- ---- a line

separator_some : (k : ℕ) → separator (suc k) ≡ codes ","
separator_some k = ap (λ (b : Bool). if b then codes "," else []) (lt-ltb 0 (suc k) (omega arith))

-- the values from a column on are its own, with what stands before it, and the others
pub led : (shape : RowShape) (k : ℕ) (c : Column) (cs : List Column) (x : Cell) (xs : Cells) → rest_of_shape shape k (c ∷ cs) (and_cell x xs) ≡ lead shape k c ++ (json_of x ++ rest_of_shape shape (k + 1) cs xs)
unfolding json_of_all json_of_others members other_members
led shapes.Array zero c cs x xs = refl
led shapes.Array (suc k) c cs x xs =
    let e : suc k + 1 ≡ suc (k + 1) = omega arith in
    ap (λ (t : List ℕ). t ++ (json_of x ++ json_of_others xs)) (sym (separator_some k))
    ∙ ap (λ (n : ℕ). separator (suc k) ++ (json_of x ++ rest_of_shape shapes.Array n cs xs)) (sym e)
led shapes.Object zero c cs x xs = append_assoc (quoted (name_of_column c) ++ codes ":") (json_of x) (other_members (map name_of_column cs) (cell_list xs))
led shapes.Object (suc k) c cs x xs =
    let e : suc k + 1 ≡ suc (k + 1) = omega arith in
    let name = quoted (name_of_column c) in
    let others = other_members (map name_of_column cs) (cell_list xs) in
    ap (λ (t : List ℕ). 44 ∷ t) (append_assoc (name ++ codes ":") (json_of x) others)
    ∙ ap (λ (t : List ℕ). t ++ name ++ codes ":" ++ (json_of x ++ others)) (sym (separator_some k))
    ∙ ap (λ (n : ℕ). lead shapes.Object (suc k) c ++ (json_of x ++ rest_of_shape shapes.Object n cs xs)) (sym e)

pub none_left : (shape : RowShape) (k : ℕ) → rest_of_shape shape k [] no_cell ≡ []
unfolding json_of_all json_of_others members other_members
none_left shapes.Array zero = refl
none_left shapes.Array (suc k) = refl
none_left shapes.Object zero = refl
none_left shapes.Object (suc k) = refl

-- the same of cells as they are printed
led_shown : (shape : RowShape) (dates : DateForm) (k : ℕ) (c : Column) (cs : List Column) (x : Cell) (xs : Cells)
    → rest_of_shape shape k (c ∷ cs) (shown_cells dates (c ∷ cs) (and_cell x xs)) ≡ lead shape k c ++ (json_of (shown_cell dates c x) ++ rest_of_shape shape (k + 1) cs (shown_cells dates cs xs))
unfolding dated_cells
led_shown shape Numbers k c cs x xs = led shape k c cs x xs
led_shown shape Iso k c cs x xs = led shape k c cs (dated_cell c x) (dated_cells (columns_of cs) xs)

none_shown : (shape : RowShape) (dates : DateForm) (k : ℕ) → rest_of_shape shape k [] (shown_cells dates [] no_cell) ≡ []
unfolding dated_cells
none_shown shape Numbers k = none_left shape k
none_shown shape Iso k = none_left shape k

-- what is printed after other texts
pub pushed : (out a b one two rest whole : List ℕ) → one ≡ out ++ a → two ≡ one ++ b → whole ≡ a ++ (b ++ rest) → two ++ rest ≡ out ++ whole
pushed out a b one two rest whole first second is =
    ap (λ (t : List ℕ). t ++ rest) (second ∙ ap (λ (t : List ℕ). t ++ b) first)
    ∙ append_assoc (out ++ a) b rest
    ∙ append_assoc out a (b ++ rest)
    ∙ ap (λ (t : List ℕ). out ++ t) (sym is)

-- ---- the first of some columns

-- fewer slots
pub fewer_readable : (form : DateForm) (ss : List ColumnSlots) (slots fewer : ℕ) → fewer ≤ slots → AreReadable form ss slots → AreReadable form ss fewer
fewer_readable form ss slots fewer le h = record {
  buffers = h.buffers;
  sound = fewer_sound (columns_of (slot_columns ss)) (slot_arrays ss) slots fewer h.sound le;
  texts = λ slot lt. h.texts slot (omega (arith, lt, le));
}

-- it can be read
pub record IsFirst (form : DateForm) (s : ColumnSlots) (ss : List ColumnSlots) (slots : ℕ) : Type 0 where
  pub long : slots ≤ slots_in (view_array s.view)
  pub sound : is_sound (column_of s.field.now) (view_array s.view) ≡ true
  pub texts : (slot : ℕ) → slot < slots → has_utf8_texts (cell_at (column_of s.field.now) (view_array s.view) slot) ≡ true
  pub buffers : HasBuffers form s
  pub others : AreReadable form ss slots

pub first_readable : (form : DateForm) (s : ColumnSlots) (ss : List ColumnSlots) (slots : ℕ) → AreReadable form (s ∷ ss) slots → IsFirst form s ss slots
unfolding are_sound part_cells have_utf8_texts
first_readable form s ss slots h =
    let a = view_array s.view in
    let long = and_parts (nat_le slots (slots_in a)) _ h.sound in
    let both = and_parts (is_sound (column_of s.field.now) a) _ long.1 in
    let texts = λ (slot : ℕ) (lt : slot < slots). and_parts (has_utf8_texts (cell_at (column_of s.field.now) a slot)) (have_utf8_texts (slot_cells ss slot)) (h.texts slot lt) in
    record {
      long = leb-true _ _ long.0;
      sound = both.0;
      texts = λ slot lt. (texts slot lt).0;
      buffers = h.buffers.0;
      others = record { buffers = h.buffers.1; sound = both.1; texts = λ slot lt. (texts slot lt).1 };
    }

-- what is printed of it, and what is left
pub text_next : (form : RowForm) (s : ColumnSlots) (ss : List ColumnSlots) (k slot : ℕ) (out one two whole : List ℕ)
    → one ≡ out ++ lead form.shape k (column_of s.field.now) → two ≡ one ++ json_of (shown_cell form.dates (column_of s.field.now) (cell_at (column_of s.field.now) (view_array s.view) slot))
    → out ++ rest_of_line form k (slot_columns (s ∷ ss)) (slot_cells (s ∷ ss) slot) ≡ whole
    → two ++ rest_of_line form (k + 1) (slot_columns ss) (slot_cells ss slot) ≡ whole
unfolding part_cells
text_next form s ss k slot out one two whole first second h =
    let c = column_of s.field.now in
    let x = cell_at c (view_array s.view) slot in
    pushed out (lead form.shape k c) (json_of (shown_cell form.dates c x)) one two (rest_of_line form (k + 1) (slot_columns ss) (slot_cells ss slot)) _ first second (led_shown form.shape form.dates k c (slot_columns ss) x (slot_cells ss slot)) ∙ h

-- where no column is left
pub text_done : (form : RowForm) (ss : List ColumnSlots) (k slot : ℕ) (out whole : List ℕ) → ss ≡ [] → out ++ rest_of_line form k (slot_columns ss) (slot_cells ss slot) ≡ whole → out ≡ whole
unfolding part_cells
text_done form ss k slot out whole none h =
    let rest : rest_of_line form k (slot_columns ss) (slot_cells ss slot) ≡ [] = ap (λ (ts : List ColumnSlots). rest_of_line form k (slot_columns ts) (slot_cells ts slot)) none ∙ none_shown form.shape form.dates k in
    sym (append-nil out) ∙ ap (λ (t : List ℕ). out ++ t) (sym rest) ∙ h

-- the whole line
shape_line : (shape : RowShape) (cs : List Column) (cells : Cells)
    → opening shape ++ (rest_of_shape shape 0 cs cells ++ (closing shape ++ codes "\n")) ≡ line_of_shape shape cs (cell_list cells) ++ codes "\n"
shape_line shapes.Array cs cells =
    rw (cells_list cells) (ap (λ (t : List ℕ). 91 ∷ t) (sym (append_assoc (json_of_all cells) (93 ∷ []) (10 ∷ []))))
shape_line shapes.Object cs cells =
    ap (λ (t : List ℕ). 123 ∷ t) (sym (append_assoc (members (map name_of_column cs) (cell_list cells)) (125 ∷ []) (10 ∷ [])))

-- the row of some cells as it is printed
pub row_shown : (dates : DateForm) (cs : List Column) (cells : Cells) → cell_list (shown_cells dates cs cells) ≡ shown_row dates cs (cell_list cells)
row_shown Numbers cs cells = refl
row_shown Iso cs cells = ap (λ (xs : Cells). cell_list (dated_cells (columns_of cs) xs)) (sym (cells_list cells))

pub whole_line : (form : RowForm) (cs : List Column) (cells : Cells)
    → opening form.shape ++ (rest_of_line form 0 cs cells ++ (closing form.shape ++ codes "\n")) ≡ line_in form cs (cell_list cells) ++ codes "\n"
whole_line form cs cells =
    shape_line form.shape cs (shown_cells form.dates cs cells)
    ∙ ap (λ (row : List Cell). line_of_shape form.shape cs row ++ codes "\n") (row_shown form.dates cs cells)

-- the line of a row without its line feed
shape_alone : (shape : RowShape) (cs : List Column) (cells : Cells) → line_of_cells shape cs cells ≡ line_of_shape shape cs (cell_list cells)
shape_alone shapes.Array cs cells = rw (cells_list cells) refl
shape_alone shapes.Object cs cells = refl

pub dated_line : (shape : RowShape) (cs : List Column) (row : List Cell) → line_of_cells shape cs (dated_cells (columns_of cs) (cells_of row)) ≡ line_of_shape shape cs (shown_row Iso cs row)
dated_line shape cs row = shape_alone shape cs (dated_cells (columns_of cs) (cells_of row))

pub three_pushed : (out a b c one two new : List ℕ) → one ≡ out ++ a → two ≡ one ++ b → new ≡ two ++ c → new ≡ out ++ (a ++ (b ++ c))
three_pushed out a b c one two new first second third =
    third ∙ ap (λ (t : List ℕ). t ++ c) (second ∙ ap (λ (t : List ℕ). t ++ b) first) ∙ append_assoc (out ++ a) b c ∙ append_assoc out a (b ++ c)

-- ---- the rows

-- the columns of a batch that can be read
pub columns_readable : (form : DateForm) (b : BatchArrays) (fs : List Field) (ss : List ColumnSlots) → AreColumns form b 0 fs ss → is_readable (fields_of fs) b ≡ true → AreReadable form ss b.rows
columns_readable form b fs ss is h =
    let both = and_parts (are_sound (fields_of fs) b.rows (arrays_of b)) _ h in
    let row = row_at (fields_of fs) (arrays_of b) in
    let P : Cells → Type 0 = λ cells. have_utf8_texts cells ≡ true in
    record {
      buffers = buffers_all form b 0 fs ss is;
      sound = sound_are form b 0 fs ss b.rows is ∙ both.0;
      texts = λ slot lt.
          let own : row slot ≡ get_or (rows_of (fields_of fs) b) slot (row slot) = sym (get_or-map-range_with_len row 0 b.rows slot slot (row slot) lt (omega arith)) in
          let there : slot < length (rows_of (fields_of fs) b) = omega (arith, lt, length-map-range_with_len row 0 b.rows) in
          let texts = all_here has_texts (rows_of (fields_of fs) b) slot (row slot) both.1 there own in
          subst P (sym (cells_are form b 0 fs ss slot is)) (subst P (cells_list (part_cells (fields_of fs) (arrays_of b) slot)) texts);
    }

-- they have its rows
pub rows_are : (form : DateForm) (b : BatchArrays) (fs : List Field) (ss : List ColumnSlots) → AreColumns form b 0 fs ss → map (slot_row ss) (range_with_len 0 b.rows) ≡ rows_of (fields_of fs) b
rows_are form b fs ss is = maps_same (slot_row ss) (row_at (fields_of fs) (arrays_of b)) (λ i. ap cell_list (cells_are form b 0 fs ss i is)) (range_with_len 0 b.rows)
