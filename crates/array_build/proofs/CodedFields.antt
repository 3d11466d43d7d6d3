-- The cells of a column with a dictionary: each is null or an entry, and texts among them are UTF-8.
use Rattle.std.specs.Prelude.{None, Some, ◌||◌, Option, is_some, option_map, string_bytes, if◌then◌else◌}
use Rattle.std.specs.List.{list_all, list_any}
use Rattle.std.specs.Str.{is_utf8}
use Rattle.std.proofs.Common.{◌≡◌, ℕ, ◌++◌, Bool, true, false, List, [], ◌∷◌, map, refl, ap, sym, ◌∙◌}
use Rattle.std.proofs.lemmas.Bool.{and_parts, and_from}
use Rattle.std.proofs.lemmas.Slice.Eq.{bytes_eq-Decides}
use Rattle.arrow_schema.specs.Column.{Index, Pair, Kind, Column, and_column, column, no_column}
use Rattle.arrow_schema.specs.View.{column_of, index_of, kind_of, pair_of}
use Rattle.arrow_schema.specs.declared.types.DictSpec.{DictSpec}
use Rattle.arrow_schema.specs.declared.types.Field.{Field}
use Rattle.arrow_schema.specs.laws.Parts.{field_parts}
use Rattle.cells.specs.Cell.{Cell, and_cell, no_cell, null, boolean, number, text, bytes, items, parts}
use Rattle.cells.specs.Dictionary.{entries_of, is_entry, with_entries, with_entry}
use Rattle.cells.specs.Fit.{each_fits, fits}
use Rattle.columns.specs.Buildable.{are_nulls_or_fit, can_build, can_build_below, is_null_or_entry, names_entries}
use Rattle.columns.specs.Texts.{has_utf8_texts, have_utf8_texts}
use Rattle.dictionary_codes.specs.CodedCells.{is_coded}
use Rattle.batch_build.specs.Batch.{plain_column}
use Rattle.columns.specs.laws.FitTexts.{row_texts}
use Rattle.dictionary_codes.specs.laws.AllCells.{all_front}

-- two texts that are one entry are one text
same_text : (t : List ℕ) (x : Cell) → is_entry (text t) x ≡ true → has_utf8_texts x ≡ true → has_utf8_texts (text t) ≡ true
unfolding has_utf8_texts
same_text t (text s) is utf8 = ap is_utf8 ((bytes_eq-Decides t s).0 is) ∙ utf8
same_text t null is utf8 = cc
same_text t (boolean b) is utf8 = cc
same_text t (number n) is utf8 = cc
same_text t (bytes b) is utf8 = cc
same_text t (items cs) is utf8 = cc
same_text t (parts cs) is utf8 = cc

-- a text that is an entry is one of the texts before
known_text : (t : List ℕ) (es : List Cell) → list_any (is_entry (text t)) es ≡ true → list_all has_utf8_texts es ≡ true → has_utf8_texts (text t) ≡ true
known_text t [] found h = cc
known_text t (e ∷ es) found h =
    let both = and_parts (has_utf8_texts e) (list_all has_utf8_texts es) h in
    by_first both.0 (λ more. known_text t es more both.1) (is_entry (text t) e) refl found
  where
    by_first : has_utf8_texts e ≡ true → (list_any (is_entry (text t)) es ≡ true → has_utf8_texts (text t) ≡ true)
        → (b : Bool) → is_entry (text t) e ≡ b → list_any (is_entry (text t)) (e ∷ es) ≡ true → has_utf8_texts (text t) ≡ true
    by_first own later true is any = same_text t e is own
    by_first own later false is any = later (ap (λ (b : Bool). b || list_any (is_entry (text t)) es) (sym is) ∙ any)

-- one cell more, whether it is an entry already or not
one_more : (es : List Cell) (c : Cell) → is_null_or_entry c ≡ true → list_all has_utf8_texts (with_entry es c) ≡ true
    → (list_all has_utf8_texts es ≡ true) × (has_utf8_texts c ≡ true)
unfolding has_utf8_texts
one_more es null entry h = (h, refl)
one_more es (boolean b) entry h = by (list_any (is_entry (boolean b)) es) h
  where
    by : (found : Bool) → list_all has_utf8_texts (if found then es else es ++ boolean b ∷ []) ≡ true → (list_all has_utf8_texts es ≡ true) × (true ≡ true)
    by true g = (g, refl)
    by false g = ((all_front has_utf8_texts es (boolean b ∷ []) g).0, refl)
one_more es (number n) entry h = by (list_any (is_entry (number n)) es) h
  where
    by : (found : Bool) → list_all has_utf8_texts (if found then es else es ++ number n ∷ []) ≡ true → (list_all has_utf8_texts es ≡ true) × (true ≡ true)
    by true g = (g, refl)
    by false g = ((all_front has_utf8_texts es (number n ∷ []) g).0, refl)
one_more es (bytes b) entry h = by (list_any (is_entry (bytes b)) es) h
  where
    by : (found : Bool) → list_all has_utf8_texts (if found then es else es ++ bytes b ∷ []) ≡ true → (list_all has_utf8_texts es ≡ true) × (true ≡ true)
    by true g = (g, refl)
    by false g = ((all_front has_utf8_texts es (bytes b ∷ []) g).0, refl)
one_more es (text t) entry h = by (list_any (is_entry (text t)) es) refl h
  where
    by : (found : Bool) → list_any (is_entry (text t)) es ≡ found → list_all has_utf8_texts (if found then es else es ++ text t ∷ []) ≡ true
        → (list_all has_utf8_texts es ≡ true) × (has_utf8_texts (text t) ≡ true)
    by true is g = (g, known_text t es is g)
    by false is g =
        let both = all_front has_utf8_texts es (text t ∷ []) g in
        (both.0, (and_parts (has_utf8_texts (text t)) true both.1).0)
one_more es (items cs) entry h = cc
one_more es (parts cs) entry h = cc

all_coded : (es cells : List Cell) → list_all is_null_or_entry cells ≡ true → list_all has_utf8_texts (with_entries es cells) ≡ true
    → (list_all has_utf8_texts es ≡ true) × (list_all is_coded cells ≡ true)
unfolding with_entries
all_coded es [] entries h = (h, refl)
all_coded es (c ∷ cs) entries h =
    let own = and_parts (is_null_or_entry c) (list_all is_null_or_entry cs) entries in
    let rest = all_coded (with_entry es c) cs own.1 h in
    let here = one_more es c own.0 rest.0 in
    (here.0, and_from (is_coded c) (list_all is_coded cs) (and_from (is_null_or_entry c) (has_utf8_texts c) own.0 here.1) rest.1)

fitting_text : (kind : Kind) (c : Cell) → fits (plain_column kind None) c ≡ true → has_utf8_texts c ≡ true
unfolding each_fits have_utf8_texts
fitting_text kind c h =
    (and_parts (has_utf8_texts c) true (row_texts (and_column (plain_column kind None) no_column) (and_cell c no_cell) (and_from (fits (plain_column kind None) c) true h refl))).0

-- cells that are null or fit a type have such texts
fitting_texts : (kind : Kind) (cells : List Cell) → are_nulls_or_fit kind cells ≡ true → list_all has_utf8_texts cells ≡ true
unfolding fits
fitting_texts kind [] h = refl
fitting_texts kind (c ∷ cs) h =
    let both = and_parts (fits (plain_column kind None) c) (are_nulls_or_fit kind cs) h in
    and_from (has_utf8_texts c) (list_all has_utf8_texts cs) (fitting_text kind c both.0) (fitting_texts kind cs both.1)

coded_cells : (name : List ℕ) (nullable : Bool) (kind : Kind) (index : Index) (pairs : List Pair) (cells : List Cell)
    → can_build (column name nullable kind (Some index) pairs) cells ≡ true → list_all is_coded cells ≡ true
unfolding can_build
coded_cells name nullable kind index pairs cells h =
    let own = and_parts (list_all is_null_or_entry cells) _ h in
    let few = and_parts (names_entries index _) _ own.1 in
    let fit = and_parts (are_nulls_or_fit kind (entries_of cells)) (can_build_below kind (entries_of cells)) few.1 in
    (all_coded [] cells own.0 (fitting_texts kind (entries_of cells) fit.0)).1

-- ---- in loops

coded_some : (d : Option DictSpec) (name : List ℕ) (nullable : Bool) (kind : Kind) (pairs : List Pair) (cells : List Cell) → is_some d ≡ true
    → can_build (column name nullable kind (option_map index_of d) pairs) cells ≡ true → list_all is_coded cells ≡ true
coded_some None name nullable kind pairs cells some h = cc
coded_some (Some d) name nullable kind pairs cells some h = coded_cells name nullable kind (index_of d) pairs cells h

-- all cells of a field with a dictionary
pub field_coded : (f : Field) (cells : List Cell) → is_some f.dictionary ≡ true → can_build (column_of f) cells ≡ true → list_all is_coded cells ≡ true
field_coded f cells some h =
    coded_some f.dictionary (string_bytes f.name) f.nullable (kind_of f.data_type) (map pair_of f.pairs.items) cells some (ap (λ (c : Column). can_build c cells) (sym (field_parts f)) ∙ h)
