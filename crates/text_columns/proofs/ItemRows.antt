-- Rows of arrays of JSON that come after others, item by item into the column at its place.
use Rattle.std.specs.Prelude.{Option, Some, None, Ok, Err, Result, IfOk, IfSome, slice_get, get_or, option_map, option_and_then}
use Rattle.std.proofs.Common.{◌≡◌, ℕ, suc, ◌+◌, ◌-◌, ◌≤◌, ◌<◌, ◌==◌, true, List, [], ◌∷◌, ◌++◌, length, take, drop, set, refl, arith, ap, sym, subst, ◌∙◌, inl, inr, length-append}
use Rattle.std.proofs.lemmas.Bool.{cases_lt, eq-eqb}
use Rattle.std.proofs.lemmas.Option.{slice_get_within, same_Some}
use Rattle.std.proofs.lemmas.List.{length-take-le, drop_all, take_all, get_or_append_left, length-set}
use Rattle.json.specs.Token.{Token}
use Rattle.json.specs.Token as tokens
use Rattle.json.specs.Json as json
use Rattle.json.specs.Json.{Parse, after_end_array, items, parse_map, value}
use Rattle.json.proofs.Grammar.{items_end, items_more, value-begin_array}
use Rattle.serde_json.specs.Data.{Data, Items, array, item, no_items}
use Rattle.serde_json.specs.Read.{converted, of_items, of_json}
use Rattle.arrow_schema.specs.Column.{Column, Columns, and_column, columns_of}
use Rattle.cells.specs.Cell.{Cell, null, cells_of}
use Rattle.cells.specs.Weight.{parts_weight}
use Rattle.text_import.specs.Objects.{cell_in, cells_by_place, column_count, item_count}
use Rattle.text_import.proofs.ObjectLemmas.{columns_counted, places_end}
use Rattle.text_import.proofs.RowLemmas.{cells_behind, cells_behind_more}
use Rattle.text_columns.specs.declared.builder.ColumnBuilder.{ColumnBuilder}
use Rattle.text_columns.specs.inner.Kept.{KeepAll, Keeps, column_at}
use Rattle.text_columns.specs.inner.Lines.{HasItemRow, KeepsItems, KeepsNext, KeepsRow, KeepsTokens}
use Rattle.text_columns.proofs.LineRows.{none_behind}
use Rattle.text_columns.proofs.MemberGrammar.{converted_some, twice, value_shorter, value_there}
use Rattle.text_columns.proofs.Rows.{at_end, at_other, at_set, column_more, dropped_here, none_weigh, parts_weigh, taken_here, there_within}
use Rattle.civil_days.specs.declared.date_form.DateForm.{DateForm}

-- ---- the items of an array

-- these and others after them
abbrev pub prepend : List Data → Items → Items
prepend [] ds = ds
prepend (d ∷ found) ds = item d (prepend found ds)

pub prepend_more : (found : List Data) (d : Data) (ds : Items) → prepend found (item d ds) ≡ prepend (found ++ d ∷ []) ds
prepend_more [] d ds = refl
prepend_more (e ∷ found) d ds = ap (item e) (prepend_more found d ds)

pub prepend_count : (found : List Data) → item_count (prepend found no_items) ≡ length found
prepend_count [] = refl
prepend_count (d ∷ found) = let e = prepend_count found in omega (arith, e)

pub prepended_none : (o : Option (Items × List Token)) → o ≡ parse_map (prepend []) o
prepended_none None = refl
prepended_none (Some p) = refl

pub prepended_more : (found : List Data) (d : Data) (o : Option (Items × List Token)) → parse_map (prepend found) (parse_map (item d) o) ≡ parse_map (prepend (found ++ d ∷ [])) o
prepended_more found d None = refl
prepended_more found d (Some p) = ap (λ (ds : Items). Some (ds, p.1)) (prepend_more found d p.0)

with_item : (j : json.Json) (d : Data) → of_json j ≡ Some d → (o : Option (json.Items × List Token)) → converted of_items (parse_map (json.item j) o) ≡ parse_map (item d) (converted of_items o)
with_item j d e None = refl
with_item j d e (Some p) =
    ap (λ (x : Option Data). option_map {U = Items × List Token} (λ b. (b, p.1)) (option_and_then (λ y. option_map (item y) (of_items p.0)) x)) e ∙ twice (item d) p.1 (of_items p.0)

pub item_read : (p : Parse json.Json) (n : ℕ) (ts r : List Token) (d : Data) → 0 < n → after_end_array ts ≡ None → converted of_json (p ts) ≡ Some (d, r)
    → converted of_items (items p n ts) ≡ parse_map (item d) (converted of_items (items p (n - 1) r))
item_read p n ts r d some none e =
    let j = converted_some of_json (p ts) d r e in
    ap (converted of_items) (items_more p n ts r j.0 some none j.1) ∙ with_item j.0 d j.2 _

pub array_read : (o : Option (json.Items × List Token)) → converted of_json (parse_map json.array o) ≡ parse_map array (converted of_items o)
array_read None = refl
array_read (Some p) = twice array p.1 (of_items p.0)

-- ---- their cells

-- the first columns have a cell of this row
pub record ItemHalf (date_form : DateForm) (cs : List Column) (found : List Data) (rows : List (List Cell)) (i weight : ℕ) (bs : List ColumnBuilder) : Type 0 where
  pub row : List Cell
  pub len : length row ≡ i
  pub read : (more : Items) → cells_behind row (cells_by_place date_form (columns_of (drop i cs)) more) ≡ cells_by_place date_form (columns_of cs) (prepend found more)
  pub weighs : 1 + parts_weight (columns_of (take i cs)) (cells_of row) ≡ weight
  pub count : length bs ≡ length cs
  pub done : (j : ℕ) (c : Column) (b : ColumnBuilder) → j < i → slice_get cs j ≡ Some c → slice_get bs j ≡ Some b → Keeps c (column_at j rows ++ get_or row j null ∷ []) b
  pub rest : (j : ℕ) (c : Column) (b : ColumnBuilder) → i ≤ j → slice_get cs j ≡ Some c → slice_get bs j ≡ Some b → Keeps c (column_at j rows) b

item_half_none : (date_form : DateForm) (cs : List Column) (rows : List (List Cell)) (bs : List ColumnBuilder) → KeepAll cs rows bs → ItemHalf date_form cs [] rows 0 1 bs
item_half_none date_form cs rows bs k = record {
  row = [];
  len = refl;
  read = λ more. none_behind (cells_by_place date_form (columns_of cs) more);
  weighs = none_weigh [];
  count = k.count;
  done = λ j c b lt. absurd (omega arith);
  rest = λ j c b le. k.each j c b;
}

placed_more : (date_form : DateForm) (so : List Cell) (c : Column) (cs : Columns) (d : Data) (ds : Items) (x : Cell) → cell_in date_form c d ≡ Ok x
    → cells_behind so (cells_by_place date_form (and_column c cs) (item d ds)) ≡ cells_behind (so ++ x ∷ []) (cells_by_place date_form cs ds)
unfolding cells_by_place
placed_more date_form so c cs d ds x e = rw e (cells_behind_more so x (cells_by_place date_form cs ds))

item_half_more : (date_form : DateForm) (cs : List Column) (found : List Data) (rows : List (List Cell)) (i weight more depth : ℕ) (left right : List Token) (bs : List ColumnBuilder) (old new : ColumnBuilder) → slice_get bs i ≡ Some old
    → (keeps : KeepsNext date_form depth left right more old new) → ItemHalf date_form cs found rows i weight bs → ItemHalf date_form cs (found ++ keeps.data_is ∷ []) rows (i + 1) (weight + more) (set bs i new)
item_half_more date_form cs found rows i weight more depth left right bs old new here keeps h =
    let d = keeps.data_is in
    let within : i < length bs = slice_get_within bs i old here in
    let (c, col) = there_within cs i (omega (arith, within, h.count)) in
    let k = keeps.keeps c (column_at i rows) (h.rest i c old (omega arith) col here) in
    let one : i + 1 ≡ suc i = omega arith in
    let fields : drop i cs ≡ c ∷ drop (suc i) cs = dropped_here cs i c col in
    let short : length h.row ≡ length (take i cs) = h.len ∙ sym (length-take-le i cs (omega (arith, within, h.count))) in
    let weighed = parts_weigh (take i cs) h.row c k.kept short in
    record {
      row = h.row ++ k.kept ∷ [];
      len = length-append h.row (k.kept ∷ []) ∙ ap (λ (n : ℕ). n + 1) h.len;
      read = λ ds.
          let before : cells_behind h.row (cells_by_place date_form (columns_of (c ∷ drop (suc i) cs)) (item d ds)) ≡ cells_by_place date_form (columns_of cs) (prepend found (item d ds)) =
          subst (λ (xs : List Column). cells_behind h.row (cells_by_place date_form (columns_of xs) (item d ds)) ≡ cells_by_place date_form (columns_of cs) (prepend found (item d ds))) fields (h.read (item d ds)) in
          rw one (sym (placed_more date_form h.row c (columns_of (drop (suc i) cs)) d ds k.kept k.read) ∙ before ∙ ap (cells_by_place date_form (columns_of cs)) (prepend_more found d ds));
      weighs = rw (one, taken_here cs i c col) (omega (arith, weighed, h.weighs, k.weighs));
      count = length-set bs i new ∙ h.count;
      done = λ j e b lt dc db. elim (cases_lt j i) [
        | inl before ↦
            let same = at_other bs i j new (λ x. omega arith) in
            let front = get_or_append_left h.row (k.kept ∷ []) null j (omega (arith, h.len, before)) in
            subst (λ (x : Cell). Keeps e (column_at j rows ++ x ∷ []) b) (sym front) (h.done j e b before dc (sym same ∙ db))
        | inr after ↦
            let at : j ≡ i = omega arith in
            let put = at_set bs i new within in
            let is_new : new ≡ b = same_Some _ _ (sym put ∙ subst (λ (n : ℕ). slice_get (set bs i new) n ≡ Some b) at db) in
            let is_own : c ≡ e = same_Some _ _ (sym col ∙ subst (λ (n : ℕ). slice_get cs n ≡ Some e) at dc) in
            let end : get_or (h.row ++ k.kept ∷ []) j null ≡ k.kept = at_end h.row k.kept null j (at ∙ sym h.len) in
            rw (end, at, ← is_new, ← is_own) k.keeps
      ];
      rest = λ j e b le dc db.
          let same = at_other bs i j new (λ x. omega arith) in
          h.rest j e b (omega (arith, le)) dc (sym same ∙ db);
    }

item_half_all : (date_form : DateForm) (cs : List Column) (found : List Data) (rows : List (List Cell)) (i weight : ℕ) (bs : List ColumnBuilder) → length bs ≤ i → ItemHalf date_form cs found rows i weight bs
    → HasItemRow date_form cs (prepend found no_items) weight rows bs
item_half_all date_form cs found rows i weight bs le h =
    let none : drop i cs ≡ [] = drop_all i cs (omega (arith, le, h.count)) in
    let all : take i cs ≡ cs = take_all i cs (omega (arith, le, h.count)) in
    let read : cells_behind h.row (cells_by_place date_form (columns_of []) no_items) ≡ cells_by_place date_form (columns_of cs) (prepend found no_items) =
    subst (λ (xs : List Column). cells_behind h.row (cells_by_place date_form (columns_of xs) no_items) ≡ cells_by_place date_form (columns_of cs) (prepend found no_items)) none (h.read no_items) in
    record {
      row = h.row;
      read = sym read ∙ places_end date_form h.row no_items;
      weighs = rw all at h.weighs;
      keeps = record {
        count = h.count;
        each = λ j c b dc db.
            let lt : j < length bs = slice_get_within bs j b db in
            subst (λ (xs : List Cell). Keeps c xs b) (sym (column_more j rows h.row)) (h.done j c b (omega (arith, lt, le)) dc db);
      };
    }

-- ---- one after another

-- some items were read, and the others follow
pub record ItemsRead (date_form : DateForm) (depth : ℕ) (all left : List Token) (i weight : ℕ) (bs0 bs : List ColumnBuilder) : Type 0 where
  pub found : List Data
  pub turns : ℕ
  pub enough : length left ≤ turns
  pub count : length found ≡ i
  pub read : converted of_items (items (value depth) (length all) all) ≡ parse_map (prepend found) (converted of_items (items (value depth) turns left))
  pub each : (cs : List Column) (rows : List (List Cell)) → KeepAll cs rows bs0 → ItemHalf date_form cs found rows i weight bs

pub items_none : (date_form : DateForm) (depth : ℕ) (all : List Token) (bs : List ColumnBuilder) → ItemsRead date_form depth all all 0 1 bs bs
items_none date_form depth all bs = record {
  found = [];
  turns = length all;
  enough = omega arith;
  count = refl;
  read = prepended_none (converted of_items (items (value depth) (length all) all));
  each = λ cs rows k. item_half_none date_form cs rows bs k;
}

pub items_pushed : (date_form : DateForm) (depth : ℕ) (all left new : List Token) (i weight more : ℕ) (bs0 bs : List ColumnBuilder) (old behind : ColumnBuilder) → slice_get bs i ≡ Some old → KeepsNext date_form depth left new more old behind
    → ItemsRead date_form depth all left i weight bs0 bs → ItemsRead date_form depth all new (i + 1) (weight + more) bs0 (set bs i behind)
items_pushed date_form depth all left new i weight more bs0 bs old behind here keeps m =
    let d = keeps.data_is in
    let longer = value_shorter depth left new d keeps.read in
    let some : 0 < m.turns = omega (arith, longer, m.enough) in
    let none : after_end_array left ≡ None = value_there depth left new d keeps.read in
    record {
      found = m.found ++ d ∷ [];
      turns = m.turns - 1;
      enough = omega (arith, longer, m.enough);
      count = length-append m.found (d ∷ []) ∙ ap (λ (n : ℕ). n + 1) m.count;
      read = m.read ∙ ap (parse_map (prepend m.found)) (item_read (value depth) m.turns left new d some none keeps.read) ∙ prepended_more m.found d (converted of_items (items (value depth) (m.turns - 1) new));
      each = λ cs rows k. item_half_more date_form cs m.found rows i weight more depth left new bs old behind here keeps (m.each cs rows k);
    }

pub items_all : (date_form : DateForm) (depth : ℕ) (all left new : List Token) (i weight : ℕ) (bs0 bs : List ColumnBuilder) → after_end_array left ≡ Some new → length bs ≤ i → i ≡ length bs0 → ItemsRead date_form depth all left i weight bs0 bs
    → KeepsItems date_form depth all new weight bs0 bs
items_all date_form depth all left new i weight bs0 bs ends le whole m =
    let over : converted of_items (items (value depth) m.turns left) ≡ Some (no_items, new) = ap (converted of_items) (items_end (value depth) m.turns left new m.enough ends) in
    record {
      found = prepend m.found no_items;
      read = m.read ∙ ap (parse_map (prepend m.found)) over;
      count = prepend_count m.found ∙ m.count ∙ whole;
      keeps = λ cs rows k. item_half_all date_form cs m.found rows i weight bs le (m.each cs rows k);
    }

-- ---- the array of a line

-- for a row as for a struct
pub items_row : (date_form : DateForm) (depth : ℕ) (names : List (List ℕ)) (inside rest : List Token) (weight : ℕ) (bs bs2 : List ColumnBuilder) → (k : KeepsItems date_form depth inside rest weight bs bs2)
    → KeepsRow date_form names (array k.found) weight bs bs2
items_row date_form depth names inside rest weight bs bs2 k cs rows e distinct kept =
    let h = k.keeps cs rows kept in
    let count : (item_count k.found == column_count (columns_of cs)) ≡ true = eq-eqb _ _ (k.count ∙ kept.count ∙ sym (columns_counted cs)) in
    record { row = h.row; read = rw count h.read; weighs = h.weighs; keeps = h.keeps }

pub array_kept : (date_form : DateForm) (names : List (List ℕ)) (inside rest : List Token) (weight : ℕ) (bs bs2 : List ColumnBuilder) → rest ≡ [] → KeepsItems date_form 126 inside rest weight bs bs2
    → KeepsTokens date_form names (tokens.begin_array ∷ inside) weight bs bs2
array_kept date_form names inside rest weight bs bs2 ends k =
    let one = value-begin_array 127 inside (omega arith) in
    record {
      data_is = array k.found;
      read = ap (converted of_json) one ∙ array_read (items (value 126) (length inside) inside) ∙ ap (parse_map array) (k.read ∙ ap (λ (ts : List Token). Some (k.found, ts)) ends);
      keeps = items_row date_form 126 names inside rest weight bs bs2 k;
    }

-- ---- what a call tells

pub opened_step : {E : Type 0} (date_form : DateForm) (names : List (List ℕ)) (all opened : List Token) (bs bs2 : List ColumnBuilder) (r : Result (Option ℕ) E) → all ≡ opened
    → IfOk r (λ taken. IfSome taken (λ weight. KeepsTokens date_form names opened weight bs bs2)) → IfOk r (λ taken. IfSome taken (λ weight. KeepsTokens date_form names all weight bs bs2))
opened_step date_form names all opened bs bs2 r is h = rw is h

pub array_step : {E : Type 0} (date_form : DateForm) (names : List (List ℕ)) (all inside : List Token) (bs bs2 : List ColumnBuilder) (r : Result (Option ℕ) E) → all ≡ tokens.begin_array ∷ inside
    → IfOk r (λ taken. IfSome taken (λ weight. (ns : List (List ℕ)) → KeepsTokens date_form ns (tokens.begin_array ∷ inside) weight bs bs2))
    → IfOk r (λ taken. IfSome taken (λ weight. KeepsTokens date_form names all weight bs bs2))
array_step date_form names all inside bs bs2 (Err e) is h = tt
array_step date_form names all inside bs bs2 (Ok None) is h = tt
array_step date_form names all inside bs bs2 (Ok (Some weight)) is h = rw is (h names)
