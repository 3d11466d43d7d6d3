-- Rows that come after others, by the buffers of their columns.
use Rattle.std.specs.Borrow.{Bor}
use Rattle.std.specs.Prelude.{Option, Some, None, Ok, Err, Result, slice_get, get_or, ◌==◌, nat_lt, ◌⊎◌, MatchResult}
use Rattle.std.proofs.Common.{◌≡◌, ℕ, zero, suc, ◌+◌, ◌-◌, ◌≤◌, ◌<◌, true, false, List, [], ◌∷◌, ◌++◌, length, take, drop, set, refl, arith, ap, sym, subst, ◌∙◌, inl, inr, length-append}
use Rattle.std.proofs.lemmas.Bool.{cases_lt, eq-eqb, le-ltb}
use Rattle.std.proofs.lemmas.List.{map-append, length-take-le, drop_all, take_all, get_or_append_left, length-set}
use Rattle.std.proofs.lemmas.List.Sums.{sum_by-append}
use Rattle.std.proofs.lemmas.Option.{slice_get_within}
use Rattle.arrow_schema.specs.Column.{Column, columns_of, PlainSchema}
use Rattle.cells.specs.Cell.{Cell, null, cells_of}
use Rattle.cells.specs.Dictionary.{dictionaries_fit}
use Rattle.cells.specs.Weight.{parts_weight, row_weight, table_weight, weight as cell_weight}
use Rattle.csv.specs.declared.reader.Reader.{Reader}
use Rattle.facts.specs.Outcomes.{Reports}
use Rattle.text_import.specs.Records.{field_cells, record_row}
use Rattle.text_import.specs.Refusals.{numbered, refused_by}
use Rattle.text_import.specs.Rows.{rows_from}
use Rattle.text_import.specs.Stands.{HasLeft}
use Rattle.text_import.specs.declared.refusal.Refused.{Refused}
use Rattle.text_import.specs.declared.refusal.TextError.{TextError}
use Rattle.text_import.specs.laws.Behind.{behind, behind_none, field_more, fields_end, row_more, row_refused, rows_end, told}
use Rattle.text_columns.specs.declared.builder.ColumnBuilder.{ColumnBuilder}
use Rattle.text_columns.specs.declared.batches.Batches.{Batches}
use Rattle.text_columns.proofs.FewEntries.{row_fits}
use Rattle.text_columns.proofs.Held.{held_more}
use Rattle.text_columns.specs.inner.Batches.{AddsRow, HasRows, HoldRows, HoldsSame, ReadsRows}
use Rattle.text_columns.specs.inner.Kept.{HasRow, KeepAll, Keeps, KeepsField, KeepsRecord, column_at}
use Rattle.text_import.specs.FieldForm.{PlainFieldForm}

-- ---- the item at a place

module _ {X : Type 0} where
  pub at_set : (xs : List X) (i : ℕ) (x : X) → i < length xs → slice_get (set xs i x) i ≡ Some x
  at_set [] i x lt = absurd (omega arith)
  at_set (y ∷ xs) zero x lt = refl
  at_set (y ∷ xs) (suc i) x lt = at_set xs i x (omega arith)

  pub at_other : (xs : List X) (i j : ℕ) (x : X) → (i ≡ j → ⊥) → slice_get (set xs i x) j ≡ slice_get xs j
  at_other [] i j x ne = refl
  at_other (y ∷ xs) zero zero x ne = absurd (ne refl)
  at_other (y ∷ xs) zero (suc j) x ne = refl
  at_other (y ∷ xs) (suc i) zero x ne = refl
  at_other (y ∷ xs) (suc i) (suc j) x ne = at_other xs i j x (λ e. ne (ap suc e))

  pub dropped_here : (xs : List X) (i : ℕ) (x : X) → slice_get xs i ≡ Some x → drop i xs ≡ x ∷ drop (suc i) xs
  dropped_here [] i x e = absurd cc
  dropped_here (y ∷ xs) zero x e = (let same : y ≡ x = cc in rw same refl)
  dropped_here (y ∷ xs) (suc i) x e = dropped_here xs i x e

  pub taken_here : (xs : List X) (i : ℕ) (x : X) → slice_get xs i ≡ Some x → take (suc i) xs ≡ take i xs ++ x ∷ []
  taken_here [] i x e = absurd cc
  taken_here (y ∷ xs) zero x e = (let same : y ≡ x = cc in rw same refl)
  taken_here (y ∷ xs) (suc i) x e = ap (λ (ys : List X). y ∷ ys) (taken_here xs i x e)

  pub there_within : (xs : List X) (i : ℕ) → i < length xs → (x : X) × (slice_get xs i ≡ Some x)
  there_within [] i lt = absurd (omega arith)
  there_within (y ∷ xs) zero lt = (y, refl)
  there_within (y ∷ xs) (suc i) lt = there_within xs i (omega arith)

  pub at_end : (xs : List X) (x d : X) (i : ℕ) → i ≡ length xs → get_or (xs ++ x ∷ []) i d ≡ x
  at_end [] x d i e = rw e refl
  at_end (y ∷ xs) x d zero e = absurd (omega arith)
  at_end (y ∷ xs) x d (suc i) e = at_end xs x d i (omega arith)

-- ---- one more row

pub parts_weigh : (cs : List Column) (xs : List Cell) (c : Column) (x : Cell) → length xs ≡ length cs
    → parts_weight (columns_of (cs ++ c ∷ [])) (cells_of (xs ++ x ∷ [])) ≡ parts_weight (columns_of cs) (cells_of xs) + cell_weight c x
unfolding parts_weight
parts_weigh [] [] c x e = omega arith
parts_weigh [] (y ∷ xs) c x e = absurd (omega arith)
parts_weigh (d ∷ cs) [] c x e = absurd (omega arith)
parts_weigh (d ∷ cs) (y ∷ xs) c x e = let others = parts_weigh cs xs c x (omega arith) in omega (arith, others)

pub none_weigh : (cells : List Cell) → 1 + parts_weight (columns_of []) (cells_of cells) ≡ 1
unfolding parts_weight
none_weigh cells = refl

pub column_more : (j : ℕ) (rows : List (List Cell)) (row : List Cell) → column_at j (rows ++ row ∷ []) ≡ column_at j rows ++ get_or row j null ∷ []
column_more j rows row = map-append (λ (r : List Cell). get_or r j null) rows (row ∷ [])

-- the first fields of a record have come after the rows; the weight is that of their row
pub record Half (cs : List Column) (form : PlainFieldForm) (ts : List (List ℕ)) (rows : List (List Cell)) (i weight : ℕ) (bs : List ColumnBuilder) : Type 0 where
  pub row : List Cell
  pub len : length row ≡ i
  pub read : behind row (field_cells form (drop i cs) (drop i ts)) ≡ field_cells form cs ts
  pub weighs : 1 + parts_weight (columns_of (take i cs)) (cells_of row) ≡ weight
  pub count : length bs ≡ length cs
  pub done : (j : ℕ) (c : Column) (b : ColumnBuilder) → j < i → slice_get cs j ≡ Some c → slice_get bs j ≡ Some b → Keeps c (column_at j rows ++ get_or row j null ∷ []) b
  pub rest : (j : ℕ) (c : Column) (b : ColumnBuilder) → i ≤ j → slice_get cs j ≡ Some c → slice_get bs j ≡ Some b → Keeps c (column_at j rows) b

pub half_none : (cs : List Column) (form : PlainFieldForm) (ts : List (List ℕ)) (rows : List (List Cell)) (bs : List ColumnBuilder) → KeepAll cs rows bs → Half cs form ts rows 0 1 bs
half_none cs form ts rows bs k = record {
  row = [];
  len = refl;
  read = behind_none (field_cells form cs ts);
  weighs = none_weigh [];
  count = k.count;
  done = λ j c b lt. absurd (omega arith);
  rest = λ j c b le. k.each j c b;
}

pub half_more : (cs : List Column) (form : PlainFieldForm) (ts : List (List ℕ)) (rows : List (List Cell)) (i weight more : ℕ) (bs : List ColumnBuilder) (old new : ColumnBuilder) (t : List ℕ)
    → slice_get bs i ≡ Some old → slice_get ts i ≡ Some t → KeepsField form t more old new → Half cs form ts rows i weight bs → Half cs form ts rows (i + 1) (weight + more) (set bs i new)
half_more cs form ts rows i weight more bs old new t here text keeps h =
    let within : i < length bs = slice_get_within bs i old here in
    let (c, col) = there_within cs i (omega (arith, within, h.count)) in
    let k = keeps c (column_at i rows) (h.rest i c old (omega arith) col here) in
    let one : i + 1 ≡ suc i = omega arith in
    let fields : drop i cs ≡ c ∷ drop (suc i) cs = dropped_here cs i c col in
    let others : drop i ts ≡ t ∷ drop (suc i) ts = dropped_here ts i t text in
    let short : length h.row ≡ length (take i cs) = h.len ∙ sym (length-take-le i cs (omega (arith, within, h.count))) in
    let weighed = parts_weigh (take i cs) h.row c k.kept short in
    record {
      row = h.row ++ k.kept ∷ [];
      len = length-append h.row (k.kept ∷ []) ∙ ap (λ (n : ℕ). n + 1) h.len;
      read = rw one (sym (field_more form h.row c (drop (suc i) cs) t (drop (suc i) ts) k.kept k.read) ∙ rw (fields, others) at h.read);
      weighs = rw (one, taken_here cs i c col) (omega (arith, weighed, h.weighs, k.weighs));
      count = length-set bs i new ∙ h.count;
      done = λ j d b lt dc db. elim (cases_lt j i) [
        | inl before ↦
            let same = at_other bs i j new (λ e. omega arith) in
            let front = get_or_append_left h.row (k.kept ∷ []) null j (omega (arith, h.len, before)) in
            subst (λ (x : Cell). Keeps d (column_at j rows ++ x ∷ []) b) (sym front) (h.done j d b before dc (sym same ∙ db))
        | inr after ↦
            let at : j ≡ i = omega arith in
            let put = at_set bs i new within in
            let mine : Some new ≡ Some b = sym put ∙ subst (λ (n : ℕ). slice_get (set bs i new) n ≡ Some b) at db in
            let own : Some c ≡ Some d = sym col ∙ subst (λ (n : ℕ). slice_get cs n ≡ Some d) at dc in
            let is_new : new ≡ b = cc in
            let is_own : c ≡ d = cc in
            let end : get_or (h.row ++ k.kept ∷ []) j null ≡ k.kept = at_end h.row k.kept null j (at ∙ sym h.len) in
            rw (end, at, ← is_new, ← is_own) k.keeps
      ];
      rest = λ j d b le dc db.
          let same = at_other bs i j new (λ e. omega arith) in
          h.rest j d b (omega (arith, le)) dc (sym same ∙ db);
    }

pub half_all : (cs : List Column) (form : PlainFieldForm) (ts : List (List ℕ)) (rows : List (List Cell)) (i weight : ℕ) (bs : List ColumnBuilder) → length bs ≤ i
    → Half cs form ts rows i weight bs → HasRow cs form ts weight rows bs
half_all cs form ts rows i weight bs le h =
    let none : drop i cs ≡ [] = drop_all i cs (omega (arith, le, h.count)) in
    let all : take i cs ≡ cs = take_all i cs (omega (arith, le, h.count)) in
    record {
      row = h.row;
      read = sym (rw none at h.read) ∙ fields_end form h.row (drop i ts);
      weighs = rw all at h.weighs;
      keeps = record {
        count = h.count;
        each = λ j c b dc db.
            let lt : j < length bs = slice_get_within bs j b db in
            subst (λ (xs : List Cell). Keeps c xs b) (sym (column_more j rows h.row)) (h.done j c b (omega (arith, lt, le)) dc db);
      };
    }

-- ---- one more column

pub last_or_before : {X : Type 0} (xs : List X) (x y : X) (j : ℕ) → slice_get (xs ++ x ∷ []) j ≡ Some y → (slice_get xs j ≡ Some y) ⊎ ((j ≡ length xs) × (x ≡ y))
last_or_before [] x y zero h = inr (refl, cc)
last_or_before [] x y (suc j) h = absurd cc
last_or_before (z ∷ xs) x y zero h = inl h
last_or_before (z ∷ xs) x y (suc j) h = elim (last_or_before xs x y j h) [
  | inl before ↦ inl before
  | inr last ↦ inr (ap suc last.0, last.1)
]

pub keep_more : (cs : List Column) (bs : List ColumnBuilder) (c : Column) (b : ColumnBuilder) → KeepAll cs [] bs → Keeps c [] b → KeepAll (cs ++ c ∷ []) [] (bs ++ b ∷ [])
keep_more cs bs c b k kept = record {
  count = length-append bs (b ∷ []) ∙ ap (λ (n : ℕ). n + 1) k.count ∙ sym (length-append cs (c ∷ []));
  each = λ j d e dc db. elim (last_or_before cs c d j dc) [
    | inl own ↦ elim (last_or_before bs b e j db) [
      | inl builder ↦ k.each j d e own builder
      | inr last ↦ (let lt = slice_get_within cs j d own in absurd (omega (arith, lt, last.0, k.count)))
    ]
    | inr own ↦ elim (last_or_before bs b e j db) [
      | inl builder ↦ (let lt = slice_get_within bs j e builder in absurd (omega (arith, lt, own.0, k.count)))
      | inr last ↦ rw (← own.1, ← last.1) kept
    ]
  ];
}

-- ---- the records of a text

-- some records have come as rows, and the others are left, which are read by a reader or stand in the text
pub record Read (IsLeft : List (List (List ℕ)) → Type 0) (s : PlainSchema) (form : PlainFieldForm) (records : List (List (List ℕ))) (i weight : ℕ) (b : Batches) : Type 0 where
  pub rows : List (List Cell)
  pub left : List (List (List ℕ))
  pub stands : IsLeft left
  pub read : behind rows (rows_from (record_row s form) (i + 1) left) ≡ rows_from (record_row s form) 1 records
  pub count : length rows ≡ i
  pub weighs : table_weight s rows ≡ weight
  pub holds : HoldRows s rows b

pub read_none : (IsLeft : List (List (List ℕ)) → Type 0) (s : PlainSchema) (form : PlainFieldForm) (records : List (List (List ℕ))) (b : Batches) → IsLeft records → HoldRows s [] b
    → Read IsLeft s form records 0 0 b
read_none IsLeft s form records b has k = record { rows = []; left = records; stands = has; read = behind_none _; count = refl; weighs = refl; holds = k }

-- the same rows in other batches
pub read_same : (IsLeft : List (List (List ℕ)) → Type 0) (s : PlainSchema) (form : PlainFieldForm) (records : List (List (List ℕ))) (i weight : ℕ) (old new : Batches) → HoldsSame s old new
    → Read IsLeft s form records i weight old → Read IsLeft s form records i weight new
read_same IsLeft s form records i weight old new same h =
    record { rows = h.rows; left = h.left; stands = h.stands; read = h.read; count = h.count; weighs = h.weighs; holds = same h.rows h.holds }

-- a row that is not too heavy is accepted
accepted_row : (s : PlainSchema) (form : PlainFieldForm) (ts : List (List ℕ)) (rows : List (List Cell)) (weight : ℕ) (old new : List ColumnBuilder) (h : HasRow s.columns form ts weight rows new)
    → length ts ≡ length s.columns → weight ≤ 16777216 → dictionaries_fit s (h.row ∷ []) ≡ true → record_row s form ts ≡ Ok h.row
accepted_row s form ts rows weight old new h count few full =
    let width : (length ts == length s.columns) ≡ true = eq-eqb _ _ count in
    let light : nat_lt 16777216 (row_weight s h.row) ≡ false = le-ltb _ _ (omega (arith, h.weighs, few)) in
    rw (width, h.read, light, full) refl

pub read_more : (IsLeft WillBeLeft : List (List (List ℕ)) → Type 0) (s : PlainSchema) (form : PlainFieldForm) (records others : List (List (List ℕ))) (i weight more : ℕ) (old new : Batches)
    (fields : List (List ℕ)) → (h : Read IsLeft s form records i weight old) → h.left ≡ fields ∷ others → WillBeLeft others → more ≤ 16777216 → KeepsRecord form fields more old.builders.items new.builders.items → AddsRow old new
    → Read WillBeLeft s form records (i + 1) (weight + more) new
read_more IsLeft WillBeLeft s form records others i weight more old new fields h whole has few keeps adds =
    let held = h.holds in
    let row = keeps.1 s.columns held.last held.keeps in
    let full = row_fits s held.last old.builders.items row.row held.keeps in
    let accepted = accepted_row s form fields held.last more old.builders.items new.builders.items row (keeps.0 ∙ held.keeps.count) few full in
    let joined = sum_by-append (row_weight s) h.rows (row.row ∷ []) in
    let given : numbered (i + 1) (record_row s form fields) ≡ Ok row.row = rw accepted refl in
    record {
      rows = h.rows ++ row.row ∷ [];
      left = others;
      stands = has;
      read = sym (row_more (record_row s form) (i + 1) h.rows fields others row.row given) ∙ rw whole at h.read;
      count = length-append h.rows (row.row ∷ []) ∙ ap (λ (n : ℕ). n + 1) h.count;
      weighs = omega (arith, joined, h.weighs, row.weighs);
      holds = held_more s h.rows row.row old new held adds row.keeps;
    }

pub read_rows : (IsLeft : List (List (List ℕ)) → Type 0) (s : PlainSchema) (form : PlainFieldForm) (records : List (List (List ℕ))) (i weight : ℕ) (b : Batches)
    → (h : Read IsLeft s form records i weight b) → h.left ≡ [] → weight ≤ 268435456 → HasRows s (rows_from (record_row s form) 1 records) weight b
read_rows IsLeft s form records i weight b h none few = record {
  rows = h.rows;
  are_read = sym (rw none at h.read) ∙ rows_end (record_row s form) (i + 1) h.rows;
  weighs = h.weighs;
  few = few;
  holds = h.holds;
}

-- a reader that has no more records left than turns
abbrev pub ByReader : Reader (Bor (List ℕ)) → (i most : ℕ) → List (List (List ℕ)) → Type 0
ByReader reader i most left = HasLeft reader left × (length left ≤ most - i)

pub none_left : (xs : List (List (List ℕ))) → length xs ≤ 0 → xs ≡ []
none_left [] h = refl
none_left (x ∷ xs) h = absurd (omega arith)

pub left_behind : (left others : List (List (List ℕ))) (fields : List (List ℕ)) (i most : ℕ) → left ≡ fields ∷ others → length left ≤ most - i → length others ≤ most - (i + 1)
left_behind left others fields i most whole few = let len = ap length whole in omega (arith, len, few)

pub read_refused : (IsLeft : List (List (List ℕ)) → Type 0) (s : PlainSchema) (form : PlainFieldForm) (records others : List (List (List ℕ))) (i weight : ℕ) (b : Batches) (fields : List (List ℕ))
    (o : Option Refused) → (h : Read IsLeft s form records i weight b) → h.left ≡ fields ∷ others → Reports o (numbered (i + 1) (record_row s form fields))
    → Reports o (rows_from (record_row s form) 1 records)
read_refused IsLeft s form records others i weight b fields o h whole refused =
    told o (numbered (i + 1) (record_row s form fields)) (rows_from (record_row s form) 1 records) refused
    (λ f e. sym (rw whole at h.read) ∙ row_refused (record_row s form) (i + 1) h.rows fields others f e)

-- a record that is refused by itself, or by none, and what that says of all
pub refused_step : {A : Type 0} (s : PlainSchema) (own : Result A Refused) (stated : Result (List (List Cell)) Refused) (r : Result (Option ℕ) TextError) (new : Batches)
    → MatchResult r (λ read. read ≡ None) (λ e. Reports (refused_by e) own) → ((o : Option Refused) → Reports o own → Reports o stated) → ReadsRows s stated r new
refused_step s own stated (Err e) new h more = more (refused_by e) h
refused_step s own stated (Ok None) new h more = tt
refused_step s own stated (Ok (Some read)) new h more = absurd cc
