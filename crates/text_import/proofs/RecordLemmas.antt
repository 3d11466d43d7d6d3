-- The records of a text.
use Rattle.std.proofs.Common.{◌≡◌, ℕ, ◌+◌, ◌≤◌, ◌<◌, zero, suc, Bool, true, false, List, [], ◌∷◌, length, drop, refl, sym, ap, ◌∙◌, arith}
use Rattle.std.specs.List.{list_any}
use Rattle.std.specs.Prelude.{Option, Some, None, if◌then◌else◌, option_map, unwrap_or, get_or, bytes_eq, Err}
use Rattle.std.specs.Borrow.{Bor}
use Rattle.arrow_schema.specs.Column.{Column, PlainSchema}
use Rattle.arrow_schema.specs.Parts.{name_of_column}
use Rattle.text_import.specs.Stands.{is_text, Stands, Reads, Left, HasLeft, TakesNext}
use Rattle.text_import.specs.laws.Left.{enough, few_none, left_none, left_some, record_none, record_some}
use Rattle.csv.specs.Machine.{Read, next_record}
use Rattle.csv.specs.Reading.{default_config, records_from, strip_bom, is_bom}
use Rattle.csv.specs.Records.{field_at}
use Rattle.csv.specs.declared.reader.Reader.{Reader}
use Rattle.csv.specs.declared.parser.State.{State}
use Rattle.csv.specs.declared.parser.State.TheVariants as st
use Rattle.text_import.specs.Records.{records_of, are_names, whole, record_row, rows_behind_header, is_nested_column, csv_rows_of}
use Rattle.text_import.specs.Rows.{rows_from}
use Rattle.text_import.specs.declared.refusal.Refusal.TheVariants.{Header, Nested}
use Rattle.text_import.specs.FieldForm.{PlainFieldForm}

stripped : (xs : List ℕ) → length (strip_bom xs) ≤ length xs
unfolding strip_bom
stripped [] = omega arith
stripped (a ∷ []) = omega arith
stripped (a ∷ b ∷ []) = omega arith
stripped (a ∷ b ∷ c ∷ rest) = by (is_bom a b c)
  where
    by : (t : Bool) → length (if t then rest else a ∷ b ∷ c ∷ rest) ≤ length (a ∷ b ∷ c ∷ rest)
    by true = omega arith
    by false = omega arith

-- as many turns as bytes, and one, give all records
pub records_by_size : (t : List ℕ) → records_of t ≡ records_from default_config (suc (length t)) st.StartRecord (strip_bom t)
records_by_size t = let less = stripped t in enough (length (strip_bom t) + 1) (suc (length t)) st.StartRecord (strip_bom t) (omega arith) (omega arith)

-- there are no more of them than turns
pub few_records : (n : ℕ) (s : State) (xs : List ℕ) → length (records_from default_config n s xs) ≤ n
few_records zero s xs = few_none s xs
few_records (suc n) s xs = by (next_record default_config s [] [] xs) refl (few_records n)
  where
    by : (o : Option Read) → next_record default_config s [] [] xs ≡ o → ((s2 : State) (ys : List ℕ) → length (records_from default_config n s2 ys) ≤ n)
        → length (records_from default_config (suc n) s xs) ≤ suc n
    by None e more = rw (record_none (suc n) s xs e) (omega arith)
    by (Some p) e more = (let others = more p.1 p.2 in rw (record_some n s xs p e) (omega arith))

-- a text has no more records after the first than bytes
pub few_behind : (t : List ℕ) (h : List (List ℕ)) (rest : List (List (List ℕ))) → records_of t ≡ h ∷ rest → length rest ≤ length t
few_behind t h rest e =
    let all = few_records (suc (length t)) st.StartRecord (strip_bom t) in
    let same : records_from default_config (suc (length t)) st.StartRecord (strip_bom t) ≡ h ∷ rest = sym (records_by_size t) ∙ e in
    let size = ap length same in
    omega arith

-- the field at a place
pub field_here : (ts : List (List ℕ)) (i : ℕ) (t : List ℕ) → field_at ts i ≡ Some t → drop i ts ≡ t ∷ drop (suc i) ts
unfolding field_at
field_here [] i t e = absurd cc
field_here (x ∷ ts) zero t e = (let same : x ≡ t = cc in rw same refl)
field_here (x ∷ ts) (suc i) t e = field_here ts i t e

pub field_past : (ts : List (List ℕ)) (i : ℕ) → field_at ts i ≡ None → drop i ts ≡ []
unfolding field_at
field_past [] zero e = refl
field_past [] (suc i) e = refl
field_past (x ∷ ts) zero e = absurd cc
field_past (x ∷ ts) (suc i) e = field_past ts i e

pub field_within : (ts : List (List ℕ)) (i : ℕ) → i < length ts → field_at ts i ≡ Some (get_or ts i [])
unfolding field_at
field_within [] i lt = absurd (omega arith)
field_within (t ∷ ts) zero lt = refl
field_within (t ∷ ts) (suc i) lt = field_within ts i (omega arith)

pub unwrapped : (o : Option (Bor (List ℕ))) (d : Bor (List ℕ)) (t : List ℕ) → option_map (λ (x : Bor (List ℕ)). x.now) o ≡ Some t → (unwrap_or o d).now ≡ t
unwrapped None d t e = absurd cc
unwrapped (Some x) d t e = cc

-- whether the fields of a record are names goes field by field
name_none : (ts : List (List ℕ)) (c : Column) (cs : List Column) (i : ℕ) (b : Bool) → field_at ts i ≡ None → false ≡ b
    → are_names (drop i ts) (c ∷ cs) ≡ (if b then are_names (drop (suc i) ts) cs else false)
unfolding are_names
name_none ts c cs i b e h = rw (field_past ts i e, ← h) refl

name_some : (ts : List (List ℕ)) (c : Column) (cs : List Column) (i : ℕ) (b : Bool) (t : List ℕ) → field_at ts i ≡ Some t → bytes_eq t (name_of_column c) ≡ b
    → are_names (drop i ts) (c ∷ cs) ≡ (if b then are_names (drop (suc i) ts) cs else false)
unfolding are_names
name_some ts c cs i b t e h = rw (field_here ts i t e, h) refl

pub name_here : (ts : List (List ℕ)) (i : ℕ) (c : Column) (cs : List Column) (b : Bool) → is_text (field_at ts i) (name_of_column c) ≡ b
    → are_names (drop i ts) (c ∷ cs) ≡ (if b then are_names (drop (suc i) ts) cs else false)
name_here ts i c cs b h = by (field_at ts i) refl h
  where
    by : (o : Option (List ℕ)) → field_at ts i ≡ o → is_text o (name_of_column c) ≡ b → are_names (drop i ts) (c ∷ cs) ≡ (if b then are_names (drop (suc i) ts) cs else false)
    by None e k = name_none ts c cs i b e k
    by (Some t) e k = name_some ts c cs i b t e k

pub names_of_other_length : (ts : List (List ℕ)) (cs : List Column) → (length ts ≡ length cs → ⊥) → are_names ts cs ≡ false
unfolding are_names
names_of_other_length [] [] h = absurd (h refl)
names_of_other_length [] (c ∷ cs) h = refl
names_of_other_length (t ∷ ts) [] h = refl
names_of_other_length (t ∷ ts) (c ∷ cs) h = by (bytes_eq t (name_of_column c)) (names_of_other_length ts cs (λ e. h (ap suc e)))
  where
    by : (b : Bool) → are_names ts cs ≡ false → (if b then are_names ts cs else false) ≡ false
    by true e = e
    by false e = refl

pub all_names : are_names [] [] ≡ true
unfolding are_names
all_names = refl

-- what a read of the next record leaves of those that were left
next_taken : (records : List (List (List ℕ))) (s : State) (xs : List ℕ) (o : Option Read) (found : Bool) (fields : List (List ℕ)) (r : Reader (Bor (List ℕ))) → Left records s xs
    → next_record default_config s [] [] xs ≡ o → Reads o found fields r → TakesNext records found fields r
next_taken records s xs None found fields r left is reads = rw (left_none records s xs left is) reads
next_taken records s xs (Some p) found fields r left is reads =
    let (more, whole, others) = left_some records s xs p left is in
    rw whole (reads.0, reads.1, record { state = p.1; bytes = p.2; stands = reads.2; left = others })

pub taken : (records : List (List (List ℕ))) (old r : Reader (Bor (List ℕ))) (found : Bool) (fields : List (List ℕ)) → HasLeft old records
    → ((s : State) (xs : List ℕ) → Stands old s xs → Reads (next_record default_config s [] [] xs) found fields r) → TakesNext records found fields r
taken records old r found fields has reads =
    next_taken records has.state has.bytes (next_record default_config has.state [] [] has.bytes) found fields r has.left refl (reads has.state has.bytes has.stands)

-- the rows after a header that is not there, is another, or is the names
pub no_header : (s : PlainSchema) (form : PlainFieldForm) (rs : List (List (List ℕ))) → rs ≡ [] → rows_behind_header s form rs ≡ Err (whole Header)
unfolding rows_behind_header
no_header s form rs e = rw e refl

pub other_header : (s : PlainSchema) (form : PlainFieldForm) (rs rest : List (List (List ℕ))) (h : List (List ℕ)) → rs ≡ h ∷ rest → are_names h s.columns ≡ false
    → rows_behind_header s form rs ≡ Err (whole Header)
unfolding rows_behind_header
other_header s form rs rest h e n = rw (e, n) refl

pub right_header : (s : PlainSchema) (form : PlainFieldForm) (rs rest : List (List (List ℕ))) (h : List (List ℕ)) → rs ≡ h ∷ rest → are_names h s.columns ≡ true
    → rows_behind_header s form rs ≡ rows_from (record_row s form) 1 rest
unfolding rows_behind_header
right_header s form rs rest h e n = rw (e, n) refl

-- the rows of a text, by its records
pub nested_refused : (s : PlainSchema) (form : PlainFieldForm) (t : List ℕ) → list_any is_nested_column s.columns ≡ true → csv_rows_of s form t ≡ Err (whole Nested)
nested_refused s form t e = rw e refl

pub unnested : (s : PlainSchema) (form : PlainFieldForm) (t : List ℕ) → list_any is_nested_column s.columns ≡ false → csv_rows_of s form t ≡ rows_behind_header s form (records_of t)
unnested s form t e = rw e refl
