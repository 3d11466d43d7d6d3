-- Reading rows and cells in order, and the records that they are read from.
use Rattle.std.proofs.Common.{◌≡◌, ℕ, ◌+◌, true, false, List, [], ◌∷◌, ◌++◌, refl, sym, ap, ◌∙◌, append_assoc}
use Rattle.std.specs.Prelude.{Bool, Option, Some, None, Result, Ok, Err}
use Rattle.std.specs.Borrow.{Bor}
use Rattle.std.proofs.lemmas.Bool.{false≢true}
use Rattle.std.proofs.lemmas.List.{append-nil}
use Rattle.csv.specs.declared.reader.Reader.{Reader}
use Rattle.arrow_schema.specs.Column.{Column}
use Rattle.cells.specs.Cell.{Cell}
use Rattle.facts.specs.Outcomes.{Reports}
use Rattle.text_import.specs.declared.refusal.Refusal.{Refusal}
use Rattle.text_import.specs.declared.refusal.Refused.{Refused}
use Rattle.text_import.specs.Flat.{field_cell}
use Rattle.text_import.specs.Records.{field_cells}
use Rattle.text_import.specs.Refusals.{given, numbered}
use Rattle.text_import.specs.Rows.{rows_from}
use Rattle.text_import.specs.Stands.{HasLeft, TakesNext}
use Rattle.text_import.specs.FieldForm.{PlainFieldForm}

-- the result of reading, with these before it
abbrev pub behind : {X E : Type 0} → List X → Result (List X) E → Result (List X) E
behind so rest = given (λ xs. so ++ xs) rest

pub behind_none : {X E : Type 0} (r : Result (List X) E) → behind [] r ≡ r
behind_none (Ok xs) = refl
behind_none (Err e) = refl

pub behind_more : {X E : Type 0} (so : List X) (x : X) (r : Result (List X) E) → behind so (given (λ xs. x ∷ xs) r) ≡ behind (so ++ x ∷ []) r
behind_more so x (Ok xs) = ap Ok (sym (append_assoc so (x ∷ []) xs))
behind_more so x (Err e) = refl

pub behind_end : {X E : Type 0} (so : List X) → behind {X = X} {E = E} so (Ok []) ≡ Ok so
behind_end so = ap Ok (append-nil so)

-- another row was read
pub row_more : {A : Type 0} (read : A → Result (List Cell) Refusal) (n : ℕ) (so : List (List Cell)) (x : A) (xs : List A) (row : List Cell) → numbered n (read x) ≡ Ok row
    → behind so (rows_from read n (x ∷ xs)) ≡ behind (so ++ row ∷ []) (rows_from read (n + 1) xs)
unfolding rows_from
row_more read n so x xs row e = rw e (behind_more so row (rows_from read (n + 1) xs))

-- a row was refused
pub row_refused : {A : Type 0} (read : A → Result (List Cell) Refusal) (n : ℕ) (so : List (List Cell)) (x : A) (xs : List A) (f : Refused) → numbered n (read x) ≡ Err f
    → behind so (rows_from read n (x ∷ xs)) ≡ Err f
unfolding rows_from
row_refused read n so x xs f e = rw e refl

pub rows_end : {A : Type 0} (read : A → Result (List Cell) Refusal) (n : ℕ) (so : List (List Cell)) → behind so (rows_from read n []) ≡ Ok so
unfolding rows_from
rows_end read n so = behind_end so

-- another cell of a record was read, and the end
pub field_more : (form : PlainFieldForm) (so : List Cell) (c : Column) (cs : List Column) (t : List ℕ) (ts : List (List ℕ)) (x : Cell) → field_cell form c t ≡ Ok x
    → behind so (field_cells form (c ∷ cs) (t ∷ ts)) ≡ behind (so ++ x ∷ []) (field_cells form cs ts)
unfolding field_cells
field_more form so c cs t ts x e = rw e (behind_more so x (field_cells form cs ts))

pub fields_end : (form : PlainFieldForm) (so : List Cell) (ts : List (List ℕ)) → behind so (field_cells form [] ts) ≡ Ok so
unfolding field_cells
fields_end form so ts = behind_end so

-- reading the next record: there was one, or there was none
pub taken_some : (records : List (List (List ℕ))) (found : Bool) (fields : List (List ℕ)) (r : Reader (Bor (List ℕ))) → TakesNext records found fields r → found ≡ true
    → (others : List (List (List ℕ))) × (records ≡ fields ∷ others) × HasLeft r others
taken_some [] found fields r h e = absurd (false≢true (sym h ∙ e))
taken_some (fs ∷ others) found fields r h e = (others, ap (λ (x : List (List ℕ)). x ∷ others) (sym h.1), h.2)

pub taken_none : (records : List (List (List ℕ))) (found : Bool) (fields : List (List ℕ)) (r : Reader (Bor (List ℕ))) → TakesNext records found fields r → found ≡ false → records ≡ []
taken_none [] found fields r h e = refl
taken_none (fs ∷ others) found fields r h e = absurd (false≢true (sym e ∙ h.0))

-- the refusal of a part is that of the whole
pub told : {A B F : Type 0} (o : Option F) (r : Result A F) (w : Result B F) → Reports o r → ((f : F) → r ≡ Err f → w ≡ Err f) → Reports o w
told None r w h more = tt
told (Some f) r w h more = more f h
