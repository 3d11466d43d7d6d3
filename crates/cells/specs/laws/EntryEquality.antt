-- Entries of the code as cells: equality, and insertion into an index set.
use Rattle.std.proofs.Common.{◌≡◌, Bool, true, false, List, [], ◌∷◌, ◌++◌, map, refl}
use Rattle.std.specs.Prelude.{if◌then◌else◌, not}
use mathlib.Core.Bool.{beq}
use Rattle.std.specs.List.{list_any}
use Rattle.std.proofs.lemmas.List.{map-append}
use Rattle.indexmap.specs.IndexSet.{insert_key}
use Rattle.cells.specs.contracts.entry.EntryPartialEq.TheImpl.{eq-value}
use Rattle.cells.specs.declared.entry.Entry.{Entry}
use Rattle.cells.specs.declared.entry.Entry.TheVariants as entries
use Rattle.cells.specs.Entry.{entry_cell}
use Rattle.cells.specs.Dictionary.{is_entry, with_new}

abbrev pub entry_eq : Entry → Entry → Bool
entry_eq = (eq-value).it

beq_is : (a b : Bool) → beq a b ≡ (if a then b else not b)
beq_is true true = refl
beq_is true false = refl
beq_is false true = refl
beq_is false false = refl

pub entry_eq_is : (a b : Entry) → entry_eq a b ≡ is_entry (entry_cell a) (entry_cell b)
entry_eq_is (entries.Bool a) (entries.Bool b) = beq_is a b
entry_eq_is (entries.Int a) (entries.Int b) = refl
entry_eq_is (entries.Text a) (entries.Text b) = refl
entry_eq_is (entries.Bytes a) (entries.Bytes b) = refl
entry_eq_is _ _ = refl

any_entry : (e : Entry) (es : List Entry) → list_any (entry_eq e) es ≡ list_any (is_entry (entry_cell e)) (map entry_cell es)
any_entry e [] = refl
any_entry e (x ∷ xs) = rw (entry_eq_is e x, any_entry e xs) refl

put_cond : (b : Bool) (e : Entry) (es : List Entry) → map entry_cell (if b then es else es ++ e ∷ []) ≡ (if b then map entry_cell es else map entry_cell es ++ entry_cell e ∷ [])
put_cond true e es = refl
put_cond false e es = map-append entry_cell es (e ∷ [])

pub put_is : (e : Entry) (es : List Entry) → map entry_cell (insert_key entry_eq es e) ≡ with_new (map entry_cell es) (entry_cell e)
put_is e es = rw (← any_entry e es) (put_cond (list_any (entry_eq e) es) e es)
