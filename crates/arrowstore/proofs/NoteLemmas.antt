-- What notes say of the list of a store.
use Rattle.std.proofs.Common.{◌≡◌, ℕ, Bool, true, false, List, [], ◌∷◌, refl, sym, subst, ap, ◌∙◌}
use Rattle.std.specs.Prelude.{String, string_bytes, map, find, option_map, Option, Some, None, IfSome}
use Rattle.std.specs.Global.{Global}
use Rattle.std.specs.Str.{bytes_eq}
use Rattle.catalogue.specs.Entries.{PlainCatalogue, PlainEntry, row_count}
use Rattle.catalogue.specs.Edits.{tables_of}
use Rattle.cli_reports.specs.declared.notes.Note.{Note}
use Rattle.arrowstore.specs.declared.notes.Counted.{Counted}
use Rattle.arrowstore.specs.declared.open_command.OpenCommand.{OpenCommand}
use Rattle.arrowstore.specs.Notes.{rows_of, IfCounted, IsCounted, IsNote, IsNoteOf}

-- the first of the images that passes a test is the image of the first whose image passes it
pub find_mapped : {A B C : Type 0} (f : A → B) (h : B → C) (test : B → Bool) (xs : List A)
    → option_map h (find test (map f xs)) ≡ option_map (λ x. h (f x)) (find (λ x. test (f x)) xs)
find_mapped f h test [] = refl
find_mapped f h test (x ∷ xs) = by_test (test (f x)) refl (find_mapped f h test xs)
  where
    by_test : (b : Bool) → test (f x) ≡ b → option_map h (find test (map f xs)) ≡ option_map (λ x. h (f x)) (find (λ x. test (f x)) xs)
        → option_map h (find test (map f (x ∷ xs))) ≡ option_map (λ x. h (f x)) (find (λ x. test (f x)) (x ∷ xs))
    by_test true is rest = rw is refl
    by_test false is rest = rw is rest

-- the rows of a table, by a list that has the names and rows of a catalogue
pub rows_listed : (tables : List (String Global × ℕ)) (c : PlainCatalogue) (name : List ℕ) → map (λ t. (string_bytes t.0, t.1)) tables ≡ tables_of c
    → option_map (λ t. t.1) (find (λ t. bytes_eq (string_bytes t.0) name) tables) ≡ rows_of c name
rows_listed tables c name same =
    sym (find_mapped (λ (t : String Global × ℕ). (string_bytes t.0, t.1)) (λ t. t.1) (λ t. bytes_eq t.0 name) tables)
    ∙ ap (λ (ts : List (List ℕ × ℕ)). option_map (λ t. t.1) (find (λ t. bytes_eq t.0 name) ts)) same
    ∙ find_mapped (λ (e : PlainEntry). (e.name, row_count e)) (λ t. t.1) (λ t. bytes_eq t.0 name) c

-- a note by what was counted is one of the command
pub of_counted : (command : OpenCommand) (old new : PlainCatalogue) (counted : Option Counted) (note : Option Note)
    → IfSome counted (IsCounted command old) → IfSome note (IfCounted counted new) → IfSome note (IsNoteOf command old new)
of_counted command old new counted None before after = tt
of_counted command old new None (Some note) before after = absurd after
of_counted command old new (Some c) (Some note) before after =
    (c.change, string_bytes c.name, before.0, subst (λ b. IsNote c.change b (rows_of new (string_bytes c.name)) note) before.1 after)
