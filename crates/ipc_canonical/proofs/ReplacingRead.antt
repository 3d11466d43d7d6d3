-- A dictionary batch that is no delta is read as its array, where its entries are.
use Rattle.std.proofs.Common.{◌≡◌, ℕ, false, List, Option, Some, None, Ok, refl, ap, ◌∙◌}
use Rattle.facts.specs.Checks.{first_some}
use Rattle.facts.specs.laws.Checks.{unless_passed}
use Rattle.ipc_message.specs.Raw.{RawDictionaryBatch}
use Rattle.columns.specs.Array.{Array, first_array}
use Rattle.dictionary.specs.InEffect.{DictionaryBatch}
use Rattle.arrays.specs.Dictionaries.{DictionaryColumn, column_of_id, entries_in, entry_checks, entries_read, has_no_base, dictionary_checks, dictionary_read, read_with, batch_with}

read_by : (c : DictionaryColumn) (before : List DictionaryBatch) (d : RawDictionaryBatch) (body : List ℕ) (a : Array) → d.is_delta ≡ false → entries_read c.values d.batch body ≡ Ok a
    → read_with (Some c) before d body ≡ Ok (batch_with d a)
unfolding dictionary_checks
read_by c before d body a delta h =
    let first : Array = first_array (entries_in c.values d.batch body) in
    let passed = unless_passed (first_some (entry_checks c.values d.batch body)) (Ok first) a h in
    let is : first ≡ a = let same = passed.1 in cc in
    let based : has_no_base before d ≡ false = rw delta refl in
    let none : first_some (dictionary_checks before c.values d body) ≡ None = rw based passed.0 in
    rw none (ap (λ (x : Array). Ok (batch_with d x)) is)

pub replacing_read : (columns : List DictionaryColumn) (before : List DictionaryBatch) (d : RawDictionaryBatch) (body : List ℕ) (c : DictionaryColumn) (a : Array)
    → column_of_id d.id columns ≡ Some c → d.is_delta ≡ false → entries_read c.values d.batch body ≡ Ok a → dictionary_read columns before d body ≡ Ok (batch_with d a)
unfolding dictionary_read
replacing_read columns before d body c a found delta h = ap (λ (o : Option DictionaryColumn). read_with o before d body) found ∙ read_by c before d body a delta h
