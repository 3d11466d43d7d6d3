-- What is answered of a dictionary batch.
use Rattle.std.specs.List.{list_any}
use Rattle.std.proofs.Common.{◌≡◌, ℕ, Bool, true, false, List, [], ◌∷◌, Option, Some, None, Result, Ok, Err, refl, sym, ap, ◌∙◌, subst}
use Rattle.arrays.proofs.DictionaryFound.{alone_of}
use Rattle.facts.specs.Checks.{when, first_some, unless}
use Rattle.facts.specs.laws.Checks.{unless_passed, first_some-after, first_some-before}
use Rattle.arrow_schema.specs.Column.{Column, columns_of}
use Rattle.ipc_message.specs.declared.fault.Fault.{Fault}
use Rattle.ipc_message.specs.declared.fault.Fault.TheVariants.{NotUtf8, DictionaryId, DeltaWithoutBase}
use Rattle.ipc_message.specs.declared.error.ImportError.{ImportError}
use Rattle.ipc_message.specs.declared.error.ImportError.TheVariants as errors
use Rattle.ipc_message.specs.Outcome.{Fails, Gives}
use Rattle.ipc_message.specs.Raw.{RawBatch, RawDictionaryBatch}
use Rattle.columns.specs.declared.array.PlacedArray.{PlacedArray}
use Rattle.columns.specs.Array.{Array, Arrays, first_array}
use Rattle.columns.specs.View.{placed_arrays}
use Rattle.columns.specs.Visible.{visible_in, is_no_text}
use Rattle.columns.specs.Alone.{alone}
use Rattle.dictionary.specs.InEffect.{DictionaryBatch}
use Rattle.arrays.specs.Checks.{array_checks, arrays_read}
use Rattle.arrays.proofs.BatchRead.{unless_failed}
use Rattle.arrays.specs.Dictionaries.{DictionaryColumn, entries_in, entry_checks, entries_read, dictionary_checks, has_no_base, batch_with, read_with}

pub entries_fail : (c : Column) (b : RawBatch) (body : List ℕ) (e : ImportError) → Fails e (arrays_read (alone c) b body []) → Fails e (entries_read c b body)
unfolding arrays_read entry_checks
entries_fail c b body errors.OutOfMemory h = tt
entries_fail c b body (errors.Fault f) h =
    let own : Arrays = entries_in c b body in
    let found = unless_failed (first_some (array_checks (alone c) b body own)) own f h in
    ap (λ (o : Option Fault). unless o (Ok (first_array own))) (first_some-before (array_checks (alone c) b body own) _ f found)

entries_after : (c : Column) (b : RawBatch) (body : List ℕ) (arrays : Arrays) → arrays_read (alone c) b body [] ≡ Ok arrays
    → entries_read c b body ≡ unless (first_some (when (list_any is_no_text (visible_in (alone c) arrays b.length)) NotUtf8 ∷ [])) (Ok (first_array arrays))
unfolding arrays_read entry_checks
entries_after c b body arrays h =
    let own : Arrays = entries_in c b body in
    let passed = unless_passed (first_some (array_checks (alone c) b body own)) (Ok own) arrays h in
    let same : own ≡ arrays = cc in
    ap (λ (o : Option Fault). unless o (Ok (first_array own))) (first_some-after (array_checks (alone c) b body own) (when (list_any is_no_text (visible_in (alone c) own b.length)) NotUtf8 ∷ []) passed.0)
    ∙ ap (λ (a : Arrays). unless (first_some (when (list_any is_no_text (visible_in (alone c) a b.length)) NotUtf8 ∷ [])) (Ok (first_array a))) same

pub entries_bad : (c : Column) (b : RawBatch) (body : List ℕ) (arrays : Arrays) → arrays_read (alone c) b body [] ≡ Ok arrays → list_any is_no_text (visible_in (alone c) arrays b.length) ≡ true
    → entries_read c b body ≡ Err NotUtf8
entries_bad c b body arrays h bad = entries_after c b body arrays h ∙ ap (λ (t : Bool). unless (first_some (when t NotUtf8 ∷ [])) (Ok (first_array arrays))) bad

pub entries_good : (c : Column) (b : RawBatch) (body : List ℕ) (arrays : Arrays) → arrays_read (alone c) b body [] ≡ Ok arrays → list_any is_no_text (visible_in (alone c) arrays b.length) ≡ false
    → entries_read c b body ≡ Ok (first_array arrays)
entries_good c b body arrays h good = entries_after c b body arrays h ∙ ap (λ (t : Bool). unless (first_some (when t NotUtf8 ∷ [])) (Ok (first_array arrays))) good

-- ---- the answers

pub failed : (cs : List Column) (c : Column) (b : RawBatch) (body : List ℕ) (e : ImportError) → cs ≡ c ∷ [] → Fails e (arrays_read (columns_of cs) b body []) → Fails e (entries_read c b body)
failed cs c b body e is h = entries_fail c b body e (subst (λ (x : List Column). Fails e (arrays_read (columns_of x) b body [])) is h)

pub bad : (cs : List Column) (c : Column) (b : RawBatch) (body bytes : List ℕ) (items xs : List PlacedArray) → cs ≡ c ∷ [] → xs ≡ items → arrays_read (columns_of cs) b body [] ≡ Ok (placed_arrays bytes [] items)
    → true ≡ list_any is_no_text (visible_in (columns_of cs) (placed_arrays bytes [] xs) b.length) → entries_read c b body ≡ Err NotUtf8
bad cs c b body bytes items xs is same h found =
    entries_bad c b body (placed_arrays bytes [] items) (subst (λ (x : List Column). arrays_read (columns_of x) b body [] ≡ Ok (placed_arrays bytes [] items)) is h)
    (subst (λ (x : List Column). list_any is_no_text (visible_in (columns_of x) (placed_arrays bytes [] items) b.length) ≡ true) is
    (subst (λ (x : List PlacedArray). list_any is_no_text (visible_in (columns_of cs) (placed_arrays bytes [] x) b.length) ≡ true) same (sym found)))

pub good : (cs : List Column) (c : Column) (b : RawBatch) (body bytes : List ℕ) (items xs : List PlacedArray) → cs ≡ c ∷ [] → xs ≡ items → arrays_read (columns_of cs) b body [] ≡ Ok (placed_arrays bytes [] items)
    → false ≡ list_any is_no_text (visible_in (columns_of cs) (placed_arrays bytes [] xs) b.length) → entries_read c b body ≡ Ok (first_array (placed_arrays bytes [] items))
good cs c b body bytes items xs is same h found =
    entries_good c b body (placed_arrays bytes [] items) (subst (λ (x : List Column). arrays_read (columns_of x) b body [] ≡ Ok (placed_arrays bytes [] items)) is h)
    (subst (λ (x : List Column). list_any is_no_text (visible_in (columns_of x) (placed_arrays bytes [] items) b.length) ≡ false) is
    (subst (λ (x : List PlacedArray). list_any is_no_text (visible_in (columns_of cs) (placed_arrays bytes [] x) b.length) ≡ false) same (sym found)))

pub no_id_found : (found : Option DictionaryColumn) (before : List DictionaryBatch) (d : RawDictionaryBatch) (body : List ℕ) → (let none : Option (List Column) = None in none) ≡ alone_of found → read_with found before d body ≡ Err DictionaryId
no_id_found None before d body h = refl
no_id_found (Some c) before d body h = absurd cc

pub no_base : (found : Option DictionaryColumn) (cs : List Column) (before : List DictionaryBatch) (d : RawDictionaryBatch) (body : List ℕ) → Some cs ≡ alone_of found → true ≡ has_no_base before d
    → read_with found before d body ≡ Err DeltaWithoutBase
unfolding dictionary_checks
no_base None cs before d body h base = absurd cc
no_base (Some c) cs before d body h base =
    ap (λ (t : Bool). unless (first_some (when t DeltaWithoutBase ∷ entry_checks c.values d.batch body)) (Ok (batch_with d (first_array (entries_in c.values d.batch body))))) (sym base)

given : (d : RawDictionaryBatch) (f : PlacedArray → Array) (o : Option Fault) (x : Array) (result : Result PlacedArray ImportError) → Gives f result (unless o (Ok x)) → Gives (λ a. batch_with d (f a)) result (unless o (Ok (batch_with d x)))
given d f None x (Ok a) h = let same : x ≡ f a = cc in ap (λ (y : Array). Ok (batch_with d y)) same
given d f (Some e) x (Ok a) h = absurd cc
given d f o x (Err errors.OutOfMemory) h = tt
given d f None x (Err (errors.Fault e)) h = absurd cc
given d f (Some g) x (Err (errors.Fault e)) h = let same : g ≡ e = cc in ap Err same

pub with_base : (found : Option DictionaryColumn) (cs : List Column) (before : List DictionaryBatch) (d : RawDictionaryBatch) (body : List ℕ) (f : PlacedArray → Array) (result : Result PlacedArray ImportError)
    → Some cs ≡ alone_of found → false ≡ has_no_base before d → ((c : Column) → cs ≡ c ∷ [] → Gives f result (entries_read c d.batch body)) → Gives (λ a. batch_with d (f a)) result (read_with found before d body)
unfolding dictionary_checks
with_base None cs before d body f result h base read = absurd cc
with_base (Some c) cs before d body f result h base read =
    let is : cs ≡ c.values ∷ [] = cc in
    subst (λ (t : Bool). Gives (λ a. batch_with d (f a)) result (unless (first_some (when t DeltaWithoutBase ∷ entry_checks c.values d.batch body)) (Ok (batch_with d (first_array (entries_in c.values d.batch body)))))) base
    (given d f (first_some (entry_checks c.values d.batch body)) (first_array (entries_in c.values d.batch body)) result (read c.values is))
