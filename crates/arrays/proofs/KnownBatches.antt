-- What is read of a dictionary batch is readable, and so is what is in effect after batches that are.
use Rattle.std.specs.Prelude.{not, ◌==◌, option_map, if◌then◌else◌}
use Rattle.std.specs.List.{list_any, list_all, range_with_len, AllByRecursion}
use Rattle.std.proofs.Common.{◌≡◌, ℕ, Bool, true, false, List, [], ◌∷◌, ◌++◌, map, Option, Some, None, Ok, refl, sym, ap, subst, ◌∙◌}
use Rattle.std.proofs.lemmas.Bool.{and_parts, or_parts, eqb-true, not-false}
use Rattle.std.proofs.lemmas.List.Folds.{list_all-append}
use Rattle.facts.specs.Checks.{first_some, when, unless}
use Rattle.facts.specs.laws.Checks.{unless_passed, first_some-both}
use Rattle.arrow_schema.specs.Column.{Column}
use Rattle.ipc_message.specs.declared.fault.Fault.TheVariants.{NotUtf8, DeltaWithoutBase}
use Rattle.ipc_message.specs.Raw.{RawBatch, RawDictionaryBatch}
use Rattle.columns.specs.Array.{Array, Arrays, array_list, first_array, slots_in}
use Rattle.columns.specs.Buffers.{Node}
use Rattle.columns.specs.CellAt.{cell_at, cells_in}
use Rattle.columns.specs.FromBuffers.{arrays_from}
use Rattle.columns.specs.Sound.{is_sound, are_sound}
use Rattle.columns.specs.Visible.{visible_in, is_no_text, is_bad_text}
use Rattle.columns.specs.Alone.{alone}
use Rattle.dictionary.specs.InEffect.{DictionaryBatch, has_id, after_batch, after_batches}
use Rattle.arrays.specs.Checks.{plain_node, buffer_bytes, array_checks, arrays_read}
use Rattle.arrays.specs.Dictionaries.{DictionaryColumn, column_of_id, entries_in, entry_checks, dictionary_checks, dictionary_read, read_with, batch_with, has_no_base, dictionaries_after}
use Rattle.arrays.specs.Known.{is_readable, are_readable, is_readable_for, is_readable_batch, IsAsFirst}
use Rattle.arrays.specs.inner.VisibleSpans.{any_slot, any_visible, any_below}
use Rattle.arrays.proofs.BatchRead.{passed, read_sound, read_lengths}
use Rattle.arrays.proofs.KnownRead.{known_sound, none_known}
use Rattle.arrays.proofs.RowWeights.{any_row}
use Rattle.arrays.proofs.VisibleSpans.{all_visible, own_and_below}

-- ---- one batch

read_alone : (v : Column) (b : RawBatch) (body : List ℕ) → first_some (array_checks (alone v) b body (entries_in v b body)) ≡ None → arrays_read (alone v) b body [] ≡ Ok (entries_in v b body)
unfolding arrays_read
read_alone v b body h = ap (λ o. unless o (Ok (entries_in v b body))) h

first_sound : (v : Column) (rows : ℕ) (arrays : Arrays) → are_sound (alone v) rows arrays ≡ true → is_sound v (first_array arrays) ≡ true
unfolding are_sound
first_sound v rows arrays h = (and_parts (is_sound v (first_array arrays)) true (and_parts _ _ h).1).0

first_length : (v : Column) (ns : List Node) (bs : List (List ℕ)) (n : ℕ) → list_any (λ a. not (slots_in a == n)) (array_list (arrays_from (alone v) ns bs [])) ≡ false
    → slots_in (first_array (arrays_from (alone v) ns bs [])) ≡ n
unfolding arrays_from
first_length v ns bs n h = eqb-true _ _ (not-false _ (or_parts (not (slots_in (first_array (arrays_from (alone v) ns bs [])) == n)) false h).0)

texts_good : (v : Column) (arrays : Arrays) (rows : ℕ) → slots_in (first_array arrays) ≡ rows → list_any is_no_text (visible_in (alone v) arrays rows) ≡ false
    → list_any is_bad_text (cells_in v (first_array arrays)) ≡ false
texts_good v arrays rows is h =
    let a : Array = first_array arrays in
    let parts = or_parts (any_visible is_no_text v a 0 rows) false (all_visible is_no_text (alone v) arrays rows ∙ h) in
    let own = or_parts (any_slot is_no_text v a 0 rows) (any_below is_no_text v a 0 rows) (sym (own_and_below is_no_text v a 0 rows) ∙ parts.0) in
    any_row is_bad_text (λ i. is_bad_text (cell_at v a i)) (cell_at v a) 0 (slots_in a) (λ i. refl) ∙ ap (λ (n : ℕ). list_any (λ i. is_bad_text (cell_at v a i)) (range_with_len 0 n)) is ∙ own.0

entries_readable : (v : Column) (b : RawBatch) (body : List ℕ) → first_some (entry_checks v b body) ≡ None → is_readable v (first_array (entries_in v b body)) ≡ true
unfolding entry_checks
entries_readable v b body h =
    let own : Arrays = entries_in v b body in
    let bad : Bool = list_any is_no_text (visible_in (alone v) own b.length) in
    let both = first_some-both (array_checks (alone v) b body own) (when bad NotUtf8 ∷ []) h in
    let texts = passed bad NotUtf8 [] both.1 in
    let sound = read_sound (alone v) b body [] own (read_alone v b body both.0) (known_sound (alone v) (map plain_node b.nodes) (map (buffer_bytes body) b.buffers) [] (none_known _)) in
    let rows = first_length v (map plain_node b.nodes) (map (buffer_bytes body) b.buffers) b.length (read_lengths (alone v) b body [] both.0) in
    rw (first_sound v b.length own sound, texts_good v own b.length rows texts.0) refl

found_readable : (found : Option DictionaryColumn) (before : List DictionaryBatch) (d : RawDictionaryBatch) (body : List ℕ) (b : DictionaryBatch) → read_with found before d body ≡ Ok b
    → (d.id ≡ b.id) × (is_readable_for found b ≡ true)
unfolding dictionary_checks
found_readable None before d body b h = absurd cc
found_readable (Some c) before d body b h =
    let a : Array = first_array (entries_in c.values d.batch body) in
    let answer = unless_passed (first_some (dictionary_checks before c.values d body)) (Ok (batch_with d a)) b h in
    let is : batch_with d a ≡ b = cc in
    let based = passed (has_no_base before d) DeltaWithoutBase (entry_checks c.values d.batch body) answer.0 in
    (ap (λ (x : DictionaryBatch). x.id) is, subst (λ (x : DictionaryBatch). is_readable c.values x.array ≡ true) is (entries_readable c.values d.batch body based.1))

pub batch_readable : (columns : List DictionaryColumn) (before : List DictionaryBatch) (d : RawDictionaryBatch) (body : List ℕ) (b : DictionaryBatch) → dictionary_read columns before d body ≡ Ok b
    → is_readable_batch columns b ≡ true
unfolding dictionary_read
batch_readable columns before d body b h =
    let found = found_readable (column_of_id d.id columns) before d body b h in
    ap (λ (id : ℕ). is_readable_for (column_of_id id columns) b) (sym found.0) ∙ found.1

-- ---- after batches

as_first : (found : Option DictionaryColumn) (values : Column) (b : DictionaryBatch) → option_map (λ d. d.values) found ≡ Some values → is_readable_for found b ≡ true → is_readable values b.array ≡ true
as_first None values b is h = absurd cc
as_first (Some d) values b is h = let same : d.values ≡ values = cc in subst (λ (v : Column). is_readable v b.array ≡ true) same h

one_more : (values : Column) (arrays : List Array) (a : Array) (delta : Bool) → list_all (is_readable values) arrays ≡ true → is_readable values a ≡ true
    → list_all (is_readable values) (if delta then arrays ++ a ∷ [] else a ∷ []) ≡ true
one_more values arrays a true h k = list_all-append (is_readable values) arrays (a ∷ []) ∙ rw (h, k) refl
one_more values arrays a false h k = rw k refl

by_id : (columns : List DictionaryColumn) (c : DictionaryColumn) (arrays : List Array) (b : DictionaryBatch) (same : Bool) → has_id c.id b ≡ same → IsAsFirst columns c
    → list_all (is_readable c.values) arrays ≡ true → is_readable_batch columns b ≡ true → list_all (is_readable c.values) (after_batch c.id arrays b) ≡ true
by_id columns c arrays b true same first h k =
    let id : b.id ≡ c.id = eqb-true _ _ same in
    let own = as_first (column_of_id c.id columns) c.values b first (ap (λ (n : ℕ). is_readable_for (column_of_id n columns) b) (sym id) ∙ k) in
    rw same (one_more c.values arrays b.array b.is_delta h own)
by_id columns c arrays b false same first h k = rw same h

after_readable : (columns : List DictionaryColumn) (c : DictionaryColumn) (arrays : List Array) (batches : List DictionaryBatch) → IsAsFirst columns c → list_all (is_readable c.values) arrays ≡ true
    → list_all (is_readable_batch columns) batches ≡ true → list_all (is_readable c.values) (after_batches c.id arrays batches) ≡ true
after_readable columns c arrays [] first h k = h
after_readable columns c arrays (b ∷ batches) first h k =
    let parts = and_parts (is_readable_batch columns b) _ k in
    after_readable columns c (after_batch c.id arrays b) batches first (by_id columns c arrays b (has_id c.id b) refl first h parts.0) parts.1

some_known : (columns cs : List DictionaryColumn) (batches : List DictionaryBatch) → AllByRecursion (IsAsFirst columns) cs → list_all (is_readable_batch columns) batches ≡ true
    → are_readable (map (λ c. c.values) cs) (dictionaries_after batches cs) ≡ true
some_known columns [] batches first h = refl
some_known columns (c ∷ cs) batches first h = rw (after_readable columns c [] batches first.0 refl h) (some_known columns cs batches first.1 h)

pub all_known : (columns : List DictionaryColumn) (batches : List DictionaryBatch) → AllByRecursion (IsAsFirst columns) columns → list_all (is_readable_batch columns) batches ≡ true
    → are_readable (map (λ c. c.values) columns) (dictionaries_after batches columns) ≡ true
all_known columns batches first h = some_known columns columns batches first h
