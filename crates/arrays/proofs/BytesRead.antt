-- What is read of a batch has bytes where its body has: the arrays of a record batch, those of a dictionary batch, and the dictionaries that are in effect.
use Rattle.std.specs.Prelude.{if◌then◌else◌}
use Rattle.std.specs.List.{list_all}
use Rattle.std.proofs.Common.{◌≡◌, ℕ, zero, suc, Bool, true, false, List, [], ◌∷◌, ◌++◌, map, drop, get_or, Option, Some, None, Ok, refl, subst, ◌∙◌}
use Rattle.std.proofs.lemmas.Bool.{and_parts, and_from}
use Rattle.std.proofs.lemmas.List.Folds.{list_all-append}
use Rattle.arrays.proofs.Ends.{all_left}
use Rattle.facts.specs.Checks.{first_some}
use Rattle.facts.specs.laws.Checks.{unless_passed}
use Rattle.arrow_schema.specs.Column.{Kind, Column, Columns, integers, dates, timestamps, fixed_binaries, lists, large_lists, fixed_lists, structs, column, no_column, and_column}
use Rattle.ipc_message.specs.Raw.{RawBuffer, RawBatch, RawDictionaryBatch}
use Rattle.columns.specs.Array.{Array, Arrays, arrays_of, first_array}
use Rattle.columns.specs.Buffers.{Node}
use Rattle.columns.specs.FromBuffers.{array_from, kind_array_from, arrays_from, node_count, buffer_count, dictionary_count}
use Rattle.columns.specs.Alone.{alone}
use Rattle.dictionary.specs.InEffect.{DictionaryBatch, has_id, after_batch, after_batches}
use Rattle.arrays.specs.Bytes.{are_bytes, has_bytes, have_bytes}
use Rattle.arrays.specs.Checks.{plain_node, buffer_bytes, batch_arrays}
use Rattle.arrays.specs.Dictionaries.{DictionaryColumn, column_of_id, entries_in, dictionary_checks, dictionary_read, read_with, batch_with, dictionaries_after}
use Rattle.arrays.proofs.RowsFit.{first_bytes}
use Rattle.arrays.specs.laws.Bytes.{are_bytes-drop, are_bytes-take}

-- ---- the arrays of a batch

buffers_bytes : (body : List ℕ) (bs : List RawBuffer) → are_bytes body ≡ true → list_all are_bytes (map (buffer_bytes body) bs) ≡ true
buffers_bytes body [] h = refl
buffers_bytes body (b ∷ bs) h = and_from _ _ (are_bytes-take b.length (drop b.offset body) (are_bytes-drop b.offset body h)) (buffers_bytes body bs h)

there_passes : {X : Type 0} (p : X → Bool) (n : ℕ) (xs : List X) (d : X) → p d ≡ true → list_all p xs ≡ true → p (get_or xs n d) ≡ true
there_passes p n [] d own h = own
there_passes p zero (x ∷ xs) d own h = (and_parts (p x) (list_all p xs) h).0
there_passes p (suc n) (x ∷ xs) d own h = there_passes p n xs d own (and_parts (p x) (list_all p xs) h).1

listed_bytes : (xs : List Array) → list_all has_bytes xs ≡ true → have_bytes (arrays_of xs) ≡ true
unfolding has_bytes
listed_bytes [] h = refl
listed_bytes (x ∷ xs) h = let p = and_parts (has_bytes x) (list_all has_bytes xs) h in and_from _ _ p.0 (listed_bytes xs p.1)

mutual
  unfolding array_from kind_array_from arrays_from has_bytes

  array_bytes : (c : Column) (ns : List Node) (bs : List (List ℕ)) (ds : List (List Array)) → list_all are_bytes bs ≡ true → list_all (list_all has_bytes) ds ≡ true → has_bytes (array_from c ns bs ds) ≡ true
  array_bytes (column name nullable kind (Some index) pairs) ns bs ds small known =
      and_from _ _ (there_passes are_bytes 1 bs [] refl small) (listed_bytes (get_or ds 0 []) (there_passes (list_all has_bytes) 0 ds [] refl known))
  array_bytes (column name nullable kind None pairs) ns bs ds small known = kind_bytes kind ns bs ds small known

  kind_bytes : (k : Kind) (ns : List Node) (bs : List (List ℕ)) (ds : List (List Array)) → list_all are_bytes bs ≡ true → list_all (list_all has_bytes) ds ≡ true → has_bytes (kind_array_from k ns bs ds) ≡ true
  kind_bytes (integers bits signed) ns bs ds small known = there_passes are_bytes 1 bs [] refl small
  kind_bytes (dates unit) ns bs ds small known = there_passes are_bytes 1 bs [] refl small
  kind_bytes (timestamps unit timezone) ns bs ds small known = there_passes are_bytes 1 bs [] refl small
  kind_bytes (fixed_binaries width) ns bs ds small known = there_passes are_bytes 1 bs [] refl small
  kind_bytes (lists item) ns bs ds small known = array_bytes item (drop 1 ns) (drop 2 bs) ds (all_left are_bytes 2 bs small) known
  kind_bytes (large_lists item) ns bs ds small known = array_bytes item (drop 1 ns) (drop 2 bs) ds (all_left are_bytes 2 bs small) known
  kind_bytes (fixed_lists size item) ns bs ds small known = array_bytes item (drop 1 ns) (drop 1 bs) ds (all_left are_bytes 1 bs small) known
  kind_bytes (structs columns) ns bs ds small known = arrays_bytes columns (drop 1 ns) (drop 1 bs) ds (all_left are_bytes 1 bs small) known
  kind_bytes _ ns bs ds small known = refl

  arrays_bytes : (cs : Columns) (ns : List Node) (bs : List (List ℕ)) (ds : List (List Array)) → list_all are_bytes bs ≡ true → list_all (list_all has_bytes) ds ≡ true → have_bytes (arrays_from cs ns bs ds) ≡ true
  arrays_bytes no_column ns bs ds small known = refl
  arrays_bytes (and_column c cs) ns bs ds small known =
      and_from _ _ (array_bytes c ns bs ds small known)
      (arrays_bytes cs (drop (node_count c) ns) (drop (buffer_count c) bs) (drop (dictionary_count c) ds) (all_left are_bytes (buffer_count c) bs small) (all_left (list_all has_bytes) (dictionary_count c) ds known))

pub batch_bytes : (cs : Columns) (b : RawBatch) (body : List ℕ) (known : List (List Array)) → are_bytes body ≡ true → list_all (list_all has_bytes) known ≡ true
    → have_bytes (batch_arrays cs b body known) ≡ true
batch_bytes cs b body known small smalls = arrays_bytes cs (map plain_node b.nodes) (map (buffer_bytes body) b.buffers) known (buffers_bytes body b.buffers small) smalls

-- ---- a dictionary batch

found_bytes : (found : Option DictionaryColumn) (before : List DictionaryBatch) (d : RawDictionaryBatch) (body : List ℕ) (b : DictionaryBatch) → are_bytes body ≡ true
    → read_with found before d body ≡ Ok b → has_bytes b.array ≡ true
found_bytes None before d body b small h = absurd cc
found_bytes (Some c) before d body b small h =
    let own : Arrays = entries_in c.values d.batch body in
    let answer = unless_passed (first_some (dictionary_checks before c.values d body)) (Ok (batch_with d (first_array own))) b h in
    let is : batch_with d (first_array own) ≡ b = cc in
    subst (λ (x : DictionaryBatch). has_bytes x.array ≡ true) is (first_bytes own (batch_bytes (alone c.values) d.batch body [] small refl)).0

pub dictionary_batch_bytes : (columns : List DictionaryColumn) (before : List DictionaryBatch) (d : RawDictionaryBatch) (body : List ℕ) (b : DictionaryBatch) → are_bytes body ≡ true
    → dictionary_read columns before d body ≡ Ok b → has_bytes b.array ≡ true
unfolding dictionary_read
dictionary_batch_bytes columns before d body b small h = found_bytes (column_of_id d.id columns) before d body b small h

-- ---- after batches

one_more : (arrays : List Array) (a : Array) (own delta : Bool) → list_all has_bytes arrays ≡ true → has_bytes a ≡ true
    → list_all has_bytes (if own then (if delta then arrays ++ a ∷ [] else a ∷ []) else arrays) ≡ true
one_more arrays a true true h k = list_all-append has_bytes arrays (a ∷ []) ∙ rw (h, k) refl
one_more arrays a true false h k = rw k refl
one_more arrays a false delta h k = h

after_bytes : (id : ℕ) (arrays : List Array) (batches : List DictionaryBatch) → list_all has_bytes arrays ≡ true → list_all (λ b. has_bytes b.array) batches ≡ true
    → list_all has_bytes (after_batches id arrays batches) ≡ true
after_bytes id arrays [] h k = h
after_bytes id arrays (b ∷ batches) h k =
    let parts = and_parts (has_bytes b.array) (list_all (λ x. has_bytes x.array) batches) k in
    after_bytes id (after_batch id arrays b) batches (one_more arrays b.array (has_id id b) b.is_delta h parts.0) parts.1

pub known_bytes : (columns : List DictionaryColumn) (batches : List DictionaryBatch) → list_all (λ b. has_bytes b.array) batches ≡ true
    → list_all (list_all has_bytes) (dictionaries_after batches columns) ≡ true
known_bytes [] batches h = refl
known_bytes (c ∷ columns) batches h = and_from _ _ (after_bytes c.id [] batches refl h) (known_bytes columns batches h)
