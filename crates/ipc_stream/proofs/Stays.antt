-- What is known of bytes is known of them with more bytes after.
use Rattle.std.specs.Prelude.{Option, Some, None, get_or}
use Rattle.std.specs.List.{list_all}
use Rattle.std.proofs.Common.{◌≡◌, ℕ, zero, suc, ◌≤◌, true, List, [], ◌∷◌, ◌++◌, length, drop, refl, ap, sym, ◌∙◌, arith, append_assoc, length-append}
use Rattle.std.proofs.lemmas.Bool.{and_parts, and_from}
use Rattle.std.proofs.lemmas.List.{drop-append-le}
use Rattle.columns.specs.declared.array.Dictionary.{Dictionary}
use Rattle.columns.specs.declared.array.PlacedArray.{PlacedArray}
use Rattle.columns.specs.laws.Grown.{flat_stay}
use Rattle.columns.specs.Within.{is_within_by}
use Rattle.dictionary.specs.InEffect.{DictionaryBatch}
use Rattle.dictionary.specs.Kept.{Kept, HasInEffect, are_kept_within, arrays_for, list_at, number_in, lists_of, KeepsParts}
use Rattle.ipc_stream.specs.declared.front.Front.{Front}
use Rattle.ipc_stream.specs.Meaning.{Known}
use Rattle.ipc_stream.specs.Progress.{IsFront, IsBefore}
use Rattle.ipc_stream.specs.inner.Reached.{IsReadTo, known_from, after_all, accepted_from}
use Rattle.ipc_stream.proofs.Grown.{plains_end, batches_end, batches_stay_sound, batches_keep_rows}

-- ---- dictionaries

list_ends : (size n : ℕ) (lists : List (List PlacedArray)) → list_all (list_all (is_within_by size (λ p. true))) lists ≡ true
    → list_all (is_within_by size (λ p. true)) (get_or lists n []) ≡ true
list_ends size n [] end = refl
list_ends size zero (arrays ∷ lists) end = (and_parts (list_all (is_within_by size (λ p. true)) arrays) _ end).0
list_ends size (suc n) (arrays ∷ lists) end = list_ends size n lists (and_parts (list_all (is_within_by size (λ p. true)) arrays) _ end).1

listed_end : (size : ℕ) (n : Option ℕ) (lists : List (List PlacedArray)) → list_all (list_all (is_within_by size (λ p. true))) lists ≡ true
    → list_all (is_within_by size (λ p. true)) (list_at lists n) ≡ true
listed_end size None lists end = refl
listed_end size (Some n) lists end = list_ends size n lists end

effect_stays : (bytes more : List ℕ) (kept : Kept) (before : List DictionaryBatch) → are_kept_within (length bytes) kept ≡ true → HasInEffect bytes kept before → HasInEffect (bytes ++ more) kept before
effect_stays bytes more kept before end effect id =
    flat_stay bytes more (arrays_for kept id) (listed_end (length bytes) (number_in id kept.numbers) kept.lists end) ∙ effect id

lists_end : (size larger : ℕ) → size ≤ larger → (lists : List (List PlacedArray)) → list_all (list_all (is_within_by size (λ p. true))) lists ≡ true
    → list_all (list_all (is_within_by larger (λ p. true))) lists ≡ true
lists_end size larger le [] end = refl
lists_end size larger le (arrays ∷ lists) end =
    let parts = and_parts (list_all (is_within_by size (λ p. true)) arrays) (list_all (list_all (is_within_by size (λ p. true))) lists) end in
    and_from _ _ (plains_end size larger le arrays parts.0) (lists_end size larger le lists parts.1)

-- ---- all that is known

front_stays : (bytes more : List ℕ) (f : Front) (k : Known) → IsFront bytes f k → IsFront (bytes ++ more) f k
front_stays bytes more f k is =
    let le : length bytes ≤ length (bytes ++ more) = omega (arith, length-append bytes more) in
    let keeps = λ (lists : List Dictionary). the_same (lists_of lists) in
    record {
      schema = is.schema;
      columns = is.columns;
      dictionaries = is.dictionaries;
      effect = effect_stays bytes more f.dictionaries k.dictionaries is.kept is.effect;
      kept = lists_end (length bytes) (length (bytes ++ more)) le f.dictionaries.lists is.kept;
      within = λ lists e. batches_end (length bytes) (length (bytes ++ more)) lists lists f.batches.items le (keeps lists) (is.within lists e);
      sound = λ lists e. batches_stay_sound _ bytes more lists lists f.batches.items (keeps lists) (is.within lists e) ∙ is.sound lists e;
      rows = λ lists e. batches_keep_rows _ bytes more lists lists f.batches.items (keeps lists) (is.within lists e) ∙ is.rows lists e;
      weight = is.weight;
      table = is.table;
    }
  where
    the_same : (lists : List (List PlacedArray)) → KeepsParts lists lists
    the_same lists = λ part there. (there, refl)

before_stays : (bytes more : List ℕ) (front : Option Front) (before : Option Known) → IsBefore bytes front before → IsBefore (bytes ++ more) front before
before_stays bytes more None None is = tt
before_stays bytes more None (Some k) is = absurd is
before_stays bytes more (Some f) None is = absurd is
before_stays bytes more (Some f) (Some k) is = front_stays bytes more f k is

-- ---- how far bytes were read

pub reads_stay : (bytes more : List ℕ) (number start : ℕ) (front : Option Front) → IsReadTo bytes number start front → IsReadTo (bytes ++ more) number start front
reads_stay bytes more number start front r =
    let rest = λ (others : List ℕ). sym (append_assoc (drop start bytes) more others) ∙ ap (λ (x : List ℕ). x ++ others) (sym (drop-append-le start bytes more r.within)) in
    record {
      before = r.before;
      known = before_stays bytes more front r.before r.known;
      within = omega (arith, r.within, length-append bytes more);
      begins = r.begins;
      others = λ others. ap (known_from None) (append_assoc bytes more others) ∙ r.others (more ++ others) ∙ ap (known_from r.before) (rest others);
      waits = λ others. ap after_all (append_assoc bytes more others) ∙ r.waits (more ++ others) ∙ ap after_all (rest others);
      messages = r.messages;
      counted = r.counted;
      sized = r.sized;
      passed = λ others.
          ap (accepted_from None) (append_assoc bytes more others) ∙ r.passed (more ++ others)
          ∙ ap (λ (x : List ℕ). r.messages ++ accepted_from r.before x) (rest others);
    }
