-- What a stream means is a table.
use Rattle.std.proofs.Common.{◌≡◌, ℕ, zero, suc, Bool, true, false, List, [], ◌++◌, length, drop, Result, Ok, Err, refl, sym, ap, ◌∙◌, subst, arith}
use Rattle.std.specs.Prelude.{Option, Some, None, if◌then◌else◌, nat_lt}
use Rattle.std.proofs.lemmas.Bool.{and_parts}
use Rattle.std.proofs.lemmas.List.Folds.{list_all-append}
use Rattle.std.proofs.lemmas.List.Sums.{AllPass-from_list_all}
use Rattle.ipc_stream.specs.laws.First.{bound, refused, after_next}
use Rattle.facts.specs.Bytes.{AreBytes}
use Rattle.facts.specs.laws.Checks.{unless_passed}
use Rattle.arrow_schema.specs.Column.{PlainSchema, columns_of}
use Rattle.arrow_schema.specs.Limits.{IsWithinLimits}
use Rattle.cells.specs.Cell.{PlainTable}
use Rattle.cells.specs.Row.{is_row}
use Rattle.columns.specs.CellAt.{rows_in}
use Rattle.arrays.specs.Bytes.{are_bytes}
use Rattle.arrays.specs.Dictionaries.{dictionary_read}
use Rattle.arrays.specs.laws.Bytes.{are_bytes-drop}
use Rattle.ipc_message.specs.declared.fault.Fault.{Fault}
use Rattle.ipc_message.specs.declared.fault.Fault.TheVariants.{AfterEnd}
use Rattle.ipc_message.specs.Checks.{schema_checks, checked_schema}
use Rattle.ipc_message.specs.Convert.{plain_schema_of}
use Rattle.ipc_message.specs.Framing.{Envelope, NextMessage, end_of_stream, message, next_message, taken, Framed, IsMessage, continuation_marker, first_some, unless, type_of}
use Rattle.ipc_message.specs.Header.{header}
use Rattle.ipc_message.specs.Raw.{RawSchema, RawHeader, schema_header, dictionary_header, batch_header}
use Rattle.values.specs.Table.{IsTable}
use Rattle.ipc_stream.specs.Meaning.{Known, known_first, known_table, with_dictionary, with_rows, order_fault, read_after, read_header, read_next, known_at_end, known_at_end_of_stream, read_from, meaning, ◌>>=◌, is_empty}
use Rattle.ipc_stream.specs.Progress.{known_batch}
use Rattle.ipc_stream.proofs.Batches.{RowLaws, IsKnown, all_small, table_after}
use Rattle.ipc_stream.proofs.Firsts.{reported_ok}
use Rattle.ipc_stream.proofs.Dictionaries.{ColumnLaws, BatchLaws, first_dictionaries, dictionaries_stay, dictionaries_more}

-- what other crates say
pub record StreamLaws : Type 0 where
  pub within : (supported : ℕ → Bool) (raw : RawSchema) (s : PlainSchema) → checked_schema supported raw ≡ Ok s → IsWithinLimits s
  pub columns : ColumnLaws
  pub batch : BatchLaws
  pub rows : RowLaws
  pub framed : (bytes : List ℕ) (m : Envelope) → next_message bytes ≡ Ok (message m) → IsMessage m × Framed bytes m (drop (taken (message m)) bytes)

abbrev IsKnownBefore : Option Known → Type 0
IsKnownBefore None = Unit {0}
IsKnownBefore (Some k) = IsKnown k

-- ---- results

in_either : (b : Bool) (x y : Result Known Fault) (next : Known) → (x ≡ Ok next → IsKnown next) → (y ≡ Ok next → IsKnown next) → (if b then x else y) ≡ Ok next → IsKnown next
in_either true x y next f g e = f e
in_either false x y next f g e = g e

-- ---- bytes

left_small : (xs ys : List ℕ) → are_bytes (xs ++ ys) ≡ true → are_bytes xs ≡ true
left_small xs ys h = (and_parts (are_bytes xs) (are_bytes ys) (sym (list_all-append (λ b. nat_lt b 256) xs ys) ∙ h)).0

right_small : (xs ys : List ℕ) → are_bytes (xs ++ ys) ≡ true → are_bytes ys ≡ true
right_small xs ys h = (and_parts (are_bytes xs) (are_bytes ys) (sym (list_all-append (λ b. nat_lt b 256) xs ys) ∙ h)).1

body_small : (bytes : List ℕ) (m : Envelope) (others : List ℕ) → Framed bytes m others → are_bytes bytes ≡ true → are_bytes m.body ≡ true
body_small bytes m others framed h =
    left_small m.body others (right_small m.metadata (m.body ++ others) (right_small framed.size (m.metadata ++ (m.body ++ others))
    (right_small continuation_marker (framed.size ++ (m.metadata ++ (m.body ++ others))) (sym (ap are_bytes framed.parts) ∙ h))))

-- ---- one message

first_known : StreamLaws → (supported : ℕ → Bool) (s : RawSchema) (next : Known) → unless (first_some (schema_checks supported s)) (Ok (known_first s)) ≡ Ok next → IsKnown next
unfolding checked_schema
first_known laws supported s next h =
    let passed = reported_ok (first_some (schema_checks supported s)) (known_first s) next h in
    let checked : checked_schema supported s ≡ Ok (plain_schema_of s) = ap (λ (o : Option Fault). unless o (Ok (plain_schema_of s))) passed.0 in
    let first : IsKnown (known_first s) = record {
      dictionaries = first_dictionaries laws.columns supported s passed.0;
      table = record { schema = laws.within supported s (plain_schema_of s) checked; rows = AllPass-from_list_all (is_row (plain_schema_of s)) [] refl; weight = omega arith };
    } in
    subst IsKnown passed.1 first

after_known : StreamLaws → (k : Known) (body : List ℕ) (h : RawHeader) (next : Known) → IsKnown k → are_bytes body ≡ true → read_after k body h ≡ Ok next → IsKnown next
after_known laws k body (schema_header s) next is small e = absurd cc
after_known laws k body (dictionary_header d) next is small e =
    let found = bound (dictionary_read k.columns k.dictionaries d body) (λ b. Ok (with_dictionary k b)) next e in
    let after : IsKnown (with_dictionary k found.0) = record { dictionaries = dictionaries_more laws.batch k d body found.0 small found.1 is.dictionaries; table = is.table } in
    subst IsKnown (reported_ok None _ next found.2).1 after
after_known laws k body (batch_header b) next is small e =
    let found = bound (known_batch k b body) (λ arrays. Ok (with_rows k (rows_in (columns_of k.schema.columns) arrays b.length))) next e in
    let after : IsKnown (with_rows k (rows_in (columns_of k.schema.columns) found.0 b.length)) = record {
      dictionaries = dictionaries_stay k (rows_in (columns_of k.schema.columns) found.0 b.length) is.dictionaries;
      table = table_after laws.rows k b body found.0 is small found.1;
    } in
    subst IsKnown (reported_ok None _ next found.2).1 after

header_known : StreamLaws → (supported : ℕ → Bool) (before : Option Known) (body : List ℕ) (h : RawHeader) (next : Known) → IsKnownBefore before → are_bytes body ≡ true
    → read_header supported before body h ≡ Ok next → IsKnown next
header_known laws supported None body (schema_header s) next is small e = first_known laws supported s next e
header_known laws supported None body (dictionary_header d) next is small e = absurd cc
header_known laws supported None body (batch_header b) next is small e = absurd cc
header_known laws supported (Some k) body h next is small e = after_known laws k body h next is small e

next_known : StreamLaws → (supported : ℕ → Bool) (before : Option Known) (m : Envelope) (next : Known) → IsKnownBefore before → are_bytes m.body ≡ true → read_next supported before m ≡ Ok next → IsKnown next
unfolding read_next
next_known laws supported before m next is small e =
    let passed = unless_passed (order_fault before (type_of m.metadata)) (header supported m.metadata >>= read_header supported before m.body) next e in
    let found = bound (header supported m.metadata) (read_header supported before m.body) next passed.1 in
    header_known laws supported before m.body found.0 next is small found.2

-- ---- the stream

at_end_known : (before : Option Known) (next : Known) → IsKnownBefore before → known_at_end before ≡ Ok next → IsKnown next
at_end_known None next is e = absurd cc
at_end_known (Some k) next is e = subst IsKnown (reported_ok None k next e).1 is

end_of_stream_known : (before : Option Known) (rest : List ℕ) (next : Known) → IsKnownBefore before → known_at_end_of_stream before rest ≡ Ok next → IsKnown next
end_of_stream_known before rest next is e =
    let found = bound (known_at_end before) (λ k. if is_empty rest then Ok k else Err AfterEnd) next e in
    in_either (is_empty rest) (Ok found.0) (Err AfterEnd) next (λ h. subst IsKnown (reported_ok None found.0 next h).1 (at_end_known before found.0 is found.1)) (λ h. absurd (refused AfterEnd next h)) found.2

step_known : StreamLaws → (supported : ℕ → Bool) (steps : ℕ) (before : Option Known) (bytes : List ℕ) (f : NextMessage) (next : Known) → next_message bytes ≡ Ok f → IsKnownBefore before
    → are_bytes bytes ≡ true → ((k : Known) → IsKnown k → read_from supported steps (Some k) (drop (taken f) bytes) ≡ Ok next → IsKnown next)
    → after_next supported steps before bytes f ≡ Ok next → IsKnown next
step_known laws supported steps before bytes end_of_stream next there is small on e = end_of_stream_known before (drop 8 bytes) next is e
step_known laws supported steps before bytes (message m) next there is small on e =
    let found = bound (read_next supported before m) (λ k. read_from supported steps (Some k) (drop (taken (message m)) bytes)) next e in
    on found.0 (next_known laws supported before m found.0 is (body_small bytes m (drop (taken (message m)) bytes) (laws.framed bytes m there).1 small) found.1) found.2

stream_known : StreamLaws → (supported : ℕ → Bool) (steps : ℕ) (before : Option Known) (bytes : List ℕ) (next : Known) → IsKnownBefore before → are_bytes bytes ≡ true
    → read_from supported steps before bytes ≡ Ok next → IsKnown next
unfolding read_from
stream_known laws supported zero before bytes next is small e = absurd cc
stream_known laws supported (suc steps) before bytes next is small e =
    in_either (is_empty bytes) (known_at_end before) (next_message bytes >>= after_next supported steps before bytes) next (at_end_known before next is)
    (λ h.
    let found = bound (next_message bytes) (after_next supported steps before bytes) next h in
    step_known laws supported steps before bytes found.0 next found.1 is small
    (λ k known goes. stream_known laws supported steps (Some k) (drop (taken found.0) bytes) next known (are_bytes-drop (taken found.0) bytes small) goes) found.2) e

pub meaning_table : StreamLaws → (supported : ℕ → Bool) (bytes : List ℕ) (t : PlainTable) → AreBytes bytes → meaning supported bytes ≡ Ok t → IsTable t
unfolding meaning
meaning_table laws supported bytes t small e =
    let found = bound (read_from supported (suc (length bytes)) None bytes) (λ k. Ok (known_table k)) t e in
    subst IsTable (reported_ok None (known_table found.0) t found.2).1 (stream_known laws supported (suc (length bytes)) None bytes found.0 tt (all_small bytes small) found.1).table
