-- What the rows that a stream means weigh, by their number and the bytes of the stream.
use Rattle.std.specs.Prelude.{if◌then◌else◌, Option, Some, None, ◌+◌}
use Rattle.std.specs.List.{range_with_len}
use Rattle.std.proofs.Common.{◌≡◌, ℕ, zero, suc, ◌*◌, ◌≤◌, Bool, true, false, List, [], ◌∷◌, ◌++◌, length, drop, map, Result, Ok, Err, refl, sym, ap, ◌∙◌, subst, arith, length-append}
use Rattle.std.proofs.Math.Nat.{mul-le-mul_left}
use Rattle.std.proofs.lemmas.List.FromFn.{length-map-range_with_len}
use Rattle.std.proofs.lemmas.List.Sums.{sum_by-append}
use Rattle.facts.specs.laws.Checks.{unless_passed}
use Rattle.arrow_schema.specs.Column.{PlainSchema, columns_of}
use Rattle.cells.specs.Cell.{Cell, PlainTable}
use Rattle.cells.specs.Weight.{row_weight, table_weight}
use Rattle.columns.specs.CellAt.{row_at, rows_in}
use Rattle.arrays.specs.Checks.{batch_read}
use Rattle.arrays.specs.Dictionaries.{dictionary_read, dictionaries_after}
use Rattle.ipc_message.specs.declared.fault.Fault.{Fault}
use Rattle.ipc_message.specs.declared.fault.Fault.TheVariants.{AfterEnd}
use Rattle.ipc_message.specs.Checks.{schema_checks}
use Rattle.ipc_message.specs.Framing.{Envelope, NextMessage, end_of_stream, message, next_message, taken, Framed, IsMessage, continuation_marker, first_some, unless, type_of}
use Rattle.ipc_message.specs.Header.{header}
use Rattle.ipc_message.specs.Raw.{RawSchema, RawHeader, schema_header, dictionary_header, batch_header}
use Rattle.ipc_stream.specs.Meaning.{Known, known_first, known_table, with_dictionary, with_rows, order_fault, read_after, read_header, read_next, known_at_end, known_at_end_of_stream, read_from, meaning, ◌>>=◌, is_empty}
use Rattle.ipc_stream.specs.laws.First.{bound, refused, after_next}
use Rattle.weight_bounds.specs.Bound.{row_more_in_eight, most_in_eight}
use Rattle.weight_bounds.proofs.Batches.{batch_most}

-- what `ipc_message` says
abbrev pub IsFramed : Type 0
IsFramed = (bytes : List ℕ) (m : Envelope) → next_message bytes ≡ Ok (message m) → IsMessage m × Framed bytes m (drop (taken (message m)) bytes)

-- rows after others weigh no more than as many nulls, and what these bytes may weigh more
pub record Grows (s : PlainSchema) (more : ℕ) (old new : List (List Cell)) (bytes : ℕ) : Type 0 where
  pub weight : 8 * table_weight s new + 8 * (length old * row_weight s []) ≤ 8 * table_weight s old + (8 * (length new * row_weight s []) + more * bytes)

same_rows : (s : PlainSchema) (more : ℕ) (rows : List (List Cell)) (bytes : ℕ) → Grows s more rows rows bytes
same_rows s more rows bytes = record { weight = omega arith }

-- one after another
grows_on : (s : PlainSchema) (more : ℕ) (old mid new : List (List Cell)) (a b bytes : ℕ) → Grows s more old mid a → Grows s more mid new b → a + b ≤ bytes → Grows s more old new bytes
grows_on s more old mid new a b bytes first second le =
    let one = first.weight in
    let two = second.weight in
    let all : more * (a + b) ≤ more * bytes = mul-le-mul_left more le in
    let parts : more * (a + b) ≡ more * a + more * b = omega arith in
    record { weight = omega (arith, one, two, all, parts) }

abbrev right : {A : Type 0} → A → Result A Fault
right x = Ok x

given : {A : Type 0} (x y : A) → right x ≡ Ok y → x ≡ y
given x y h = cc h

-- ---- one message

-- the state after it has the same schema, and its rows grow by those of the body, where there is a bound
pub record IsAfter (more : ℕ) (k next : Known) (bytes : ℕ) : Type 0 where
  pub schema : next.schema ≡ k.schema
  pub rows : row_more_in_eight k.schema ≡ Some more → Grows k.schema more k.rows next.rows bytes

unchanged : (more : ℕ) (k : Known) (bytes : ℕ) → IsAfter more k k bytes
unchanged more k bytes = record { schema = refl; rows = λ is. same_rows k.schema more k.rows bytes }

with_batch : (more : ℕ) (k : Known) (rows : List (List Cell)) (bytes : ℕ) → (row_more_in_eight k.schema ≡ Some more → 8 * table_weight k.schema rows ≤ most_in_eight k.schema more (length rows) bytes)
    → IsAfter more k (with_rows k rows) bytes
with_batch more k rows bytes most =
    let sum = sum_by-append (row_weight k.schema) k.rows rows in
    let count : length (k.rows ++ rows) ≡ length k.rows + length rows = length-append k.rows rows in
    let whole : length (k.rows ++ rows) * row_weight k.schema [] ≡ (length k.rows + length rows) * row_weight k.schema [] = ap (λ (n : ℕ). n * row_weight k.schema []) count in
    record { schema = refl; rows = λ is. let own = most is in record { weight = omega (arith, own, sum, whole) } }

after_read : (more : ℕ) (k : Known) (body : List ℕ) (h : RawHeader) (next : Known) → read_after k body h ≡ Ok next → IsAfter more k next (length body)
after_read more k body (schema_header s) next e = absurd (cc e)
after_read more k body (dictionary_header d) next e =
    let found = bound (dictionary_read k.columns k.dictionaries d body) (λ b. Ok (with_dictionary k b)) next e in
    let kept : IsAfter more k (with_dictionary k found.0) (length body) = record { schema = refl; rows = λ is. same_rows k.schema more k.rows (length body) } in
    subst (λ (x : Known). IsAfter more k x (length body)) (given (with_dictionary k found.0) next found.2) kept
after_read more k body (batch_header b) next e =
    let known = dictionaries_after k.dictionaries k.columns in
    let found = bound (batch_read k.schema (table_weight k.schema k.rows) b body known) (λ arrays. Ok (with_rows k (rows_in (columns_of k.schema.columns) arrays b.length))) next e in
    let rows : List (List Cell) = rows_in (columns_of k.schema.columns) found.0 b.length in
    let count : length rows ≡ b.length = length-map-range_with_len (row_at (columns_of k.schema.columns) found.0) 0 b.length in
    let most : row_more_in_eight k.schema ≡ Some more → 8 * table_weight k.schema rows ≤ most_in_eight k.schema more (length rows) (length body) = λ is.
    subst (λ (n : ℕ). 8 * table_weight k.schema rows ≤ most_in_eight k.schema more n (length body)) (sym count)
    (batch_most k.schema (table_weight k.schema k.rows) b body known found.0 more found.1 is) in
    subst (λ (x : Known). IsAfter more k x (length body)) (given (with_rows k rows) next found.2) (with_batch more k rows (length body) most)

next_after : (supported : ℕ → Bool) (more : ℕ) (k : Known) (m : Envelope) (next : Known) → read_next supported (Some k) m ≡ Ok next → IsAfter more k next (length m.body)
unfolding read_next
next_after supported more k m next e =
    let passed = unless_passed (order_fault (Some k) (type_of m.metadata)) (header supported m.metadata >>= read_header supported (Some k) m.body) next e in
    let found = bound (header supported m.metadata) (read_header supported (Some k) m.body) next passed.1 in
    after_read more k m.body found.0 next found.2

-- ---- bytes

body_and_rest : IsFramed → (bytes : List ℕ) (m : Envelope) → next_message bytes ≡ Ok (message m) → length m.body + length (drop (taken (message m)) bytes) ≤ length bytes
body_and_rest framed bytes m there =
    let rest : List ℕ = drop (taken (message m)) bytes in
    let own = (framed bytes m there).1 in
    let size : List ℕ = own.size in
    let whole : length bytes ≡ length (continuation_marker ++ (size ++ (m.metadata ++ (m.body ++ rest)))) = ap length own.parts in
    let one = length-append continuation_marker (size ++ (m.metadata ++ (m.body ++ rest))) in
    let two = length-append size (m.metadata ++ (m.body ++ rest)) in
    let three = length-append m.metadata (m.body ++ rest) in
    let four = length-append m.body rest in
    omega (arith, whole, one, two, three, four)

-- ---- the stream

in_either : {A : Type 0} {P : Type 0} (b : Bool) (x y r : Result A Fault) → (x ≡ r → P) → (y ≡ r → P) → (if b then x else y) ≡ r → P
in_either true x y r f g e = f e
in_either false x y r f g e = g e

at_end : (more : ℕ) (k next : Known) (bytes : ℕ) → known_at_end (Some k) ≡ Ok next → IsAfter more k next bytes
at_end more k next bytes e = subst (λ (x : Known). IsAfter more k x bytes) (given k next e) (unchanged more k bytes)

at_end_of_stream : (more : ℕ) (k : Known) (rest : List ℕ) (next : Known) (bytes : ℕ) → known_at_end_of_stream (Some k) rest ≡ Ok next → IsAfter more k next bytes
at_end_of_stream more k rest next bytes e =
    in_either (is_empty rest) (Ok k) (Err AfterEnd) (Ok next) (λ h. at_end more k next bytes h) (λ h. absurd (refused AfterEnd next h)) e

-- one message, and those after it
then_on : (more : ℕ) (k mid next : Known) (a b bytes : ℕ) → IsAfter more k mid a → IsAfter more mid next b → a + b ≤ bytes → IsAfter more k next bytes
then_on more k mid next a b bytes first second le =
    let rows : row_more_in_eight k.schema ≡ Some more → Grows k.schema more mid.rows next.rows b = λ is.
    subst (λ (s : PlainSchema). Grows s more mid.rows next.rows b) first.schema (second.rows (ap row_more_in_eight first.schema ∙ is)) in
    record { schema = second.schema ∙ first.schema; rows = λ is. grows_on k.schema more k.rows mid.rows next.rows a b bytes (first.rows is) (rows is) le }

step_after : IsFramed → (supported : ℕ → Bool) (steps more : ℕ) (k : Known) (bytes : List ℕ) (f : NextMessage) (next : Known) → next_message bytes ≡ Ok f
    → ((l : Known) → read_from supported steps (Some l) (drop (taken f) bytes) ≡ Ok next → IsAfter more l next (length (drop (taken f) bytes)))
    → after_next supported steps (Some k) bytes f ≡ Ok next → IsAfter more k next (length bytes)
step_after framed supported steps more k bytes end_of_stream next there on e = at_end_of_stream more k (drop 8 bytes) next (length bytes) e
step_after framed supported steps more k bytes (message m) next there on e =
    let found = bound (read_next supported (Some k) m) (λ l. read_from supported steps (Some l) (drop (taken (message m)) bytes)) next e in
    let first = next_after supported more k m found.0 found.1 in
    let second = on found.0 found.2 in
    then_on more k found.0 next (length m.body) (length (drop (taken (message m)) bytes)) (length bytes) first second (body_and_rest framed bytes m there)

stream_after : IsFramed → (supported : ℕ → Bool) (steps more : ℕ) (k : Known) (bytes : List ℕ) (next : Known) → read_from supported steps (Some k) bytes ≡ Ok next
    → IsAfter more k next (length bytes)
unfolding read_from
stream_after framed supported zero more k bytes next e = absurd (cc e)
stream_after framed supported (suc steps) more k bytes next e =
    in_either (is_empty bytes) (Ok k) (next_message bytes >>= after_next supported steps (Some k) bytes) (Ok next) (λ h. at_end more k next (length bytes) h)
    (λ h.
    let found = bound (next_message bytes) (after_next supported steps (Some k) bytes) next h in
    step_after framed supported steps more k bytes found.0 next found.1 (λ l goes. stream_after framed supported steps more l (drop (taken found.0) bytes) next goes) found.2) e

-- ---- from the schema on

-- rows that are all there are
abbrev AreMost : (more : ℕ) → Known → (bytes : ℕ) → Type 0
AreMost more k bytes = 8 * table_weight k.schema k.rows ≤ most_in_eight k.schema more (length k.rows) bytes

from_none : (more : ℕ) (k next : Known) (a bytes : ℕ) → row_more_in_eight next.schema ≡ Some more → k.rows ≡ [] → IsAfter more k next a → a ≤ bytes → AreMost more next bytes
from_none more k next a bytes is none after le =
    let start : Grows k.schema more [] next.rows a = subst (λ (rows : List (List Cell)). Grows k.schema more rows next.rows a) none (after.rows (ap row_more_in_eight (sym after.schema) ∙ is)) in
    let own : Grows next.schema more [] next.rows a = subst (λ (s : PlainSchema). Grows s more [] next.rows a) (sym after.schema) start in
    let weight = own.weight in
    let zero_rows : table_weight next.schema [] ≡ 0 = refl in
    let no_count : 0 * row_weight next.schema [] ≡ 0 = omega arith in
    let all : more * a ≤ more * bytes = mul-le-mul_left more le in
    omega (arith, weight, zero_rows, no_count, all)

header_first : (supported : ℕ → Bool) (body : List ℕ) (h : RawHeader) (next : Known) → read_header supported None body h ≡ Ok next → next.rows ≡ []
header_first supported body (schema_header s) next e =
    let passed = unless_passed (first_some (schema_checks supported s)) (Ok (known_first s)) next e in
    ap (λ (x : Known). x.rows) (sym (given (known_first s) next passed.1))
header_first supported body (dictionary_header d) next e = absurd (cc e)
header_first supported body (batch_header b) next e = absurd (cc e)

next_first : (supported : ℕ → Bool) (m : Envelope) (next : Known) → read_next supported None m ≡ Ok next → next.rows ≡ []
unfolding read_next
next_first supported m next e =
    let passed = unless_passed (order_fault None (type_of m.metadata)) (header supported m.metadata >>= read_header supported None m.body) next e in
    let found = bound (header supported m.metadata) (read_header supported None m.body) next passed.1 in
    header_first supported m.body found.0 next found.2

first_step : IsFramed → (supported : ℕ → Bool) (steps more : ℕ) (bytes : List ℕ) (f : NextMessage) (next : Known) → row_more_in_eight next.schema ≡ Some more → next_message bytes ≡ Ok f
    → after_next supported steps None bytes f ≡ Ok next → AreMost more next (length bytes)
first_step framed supported steps more bytes end_of_stream next is there e = absurd (cc e)
first_step framed supported steps more bytes (message m) next is there e =
    let found = bound (read_next supported None m) (λ k. read_from supported steps (Some k) (drop (taken (message m)) bytes)) next e in
    let rest : List ℕ = drop (taken (message m)) bytes in
    let after = stream_after framed supported steps more found.0 rest next found.2 in
    let le = body_and_rest framed bytes m there in
    from_none more found.0 next (length rest) (length bytes) is (next_first supported m found.0 found.1) after (omega (arith, le))

stream_most : IsFramed → (supported : ℕ → Bool) (steps more : ℕ) (bytes : List ℕ) (next : Known) → row_more_in_eight next.schema ≡ Some more → read_from supported (suc steps) None bytes ≡ Ok next
    → AreMost more next (length bytes)
unfolding read_from
stream_most framed supported steps more bytes next is e =
    in_either (is_empty bytes) (known_at_end None) (next_message bytes >>= after_next supported steps None bytes) (Ok next) (λ h. absurd (cc h))
    (λ h. let found = bound (next_message bytes) (after_next supported steps None bytes) next h in first_step framed supported steps more bytes found.0 next is found.1 found.2) e

pub meaning_most : IsFramed → (supported : ℕ → Bool) (bytes : List ℕ) (t : PlainTable) (more : ℕ) → row_more_in_eight t.schema ≡ Some more → meaning supported bytes ≡ Ok t
    → 8 * table_weight t.schema t.rows ≤ most_in_eight t.schema more (length t.rows) (length bytes)
unfolding meaning
meaning_most framed supported bytes t more is e =
    let found = bound (read_from supported (suc (length bytes)) None bytes) (λ k. Ok (known_table k)) t e in
    let same : known_table found.0 ≡ t = given (known_table found.0) t found.2 in
    let own : row_more_in_eight found.0.schema ≡ Some more = ap (λ (x : PlainTable). row_more_in_eight x.schema) same ∙ is in
    subst (λ (x : PlainTable). 8 * table_weight x.schema x.rows ≤ most_in_eight x.schema more (length x.rows) (length bytes)) same
    (stream_most framed supported (length bytes) more bytes found.0 own found.1)
