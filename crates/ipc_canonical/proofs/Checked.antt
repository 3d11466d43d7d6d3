-- No check of a written batch finds anything.
use Rattle.std.specs.Prelude.{not}
use Rattle.std.specs.List.{AllByRecursion, list_any, zip}
use Rattle.std.proofs.Common.{◌≡◌, ℕ, ◌+◌, ◌^◌, ◌<◌, ◌≤◌, Bool, true, false, List, [], ◌∷◌, ◌++◌, map, length, None, Ok, refl, arith, ap, ◌∙◌}
use Rattle.std.proofs.lemmas.Bool.{and_from, or_from, or_parts, eq-eqb, le-ltb, lt-leb}
use Rattle.std.proofs.lemmas.List.{length-map}
use Rattle.arrow_schema.specs.Column.{Columns, PlainSchema, columns_of}
use Rattle.facts.specs.Checks.{when, first_some}
use Rattle.facts.specs.laws.Checks.{first_some-after}
use Rattle.ipc_message.specs.declared.fault.Fault.TheVariants.{Compressed, LayoutCount, RowCount, BufferRange, BufferShort, NullCount, Offsets}
use Rattle.ipc_message.specs.Raw.{RawNode, RawBuffer, RawBatch}
use Rattle.ipc_write.specs.Written.{placed}
use Rattle.ipc_write.specs.laws.Written.{length-placed}
use Rattle.columns.specs.Array.{Array, Arrays, slots_in}
use Rattle.columns.specs.Buffers.{Node, node_of, nodes_of, buffers_of, null_count}
use Rattle.columns.specs.FromBuffers.{arrays_from}
use Rattle.columns.specs.Layouts.{dictionary_arrays}
use Rattle.columns.specs.Tests.{Typed, every_array, counts_wrong}
use Rattle.arrays.specs.Checks.{plain_node, batch_arrays, buffer_bytes, is_bad_length, is_negative, has_other_layout, has_bad_length, typed_is_short, typed_is_unordered, is_outside, is_miscounted, array_checks, slot_checks, batch_checks, batch_read}
use Rattle.ipc_canonical.specs.WrittenBatch.{raw_node, written_batch, written_body}
use Rattle.ipc_canonical.proofs.Written.{most, AreWritten, StandInBody, body_short}

-- ---- checks in order

-- where no test holds nothing is found
pub none_found : {E : Type 0} (checks : List (Bool × E)) → list_any (λ c. c.0) checks ≡ false → first_some (map (λ c. when c.0 c.1) checks) ≡ None
none_found [] h = refl
none_found ((true, e) ∷ rest) h = cc
none_found ((false, e) ∷ rest) h = none_found rest h

-- ---- lengths

fine_length : (n : ℕ) → n ≤ most → is_bad_length n ≡ false
fine_length n h = or_from _ _ (lt-leb (2 ^ 63) n (omega (arith, h))) (le-ltb most n h)

fine_nodes : (ts : List Typed) → AllByRecursion (λ t. slots_in t.array ≤ most) ts → list_any (λ (m : RawNode). is_bad_length m.length) (map raw_node (map node_of ts)) ≡ false
fine_nodes [] few = refl
fine_nodes (t ∷ ts) few = or_from _ _ (fine_length (slots_in t.array) few.0) (fine_nodes ts few.1)

-- ---- buffers

one_inside : (bytes : List ℕ) (b : RawBuffer) → b.offset + b.length ≤ length bytes → length bytes < 2 ^ 62 → is_outside bytes b ≡ false
one_inside bytes b fits short =
    or_from (is_negative b.offset) _ (lt-leb (2 ^ 63) b.offset (omega (arith, fits, short)))
    (or_from (is_negative b.length) _ (lt-leb (2 ^ 63) b.length (omega (arith, fits, short))) (le-ltb (length bytes) (b.offset + b.length) fits))

all_inside : (bytes : List ℕ) (bs : List RawBuffer) → AllByRecursion (λ (b : RawBuffer). b.offset + b.length ≤ length bytes) bs → length bytes < 2 ^ 62 → list_any (is_outside bytes) bs ≡ false
all_inside bytes [] fits short = refl
all_inside bytes (b ∷ bs) fits short = or_from _ _ (one_inside bytes b fits.0 short) (all_inside bytes bs fits.1 short)

-- ---- null counts

counted_again : (ts : List Typed) → list_any (λ t. counts_wrong (null_count t.column t.array) t.column t.array) ts ≡ false → list_any is_miscounted (zip (map raw_node (map node_of ts)) ts) ≡ false
counted_again [] h = refl
counted_again (t ∷ ts) h =
    let p = or_parts (counts_wrong (null_count t.column t.array) t.column t.array) _ h in
    or_from _ _ p.0 (counted_again ts p.1)

-- ---- the layout

same_layout : (cs : Columns) (n : ℕ) (xs : Arrays) → AreWritten cs n xs → has_other_layout cs (written_batch cs xs n) ≡ false
same_layout cs n xs w =
    ap not (and_from _ _ (eq-eqb _ _ (length-map (nodes_of cs xs) raw_node ∙ w.nodes)) (eq-eqb _ _ (length-placed 0 (buffers_of cs xs) ∙ w.buffers)))

pub checks_pass : (cs : Columns) (n : ℕ) (xs : Arrays) → AreWritten cs n xs → StandInBody (buffers_of cs xs) → first_some (array_checks cs (written_batch cs xs n) (written_body cs xs) xs) ≡ None
checks_pass cs n xs w stand =
    let bad : has_bad_length cs (written_batch cs xs n) xs ≡ false = or_from _ _ (fine_length n w.few_rows) (or_from _ _ (fine_nodes (every_array cs xs) w.few_slots) (or_from _ _ w.slots w.children)) in
    let every : List Typed = every_array cs xs in
    let b : RawBatch = written_batch cs xs n in
    none_found
    ((false, Compressed)
    ∷ (has_other_layout cs b, LayoutCount)
    ∷ (has_bad_length cs b xs, RowCount)
    ∷ (list_any (is_outside (written_body cs xs)) b.buffers, BufferRange)
    ∷ (list_any typed_is_short every, BufferShort)
    ∷ (list_any is_miscounted (zip b.nodes every), NullCount)
    ∷ (list_any typed_is_unordered every, Offsets)
    ∷ [])
    (or_from _ _ refl
    (or_from _ _ (same_layout cs n xs w)
    (or_from _ _ bad
    (or_from _ _ (all_inside (written_body cs xs) (placed 0 (buffers_of cs xs)) stand.inside (body_short cs n xs w stand))
    (or_from _ _ w.long
    (or_from _ _ (counted_again every w.counted)
    (or_from _ _ w.ordered refl)))))))

-- ---- the arrays again

plain_again : (ns : List Node) → map plain_node (map raw_node ns) ≡ ns
plain_again [] = refl
plain_again (n ∷ ns) = ap (λ (ms : List Node). n ∷ ms) (plain_again ns)

pub arrays_again : (cs : Columns) (n : ℕ) (xs : Arrays) → AreWritten cs n xs → StandInBody (buffers_of cs xs) → batch_arrays cs (written_batch cs xs n) (written_body cs xs) (dictionary_arrays cs xs) ≡ xs
arrays_again cs n xs w stand =
    ap (λ (ns : List Node). arrays_from cs ns (map (buffer_bytes (written_body cs xs)) (placed 0 (buffers_of cs xs))) (dictionary_arrays cs xs)) (plain_again (nodes_of cs xs))
    ∙ ap (λ (bs : List (List ℕ)). arrays_from cs (nodes_of cs xs) bs (dictionary_arrays cs xs)) stand.found
    ∙ w.again

pub batch_is : (s : PlainSchema) (before : ℕ) (b : RawBatch) (bytes : List ℕ) (ds : List (List Array)) (xs : Arrays) → batch_arrays (columns_of s.columns) b bytes ds ≡ xs
    → first_some (array_checks (columns_of s.columns) b bytes xs) ≡ None → first_some (slot_checks s before b.length xs) ≡ None → batch_read s before b bytes ds ≡ Ok xs
unfolding batch_read batch_checks
batch_is s before b bytes ds xs e first then =
    let cs : Columns = columns_of s.columns in
    let none : first_some (array_checks cs b bytes xs ++ slot_checks s before b.length xs) ≡ None = first_some-after (array_checks cs b bytes xs) (slot_checks s before b.length xs) first ∙ then in
    rw (e, none) refl
