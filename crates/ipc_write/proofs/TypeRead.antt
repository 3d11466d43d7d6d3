-- The tables below a field: of its type, its dictionary and its pairs.
use Rattle.std.specs.List.{flat_map}
use Rattle.std.specs.Prelude.{option_map}
use Rattle.std.proofs.Common.{◌≡◌, ℕ, ◌+◌, ◌-◌, ◌<◌, ◌≤◌, Bool, true, false, List, [], ◌∷◌, ◌++◌, map, length, Option, Some, None, refl, ap, arith, add-zero}
use Rattle.flatbuf.specs.declared.limits.TheConstants.{MAX_BUFFER_TABLES}
use Rattle.flatbuf.specs.Lookup.{target, slot, table_at, table_behind, elements, targets, is_set, Place}
use Rattle.flatbuf.specs.Walk.{spans, vector_at, reference_things, table_things}
use Rattle.flatbuf.specs.Held.{Has, HasAll, HasSlots}
use Rattle.flatbuf.specs.Laid.{count_of, slots_of}
use Rattle.flatbuf.specs.Tree.{Slots, table, no_slot, scalar}
use Rattle.arrow_schema.specs.Column.{Index, Pair, date_unit_of, time_unit_of, Kind, nulls, booleans, integers, dates, timestamps, texts, large_texts, binaries, large_binaries, fixed_binaries, lists, large_lists, fixed_lists, structs}
use Rattle.ipc_message.specs.Raw.{timestamp_parameters}
use Rattle.ipc_message.specs.Header.{int_things, size_things, date_things, timestamp_things, type_things, encoding_things, pair_things, pairs_things, parameters_in, encoding_in, pair_at, pairs_in}
use Rattle.ipc_write.specs.Trees.{bit, code_of, int_tree, type_tree, timezone_slot, pair_tree, pair_nodes, pairs_slot, dictionary_slot}
use Rattle.ipc_write.specs.Decoded.{parameters_of, encoding_of}
use Rattle.ipc_write.specs.Walked.{type_tables, encoding_tables}
use Rattle.ipc_write.proofs.Fine.{Fine, fine_none, fine_append, fine_more, fine_after, fine_spans, fine_text, fine_references, fine_no_vector, fine_reference, fine_table, text_read, elements_read}

pub is_set-bit : (b : Bool) → is_set (bit b) ≡ b
is_set-bit true = refl
is_set-bit false = refl

pub int_fine : (bytes : List ℕ) (left : ℕ) (s : Option ℕ) (p n bits : ℕ) (signed : Bool) → s ≡ Some p → p + 4 ≤ length bytes → Has bytes (target bytes p) (int_tree bits signed) → 0 < left → n < MAX_BUFFER_TABLES
    → Fine bytes (int_things left bytes s) n (n + 1)
unfolding int_things
int_fine bytes left s p n bits signed e reference has deep room =
    let t : Place = table_at bytes (target bytes p) in
    rw e (fine_after bytes (reference_things left bytes (Some p) ++ spans 4 (slot bytes t 0)) (spans 1 (slot bytes t 1)) n (n + 1)
    (fine_after bytes (reference_things left bytes (Some p)) (spans 4 (slot bytes t 0)) n (n + 1)
    (fine_reference bytes left (Some p) p 2 n refl reference has.0 deep room)
    (fine_spans bytes 4 (slot bytes t 0) has.1.0.0 (n + 1) has.1.0.1 has.1.0.3))
    (fine_spans bytes 1 (slot bytes t 1) has.1.1.0.0 (n + 1) has.1.1.0.1 has.1.1.0.3))

-- the parameters of a type, behind its reference
pub parameters_read : (supported : ℕ → Bool) (bytes : List ℕ) (s : Option ℕ) (p : ℕ) (kind : Kind) → supported 8 ≡ true → supported 10 ≡ true → s ≡ Some p → Has bytes (target bytes p) (type_tree kind)
    → parameters_in supported bytes (code_of kind) (table_behind bytes s) ≡ parameters_of kind
unfolding parameters_in
parameters_read supported bytes s p nulls h8 h10 e has = refl
parameters_read supported bytes s p booleans h8 h10 e has = refl
parameters_read supported bytes s p (integers bits signed) h8 h10 e has = rw (e, has.1.0.1, has.1.0.2, has.1.1.0.1, has.1.1.0.2, is_set-bit signed) refl
parameters_read supported bytes s p (dates unit) h8 h10 e has = rw (h8, e, has.1.0.1, has.1.0.2) refl
parameters_read supported bytes s p (timestamps unit []) h8 h10 e has = rw (h10, e, has.1.0.1, has.1.0.2, has.1.1 1 (omega arith)) refl
parameters_read supported bytes s p (timestamps unit (b ∷ bs)) h8 h10 e has = rw (h10, e, has.1.0.1, has.1.0.2) (ap (timestamp_parameters (time_unit_of unit)) (text_read bytes (slot bytes (table_at bytes (target bytes p)) 1) has.1.1.0.0 (b ∷ bs) has.1.1.0.1 has.1.1.0.3))
parameters_read supported bytes s p texts h8 h10 e has = refl
parameters_read supported bytes s p large_texts h8 h10 e has = refl
parameters_read supported bytes s p binaries h8 h10 e has = refl
parameters_read supported bytes s p large_binaries h8 h10 e has = refl
parameters_read supported bytes s p (fixed_binaries width) h8 h10 e has = rw (e, has.1.0.1, has.1.0.2) refl
parameters_read supported bytes s p (lists item) h8 h10 e has = refl
parameters_read supported bytes s p (large_lists item) h8 h10 e has = refl
parameters_read supported bytes s p (fixed_lists size item) h8 h10 e has = rw (e, has.1.0.1, has.1.0.2) refl
parameters_read supported bytes s p (structs parts) h8 h10 e has = refl

-- the one slot of a table of fixed size, or of a date
pub size_fine : (bytes : List ℕ) (left : ℕ) (s : Option ℕ) (p n size : ℕ) → s ≡ Some p → p + 4 ≤ length bytes → Has bytes (target bytes p) (table (scalar 4 size no_slot)) → 0 < left → n < MAX_BUFFER_TABLES
    → Fine bytes (size_things left bytes s) n (n + 1)
unfolding size_things
size_fine bytes left s p n size e reference has deep room =
    rw e (fine_after bytes (reference_things left bytes (Some p)) (spans 4 (slot bytes (table_at bytes (target bytes p)) 0)) n (n + 1)
    (fine_reference bytes left (Some p) p 1 n refl reference has.0 deep room)
    (fine_spans bytes 4 (slot bytes (table_at bytes (target bytes p)) 0) has.1.0.0 (n + 1) has.1.0.1 has.1.0.3))

pub date_fine : (bytes : List ℕ) (left : ℕ) (s : Option ℕ) (p n unit : ℕ) → s ≡ Some p → p + 4 ≤ length bytes → Has bytes (target bytes p) (table (scalar 2 unit no_slot)) → 0 < left → n < MAX_BUFFER_TABLES
    → Fine bytes (date_things left bytes s) n (n + 1)
unfolding date_things
date_fine bytes left s p n unit e reference has deep room =
    rw e (fine_after bytes (reference_things left bytes (Some p)) (spans 2 (slot bytes (table_at bytes (target bytes p)) 0)) n (n + 1)
    (fine_reference bytes left (Some p) p 1 n refl reference has.0 deep room)
    (fine_spans bytes 2 (slot bytes (table_at bytes (target bytes p)) 0) has.1.0.0 (n + 1) has.1.0.1 has.1.0.3))

-- the timezone of a timestamp
timezone_fine : (bytes : List ℕ) (t : Place) (n : ℕ) (timezone : List ℕ) → HasSlots bytes t 1 (timezone_slot timezone) → Fine bytes (vector_at 1 bytes (slot bytes t 1)) n n
timezone_fine bytes t n [] has = fine_no_vector bytes 1 (slot bytes t 1) n (has 1 (omega arith))
timezone_fine bytes t n (b ∷ bs) has = fine_text bytes (slot bytes t 1) has.0.0 n (b ∷ bs) has.0.1 has.0.2 has.0.3

pub timestamp_fine : (bytes : List ℕ) (left : ℕ) (s : Option ℕ) (p n unit : ℕ) (timezone : List ℕ) → s ≡ Some p → p + 4 ≤ length bytes → Has bytes (target bytes p) (table (scalar 2 unit (timezone_slot timezone))) → 0 < left → n < MAX_BUFFER_TABLES
    → Fine bytes (timestamp_things left bytes s) n (n + 1)
unfolding timestamp_things
timestamp_fine bytes left s p n unit timezone e reference has deep room =
    let t : Place = table_at bytes (target bytes p) in
    rw e (fine_after bytes (reference_things left bytes (Some p) ++ spans 2 (slot bytes t 0)) (vector_at 1 bytes (slot bytes t 1)) n (n + 1)
    (fine_after bytes (reference_things left bytes (Some p)) (spans 2 (slot bytes t 0)) n (n + 1)
    (fine_reference bytes left (Some p) p (slots_of (scalar 2 unit (timezone_slot timezone))) n refl reference has.0 deep room)
    (fine_spans bytes 2 (slot bytes t 0) has.1.0.0 (n + 1) has.1.0.1 has.1.0.3))
    (timezone_fine bytes t (n + 1) timezone has.1.1))

-- the table of a type
pub type_fine : (supported : ℕ → Bool) (bytes : List ℕ) (left : ℕ) (s : Option ℕ) (p n : ℕ) (kind : Kind) → supported 8 ≡ true → supported 10 ≡ true → s ≡ Some p → p + 4 ≤ length bytes
    → Has bytes (target bytes p) (type_tree kind) → 0 < left → n + type_tables kind ≤ MAX_BUFFER_TABLES → Fine bytes (type_things supported left bytes (code_of kind) s) n (n + type_tables kind)
unfolding type_things
type_fine supported bytes left s p n nulls h8 h10 e reference has deep room = rw (add-zero n) (fine_none bytes n)
type_fine supported bytes left s p n booleans h8 h10 e reference has deep room = rw (add-zero n) (fine_none bytes n)
type_fine supported bytes left s p n (integers bits signed) h8 h10 e reference has deep room = int_fine bytes left s p n bits signed e reference has deep (omega arith)
type_fine supported bytes left s p n (dates unit) h8 h10 e reference has deep room = rw h8 (date_fine bytes left s p n (date_unit_of unit) e reference has deep (omega arith))
type_fine supported bytes left s p n (timestamps unit timezone) h8 h10 e reference has deep room = rw h10 (timestamp_fine bytes left s p n (time_unit_of unit) timezone e reference has deep (omega arith))
type_fine supported bytes left s p n texts h8 h10 e reference has deep room = rw (add-zero n) (fine_none bytes n)
type_fine supported bytes left s p n large_texts h8 h10 e reference has deep room = rw (add-zero n) (fine_none bytes n)
type_fine supported bytes left s p n binaries h8 h10 e reference has deep room = rw (add-zero n) (fine_none bytes n)
type_fine supported bytes left s p n large_binaries h8 h10 e reference has deep room = rw (add-zero n) (fine_none bytes n)
type_fine supported bytes left s p n (fixed_binaries width) h8 h10 e reference has deep room = size_fine bytes left s p n width e reference has deep (omega arith)
type_fine supported bytes left s p n (lists item) h8 h10 e reference has deep room = rw (add-zero n) (fine_none bytes n)
type_fine supported bytes left s p n (large_lists item) h8 h10 e reference has deep room = rw (add-zero n) (fine_none bytes n)
type_fine supported bytes left s p n (fixed_lists size item) h8 h10 e reference has deep room = size_fine bytes left s p n size e reference has deep (omega arith)
type_fine supported bytes left s p n (structs parts) h8 h10 e reference has deep room = rw (add-zero n) (fine_none bytes n)

-- a dictionary, where a field has one
pub encoding_read : (bytes : List ℕ) (t : Place) (id : ℕ) (dictionary : Option Index) (rest : Slots) → HasSlots bytes t 4 (dictionary_slot id dictionary rest)
    → option_map (encoding_in bytes) (table_behind bytes (slot bytes t 4)) ≡ encoding_of id dictionary
unfolding encoding_in
encoding_read bytes t id None rest has = rw has.0 refl
encoding_read bytes t id (Some index) rest has =
    let d = has.0.3 in
    let i = d.1.1.0 in
    rw (has.0.1, d.1.0.1, d.1.0.2, i.1, i.3.1.0.1, i.3.1.0.2, i.3.1.1.0.1, i.3.1.1.0.2, is_set-bit index.signed, d.1.1.1.1.0.1, d.1.1.1.1.0.2) refl

pub encoding_fine : (bytes : List ℕ) (left : ℕ) (t : Place) (n id : ℕ) (dictionary : Option Index) (rest : Slots) → HasSlots bytes t 4 (dictionary_slot id dictionary rest) → 1 < left → n + encoding_tables dictionary ≤ MAX_BUFFER_TABLES
    → Fine bytes (encoding_things left bytes (slot bytes t 4)) n (n + encoding_tables dictionary)
unfolding encoding_things int_things
encoding_fine bytes left t n id None rest has deep room = rw (has.0, add-zero n) (fine_none bytes n)
encoding_fine bytes left t n id (Some index) rest has deep room =
    let p : ℕ = has.0.0 in
    let d = has.0.3 in
    let u : Place = table_at bytes (target bytes p) in
    let i = d.1.1.0 in
    let two : n + 2 ≡ n + 1 + 1 = omega arith in
    rw (has.0.1, two)
    (fine_after bytes (reference_things left bytes (Some p) ++ spans 8 (slot bytes u 0) ++ int_things (left - 1) bytes (slot bytes u 1) ++ spans 1 (slot bytes u 2)) (spans 2 (slot bytes u 3)) n (n + 1 + 1)
    (fine_after bytes (reference_things left bytes (Some p) ++ spans 8 (slot bytes u 0) ++ int_things (left - 1) bytes (slot bytes u 1)) (spans 1 (slot bytes u 2)) n (n + 1 + 1)
    (fine_append bytes (reference_things left bytes (Some p) ++ spans 8 (slot bytes u 0)) (int_things (left - 1) bytes (slot bytes u 1)) n (n + 1) (n + 1 + 1)
    (fine_after bytes (reference_things left bytes (Some p)) (spans 8 (slot bytes u 0)) n (n + 1)
    (fine_reference bytes left (Some p) p 4 n refl has.0.2 d.0 (omega arith) (omega arith))
    (fine_spans bytes 8 (slot bytes u 0) d.1.0.0 (n + 1) d.1.0.1 d.1.0.3))
    (int_fine bytes (left - 1) (slot bytes u 1) i.0 (n + 1) index.bits index.signed i.1 i.2 i.3 (omega arith) (omega arith)))
    (fine_spans bytes 1 (slot bytes u 2) d.1.1.1.0.0 (n + 1 + 1) d.1.1.1.0.1 d.1.1.1.0.3))
    (fine_spans bytes 2 (slot bytes u 3) d.1.1.1.1.0.0 (n + 1 + 1) d.1.1.1.1.0.1 d.1.1.1.1.0.3))

-- the slots after the dictionary's
pub after_dictionary : (bytes : List ℕ) (t : Place) (id : ℕ) (dictionary : Option Index) (rest : Slots) → HasSlots bytes t 4 (dictionary_slot id dictionary rest) → HasSlots bytes t 5 rest
after_dictionary bytes t id None rest has = has.1
after_dictionary bytes t id (Some index) rest has = has.1

-- ---- key/value pairs

pair_read : (bytes : List ℕ) (at : ℕ) (p : Pair) → Has bytes at (pair_tree p) → pair_at bytes at ≡ p
unfolding pair_at
pair_read bytes at p has =
    let t : Place = table_at bytes at in
    let key = text_read bytes (slot bytes t 0) has.1.0.0 p.0 has.1.0.1 has.1.0.3 in
    let value = text_read bytes (slot bytes t 1) has.1.1.0.0 p.1 has.1.1.0.1 has.1.1.0.3 in
    λ i. (key i, value i)

pair_fine : (bytes : List ℕ) (left at n : ℕ) (p : Pair) → Has bytes at (pair_tree p) → 0 < left → n < MAX_BUFFER_TABLES → Fine bytes (pair_things left bytes at) n (n + 1)
unfolding pair_things
pair_fine bytes left at n p has deep room =
    let t : Place = table_at bytes at in
    fine_after bytes (table_things left bytes at ++ vector_at 1 bytes (slot bytes t 0)) (vector_at 1 bytes (slot bytes t 1)) n (n + 1)
    (fine_after bytes (table_things left bytes at) (vector_at 1 bytes (slot bytes t 0)) n (n + 1)
    (fine_table bytes left at 2 n has.0 deep room)
    (fine_text bytes (slot bytes t 0) has.1.0.0 (n + 1) p.0 has.1.0.1 has.1.0.2 has.1.0.3))
    (fine_text bytes (slot bytes t 1) has.1.1.0.0 (n + 1) p.1 has.1.1.0.1 has.1.1.0.2 has.1.1.0.3)

pairs_at_read : (bytes : List ℕ) (at : ℕ) (ps : List Pair) → HasAll bytes at (pair_nodes ps) → map (pair_at bytes) (targets (count_of (pair_nodes ps)) bytes at) ≡ ps
pairs_at_read bytes at [] has = refl
pairs_at_read bytes at (p ∷ ps) has = rw (pair_read bytes (target bytes at) p has.0, pairs_at_read bytes (at + 4) ps has.1) refl

pairs_at_fine : (bytes : List ℕ) (left at n : ℕ) (ps : List Pair) → HasAll bytes at (pair_nodes ps) → 0 < left → n + length ps ≤ MAX_BUFFER_TABLES
    → Fine bytes (flat_map (pair_things left bytes) (targets (count_of (pair_nodes ps)) bytes at)) n (n + length ps)
pairs_at_fine bytes left at n [] has deep room = rw (add-zero n) (fine_none bytes n)
pairs_at_fine bytes left at n (p ∷ ps) has deep room =
    let one : n + length (p ∷ ps) ≡ n + 1 + length ps = omega arith in
    rw one (fine_append bytes (pair_things left bytes (target bytes at)) (flat_map (pair_things left bytes) (targets (count_of (pair_nodes ps)) bytes (at + 4))) n (n + 1) (n + 1 + length ps)
    (pair_fine bytes left (target bytes at) n p has.0 deep (omega arith))
    (pairs_at_fine bytes left (at + 4) (n + 1) ps has.1 deep (omega arith)))

pub pairs_read : (bytes : List ℕ) (t : Place) (k : ℕ) (ps : List Pair) → HasSlots bytes t k (pairs_slot ps) → pairs_in bytes (slot bytes t k) ≡ ps
unfolding pairs_in elements
pairs_read bytes t k [] has = rw (has k (omega arith)) refl
pairs_read bytes t k (p ∷ ps) has = rw (has.0.1, has.0.3.0) (pairs_at_read bytes (target bytes has.0.0 + 4) (p ∷ ps) has.0.3.2)

pub pairs_fine : (bytes : List ℕ) (left : ℕ) (t : Place) (k n : ℕ) (ps : List Pair) → HasSlots bytes t k (pairs_slot ps) → 0 < left → n + length ps ≤ MAX_BUFFER_TABLES
    → Fine bytes (pairs_things left bytes (slot bytes t k)) n (n + length ps)
unfolding pairs_things elements
pairs_fine bytes left t k n [] has deep room = rw (has k (omega arith), add-zero n) (fine_none bytes n)
pairs_fine bytes left t k n (p ∷ ps) has deep room =
    fine_more bytes (vector_at 4 bytes (slot bytes t k)) (flat_map (pair_things left bytes) (elements bytes (slot bytes t k))) n (n + length (p ∷ ps))
    (fine_references bytes (slot bytes t k) has.0.0 n (pair_nodes (p ∷ ps)) has.0.1 has.0.2 has.0.3)
    (rw (elements_read bytes (slot bytes t k) has.0.0 (pair_nodes (p ∷ ps)) has.0.1 has.0.3) (pairs_at_fine bytes left (target bytes has.0.0 + 4) n (p ∷ ps) has.0.3.2 deep room))
