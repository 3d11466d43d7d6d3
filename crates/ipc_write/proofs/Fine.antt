-- A walk over what was written finds nothing bad.
use Rattle.std.proofs.Common.{◌≡◌, ℕ, ◌+◌, ◌*◌, ◌%◌, ◌<◌, ◌≤◌, false, List, [], ◌∷◌, ◌++◌, length, Option, Some, None, Ok, refl, ◌∙◌, arith, eqb}
use Rattle.std.proofs.lemmas.Bool.{le-leb, lt-ltb}
use Rattle.flatbuf.specs.declared.limits.TheConstants.{MAX_BUFFER_TABLES}
use Rattle.flatbuf.specs.Lookup.{number, target, text_of, elements, targets}
use Rattle.flatbuf.specs.Walk.{Thing, span, run, spans, vector_at, head_things, table_things, reference_things}
use Rattle.flatbuf.specs.Held.{Has, HasHead}
use Rattle.flatbuf.specs.Laid.{count_of}
use Rattle.flatbuf.specs.Tree.{Nodes, text, references, structs}
use Rattle.flatbuf.specs.laws.Walk.{run_ok}

-- a walk that has met n tables has met m after these things, and none was bad
abbrev pub Fine : List ℕ → List Thing → ℕ → ℕ → Type 0
Fine bytes things n m = run bytes things n ≡ Ok m

pub fine_none : (bytes : List ℕ) (n : ℕ) → Fine bytes [] n n
unfolding run
fine_none bytes n = refl

pub fine_append : (bytes : List ℕ) (xs ys : List Thing) (n m k : ℕ) → Fine bytes xs n m → Fine bytes ys m k → Fine bytes (xs ++ ys) n k
fine_append bytes xs ys n m k first second = run_ok bytes xs ys n m first ∙ second

-- things of which none is a table, one after the other
pub fine_more : (bytes : List ℕ) (xs ys : List Thing) (n m : ℕ) → Fine bytes xs n n → Fine bytes ys n m → Fine bytes (xs ++ ys) n m
fine_more bytes xs ys n m first second = fine_append bytes xs ys n n m first second

-- after things that may be tables, things that are none
pub fine_after : (bytes : List ℕ) (xs ys : List Thing) (n m : ℕ) → Fine bytes xs n m → Fine bytes ys m m → Fine bytes (xs ++ ys) n m
fine_after bytes xs ys n m first second = fine_append bytes xs ys n m m first second

pub fine_span : (bytes : List ℕ) (at len n : ℕ) → at + len ≤ length bytes → Fine bytes (span at len ∷ []) n n
unfolding run
fine_span bytes at len n h = rw (le-leb (at + len) (length bytes) h) refl

pub fine_spans : (bytes : List ℕ) (w : ℕ) (s : Option ℕ) (p n : ℕ) → s ≡ Some p → p + w ≤ length bytes → Fine bytes (spans w s) n n
fine_spans bytes w s p n e h = rw e (fine_span bytes p w n h)

-- a vector, all of it within the bytes
pub fine_vector : (bytes : List ℕ) (w : ℕ) (s : Option ℕ) (p n : ℕ) → s ≡ Some p → p + 4 ≤ length bytes → target bytes p + 4 ≤ length bytes
    → target bytes p + 4 + w * number 4 bytes (target bytes p) ≤ length bytes → Fine bytes (vector_at w bytes s) n n
fine_vector bytes w s p n e reference count all =
    rw e (fine_more bytes (span p 4 ∷ []) (span (target bytes p) 4 ∷ span (target bytes p + 4) (w * number 4 bytes (target bytes p)) ∷ []) n n (fine_span bytes p 4 n reference)
    (fine_more bytes (span (target bytes p) 4 ∷ []) (span (target bytes p + 4) (w * number 4 bytes (target bytes p)) ∷ []) n n (fine_span bytes (target bytes p) 4 n count)
    (fine_span bytes (target bytes p + 4) (w * number 4 bytes (target bytes p)) n all)))

pub fine_no_vector : (bytes : List ℕ) (w : ℕ) (s : Option ℕ) (n : ℕ) → s ≡ None → Fine bytes (vector_at w bytes s) n n
fine_no_vector bytes w s n e = rw e (fine_none bytes n)

pub fine_text : (bytes : List ℕ) (s : Option ℕ) (p n : ℕ) (t : List ℕ) → s ≡ Some p → p + 4 ≤ length bytes → Has bytes (target bytes p) (text t) → Fine bytes (vector_at 1 bytes s) n n
fine_text bytes s p n t e reference has =
    let count : number 4 bytes (target bytes p) ≡ length t = has.0 in
    fine_vector bytes 1 s p n e reference (omega (arith, has.2)) (rw count (omega (arith, has.2)))

pub fine_references : (bytes : List ℕ) (s : Option ℕ) (p n : ℕ) (nodes : Nodes) → s ≡ Some p → p + 4 ≤ length bytes → Has bytes (target bytes p) (references nodes) → Fine bytes (vector_at 4 bytes s) n n
fine_references bytes s p n nodes e reference has =
    let count : number 4 bytes (target bytes p) ≡ count_of nodes = has.0 in
    fine_vector bytes 4 s p n e reference (omega (arith, has.1)) (rw count (omega (arith, has.1)))

pub fine_structs : (bytes : List ℕ) (s : Option ℕ) (p n : ℕ) (ps : List (ℕ × ℕ)) → s ≡ Some p → p + 4 ≤ length bytes → Has bytes (target bytes p) (structs ps) → Fine bytes (vector_at 16 bytes s) n n
fine_structs bytes s p n ps e reference has =
    let count : number 4 bytes (target bytes p) ≡ length ps = has.0 in
    fine_vector bytes 16 s p n e reference (omega (arith, has.2)) (rw count (omega (arith, has.2)))

even : (k : ℕ) → (4 + 2 * k) % 2 ≡ 0
even k = omega arith

pub fine_head : (bytes : List ℕ) (at slots n : ℕ) → HasHead bytes at slots → n < MAX_BUFFER_TABLES → Fine bytes (head_things bytes at) n (n + 1)
unfolding run head_things
fine_head bytes at slots n has room =
    let inside : has.vtable + (4 + 2 * slots) ≤ length bytes = has.vtable_in in
    let size : has.vtable + 2 ≤ length bytes = omega arith in
    let least : 4 ≤ 4 + 2 * slots = omega arith in
    rw (
      lt-ltb n 20000 room,
      le-leb (at + 4) (length bytes) has.head_in,
      has.found,
      has.size,
      even slots,
      le-leb (has.vtable + 2) (length bytes) size,
      le-leb 4 (4 + 2 * slots) least,
      le-leb (has.vtable + (4 + 2 * slots)) (length bytes) inside,
    ) refl

pub fine_table : (bytes : List ℕ) (left at slots n : ℕ) → HasHead bytes at slots → 0 < left → n < MAX_BUFFER_TABLES → Fine bytes (table_things left bytes at) n (n + 1)
unfolding table_things
fine_table bytes left at slots n has deep room = let no : eqb left 0 ≡ false = grind arith in rw no (fine_head bytes at slots n has room)

-- a reference, and the table that it leads to
pub fine_reference : (bytes : List ℕ) (left : ℕ) (s : Option ℕ) (p slots n : ℕ) → s ≡ Some p → p + 4 ≤ length bytes → HasHead bytes (target bytes p) slots → 0 < left → n < MAX_BUFFER_TABLES
    → Fine bytes (reference_things left bytes s) n (n + 1)
fine_reference bytes left s p slots n e reference has deep room =
    rw e (fine_more bytes (span p 4 ∷ []) (table_things left bytes (target bytes p)) n (n + 1) (fine_span bytes p 4 n reference) (fine_table bytes left (target bytes p) slots n has deep room))

-- what a text holds, and what references lead to
pub text_read : (bytes : List ℕ) (s : Option ℕ) (p : ℕ) (t : List ℕ) → s ≡ Some p → Has bytes (target bytes p) (text t) → text_of bytes s ≡ t
text_read bytes s p t e has = rw (e, has.0) has.1

pub elements_read : (bytes : List ℕ) (s : Option ℕ) (p : ℕ) (nodes : Nodes) → s ≡ Some p → Has bytes (target bytes p) (references nodes) → elements bytes s ≡ targets (count_of nodes) bytes (target bytes p + 4)
unfolding elements
elements_read bytes s p nodes e has = rw (e, has.0) refl
