-- The header of a message as a union: its kind is not 0, so what is met is the table that its reference leads to.
use Rattle.std.proofs.Common.{◌≡◌, ◌≤◌, ◌<◌, ◌+◌, ◌++◌, ℕ, zero, suc, Bool, true, false, nat_le, eqb, ◌==◌, if◌then◌else◌, List, [], ◌∷◌, length, Option, Some, None, Ok, Err, refl, sym, ap, subst, ◌∙◌, arith}
use Rattle.std.proofs.lemmas.Bool.{cond-true, cond-false, leb-false, ne_eqb}
use Rattle.std.proofs.lemmas.List.{drop_all}
use Rattle.byteorder.specs.Endian.{little_number}
use Rattle.flatbuf.specs.declared.FlatError.{FlatError}
use Rattle.flatbuf.specs.declared.FlatError.TheVariants.{Bounds}
use Rattle.flatbuf.specs.Lookup.{number, Place, slot, scalar_of, table_behind, union_behind}
use Rattle.flatbuf.specs.Walk.{Thing, span, run, spans, reference_things, union_things}
use Rattle.ipc_message.specs.declared.header_type.HeaderType.{HeaderType}
use Rattle.ipc_message.specs.Framing.{header_type, type_of, message_table}
use Rattle.ipc_message.specs.Header.{needed_things}

-- ---- a kind that is not 0 is there

past_all : (bytes : List ℕ) (at : ℕ) → length bytes ≤ at → number 1 bytes at ≡ 0
unfolding number
past_all bytes at le = ap (λ (bs : List ℕ). little_number 1 bs) (drop_all at bytes le)

stands : (bytes : List ℕ) (at : ℕ) → 0 < number 1 bytes at → nat_le (at + 1) (length bytes) ≡ true
stands bytes at kind = by_test (nat_le (at + 1) (length bytes)) refl
  where
    by_test : (b : Bool) → nat_le (at + 1) (length bytes) ≡ b → b ≡ true
    by_test true h = refl
    by_test false h = absurd (let none = past_all bytes at (let past = leb-false _ _ h in omega (arith, past)) in omega (arith, none, kind))

not_zero : (n : ℕ) → 0 < n → eqb n 0 ≡ false
not_zero n h = ne_eqb n 0 (λ (none : n ≡ 0). omega (arith, h, none))

typed : (n : ℕ) (ty : HeaderType) → header_type n ≡ Some ty → 0 < n
typed zero ty h = absurd (let none : header_type 0 ≡ None = refl in cc)
typed (suc n) ty h = omega arith

pub kind_stands : (metadata : List ℕ) (t : Place) (ty : HeaderType) → t ≡ message_table metadata → header_type (type_of metadata) ≡ Some ty → 0 < scalar_of 1 0 metadata (slot metadata t 1)
unfolding type_of
kind_stands metadata t ty here is = subst (λ (p : Place). 0 < scalar_of 1 0 metadata (slot metadata p 1)) (sym here) (typed (type_of metadata) ty is)

-- ---- the walk over the union is the one over its reference

past_kind : (bytes : List ℕ) (o : Option ℕ) (xs : List Thing) (n : ℕ) → 0 < scalar_of 1 0 bytes o → run bytes (spans 1 o ++ (if scalar_of 1 0 bytes o == 0 then [] else xs)) n ≡ run bytes xs n
unfolding run
past_kind bytes None xs n kind = absurd (omega (arith, kind))
past_kind bytes (Some at) xs n kind =
    ap (λ (things : List Thing). run bytes (span at 1 ∷ things) n) (cond-false (eqb (number 1 bytes at) 0) [] xs (not_zero (number 1 bytes at) kind))
    ∙ cond-true (nat_le (at + 1) (length bytes)) (run bytes xs n) (Err Bounds) (stands bytes at kind)

reference_fails : (left : ℕ) (bytes : List ℕ) (o : Option ℕ) (n : ℕ) (e : FlatError) → run bytes (reference_things left bytes o) n ≡ Err e → run bytes (needed_things left bytes o) n ≡ Err e
unfolding run
reference_fails left bytes None n e bad = absurd cc
reference_fails left bytes (Some at) n e bad = bad

reference_runs : (left : ℕ) (bytes : List ℕ) (o : Option ℕ) (n m : ℕ) (p : Place) → table_behind bytes o ≡ Some p → run bytes (reference_things left bytes o) n ≡ Ok m → run bytes (needed_things left bytes o) n ≡ Ok m
reference_runs left bytes None n m p here fine = absurd cc
reference_runs left bytes (Some at) n m p here fine = fine

no_reference : (left : ℕ) (bytes : List ℕ) (o : Option ℕ) (n : ℕ) → table_behind bytes o ≡ None → run bytes (needed_things left bytes o) n ≡ Err Bounds
unfolding run
no_reference left bytes None n none = refl
no_reference left bytes (Some at) n none = absurd cc

pub union_fails : (left : ℕ) (bytes : List ℕ) (t : Place) (n : ℕ) (e : FlatError) → 0 < scalar_of 1 0 bytes (slot bytes t 1) → run bytes (union_things left bytes t 1) n ≡ Err e
    → run bytes (needed_things left bytes (slot bytes t 2)) n ≡ Err e
union_fails left bytes t n e kind bad =
    reference_fails left bytes (slot bytes t 2) n e (sym (past_kind bytes (slot bytes t 1) (reference_things left bytes (slot bytes t 2)) n kind) ∙ bad)

pub union_runs : (left : ℕ) (bytes : List ℕ) (t : Place) (n m : ℕ) (p : Place) → 0 < scalar_of 1 0 bytes (slot bytes t 1) → table_behind bytes (slot bytes t 2) ≡ Some p → run bytes (union_things left bytes t 1) n ≡ Ok m
    → run bytes (needed_things left bytes (slot bytes t 2)) n ≡ Ok m
union_runs left bytes t n m p kind here fine =
    reference_runs left bytes (slot bytes t 2) n m p here (sym (past_kind bytes (slot bytes t 1) (reference_things left bytes (slot bytes t 2)) n kind) ∙ fine)

pub union_lacks : (left : ℕ) (bytes : List ℕ) (t : Place) (n : ℕ) → table_behind bytes (slot bytes t 2) ≡ None → run bytes (needed_things left bytes (slot bytes t 2)) n ≡ Err Bounds
union_lacks left bytes t n none = no_reference left bytes (slot bytes t 2) n none

-- ---- its table is the one that its reference leads to

pub union_is : (bytes : List ℕ) (t : Place) (o : Option Place) → 0 < scalar_of 1 0 bytes (slot bytes t 1) → o ≡ union_behind bytes t 1 → table_behind bytes (slot bytes t 2) ≡ o
union_is bytes t o kind is =
    sym (is ∙ cond-false (eqb (scalar_of 1 0 bytes (slot bytes t 1)) 0) None (table_behind bytes (slot bytes t 2)) (not_zero (scalar_of 1 0 bytes (slot bytes t 1)) kind))
