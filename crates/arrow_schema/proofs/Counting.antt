-- Depths against a number of levels, and what a totals has counted.
use Rattle.std.proofs.Common.{◌≡◌, ℕ, suc, ◌+◌, ◌-◌, ◌^◌, ◌≤◌, ◌<◌, Bool, true, false, ◌&&◌, List, [], ◌∷◌, ◌++◌, length, refl, ap, sym, ◌∙◌, arith}
use Rattle.std.proofs.Common.{◌↔◌, get_or, drop, map, add-one, drop-cons}
use Rattle.std.proofs.Math.Bool.{and_assoc, and-true}
use Rattle.std.specs.Prelude.{nat_le, not, sum_by, Result, Ok, Err, IsOk, if◌then◌else◌}
use Rattle.std.proofs.lemmas.Bool.{lt-leb, le-leb, leb-true, false≢true}
use Rattle.std.specs.List.{list_all}
use Rattle.arrow_schema.specs.declared.limits.TheConstants.{MAX_FIELDS, MAX_DEPTH, MAX_PAIRS, MAX_TEXT_BYTES}
use Rattle.arrow_schema.specs.declared.limits.SchemaTotals.{SchemaTotals}
use Rattle.arrow_schema.specs.declared.types.Field.{Field}
use Rattle.arrow_schema.specs.declared.limits.SchemaError.{SchemaError}
use Rattle.arrow_schema.specs.declared.limits.SchemaError.TheVariants.{Depth, Fields, Pairs, Bytes, Number, Dictionary}
use Rattle.arrow_schema.specs.Column.{Column, columns_of, PlainSchema}
use Rattle.arrow_schema.specs.View.{column_of}
use Rattle.arrow_schema.specs.Preorder.{preorder, preorder_all, depth, depth_all, every_column}
use Rattle.arrow_schema.specs.Limits.{IsWithinLimits, first_exceeded, count_of_pairs, count_of_bytes, pairs_in, bytes_in, has_number_in_range, has_flat_dictionary}
use Rattle.arrow_schema.specs.inner.SchemaTotals.{saturated, tallied, tallied_one}
use Rattle.arrow_schema.proofs.Sound.{IsSound}
use Rattle.std.proofs.lemmas.List.Sums.{sum_by-cons, AllPass-from_list_all, list_all-from_AllPass}
use Rattle.facts.specs.laws.Levels.{nat_le_max}
use Rattle.facts.specs.laws.Lists.{drop-item}

-- after two lists in turn
pub tallied-append : (t : SchemaTotals) (xs ys : List Column) → tallied t (xs ++ ys) ≡ tallied (tallied t xs) ys
unfolding tallied
tallied-append t [] ys = refl
tallied-append t (x ∷ xs) ys = tallied-append (tallied_one t x) xs ys

-- what each number of a totals says
pub tallied_fields : (t : SchemaTotals) (cs : List Column) → t.fields ≤ 2 ^ 64 - 1 → (tallied t cs).fields ≡ saturated (t.fields + length cs)
unfolding tallied tallied_one
tallied_fields t [] h = omega arith
tallied_fields t (c ∷ cs) h = tallied_fields (tallied_one t c) cs (omega arith) ∙ omega arith

pub tallied_pairs : (t : SchemaTotals) (cs : List Column) → t.pairs ≤ 2 ^ 64 - 1 → (tallied t cs).pairs ≡ saturated (t.pairs + sum_by pairs_in cs)
unfolding tallied tallied_one
tallied_pairs t [] h = omega arith
tallied_pairs t (c ∷ cs) h = tallied_pairs (tallied_one t c) cs (omega arith) ∙ omega (arith, sum_by-cons pairs_in c cs)

pub tallied_bytes : (t : SchemaTotals) (cs : List Column) → t.bytes ≤ 2 ^ 64 - 1 → (tallied t cs).bytes ≡ saturated (t.bytes + sum_by bytes_in cs)
unfolding tallied tallied_one
tallied_bytes t [] h = omega arith
tallied_bytes t (c ∷ cs) h = tallied_bytes (tallied_one t c) cs (omega arith) ∙ omega (arith, sum_by-cons bytes_in c cs)

pub tallied_numbers : (t : SchemaTotals) (cs : List Column) → (tallied t cs).numbers_fit ≡ (t.numbers_fit && list_all has_number_in_range cs)
unfolding tallied tallied_one
tallied_numbers t [] = sym (and-true t.numbers_fit)
tallied_numbers t (c ∷ cs) = tallied_numbers (tallied_one t c) cs ∙ and_assoc t.numbers_fit (has_number_in_range c) (list_all has_number_in_range cs)

pub tallied_dictionaries : (t : SchemaTotals) (cs : List Column) → (tallied t cs).dictionaries_fit ≡ (t.dictionaries_fit && list_all has_flat_dictionary cs)
unfolding tallied tallied_one
tallied_dictionaries t [] = sym (and-true t.dictionaries_fit)
tallied_dictionaries t (c ∷ cs) = tallied_dictionaries (tallied_one t c) cs ∙ and_assoc t.dictionaries_fit (has_flat_dictionary c) (list_all has_flat_dictionary cs)

pub ruleset depth_rules = nat_le_max

-- a field, before those after it, is within n levels or not
pub next_depth : (fs : List Field) (i : ℕ) (f : Field) (levels : ℕ) (b : Bool) → i < length fs → f ≡ get_or fs i f → b ≡ nat_le (depth (column_of f)) levels
    → nat_le (depth_all (columns_of (map column_of (drop i fs)))) levels ≡ (b && nat_le (depth_all (columns_of (map column_of (drop (i + 1) fs)))) levels)
unfolding depth_all
next_depth fs i f levels b lt is found =
    let rest : ℕ = depth_all (columns_of (map column_of (drop (i + 1) fs))) in
    ap (λ (xs : List Field). nat_le (depth_all (columns_of (map column_of xs))) levels) (drop-item fs i f lt is)
    ∙ nat_le_max (depth (column_of f)) rest levels
    ∙ ap (λ (x : Bool). x && nat_le rest levels) (sym found)

pub ruleset totals_rules = tallied-append

-- the step of a loop over fields
pub next_field : (t u : SchemaTotals) (fields : List Field) (i : ℕ) (x : Field) → i < length fields → x ≡ get_or fields i x → u ≡ tallied t (preorder (column_of x))
    → tallied u (preorder_all (columns_of (map column_of (drop (i + 1) fields)))) ≡ tallied t (preorder_all (columns_of (map column_of (drop i fields))))
unfolding preorder_all
next_field t u fields i x lt is e =
    let next : drop i fields ≡ x ∷ drop (i + 1) fields = rw add-one (drop-cons fields i x lt ∙ ap (λ (y : Field). y ∷ drop (suc i) fields) (sym is)) in
    rw (next, e) (sym (tallied-append t (preorder (column_of x)) (preorder_all (columns_of (map column_of (drop (i + 1) fields))))))

-- the tests in their order
pub first_depth : (s : PlainSchema) → nat_le (depth_all (columns_of s.columns)) MAX_DEPTH ≡ false → Err Depth ≡ first_exceeded s
unfolding first_exceeded
first_depth s d = rw d refl

pub first_fields : (s : PlainSchema) → nat_le (depth_all (columns_of s.columns)) MAX_DEPTH ≡ true → MAX_FIELDS < length (every_column s) → Err Fields ≡ first_exceeded s
unfolding first_exceeded
first_fields s d f =
    let f' : nat_le (length (every_column s)) MAX_FIELDS ≡ false = lt-leb _ _ f in
    rw (d, f') refl

pub first_pairs : (s : PlainSchema) → nat_le (depth_all (columns_of s.columns)) MAX_DEPTH ≡ true → length (every_column s) ≤ MAX_FIELDS → MAX_PAIRS < count_of_pairs s → Err Pairs ≡ first_exceeded s
unfolding first_exceeded
first_pairs s d f p =
    let f' : nat_le (length (every_column s)) MAX_FIELDS ≡ true = le-leb _ _ f in
    let p' : nat_le (count_of_pairs s) MAX_PAIRS ≡ false = lt-leb _ _ p in
    rw (d, f', p') refl

pub first_bytes : (s : PlainSchema) → nat_le (depth_all (columns_of s.columns)) MAX_DEPTH ≡ true → length (every_column s) ≤ MAX_FIELDS → count_of_pairs s ≤ MAX_PAIRS → MAX_TEXT_BYTES < count_of_bytes s → Err Bytes ≡ first_exceeded s
unfolding first_exceeded
first_bytes s d f p b =
    let f' : nat_le (length (every_column s)) MAX_FIELDS ≡ true = le-leb _ _ f in
    let p' : nat_le (count_of_pairs s) MAX_PAIRS ≡ true = le-leb _ _ p in
    let b' : nat_le (count_of_bytes s) MAX_TEXT_BYTES ≡ false = lt-leb _ _ b in
    rw (d, f', p', b') refl

-- what is reported after the counts
abbrev pub after_counts : Bool → Bool → Result (Unit {0}) SchemaError
after_counts numbers dictionaries = if not numbers then Err Number else if not dictionaries then Err Dictionary else Ok tt

pub first_after : (s : PlainSchema) (n k : Bool) → nat_le (depth_all (columns_of s.columns)) MAX_DEPTH ≡ true → length (every_column s) ≤ MAX_FIELDS → count_of_pairs s ≤ MAX_PAIRS → count_of_bytes s ≤ MAX_TEXT_BYTES → list_all has_number_in_range (every_column s) ≡ n → list_all has_flat_dictionary (every_column s) ≡ k → after_counts n k ≡ first_exceeded s
unfolding first_exceeded
first_after s n k d f p b ns ks =
    let f' : nat_le (length (every_column s)) MAX_FIELDS ≡ true = le-leb _ _ f in
    let p' : nat_le (count_of_pairs s) MAX_PAIRS ≡ true = le-leb _ _ p in
    let b' : nat_le (count_of_bytes s) MAX_TEXT_BYTES ≡ true = le-leb _ _ b in
    rw (d, f', p', b', ns, ks) refl

-- the tests in their order and the facts agree
step_back : (b : Bool) (e : SchemaError) (rest : Result (Unit {0}) SchemaError) → IsOk (if not b then Err e else rest) → (b ≡ true) × IsOk rest
step_back true e rest h = (refl, h)
step_back false e rest h = absurd (false≢true h)

facts_from_tests : (s : PlainSchema) → IsSound s → IsOk (first_exceeded s) → IsWithinLimits s
unfolding first_exceeded
facts_from_tests s sound h =
    let d = step_back (nat_le (depth_all (columns_of s.columns)) MAX_DEPTH) Depth _ h in
    let f = step_back (nat_le (length (every_column s)) MAX_FIELDS) Fields _ d.1 in
    let p = step_back (nat_le (count_of_pairs s) MAX_PAIRS) Pairs _ f.1 in
    let b = step_back (nat_le (count_of_bytes s) MAX_TEXT_BYTES) Bytes _ p.1 in
    let n = step_back (list_all has_number_in_range (every_column s)) Number _ b.1 in
    let k = step_back (list_all has_flat_dictionary (every_column s)) Dictionary _ n.1 in
    record {
      levels = leb-true _ _ d.0;
      fields = leb-true _ _ f.0;
      pairs = leb-true _ _ p.0;
      bytes = leb-true _ _ b.0;
      numbers = AllPass-from_list_all _ _ n.0;
      dictionaries = AllPass-from_list_all _ _ k.0;
      widths = AllPass-from_list_all _ _ sound.widths;
      texts = AllPass-from_list_all _ _ sound.texts;
      own_texts = AllPass-from_list_all _ _ sound.own_texts;
    }

tests_from_facts : (s : PlainSchema) → IsWithinLimits s → Ok tt ≡ first_exceeded s
tests_from_facts s w = first_after s true true (le-leb _ _ w.levels) w.fields w.pairs w.bytes (list_all-from_AllPass _ _ w.numbers) (list_all-from_AllPass _ _ w.dictionaries)

pub within_from_first : (s : PlainSchema) (r : Result (Unit {0}) SchemaError) → IsSound s → r ≡ first_exceeded s → IsOk r ↔ IsWithinLimits s
within_from_first s r sound e = (λ h. facts_from_tests s sound (rw (← e) h), λ w. rw (e, ← tests_from_facts s w) refl)
