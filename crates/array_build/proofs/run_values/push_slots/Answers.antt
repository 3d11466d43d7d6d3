use Rattle.std.specs.List.{range_with_len}
use Rattle.std.proofs.Common.{◌≡◌, ◌≤◌, ◌+◌, ◌-◌, ◌*◌, ◌++◌, ◌∙◌, ℕ, Bool, List, ap, ap₂, arith, drop, length, length-append, length-drop, map, sym, take}
use Rattle.std.proofs.lemmas.Bool.{eqb-false, eqb-true}
use Rattle.std.proofs.lemmas.List.{drop_at, length-take-le, take_at}
use Rattle.bitmap.specs.Bits.{bit}
use Rattle.array_build.proofs.Cleared.{none_cleared}
use Rattle.array_build.proofs.RunSlots.{bits_with, bits_without}
use Rattle.array_build.proofs.run_values.push_slots.Goals as goal
use Rattle.array_build.specs.inner.Runs.{cleared}
use Rattle.columns.specs.Array.{Array, validity_in, values_in}
use Rattle.columns.specs.CellAt.{is_valid}
use Rattle.columns.specs.View.{view_array}

-- the values that are added are as many as the slots
added_length : (width from len : ℕ) (values : List ℕ) → (from + len) * width ≤ length values → length (take (len * width) (drop (from * width) values)) ≡ len * width
added_length width from len values long =
    let left = length-drop (from * width) values in
    length-take-le (len * width) (drop (from * width) values) (omega (arith, left, long))

pub clear_unset-requires-clause-values : goal.clear_unset-requires-clause-values
clear_unset-requires-clause-values c =
    let a : Array = view_array c.args.array in
    let width : ℕ = c.args.width in
    let len : ℕ = c.args.len in
    let old : List ℕ = c.args.values.now.items in
    let own : List ℕ = take (len * width) (drop (c.args.from * width) (values_in a)) in
    let made = ap length (c.in_ok-extend_from_slice.ensures.items ∙ ap (λ (xs : List ℕ). old ++ xs) c.slot_values.ensures.values) ∙ length-append old own in
    let size = added_length width c.args.from len (values_in a) c.requires.long in
    let more : c.args.from + len - c.args.from ≡ len = omega arith in
    let count : (c.args.from + len - c.args.from) * width ≡ len * width = ap (λ (n : ℕ). n * width) more in
    omega (arith, c.as_mut_slice.ensures.len, c.extend_from_slice.new.self.ok.0, c.args.values.now.ok.0, c.len-start.ensures, made, size, count)

pub returns-then-is_empty-clause-values : goal.returns-then-is_empty-clause-values
returns-then-is_empty-clause-values c =
    let a : Array = view_array c.args.array in
    let width : ℕ = c.args.width in
    let from : ℕ = c.args.from in
    let len : ℕ = c.args.len in
    let old : List ℕ = c.args.values.now.items in
    let own : List ℕ = take (len * width) (drop (from * width) (values_in a)) in
    let none : length (validity_in a) ≡ 0 = sym (ap length c.validity-validity.ensures) ∙ eqb-true _ 0 (sym c.is_empty.ensures ∙ c.if-is_empty.true) in
    let kept : cleared width (map (is_valid a) (range_with_len from len)) own ≡ own =
    ap (λ (bits : List Bool). cleared width bits own) (bits_without a from len none) ∙ none_cleared width len own (added_length width from len (values_in a) c.requires.long) in
    c.in_ok-extend_from_slice.ensures.items ∙ ap (λ (xs : List ℕ). old ++ xs) (c.slot_values.ensures.values ∙ sym kept)

pub returns-clause-values : goal.returns-clause-values
returns-clause-values c =
    let a : Array = view_array c.args.array in
    let width : ℕ = c.args.width in
    let from : ℕ = c.args.from in
    let len : ℕ = c.args.len in
    let start : ℕ = c.len-start.result in
    let old : List ℕ = c.args.values.now.items in
    let own : List ℕ = take (len * width) (drop (from * width) (values_in a)) in
    let bytes : List ℕ = c.validity-validity.result.now in
    let made : List ℕ = c.clear_unset.new.values in
    let begins : length old ≡ start = omega (arith, c.args.values.now.ok.0, c.len-start.ensures) in
    let added = c.as_mut_slice.ensures.value ∙ c.in_ok-extend_from_slice.ensures.items ∙ ap (λ (xs : List ℕ). old ++ xs) c.slot_values.ensures.values in
    let long : length made ≡ c.extend_from_slice.new.self.len = omega (arith, c.clear_unset.auto.values, c.as_mut_slice.ensures.len) in
    let some : length (validity_in a) ≡ 0 → ⊥ = λ none. eqb-false _ 0 (sym c.is_empty.ensures ∙ c.if-is_empty.false) (ap length c.validity-validity.ensures ∙ none) in
    let count : from + len - from ≡ len = omega arith in
    let bits : map (bit bytes) (range_with_len from (from + len - from)) ≡ map (is_valid a) (range_with_len from len) =
    ap₂ (λ (xs : List ℕ) (n : ℕ). map (bit xs) (range_with_len from n)) c.validity-validity.ensures count ∙ bits_with a from len some in
    take_at made _ c.extend_from_slice.new.self.len long
    ∙ c.clear_unset.ensures
    ∙ ap (λ (xs : List ℕ). take start xs ++ cleared width (map (bit bytes) (range_with_len from (from + len - from))) (drop start xs)) added
    ∙ ap₂ (λ (xs ys : List ℕ). xs ++ cleared width (map (bit bytes) (range_with_len from (from + len - from))) ys) (take_at old own start begins) (drop_at old own start begins)
    ∙ ap (λ (bs : List Bool). old ++ cleared width bs own) bits
