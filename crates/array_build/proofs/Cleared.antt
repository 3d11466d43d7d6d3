-- Values of one width, of which some are put to zeros.
use Rattle.std.specs.Prelude.{Some, None, nat_le, replicate, if◌then◌else◌}
use Rattle.std.specs.List.{flat_map, range_with_len}
use Rattle.std.proofs.Common.{◌≡◌, ℕ, zero, suc, ◌+◌, ◌*◌, ◌≤◌, ◌<◌, Bool, true, false, List, ◌∷◌, ◌++◌, length, map, take, drop, refl, ap, ap₂, sym, ◌∙◌, arith, append_assoc, length-append, length-drop, mul-le-mul_right}
use Rattle.std.proofs.lemmas.Bool.{and_parts, leb-true}
use Rattle.std.proofs.lemmas.List.{drop-drop, drop-take, drop_at, length-replicate, length-take-le, take-append-drop, take-take, take_at, nil_from_length}
use Rattle.arrow_schema.specs.Column.{Kind}
use Rattle.array_build.proofs.AsWritten.{null_slot, short_validity}
use Rattle.array_build.proofs.RunValues.{enough, null_value, one, plain_cell}
use Rattle.batch_build.specs.Batch.{plain_column}
use Rattle.array_build.specs.inner.Runs.{cleared, fixed_value, fixed_width}
use Rattle.columns.specs.Array.{Array, slots_in, values_in}
use Rattle.columns.specs.CellAt.{cells_from, is_valid}
use Rattle.columns.specs.Runs.{is_run_sound, run_cells}
use Rattle.columns.specs.Sound.{is_sound}
use Rattle.columns.specs.Tests.{has_short_validity}
use Rattle.columns.specs.View.{view_array}
use Rattle.columns.specs.declared.slot_runs.SlotRun.{SlotRun}
use Rattle.columns.specs.declared.slot_runs.SlotRun.TheVariants.{Slots}
use Rattle.columns.specs.declared.view.ArrayView.{ArrayView}
use Rattle.facts.specs.Bytes.{AreBytes}

-- ---- one value after another

value_length : (b : Bool) (width : ℕ) (values : List ℕ) → width ≤ length values → length (if b then take width values else replicate width 0) ≡ width
value_length true width values le = length-take-le width values le
value_length false width values le = length-replicate width 0

-- the values so far, and those that are left
abbrev pub cleared_with : (width at : ℕ) → List ℕ → List Bool → List ℕ
cleared_with width at values bits = take at values ++ cleared width bits (drop at values)

pub one_cleared : (width at next : ℕ) (b : Bool) (old new : List ℕ) (bits : List Bool) → next ≡ at + width → next ≤ length old
    → new ≡ take at old ++ ((if b then take width (drop at old) else replicate width 0) ++ drop next old)
    → cleared_with width next new bits ≡ cleared_with width at old (b ∷ bits)
one_cleared width at next b old new bits end room is =
    let own : List ℕ = if b then take width (drop at old) else replicate width 0 in
    let front : List ℕ = take at old in
    let left = length-drop at old in
    let lf : length front ≡ at = length-take-le at old (omega (arith, end, room)) in
    let lo : length own ≡ width = value_length b width (drop at old) (omega (arith, left, end, room)) in
    let lw : length (front ++ own) ≡ next = length-append front own ∙ omega (arith, lf, lo, end) in
    let whole : new ≡ (front ++ own) ++ drop next old = is ∙ sym (append_assoc front own (drop next old)) in
    let first : take next new ≡ front ++ own = ap (take next) whole ∙ take_at (front ++ own) (drop next old) next lw in
    let rest : drop next new ≡ drop width (drop at old) =
    ap (drop next) whole ∙ drop_at (front ++ own) (drop next old) next lw ∙ ap (λ (k : ℕ). drop k old) end ∙ sym (drop-drop width at old) in
    ap₂ (λ (xs ys : List ℕ). xs ++ cleared width bits ys) first rest ∙ append_assoc front own (cleared width bits (drop width (drop at old)))

-- a value that is there is kept
kept : (width at : ℕ) (values : List ℕ) → values ≡ take at values ++ (take width (drop at values) ++ drop (at + width) values)
kept width at values =
    sym (take-append-drop at values)
    ∙ ap (λ (xs : List ℕ). take at values ++ xs) (sym (take-append-drop width (drop at values)) ∙ ap (λ (xs : List ℕ). take width (drop at values) ++ xs) (drop-drop width at values))

-- and so are several
pub some_kept : (set : ℕ → Bool) (width at i k left : ℕ) (values : List ℕ) → ((j : ℕ) → i ≤ j → j < i + k → set j ≡ true) → at + k * width ≤ length values
    → cleared_with width (at + k * width) values (map set (range_with_len (i + k) left)) ≡ cleared_with width at values (map set (range_with_len i (k + left)))
some_kept set width at i zero left values alike room =
    let place : at + 0 * width ≡ at = omega arith in
    let first : i + 0 ≡ i = omega arith in
    let count : 0 + left ≡ left = omega arith in
    ap₂ (λ (p j : ℕ). cleared_with width p values (map set (range_with_len j left))) place first
    ∙ ap (λ (n : ℕ). cleared_with width at values (map set (range_with_len i n))) (sym count)
some_kept set width at i (suc k) left values alike room =
    let size : suc k * width ≡ width + k * width = omega arith in
    let place : at + suc k * width ≡ at + width + k * width = omega (arith, size) in
    let first : i + suc k ≡ i + 1 + k = omega arith in
    let count : suc k + left ≡ suc (k + left) = omega arith in
    let more : at + width + k * width ≤ length values = omega (arith, size, room) in
    let here : set i ≡ true = alike i (omega arith) (omega arith) in
    let rest : List Bool = map set (range_with_len (i + 1) (k + left)) in
    let whole : values ≡ take at values ++ ((if set i then take width (drop at values) else replicate width 0) ++ drop (at + width) values) =
    kept width at values ∙ ap (λ (b : Bool). take at values ++ ((if b then take width (drop at values) else replicate width 0) ++ drop (at + width) values)) (sym here) in
    ap₂ (λ (p j : ℕ). cleared_with width p values (map set (range_with_len j left))) place first
    ∙ some_kept set width (at + width) (i + 1) k left values (λ j low high. alike j (omega (arith, low)) (omega (arith, high))) more
    ∙ one_cleared width at (at + width) (set i) values values rest refl (omega (arith, more)) whole
    ∙ ap (λ (n : ℕ). cleared_with width at values (map set (range_with_len i n))) (sym count)

-- if each is there, nothing is cleared
pub none_cleared : (width n : ℕ) (values : List ℕ) → length values ≡ n * width → cleared width (replicate n true) values ≡ values
none_cleared width zero values len = sym (nil_from_length values (omega (arith, len)))
none_cleared width (suc n) values len =
    let left = length-drop width values in
    let size : suc n * width ≡ width + n * width = omega arith in
    let more : length (drop width values) ≡ n * width = omega (arith, left, len, size) in
    ap (λ (xs : List ℕ). take width values ++ xs) (none_cleared width n (drop width values) more) ∙ take-append-drop width values

-- ---- slots

module _ (a : Array) (small : AreBytes (values_in a)) (kind : Kind) (width : ℕ) (is : fixed_width kind ≡ Some width) (long : slots_in a * width ≤ length (values_in a)) where
  value_is : (b : Bool) (i : ℕ) → i < slots_in a → is_valid a i ≡ b → (if b then take width (drop (i * width) (values_in a)) else replicate width 0) ≡ fixed_value kind (plain_cell kind a i)
  value_is true i lt valid = sym (one a small kind width is long i lt valid)
  value_is false i lt unset = sym (ap (fixed_value kind) (null_slot kind a i unset) ∙ null_value kind width is)

  -- the values of slots, with zeros below nulls, are those of their cells
  pub slots_cleared : (from n : ℕ) → from + n ≤ slots_in a
      → cleared width (map (is_valid a) (range_with_len from n)) (take (n * width) (drop (from * width) (values_in a))) ≡ flat_map (fixed_value kind) (cells_from (plain_cell kind a) from n)
  slots_cleared from zero within = refl
  slots_cleared from (suc n) within =
      let vs : List ℕ = drop (from * width) (values_in a) in
      let size : suc n * width ≡ width + n * width = omega arith in
      let next : (from + 1) * width ≡ from * width + width = omega arith in
      let first : take width (take (suc n * width) vs) ≡ take width vs = take-take width (suc n * width) vs (omega (arith, size)) in
      let rest : drop width (take (suc n * width) vs) ≡ take (n * width) (drop ((from + 1) * width) (values_in a)) =
      ap (λ (k : ℕ). drop width (take k vs)) size ∙ drop-take width (n * width) vs
      ∙ ap (take (n * width)) (drop-drop width (from * width) (values_in a) ∙ ap (λ (k : ℕ). drop k (values_in a)) (sym next)) in
      ap₂ (λ (xs ys : List ℕ). (if is_valid a from then xs else replicate width 0) ++ cleared width (map (is_valid a) (range_with_len (from + 1) n)) ys) first rest
      ∙ ap₂ (λ (xs ys : List ℕ). xs ++ ys) (value_is (is_valid a from) from (omega arith) refl) (slots_cleared (from + 1) n (omega arith))

-- what is known of a run of slots
pub record AreSlots (kind : Kind) (width : ℕ) (v : ArrayView) (from n : ℕ) (run : SlotRun) : Type 0 where
  pub short : has_short_validity (view_array v) ≡ false
  pub long : (from + n) * width ≤ length (values_in (view_array v))
  pub within : from + n ≤ slots_in (view_array v)
  pub cells : AreBytes (values_in (view_array v))
      → cleared width (map (is_valid (view_array v)) (range_with_len from n)) (take (n * width) (drop (from * width) (values_in (view_array v))))
      ≡ flat_map (fixed_value kind) (run_cells (plain_column kind None) run)

pub are_slots : (kind : Kind) (width : ℕ) (v : ArrayView) (from n : ℕ) (run : SlotRun) → run ≡ Slots v from n → fixed_width kind ≡ Some width → is_run_sound (plain_column kind None) run ≡ true
    → AreSlots kind width v from n run
are_slots kind width v from n run is wide sound =
    let a : Array = view_array v in
    let sound_slots : is_run_sound (plain_column kind None) (Slots v from n) ≡ true = rw is at sound in
    let parts = and_parts (is_sound (plain_column kind None) a) (nat_le (from + n) (slots_in a)) sound_slots in
    let within : from + n ≤ slots_in a = leb-true (from + n) (slots_in a) parts.1 in
    let long = enough kind width a wide parts.0 in
    let most : (from + n) * width ≤ slots_in a * width = mul-le-mul_right width within in
    record {
      short = short_validity kind v from n sound_slots;
      long = omega (arith, most, long);
      within = within;
      cells = λ small. rw is (slots_cleared a small kind width wide long from n within);
    }
