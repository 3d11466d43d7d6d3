-- What the entries of a dictionary weigh that is one array of texts or binaries.
use Rattle.std.proofs.Common.{◌≡◌, ℕ, ◌+◌, ◌<◌, ◌≤◌, Bool, true, false, List, [], ◌∷◌, ◌++◌, Some, length, get_or, ap, sym, arith, ◌∙◌}
use Rattle.std.specs.Prelude.{if◌then◌else◌}
use Rattle.std.specs.List.{list_all}
use Rattle.std.proofs.lemmas.Bool.{and_parts}
use Rattle.std.proofs.lemmas.List.{get_or_append_left}
use Rattle.std.proofs.lemmas.List.FromFn.{length-map-range_with_len, get_or-map-range_with_len}
use Rattle.arrow_schema.specs.Column.{Kind}
use Rattle.cells.specs.Cell.{Cell, null}
use Rattle.cells.specs.Weight.{capped_weight, kind_weight}
use Rattle.columns.specs.Array.{Array, array_list, arrays_of, slots_in}
use Rattle.columns.specs.CellAt.{cells_from, is_valid, kind_cell, span_size, unless_null}
use Rattle.columns.specs.Sound.{is_kind_sound}
use Rattle.columns.specs.Offsets.{contents_width, width_of}
use Rattle.columns.specs.View.{view_array}
use Rattle.arrays.specs.declared.entry_weights.EntryWeights.{EntryWeights}
use Rattle.arrays.specs.declared.entry_weights.EntryWeights.TheVariants.{Sized}
use Rattle.arrays.specs.declared.sized_slots.SizedSlots.{SizedSlots}
use Rattle.arrays.specs.inner.EntryWeights.{content_weights, weights_in}
use Rattle.arrays.specs.inner.Weights.{AreEntryWeights}
use Rattle.arrays.proofs.MaskedWeights.{contents_sound, null_weight, own_weight}

one_case : (w : Cell → ℕ) (cell : Cell) (size : ℕ) (valid : Bool) → w cell ≡ 1 + size → w null ≡ 1 → w (if valid then cell else null) ≡ 1 + (if valid then size else 0)
one_case w cell size true own none = own
one_case w cell size false own none = omega (arith, none)

-- an entry of the one array
pub only_entry : (f : ℕ → Cell) (n i : ℕ) → i < n → get_or (cells_from f 0 n ++ []) i null ≡ f i
only_entry f n i lt =
    let long : length (cells_from f 0 n) ≡ n = length-map-range_with_len f 0 n in
    let e : 0 + i ≡ i = omega arith in
    let left : get_or (cells_from f 0 n ++ []) i null ≡ get_or (cells_from f 0 n) i null = grind (arith, get_or_append_left) in
    left ∙ get_or-map-range_with_len f 0 n i i null lt e

pub only_weights : (kind : Kind) (width : ℕ) (a : Array) → contents_width kind ≡ Some width → is_kind_sound kind a ≡ true → AreEntryWeights kind (arrays_of (a ∷ [])) (content_weights width a)
only_weights kind width a is sound = λ n lt.
    let f : ℕ → ℕ = λ i. capped_weight (1 + (if is_valid a i then span_size width a i else 0)) in
    let long : length (content_weights width a) ≡ slots_in a = length-map-range_with_len f 0 (slots_in a) in
    let within : n < slots_in a = omega (arith, lt, long) in
    let e : 0 + n ≡ n = omega arith in
    let own : kind_weight kind (unless_null (kind_cell kind) a n) ≡ 1 + (if is_valid a n then span_size width a n else 0) =
    one_case (kind_weight kind) (kind_cell kind a n) (span_size width a n) (is_valid a n) (own_weight kind width a n is (contents_sound kind width a is sound).1 within) (null_weight kind width is) in
    get_or-map-range_with_len f 0 (slots_in a) n n 0 within e
    ∙ ap capped_weight (sym own)
    ∙ ap (λ (c : Cell). capped_weight (kind_weight kind c)) (sym (only_entry (unless_null (kind_cell kind) a) (slots_in a) n within))

-- the one array of a dictionary whose arrays are sound
pub only_sound : (kind : Kind) (a : Array) → list_all (is_kind_sound kind) (array_list (arrays_of (a ∷ []))) ≡ true → is_kind_sound kind a ≡ true
only_sound kind a h = (and_parts (is_kind_sound kind a) true h).0

-- the one item of a list
pub only_item : {X : Type 0} (xs : List X) (x : X) → 1 ≤ length xs → length xs < 2 → x ≡ get_or xs 0 x → xs ≡ x ∷ []
only_item [] x some few is = absurd (omega arith)
only_item (y ∷ []) x some few is = ap (λ z. z ∷ []) (sym is)
only_item (y ∷ z ∷ zs) x some few is = absurd (omega arith)

-- ---- the weights that are known

pub sized_count : (known : EntryWeights) (slots : SizedSlots) → known ≡ Sized slots → length (weights_in known) ≡ slots_in (view_array slots.view)
sized_count known slots is =
    let a : Array = view_array slots.view in
    let f : ℕ → ℕ = λ i. capped_weight (1 + (if is_valid a i then span_size (width_of slots.width) a i else 0)) in
    ap (λ (k : EntryWeights). length (weights_in k)) is ∙ length-map-range_with_len f 0 (slots_in a)

pub sized_weight : (known : EntryWeights) (slots : SizedSlots) (n size : ℕ) → known ≡ Sized slots → n < slots_in (view_array slots.view)
    → size ≡ (if is_valid (view_array slots.view) n then span_size (width_of slots.width) (view_array slots.view) n else 0) → capped_weight (1 + size) ≡ get_or (weights_in known) n 0
sized_weight known slots n size is lt size_is =
    let a : Array = view_array slots.view in
    let f : ℕ → ℕ = λ i. capped_weight (1 + (if is_valid a i then span_size (width_of slots.width) a i else 0)) in
    let e : 0 + n ≡ n = omega arith in
    ap (λ (m : ℕ). capped_weight (1 + m)) size_is
    ∙ sym (get_or-map-range_with_len f 0 (slots_in a) n n 0 lt e)
    ∙ ap (λ (k : EntryWeights). get_or (weights_in k) n 0) (sym is)
