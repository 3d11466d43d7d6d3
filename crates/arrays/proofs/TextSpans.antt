-- Slots whose bytes are one text.
use Rattle.std.specs.Prelude.{◌&&◌, not}
use Rattle.std.specs.List.{list_any, range_with_len}
use Rattle.std.specs.Str.{IsAscii, IsCharBoundary, IsUtf8, is_utf8}
use Rattle.std.proofs.Common.{◌≡◌, ℕ, ◌+◌, ◌-◌, ◌≤◌, ◌<◌, true, false, List, [], length, take, drop, inl, inr, ap, subst, ◌∙◌, arith, length-drop}
use Rattle.std.proofs.lemmas.Bool.{cases_lt, and_right, not_from_true}
use Rattle.std.proofs.lemmas.List.{drop-drop, drop-take, length-take-le, take-take}
use Rattle.std.proofs.lemmas.Str.{IsCharBoundary-end, IsCharBoundary-from_ascii, IsUtf8-between, IsUtf8-from_ascii, IsUtf8-nil, is_utf8-from_IsUtf8}
use Rattle.facts.specs.laws.Lists.{none_in_range}
use Rattle.columns.specs.Array.{Array, contents_in, offsets_in, slots_in}
use Rattle.columns.specs.CellAt.{contents_at, is_valid, number_at}
use Rattle.columns.specs.Tests.{are_few_offsets, are_unordered}
use Rattle.columns.specs.laws.Offsets.{offsets_ascend, spans_fit}

-- a part of a part
part_of_part : (xs : List ℕ) (s n d m : ℕ) → d + m ≤ n → take m (drop d (take n (drop s xs))) ≡ take m (drop (s + d) xs)
part_of_part xs s n d m fits =
    let whole : n ≡ d + (n - d) = omega (arith, fits) in
    let same : s + d ≡ d + s = omega arith in
    ap (λ (k : ℕ). take m (drop d (take k (drop s xs)))) whole
    ∙ ap (take m) (drop-take d (n - d) (drop s xs))
    ∙ take-take m (n - d) (drop d (drop s xs)) (omega (arith, fits))
    ∙ ap (take m) (drop-drop d s xs)

module _ (w : ℕ) (a : Array) (few : are_few_offsets w a ≡ false) (up : are_unordered w (length (contents_in a)) a ≡ false) where
  -- a text that is cut where characters begin
  pub each_is_text : (from count : ℕ) (bs : List ℕ) → 0 < count → from + count ≤ slots_in a
      → bs ≡ take (number_at w (offsets_in a) (from + count) - number_at w (offsets_in a) from) (drop (number_at w (offsets_in a) from) (contents_in a)) → IsUtf8 bs
      → ((i : ℕ) → from ≤ i → i < from + count → IsCharBoundary bs (number_at w (offsets_in a) i - number_at w (offsets_in a) from))
      → (i : ℕ) → from ≤ i → i < from + count → is_utf8 (contents_at w a i) ≡ true
  each_is_text from count bs some within is text begins i low high =
      let f : ℕ → ℕ = number_at w (offsets_in a) in
      let filled : 0 < slots_in a = omega arith in
      let before : from + (i - from) ≡ i = omega arith in
      let behind : i + 1 + (from + count - (i + 1)) ≡ from + count = omega arith in
      let first : f from ≤ f i = rw before at (offsets_ascend w (length (contents_in a)) a from (i - from) up filled (omega arith)) in
      let own : f i ≤ f (i + 1) = offsets_ascend w (length (contents_in a)) a i 1 up filled (omega arith) in
      let last : f (i + 1) ≤ f (from + count) = rw behind at (offsets_ascend w (length (contents_in a)) a (i + 1) (from + count - (i + 1)) up filled (omega arith)) in
      let fits = spans_fit w (length (contents_in a)) a from count up filled within in
      let left = length-drop (f from) (contents_in a) in
      let size : length bs ≡ f (from + count) - f from = ap length is ∙ length-take-le (f (from + count) - f from) (drop (f from) (contents_in a)) (omega (arith, fits, left)) in
      let next : IsCharBoundary bs (f (i + 1) - f from) = elim (cases_lt (i + 1) (from + count)) [
        | inl lt ↦ begins (i + 1) (omega arith) lt
        | inr le ↦ let e : from + count ≡ i + 1 = omega arith in
            let end : length bs ≡ f (i + 1) - f from = size ∙ ap (λ (k : ℕ). f k - f from) e in subst (IsCharBoundary bs) end (IsCharBoundary-end bs)
      ] in
      let between = IsUtf8-between bs (f i - f from) (f (i + 1) - f from) text (omega (arith, own)) (begins i low high) next in
      let count_own : (f (i + 1) - f from) - (f i - f from) ≡ f (i + 1) - f i = omega (arith, first, own) in
      let place : f from + (f i - f from) ≡ f i = omega (arith, first) in
      let same : take ((f (i + 1) - f from) - (f i - f from)) (drop (f i - f from) bs) ≡ contents_at w a i =
      ap (λ (k : ℕ). take k (drop (f i - f from) bs)) count_own
      ∙ ap (λ (xs : List ℕ). take (f (i + 1) - f i) (drop (f i - f from) xs)) is
      ∙ part_of_part (contents_in a) (f from) (f (from + count) - f from) (f i - f from) (f (i + 1) - f i) (omega (arith, first, own, last))
      ∙ ap (λ (k : ℕ). take (f (i + 1) - f i) (drop k (contents_in a))) place in
      is_utf8-from_IsUtf8 (contents_at w a i) (subst IsUtf8 same between)

  -- ASCII may be cut anywhere
  pub each_is_ascii : (from count : ℕ) (bs : List ℕ) → 0 < count → from + count ≤ slots_in a
      → bs ≡ take (number_at w (offsets_in a) (from + count) - number_at w (offsets_in a) from) (drop (number_at w (offsets_in a) from) (contents_in a)) → IsAscii bs
      → (i : ℕ) → from ≤ i → i < from + count → is_utf8 (contents_at w a i) ≡ true
  each_is_ascii from count bs some within is ascii =
      let f : ℕ → ℕ = number_at w (offsets_in a) in
      let filled : 0 < slots_in a = omega arith in
      let fits = spans_fit w (length (contents_in a)) a from count up filled within in
      let left = length-drop (f from) (contents_in a) in
      let size : length bs ≡ f (from + count) - f from = ap length is ∙ length-take-le (f (from + count) - f from) (drop (f from) (contents_in a)) (omega (arith, fits, left)) in
      let begins : (k : ℕ) → from ≤ k → k < from + count → IsCharBoundary bs (f k - f from) = λ k low high.
      let behind : k + (from + count - k) ≡ from + count = omega arith in
      let last : f k ≤ f (from + count) = rw behind at (offsets_ascend w (length (contents_in a)) a k (from + count - k) up filled (omega arith)) in
      IsCharBoundary-from_ascii bs (f k - f from) ascii (omega (arith, size, last)) in
      each_is_text from count bs some within is (IsUtf8-from_ascii bs ascii) begins

  -- where all of them have no byte, each is the empty text
  pub each_is_empty : (from count : ℕ) → from + count ≤ slots_in a → number_at w (offsets_in a) (from + count) - number_at w (offsets_in a) from ≡ 0
      → (i : ℕ) → from ≤ i → i < from + count → is_utf8 (contents_at w a i) ≡ true
  each_is_empty from count within none i low high =
      let f : ℕ → ℕ = number_at w (offsets_in a) in
      let filled : 0 < slots_in a = omega arith in
      let before : from + (i - from) ≡ i = omega arith in
      let behind : i + 1 + (from + count - (i + 1)) ≡ from + count = omega arith in
      let first : f from ≤ f i = rw before at (offsets_ascend w (length (contents_in a)) a from (i - from) up filled (omega arith)) in
      let last : f (i + 1) ≤ f (from + count) = rw behind at (offsets_ascend w (length (contents_in a)) a (i + 1) (from + count - (i + 1)) up filled (omega arith)) in
      let size : f (i + 1) - f i ≡ 0 = omega (arith, none, first, last) in
      let empty : contents_at w a i ≡ [] = ap (λ (n : ℕ). take n (drop (f i) (contents_in a))) size in
      rw empty (is_utf8-from_IsUtf8 [] IsUtf8-nil)

pub none_is_other : (w : ℕ) (a : Array) (from count : ℕ) → ((i : ℕ) → from ≤ i → i < from + count → is_utf8 (contents_at w a i) ≡ true)
    → list_any (λ i. is_valid a i && not (is_utf8 (contents_at w a i))) (range_with_len from count) ≡ false
none_is_other w a from count texts = none_in_range (λ i. is_valid a i && not (is_utf8 (contents_at w a i))) from count (λ i low high. and_right (is_valid a i) _ (not_from_true _ (texts i low high)))
