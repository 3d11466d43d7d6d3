-- Which slots of runs are valid.
use Rattle.std.specs.Prelude.{not, ◌==◌, replicate}
use Rattle.std.specs.List.{list_all, range_with_len}
use Rattle.std.proofs.Common.{◌≡◌, ℕ, zero, suc, ◌+◌, ◌≤◌, ◌<◌, Bool, true, false, List, ◌∷◌, map, length, inl, inr, refl, ap, ap₂, sym, ◌∙◌, arith}
use Rattle.std.proofs.lemmas.Bool.{cases_lt, eq-eqb, ne_eqb, and_right}
use Rattle.bitmap.specs.Bits.{bit}
use Rattle.columns.specs.Array.{Array, validity_in}
use Rattle.columns.specs.CellAt.{is_valid}

-- ---- tests of some numbers in a row

pub all_in_row : (p : ℕ → Bool) (from n : ℕ) → ((i : ℕ) → from ≤ i → i < from + n → p i ≡ true) → list_all p (range_with_len from n) ≡ true
all_in_row p from zero h = refl
all_in_row p from (suc n) h =
    let first : p from ≡ true = h from (omega arith) (omega arith) in
    rw first (all_in_row p (from + 1) n (λ i low high. h i (omega arith) (omega arith)))

pub one_fails : (p : ℕ → Bool) (from n i : ℕ) → from ≤ i → i < from + n → p i ≡ false → list_all p (range_with_len from n) ≡ false
one_fails p from zero i low high h = absurd (omega arith)
one_fails p from (suc n) i low high h = elim (cases_lt from i) [
  | inl lt ↦ and_right (p from) (list_all p (range_with_len (from + 1) n)) (one_fails p (from + 1) n i (omega arith) (omega arith) h)
  | inr le ↦
      let here : from ≡ i = omega arith in
      let first : p from ≡ false = ap p here ∙ h in
      rw first refl
]

-- ---- without a validity bitmap, and with one

no_bitmap : (a : Array) (i : ℕ) → length (validity_in a) ≡ 0 → is_valid a i ≡ true
no_bitmap a i none = rw none refl

pub bit_tells : (a : Array) (i : ℕ) → (length (validity_in a) ≡ 0 → ⊥) → is_valid a i ≡ bit (validity_in a) i
bit_tells a i some = let e : (length (validity_in a) == 0) ≡ false = ne_eqb _ _ some in rw e refl

-- the end of a run of set bits tells whether all are
pub run_tells : (a : Array) (from n stop : ℕ) → (length (validity_in a) ≡ 0 → ⊥) → bit (validity_in a) from ≡ true → from < stop → stop ≤ from + n
    → ((i : ℕ) → from ≤ i → i < stop → bit (validity_in a) i ≡ bit (validity_in a) from) → (stop < from + n → bit (validity_in a) stop ≡ not (bit (validity_in a) from))
    → (stop == from + n) ≡ list_all (is_valid a) (range_with_len from n)
run_tells a from n stop some set low high alike longest = elim (cases_lt stop (from + n)) [
  | inl lt ↦
      let unset : bit (validity_in a) stop ≡ false = longest lt ∙ ap not set in
      ne_eqb stop (from + n) (λ e. omega arith) ∙ sym (one_fails (is_valid a) from n stop (omega arith) lt (bit_tells a stop some ∙ unset))
  | inr le ↦
      let end : stop ≡ from + n = omega arith in
      eq-eqb stop (from + n) end ∙ sym (all_in_row (is_valid a) from n (λ i after before. bit_tells a i some ∙ alike i after (omega arith) ∙ set))
]

pub all_without : (a : Array) (from n : ℕ) → length (validity_in a) ≡ 0 → list_all (is_valid a) (range_with_len from n) ≡ true
all_without a from n none = all_in_row (is_valid a) from n (λ i low high. no_bitmap a i none)

pub bits_without : (a : Array) (from n : ℕ) → length (validity_in a) ≡ 0 → map (is_valid a) (range_with_len from n) ≡ replicate n true
bits_without a from zero none = refl
bits_without a from (suc n) none = ap₂ (λ (b : Bool) (bs : List Bool). b ∷ bs) (no_bitmap a from none) (bits_without a (from + 1) n none)

pub bits_with : (a : Array) (from n : ℕ) → (length (validity_in a) ≡ 0 → ⊥) → map (bit (validity_in a)) (range_with_len from n) ≡ map (is_valid a) (range_with_len from n)
bits_with a from zero some = refl
bits_with a from (suc n) some = ap₂ (λ (b : Bool) (bs : List Bool). b ∷ bs) (sym (bit_tells a from some)) (bits_with a (from + 1) n some)
