-- The blocks of a message with its padding, and its hash value after some of them.
use Rattle.std.proofs.Common.{◌≡◌, ◌≢◌, ℕ, suc, ◌+◌, ◌-◌, ◌*◌, ◌/◌, ◌%◌, ◌^◌, ◌<◌, ◌≤◌, List, length, take, drop, replicate, slice_index, refl, sym, ap, ◌∙◌, inl, inr, arith, length-append, length-drop}
use Rattle.std.proofs.lemmas.List.{get_or_append_left, get_or-append_right, get_or-replicate, get_or-take, get_or-drop, ext_get_or, length-replicate, length-take-le, take-append-le, drop-append-le}
use Rattle.std.proofs.lemmas.Bool.{cases_eq}
use Rattle.std.specs.Int.{w64, to_be_bytes}
use Rattle.sha2.specs.Sha256.{compress, digest_bytes, hash_after, initial_hash_256, padded_message, padding, sha256}
use Rattle.sha2.proofs.Absorbing256.{hash_after_next}
use Rattle.sha256_lanes.specs.inner.Hashed.{block_count, IsHashed}

-- ---- the length of the padded message

zeros : ℕ → ℕ
zeros n = (119 - n % 64) % 64

length-padding : (n : ℕ) → length (padding n) ≡ 1 + (119 - n % 64) % 64 + 8
length-padding n =
    let field : length (to_be_bytes w64 (n * 8 % 2 ^ 64)) ≡ 8 = refl in
    let rest = length-append (replicate ((119 - n % 64) % 64) 0) (to_be_bytes w64 (n * 8 % 2 ^ 64)) in
    let nought : ℕ = 0 in
    let none = length-replicate ((119 - n % 64) % 64) nought in
    omega (arith, field, rest, none)

pub length-padded : (m : List ℕ) → length (padded_message m) ≡ 64 * ((length m + 8) / 64 + 1)
length-padded m = omega (arith, length-append m (padding (length m)), length-padding (length m))

pub block_count_is : (m : List ℕ) → block_count m ≡ (length m + 8) / 64 + 1
block_count_is m = omega (arith, length-padded m)

-- ---- a byte of the padded message

pub padded_front : (m : List ℕ) (i : ℕ) → i < length m → slice_index (padded_message m) i ≡ slice_index m i
padded_front m i h = get_or_append_left m (padding (length m)) 0 i h

padded_rest : (m : List ℕ) (i k : ℕ) → i ≡ length m + k → slice_index (padded_message m) i ≡ slice_index (padding (length m)) k
padded_rest m i k e =
    let at : i - length m ≡ k = omega arith in
    get_or-append_right m (padding (length m)) (length m) i 0 refl (omega arith) ∙ ap (λ (n : ℕ). slice_index (padding (length m)) n) at

pub padded_one : (m : List ℕ) (i : ℕ) → i ≡ length m → slice_index (padded_message m) i ≡ 0x80
padded_one m i e = padded_rest m i 0 (omega arith)

pub padded_zero : (m : List ℕ) (i : ℕ) → length m < i → i < 64 * ((length m + 8) / 64 + 1) - 8 → slice_index (padded_message m) i ≡ 0
padded_zero m i low high =
    let z : ℕ = (119 - length m % 64) % 64 in
    let k : ℕ = i - length m - 1 in
    let field : List ℕ = to_be_bytes w64 (length m * 8 % 2 ^ 64) in
    let nought : ℕ = 0 in
    let place : i ≡ length m + suc k = omega arith in
    let below : k < z = omega arith in
    padded_rest m i (suc k) place
    ∙ get_or_append_left (replicate z 0) field 0 k (omega (arith, length-replicate z nought, below)) ∙ get_or-replicate z k 0 0 below

pub padded_field : (m : List ℕ) (i k : ℕ) → i ≡ 64 * ((length m + 8) / 64 + 1) - 8 + k
    → slice_index (padded_message m) i ≡ slice_index (to_be_bytes w64 (length m * 8 % 2 ^ 64)) k
padded_field m i k e =
    let z : ℕ = (119 - length m % 64) % 64 in
    let field : List ℕ = to_be_bytes w64 (length m * 8 % 2 ^ 64) in
    let place : i ≡ length m + suc (z + k) = omega arith in
    let at : z + k - z ≡ k = omega arith in
    padded_rest m i (suc (z + k)) place
    ∙ get_or-append_right (replicate z 0) field z (z + k) 0 (length-replicate z 0) (omega arith) ∙ ap (λ (n : ℕ). slice_index field n) at

-- ---- a block of the padded message

pub whole_block : (m : List ℕ) (n : ℕ) → n < length m / 64 → take 64 (drop (n * 64) m) ≡ take 64 (drop (n * 64) (padded_message m))
whole_block m n h =
    let fits : 64 ≤ length (drop (n * 64) m) = omega (arith, length-drop (n * 64) m) in
    sym (rw (drop-append-le (n * 64) m (padding (length m)) (omega arith)) (take-append-le 64 (drop (n * 64) m) (padding (length m)) fits))

pub block_of_bytes : (m b : List ℕ) (n : ℕ) → n < block_count m → length b ≡ 64
    → ((k : ℕ) → k < 64 → slice_index b k ≡ slice_index (padded_message m) (64 * n + k)) → b ≡ take 64 (drop (n * 64) (padded_message m))
block_of_bytes m b n h long same =
    let p : List ℕ = padded_message m in
    let whole = length-padded m in
    let count = block_count_is m in
    let rest : 64 ≤ length (drop (n * 64) p) = omega (arith, length-drop (n * 64) p, whole, count) in
    let taken : length (take 64 (drop (n * 64) p)) ≡ 64 = length-take-le 64 (drop (n * 64) p) rest in
    let place : 64 * n ≡ n * 64 = omega arith in
    ext_get_or 0 b (take 64 (drop (n * 64) p)) (omega (arith, long, taken)) (λ k lt.
    let low : k < 64 = omega (arith, lt, long) in
    same k low ∙ ap (λ (a : ℕ). slice_index p (a + k)) place ∙ sym (get_or-take 64 (drop (n * 64) p) k 0 low ∙ get_or-drop (n * 64) p k 0))

-- ---- the hash value

pub hashed_first : (m h d : List ℕ) → h ≡ initial_hash_256 → IsHashed m h d 0
unfolding hash_after
hashed_first m h d e = (λ low. e, λ none. absurd (omega (arith, none, block_count_is m)))

pub hashed_next : (m h b g d e : List ℕ) (n : ℕ) → IsHashed m h d n → (n < block_count m → b ≡ take 64 (drop (n * 64) (padded_message m))) → g ≡ compress h b
    → (n + 1 ≡ block_count m → e ≡ digest_bytes g 8) → (n + 1 ≢ block_count m → e ≡ d) → IsHashed m g e (n + 1)
unfolding sha256
hashed_next m h b g d e n held block step last others =
    let more : n + 1 ≤ block_count m → g ≡ hash_after initial_hash_256 (padded_message m) (n + 1) =
    λ low. step ∙ rw (held.0 (omega (arith, low)), block (omega (arith, low))) (sym (hash_after_next initial_hash_256 (padded_message m) n)) in (
      more,
      λ high. elim (cases_eq (n + 1) (block_count m)) [
        | inl a ↦ last a ∙ ap (λ (x : List ℕ). digest_bytes x 8) (more (omega (arith, a)) ∙ ap (hash_after initial_hash_256 (padded_message m)) a)
        | inr b ↦ others b ∙ held.1 (omega (arith, b, high))
      ],
    )
