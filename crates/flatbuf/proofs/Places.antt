-- Where parts of a list stand.
use Rattle.std.proofs.Common.{◌≡◌, ℕ, ◌+◌, ◌<◌, ◌≤◌, ◌^◌, List, ◌++◌, length, take, drop, refl, sym, ap, ◌∙◌, append_assoc, arith, length-append}
use Rattle.std.proofs.lemmas.List.{take_at, drop_at}
use Rattle.byteorder.specs.Endian.{little_bytes}
use Rattle.byteorder.specs.Numbers.{little_number-reads_back, length-bytes_low_first}
use Rattle.flatbuf.specs.Lookup.{number}
use Rattle.flatbuf.specs.Stands.{At}

pub At-left : (bytes : List ℕ) (at : ℕ) (xs ys : List ℕ) → At bytes at (xs ++ ys) → At bytes at xs
At-left bytes at xs ys h = record {
  front = h.front;
  rest = ys ++ h.rest;
  whole = h.whole ∙ ap (λ (t : List ℕ). h.front ++ t) (append_assoc xs ys h.rest);
  here = h.here;
}

pub At-right : (bytes : List ℕ) (at : ℕ) (xs ys : List ℕ) → At bytes at (xs ++ ys) → At bytes (at + length xs) ys
At-right bytes at xs ys h = record {
  front = h.front ++ xs;
  rest = h.rest;
  whole = h.whole ∙ ap (λ (t : List ℕ). h.front ++ t) (append_assoc xs ys h.rest) ∙ sym (append_assoc h.front xs (ys ++ h.rest));
  here = length-append h.front xs ∙ ap (λ n. n + length xs) h.here;
}

pub At-drop : (bytes : List ℕ) (at : ℕ) (xs : List ℕ) (h : At bytes at xs) → drop at bytes ≡ xs ++ h.rest
At-drop bytes at xs h = ap (λ (t : List ℕ). drop at t) h.whole ∙ drop_at h.front (xs ++ h.rest) at h.here

pub At-take : (bytes : List ℕ) (at : ℕ) (xs : List ℕ) → At bytes at xs → take (length xs) (drop at bytes) ≡ xs
At-take bytes at xs h = ap (λ (t : List ℕ). take (length xs) t) (At-drop bytes at xs h) ∙ take_at xs h.rest (length xs) refl

pub At-within : (bytes : List ℕ) (at : ℕ) (xs : List ℕ) → At bytes at xs → at + length xs ≤ length bytes
At-within bytes at xs h =
    omega (arith, h.here, ap length h.whole, length-append h.front (xs ++ h.rest), length-append xs h.rest)

pub At-number : (bytes : List ℕ) (at n x : ℕ) → x < 256 ^ n → At bytes at (little_bytes n x) → number n bytes at ≡ x
unfolding number
At-number bytes at n x lt h = rw (At-drop bytes at (little_bytes n x) h) (little_number-reads_back n x h.rest lt)

-- a number, and what follows it
pub At-field : (bytes : List ℕ) (at n x : ℕ) (ys : List ℕ) → x < 256 ^ n → At bytes at (little_bytes n x ++ ys) → (number n bytes at ≡ x) × At bytes (at + n) ys
At-field bytes at n x ys lt h =
    let after : At bytes (at + n) ys = rw (length-bytes_low_first 0 n x) at (At-right bytes at (little_bytes n x) ys h) in
    (At-number bytes at n x lt (At-left bytes at (little_bytes n x) ys h), after)
