-- Fields of ASCII, where they are in a text.
use Rattle.std.specs.Prelude.{bit_or, not, get_or, slice_index}
use Rattle.std.specs.List.{list_all}
use Rattle.std.specs.Str.{is_utf8}
use Rattle.std.proofs.Common.{◌≡◌, ℕ, zero, suc, ◌+◌, ◌-◌, ◌≤◌, ◌<◌, true, List, [], ◌∷◌, length, take, drop, arith, ap}
use Rattle.std.proofs.lemmas.Bool.{and_parts, lt-ltb, ltb-true}
use Rattle.std.proofs.lemmas.Nat.{le_or_l, le_or_r}
use Rattle.std.proofs.lemmas.Str.{IsUtf8-from_ascii, is_utf8-from_IsUtf8}
use Rattle.text_columns.specs.inner.Plain.{IsScanned, IsTextAt, below_128, ends_field}
use Rattle.text_columns.proofs.PlainText.{one_between}

pub none_scanned : (text : List ℕ) (from : ℕ) → IsScanned text from from 0
none_scanned text from =
    let none : from - from ≡ 0 = omega arith in
    record {
      plain = ap (λ (n : ℕ). list_all (λ b. not (ends_field b)) (take n (drop from text))) none;
      ascii = λ low. ap (λ (n : ℕ). list_all below_128 (take n (drop from text))) none;
    }

pub one_scanned : (text : List ℕ) (from i bits : ℕ) → from ≤ i → i < length text → not (ends_field (slice_index text i)) ≡ true → IsScanned text from i bits → IsScanned text from (i + 1) (bit_or bits (slice_index text i))
one_scanned text from i bits le lt inside h = record {
  plain = one_between (λ b. not (ends_field b)) text from i le lt inside h.plain;
  ascii = λ low.
      let before : bits < 128 = omega (arith, le_or_l bits (slice_index text i)) in
      let byte : slice_index text i < 128 = omega (arith, le_or_r bits (slice_index text i)) in
      one_between below_128 text from i le lt (lt-ltb (slice_index text i) 128 byte) (h.ascii before);
}

is_ascii_at : (bs : List ℕ) (i : ℕ) → list_all below_128 bs ≡ true → get_or bs i 0 < 128
is_ascii_at [] i h = omega arith
is_ascii_at (b ∷ bs) zero h = let p = and_parts (below_128 b) (list_all below_128 bs) h in ltb-true b 128 p.0
is_ascii_at (b ∷ bs) (suc i) h = let p = and_parts (below_128 b) (list_all below_128 bs) h in is_ascii_at bs i p.1

ascii_utf8 : (bs : List ℕ) → list_all below_128 bs ≡ true → is_utf8 bs ≡ true
ascii_utf8 bs h = is_utf8-from_IsUtf8 bs (IsUtf8-from_ascii bs (λ i. is_ascii_at bs i h))

-- where the field ends
pub text_scanned : (text : List ℕ) (from end bits : ℕ) → IsScanned text from end bits → from ≤ end → end ≤ length text → (end < length text → ends_field (slice_index text end) ≡ true)
    → IsTextAt text from (record { end = end; bits = bits })
text_scanned text from end bits h low high stops = record {
  field = record { low = low; high = high; plain = h.plain; stops = stops };
  ascii = λ few. ascii_utf8 (take (end - from) (drop from text)) (h.ascii few);
}
