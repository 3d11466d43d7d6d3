-- Indices of codes, and which slots have one, as they are written over what is in the room for them.
use Rattle.std.specs.Prelude.{Option, None, get_or, is_some, set}
use Rattle.std.specs.List.{flat_map}
use Rattle.std.proofs.Common.{◌≡◌, ◌≤◌, ◌<◌, ◌+◌, ◌*◌, ◌-◌, ◌++◌, ◌∙◌, ℕ, zero, suc, Bool, true, false, List, [], ◌∷◌, arith, ap, ap₂, drop, length, length-append, length-drop, refl, replicate, sym, take}
use Rattle.std.proofs.lemmas.Grind.{flat_map-append}
use Rattle.std.proofs.lemmas.List.{append_assoc, append-nil, get_or-set_other, length-take-le, map-append, set-get_or, take_all, take_at, take_more_set}
use Rattle.byteorder.specs.Numbers.{length-bytes_low_first}
use Rattle.dictionary_codes.proofs.Codes.{all_coded, begun, one_coded, some_coded, nulls_coded}
use Rattle.dictionary_codes.specs.laws.Repeated.{repeated_each, repeated_map}
use Rattle.dictionary_codes.specs.inner.Codes.{AreSetFrom, IsPartWritten, IsPut, IsWritten, code_in, sized_code}
use Rattle.cells.specs.Cell.{Cell, null}
use Rattle.cells.specs.Dictionary.{with_entry}
use Rattle.columns.specs.Built.{place_or_zero}
use borrow.Rule.Slice.PartMut.{mid_of}
use Rattle.facts.specs.laws.Numbers.{zero_bytes}

-- ---- slot by slot, in room for all

pub none_written : (size : ℕ) (start all : List Cell) (indices : List ℕ) (valid : List Bool) (done : ℕ) → done ≡ 0 → IsPartWritten size start all start all indices valid done
none_written size start all indices valid done none =
    let zero : size * done ≡ 0 = omega (arith, ap (λ (n : ℕ). size * n) none) in
    record { codes = []; coded = begun start all; indices = rw zero refl; valid = rw none refl }

-- the bytes of one more
next_bytes : (size done : ℕ) (codes : List (Option ℕ)) (k : Option ℕ) (old rest : List ℕ) → size * done ≤ length old → take (size * done) old ≡ flat_map (sized_code size) codes
    → take (size * (done + 1)) (take (size * done) old ++ (sized_code size k ++ rest)) ≡ flat_map (sized_code size) (codes ++ k ∷ [])
next_bytes size done codes k old rest room before =
    let front : List ℕ = take (size * done) old in
    let bytes : List ℕ = sized_code size k in
    let e : size * (done + 1) ≡ size * done + size = omega arith in
    let lf : length front ≡ size * done = length-take-le (size * done) old room in
    let len : length bytes ≡ size = length-bytes_low_first 0 size (place_or_zero k) in
    let whole : front ++ (bytes ++ rest) ≡ (front ++ bytes) ++ rest = sym (append_assoc front bytes rest) in
    let lw : length (front ++ bytes) ≡ size * done + size = length-append front bytes ∙ rw (lf, len) refl in
    rw (e, whole, take_at (front ++ bytes) rest (size * done + size) lw, before, flat_map-append, append-nil) refl

pub one_written : (size : ℕ) (start all es : List Cell) (c : Cell) (left es' : List Cell) (old new rest : List ℕ) (valid valid' : List Bool) (done done' : ℕ) (k : Option ℕ)
    → IsPartWritten size start all es (c ∷ left) old valid done → es' ≡ with_entry es c → k ≡ code_in es' c → size * done ≤ length old → done < length valid → done' ≡ done + 1
    → new ≡ take (size * done) old ++ (sized_code size k ++ rest) → valid' ≡ set valid done (is_some k) → IsPartWritten size start all es' left new valid' done'
one_written size start all es c left es' old new rest valid valid' done done' k h added code room within next bytes bits = record {
  codes = h.codes ++ k ∷ [];
  coded = one_coded start all es h.codes c left es' k h.coded added code;
  indices = ap (λ (n : ℕ). take (size * n) new) next ∙ ap (take (size * (done + 1))) bytes ∙ next_bytes size done h.codes k old rest room h.indices;
  valid =
      ap (λ (n : ℕ). take n valid') next ∙ ap (take (done + 1)) bits ∙ take_more_set valid done (is_some k) within ∙ ap (λ (bs : List Bool). bs ++ is_some k ∷ []) h.valid
      ∙ sym (map-append is_some h.codes (k ∷ []));
}

-- to set a bit that is set changes nothing
pub set_already : (bits : List Bool) (n : ℕ) → get_or bits n true ≡ true → bits ≡ set bits n true
set_already bits n is = sym (ap (set bits n) (sym is) ∙ set-get_or bits n true)

-- those after one stay set
pub later_set : (bits : List Bool) (done next : ℕ) (b : Bool) → AreSetFrom done bits → next ≡ done + 1 → AreSetFrom next (set bits done b)
later_set bits done next b h one = λ n le. get_or-set_other bits done n b true (λ e. omega (arith, le, one, e)) ∙ h n (omega (arith, le, one))

pub all_set : (count n : ℕ) → get_or (replicate count true) n true ≡ true
all_set zero n = refl
all_set (suc count) zero = refl
all_set (suc count) (suc n) = all_set count n

-- what is put for a code is put for the cell that has it
pub put_is : (size place : ℕ) (es : List Cell) (c : Cell) (old new : List ℕ) (valid valid' : List Bool) (k : Option ℕ) → k ≡ code_in es c
    → new ≡ take (size * place) old ++ (sized_code size k ++ drop (size * place + size) old) → valid' ≡ set valid place (is_some k) → IsPut size place es c old new valid valid'
put_is size place es c old new valid valid' k code bytes bits = record {
  index = bytes ∙ ap (λ (j : Option ℕ). take (size * place) old ++ (sized_code size j ++ drop (size * place + size) old)) code;
  valid = bits ∙ ap (λ (j : Option ℕ). set valid place (is_some j)) code;
}

pub all_written : (size : ℕ) (start all es : List Cell) (indices : List ℕ) (valid : List Bool) (done : ℕ) → IsPartWritten size start all es [] indices valid done
    → length indices ≤ size * done → length valid ≤ done → IsWritten size start es indices valid all
all_written size start all es indices valid done h room places = record {
  codes = h.codes;
  coded = all_coded start all es h.codes h.coded;
  indices = sym (take_all (size * done) indices room) ∙ h.indices;
  valid = sym (take_all done valid places) ∙ h.valid;
}

-- ---- run by run

-- a part has as many items as there are between its ends
pub part_size : {X : Type 0} (from to : ℕ) (old part : List X) → length part ≡ length (mid_of from (to - from) old) → from ≤ to → to ≤ length old → length part ≡ to - from
part_size from to old part same order within = same ∙ length-take-le (to - from) (drop from old) (omega (arith, length-drop from old))

pub some_written : (size : ℕ) (start all es cs left es' : List Cell) (old new part rest : List ℕ) (valid valid' bits others : List Bool) (done count done' : ℕ)
    → IsPartWritten size start all es (cs ++ left) old valid done → IsWritten size es es' part bits cs → size * done ≤ length old → done ≤ length valid → length part ≡ size * count
    → length bits ≡ count → done' ≡ done + count → new ≡ take (size * done) old ++ (part ++ rest) → valid' ≡ take done valid ++ (bits ++ others)
    → IsPartWritten size start all es' left new valid' done'
some_written size start all es cs left es' old new part rest valid valid' bits others done count done' h more room places long many next bytes flags =
    let front : List ℕ = take (size * done) old in
    let before : List Bool = take done valid in
    let lf : length front ≡ size * done = length-take-le (size * done) old room in
    let lb : length before ≡ done = length-take-le done valid places in
    let lw : length (front ++ part) ≡ size * done' = length-append front part ∙ rw (lf, long, next) (omega arith) in
    let lv : length (before ++ bits) ≡ done' = length-append before bits ∙ rw (lb, many, next) refl in
    record {
      codes = h.codes ++ more.codes;
      coded = some_coded start all es h.codes cs left es' more.codes h.coded more.coded;
      indices =
          ap (take (size * done')) (bytes ∙ sym (append_assoc front part rest)) ∙ take_at (front ++ part) rest (size * done') lw
          ∙ ap₂ (λ (xs ys : List ℕ). xs ++ ys) h.indices more.indices ∙ sym (flat_map-append (sized_code size) h.codes more.codes);
      valid =
          ap (take done') (flags ∙ sym (append_assoc before bits others)) ∙ take_at (before ++ bits) others done' lv
          ∙ ap₂ (λ (xs ys : List Bool). xs ++ ys) h.valid more.valid ∙ sym (map-append is_some h.codes more.codes);
    }

-- nulls have zeros for indices
pub nulls_written : (size : ℕ) (es : List Cell) (n : ℕ) (bytes : List ℕ) (bits : List Bool) → bytes ≡ replicate (n * size) 0 → bits ≡ replicate n false
    → IsWritten size es es bytes bits (replicate n null)
nulls_written size es n bytes bits zeros unset = record {
  codes = replicate n None;
  coded = nulls_coded es n;
  indices = zeros ∙ sym (repeated_each (sized_code size) size None 0 n (zero_bytes 0 size));
  valid = unset ∙ sym (repeated_map is_some n None);
}
