use Rattle.std.specs.Prelude.{if◌then◌else◌}
use Rattle.std.proofs.Common.{◌≡◌, ◌<◌, ◌≤◌, ◌+◌, ◌-◌, ◌*◌, ◌++◌, ◌∙◌, ℕ, List, [], append-nil, length, arith, ap, ap₂, drop, sym, take}
use Rattle.std.proofs.Math.Nat.{mul-le-mul_left}
use Rattle.std.proofs.lemmas.List.{append_assoc, take_all}
use Rattle.byteorder.specs.Endian.{little_bytes}
use Rattle.byteorder.specs.Numbers.{length-bytes_low_first}
use Rattle.array_build.proofs.SlotOffsets.{ascend, one_put, one_room}
use Rattle.array_build.proofs.MaskedContents.{next_offset, next_total}
use Rattle.array_build.proofs.RunContents.{offset_room, offsets_with}
use Rattle.array_build.proofs.slot_offsets.put_masked_slot_offsets.Goals as goal
use Rattle.dictionary_codes.specs.Masks.{mask_bits}
use Rattle.array_build.specs.inner.MaskedContents.{masked_sizes, total}
use Rattle.bitmap.specs.Bits.{bit}
use Rattle.columns.specs.Array.{Array, slots_in}
use Rattle.columns.specs.CellAt.{number_at, span_size}
use Rattle.columns.specs.Offsets.{width_of}
use Rattle.columns.specs.View.{view_array}

pub loop-i-init : goal.loop-i-init
loop-i-init c =
    let a : Array = view_array c.args.array in
    let w : ℕ = width_of c.args.width in
    let bits = mask_bits c.args.mask.now c.args.at (c.args.to - c.args.at) in
    let none : c.args.at - c.args.at ≡ 0 = omega arith in
    let zero : w * (c.args.at - c.args.at) ≡ 0 = omega (arith, ap (λ (n : ℕ). w * n) none) in
    let first : c.args.from + (c.args.at - c.args.at) ≡ c.args.from = omega arith in
    record {
      next = ap (λ (p : ℕ). c.args.start + total (masked_sizes w a p bits)) first;
      offsets = λ front rest.
          ap (λ (n : ℕ). offsets_with w (front ++ take n c.args.room.now) c.args.start (masked_sizes w a (c.args.from + (c.args.at - c.args.at)) bits) rest) zero
          ∙ ap₂ (λ (xs : List ℕ) (p : ℕ). offsets_with w xs c.args.start (masked_sizes w a p bits) rest) (append-nil front) first;
    }

pub masked_size-next-requires-clause-within : goal.masked_size-next-requires-clause-within
masked_size-next-requires-clause-within c =
    let a : Array = view_array c.args.array in
    let p : ℕ = c.args.from + (c.loop-i.i - c.args.at) in
    let lt : p < slots_in a = omega (arith, c.loop-i-test.true, c.loop-i.auto.i, c.requires.within) in
    rw c.offsets-source.ensures (offset_room (width_of c.args.width) a p c.requires.long lt)

pub masked_size-next-requires-clause-ordered : goal.masked_size-next-requires-clause-ordered
masked_size-next-requires-clause-ordered c =
    let a : Array = view_array c.args.array in
    let p : ℕ = c.args.from + (c.loop-i.i - c.args.at) in
    let lt : p < slots_in a = omega (arith, c.loop-i-test.true, c.loop-i.auto.i, c.requires.within) in
    rw c.offsets-source.ensures (ascend (width_of c.args.width) c.requires.ordered.0 a p (p + 1) c.requires.ordered.1 (omega arith) (omega (arith, lt)) (omega (arith, lt)))

pub overflow_add-next : goal.overflow_add-next
overflow_add-next c =
    let a : Array = view_array c.args.array in
    let w : ℕ = width_of c.args.width in
    let p : ℕ = c.args.from + (c.loop-i.i - c.args.at) in
    let size : c.masked_size-next.result ≡ (if bit c.args.mask.now c.loop-i.i then span_size w a p else 0)
    = c.masked_size-next.ensures ∙ ap (λ (bytes : List ℕ). if bit c.args.mask.now c.loop-i.i then number_at w bytes (p + 1) - number_at w bytes p else 0) c.offsets-source.ensures in
    let end = next_total w a c.args.mask.now c.args.from c.args.at c.loop-i.i c.args.to c.loop-i.next _ c.loop-i.auto.i c.loop-i-test.true c.loop-i.invariant.next in
    let fits = c.requires.fits in
    omega (arith, size, end, fits)

pub loop-i-preserved : goal.loop-i-preserved
loop-i-preserved c =
    let a : Array = view_array c.args.array in
    let w : ℕ = width_of c.args.width in
    let i : ℕ = c.loop-i.i in
    let k : ℕ = i - c.args.at in
    let p : ℕ = c.args.from + k in
    let room : List ℕ = c.loop-i.room in
    let written : List ℕ = take (w * k) room in
    let low = c.loop-i.auto.i in
    let more : i + 1 - c.args.at ≡ k + 1 = omega (arith, low) in
    let inside : w * k ≤ length room = omega (arith, one_room w k (c.args.to - c.args.at) room (omega (arith, low, c.loop-i-test.true)) (c.loop-i.auto.room ∙ c.requires.room)) in
    let put = one_put w k (i + 1 - c.args.at) room (little_bytes w c.loop-i.next) (drop (w * k + w) room) c.put_offset.new.offsets inside (length-bytes_low_first 0 w c.loop-i.next) more c.put_offset.ensures in
    let size : c.masked_size-next.result ≡ (if bit c.args.mask.now i then span_size w a p else 0)
    = c.masked_size-next.ensures ∙ ap (λ (bytes : List ℕ). if bit c.args.mask.now i then number_at w bytes (p + 1) - number_at w bytes p else 0) c.offsets-source.ensures in
    let others : List ℕ = masked_sizes w a (c.args.from + (i + 1 - c.args.at)) (mask_bits c.args.mask.now (i + 1) (c.args.to - (i + 1))) in
    record {
      next = ap (λ (n : ℕ). c.loop-i.next + n + total (masked_sizes w a (c.args.from + (i + 1 - c.args.at)) (mask_bits c.args.mask.now (i + 1) (c.args.to - (i + 1))))) size
          ∙ next_total w a c.args.mask.now c.args.from c.args.at i c.args.to c.loop-i.next _ low c.loop-i-test.true c.loop-i.invariant.next;
      offsets = λ front rest.
          ap₂ (λ (xs : List ℕ) (n : ℕ). offsets_with w (front ++ xs) (c.loop-i.next + n) others rest) put size
          ∙ ap (λ (xs : List ℕ). offsets_with w xs (c.loop-i.next + (if bit c.args.mask.now i then span_size w a p else 0)) others rest) (sym (append_assoc front written (little_bytes w c.loop-i.next)))
          ∙ next_offset w a c.args.mask.now (front ++ written) c.args.from c.args.at i c.args.to c.loop-i.next rest low c.loop-i-test.true ∙ c.loop-i.invariant.offsets front rest;
    }

pub returns-clause-offsets : goal.returns-clause-offsets
returns-clause-offsets c = λ front rest.
    let a : Array = view_array c.args.array in
    let w : ℕ = width_of c.args.width in
    let k : ℕ = c.loop-i.i - c.args.at in
    let p : ℕ = c.args.from + k in
    let room : List ℕ = c.loop-i.room in
    let left : c.args.to - c.loop-i.i ≡ 0 = omega (arith, c.loop-i-test.false) in
    let count : c.args.to - c.args.at ≤ k = omega (arith, c.loop-i-test.false) in
    let whole : length room ≤ w * k = omega (arith, mul-le-mul_left w count, c.loop-i.auto.room, c.requires.room) in
    ap (λ (xs : List ℕ). offsets_with w (front ++ xs) c.loop-i.next [] rest) (sym (take_all (w * k) room whole))
    ∙ sym (ap (λ (n : ℕ). offsets_with w (front ++ take (w * k) room) c.loop-i.next (masked_sizes w a p (mask_bits c.args.mask.now c.loop-i.i n)) rest) left)
    ∙ c.loop-i.invariant.offsets front rest

pub returns-clause-next : goal.returns-clause-next
returns-clause-next c =
    let a : Array = view_array c.args.array in
    let w : ℕ = width_of c.args.width in
    let p : ℕ = c.args.from + (c.loop-i.i - c.args.at) in
    let left : c.args.to - c.loop-i.i ≡ 0 = omega (arith, c.loop-i-test.false) in
    let none : total (masked_sizes w a p (mask_bits c.args.mask.now c.loop-i.i (c.args.to - c.loop-i.i))) ≡ 0
    = ap (λ (n : ℕ). total (masked_sizes w a p (mask_bits c.args.mask.now c.loop-i.i n))) left in
    let end = c.loop-i.invariant.next in
    omega (arith, none, end)
