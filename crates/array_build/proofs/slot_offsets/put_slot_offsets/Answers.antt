use Rattle.std.proofs.Common.{◌≡◌, ◌≤◌, ◌+◌, ◌-◌, ◌*◌, ◌++◌, ◌∙◌, ℕ, List, append-nil, length, arith, ap, ap₂, drop, sym, take}
use Rattle.std.proofs.lemmas.List.{append_assoc, take_all}
use Rattle.byteorder.specs.Endian.{little_bytes}
use Rattle.byteorder.specs.Numbers.{length-bytes_low_first}
use Rattle.array_build.proofs.RunContents.{offsets_with, slot_offset}
use Rattle.array_build.proofs.SlotOffsets.{ascend, one_put, one_room}
use Rattle.array_build.proofs.slot_offsets.put_slot_offsets.Goals as goal
use Rattle.array_build.specs.inner.Runs.{slot_sizes, span_of}
use Rattle.columns.specs.Array.{Array, offsets_in}
use Rattle.columns.specs.CellAt.{number_at, span_size}
use Rattle.columns.specs.Offsets.{width_of}
use Rattle.columns.specs.View.{view_array}

pub loop-i-init : goal.loop-i-init
loop-i-init c =
    let a : Array = view_array c.args.array in
    let w : ℕ = width_of c.args.width in
    let from : ℕ = c.args.from in
    let none : from - from ≡ 0 = omega arith in
    let zero : w * (from - from) ≡ 0 = omega (arith, ap (λ (n : ℕ). w * n) none) in
    let same : from + (from - from) ≡ from = omega arith in
    let span : c.args.start + span_of w a from (from - from) ≡ c.args.start = omega (arith, ap (number_at w (offsets_in a)) same) in
    let left : from + c.args.len - from ≡ c.args.len = omega arith in
    record {
      low = omega arith;
      high = omega arith;
      offsets = λ front rest.
          ap (λ (n : ℕ). offsets_with w (front ++ take n c.args.room.now) (c.args.start + span_of w a from (from - from)) (slot_sizes w a from (from + c.args.len - from)) rest) zero
          ∙ ap₂ (λ (xs : List ℕ) (n : ℕ). offsets_with w xs n (slot_sizes w a from (from + c.args.len - from)) rest) (append-nil front) span
          ∙ ap (λ (n : ℕ). offsets_with w front c.args.start (slot_sizes w a from n) rest) left;
    }

pub overflow_sub-offset : goal.overflow_sub-offset
overflow_sub-offset c =
    let a : Array = view_array c.args.array in
    let w : ℕ = width_of c.args.width in
    let rises = ascend w c.requires.ordered.0 a c.args.from c.loop-i.i c.requires.ordered.1 c.loop-i.invariant.low (omega (arith, c.requires.within, c.loop-i-test.true)) (omega (arith, c.requires.within, c.requires.some)) in
    let first = c.offset_at-first.ensures ∙ ap (λ (bytes : List ℕ). number_at w bytes c.args.from) c.offsets-source.ensures in
    let own = c.offset_at.ensures ∙ ap (λ (bytes : List ℕ). number_at w bytes c.loop-i.i) c.offsets-source.ensures in
    omega (arith, rises, first, own)

pub overflow_add-offset : goal.overflow_add-offset
overflow_add-offset c =
    let a : Array = view_array c.args.array in
    let w : ℕ = width_of c.args.width in
    let rises = ascend w c.requires.ordered.0 a c.loop-i.i (c.args.from + c.args.len) c.requires.ordered.1 (omega (arith, c.loop-i-test.true)) c.requires.within (omega (arith, c.requires.within, c.requires.some)) in
    let first = c.offset_at-first.ensures ∙ ap (λ (bytes : List ℕ). number_at w bytes c.args.from) c.offsets-source.ensures in
    let own = c.offset_at.ensures ∙ ap (λ (bytes : List ℕ). number_at w bytes c.loop-i.i) c.offsets-source.ensures in
    let fits = c.requires.fits in
    omega (arith, rises, first, own, fits)

pub overflow_sub-result : goal.overflow_sub-result
overflow_sub-result c =
    let a : Array = view_array c.args.array in
    let w : ℕ = width_of c.args.width in
    let rises = ascend w c.requires.ordered.0 a c.args.from (c.args.from + c.args.len) c.requires.ordered.1 (omega arith) c.requires.within (omega (arith, c.requires.within, c.requires.some)) in
    let first = c.offset_at-first.ensures ∙ ap (λ (bytes : List ℕ). number_at w bytes c.args.from) c.offsets-source.ensures in
    let last = c.offset_at-2.ensures ∙ ap (λ (bytes : List ℕ). number_at w bytes (c.args.from + c.args.len)) c.offsets-source.ensures in
    omega (arith, rises, first, last)

pub loop-i-preserved : goal.loop-i-preserved
loop-i-preserved c =
    let a : Array = view_array c.args.array in
    let w : ℕ = width_of c.args.width in
    let f : ℕ → ℕ = number_at w (offsets_in a) in
    let from : ℕ = c.args.from in
    let to : ℕ = from + c.args.len in
    let i : ℕ = c.loop-i.i in
    let room : List ℕ = c.loop-i.room in
    let front_written : List ℕ = take (w * (i - from)) room in
    let low = c.loop-i.invariant.low in
    let here : from + (i - from) ≡ i = omega (arith, low) in
    let after : from + (i + 1 - from) ≡ i + 1 = omega (arith, low) in
    let more : i + 1 - from ≡ i - from + 1 = omega (arith, low) in
    let rises : f from ≤ f i = ascend w c.requires.ordered.0 a from i c.requires.ordered.1 low (omega (arith, c.requires.within, c.loop-i-test.true)) (omega (arith, c.requires.within, c.requires.some)) in
    let steps : f i ≤ f (i + 1) = ascend w c.requires.ordered.0 a i (i + 1) c.requires.ordered.1 (omega arith) (omega (arith, c.requires.within, c.loop-i-test.true)) (omega (arith, c.requires.within, c.requires.some)) in
    let span : span_of w a from (i - from) ≡ f i - f from = ap (λ (n : ℕ). f n - f from) here in
    let span_after : span_of w a from (i + 1 - from) ≡ f (i + 1) - f from = ap (λ (n : ℕ). f n - f from) after in
    let first = c.offset_at-first.ensures ∙ ap (λ (bytes : List ℕ). number_at w bytes from) c.offsets-source.ensures in
    let own = c.offset_at.ensures ∙ ap (λ (bytes : List ℕ). number_at w bytes i) c.offsets-source.ensures in
    let value : c.args.start + (c.offset_at.result - c.offset_at-first.result) ≡ c.args.start + span_of w a from (i - from) = omega (arith, first, own, span) in
    let inside : w * (i - from) ≤ length room = omega (arith, one_room w (i - from) c.args.len room (omega (arith, low, c.loop-i-test.true)) (c.loop-i.auto.room ∙ c.requires.room)) in
    let put = c.put_offset.ensures ∙ ap (λ (n : ℕ). front_written ++ (little_bytes w n ++ drop (w * (i - from) + w) room)) value in
    let written = one_put w (i - from) (i + 1 - from) room (little_bytes w (c.args.start + span_of w a from (i - from))) (drop (w * (i - from) + w) room) c.put_offset.new.offsets inside
    (length-bytes_low_first 0 w (c.args.start + span_of w a from (i - from))) more put in
    let next : c.args.start + span_of w a from (i + 1 - from) ≡ c.args.start + span_of w a from (i - from) + span_size w a i = omega (arith, rises, steps, span, span_after) in
    record {
      low = omega (arith, low);
      high = omega (arith, c.loop-i-test.true);
      offsets = λ front rest.
          ap₂ (λ (xs : List ℕ) (n : ℕ). offsets_with w (front ++ xs) n (slot_sizes w a (i + 1) (to - (i + 1))) rest) written next
          ∙ ap (λ (xs : List ℕ). offsets_with w xs (c.args.start + span_of w a from (i - from) + span_size w a i) (slot_sizes w a (i + 1) (to - (i + 1))) rest)
          (sym (append_assoc front front_written (little_bytes w (c.args.start + span_of w a from (i - from)))))
          ∙ slot_offset w a (front ++ front_written) (c.args.start + span_of w a from (i - from)) i to rest c.loop-i-test.true
          ∙ c.loop-i.invariant.offsets front rest;
    }

pub returns-clause-offsets : goal.returns-clause-offsets
returns-clause-offsets c = λ front rest.
    let a : Array = view_array c.args.array in
    let w : ℕ = width_of c.args.width in
    let f : ℕ → ℕ = number_at w (offsets_in a) in
    let from : ℕ = c.args.from in
    let len : ℕ = c.args.len in
    let i : ℕ = c.loop-i.i in
    let room : List ℕ = c.loop-i.room in
    let end : i ≡ from + len = omega (arith, c.loop-i.invariant.high, c.loop-i-test.false) in
    let count : i - from ≡ len = omega (arith, end) in
    let left : from + len - i ≡ 0 = omega (arith, end) in
    let first = c.offset_at-first.ensures ∙ ap (λ (bytes : List ℕ). number_at w bytes from) c.offsets-source.ensures in
    let last = c.offset_at-2.ensures ∙ ap (λ (bytes : List ℕ). number_at w bytes (from + len)) c.offsets-source.ensures in
    let span : span_of w a from (i - from) ≡ f (from + len) - f from = ap (λ (n : ℕ). f (from + n) - f from) count in
    let value : c.args.start + (c.offset_at-2.result - c.offset_at-first.result) ≡ c.args.start + span_of w a from (i - from) = omega (arith, first, last, span) in
    let whole : length room ≤ w * (i - from) = omega (arith, ap (λ (n : ℕ). w * n) count, c.loop-i.auto.room, c.requires.room) in
    ap₂ (λ (xs : List ℕ) (n : ℕ). offsets_with w (front ++ xs) n (slot_sizes w a i 0) rest) (sym (take_all (w * (i - from)) room whole)) value
    ∙ ap (λ (n : ℕ). offsets_with w (front ++ take (w * (i - from)) room) (c.args.start + span_of w a from (i - from)) (slot_sizes w a i n) rest) (sym left)
    ∙ c.loop-i.invariant.offsets front rest

pub returns-clause-next : goal.returns-clause-next
returns-clause-next c =
    let a : Array = view_array c.args.array in
    let w : ℕ = width_of c.args.width in
    let first = c.offset_at-first.ensures ∙ ap (λ (bytes : List ℕ). number_at w bytes c.args.from) c.offsets-source.ensures in
    let last = c.offset_at-2.ensures ∙ ap (λ (bytes : List ℕ). number_at w bytes (c.args.from + c.args.len)) c.offsets-source.ensures in
    omega (arith, first, last)
