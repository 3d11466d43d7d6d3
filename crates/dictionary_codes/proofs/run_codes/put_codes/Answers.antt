use Rattle.std.specs.List.{list_all}
use Rattle.std.proofs.Common.{◌≡◌, ◌≤◌, ◌+◌, ◌*◌, ◌-◌, ◌++◌, ◌/◌, ◌∙◌, ℕ, List, [], ◌∷◌, ap, arith, drop, length, length-append, refl, subst, sym, take}
use Rattle.std.proofs.Math.Nat.{mul-le-mul_left}
use Rattle.std.proofs.lemmas.Bool.{and_parts}
use Rattle.std.proofs.lemmas.List.{drop_all}
use Rattle.arrow_schema.specs.Column.{Column}
use Rattle.arrow_schema.specs.View.{bits_of, column_of}
use Rattle.dictionary_codes.specs.Named.{named_cells}
use Rattle.dictionary_codes.specs.laws.AllCells.{all_front}
use Rattle.dictionary_codes.proofs.MaskedCodes.{all_behind, cells_behind, run_first}
use Rattle.dictionary_codes.specs.laws.MaskedItems.{alike_kept}
use Rattle.dictionary_codes.specs.laws.MaskedRuns.{mask_long}
use Rattle.dictionary_codes.proofs.Written.{all_written, none_written, part_size, some_written}
use Rattle.dictionary_codes.specs.Masks.{masked, masked_cells, run_bits, runs_bits}
use Rattle.dictionary_codes.specs.inner.MaskParts.{part_bits}
use Rattle.dictionary_codes.proofs.run_codes.put_codes.Goals as goal
use Rattle.dictionary_codes.specs.inner.Codes.{IsPartWritten}
use Rattle.dictionary_codes.specs.CodedCells.{is_coded}
use Rattle.columns.specs.Runs.{are_runs_sound, is_run_sound, run_cells}
use Rattle.columns.specs.declared.slot_runs.SlotRun.{SlotRun}
use Rattle.cells.specs.Cell.{Cell, null}
use Rattle.facts.specs.laws.Lists.{drop-item}
use borrow.Rule.Slice.PartMut.{post_of}

pub loop-run-preserved : goal.loop-run-preserved
loop-run-preserved c =
    let runs : List SlotRun = c.args.runs.now in
    let i : ℕ = c.loop-run.run-index in
    let run : SlotRun = c.run-item.result in
    let col : Column = column_of c.args.field.now in
    let size : ℕ = bits_of c.args.spec.index.width / 8 in
    let w : ℕ = c.bytes-width.result in
    let at : ℕ = c.loop-run.at in
    let n : ℕ = c.run_len.result in
    let mask : List ℕ = c.args.mask.now in
    let cells : List Cell = masked (part_bits mask at (length (run_bits run))) (run_cells col run) in
    let left : List Cell = cells_behind col mask (at + n) (drop (i + 1) runs) in
    let start : List Cell = named_cells c.args.entries.now in
    let all : List Cell = masked_cells col mask runs in
    let before : List Cell = named_cells c.loop-run.entries in
    let after : List Cell = named_cells c.put_run_codes.new.entries in
    let item : drop i runs ≡ run ∷ drop (i + 1) runs = drop-item runs i run c.loop-run-test.true c.run-item.is in
    let split : cells_behind col mask at (drop i runs) ≡ cells ++ left =
    run_first col mask at (drop i runs) (drop (i + 1) runs) run item ∙ ap (λ (k : ℕ). cells ++ cells_behind col mask (at + k) (drop (i + 1) runs)) (sym c.run_len.ensures) in
    let others : ℕ = length (runs_bits (drop (i + 1) runs)) in
    let many : length (runs_bits (drop i runs)) ≡ n + others =
    ap (λ (rs : List SlotRun). length (runs_bits rs)) item ∙ length-append (run_bits run) (runs_bits (drop (i + 1) runs)) ∙ ap (λ (k : ℕ). k + others) (sym c.run_len.ensures) in
    let total : at + n + others ≡ length (runs_bits runs) = omega (arith, c.loop-run.invariant.count, many) in
    let high : at + n ≤ length (runs_bits runs) = omega (arith, total) in
    let value : w ≡ size = c.bytes-width.ensures.value in
    let within : size * (at + n) ≤ length c.loop-run.indices = omega (arith, mul-le-mul_left size high, c.requires.room, c.loop-run.auto.indices) in
    let within_w : w * (at + n) ≤ length c.loop-run.indices = rw value within in
    let spread : w * (at + n) ≡ w * at + w * n = omega arith in
    let room : size * at ≤ length c.loop-run.indices = omega (arith, within) in
    let places : at + n ≤ length c.loop-run.valid = omega (arith, high, c.requires.places, c.loop-run.auto.valid) in
    let long : length c.put_run_codes.new.indices ≡ w * (at + n) - w * at =
    part_size (w * at) (w * (at + n)) c.loop-run.indices c.put_run_codes.new.indices c.put_run_codes.auto.indices (omega (arith, spread)) within_w in
    let sized : length c.put_run_codes.new.indices ≡ size * n = rw (← value) (omega (arith, long, spread)) in
    let flags : length c.put_run_codes.new.valid ≡ n =
    part_size at (at + n) c.loop-run.valid c.put_run_codes.new.valid c.put_run_codes.auto.valid (omega arith) places ∙ omega arith in
    record {
      sound = (and_parts (is_run_sound col run) (are_runs_sound col (drop (i + 1) runs)) (sym (ap (are_runs_sound col) item) ∙ c.loop-run.invariant.sound)).1;
      coded = (all_front is_coded cells left (sym (ap (list_all is_coded) split) ∙ c.loop-run.invariant.coded)).1;
      count = total;
      written = some_written size start all before cells left after c.loop-run.indices _ c.put_run_codes.new.indices (post_of (w * at) (w * (at + n) - w * at) c.loop-run.indices)
          c.loop-run.valid _ c.put_run_codes.new.valid (post_of at (at + n - at) c.loop-run.valid) at n (at + n)
          (subst (λ (cs : List Cell). IsPartWritten size start all before cs c.loop-run.indices c.loop-run.valid at) split c.loop-run.invariant.written)
          c.in_ok-put_run_codes.ensures room (omega (arith, places)) sized flags refl
          (ap (λ (k : ℕ). take (k * at) c.loop-run.indices ++ (c.put_run_codes.new.indices ++ post_of (w * at) (w * (at + n) - w * at) c.loop-run.indices)) value) refl;
    }

pub returns : goal.returns
returns c =
    let runs : List SlotRun = c.args.runs.now in
    let col : Column = column_of c.args.field.now in
    let size : ℕ = bits_of c.args.spec.index.width / 8 in
    let start : List Cell = named_cells c.args.entries.now in
    let mask : List ℕ = c.args.mask.now in
    let all : List Cell = masked_cells col mask runs in
    let es : List Cell = named_cells c.loop-run.entries in
    let at : ℕ = c.loop-run.at in
    let past : drop c.loop-run.run-index runs ≡ [] = drop_all c.loop-run.run-index runs c.loop-run-test.false in
    let none : cells_behind col mask at (drop c.loop-run.run-index runs) ≡ [] = ap (cells_behind col mask at) past ∙ alike_kept null (part_bits mask at 0) 0 in
    let whole : length (runs_bits runs) ≤ at = omega (arith, c.loop-run.invariant.count, ap (λ (rs : List SlotRun). length (runs_bits rs)) past) in
    let room : length c.loop-run.indices ≤ size * at = omega (arith, mul-le-mul_left size whole, c.requires.room, c.loop-run.auto.indices) in
    let places : length c.loop-run.valid ≤ at = omega (arith, whole, c.requires.places, c.loop-run.auto.valid) in
    all_written size start all es c.loop-run.indices c.loop-run.valid at
    (subst (λ (cs : List Cell). IsPartWritten size start all es cs c.loop-run.indices c.loop-run.valid at) none c.loop-run.invariant.written) room places

pub put_run_codes-requires-clause-sound : goal.put_run_codes-requires-clause-sound
put_run_codes-requires-clause-sound c =
    let col : Column = column_of c.args.field.now in
    let others : List SlotRun = drop (c.loop-run.run-index + 1) c.args.runs.now in
    let item = drop-item c.args.runs.now c.loop-run.run-index c.run-item.result c.loop-run-test.true c.run-item.is in
    (and_parts (is_run_sound col c.run-item.result) (are_runs_sound col others) (sym (ap (are_runs_sound col) item) ∙ c.loop-run.invariant.sound)).0

pub put_run_codes-requires-clause-coded : goal.put_run_codes-requires-clause-coded
put_run_codes-requires-clause-coded c =
    let col : Column = column_of c.args.field.now in
    let run : SlotRun = c.run-item.result in
    let left : List SlotRun = drop c.loop-run.run-index c.args.runs.now in
    let others : List SlotRun = drop (c.loop-run.run-index + 1) c.args.runs.now in
    let item = drop-item c.args.runs.now c.loop-run.run-index run c.loop-run-test.true c.run-item.is in
    let split = run_first col c.args.mask.now c.loop-run.at left others run item in
    (all_front is_coded _ (cells_behind col c.args.mask.now (c.loop-run.at + length (run_bits run)) others) (sym (ap (list_all is_coded) split) ∙ c.loop-run.invariant.coded)).0

-- the bits of a run are not the last
counted : (runs : List SlotRun) (i at : ℕ) (run : SlotRun) → drop i runs ≡ run ∷ drop (i + 1) runs → at + length (runs_bits (drop i runs)) ≡ length (runs_bits runs)
    → at + length (run_bits run) ≤ length (runs_bits runs)
counted runs i at run item count =
    let many = ap (λ (rs : List SlotRun). length (runs_bits rs)) item ∙ length-append (run_bits run) (runs_bits (drop (i + 1) runs)) in
    omega (arith, count, many)

pub put_run_codes-requires-clause-long : goal.put_run_codes-requires-clause-long
put_run_codes-requires-clause-long c = λ some.
    let runs : List SlotRun = c.args.runs.now in
    let item = drop-item runs c.loop-run.run-index c.run-item.result c.loop-run-test.true c.run-item.is in
    omega (arith, counted runs c.loop-run.run-index c.loop-run.at c.run-item.result item c.loop-run.invariant.count, mask_long c.args.mask.now runs c.requires.mask some)

pub loop-run-init : goal.loop-run-init
loop-run-init c =
    let col : Column = column_of c.args.field.now in
    let size : ℕ = bits_of c.args.spec.index.width / 8 in
    let start : List Cell = named_cells c.args.entries.now in
    let all : List Cell = masked_cells col c.args.mask.now c.args.runs.now in
    let behind = all_behind col c.args.mask.now c.args.runs.now in
    record {
      sound = c.requires.sound;
      coded = sym (ap (list_all is_coded) behind) ∙ c.requires.coded;
      count = omega arith;
      written = subst (λ (cs : List Cell). IsPartWritten size start all start cs c.args.indices.now c.args.valid.now 0) behind
          (none_written size start all c.args.indices.now c.args.valid.now 0 refl);
    }
