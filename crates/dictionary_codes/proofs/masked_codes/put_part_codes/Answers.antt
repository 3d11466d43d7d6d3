use Rattle.std.specs.Prelude.{replicate}
use Rattle.std.specs.List.{list_all}
use Rattle.std.proofs.Common.{◌≡◌, ◌≤◌, ◌+◌, ◌-◌, ◌*◌, ◌++◌, ◌/◌, ◌∙◌, ℕ, Bool, List, [], ap, arith, length, refl, subst, sym, take}
use Rattle.std.proofs.Math.Nat.{mul-le-mul_left}
use Rattle.arrow_schema.specs.View.{bits_of}
use Rattle.dictionary_codes.specs.laws.AllCells.{all_front}
use Rattle.dictionary_codes.proofs.MaskedCodes.{all_left, all_set_kept, alike_first}
use Rattle.dictionary_codes.proofs.Written.{all_written, none_written, part_size, some_written}
use Rattle.dictionary_codes.proofs.masked_codes.put_part_codes.Goals as goal
use Rattle.dictionary_codes.specs.inner.Codes.{IsPartWritten, coded_cell}
use Rattle.dictionary_codes.specs.inner.MaskParts.{part_bits}
use Rattle.dictionary_codes.specs.Masks.{masked}
use Rattle.dictionary_codes.specs.Named.{named_cells}
use Rattle.dictionary_codes.specs.CodedCells.{is_coded}
use Rattle.cells.specs.Cell.{Cell}
use Rattle.columns.specs.CellAt.{cells_from}
use borrow.Rule.Slice.PartMut.{post_of}

pub put_alike_codes-requires-clause-slots : goal.put_alike_codes-requires-clause-slots
put_alike_codes-requires-clause-slots c = λ set.
    let f : ℕ → Cell = coded_cell c.args.field.now c.args.slots in
    let at : ℕ = c.args.at in
    let from : ℕ = c.args.from in
    let len : ℕ = c.args.len in
    let done : ℕ = c.loop-done.done in
    let stop : ℕ = c.alike_to.result - at in
    let n : ℕ = (from + stop) - (from + done) in
    let low : done ≤ stop = omega (arith, c.alike_to.ensures.begins) in
    let high : stop ≤ len = omega (arith, c.alike_to.ensures.ends) in
    let size : n ≡ stop - done = omega arith in
    let split = alike_first f c.args.mask.now at from len done stop n c.is_set.result low high size
    (λ i begins ends. c.alike_to.ensures.alike i begins (omega (arith, ends, c.alike_to.ensures.begins)) ∙ sym c.is_set.ensures) in
    let first : List Cell = masked (replicate n c.is_set.result) (cells_from f (from + done) n) in
    let left : List Cell = masked (part_bits c.args.mask.now (at + stop) (len - stop)) (cells_from f (from + stop) (len - stop)) in
    let cells = ap (λ (b : Bool). masked (replicate n b) (cells_from f (from + done) n)) set ∙ all_set_kept f (from + done) n in
    record {
      spec = c.requires.spec;
      sound = c.requires.sound;
      within = omega (arith, c.requires.within, high);
      coded = sym (ap (list_all is_coded) cells) ∙ (all_front is_coded first left (sym (ap (list_all is_coded) split) ∙ c.loop-done.invariant.coded)).0;
    }

pub loop-done-init : goal.loop-done-init
loop-done-init c =
    let f : ℕ → Cell = coded_cell c.args.field.now c.args.slots in
    let size : ℕ = bits_of c.args.slots.spec.index.width / 8 in
    let start : List Cell = named_cells c.args.entries.now in
    let all : List Cell = masked (part_bits c.args.mask.now c.args.at c.args.len) (cells_from f c.args.from c.args.len) in
    let left = all_left f c.args.mask.now c.args.at c.args.from c.args.len in
    record {
      high = omega arith;
      coded = ap (list_all is_coded) left ∙ c.requires.coded;
      known = c.requires.known;
      written = subst (λ (cs : List Cell). IsPartWritten size start all start cs c.args.indices.now c.args.valid.now 0) (sym left)
          (none_written size start all c.args.indices.now c.args.valid.now 0 refl);
    }

pub loop-done-preserved : goal.loop-done-preserved
loop-done-preserved c =
    let f : ℕ → Cell = coded_cell c.args.field.now c.args.slots in
    let size : ℕ = bits_of c.args.slots.spec.index.width / 8 in
    let w : ℕ = c.bytes-width.result in
    let at : ℕ = c.args.at in
    let from : ℕ = c.args.from in
    let len : ℕ = c.args.len in
    let done : ℕ = c.loop-done.done in
    let stop : ℕ = c.alike_to.result - at in
    let n : ℕ = (from + stop) - (from + done) in
    let low : done ≤ stop = omega (arith, c.alike_to.ensures.begins) in
    let high : stop ≤ len = omega (arith, c.alike_to.ensures.ends) in
    let count : n ≡ stop - done = omega arith in
    let next : stop ≡ done + n = omega (arith, low, count) in
    let start : List Cell = named_cells c.args.entries.now in
    let all : List Cell = masked (part_bits c.args.mask.now at len) (cells_from f from len) in
    let before : List Cell = named_cells c.loop-done.entries in
    let after : List Cell = named_cells c.put_alike_codes.new.entries in
    let first : List Cell = masked (replicate n c.is_set.result) (cells_from f (from + done) n) in
    let left : List Cell = masked (part_bits c.args.mask.now (at + stop) (len - stop)) (cells_from f (from + stop) (len - stop)) in
    let split = alike_first f c.args.mask.now at from len done stop n c.is_set.result low high count
    (λ i begins ends. c.alike_to.ensures.alike i begins (omega (arith, ends, c.alike_to.ensures.begins)) ∙ sym c.is_set.ensures) in
    let value : w ≡ size = c.bytes-width.ensures.value in
    let within : size * stop ≤ length c.loop-done.indices = omega (arith, mul-le-mul_left size high, c.requires.room, c.loop-done.auto.indices) in
    let within_w : w * stop ≤ length c.loop-done.indices = rw value within in
    let spread : w * stop ≡ w * done + w * n = ap (λ (k : ℕ). w * k) next ∙ omega arith in
    let spread_size : size * stop ≡ size * done + size * n = ap (λ (k : ℕ). size * k) next ∙ omega arith in
    let room : size * done ≤ length c.loop-done.indices = omega (arith, within, spread_size) in
    let places : stop ≤ length c.loop-done.valid = omega (arith, high, c.requires.places, c.loop-done.auto.valid) in
    let long : length c.put_alike_codes.new.indices ≡ w * stop - w * done =
    part_size (w * done) (w * stop) c.loop-done.indices c.put_alike_codes.new.indices c.put_alike_codes.auto.indices (omega (arith, spread)) within_w in
    let sized : length c.put_alike_codes.new.indices ≡ size * n = rw (← value) (omega (arith, long, spread)) in
    let flags : length c.put_alike_codes.new.valid ≡ n =
    part_size done stop c.loop-done.valid c.put_alike_codes.new.valid c.put_alike_codes.auto.valid low places ∙ omega (arith, count) in
    record {
      high = high;
      coded = (all_front is_coded first left (sym (ap (list_all is_coded) split) ∙ c.loop-done.invariant.coded)).1;
      known = c.in_ok-put_alike_codes.ensures.known;
      written = some_written size start all before first left after c.loop-done.indices _ c.put_alike_codes.new.indices (post_of (w * done) (w * stop - w * done) c.loop-done.indices)
          c.loop-done.valid _ c.put_alike_codes.new.valid (post_of done (stop - done) c.loop-done.valid) done n stop
          (subst (λ (cs : List Cell). IsPartWritten size start all before cs c.loop-done.indices c.loop-done.valid done) split c.loop-done.invariant.written)
          c.in_ok-put_alike_codes.ensures.written room (omega (arith, places, low)) sized flags next
          (ap (λ (k : ℕ). take (k * done) c.loop-done.indices ++ (c.put_alike_codes.new.indices ++ post_of (w * done) (w * stop - w * done) c.loop-done.indices)) value) refl;
    }

pub returns-clause-written : goal.returns-clause-written
unfolding part_bits
returns-clause-written c =
    let f : ℕ → Cell = coded_cell c.args.field.now c.args.slots in
    let size : ℕ = bits_of c.args.slots.spec.index.width / 8 in
    let at : ℕ = c.args.at in
    let from : ℕ = c.args.from in
    let len : ℕ = c.args.len in
    let done : ℕ = c.loop-done.done in
    let start : List Cell = named_cells c.args.entries.now in
    let all : List Cell = masked (part_bits c.args.mask.now at len) (cells_from f from len) in
    let es : List Cell = named_cells c.loop-done.entries in
    let whole : len ≤ done = omega (arith, c.loop-done-test.false) in
    let none : len - done ≡ 0 = omega (arith, whole) in
    let past : masked (part_bits c.args.mask.now (at + done) (len - done)) (cells_from f (from + done) (len - done)) ≡ [] =
    ap (λ (k : ℕ). masked (part_bits c.args.mask.now (at + done) k) (cells_from f (from + done) k)) none in
    let room : length c.loop-done.indices ≤ size * done = omega (arith, mul-le-mul_left size whole, c.requires.room, c.loop-done.auto.indices) in
    let places : length c.loop-done.valid ≤ done = omega (arith, whole, c.requires.places, c.loop-done.auto.valid) in
    all_written size start all es c.loop-done.indices c.loop-done.valid done
    (subst (λ (cs : List Cell). IsPartWritten size start all es cs c.loop-done.indices c.loop-done.valid done) past c.loop-done.invariant.written) room places
