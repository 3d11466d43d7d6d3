use Rattle.std.specs.Prelude.{get_or}
use Rattle.std.proofs.Common.{◌≡◌, ◌≤◌, ◌-◌, ◌*◌, ◌∙◌, ℕ, Bool, List, ap, arith, length, subst, true}
use Rattle.std.proofs.Math.Nat.{mul-le-mul_left}
use Rattle.arrow_schema.specs.View.{column_of}
use Rattle.dictionary_codes.specs.Named.{named_cells}
use Rattle.dictionary_codes.proofs.CodedRuns.{cells_split, coded_split}
use Rattle.dictionary_codes.proofs.Written.{all_set, all_written, none_written}
use Rattle.dictionary_codes.proofs.run_codes.put_sized_codes.Goals as goal
use Rattle.dictionary_codes.specs.inner.Codes.{IsPartWritten}
use Rattle.cells.specs.Cell.{Cell}
use Rattle.columns.specs.CellAt.{cell_at, cells_from}
use Rattle.columns.specs.View.{view_array}

pub put_named_codes-next-requires-clause-slots : goal.put_named_codes-next-requires-clause-slots
put_named_codes-next-requires-clause-slots g c = record {
  spec = c.requires.slots.spec;
  sound = c.requires.slots.sound;
  within = c.requires.slots.within;
  coded = c.loop-i.invariant.coded;
}

pub put_each_code-requires-clause-slots : goal.put_each_code-requires-clause-slots
put_each_code-requires-clause-slots g c =
    let f : ℕ → Cell = cell_at (column_of c.args.field.now) (view_array c.args.slots.view) in
    let next : ℕ = c.put_named_codes-next.result in
    let end : ℕ = c.end_of_each-end.result in
    record {
      spec = c.requires.slots.spec;
      sound = c.requires.slots.sound;
      within = omega (arith, c.requires.slots.within, c.end_of_each-end.ensures.within);
      coded = (coded_split f next end c.args.to c.end_of_each-end.ensures.order c.end_of_each-end.ensures.within c.put_named_codes-next.ensures.slots.coded).0;
    }

pub put_each_code-requires-clause-room : goal.put_each_code-requires-clause-room
put_each_code-requires-clause-room g c =
    let le : c.end_of_each-end.result - c.args.from ≤ c.args.to - c.args.from = omega (arith, c.end_of_each-end.ensures.within) in
    omega (arith, mul-le-mul_left g.row.SIZE le, c.requires.room, c.loop-i.auto.indices, c.put_named_codes-next.auto.indices)

pub put_each_code-requires-clause-places : goal.put_each_code-requires-clause-places
put_each_code-requires-clause-places g c =
    let le : c.end_of_each-end.result - c.args.from ≤ c.args.to - c.args.from = omega (arith, c.end_of_each-end.ensures.within) in
    omega (arith, le, c.requires.places, c.loop-i.auto.valid, c.put_named_codes-next.auto.valid)

pub loop-i-preserved : goal.loop-i-preserved
loop-i-preserved g c =
    let f : ℕ → Cell = cell_at (column_of c.args.field.now) (view_array c.args.slots.view) in
    let start : List Cell = named_cells c.args.entries.now in
    let all : List Cell = cells_from f c.args.from (c.args.to - c.args.from) in
    let next : ℕ = c.put_named_codes-next.result in
    let end : ℕ = c.end_of_each-end.result in
    let left : List Cell = cells_from f end (c.args.to - end) in
    let es : List Cell = named_cells c.loop-i.entries in
    let low = c.end_of_each-end.ensures.order in
    let high = c.end_of_each-end.ensures.within in
    let here = c.put_named_codes-next.ensures.written start all c.loop-i.invariant.written in
    let split = subst (λ (cs : List Cell). IsPartWritten g.row.SIZE start all es cs c.put_named_codes-next.new.indices c.put_named_codes-next.new.valid (next - c.args.from))
    (cells_split f next end c.args.to low high) here in
    record {
      order = omega (arith, c.loop-i.invariant.order, c.end_of_each-end.ensures.later);
      within = high;
      set = c.in_ok-put_each_code.ensures.set;
      coded = (coded_split f next end c.args.to low high c.put_named_codes-next.ensures.slots.coded).1;
      known = c.in_ok-put_each_code.ensures.known;
      written = c.in_ok-put_each_code.ensures.written start all left split;
    }

pub loop-i-init : goal.loop-i-init
loop-i-init g c =
    let f : ℕ → Cell = cell_at (column_of c.args.field.now) (view_array c.args.slots.view) in
    let none : c.args.from - c.args.from ≡ 0 = omega arith in
    record {
      order = omega arith;
      within = c.requires.order;
      set = λ n le. ap (λ (bs : List Bool). get_or bs n true) (c.fill.ensures.after (λ y is. is)) ∙ all_set (length c.args.valid.now) n;
      coded = c.requires.slots.coded;
      known = c.requires.known;
      written = none_written g.row.SIZE (named_cells c.args.entries.now) (cells_from f c.args.from (c.args.to - c.args.from)) c.args.indices.now _ _ none;
    }

pub returns : goal.returns
returns g c =
    let f : ℕ → Cell = cell_at (column_of c.args.field.now) (view_array c.args.slots.view) in
    let start : List Cell = named_cells c.args.entries.now in
    let all : List Cell = cells_from f c.args.from (c.args.to - c.args.from) in
    let es : List Cell = named_cells c.loop-i.entries in
    let done : ℕ = c.loop-i.i - c.args.from in
    let none : c.args.to - c.loop-i.i ≡ 0 = omega (arith, c.loop-i-test.false) in
    let le : c.args.to - c.args.from ≤ done = omega (arith, c.loop-i-test.false) in
    let room : length c.loop-i.indices ≤ g.row.SIZE * done = omega (arith, mul-le-mul_left g.row.SIZE le, c.requires.room, c.loop-i.auto.indices) in
    let places : length c.loop-i.valid ≤ done = omega (arith, le, c.requires.places, c.loop-i.auto.valid) in
    record {
      written = all_written g.row.SIZE start all es c.loop-i.indices c.loop-i.valid done
          (subst (λ (n : ℕ). IsPartWritten g.row.SIZE start all es (cells_from f c.loop-i.i n) c.loop-i.indices c.loop-i.valid done) none c.loop-i.invariant.written) room places;
      known = c.loop-i.invariant.known;
    }
