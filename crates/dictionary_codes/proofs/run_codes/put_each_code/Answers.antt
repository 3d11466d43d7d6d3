use Rattle.std.specs.Prelude.{get_or}
use Rattle.std.proofs.Common.{◌≡◌, ◌≤◌, ◌<◌, ◌+◌, ◌-◌, ◌*◌, ◌++◌, ◌∙◌, ℕ, Bool, List, ap, arith, length, refl, subst, true}
use Rattle.std.proofs.Math.Nat.{mul-le-mul_left}
use Rattle.arrow_schema.specs.View.{column_of}
use Rattle.dictionary_codes.specs.Named.{named_cells}
use Rattle.dictionary_codes.proofs.CodedRuns.{coded_here, first_cell}
use Rattle.dictionary_codes.proofs.Written.{later_set, one_written}
use Rattle.dictionary_codes.proofs.run_codes.put_each_code.Goals as goal
use Rattle.dictionary_codes.specs.inner.Codes.{AreSetFrom, IsPartWritten, code_in}
use Rattle.cells.specs.Cell.{Cell}
use Rattle.columns.specs.CellAt.{cell_at, cells_from}
use Rattle.columns.specs.View.{view_array}

pub put_slot_code-requires-clause-slot : goal.put_slot_code-requires-clause-slot
put_slot_code-requires-clause-slot g c = record {
  spec = c.requires.slots.spec;
  sound = c.requires.slots.sound;
  within = omega (arith, c.requires.slots.within, c.loop-i-test.true);
  coded = (coded_here (cell_at (column_of c.args.field.now) (view_array c.args.slots.view)) c.loop-i.i c.args.end c.loop-i-test.true c.loop-i.invariant.coded).0;
}

pub put_slot_code-requires-clause-place : goal.put_slot_code-requires-clause-place
put_slot_code-requires-clause-place g c =
    let le : c.loop-i.i - c.args.from + 1 ≤ c.args.end - c.args.from = omega (arith, c.loop-i-test.true, c.requires.order, c.loop-i.auto.i) in
    record {
      small = c.requires.small;
      room = omega (arith, mul-le-mul_left g.row.SIZE le, c.requires.room, c.loop-i.auto.indices);
      places = omega (arith, le, c.requires.places, c.loop-i.auto.valid);
    }

pub loop-i-preserved : goal.loop-i-preserved
loop-i-preserved g c =
    let f : ℕ → Cell = cell_at (column_of c.args.field.now) (view_array c.args.slots.view) in
    let rest : List Cell = cells_from f (c.loop-i.i + 1) (c.args.end - (c.loop-i.i + 1)) in
    let before : List Cell = named_cells c.loop-i.entries in
    let after : List Cell = named_cells c.put_slot_code.new.entries in
    let done : ℕ = c.loop-i.i - c.args.from in
    let put = c.in_ok-put_slot_code.ensures.put in
    let le : done ≤ c.args.end - c.args.from = omega (arith, c.loop-i-test.true, c.requires.order, c.loop-i.auto.i) in
    let room : g.row.SIZE * done ≤ length c.loop-i.indices = omega (arith, mul-le-mul_left g.row.SIZE le, c.requires.room, c.loop-i.auto.indices) in
    let within : done < length c.loop-i.valid = omega (arith, c.loop-i-test.true, c.requires.order, c.loop-i.auto.i, c.requires.places, c.loop-i.auto.valid) in
    let next : c.loop-i.i + 1 - c.args.from ≡ done + 1 = omega (arith, c.requires.order, c.loop-i.auto.i) in
    record {
      coded = (coded_here f c.loop-i.i c.args.end c.loop-i-test.true c.loop-i.invariant.coded).1;
      set = λ n le. ap (λ (bs : List Bool). get_or bs n true) put.valid ∙ later_set c.loop-i.valid done _ _ c.loop-i.invariant.set next n le;
      known = c.in_ok-put_slot_code.ensures.known;
      written = λ start all left was.
          let here = subst (λ (cs : List Cell). IsPartWritten g.row.SIZE start all before (cs ++ left) c.loop-i.indices c.loop-i.valid done)
          (first_cell f c.loop-i.i c.args.end c.loop-i-test.true) (c.loop-i.invariant.written start all left was) in
          one_written g.row.SIZE start all before (f c.loop-i.i) (rest ++ left) after c.loop-i.indices _ _ c.loop-i.valid _ done _ (code_in after (f c.loop-i.i)) here
          c.in_ok-put_slot_code.ensures.entries refl room within next put.index put.valid;
    }

pub loop-i-init : goal.loop-i-init
loop-i-init g c = record { coded = c.requires.slots.coded; set = c.requires.set; known = c.requires.known; written = λ start all left was. was }

pub returns : goal.returns
returns g c =
    let f : ℕ → Cell = cell_at (column_of c.args.field.now) (view_array c.args.slots.view) in
    let es : List Cell = named_cells c.loop-i.entries in
    let done : ℕ = c.loop-i.i - c.args.from in
    let last : c.loop-i.i ≡ c.args.end = omega (arith, c.loop-i-test.false, c.loop-i.auto.i-end, c.requires.within) in
    let none : c.args.end - c.loop-i.i ≡ 0 = omega (arith, c.loop-i-test.false) in
    record {
      set = subst (λ (n : ℕ). AreSetFrom (n - c.args.from) c.loop-i.valid) last c.loop-i.invariant.set;
      known = c.loop-i.invariant.known;
      written = λ start all left was.
          subst (λ (n : ℕ). IsPartWritten g.row.SIZE start all es left c.loop-i.indices c.loop-i.valid (n - c.args.from)) last
          (subst (λ (n : ℕ). IsPartWritten g.row.SIZE start all es (cells_from f c.loop-i.i n ++ left) c.loop-i.indices c.loop-i.valid done) none
          (c.loop-i.invariant.written start all left was));
    }
