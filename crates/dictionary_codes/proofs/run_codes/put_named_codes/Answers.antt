use Rattle.std.specs.Prelude.{get_or}
use Rattle.std.specs.List.{list_all}
use Rattle.std.proofs.Common.{◌≡◌, ◌≤◌, ◌<◌, ◌+◌, ◌-◌, ◌*◌, ◌∙◌, ℕ, Bool, List, arith, ap, length, refl, subst, sym, true}
use Rattle.std.proofs.Math.Nat.{mul-le-mul_left}
use Rattle.arrow_schema.specs.View.{column_of}
use Rattle.dictionary_codes.specs.Named.{named_cells}
use Rattle.dictionary_codes.proofs.CodedRuns.{coded_here, first_cell}
use Rattle.dictionary_codes.proofs.Written.{later_set, one_written}
use Rattle.dictionary_codes.proofs.run_codes.put_named_codes.Goals as goal
use Rattle.dictionary_codes.specs.inner.Codes.{AreSetFrom, IsPartWritten, code_in}
use Rattle.dictionary_codes.specs.CodedCells.{is_coded}
use Rattle.cells.specs.Cell.{Cell}
use Rattle.columns.specs.CellAt.{cell_at, cells_from}
use Rattle.columns.specs.View.{view_array}

pub put_named_code-requires-clause-slot : goal.put_named_code-requires-clause-slot
put_named_code-requires-clause-slot g c = record {
  spec = c.requires.slots.spec;
  sound = c.requires.slots.sound;
  within = omega (arith, c.requires.slots.within, c.loop-i-test.true);
  coded = (coded_here (cell_at (column_of c.args.field.now) (view_array c.args.slots.view)) c.loop-i.i c.args.to c.loop-i-test.true c.loop-i.invariant.coded).0;
}

pub put_named_code-requires-clause-place : goal.put_named_code-requires-clause-place
put_named_code-requires-clause-place g c =
    let le : c.loop-i.i - c.args.from + 1 ≤ c.args.to - c.args.from = omega (arith, c.loop-i-test.true, c.requires.order, c.loop-i.auto.i) in
    record {
      small = c.requires.small;
      room = omega (arith, mul-le-mul_left g.row.SIZE le, c.requires.room, c.loop-i.auto.indices);
      places = omega (arith, le, c.requires.places, c.loop-i.auto.valid);
    }

pub loop-i-preserved : goal.loop-i-preserved
loop-i-preserved g c =
    let f : ℕ → Cell = cell_at (column_of c.args.field.now) (view_array c.args.slots.view) in
    let es : List Cell = named_cells c.args.entries.now in
    let left : List Cell = cells_from f (c.loop-i.i + 1) (c.args.to - (c.loop-i.i + 1)) in
    let done : ℕ = c.loop-i.i - c.args.from in
    let put = c.put_named_code.ensures.put c.if-not-put_named_code.false in
    let le : done ≤ c.args.to - c.args.from = omega (arith, c.loop-i-test.true, c.requires.order, c.loop-i.auto.i) in
    let room : g.row.SIZE * done ≤ length c.loop-i.indices = omega (arith, mul-le-mul_left g.row.SIZE le, c.requires.room, c.loop-i.auto.indices) in
    let within : done < length c.loop-i.valid = omega (arith, c.loop-i-test.true, c.requires.order, c.loop-i.auto.i, c.requires.places, c.loop-i.auto.valid) in
    let next : c.loop-i.i + 1 - c.args.from ≡ done + 1 = omega (arith, c.requires.order, c.loop-i.auto.i) in
    record {
      coded = (coded_here f c.loop-i.i c.args.to c.loop-i-test.true c.loop-i.invariant.coded).1;
      set = λ n le. ap (λ (bs : List Bool). get_or bs n true) put.valid ∙ later_set c.loop-i.valid done _ _ c.loop-i.invariant.set next n le;
      written = λ start all before.
          let here = subst (λ (cs : List Cell). IsPartWritten g.row.SIZE start all es cs c.loop-i.indices c.loop-i.valid done) (first_cell f c.loop-i.i c.args.to c.loop-i-test.true)
          (c.loop-i.invariant.written start all before) in
          one_written g.row.SIZE start all es (f c.loop-i.i) left es c.loop-i.indices _ _ c.loop-i.valid _ done _ (code_in es (f c.loop-i.i)) here
          (c.put_named_code.ensures.entries c.if-not-put_named_code.false) refl room within next put.index put.valid;
    }

pub loop-i-init : goal.loop-i-init
loop-i-init g c = record { coded = c.requires.slots.coded; set = c.requires.set; written = λ start all before. before }

pub returns-then-not-put_named_code-clause-slots : goal.returns-then-not-put_named_code-clause-slots
returns-then-not-put_named_code-clause-slots g c = record {
  spec = c.requires.slots.spec;
  sound = c.requires.slots.sound;
  within = c.requires.slots.within;
  coded = c.loop-i.invariant.coded;
}

pub returns-then-not-put_named_code-clause-set : goal.returns-then-not-put_named_code-clause-set
returns-then-not-put_named_code-clause-set g c =
    subst (AreSetFrom (c.loop-i.i - c.args.from)) (sym (c.put_named_code.ensures.bits c.if-not-put_named_code.true)) c.loop-i.invariant.set

pub returns-then-not-put_named_code-clause-written : goal.returns-then-not-put_named_code-clause-written
returns-then-not-put_named_code-clause-written g c = λ start all before.
    let f : ℕ → Cell = cell_at (column_of c.args.field.now) (view_array c.args.slots.view) in
    let es : List Cell = named_cells c.args.entries.now in
    let left : List Cell = cells_from f c.loop-i.i (c.args.to - c.loop-i.i) in
    let done : ℕ = c.loop-i.i - c.args.from in
    subst (λ (bs : List Bool). IsPartWritten g.row.SIZE start all es left c.put_named_code.new.indices bs done) (sym (c.put_named_code.ensures.bits c.if-not-put_named_code.true))
    (subst (λ (xs : List ℕ). IsPartWritten g.row.SIZE start all es left xs c.loop-i.valid done) (sym (c.put_named_code.ensures.indices c.if-not-put_named_code.true))
    (c.loop-i.invariant.written start all before))

pub returns : goal.returns
returns g c =
    let f : ℕ → Cell = cell_at (column_of c.args.field.now) (view_array c.args.slots.view) in
    let es : List Cell = named_cells c.args.entries.now in
    let end : c.loop-i.i ≡ c.args.to = omega (arith, c.loop-i-test.false, c.loop-i.auto.i-end, c.requires.within) in
    record {
      order = c.requires.within;
      within = omega arith;
      valid = λ lt. absurd (omega (arith, lt));
      slots = record {
        spec = c.requires.slots.spec;
        sound = c.requires.slots.sound;
        within = c.requires.slots.within;
        coded = subst (λ (n : ℕ). list_all is_coded (cells_from f n (c.args.to - n)) ≡ true) end c.loop-i.invariant.coded;
      };
      set = subst (λ (n : ℕ). AreSetFrom (n - c.args.from) c.loop-i.valid) end c.loop-i.invariant.set;
      written = λ start all before.
          subst (λ (n : ℕ). IsPartWritten g.row.SIZE start all es (cells_from f n (c.args.to - n)) c.loop-i.indices c.loop-i.valid (n - c.args.from)) end
          (c.loop-i.invariant.written start all before);
    }

pub put_named_code-requires-clause-set : goal.put_named_code-requires-clause-set
put_named_code-requires-clause-set g c = c.loop-i.invariant.set (c.loop-i.i - c.args.from) (omega arith)
