use Rattle.std.proofs.Common.{◌≡◌, ◌-◌, ℕ, List, ap, arith, sym, ◌∙◌}
use Rattle.arrow_schema.specs.View.{column_of}
use Rattle.cells.specs.Cell.{Cell}
use Rattle.cells.specs.Dictionary.{with_entries}
use Rattle.columns.specs.CellAt.{cell_at, cells_from}
use Rattle.columns.specs.View.{view_array}
use Rattle.dictionary_codes.specs.Named.{named_cells}
use Rattle.dictionary_codes.proofs.CodedRuns.{coded_here}
use Rattle.dictionary_codes.proofs.Named.{all_named, cells_size, one_named, some_named}
use Rattle.dictionary_codes.proofs.named_slots.name_coded_slots.Goals as goal

pub loop-i-init : goal.loop-i-init
unfolding with_entries
loop-i-init c =
    let cell : ℕ → Cell = cell_at (column_of c.args.field.now) (view_array c.args.slots.view) in
    let start : List Cell = named_cells c.args.entries.now in
    let none : c.args.from - c.args.from ≡ 0 = omega arith in
    record {
      coded = c.requires.slots.coded;
      known = c.requires.known;
      named = sym (ap (λ (n : ℕ). with_entries start (cells_from cell c.args.from n)) none);
      fits = c.requires.few;
    }

pub name_slot-requires-clause-slot : goal.name_slot-requires-clause-slot
name_slot-requires-clause-slot c = record {
  spec = c.requires.slots.spec;
  sound = c.requires.slots.sound;
  within = omega (arith, c.requires.slots.within, c.loop-i-test.true);
  coded = (coded_here (cell_at (column_of c.args.field.now) (view_array c.args.slots.view)) c.loop-i.i c.args.to c.loop-i-test.true c.loop-i.invariant.coded).0;
}

pub returns-then-count-most-clause-room : goal.returns-then-count-most-clause-room
returns-then-count-most-clause-room c =
    let cell : ℕ → Cell = cell_at (column_of c.args.field.now) (view_array c.args.slots.view) in
    some_named cell c.args.from c.loop-i.i c.args.to c.args.most (named_cells c.args.entries.now) (named_cells c.loop-i.entries) (named_cells c.name_slot.new.entries)
    (omega (arith, c.loop-i.auto.i)) c.loop-i-test.true c.loop-i.invariant.named c.loop-i.invariant.fits c.in_ok-name_slot.ensures.entries
    (omega (arith, c.count.ensures, c.if-count-most.true))

pub loop-i-preserved : goal.loop-i-preserved
loop-i-preserved c =
    let cell : ℕ → Cell = cell_at (column_of c.args.field.now) (view_array c.args.slots.view) in
    record {
      coded = (coded_here cell c.loop-i.i c.args.to c.loop-i-test.true c.loop-i.invariant.coded).1;
      known = c.in_ok-name_slot.ensures.known;
      named = c.in_ok-name_slot.ensures.entries ∙ one_named cell c.args.from c.loop-i.i (named_cells c.args.entries.now) (named_cells c.loop-i.entries) (omega (arith, c.loop-i.auto.i)) c.loop-i.invariant.named;
      fits = omega (arith, c.count.ensures, c.if-count-most.false);
    }

pub returns-clause-room : goal.returns-clause-room
returns-clause-room c =
    let cell : ℕ → Cell = cell_at (column_of c.args.field.now) (view_array c.args.slots.view) in
    let start : List Cell = named_cells c.args.entries.now in
    let last : c.loop-i.i ≡ c.args.to = omega (arith, c.loop-i-test.false, c.loop-i.auto.i-end, c.requires.order) in
    let all = c.loop-i.invariant.named ∙ ap (λ (i : ℕ). with_entries start (cells_from cell c.args.from (i - c.args.from))) last in
    all_named c.args.most start (named_cells c.loop-i.entries) (cells_from cell c.args.from (c.args.to - c.args.from)) (c.args.to - c.args.from)
    (sym (cells_size cell c.args.from (c.args.to - c.args.from))) all c.loop-i.invariant.fits
