use Rattle.std.proofs.Common.{◌++◌, ◌∷◌, [], List, take, sym, ap, subst, ◌∙◌, arith}
use Rattle.std.proofs.lemmas.List.{append-nil}
use Rattle.arrow_schema.specs.Column.{PlainSchema, Columns, columns_of}
use Rattle.arrow_schema.specs.View.{schema_of}
use Rattle.cells.specs.Cell.{Cell}
use Rattle.cells.specs.Dictionary.{dictionaries_fit}
use Rattle.table_cut.specs.Rows.{run_rows}
use Rattle.table_cut.specs.SeenRows.{HaveSeen}
use Rattle.columns.specs.Borrowed.{borrowed_cells}
use Rattle.table_cut.proofs.RoomLemmas.{one_row_more, all_of_run, all_room}
use Rattle.table_cut.proofs.room.take_rows.Goals as goal

pub loop-i-init : goal.loop-i-init
loop-i-init c =
    let s : PlainSchema = schema_of c.args.schema.now in
    record {
      seen = λ rows seen. subst (λ (xs : List (List Cell)). HaveSeen s xs c.args.seen.now) (sym (append-nil rows)) seen;
      fits = λ rows seen fit. ap (dictionaries_fit s) (append-nil rows) ∙ fit;
    }

pub take-requires-clause-seen : goal.take-requires-clause-seen
take-requires-clause-seen c = (c.requires.seen.0 ++ take c.loop-i.i (run_rows (columns_of (schema_of c.args.schema.now).columns) c.args.run), c.loop-i.invariant.seen c.requires.seen.0 c.requires.seen.1)

pub returns-then-not-branch : goal.returns-then-not-branch
returns-then-not-branch c =
    let s : PlainSchema = schema_of c.args.schema.now in
    let cs : Columns = columns_of s.columns in
    record {
      room = λ rows seen fit.
          let before : List (List Cell) = rows ++ take c.loop-i.i (run_rows cs c.args.run) in
          record {
            within = omega (arith, c.loop-i-test.true);
            fits = c.loop-i.invariant.fits rows seen fit;
            full = λ lt. ap (λ (row : List Cell). dictionaries_fit s (before ++ row ∷ [])) (sym c.row_of.ensures)
                ∙ sym (c.in_ok-take.ensures.fits before (c.loop-i.invariant.seen rows seen)) ∙ c.if-not-branch.true;
          };
      seen = λ rows seen all. absurd (omega (arith, all, c.loop-i-test.true));
    }

pub loop-i-preserved : goal.loop-i-preserved
loop-i-preserved c =
    let s : PlainSchema = schema_of c.args.schema.now in
    let cs : Columns = columns_of s.columns in
    let row : List Cell = borrowed_cells c.row_of.result in
    record {
      seen = λ rows seen.
          subst (λ (xs : List (List Cell)). HaveSeen s xs c.take.new.self) (one_row_more s rows c.args.run c.loop-i.i row c.loop-i-test.true c.row_of.ensures)
          (c.in_ok-take.ensures.seen (rows ++ take c.loop-i.i (run_rows cs c.args.run)) (c.loop-i.invariant.seen rows seen));
      fits = λ rows seen fit.
          ap (dictionaries_fit s) (sym (one_row_more s rows c.args.run c.loop-i.i row c.loop-i-test.true c.row_of.ensures))
          ∙ sym (c.in_ok-take.ensures.fits (rows ++ take c.loop-i.i (run_rows cs c.args.run)) (c.loop-i.invariant.seen rows seen)) ∙ c.if-not-branch.false;
    }

pub returns : goal.returns
returns c =
    let s : PlainSchema = schema_of c.args.schema.now in
    let cs : Columns = columns_of s.columns in
    let all = all_of_run cs c.args.run c.loop-i.i c.loop-i-test.false in
    record {
      room = λ rows seen fit. all_room s rows c.args.run (ap (λ (xs : List (List Cell)). dictionaries_fit s (rows ++ xs)) (sym all) ∙ c.loop-i.invariant.fits rows seen fit);
      seen = λ rows seen whole. subst (λ (xs : List (List Cell)). HaveSeen s (rows ++ xs) c.loop-i.seen) all (c.loop-i.invariant.seen rows seen);
    }
