use Rattle.std.specs.List.{list_any, range_with_len}
use Rattle.std.proofs.Common.{◌≡◌, ◌+◌, ◌<◌, true, false, ℕ, Bool, List, map, refl, sym, subst, arith, ◌∙◌}
use Rattle.arrow_schema.specs.Column.{Column, Columns, columns_of}
use Rattle.arrow_schema.specs.View.{column_of}
use Rattle.cells.specs.declared.limits.TheConstants.{MAX_TABLE_WEIGHT}
use Rattle.columns.specs.Array.{Arrays}
use Rattle.columns.specs.CellAt.{rows_in}
use Rattle.columns.specs.laws.Rows.{fewer_sound}
use Rattle.arrays.specs.inner.Read.{placed_in}
use Rattle.arrays.specs.inner.Weights.{rows_weight}
use Rattle.arrays.proofs.RowWeights.{is_heavy, heavy_together, heavy_found, heavy_alone, none_within, some_within, no_rows, rows_after, any_after, rows_within, any_within}
use Rattle.arrays.proofs.heavy.weigh.Goals as goal

pub returns-then-before-gt-MAX_TABLE_WEIGHT : goal.returns-then-before-gt-MAX_TABLE_WEIGHT
returns-then-before-gt-MAX_TABLE_WEIGHT c = λ s same.
    none_within s c.args.before (rows_in (columns_of s.columns) (placed_in c.args.placed) c.args.rows)
    (heavy_together s c.args.before (placed_in c.args.placed) c.args.rows (omega (arith, c.if-before-gt-MAX_TABLE_WEIGHT.true)))

pub loop-start-init : goal.loop-start-init
loop-start-init c = record {
  within = omega arith;
  fits = omega (arith, c.if-before-gt-MAX_TABLE_WEIGHT.false);
  exact = sym (no_rows (columns_of (map column_of c.args.placed.fields.now)) (placed_in c.args.placed) 0);
  light = refl;
}

pub rows_weight-part-requires-clause-sound : goal.rows_weight-part-requires-clause-sound
rows_weight-part-requires-clause-sound c =
    fewer_sound (columns_of (map column_of c.args.placed.fields.now)) (placed_in c.args.placed) c.args.rows (c.loop-start.start + c.min-count.result) c.requires.sound
    (omega (arith, c.min-count.ensures, c.loop-start.invariant.within))

pub returns-then-add_weights-gt-MAX_TABLE_WEIGHT : goal.returns-then-add_weights-gt-MAX_TABLE_WEIGHT
returns-then-add_weights-gt-MAX_TABLE_WEIGHT c = λ s same.
    let cs : Columns = columns_of (map column_of c.args.placed.fields.now) in
    let arrays : Arrays = placed_in c.args.placed in
    let all = rows_within cs arrays c.loop-start.start c.min-count.result c.args.rows (omega (arith, c.min-count.ensures, c.loop-start.invariant.within)) in
    let over : MAX_TABLE_WEIGHT < c.args.before + rows_weight cs arrays 0 c.args.rows
    = omega (arith, all, c.loop-start.invariant.exact, c.rows_weight-part.ensures, c.add_weights.ensures, c.if-add_weights-gt-MAX_TABLE_WEIGHT.true) in
    none_within s c.args.before (rows_in (columns_of s.columns) arrays c.args.rows)
    (heavy_together s c.args.before arrays c.args.rows
    (subst (λ (columns : List Column). MAX_TABLE_WEIGHT < c.args.before + rows_weight (columns_of columns) arrays 0 c.args.rows) (sym same) over))

pub has_heavy_row-requires-clause-sound : goal.has_heavy_row-requires-clause-sound
has_heavy_row-requires-clause-sound c =
    fewer_sound (columns_of (map column_of c.args.placed.fields.now)) (placed_in c.args.placed) c.args.rows (c.loop-start.start + c.min-count.result) c.requires.sound
    (omega (arith, c.min-count.ensures, c.loop-start.invariant.within))

pub returns-then-has_heavy_row : goal.returns-then-has_heavy_row
returns-then-has_heavy_row c = λ s same.
    let arrays : Arrays = placed_in c.args.placed in
    let test : ℕ → Bool = is_heavy (columns_of (map column_of c.args.placed.fields.now)) arrays in
    let found = any_within test c.loop-start.start c.min-count.result c.args.rows (omega (arith, c.min-count.ensures, c.loop-start.invariant.within)) (sym c.if-has_heavy_row.ensures) in
    none_within s c.args.before (rows_in (columns_of s.columns) arrays c.args.rows)
    (heavy_found s c.args.before arrays c.args.rows
    (subst (λ (columns : List Column). list_any (is_heavy (columns_of columns) arrays) (range_with_len 0 c.args.rows) ≡ true) (sym same) found))

pub loop-start-preserved : goal.loop-start-preserved
loop-start-preserved c =
    let cs : Columns = columns_of (map column_of c.args.placed.fields.now) in
    let arrays : Arrays = placed_in c.args.placed in
    record {
      within = omega (arith, c.min-count.ensures, c.loop-start.invariant.within);
      fits = omega (arith, c.add_weights.ensures, c.if-add_weights-gt-MAX_TABLE_WEIGHT.false);
      exact = omega (
        arith,
        rows_after cs arrays c.loop-start.start c.min-count.result,
        c.loop-start.invariant.exact,
        c.rows_weight-part.ensures,
        c.add_weights.ensures,
        c.if-add_weights-gt-MAX_TABLE_WEIGHT.false,
      );
      light = any_after (is_heavy cs arrays) c.loop-start.start c.min-count.result ∙ rw (c.loop-start.invariant.light, ← c.if-has_heavy_row.ensures) refl;
    }

pub returns : goal.returns
returns c = λ s same.
    let cs : Columns = columns_of (map column_of c.args.placed.fields.now) in
    let arrays : Arrays = placed_in c.args.placed in
    let rows : ℕ = c.args.rows in
    let end : c.loop-start.start ≡ rows = omega (arith, c.loop-start.invariant.within, c.loop-start-test.false) in
    let exact : c.loop-start.total ≡ rows_weight cs arrays 0 rows = rw (← end) c.loop-start.invariant.exact in
    let light : list_any (is_heavy cs arrays) (range_with_len 0 rows) ≡ false = rw (← end) c.loop-start.invariant.light in
    let own : c.loop-start.total ≡ rows_weight (columns_of s.columns) arrays 0 rows
    = subst (λ (columns : List Column). c.loop-start.total ≡ rows_weight (columns_of columns) arrays 0 rows) (sym same) exact in
    let none = subst (λ (columns : List Column). list_any (is_heavy (columns_of columns) arrays) (range_with_len 0 rows) ≡ false) (sym same) light in
    some_within s c.args.before arrays rows c.loop-start.total (heavy_alone s c.args.before arrays rows (omega (arith, own, c.loop-start.invariant.fits)) ∙ none) own
