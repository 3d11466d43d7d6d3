use Rattle.std.proofs.Common.{ℕ, ◌+◌, ◌-◌, ◌/◌, Bool, map, sym, arith}
use Rattle.arrow_schema.specs.Column.{Columns, columns_of}
use Rattle.arrow_schema.specs.View.{column_of}
use Rattle.columns.specs.Array.{Arrays}
use Rattle.columns.specs.laws.Rows.{fewer_sound}
use Rattle.arrays.specs.inner.Read.{placed_in}
use Rattle.arrays.proofs.RowWeights.{is_heavy, rows_cut, none_heavy, one_heavy, found_in_front, found_behind}
use Rattle.arrays.proofs.heavy.+has_heavy_row.Goals as goal

pub returns-then-total-le-MAX_ROW_WEIGHT : goal.returns-then-total-le-MAX_ROW_WEIGHT
returns-then-total-le-MAX_ROW_WEIGHT t c =
    let cs : Columns = columns_of (map column_of c.args.placed.fields.now) in
    sym (none_heavy cs (placed_in c.args.placed) c.args.from c.args.count (omega (arith, c.requires.total, c.if-total-le-MAX_ROW_WEIGHT.true)))

pub returns-then-count-lt2 : goal.returns-then-count-lt2
returns-then-count-lt2 t c =
    let cs : Columns = columns_of (map column_of c.args.placed.fields.now) in
    sym (one_heavy cs (placed_in c.args.placed) c.args.from c.args.count c.if-count-lt2.true (omega (arith, c.requires.total, c.if-total-le-MAX_ROW_WEIGHT.false)))

pub rows_weight-front-requires-clause-sound : goal.rows_weight-front-requires-clause-sound
rows_weight-front-requires-clause-sound t c =
    fewer_sound (columns_of (map column_of c.args.placed.fields.now)) (placed_in c.args.placed) (c.args.from + c.args.count) (c.args.from + c.args.count / 2) c.requires.sound (omega arith)

pub has_heavy_row-requires : goal.has_heavy_row-requires
has_heavy_row-requires t c =
    let cs : Columns = columns_of (map column_of c.args.placed.fields.now) in
    let arrays : Arrays = placed_in c.args.placed in
    let half : ℕ = c.args.count / 2 in
    let cut = rows_cut cs arrays c.args.from c.args.count half (omega arith) in (
      omega (arith, c.decreases, c.if-count-lt2.false),
      (
        c.requires.empty,
        (
          fewer_sound cs arrays (c.args.from + c.args.count) (c.args.from + half) c.requires.sound (omega arith),
          (
            omega (arith, c.requires.counted),
            (
              omega (arith, cut, c.requires.total, c.requires.exact, c.rows_weight-front.ensures),
              omega (arith, cut, c.requires.total, c.requires.exact, c.rows_weight-front.ensures),
            ),
          ),
        ),
      ),
    )

pub overflow_sub-total : goal.overflow_sub-total
overflow_sub-total t c =
    let cut = rows_cut (columns_of (map column_of c.args.placed.fields.now)) (placed_in c.args.placed) c.args.from c.args.count (c.args.count / 2) (omega arith) in
    omega (arith, cut, c.requires.total, c.requires.exact, c.rows_weight-front.ensures)

pub has_heavy_row-requires-else-has_heavy_row : goal.has_heavy_row-requires-else-has_heavy_row
has_heavy_row-requires-else-has_heavy_row t c =
    let cs : Columns = columns_of (map column_of c.args.placed.fields.now) in
    let arrays : Arrays = placed_in c.args.placed in
    let half : ℕ = c.args.count / 2 in
    let cut = rows_cut cs arrays c.args.from c.args.count half (omega arith) in (
      omega (arith, c.decreases, c.if-count-lt2.false),
      (
        c.requires.empty,
        (
          fewer_sound cs arrays (c.args.from + c.args.count) (c.args.from + half + (c.args.count - half)) c.requires.sound (omega arith),
          (
            omega (arith, c.requires.counted),
            (
              omega (arith, cut, c.requires.total, c.requires.exact, c.rows_weight-front.ensures),
              omega (arith, c.requires.exact),
            ),
          ),
        ),
      ),
    )

pub returns-then-has_heavy_row : goal.returns-then-has_heavy_row
returns-then-has_heavy_row t c =
    let test : ℕ → Bool = is_heavy (columns_of (map column_of c.args.placed.fields.now)) (placed_in c.args.placed) in
    found_in_front test c.args.from c.args.count (c.args.count / 2) _ (omega arith) c.if-has_heavy_row.true c.if-has_heavy_row.ensures

pub returns-else-has_heavy_row : goal.returns-else-has_heavy_row
returns-else-has_heavy_row t c =
    let test : ℕ → Bool = is_heavy (columns_of (map column_of c.args.placed.fields.now)) (placed_in c.args.placed) in
    found_behind test c.args.from c.args.count (c.args.count / 2) _ (omega arith) c.if-has_heavy_row.ensures c.has_heavy_row-else-has_heavy_row.ensures
