use Rattle.std.proofs.Common.{◌≤◌, ◌≡◌, ◌+◌, ℕ, List, sym, ap, subst, ◌∙◌, true}
use Rattle.arrow_schema.specs.Column.{PlainSchema, columns_of}
use Rattle.arrow_schema.specs.View.{schema_of}
use Rattle.arrow_schema.specs.declared.types.Field.{Field}
use Rattle.cells.specs.Weight.{capped_weight, table_weight}
use Rattle.columns.specs.View.{fields_of}
use Rattle.columns.specs.Sound.{are_sound}
use Rattle.table_cut.specs.inner.Bounds.{columns_weight}
use Rattle.table_cut.specs.inner.Columns.{arrays_from_place}
use Rattle.table_cut.specs.Rows.{arrays_of_run}
use Rattle.table_cut.proofs.Bounds.{rows_weigh}
use Rattle.table_cut.proofs.RowLemmas.{front_rows}
use Rattle.table_cut.proofs.bound.front_bound.Goals as goal

pub columns_bound-requires-clause-sound : goal.columns_bound-requires-clause-sound
columns_bound-requires-clause-sound c =
    subst (λ (fs : List Field). are_sound (fields_of fs) (c.args.run.from + c.args.run.len) (arrays_from_place 0 c.args.run) ≡ true) (sym c.deref.ensures.value) c.requires.sound

pub returns : goal.returns
returns c =
    let s : PlainSchema = schema_of c.args.schema.now in
    let front = ap (table_weight s) (sym (front_rows (columns_of s.columns) (arrays_of_run c.args.run) c.args.run.from c.args.run.len c.args.rows c.requires.within)) ∙ rows_weigh s 0 c.args.run c.args.rows in
    let same = ap (λ (fs : List Field). c.args.rows + columns_weight 0 (fields_of fs) c.args.run c.args.rows) c.deref.ensures.value in
    subst (λ (n : ℕ). capped_weight n ≤ c.columns_bound.result) (same ∙ sym front) c.columns_bound.ensures
