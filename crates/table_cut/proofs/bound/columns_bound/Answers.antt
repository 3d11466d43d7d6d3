use Rattle.std.proofs.Common.{◌+◌, ℕ, List, arith, ap, drop, ◌∙◌}
use Rattle.std.proofs.lemmas.List.{drop_all}
use Rattle.arrow_schema.specs.View.{column_of}
use Rattle.arrow_schema.specs.declared.types.Field.{Field}
use Rattle.columns.specs.View.{fields_of}
use Rattle.facts.specs.laws.Lists.{drop-item}
use Rattle.table_cut.specs.inner.Bounds.{columns_weight}
use Rattle.table_cut.proofs.Bounds.{first_sound, next_column, no_columns}
use Rattle.table_cut.proofs.bound.columns_bound.Goals as goal

pub column_bound-requires-clause-field : goal.column_bound-requires-clause-field
column_bound-requires-clause-field c = drop-item c.args.fields.now c.loop-place.place c.index-fields-place.result c.loop-place-test.true c.index-fields-place.is

pub column_bound-requires-clause-sound : goal.column_bound-requires-clause-sound
column_bound-requires-clause-sound c =
    let item = drop-item c.args.fields.now c.loop-place.place c.index-fields-place.result c.loop-place-test.true c.index-fields-place.is in
    (first_sound c.args.fields.now c.index-fields-place.result c.args.run c.loop-place.place c.args.rows item c.requires.within c.loop-place.invariant.sound).0

pub loop-place-preserved : goal.loop-place-preserved
loop-place-preserved c =
    let fields : List Field = c.args.fields.now in
    let i : ℕ = c.loop-place.place in
    let field : Field = c.index-fields-place.result in
    let item = drop-item fields i field c.loop-place-test.true c.index-fields-place.is in
    let next = ap (λ (fs : List Field). columns_weight i (fields_of fs) c.args.run c.args.rows) item
    ∙ next_column i (column_of field) (fields_of (drop (i + 1) fields)) c.args.run c.args.rows in
    record {
      sound = (first_sound fields field c.args.run i c.args.rows item c.requires.within c.loop-place.invariant.sound).1;
      bound = omega (arith, c.loop-place.invariant.bound, next, c.column_bound.ensures, c.add_weights-total.ensures);
    }

pub returns : goal.returns
returns c =
    let fields : List Field = c.args.fields.now in
    let i : ℕ = c.loop-place.place in
    let none = ap (λ (fs : List Field). columns_weight i (fields_of fs) c.args.run c.args.rows) (drop_all i fields c.loop-place-test.false) ∙ no_columns i c.args.run c.args.rows in
    omega (arith, c.loop-place.invariant.bound, none)
