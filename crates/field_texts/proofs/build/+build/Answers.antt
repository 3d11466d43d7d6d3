use Rattle.std.proofs.Common.{◌∙◌, map, sym, rules, ℕ, List, Bor, Vec}
use Rattle.std.specs.Global.{Global}
use Rattle.arrow_schema.specs.declared.types.Field.{Field}
use Rattle.std.proofs.lemmas.Result.{err_from_is_err_and}
use Rattle.std.proofs.lemmas.List.{map_push}
use Rattle.arrow_schema.specs.View.{column_of}
use Rattle.field_texts.proofs.Building.{column_none, column_step, more_closed, more_ended, more_lacks, more_fails, more_field}
use Rattle.field_texts.proofs.build.+build.Goals as goal

pub build_column-returns-then-levels-eq0 : goal.build_column-returns-then-levels-eq0
build_column-returns-then-levels-eq0 t c = column_none _ _ _ c.if-levels-eq0.true

pub build_column-returns : goal.build_column-returns
build_column-returns t c = rw (column_step c.args.levels c.args.name.now c.args.text.now c.if-levels-eq0.false) c.build_above.ensures

pub build_more-returns-in-Some : goal.build_more-returns-in-Some
build_more-returns-in-Some t c = sym c.loop-turn.invariant.built ∙ more_closed _ _ _ _ _ _ c.loop-turn-test.true c.in-Some.ensures

pub build_more-returns-in_default-strip : goal.build_more-returns-in_default-strip
build_more-returns-in_default-strip t c = sym c.loop-turn.invariant.built ∙ more_lacks _ _ _ _ _ c.loop-turn-test.true c.in_default.ensures c.in_default-strip.ensures

pub build_more-returns-in_err-field : goal.build_more-returns-in_err-field
build_more-returns-in_err-field t c =
    let p = err_from_is_err_and c.from_residual.result c.from_residual.ensures.1 in
    rw (p.1, p.2) (more_fails {X = Field × Bor (List ℕ)} {Y = Vec Field Global × Bor (List ℕ)} (λ p. (column_of p.0, p.1.now)) (λ p. (map column_of p.0.items, p.1.now)) _ _ _ _ _ _ _ _ c.loop-turn-test.true c.in_default.ensures c.in-Some-strip.ensures c.in_err-field.ensures c.loop-turn.invariant.built)

pub build_more-returns : goal.build_more-returns
build_more-returns t c = sym c.loop-turn.invariant.built ∙ more_ended _ _ _ _ _ c.loop-turn-test.false

pub build_more-loop-turn-preserved : goal.build_more-loop-turn-preserved
build_more-loop-turn-preserved t c = record {
  built = rw (c.in_ok-push.ensures.items, map_push column_of c.loop-turn.fields.items c.in_ok-field.field)
      (more_field _ _ _ _ _ _ _ _ c.loop-turn-test.true c.in_default.ensures c.in-Some-strip.ensures c.in_ok-field.ensures) ∙ c.loop-turn.invariant.built;
  text = search rules;
}
