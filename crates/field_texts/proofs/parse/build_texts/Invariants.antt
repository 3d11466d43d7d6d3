use Rattle.std.proofs.Common.{◌≡◌, map, drop}
use Rattle.arrow_schema.specs.declared.limits.TheConstants.{MAX_DEPTH}
use Rattle.arrow_schema.specs.View.{column_of}
use Rattle.field_texts.specs.inner.Build.{columns_at, before_columns}
use Rattle.field_texts.proofs.parse.build_texts.Given as goal

abbrev pub invariant-loop-text : goal.invariant-loop-text
invariant-loop-text l = before_columns (map column_of l.fields.items) (columns_at MAX_DEPTH (map (λ t. t.now) (drop l.text-index l.texts))) ≡ columns_at MAX_DEPTH (map (λ t. t.now) l.texts)
