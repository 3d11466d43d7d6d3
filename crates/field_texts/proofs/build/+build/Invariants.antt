use Rattle.std.proofs.Common.{◌≡◌, ◌+◌, ◌-◌, ◌*◌, map}
use denote.Shadow.{shadow}
use denote.Text.{Utf8}
use Rattle.arrow_schema.specs.View.{column_of}
use Rattle.field_texts.specs.inner.Build.{column_at, more_from, with_first}
use Rattle.field_texts.proofs.build.+build.Given as goal

-- how far a call is above the levels that are left
abbrev pub decreases-build_column : goal.decreases-build_column
decreases-build_column l = 10 * l.levels

abbrev pub decreases-build_above : goal.decreases-build_above
decreases-build_above l = 10 * l.levels + 5

abbrev pub decreases-build_field : goal.decreases-build_field
decreases-build_field l = 10 * l.levels + 1

abbrev pub decreases-build_list : goal.decreases-build_list
decreases-build_list l = 10 * l.levels + 1

abbrev pub decreases-build_more : goal.decreases-build_more
decreases-build_more l = 10 * l.levels + 2

abbrev pub decreases-build_fields : goal.decreases-build_fields
decreases-build_fields l = 10 * l.levels + 3

abbrev pub decreases-build_parts : goal.decreases-build_parts
decreases-build_parts l = 10 * l.levels + 4

abbrev pub invariant-build_more-loop-turn : goal.invariant-build_more-loop-turn
invariant-build_more-loop-turn l = record {
  built : with_first (map column_of l.fields.items) (more_from (column_at l.levels) (l.turns - l._turn) l.rest)
      ≡ with_first (map column_of l.fn.fields.items) (more_from (column_at l.levels) l.turns l.text);
  text : shadow (Utf8 l.rest);
}
