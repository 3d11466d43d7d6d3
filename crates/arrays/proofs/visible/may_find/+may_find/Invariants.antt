use Rattle.std.proofs.Common.{◌≡◌, drop}
use Rattle.columns.specs.View.{fields_of}
use Rattle.arrays.specs.inner.MayFind.{any_may_find}
use Rattle.arrays.proofs.visible.may_find.+may_find.Given as goal

-- the fields that are left decide
abbrev pub invariant-any_may_find-loop-field : goal.invariant-any_may_find-loop-field
invariant-any_may_find-loop-field l = any_may_find l.test (fields_of (drop l.field-index l.fields)) ≡ any_may_find l.test (fields_of l.fields)
