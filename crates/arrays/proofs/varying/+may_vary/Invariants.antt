use Rattle.std.proofs.Common.{◌≡◌, drop}
use Rattle.columns.specs.View.{fields_of}
use Rattle.arrays.specs.inner.Varying.{any_may_vary}
use Rattle.arrays.proofs.varying.+may_vary.Given as goal

-- the fields that are left decide
abbrev pub invariant-any_may_vary-loop-field : goal.invariant-any_may_vary-loop-field
invariant-any_may_vary-loop-field l = any_may_vary (fields_of (drop l.field-index l.fields)) ≡ any_may_vary (fields_of l.fields)
