-- How deep fields go, against a number of levels.
use Rattle.std.proofs.Common.{◌≡◌, ◌≢◌, ℕ, ◌+◌, ◌-◌, false, ap, map, ◌∙◌}
use Rattle.std.specs.Prelude.{nat_le}
use Rattle.facts.specs.laws.Levels.{nat_le_max, nat_le_down, nat_le_none}
use Rattle.ipc_message.specs.declared.raw_header.RawField.{RawField, out-RawField}
use Rattle.ipc_message.specs.declared.raw_header.RawField.TheFolds.{fold_out-RawField}
use Rattle.ipc_message.specs.Raw as raw
use Rattle.ipc_message.specs.Raw.{raw_fields_of}
use Rattle.ipc_message.specs.Fields.{depth, depth_all}
use Rattle.ipc_message.specs.View.{raw_field_step, raw_field_of}

depth_opened : (f : RawField) → depth (raw_field_of f) ≡ 1 + depth_all (raw_fields_of (map raw_field_of (out-RawField f).children.items))
unfolding depth
depth_opened f = ap depth (fold_out-RawField raw.RawField raw_field_step f)

pub one_level : (f : RawField) (n : ℕ) → n ≢ 0 → nat_le (depth (raw_field_of f)) n ≡ nat_le (depth_all (raw_fields_of (map raw_field_of (out-RawField f).children.items))) (n - 1)
one_level f n h = ap (λ d. nat_le d n) (depth_opened f) ∙ nat_le_down _ n h

pub no_level : (f : RawField) (n : ℕ) → n ≡ 0 → nat_le (depth (raw_field_of f)) n ≡ false
no_level f n h = ap (λ d. nat_le d n) (depth_opened f) ∙ nat_le_none _ n h

pub ruleset depth_rules = nat_le_max
