use Rattle.std.proofs.Common.{◌≡◌, ℕ, arith, refl, subst}
use Rattle.text_columns.specs.declared.builder.ColumnBuilder.{Flat}
use Rattle.text_columns.specs.declared.flat.FlatBuilder.{FlatBuilder}
use Rattle.text_columns.specs.inner.Kept.{AppendsNulls}
use Rattle.text_columns.proofs.Nulls.{flat_more, nulls_none}
use Rattle.text_columns.proofs.flat.FlatBuilder.push_nulls.Goals as goal

pub loop-init : goal.loop-init
loop-init c = nulls_none (Flat c.args.self.now)

pub loop-preserved : goal.loop-preserved
loop-preserved c =
    let new : FlatBuilder = record { nullable = c.loop.self.nullable; valid = c.push.new.self; values = c.push_null.new.values; coding = c.push_null.new.coding } in
    flat_more c.loop.counter (Flat c.args.self.now) c.loop.self new c.loop.invariant refl c.in_ok-push.ensures.items c.in_ok-push_null.ensures

pub returns : goal.returns
returns c =
    let all : c.loop.counter ≡ c.args.count = omega arith in
    subst (λ (n : ℕ). AppendsNulls n (Flat c.args.self.now) (Flat c.loop.self)) all c.loop.invariant
