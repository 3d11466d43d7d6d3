use Rattle.std.proofs.Common.{◌≡◌, ℕ, arith, subst}
use Rattle.text_columns.specs.inner.Kept.{PushesEmpty}
use Rattle.text_columns.proofs.Nulls.{empty_more, empty_none}
use Rattle.text_columns.proofs.builder.ListOffsets.push_empty.Goals as goal

pub loop-init : goal.loop-init
loop-init c = empty_none c.args.self.now

pub loop-preserved : goal.loop-preserved
loop-preserved c = empty_more c.loop.counter c.args.self.now c.loop.self c.push.new.self c.loop.invariant c.in_ok-push.ensures

pub returns : goal.returns
returns c =
    let all : c.loop.counter ≡ c.args.lists = omega arith in
    subst (λ (n : ℕ). PushesEmpty n c.args.self.now c.loop.self) all c.loop.invariant
