use Rattle.std.proofs.Common.{◌∙◌, sym, ap, refl, Option, Some}
use Rattle.std.proofs.lemmas.Bool.{cond_below, cond_above}
use Rattle.commit.specs.declared.sector.Commit.{Commit}
use Rattle.commit.specs.Ruling.{newer}
use Rattle.commit.proofs.opening.newer.Goals as goal

pub returns-in-None : goal.returns-in-None
unfolding newer
returns-in-None c = sym (ap (λ (zeroth : Option Commit). newer zeroth c.args.first) c.in-None.is)

pub returns-in-None-first : goal.returns-in-None-first
unfolding newer
returns-in-None-first c = sym (λ i. newer (c.in-Some.is i) (c.in-None-first.is i))

pub returns-then-a-b : goal.returns-then-a-b
unfolding newer
returns-then-a-b c =
    let a = c.in-Some.a in
    let b = c.in-Some-first.b in
    cond_below a.epoch b.epoch (Some b) (Some a) c.if-a-b.true ∙ sym (λ i. newer (c.in-Some.is i) (c.in-Some-first.is i))

pub returns-else-a-b : goal.returns-else-a-b
unfolding newer
returns-else-a-b c =
    let a = c.in-Some.a in
    let b = c.in-Some-first.b in
    cond_above a.epoch b.epoch (Some b) (Some a) (Some a) c.if-a-b.false refl ∙ sym (λ i. newer (c.in-Some.is i) (c.in-Some-first.is i))
