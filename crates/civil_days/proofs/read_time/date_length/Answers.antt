use Rattle.std.proofs.Common.{◌≡◌, ◌∙◌, sym, ap, drop, [], arith}
use Rattle.std.proofs.lemmas.List.{drop_all}
use Rattle.civil_days.specs.inner.TimeForm.{date_length}
use Rattle.civil_days.proofs.PlainLemmas.{plain_empty, plain_more_at, plain_none_at}
use Rattle.civil_days.proofs.read_time.date_length.Goals as goal

pub returns-then-is_separator-clause-value : goal.returns-then-is_separator-clause-value
returns-then-is_separator-clause-value c =
    let none = plain_none_at c.args.text.now c.loop-i.i c.loop-i-test.true (sym c.is_separator.ensures ∙ c.if-is_separator.true) in
    omega (arith, none, c.loop-i.invariant)

pub loop-i-preserved : goal.loop-i-preserved
loop-i-preserved c =
    let more = plain_more_at c.args.text.now c.loop-i.i c.loop-i-test.true (sym c.is_separator.ensures ∙ c.if-is_separator.false) in
    omega (arith, more, c.loop-i.invariant)

pub returns-clause-value : goal.returns-clause-value
returns-clause-value c =
    let none : drop c.loop-i.i c.args.text.now ≡ [] = drop_all c.loop-i.i c.args.text.now c.loop-i-test.false in
    let run = ap date_length none ∙ plain_empty in
    omega (arith, run, c.loop-i.invariant)
