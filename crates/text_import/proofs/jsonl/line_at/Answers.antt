use Rattle.std.proofs.Common.{◌≡◌, ◌∙◌, ◌+◌, sym, ap, [], drop, arith}
use Rattle.std.specs.Prelude.{slice_get}
use Rattle.std.proofs.lemmas.List.{drop_all}
use Rattle.text_import.proofs.PartLemmas.{filled, blank_line, filled_line, at_front, past_front}
use Rattle.text_import.proofs.jsonl.line_at.Goals as goal

pub loop-line-preserved-then-is_blank : goal.loop-line-preserved-then-is_blank
loop-line-preserved-then-is_blank c =
    let lines = c.deref-line-items.result.now in
    let skipped = blank_line lines c.loop-line.line-index _ c.loop-line-test.true (sym c.is_blank.ensures ∙ c.if-is_blank.true) in
    ap (λ ls. slice_get ls c.loop-line.before) (sym skipped) ∙ c.loop-line.invariant

pub loop-line-preserved : goal.loop-line-preserved
loop-line-preserved c =
    let lines = c.deref-line-items.result.now in
    let i = c.loop-line.line-index in
    let counted = filled_line lines i _ c.loop-line-test.true (sym c.is_blank.ensures ∙ c.if-is_blank.false) in
    past_front (filled (drop i lines)) (filled (drop (i + 1) lines)) _ c.loop-line.before counted c.if-before-eq0.false ∙ c.loop-line.invariant

pub returns-then-before-eq0 : goal.returns-then-before-eq0
returns-then-before-eq0 c =
    let lines = c.deref-line-items.result.now in
    let i = c.loop-line.line-index in
    let counted = filled_line lines i _ c.loop-line-test.true (sym c.is_blank.ensures ∙ c.if-is_blank.false) in
    sym (at_front (filled (drop i lines)) (filled (drop (i + 1) lines)) _ c.loop-line.before counted c.if-before-eq0.true) ∙ c.loop-line.invariant

pub returns : goal.returns
returns c =
    let none : drop c.loop-line.line-index c.deref-line-items.result.now ≡ [] = drop_all c.loop-line.line-index c.deref-line-items.result.now (omega arith) in
    rw none at c.loop-line.invariant
