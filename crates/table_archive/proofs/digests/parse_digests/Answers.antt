use Rattle.std.proofs.Common.{true≢false, ◌∙◌, ◌==◌, ℕ, List, arith, length, sym, ap}
use Rattle.table_archive.proofs.LineLemmas.{next_digest, bad_line}
use Rattle.table_archive.proofs.digests.parse_digests.Goals.{else-is_empty-via-then-is_empty+else-place-len, else-is_empty-via-else-is_empty}
use Rattle.table_archive.proofs.digests.parse_digests.Goals as goal

pub loop-place-preserved : goal.loop-place-preserved
loop-place-preserved c =
    next_digest c.in_ok-parts.parts.items c.loop-place.place c.index-line.result.now c.loop-place.digests.items _ c.in-Some.digest (omega arith)
    c.index-line.ensures c.in_ok-push-in-Some.ensures.items c.loop-place.invariant c.in-Some.ensures

pub returns-in-None-clause-told : goal.returns-in-None-clause-told
returns-in-None-clause-told c =
    bad_line c.args.text.now c.in_ok-parts.parts.items c.loop-place.place c.index-line.result.now c.loop-place.digests.items c.in_ok-parts.ensures (omega arith)
    c.index-line.ensures c.loop-place.invariant c.in-None.ensures
    (elim c.else-is_empty.branch [
      | else-is_empty-via-then-is_empty+else-place-len w ↦ λ empty. omega (arith, w.if-place-len.false, w.len.ensures)
      | else-is_empty-via-else-is_empty w ↦ λ empty.
          absurd (true≢false (sym (c.is_empty.ensures ∙ ap (λ (l : List ℕ). length l == 0) empty) ∙ w.if-is_empty.false))
    ])
