use Rattle.std.specs.Prelude.{sum}
use Rattle.std.proofs.Common.{◌≡◌, ◌∙◌, ◌+◌, ◌++◌, ◌∷◌, [], ℕ, take, take_all, ap, sym, arith}
use Rattle.std.proofs.lemmas.List.{map-append}
use Rattle.facts.specs.laws.Lists.{take-item}
use Rattle.values.specs.declared.table_part.TablePart.{TablePart}
use Rattle.values.specs.inner.Starts.{batch_lengths, part_lengths}
use Rattle.values.proofs.PartLemmas.{part_le}
use Rattle.values.proofs.batches.part_lengths.Goals as goal

pub rows_in-requires : goal.rows_in-requires
rows_in-requires c = omega (arith, c.requires, part_le c.args.parts.now c.loop-part.part-index c.part-item.result c.loop-part-test.true c.part-item.is)

pub loop-part-preserved : goal.loop-part-preserved
loop-part-preserved c =
    let parts = c.args.parts.now in
    let i = c.loop-part.part-index in
    let part = c.part-item.result in
    let f : TablePart → ℕ = λ p. sum (batch_lengths p) in
    let more : part_lengths (take (i + 1) parts) ≡ part_lengths (take i parts) ++ f part ∷ [] =
    ap part_lengths (take-item parts i part c.loop-part-test.true c.part-item.is) ∙ map-append f (take i parts) (part ∷ []) in
    c.in_ok-push.ensures.items ∙ (λ j. c.loop-part.invariant j ++ c.rows_in.ensures j ∷ []) ∙ sym more

pub returns : goal.returns
returns c = c.loop-part.invariant ∙ ap part_lengths (take_all c.loop-part.part-index c.args.parts.now c.loop-part-test.false)
