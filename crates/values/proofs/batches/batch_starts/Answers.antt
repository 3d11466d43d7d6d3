use Rattle.std.specs.Prelude.{Vec}
use Rattle.std.specs.Global.{Global}
use Rattle.std.proofs.Common.{◌≡◌, ◌∙◌, ◌+◌, ◌++◌, ◌∷◌, [], ℕ, List, map, take, take_all, ap, sym, arith}
use Rattle.std.proofs.lemmas.List.{map-append}
use Rattle.facts.specs.laws.Lists.{take-item}
use Rattle.values.specs.declared.table_part.TablePart.{TablePart}
use Rattle.values.specs.inner.Starts.{starts_from, batch_lengths}
use Rattle.values.proofs.PartLemmas.{part_le}
use Rattle.values.proofs.batches.batch_starts.Goals as goal

pub starts_in_part-requires : goal.starts_in_part-requires
starts_in_part-requires c = omega (arith, c.requires, part_le c.args.parts.now c.loop-part.part-index c.part-item.result c.loop-part-test.true c.part-item.is)

pub loop-part-preserved : goal.loop-part-preserved
loop-part-preserved c =
    let parts = c.args.parts.now in
    let i = c.loop-part.part-index in
    let part = c.part-item.result in
    let f : TablePart → List ℕ = λ p. starts_from 0 (batch_lengths p) in
    let more : map f (take (i + 1) parts) ≡ map f (take i parts) ++ f part ∷ [] =
    ap (map f) (take-item parts i part c.loop-part-test.true c.part-item.is) ∙ map-append f (take i parts) (part ∷ []) in
    ap (map (λ (v : Vec ℕ Global). v.items)) c.in_ok-push.ensures.items
    ∙ map-append (λ (v : Vec ℕ Global). v.items) c.loop-part.starts.items (c.in_ok-starts_in_part.field-0 ∷ [])
    ∙ (λ j. c.loop-part.invariant j ++ c.in_ok-starts_in_part.ensures j ∷ []) ∙ sym more

pub returns : goal.returns
returns c =
    c.loop-part.invariant ∙ ap (map (λ (p : TablePart). starts_from 0 (batch_lengths p))) (take_all c.loop-part.part-index c.args.parts.now c.loop-part-test.false)
