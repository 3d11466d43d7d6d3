use Rattle.std.specs.Simd.Lanes.{mask_l}
use Rattle.std.proofs.Common.{◌≡◌, ℕ, ◌+◌, ◌*◌, ◌%◌, ◌^◌, ◌++◌, Bool, List, cond, replicate, sym, ap, ◌∙◌, arith}
use Rattle.std.proofs.lemmas.List.{length-replicate}
use Rattle.std.proofs.lemmas.Result.{on_ok_weaker}
use Rattle.bitmap.proofs.Parts.{alike_word, alike_rest, alike_more, shifted}
use Rattle.bitmap.proofs.building.MaskBuilder.add_alike.Goals as goal
use Rattle.bitmap.proofs.building.MaskBuilder.add_alike.Goals.{then-set, else-set}

pub loop-preserved : goal.loop-preserved
loop-preserved c =
    let old : List Bool = c.args.self.now in
    let set : Bool = c.args.set in
    let k : ℕ = c.loop.counter in
    let word : c.if-set.word ≡ cond set 18446744073709551615 0 = elim c.if-set.branch [ then-set w ↦ rw w.if-set.true w.word-is | else-set w ↦ rw w.if-set.false w.word-is ] in
    let size : 64 * k + 64 ≡ 64 * (k + 1) = omega arith in
    c.in_ok-push_word.ensures.ok (replicate 64 set) (length-replicate 64 set) (alike_word set c.if-set.word word)
    ∙ ap (λ (bits : List Bool). bits ++ replicate 64 set) c.loop.invariant
    ∙ alike_more old set (64 * k) 64
    ∙ ap (λ (n : ℕ). old ++ replicate n set) size

pub returns-clause-ok : goal.returns-clause-ok
returns-clause-ok c =
    let old : List Bool = c.args.self.now in
    let set : Bool = c.args.set in
    let k : ℕ = c.loop.counter in
    let left : ℕ = c.args.count % 64 in
    let word : c.if-set.word ≡ cond set 18446744073709551615 0 = elim c.if-set.branch [ then-set w ↦ rw w.if-set.true w.word-is | else-set w ↦ rw w.if-set.false w.word-is ] in
    let number : mask_l (replicate left set) ≡ c.if-set.word % 2 ^ left = alike_rest set c.if-set.word left (omega arith) (alike_word set c.if-set.word word) in
    let size : 64 * k + left ≡ c.args.count = omega (arith, c.loop-test.false) in
    on_ok_weaker c.push_word-2.result
    (λ last. last
    ∙ ap (λ (bits : List Bool). bits ++ replicate left set) c.loop.invariant
    ∙ alike_more old set (64 * k) left
    ∙ ap (λ (n : ℕ). old ++ replicate n set) size)
    (c.push_word-2.ensures.ok (replicate left set) (length-replicate left set) (number ∙ ap (λ (n : ℕ). c.if-set.word % n) (sym (shifted left (omega arith)))))
