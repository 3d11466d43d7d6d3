use Rattle.std.proofs.Common.{◌≡◌, ℕ, ◌+◌, ◌-◌, ◌%◌, ◌^◌, ◌<◌, List, [], ◌∷◌, ◌++◌, map, length, get_or, drop, sym, ap, subst, ◌∙◌, append_assoc, arith}
use Rattle.std.proofs.lemmas.List.{drop_more}
use Rattle.flatbuf.specs.Held.{FitsStructs}
use Rattle.ipc_write.specs.Trees.{buffer_pair}
use Rattle.ipc_write.specs.Written.{body, placed}
use Rattle.ipc_write.specs.inner.Zeros.{zeros}
use Rattle.ipc_write.proofs.BatchNode.{fits_more}
use Rattle.ipc_write.proofs.SameLengths.{next_body, next_placed}
use Rattle.ipc_write.proofs.framing.ranges_of.Goals as goal

-- one range more, and those of the buffers behind it
ranges_more : (ns : List ℕ) (i d : ℕ) (ranges new all : List (ℕ × ℕ)) (at : ℕ) → i < length ns → new ≡ ranges ++ (at, get_or ns i d) ∷ []
    → ranges ++ map buffer_pair (placed at (zeros (drop i ns))) ≡ all
    → new ++ map buffer_pair (placed (at + (get_or ns i d + (8 - get_or ns i d % 8) % 8)) (zeros (drop (i + 1) ns))) ≡ all
ranges_more ns i d ranges new all at within added was =
    let n : ℕ = get_or ns i d in
    let rest : List (ℕ × ℕ) = map buffer_pair (placed (at + (n + (8 - n % 8) % 8)) (zeros (drop (i + 1) ns))) in
    ap (λ (xs : List (ℕ × ℕ)). xs ++ rest) added
    ∙ append_assoc ranges ((at, n) ∷ []) rest
    ∙ ap (λ (xs : List (ℕ × ℕ)). ranges ++ xs) (sym (next_placed at n (drop (i + 1) ns)))
    ∙ sym (ap (λ (left : List ℕ). ranges ++ map buffer_pair (placed at (zeros left))) (drop_more ns i d within))
    ∙ was

-- and how long the body is
end_more : (ns : List ℕ) (i d at all : ℕ) → i < length ns → at + length (body (zeros (drop i ns))) ≡ all
    → (at + (get_or ns i d + (8 - get_or ns i d % 8) % 8)) + length (body (zeros (drop (i + 1) ns))) ≡ all
end_more ns i d at all within was =
    let split = ap (λ (left : List ℕ). length (body (zeros left))) (drop_more ns i d within) ∙ next_body (get_or ns i d) (drop (i + 1) ns) in
    omega (arith, split, was)

-- a buffer with its padding is no longer than the body
range_small : (ns : List ℕ) (i d at all : ℕ) → i < length ns → at + length (body (zeros (drop i ns))) ≡ all → all < 2 ^ 62 → get_or ns i d + (8 - get_or ns i d % 8) % 8 < 2 ^ 64
range_small ns i d at all within was small =
    let split = ap (λ (left : List ℕ). length (body (zeros left))) (drop_more ns i d within) ∙ next_body (get_or ns i d) (drop (i + 1) ns) in
    omega (arith, split, was, small)

pub overflow_add-end : goal.overflow_add-end
overflow_add-end c =
    let small = range_small c.args.lengths.now c.loop-size.size-index 0 c.loop-size.end _ c.loop-size-test.true c.loop-size.invariant.2 c.requires in
    omega (arith, small)

pub loop-size-preserved : goal.loop-size-preserved
loop-size-preserved c =
    let ns = c.args.lengths.now in
    let i = c.loop-size.size-index in
    let at = c.loop-size.end in (
      ranges_more ns i _ c.loop-size.ranges.items c.push.new.self.items _ at c.loop-size-test.true c.in_ok-push.ensures.items c.loop-size.invariant.0,
      subst FitsStructs (sym c.in_ok-push.ensures.items) (fits_more c.loop-size.ranges.items _ c.loop-size.invariant.1 (omega arith) (omega arith)),
      end_more ns i _ at _ c.loop-size-test.true c.loop-size.invariant.2,
    )
