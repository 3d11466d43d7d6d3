use Rattle.std.proofs.Common.{◌≡◌, ◌+◌, ◌<◌, ℕ, List, Bor, length, get_or, drop, ap, ◌∙◌, arith, length-append}
use Rattle.std.proofs.lemmas.List.{drop_all, drop_more}
use Rattle.batch_build.specs.Batch.{joined_slices}
use Rattle.batch_build.proofs.batch.count_bytes.Goals as goal

next_slice : (ss : List (Bor (List ℕ))) (i : ℕ) (d : Bor (List ℕ)) → i < length ss
    → length (joined_slices (drop i ss)) ≡ length (get_or ss i d).now + length (joined_slices (drop (i + 1) ss))
next_slice ss i d lt =
    ap (λ (left : List (Bor (List ℕ))). length (joined_slices left)) (drop_more ss i d lt) ∙ length-append (get_or ss i d).now (joined_slices (drop (i + 1) ss))

-- one slice more is counted
count_more : (ss : List (Bor (List ℕ))) (i : ℕ) (d : Bor (List ℕ)) (count more all : ℕ) → i < length ss → more ≡ count + length (get_or ss i d).now
    → count + length (joined_slices (drop i ss)) ≡ all → more + length (joined_slices (drop (i + 1) ss)) ≡ all
count_more ss i d count more all lt is was = let next = next_slice ss i d lt in omega (arith, is, next, was)

pub loop-slice-preserved : goal.loop-slice-preserved
loop-slice-preserved c =
    count_more c.args.slices.now c.loop-slice.slice-index _ c.loop-slice.count c.in-Some.more _ c.loop-slice-test.true c.in-Some.ensures.1 c.loop-slice.invariant

pub returns : goal.returns
returns c =
    let none : length (joined_slices (drop c.loop-slice.slice-index c.args.slices.now)) ≡ 0 =
    ap (λ (left : List (Bor (List ℕ))). length (joined_slices left)) (drop_all c.loop-slice.slice-index c.args.slices.now c.loop-slice-test.false) in
    omega (arith, none, c.loop-slice.invariant)
