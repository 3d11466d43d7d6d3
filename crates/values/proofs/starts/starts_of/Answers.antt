use Rattle.std.proofs.Common.{ℕ, ◌+◌, ◌∷◌, [], ◌∙◌, drop, get_or, sym, append_assoc, append-nil, arith}
use Rattle.std.proofs.lemmas.List.{drop_more, drop_all}
use Rattle.std.proofs.lemmas.List.Sums.{sum_by-cons}
use Rattle.values.specs.inner.Starts.{starts_from}
use Rattle.values.proofs.starts.starts_of.Goals as goal

pub overflow_add-start : goal.overflow_add-start
overflow_add-start c =
    let ns = c.args.lengths.now in
    let i = c.loop-count.count-index in
    let whole = rw (drop_more ns i 0 c.loop-count-test.true) at c.loop-count.invariant.whole in
    omega (arith, c.requires, whole, sum_by-cons (λ (m : ℕ). m) (get_or ns i 0) (drop (i + 1) ns))

pub loop-count-preserved : goal.loop-count-preserved
loop-count-preserved c =
    let ns = c.args.lengths.now in
    let i = c.loop-count.count-index in
    let n = get_or ns i 0 in
    let rest = drop (i + 1) ns in
    let item = drop_more ns i 0 c.loop-count-test.true in
    let starts = rw item at c.loop-count.invariant.starts in
    let whole = rw item at c.loop-count.invariant.whole in
    record {
      starts = rw c.in_ok-push.ensures.items (append_assoc c.loop-count.starts.items (c.loop-count.start ∷ []) (starts_from (c.loop-count.start + n) rest) ∙ starts);
      whole = omega (arith, whole, sum_by-cons (λ (m : ℕ). m) n rest);
    }

pub returns : goal.returns
returns c =
    let starts = rw (drop_all c.loop-count.count-index c.args.lengths.now c.loop-count-test.false) at c.loop-count.invariant.starts in
    sym (append-nil c.loop-count.starts.items) ∙ starts
