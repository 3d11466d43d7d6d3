use Rattle.std.proofs.Common.{◌≡◌, ◌≤◌, length, ap, sym, ◌∙◌, refl, arith}
use Rattle.std.proofs.lemmas.List.{length-take-le}
use Rattle.columns.specs.Ends.{ends_from}
use Rattle.columns.proofs.Ends.{first_ends, ends_many}
use Rattle.columns.proofs.array.Dictionary.first.Goals as goal

pub slice_bounds-result-end-2 : goal.slice_bounds-result-end-2
slice_bounds-result-end-2 c =
    let many : length c.deref-2.result.now ≡ length c.args.self.now.arrays.items = ap length (c.deref-2.ensures.value ∙ c.args.self.now.ended) ∙ ends_many 0 c.args.self.now.arrays.items in
    let long : length c.deref.result.now ≡ length c.args.self.now.arrays.items = ap length c.deref.ensures.value in
    let all : c.len.result ≡ length c.deref.result.now = c.len.ensures ∙ sym c.deref.ensures.len in
    let least = c.min-count.ensures in
    let le : c.min-count.result ≤ length c.deref-2.result.now = omega arith in
    sym (length-take-le c.min-count.result c.deref-2.result.now le)

pub invariant_of-result : goal.invariant_of-result
invariant_of-result c = record {
  ended = first_ends c.deref.result.now c.deref-2.result.now c.min-count.result c.min-count.result (c.deref-2.ensures.value ∙ c.args.self.now.ended ∙ ap (ends_from 0) (sym c.deref.ensures.value)) refl;
}
