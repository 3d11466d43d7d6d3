use Rattle.std.proofs.Common.{◌≡◌, ◌≤◌, ◌<◌, ◌∙◌, ◌+◌, ◌-◌, List, length, get_or, sym, ap, subst, arith}
use Rattle.std.proofs.lemmas.List.{get_or_read}
use Rattle.segments.specs.declared.entries.UsageEntry.{UsageEntry}
use Rattle.segments.proofs.Gaps.{length_both, at_before, at_behind}
use Rattle.segments.proofs.gap_buffer.GapBuffer.get.Goals as goal

pub returns-then-place-len : goal.returns-then-place-len
returns-then-place-len c = λ none.
    let before = c.self.inside.before.items in
    let behind = c.self.inside.behind.items in
    let place = c.args.place in
    let within : place < length before = omega (arith, c.if-place-len.true, c.len.ensures, c.self.inside.before.ok.0) in
    get_or_read before place c.index.result.now within c.index.ensures none ∙ sym (at_before before behind place none within)
    ∙ ap (λ (es : List UsageEntry). get_or es place none) c.self.view_is

pub returns-else-place-len : goal.returns-else-place-len
returns-else-place-len c = λ none.
    let before = c.self.inside.before.items in
    let behind = c.self.inside.behind.items in
    let place = c.args.place in
    let from = length behind - 1 - (place - length before) in
    let within : place < length before + length behind = subst (λ n. place < n) (length_both before behind) (subst (λ (es : List UsageEntry). place < length es) (sym c.self.view_is) c.requires) in
    let at : c.len-else-place-len.result - 1 - (place - c.len-else-place-len-2.result) ≡ from =
    omega (arith, c.len-else-place-len.ensures, c.len-else-place-len-2.ensures, c.self.inside.before.ok.0, c.self.inside.behind.ok.0) in
    let low : length before ≤ place = omega (arith, c.if-place-len.false, c.len.ensures, c.self.inside.before.ok.0) in
    get_or_read behind from c.index-else-place-len.result.now (omega (arith, within, low)) (c.index-else-place-len.ensures ∙ ap (λ k. get_or behind k c.index-else-place-len.result.now) at) none
    ∙ sym (at_behind before behind place none low within) ∙ ap (λ (es : List UsageEntry). get_or es place none) c.self.view_is
