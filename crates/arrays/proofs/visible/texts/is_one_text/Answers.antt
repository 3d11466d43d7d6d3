use Rattle.std.specs.Str.{IsCharBoundary}
use Rattle.std.proofs.Common.{◌≡◌, ℕ, ◌≤◌, ◌<◌, ◌+◌, ◌-◌, ◌∙◌, List, arith, subst, take, drop}
use Rattle.columns.specs.Array.{Array, contents_in, offsets_in}
use Rattle.columns.specs.CellAt.{number_at}
use Rattle.columns.specs.Offsets.{width_of}
use Rattle.columns.specs.View.{view_array}
use Rattle.arrays.proofs.TextSpans.{each_is_ascii, each_is_empty, each_is_text}
use Rattle.arrays.proofs.visible.texts.is_one_text.Goals as goal

pub returns-then-span-eq0 : goal.returns-then-span-eq0
returns-then-span-eq0 c = λ h i low high.
    each_is_empty (width_of c.args.width) (view_array c.args.view) c.requires.long c.requires.ordered c.args.from c.args.count c.requires.within (omega (arith, c.spanned-span.ensures.size, c.if-span-eq0.true)) i low high

pub returns-then-is_ascii : goal.returns-then-is_ascii
returns-then-is_ascii c = λ h i low high.
    let a : Array = view_array c.args.view in
    let w : ℕ = width_of c.args.width in
    let from : ℕ = c.args.from in
    let to : ℕ = c.args.from + c.args.count in
    let f : ℕ → ℕ = number_at w (offsets_in a) in
    let bs : List ℕ = c.bytes_at-bytes.result.now in
    let is : bs ≡ take (f to - f from) (drop (f from) (contents_in a)) = c.bytes_at-bytes.ensures ∙ (λ j. take (c.spanned-span.ensures.size j) (drop (c.spanned-span.ensures.start j) (c.contents.ensures j))) in
    each_is_ascii w a c.requires.long c.requires.ordered from c.args.count bs c.requires.some c.requires.within is c.if-is_ascii.ensures.cases i low high

pub returns-in-Ok : goal.returns-in-Ok
returns-in-Ok c = λ h i low high.
    let a : Array = view_array c.args.view in
    let w : ℕ = width_of c.args.width in
    let from : ℕ = c.args.from in
    let to : ℕ = c.args.from + c.args.count in
    let f : ℕ → ℕ = number_at w (offsets_in a) in
    let bs : List ℕ = c.bytes_at-bytes.result.now in
    let is : bs ≡ take (f to - f from) (drop (f from) (contents_in a)) = c.bytes_at-bytes.ensures ∙ (λ j. take (c.spanned-span.ensures.size j) (drop (c.spanned-span.ensures.start j) (c.contents.ensures j))) in
    let begins : (k : ℕ) → from ≤ k → k < to → IsCharBoundary bs (f k - f from) = λ k after before.
    subst (λ (s : ℕ). IsCharBoundary bs (f k - s)) c.spanned-span.ensures.start
    (subst (λ (offsets : List ℕ). IsCharBoundary bs (number_at w offsets k - c.spanned-span.result.start)) c.offsets.ensures
    (subst (λ (text : List ℕ). IsCharBoundary text (number_at w c.offsets.result.now k - c.spanned-span.result.start)) c.in-Ok.ensures.0 (c.are_boundaries.ensures h k after before))) in
    each_is_text w a c.requires.long c.requires.ordered from c.args.count bs c.requires.some c.requires.within is c.in-Ok.ensures.1 begins i low high
