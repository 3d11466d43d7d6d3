use Rattle.std.proofs.Common.{◌≡◌, ◌∙◌, List, ℕ, ap, ap₂, arith, length, sym, subst}
use Rattle.std.proofs.lemmas.Bool.{eqb-false, eqb-true}
use Rattle.std.proofs.lemmas.Result.{on_ok_weaker}
use Rattle.arrow_schema.specs.Column.{Kind}
use Rattle.arrow_schema.specs.View.{kind_of}
use Rattle.array_build.proofs.MaskedContents.{copied_below, masked_below}
use Rattle.array_build.proofs.RunArrays.{masked_contents_are}
use Rattle.array_build.proofs.RunColumns.{have_validity}
use Rattle.array_build.proofs.masked_contents.build_masked_contents.Goals as goal
use Rattle.batch_build.specs.Batch.{PlainBatch, batch_in}
use Rattle.array_build.specs.inner.MaskedContents.{AreUnder, runs_under, with_contents}
use Rattle.cells.specs.Cell.{Cell}
use Rattle.columns.specs.Offsets.{width_of}

pub push_masked_slots-requires-clause-validity : goal.push_masked_slots-requires-clause-validity
push_masked_slots-requires-clause-validity c = have_validity (kind_of c.args.data_type.now) c.args.runs.now c.requires.sound

pub push_written_contents-requires-clause-ready : goal.push_written_contents-requires-clause-ready
push_written_contents-requires-clause-ready c =
    let empty = eqb-true _ 0 (sym c.is_empty.ensures ∙ c.if-is_empty.true) in
    let none : length c.in_ok-below.below.items ≡ 0 = omega (arith, empty, c.in_ok-below.below.ok.0) in
    (copied_below (kind_of c.args.data_type.now) c.args.mask.now c.in_ok-below.below.items c.args.runs.now c.requires.sound c.requires.fits c.in_ok-below.ensures.bits none).ready

pub push_masked_contents-requires-clause-under : goal.push_masked_contents-requires-clause-under
push_masked_contents-requires-clause-under c =
    let full = eqb-false _ 0 (sym c.is_empty.ensures ∙ c.if-is_empty.false) in
    let some : length c.in_ok-below.below.items ≡ 0 → ⊥ = λ none. full (omega (arith, none, c.in_ok-below.below.ok.0)) in
    let kind : Kind = kind_of c.args.data_type.now in
    let known = masked_below kind (width_of c.args.width) c.args.mask.now c.in_ok-below.below.items c.args.runs.now c.requires.width c.requires.sound c.requires.fits c.in_ok-below.ensures.bits
    c.in_ok-below.ensures.below some in
    subst (λ (bytes : List ℕ). AreUnder kind bytes c.args.runs.now) (sym c.deref.ensures.value) known.under

pub returns-then-is_empty : goal.returns-then-is_empty
returns-then-is_empty c =
    let empty = eqb-true _ 0 (sym c.is_empty.ensures ∙ c.if-is_empty.true) in
    let none : length c.in_ok-below.below.items ≡ 0 = omega (arith, empty, c.in_ok-below.below.ok.0) in
    let kind : Kind = kind_of c.args.data_type.now in
    let w : ℕ = width_of c.args.width in
    let known = copied_below kind c.args.mask.now c.in_ok-below.below.items c.args.runs.now c.requires.sound c.requires.fits c.in_ok-below.ensures.bits none in
    on_ok_weaker c.push_written_contents.result
    (λ h. h ∙ ap₂ (λ (p : PlainBatch) (cells : List Cell). with_contents w p cells) c.in_ok-below.ensures.batch known.cells
    ∙ masked_contents_are (batch_in c.args.batch.now) kind w c.args.mask.now c.args.runs.now c.requires.width)
    c.push_written_contents.ensures

pub returns : goal.returns
returns c =
    let full = eqb-false _ 0 (sym c.is_empty.ensures ∙ c.if-is_empty.false) in
    let some : length c.in_ok-below.below.items ≡ 0 → ⊥ = λ none. full (omega (arith, none, c.in_ok-below.below.ok.0)) in
    let kind : Kind = kind_of c.args.data_type.now in
    let w : ℕ = width_of c.args.width in
    let known = masked_below kind w c.args.mask.now c.in_ok-below.below.items c.args.runs.now c.requires.width c.requires.sound c.requires.fits c.in_ok-below.ensures.bits
    c.in_ok-below.ensures.below some in
    let cells = ap (λ (bytes : List ℕ). runs_under kind bytes 0 c.args.runs.now) c.deref.ensures.value ∙ known.cells in
    on_ok_weaker c.push_masked_contents.result
    (λ h. h ∙ ap₂ (λ (p : PlainBatch) (cells : List Cell). with_contents w p cells) c.in_ok-below.ensures.batch cells
    ∙ masked_contents_are (batch_in c.args.batch.now) kind w c.args.mask.now c.args.runs.now c.requires.width)
    c.push_masked_contents.ensures
