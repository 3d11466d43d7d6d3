use Rattle.std.specs.List.{flat_map}
use Rattle.std.proofs.Common.{◌≡◌, ◌∙◌, List, ℕ, ap, ap₂, arith, length, sym, subst}
use Rattle.std.proofs.lemmas.Bool.{eqb-false, eqb-true}
use Rattle.arrow_schema.specs.Column.{Kind}
use Rattle.arrow_schema.specs.View.{column_of}
use Rattle.array_build.proofs.MaskedContents.{copied_below, under_below}
use Rattle.array_build.proofs.MaskedLists.{list_values}
use Rattle.array_build.proofs.RunColumns.{have_validity}
use Rattle.array_build.proofs.masked_lists.push_masked_lists.Goals as goal
use Rattle.batch_build.specs.Batch.{PlainBatch}
use Rattle.array_build.specs.inner.MaskedContents.{AreUnder, runs_under}
use Rattle.batch_build.specs.Nodes.{list_kind, with_buffer}
use Rattle.cells.specs.Cell.{Cell}
use Rattle.cells.specs.Dictionary.{item_list}
use Rattle.columns.specs.Built.{list_offsets}
use Rattle.columns.specs.Offsets.{width_of}

pub push_masked_slots-requires-clause-validity : goal.push_masked_slots-requires-clause-validity
push_masked_slots-requires-clause-validity c = have_validity (list_kind c.args.width (column_of c.args.item.now)) c.args.runs.now c.requires.sound

pub item_runs-requires : goal.item_runs-requires
item_runs-requires c =
    let empty = eqb-true _ 0 (sym c.is_empty.ensures ∙ c.if-is_empty.true) in
    let none : length c.in_ok-below.below.items ≡ 0 = omega (arith, empty, c.in_ok-below.below.ok.0) in
    (copied_below (list_kind c.args.width (column_of c.args.item.now)) c.args.mask.now c.in_ok-below.below.items c.args.runs.now c.requires.sound c.requires.fits c.in_ok-below.ensures.bits none).ready

pub run_list_offsets-requires : goal.run_list_offsets-requires
run_list_offsets-requires c =
    let empty = eqb-true _ 0 (sym c.is_empty.ensures ∙ c.if-is_empty.true) in
    let none : length c.in_ok-below.below.items ≡ 0 = omega (arith, empty, c.in_ok-below.below.ok.0) in
    (copied_below (list_kind c.args.width (column_of c.args.item.now)) c.args.mask.now c.in_ok-below.below.items c.args.runs.now c.requires.sound c.requires.fits c.in_ok-below.ensures.bits none).ready

pub returns-then-is_empty : goal.returns-then-is_empty
returns-then-is_empty c =
    let empty = eqb-true _ 0 (sym c.is_empty.ensures ∙ c.if-is_empty.true) in
    let none : length c.in_ok-below.below.items ≡ 0 = omega (arith, empty, c.in_ok-below.below.ok.0) in
    let kind : Kind = list_kind c.args.width (column_of c.args.item.now) in
    let w : ℕ = width_of c.args.width in
    let known = copied_below kind c.args.mask.now c.in_ok-below.below.items c.args.runs.now c.requires.sound c.requires.fits c.in_ok-below.ensures.bits none in
    record {
      batch = c.in_ok-push_buffer.ensures
          ∙ ap₂ (λ (p : PlainBatch) (bytes : List ℕ). with_buffer p bytes) c.in_ok-below.ensures.batch (c.in_ok-run_list_offsets.ensures ∙ ap (list_offsets w) known.cells);
      cells = c.in_ok-items.ensures.cells ∙ ap (λ (cells : List Cell). flat_map item_list cells) known.cells;
      sound = c.in_ok-items.ensures.sound;
    }

pub masked_items-requires : goal.masked_items-requires
masked_items-requires c =
    let full = eqb-false _ 0 (sym c.is_empty.ensures ∙ c.if-is_empty.false) in
    let some : length c.in_ok-below.below.items ≡ 0 → ⊥ = λ none. full (omega (arith, none, c.in_ok-below.below.ok.0)) in
    let kind : Kind = list_kind c.args.width (column_of c.args.item.now) in
    let known = under_below kind c.args.mask.now c.in_ok-below.below.items c.args.runs.now (list_values c.args.width (column_of c.args.item.now)) c.requires.sound c.requires.fits c.in_ok-below.ensures.bits
    c.in_ok-below.ensures.below some in
    subst (λ (bytes : List ℕ). AreUnder kind bytes c.args.runs.now) (sym c.deref.ensures.value) known.under

pub masked_list_offsets-requires : goal.masked_list_offsets-requires
masked_list_offsets-requires c =
    let full = eqb-false _ 0 (sym c.is_empty.ensures ∙ c.if-is_empty.false) in
    let some : length c.in_ok-below.below.items ≡ 0 → ⊥ = λ none. full (omega (arith, none, c.in_ok-below.below.ok.0)) in
    let kind : Kind = list_kind c.args.width (column_of c.args.item.now) in
    let known = under_below kind c.args.mask.now c.in_ok-below.below.items c.args.runs.now (list_values c.args.width (column_of c.args.item.now)) c.requires.sound c.requires.fits c.in_ok-below.ensures.bits
    c.in_ok-below.ensures.below some in
    subst (λ (bytes : List ℕ). AreUnder kind bytes c.args.runs.now) (sym c.deref-2.ensures.value) known.under

pub returns : goal.returns
returns c =
    let full = eqb-false _ 0 (sym c.is_empty.ensures ∙ c.if-is_empty.false) in
    let some : length c.in_ok-below.below.items ≡ 0 → ⊥ = λ none. full (omega (arith, none, c.in_ok-below.below.ok.0)) in
    let kind : Kind = list_kind c.args.width (column_of c.args.item.now) in
    let w : ℕ = width_of c.args.width in
    let known = under_below kind c.args.mask.now c.in_ok-below.below.items c.args.runs.now (list_values c.args.width (column_of c.args.item.now)) c.requires.sound c.requires.fits c.in_ok-below.ensures.bits
    c.in_ok-below.ensures.below some in
    let first = ap (λ (bytes : List ℕ). runs_under kind bytes 0 c.args.runs.now) c.deref.ensures.value ∙ known.cells in
    let second = ap (λ (bytes : List ℕ). runs_under kind bytes 0 c.args.runs.now) c.deref-2.ensures.value ∙ known.cells in
    record {
      batch = c.in_ok-push_buffer-2.ensures
          ∙ ap₂ (λ (p : PlainBatch) (bytes : List ℕ). with_buffer p bytes) c.in_ok-below.ensures.batch (c.in_ok-masked_list_offsets.ensures ∙ ap (list_offsets w) second);
      cells = c.in_ok-items-2.ensures.cells ∙ ap (λ (cells : List Cell). flat_map item_list cells) first;
      sound = c.in_ok-items-2.ensures.sound;
    }
