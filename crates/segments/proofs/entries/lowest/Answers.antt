use Rattle.std.proofs.Common.{◌≡◌, ◌≤◌, ◌<◌, ◌+◌, ◌∙◌, get_or, length, false, sym, ap, subst, arith}
use Rattle.std.proofs.lemmas.List.{drop_all}
use Rattle.segments.specs.declared.entries.UsageEntry.{UsageEntry}
use Rattle.segments.specs.declared.search_cursor.SearchCursor.{SearchCursor}
use Rattle.segments.specs.Usages.{IsSearched}
use Rattle.segments.proofs.Lowest.{Passed, passed_first, passed_more, passed_searched, next_within, lowest_before, lowest_behind, none_lowest}
use Rattle.segments.proofs.Placed.{ascending}
use Rattle.segments.proofs.entries.lowest.Goals as goal
use Rattle.segments.proofs.entries.lowest.Goals.{then-count-searched, else-count-searched}

pub place_of_start-place-requires : goal.place_of_start-place-requires
place_of_start-place-requires c = ascending 2 c.args.entries.now c.requires.ordered

abbrev none : UsageEntry
none = record { run = record { start = 0; count = 0 }; usage = record { taken = false; pins = 0 } }

pub loop-index-init : goal.loop-index-init
loop-index-init c =
    let size = c.args.size in
    let es = c.args.entries.now in
    let searched = c.if-count-searched.searched in
    let law : IsSearched (record { size = size; entries = es }) searched = elim c.if-count-searched.branch [
      | then-count-searched w ↦ subst (IsSearched (record { size = size; entries = es })) (sym w.searched-is) (w.nothing.ensures.searched (record { size = size; entries = es }))
      | else-count-searched w ↦ subst (IsSearched (record { size = size; entries = es })) (sym w.searched-is) c.requires.searched
    ] in
    let narrow : searched.widest < c.args.count = elim c.if-count-searched.branch [
      | then-count-searched w ↦ subst (λ (s : SearchCursor). s.widest < c.args.count) (sym (w.searched-is ∙ w.nothing.ensures.value)) c.requires.some
      | else-count-searched w ↦ subst (λ (s : SearchCursor). s.widest < c.args.count) (sym w.searched-is) w.if-count-searched.false
    ] in
    record {
      passed = passed_first size es searched c.end_before-searched.result c.place_of_start-place.result c.requires.ordered c.requires.within law c.place_of_start-place.ensures.place c.end_before-searched.ensures;
      narrow = narrow;
    }

pub overflow_sub-gap : goal.overflow_sub-gap
overflow_sub-gap c =
    let lt : c.loop-index.index < length c.args.entries.now = omega (arith, c.len-index-end.ensures, c.loop-index-test.true) in
    let next = next_within c.args.size c.args.entries.now c.loop-index.searched.start c.loop-index.searched.widest c.loop-index.index none c.loop-index.invariant.passed lt in
    subst (λ (e : UsageEntry). c.loop-index.searched.start ≤ e.run.start) (sym (c.get.ensures none)) next.0

pub returns-then-count-gap-clause-lowest : goal.returns-then-count-gap-clause-lowest
returns-then-count-gap-clause-lowest c =
    let lt : c.loop-index.index < length c.args.entries.now = omega (arith, c.len-index-end.ensures, c.loop-index-test.true) in
    let start = c.loop-index.searched.start in
    let next = next_within c.args.size c.args.entries.now start c.loop-index.searched.widest c.loop-index.index none c.loop-index.invariant.passed lt in
    lowest_before c.args.size c.args.entries.now start c.loop-index.searched.widest c.loop-index.index c.args.count none c.requires.ordered c.loop-index.invariant.passed c.loop-index.invariant.narrow lt
    (omega (arith, next.0, c.if-count-gap.true, ap (λ (e : UsageEntry). e.run.start) (c.get.ensures none)))

pub returns-then-count-gap-clause-searched : goal.returns-then-count-gap-clause-searched
returns-then-count-gap-clause-searched c = passed_searched c.args.size c.args.entries.now c.loop-index.searched c.loop-index.index c.requires.ordered c.loop-index.invariant.passed

pub end-searched-requires : goal.end-searched-requires
end-searched-requires c =
    let lt : c.loop-index.index < length c.args.entries.now = omega (arith, c.len-index-end.ensures, c.loop-index-test.true) in
    let next = next_within c.args.size c.args.entries.now c.loop-index.searched.start c.loop-index.searched.widest c.loop-index.index none c.loop-index.invariant.passed lt in
    let ends = subst (λ (e : UsageEntry). e.run.start + e.run.count ≤ c.args.size) (sym (c.get.ensures none)) next.1 in
    omega (arith, ends, c.ranges.size)

pub loop-index-preserved : goal.loop-index-preserved
loop-index-preserved c =
    let lt : c.loop-index.index < length c.args.entries.now = omega (arith, c.len-index-end.ensures, c.loop-index-test.true) in
    let size = c.args.size in
    let es = c.args.entries.now in
    let start = c.loop-index.searched.start in
    let widest = c.loop-index.searched.widest in
    let i = c.loop-index.index in
    let next = next_within size es start widest i none c.loop-index.invariant.passed lt in
    let starts : c.get.result.run.start ≡ (get_or es i none).run.start = ap (λ (e : UsageEntry). e.run.start) (c.get.ensures none) in
    let ends : c.end-searched.result ≡ (get_or es i none).run.start + (get_or es i none).run.count = c.end-searched.ensures ∙ ap (λ (e : UsageEntry). e.run.start + e.run.count) (c.get.ensures none) in
    record {
      passed =
          subst (λ n. Passed size es n c.max-searched.result (i + 1)) (sym ends)
          (passed_more size es start widest i none c.max-searched.result c.loop-index.invariant.passed lt (omega (arith, c.max-searched.ensures))
          (omega (arith, c.max-searched.ensures, starts, next.0)));
      narrow = omega (arith, c.max-searched.ensures, c.if-count-gap.false, c.loop-index.invariant.narrow);
    }

pub returns-then-count-saturating_sub-clause-lowest : goal.returns-then-count-saturating_sub-clause-lowest
returns-then-count-saturating_sub-clause-lowest c =
    lowest_behind c.args.size c.args.entries.now c.loop-index.searched.start c.loop-index.searched.widest c.loop-index.index c.args.count c.requires.ordered c.loop-index.invariant.passed c.loop-index.invariant.narrow
    (drop_all c.loop-index.index c.args.entries.now (omega (arith, c.len-index-end.ensures, c.loop-index-test.false))) (omega arith)

pub returns-then-count-saturating_sub-clause-searched : goal.returns-then-count-saturating_sub-clause-searched
returns-then-count-saturating_sub-clause-searched c = passed_searched c.args.size c.args.entries.now c.loop-index.searched c.loop-index.index c.requires.ordered c.loop-index.invariant.passed

pub returns-else-count-saturating_sub-clause-lowest : goal.returns-else-count-saturating_sub-clause-lowest
returns-else-count-saturating_sub-clause-lowest c =
    none_lowest c.args.size c.args.entries.now c.loop-index.searched.start c.loop-index.searched.widest c.loop-index.index c.args.count c.requires.ordered c.loop-index.invariant.passed c.loop-index.invariant.narrow (omega arith)

pub returns-else-count-saturating_sub-clause-searched : goal.returns-else-count-saturating_sub-clause-searched
returns-else-count-saturating_sub-clause-searched c = passed_searched c.args.size c.args.entries.now c.loop-index.searched c.loop-index.index c.requires.ordered c.loop-index.invariant.passed
