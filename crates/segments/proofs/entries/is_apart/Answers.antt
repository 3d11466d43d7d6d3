use Rattle.std.proofs.Common.{◌≡◌, ◌≤◌, ◌<◌, ◌+◌, ◌-◌, ℕ, suc, length, get_or, false, refl, sym, ap, ◌∙◌, subst, arith}
use Rattle.std.proofs.lemmas.Bool.{false≢true}
use Rattle.segments.specs.declared.entries.UsageEntry.{UsageEntry}
use Rattle.segments.specs.Runs.{IsApart}
use Rattle.segments.specs.laws.Runs.{swapped}
use Rattle.segments.specs.inner.Places.{place_of}
use Rattle.segments.proofs.Placed.{ascending, apart_at, some_at, below_place, at_place, gap_apart, ends_by, meets}
use Rattle.segments.proofs.entries.is_apart.Goals as goal
use Rattle.segments.proofs.entries.is_apart.Goals.{else-place-gt0-via-then-place-gt0+else-contains, else-place-gt0-via-else-place-gt0, else-place-len-via-then-place-len+else-contains-2, else-place-len-via-else-place-len}

pub place_of_start-place-requires : goal.place_of_start-place-requires
place_of_start-place-requires c = ascending 2 c.args.entries.now c.requires.ordered

abbrev none : UsageEntry
none = record { run = record { start = 0; count = 0 }; usage = record { taken = false; pins = 0 } }

pub returns-then-contains : goal.returns-then-contains
returns-then-contains c =
    let within : c.place_of_start-place.result - 1 < length c.args.entries.now = omega arith in
    let starts = c.contains.ensures.0 c.if-contains.true in (
      λ is. absurd (false≢true is),
      λ apart.
          absurd (meets c.get.result.run c.args.run c.args.run.start (λ i. c.args.run.start) starts.0 starts.1 c.requires.some
          (subst (λ (e : UsageEntry). IsApart c.args.run e.run) (sym (c.get.ensures none)) (apart_at c.args.run c.args.entries.now (c.place_of_start-place.result - 1) none apart within))),
    )

pub returns-then-contains-2 : goal.returns-then-contains-2
returns-then-contains-2 c =
    let es = c.args.entries.now in
    let place = c.place_of_start-place.result in
    let at = c.get-then-place-len.result in
    let is = sym (c.get-then-place-len.ensures none) in
    let within : place < length es = omega arith in
    let starts = c.contains-then-place-len.ensures.0 c.if-contains-2.true in (
      λ is'. absurd (false≢true is'),
      λ apart.
          absurd (meets c.args.run at.run at.run.start (λ i. at.run.start) starts.0 starts.1 (subst (λ (e : UsageEntry). 1 ≤ e.run.count) is (some_at 2 es place none c.requires.ordered within))
          (swapped c.args.run at.run (subst (λ (e : UsageEntry). IsApart c.args.run e.run) is (apart_at c.args.run es place none apart within)))),
    )

pub returns : goal.returns
returns c =
    let es = c.args.entries.now in
    let run = c.args.run in
    let place = c.place_of_start-place.ensures.place in
    let before : (k : ℕ) → suc k ≡ place_of run.start es → (get_or es k none).run.start + (get_or es k none).run.count ≤ run.start =
    λ k is. elim c.else-place-gt0.branch [
      | else-place-gt0-via-then-place-gt0+else-contains w ↦
          let at : c.place_of_start-place.result - 1 ≡ k = omega arith in
          let low = below_place run.start es k none (omega arith) in
          let is : w.get.result ≡ get_or es k none = w.get.ensures none ∙ ap (λ n. get_or es n none) at in
          subst (λ (e : UsageEntry). e.run.start + e.run.count ≤ run.start) is
          (ends_by w.get.result.run run.start w.contains.result w.contains.ensures w.if-contains.false (subst (λ (e : UsageEntry). e.run.start ≤ run.start) (sym is) (omega arith)))
      | else-place-gt0-via-else-place-gt0 w ↦ omega arith
    ]
    in
    let after : (k : ℕ) → k ≡ place_of run.start es → k < length es → run.start + run.count ≤ (get_or es k none).run.start =
    λ k is lt. elim c.else-place-len.branch [
      | else-place-len-via-then-place-len+else-contains-2 w ↦
          let at : c.place_of_start-place.result ≡ k = omega arith in
          let is : w.get-then-place-len.result ≡ get_or es k none = w.get-then-place-len.ensures none ∙ ap (λ n. get_or es n none) at in
          let low : run.start ≤ (get_or es k none).run.start = subst (λ n. run.start ≤ (get_or es n none).run.start) (sym place ∙ at) (at_place run.start es none (omega arith)) in
          subst (λ (e : UsageEntry). run.start + run.count ≤ e.run.start) is
          (ends_by run w.get-then-place-len.result.run.start w.contains-then-place-len.result w.contains-then-place-len.ensures w.if-contains-2.false (subst (λ (e : UsageEntry). run.start ≤ e.run.start) (sym is) low))
      | else-place-len-via-else-place-len w ↦ omega arith
    ]
    in (λ _. gap_apart run 2 es none c.requires.ordered before after, λ _. refl)
