use Rattle.std.proofs.Common.{◌≡◌, ◌≤◌, ◌+◌, ◌∙◌, zero, suc, ℕ, List, false, refl, sym, ap, subst, arith}
use Rattle.segments.specs.declared.entries.UsageEntry.{UsageEntry}
use Rattle.segments.proofs.Lowest.{end_at}
use Rattle.segments.specs.inner.Places.{end_before}
use Rattle.segments.proofs.entries.end_before.Goals as goal

abbrev none : UsageEntry
none = record { run = record { start = 0; count = 0 }; usage = record { taken = false; pins = 0 } }

pub end-requires : goal.end-requires
end-requires c =
    let at = end_at c.args.size 2 c.args.entries.now c.args.place none c.requires.within c.if-place-gt0.true c.requires.place in
    let ends = subst (λ (e : UsageEntry). e.run.start + e.run.count ≤ c.args.size) (sym (c.get.ensures none)) at.1 in
    omega (arith, ends, c.ranges.size)

pub returns-then-place-gt0 : goal.returns-then-place-gt0
returns-then-place-gt0 c =
    c.end.ensures ∙ ap (λ (e : UsageEntry). e.run.start + e.run.count) (c.get.ensures none)
    ∙ (end_at c.args.size 2 c.args.entries.now c.args.place none c.requires.within c.if-place-gt0.true c.requires.place).0

-- at the first place
first : (es : List UsageEntry) (place : ℕ) → place ≤ 0 → 2 ≡ end_before 2 es place
first es zero le = refl
first es (suc place) le = absurd (omega arith)

pub returns-else-place-gt0 : goal.returns-else-place-gt0
returns-else-place-gt0 c = first c.args.entries.now c.args.place c.if-place-gt0.false
