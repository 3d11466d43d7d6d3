use Rattle.std.proofs.Common.{◌<◌, ◌+◌, ◌-◌, ◌/◌, ℕ, length, sym, ap, ◌∙◌, arith}
use Rattle.catalogue.specs.laws.Order.{order}
use Rattle.catalogue.proofs.Halves.{passed_here, found_here, stopped_here}
use Rattle.catalogue.proofs.places.seat_of.Goals as goal

pub loop-low-preserved-in-Less : goal.loop-low-preserved-in-Less
loop-low-preserved-in-Less c =
    let i = c.loop-low.invariant in
    let o = i.order in
    let w = i.within in
    let t = c.loop-low-test.true in
    let middle : ℕ = c.loop-low.low + (c.loop-low.high - c.loop-low.low) / 2 in
    let within : middle < length c.args.entries.now = omega (arith, o, w, t) in
    let e = c.index-entries-middle.result in
    record {
      order = omega (arith, o, w, t);
      within = w;
      less = passed_here c.args.entries.now c.args.name.now middle e within c.index-entries-middle.is c.requires
          (ap (λ n. order n c.args.name.now) (sym c.name.ensures) ∙ sym c.cmp.ensures ∙ c.in-Less.is);
      greater = i.greater;
    }

pub returns-in-Equal : goal.returns-in-Equal
returns-in-Equal c =
    let i = c.loop-low.invariant in
    let o = i.order in
    let w = i.within in
    let t = c.loop-low-test.true in
    let middle : ℕ = c.loop-low.low + (c.loop-low.high - c.loop-low.low) / 2 in
    let within : middle < length c.args.entries.now = omega (arith, o, w, t) in
    found_here c.args.entries.now c.args.name.now middle c.index-entries-middle.result within c.index-entries-middle.is c.requires
    (ap (λ n. order n c.args.name.now) (sym c.name.ensures) ∙ sym c.cmp.ensures ∙ c.in-Equal.is)

pub loop-low-preserved : goal.loop-low-preserved
loop-low-preserved c =
    let i = c.loop-low.invariant in
    let o = i.order in
    let w = i.within in
    let t = c.loop-low-test.true in
    let middle : ℕ = c.loop-low.low + (c.loop-low.high - c.loop-low.low) / 2 in
    let within : middle < length c.args.entries.now = omega (arith, o, w, t) in
    record {
      order = omega (arith, o, w, t);
      within = omega (arith, o, w, t);
      less = i.less;
      greater = stopped_here c.args.entries.now c.args.name.now middle c.index-entries-middle.result within c.index-entries-middle.is
          (ap (λ n. order n c.args.name.now) (sym c.name.ensures) ∙ sym c.cmp.ensures ∙ c.in-Greater.is);
    }
