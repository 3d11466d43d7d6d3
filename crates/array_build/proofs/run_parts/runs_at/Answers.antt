use Rattle.std.proofs.Common.{List, arith, drop, subst, sym}
use Rattle.std.proofs.lemmas.List.{drop_all}
use Rattle.array_build.proofs.RunParts.{ArePartsLeft, no_part_yet, part_more, is_part}
use Rattle.array_build.proofs.run_parts.runs_at.Goals as goal
use Rattle.columns.specs.declared.slot_runs.SlotRun.{SlotRun}
use Rattle.facts.specs.laws.Lists.{drop-item}

pub loop-run-init : goal.loop-run-init
loop-run-init c = record {
  parts = subst (λ (xs : List SlotRun). ArePartsLeft c.args.place c.args.runs.now c.args.runs.now xs) (sym c.in_ok-parts.ensures.items) (no_part_yet c.args.place c.args.runs.now);
  len = c.in_ok-parts.ensures.len;
  room = omega (arith, c.in_ok-parts.ensures.capacity);
}

pub push_reserved-requires : goal.push_reserved-requires
push_reserved-requires c = omega (arith, c.loop-run-test.true, c.loop-run.invariant.len, c.loop-run.invariant.room)

pub loop-run-preserved : goal.loop-run-preserved
loop-run-preserved c =
    let item = drop-item c.args.runs.now c.loop-run.run-index c.run-item.result c.loop-run-test.true c.run-item.is in
    record {
      parts = part_more c.args.place c.args.runs.now _ _ c.run-item.result c.part_run.result c.loop-run.parts.items c.push_reserved.new.self.items item c.push_reserved.ensures.items
          c.part_run.ensures c.loop-run.invariant.parts;
      len = omega (arith, c.push_reserved.ensures.len, c.loop-run.invariant.len);
      room = omega (arith, c.push_reserved.ensures.capacity, c.loop-run.invariant.room);
    }

pub returns : goal.returns
returns c =
    is_part c.args.place c.args.runs.now (drop c.loop-run.run-index c.args.runs.now) c.loop-run.parts.items (drop_all c.loop-run.run-index c.args.runs.now c.loop-run-test.false)
    c.loop-run.invariant.parts
