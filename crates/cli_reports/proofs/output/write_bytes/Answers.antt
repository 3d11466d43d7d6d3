use Rattle.std.proofs.Common.{length, take, drop, arith, ap, ◌+◌, ◌-◌}
use Rattle.std.proofs.KnownBytes.{Keeps-refl, Appends-kept}
use Rattle.std.proofs.lemmas.List.{length-drop, take_all}
use Rattle.cli_reports.proofs.OutputLemmas.{front_taken, more_taken}
use Rattle.cli_reports.proofs.output.write_bytes.Goals.{in-Ok, in-Err+else-ne}
use Rattle.cli_reports.proofs.output.write_bytes.Goals as goal

pub returns-in-Ok-eq0-clause-front : goal.returns-in-Ok-eq0-clause-front
returns-in-Ok-eq0-clause-front g c =
    let so_far = more_taken _ _ _ c.args.bytes.now c.loop.written c.loop.invariant.so_far c.in-Ok-eq0.field-0 c.in-Ok-eq0.ensures.bytes in
    front_taken _ _ _ c.args.bytes.now (c.loop.written + c.in-Ok-eq0.field-0) so_far (Keeps-refl _)

pub returns-then-ne-clause-front : goal.returns-then-ne-clause-front
returns-then-ne-clause-front g c = front_taken _ _ _ c.args.bytes.now c.loop.written c.loop.invariant.so_far c.in-Err.ensures.bytes

pub loop-preserved : goal.loop-preserved
loop-preserved g c = elim c.match-write.branch [
  | in-Ok w ↦ record {
    within = let bytes = c.args.bytes.now in
        omega (arith, w.written-is, c.loop.invariant.within, w.in-Ok.ensures.bound, length-drop c.loop.written bytes, ap length (take_all (length bytes - c.loop.written) (drop c.loop.written bytes) (omega (arith, length-drop c.loop.written bytes))));
    so_far = rw w.written-is (more_taken _ _ _ c.args.bytes.now c.loop.written c.loop.invariant.so_far w.in-Ok.taken w.in-Ok.ensures.bytes);
  }
  | in-Err+else-ne w ↦ record {
    within = omega (arith, w.written-is, c.loop.invariant.within);
    so_far = rw w.written-is (Appends-kept _ _ _ (take c.loop.written c.args.bytes.now) c.loop.invariant.so_far w.in-Err.ensures.bytes);
  }
]

pub returns-clause-front : goal.returns-clause-front
returns-clause-front g c = front_taken _ _ _ c.args.bytes.now c.loop.written c.loop.invariant.so_far (Keeps-refl _)
