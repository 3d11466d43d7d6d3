use Rattle.std.specs.Prelude.{Ok, Err}
use Rattle.std.proofs.Common.{◌≡◌, ◌∙◌, length, arith, refl}
use Rattle.cli_commands.proofs.CompactingLemmas.{few_steps, none_so_far, so_far_more, ends_with_nothing, ends_refused, ends_at_limit, below_limit, limited, stopped}
use Rattle.cli_commands.proofs.compacting.take_steps.Goals as goal

pub loop-count-init : goal.loop-count-init
loop-count-init g c = none_so_far c.args.store.now

pub loop-count-preserved : goal.loop-count-preserved
loop-count-preserved g c =
    let e = c.in-Ok.ensures in
    so_far_more c.loop-count.count c.args.store.now c.loop-count.store c.compact_step.new.self c.in-Ok.done c.loop-count.invariant c.in_default.not-Nothing e.goes e.step e.shrinks e.halted e.halts e.size e.count e.book
    e.writes e.written e.tables e.listed

pub returns-in-Nothing-clause-done : goal.returns-in-Nothing-clause-done
returns-in-Nothing-clause-done g c =
    let e = c.in-Ok.ensures in
    let so =
    ends_with_nothing c.loop-count.count c.args.store.now c.loop-count.store c.compact_step.new.self c.in-Ok.done c.in-Nothing.is c.loop-count.invariant e.goes e.step (e.still (rw c.in-Nothing.is refl))
    e.halted e.halts e.size e.count e.book e.tables e.listed in
    (so.0, so.1, limited c.args.limit so.0 (Ok tt) c.args.store.now c.compact_step.new.self (below_limit so.1 c.loop-count-test.true c.unwrap_or-most.ensures) so.2)

pub returns-in-Err-clause-refused : goal.returns-in-Err-clause-refused
returns-in-Err-clause-refused g c =
    let e = c.in-Err.ensures in
    let so =
    ends_refused c.loop-count.count c.args.store.now c.loop-count.store c.compact_step.new.self c.in-Err.refusal c.loop-count.invariant e.refused
    (record { told = e.told; kept = e.kept; reads = e.reads; writes = e.writes; each_table = e.tables }) e.halted e.same e.halts e.size e.count e.book e.listed in
    (so.0, limited c.args.limit so.0 (Err c.in-Err.refusal) c.args.store.now c.compact_step.new.self (below_limit so.1 c.loop-count-test.true c.unwrap_or-most.ensures) so.2)

pub returns-clause-done : goal.returns-clause-done
returns-clause-done g c =
    let so = c.loop-count.invariant in
    let end = ends_at_limit c.loop-count.count c.args.store.now c.loop-count.store so in
    let bound = c.loop-count.auto.count-end in
    let reached = c.loop-count-test.false in
    let all : length end.0 ≡ c.unwrap_or-most.result = end.1 ∙ omega (arith, bound, reached) in
    let few = few_steps c.args.store.now so.taken c.loop-count.store so.steps in
    let counted = so.counted_so in
    let same = end.1 in
    (end.0, all, stopped c.args.limit end.0 c.args.store.now c.loop-count.store (omega (arith, few, counted, same)) (all ∙ c.unwrap_or-most.ensures) end.2)
