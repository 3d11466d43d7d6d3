use Rattle.std.proofs.Common.{◌∙◌, arith}
use Rattle.values.specs.inner.Starts.{part_lengths, batch_lengths_at}
use Rattle.values.proofs.PartLemmas.{many_parts, rest_in_part}
use Rattle.values.proofs.batches.Batches.find.Goals as goal

pub part_start-requires : goal.part_start-requires
part_start-requires c =
    let parts = c.args.self.now.parts.items in
    let found = c.run_near-part.ensures (part_lengths parts) (c.deref.ensures.value ∙ c.args.self.now.parts_start) c.requires in
    omega (arith, found.there, many_parts parts)

pub overflow_sub-rest : goal.overflow_sub-rest
overflow_sub-rest c =
    let parts = c.args.self.now.parts.items in
    let found = c.run_near-part.ensures (part_lengths parts) (c.deref.ensures.value ∙ c.args.self.now.parts_start) c.requires in
    omega (arith, found.low, c.part_start.ensures)

pub starts_in-requires : goal.starts_in-requires
starts_in-requires c =
    let parts = c.args.self.now.parts.items in
    let found = c.run_near-part.ensures (part_lengths parts) (c.deref.ensures.value ∙ c.args.self.now.parts_start) c.requires in
    omega (arith, found.there, many_parts parts)

pub returns : goal.returns
returns c =
    let parts = c.args.self.now.parts.items in
    let found = c.run_near-part.ensures (part_lengths parts) (c.deref.ensures.value ∙ c.args.self.now.parts_start) c.requires in
    let rest = rest_in_part parts c.run_near-part.result c.args.row found in
    let batch = c.run_near-batch.ensures (batch_lengths_at parts c.run_near-part.result) c.starts_in.ensures (rw c.part_start.ensures rest) in
    record { in_part = found; in_batch = rw (← c.part_start.ensures) batch }
