use Rattle.arrow_schema.specs.View.{kind_of}
use Rattle.array_build.proofs.RunColumns.{have_validity}
use Rattle.array_build.proofs.flat_runs.build_run_values.Goals as goal

pub push_slots_under-requires-clause-validity : goal.push_slots_under-requires-clause-validity
push_slots_under-requires-clause-validity c = have_validity (kind_of c.args.data_type.now) c.args.runs.now c.requires.sound
