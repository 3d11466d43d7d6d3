use Rattle.table_cut.proofs.shared.view_at.Goals as goal

pub returns : goal.returns
returns c = c.array_or.ensures c.args.run.bytes.now c.args.run.dictionaries.now
