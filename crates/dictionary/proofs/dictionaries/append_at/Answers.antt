use Rattle.dictionary.proofs.Grown.{longer_if_ok, unchanged_if_err}
use Rattle.dictionary.proofs.dictionaries.append_at.Goals as goal

pub returns-clause-unchanged : goal.returns-clause-unchanged
returns-clause-unchanged c =
    unchanged_if_err c.push.result c.args.lists.now.items c.args.number c.index_mut-list.result.now c.push.new.self c.requires c.index_mut-list.ensures.value c.push.ensures.unchanged

pub returns-clause-longer : goal.returns-clause-longer
returns-clause-longer c =
    longer_if_ok c.push.result c.args.lists.now.items c.args.number c.index_mut-list.result.now c.push.new.self c.args.array c.requires c.index_mut-list.ensures.value c.push.ensures.longer
