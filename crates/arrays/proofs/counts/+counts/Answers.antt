use Rattle.facts.specs.laws.Lists.{drop-item}
use Rattle.arrays.proofs.Counted.{field_nodes, field_buffers, field_dictionaries, next_counted}
use Rattle.arrays.proofs.counts.+counts.Goals as goal

pub counts_of-loop-field-preserved : goal.counts_of-loop-field-preserved
counts_of-loop-field-preserved t c =
    let fs = c.args.fields.now in
    let i = c.loop-field.field-index in
    let f = c.field-item.result in
    let item = drop-item fs i f c.loop-field-test.true c.field-item.is in
    let nodes = next_counted _ _ _ _ _ _ _ c.loop-field.invariant.nodes (field_nodes fs i f item) c.column_counts.ensures.nodes c.sum-all.ensures.nodes in
    let buffers = next_counted _ _ _ _ _ _ _ c.loop-field.invariant.buffers (field_buffers fs i f item) c.column_counts.ensures.buffers c.sum-all.ensures.buffers in
    let dictionaries = next_counted _ _ _ _ _ _ _ c.loop-field.invariant.dictionaries (field_dictionaries fs i f item) c.column_counts.ensures.dictionaries c.sum-all.ensures.dictionaries in
    record { nodes = nodes.0; buffers = buffers.0; dictionaries = dictionaries.0; few_nodes = nodes.1; few_buffers = buffers.1; few_dictionaries = dictionaries.1 }
