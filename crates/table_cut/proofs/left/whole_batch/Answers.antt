use Rattle.table_cut.proofs.RunSteps.{rows_placed, sound_placed}
use Rattle.table_cut.proofs.left.whole_batch.Goals as goal

pub returns : goal.returns
returns c =
    let p = c.args.part.now in
    record {
      rows = λ cs. rows_placed cs c.args.rows c.deref.result.now p.bytes.items c.deref-2.result.now p.dictionaries.items c.args.arrays.now c.deref.ensures.value c.deref-2.ensures.value;
      sound = λ cs. sound_placed cs c.args.rows c.deref.result.now p.bytes.items c.deref-2.result.now p.dictionaries.items c.args.arrays.now c.deref.ensures.value c.deref-2.ensures.value;
    }
