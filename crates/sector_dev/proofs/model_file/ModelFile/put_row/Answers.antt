use Rattle.std.proofs.Common.{◌∙◌, ◌≡◌, List, ap, length, arith}
use Rattle.sector_dev.specs.inner.Stored.{stored_at}
use Rattle.sector_dev.specs.declared.stored.StoredSector.{StoredSector}
use Rattle.sector_dev.specs.View.{history_of_file}
use Rattle.sector_dev.specs.FileHistory.{file_story}
use Rattle.sector_dev.proofs.FileInMemory.{row_written, front}
use Rattle.sector_dev.proofs.model_file.ModelFile.put_row.Goals as goal

pub invariant_of-self-2 : goal.invariant_of-self-2
invariant_of-self-2 c =
    let d = c.args.self.now in
    let len : c.make_room.new.stored.len ≡ length c.set_row.new.stored = omega arith in
    record {
      agrees = row_written (history_of_file d) (file_story d.start.items c.make_room.new.log.items) c.args.start c.args.contents.now d.stored.items c.deref_mut.result.now c.set_row.new.stored _ d.agrees
          (λ n. ap (λ (stored : List StoredSector). stored_at stored n) c.deref_mut.ensures.value ∙ c.make_room.ensures.same n)
          c.set_row.ensures (front c.set_row.new.stored _ c.make_room.new.stored.len len) (c.if-not-make_room.ensures.recorded d.start.items);
      contents = c.make_room.ensures.whole d.start.items d.contents;
    }
