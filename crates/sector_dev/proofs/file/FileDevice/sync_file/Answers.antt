use Rattle.std.proofs.Common.{◌∙◌, arith}
use Rattle.sector_dev.proofs.Steps.{reads_flushed}
use Rattle.sector_dev.proofs.file.FileDevice.sync_file.Goals as goal

pub invariant_of-self : goal.invariant_of-self
invariant_of-self g c =
    let F = g.F.SectorFile in
    let d = c.flush.new.self in
    record {
      within = let size = c.sync_data.ensures.size in let was = d.within in omega (arith, size, was);
      contents = d.contents;
      sound = λ runs. c.in-Ok-sync_data.ensures.ok.0 ∙ d.sound runs;
      reads = λ runs told. reads_flushed d.ahead.start d.ahead.contents.items (F.story d.file) (F.story c.sync_data.new.self) (c.in-Ok-sync_data.ensures.ok.1 told (d.sound runs)) (d.reads runs told);
    }
