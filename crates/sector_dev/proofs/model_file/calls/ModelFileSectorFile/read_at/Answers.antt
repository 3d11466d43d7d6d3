use Rattle.std.proofs.Common.{◌∙◌, ◌+◌, List, ap, sym}
use Rattle.sector_dev.specs.Disk.{now}
use Rattle.sector_dev.specs.View.{history_of_file}
use Rattle.sector_dev.specs.inner.Stored.{stored_at, shown_in}
use Rattle.sector_dev.specs.laws.FileHistory.{file_newest}
use Rattle.sector_dev.specs.declared.stored.StoredSector.{StoredSector}
use Rattle.sector_dev.proofs.FileInMemory.{reads_row}
use Rattle.sector_dev.proofs.model_file.calls.ModelFileSectorFile.read_at.Goals as goal

pub returns-then-read_row-clause-content : goal.returns-then-read_row-clause-content
returns-then-read_row-clause-content c = λ told sound.
    let d = c.args.self.now in
    reads_row (now (history_of_file d)) c.args.start d.stored.items c.read_row.new.to d.agrees (file_newest d.start.items d.log.items) (λ j lt.
    ap (λ (stored : List StoredSector). shown_in (stored_at stored (c.args.start + j))) (sym c.deref.ensures.value)
    ∙ c.if-read_row.ensures.read j lt)
