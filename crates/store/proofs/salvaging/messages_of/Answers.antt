use Rattle.sector_dev.specs.Disk.{now, shown_image}
use Rattle.store.proofs.Salvaged.{finds_rows, lost_rows, fails_else, of_segment_quiet, reads_all_the_same}
use Rattle.std.proofs.Common.{◌∙◌, sym}
use Rattle.store.proofs.salvaging.messages_of.Goals as goal

pub returns-in-Ok-clause-found : goal.returns-in-Ok-clause-found
returns-in-Ok-clause-found g c =
    let D = g.D.SectorDevice in
    λ s within message. finds_rows D.tells (shown_image (now (D.story c.args.device.now))) s c.args.segment _ (c.in-Ok.ensures.piece s within message)

pub returns-then-is_of_segment-clause-found : goal.returns-then-is_of_segment-clause-found
returns-then-is_of_segment-clause-found g c =
    let D = g.D.SectorDevice in
    λ s within message. lost_rows D.tells (shown_image (now (D.story c.args.device.now))) s c.args.segment c.args.place c.in-Err.refusal (c.in-Err.ensures.told s message)
    (sym c.is_of_segment.ensures ∙ c.if-is_of_segment.true)

pub returns-then-is_of_segment-clause-reads : goal.returns-then-is_of_segment-clause-reads
returns-then-is_of_segment-clause-reads g c =
    let D = g.D.SectorDevice in
    reads_all_the_same D.size D.story D.failed D.tells c.in-Err.refusal c.args.device.now c.read_piece.new.device
    (of_segment_quiet c.in-Err.refusal (sym c.is_of_segment.ensures ∙ c.if-is_of_segment.true)) c.in-Err.ensures.reads

pub returns-else-is_of_segment-clause-fails : goal.returns-else-is_of_segment-clause-fails
returns-else-is_of_segment-clause-fails g c =
    let D = g.D.SectorDevice in
    λ s message. fails_else D.tells (shown_image (now (D.story c.args.device.now))) s c.args.segment c.args.place c.in-Err.refusal (c.in-Err.ensures.told s message)
    (sym c.is_of_segment.ensures ∙ c.if-is_of_segment.false)
