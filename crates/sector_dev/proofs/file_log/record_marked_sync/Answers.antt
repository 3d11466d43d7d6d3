use Rattle.std.proofs.Common.{◌≡◌, ◌∷◌, ℕ, Bool, List, Option, subst}
use Rattle.std.specs.Bool.{OnTrue}
use Rattle.sector_dev.specs.Disk.{now}
use Rattle.sector_dev.specs.FileHistory.{file_story, flushed_where, marked_at}
use Rattle.sector_dev.proofs.FileInMemory.{logged, not_logged, whole_marked}
use Rattle.sector_dev.specs.declared.file_log.FileEvent.TheVariants.{SyncedMarked}
use Rattle.sector_dev.proofs.file_log.record_marked_sync.Goals as goal

pub returns-in-Ok-clause-recorded : goal.returns-in-Ok-clause-recorded
returns-in-Ok-clause-recorded c =
    subst (λ (marks : List Bool). OnTrue c.is_ok.result ((first : List (Option (List ℕ))) → file_story first c.push.new.self.items ≡ flushed_where (marked_at marks) (now (file_story first c.args.log.now.items)) ∷ now (file_story first c.args.log.now.items) ∷ file_story first c.args.log.now.items))
    c.in-Ok.ensures.items (logged c.is_ok.result _ c.args.log.now.items c.push.new.self.items (SyncedMarked c.in-Ok.marks) c.is_ok.ensures.value c.push.ensures.items)

pub returns-in-Ok-clause-whole : goal.returns-in-Ok-clause-whole
returns-in-Ok-clause-whole c =
    whole_marked c.is_ok.result c.args.marks.now c.args.log.now.items c.push.new.self.items (returns-in-Ok-clause-recorded c)
    (not_logged c.is_ok.result _ c.args.log.now.items c.push.new.self.items (SyncedMarked c.in-Ok.marks) c.is_ok.ensures.value c.push.ensures.items)
