use Rattle.std.proofs.Common.{◌∙◌, ◌≡◌, List, ap, length, arith, subst, sym}
use Rattle.sector_dev.specs.Disk.{Story, now, IsSafe}
use Rattle.sector_dev.specs.inner.Stored.{stored_at, synced_now}
use Rattle.sector_dev.specs.declared.stored.StoredSector.{StoredSector}
use Rattle.sector_dev.specs.laws.Crash.{leaves_flushed}
use Rattle.sector_dev.specs.laws.FileHistory.{file_newest}
use Rattle.sector_dev.specs.View.{history_of_file}
use Rattle.sector_dev.specs.FileHistory.{file_story}
use Rattle.sector_dev.proofs.Agreement.{agrees_flushed}
use Rattle.sector_dev.proofs.FileInMemory.{front}
use Rattle.sector_dev.proofs.model_file.ModelFile.sync_all_sectors.Goals as goal

pub invariant_of-self-2 : goal.invariant_of-self-2
invariant_of-self-2 c =
    let d = c.args.self.now in
    let len : d.stored.len ≡ length c.make_durable.new.stored = omega arith in
    record {
      agrees = agrees_flushed d.stored.items _ (history_of_file d) (file_story d.start.items c.record_sync.new.log.items) d.agrees (file_newest d.start.items d.log.items) (c.if-not-record_sync.ensures.recorded d.start.items) (λ n.
          ap (λ (stored : List StoredSector). stored_at stored n) (front c.make_durable.new.stored _ d.stored.len len)
          ∙ c.make_durable.ensures n
          ∙ ap (λ (stored : List StoredSector). synced_now (stored_at stored n)) c.deref_mut.ensures.value);
      contents = c.record_sync.ensures.whole d.start.items d.contents;
    }

pub returns-clause-safe : goal.returns-clause-safe
returns-clause-safe c n =
    let d = c.args.self.now in
    subst (λ (s : Story). IsSafe (now s) n ((now (history_of_file d)).at n).shown) (sym (c.if-not-record_sync.ensures.recorded d.start.items))
    (λ image may. leaves_flushed (now (history_of_file d)) image n may)
