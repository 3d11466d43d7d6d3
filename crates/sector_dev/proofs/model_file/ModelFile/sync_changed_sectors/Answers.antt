use Rattle.std.proofs.Common.{◌∙◌, ◌≡◌, ◌∷◌, Bool, List, ap, length, arith, subst, sym}
use Rattle.sector_dev.specs.Disk.{Story, now, IsSafe}
use Rattle.sector_dev.specs.inner.Stored.{stored_at, settled}
use Rattle.sector_dev.specs.declared.stored.StoredSector.{StoredSector}
use Rattle.sector_dev.specs.laws.FileHistory.{file_newest, marked_safe}
use Rattle.sector_dev.specs.View.{history_of_file}
use Rattle.sector_dev.specs.FileHistory.{file_story, flushed_where, marked_at}
use Rattle.sector_dev.proofs.FileInMemory.{agrees_marked, front}
use Rattle.sector_dev.proofs.model_file.ModelFile.sync_changed_sectors.Goals as goal

pub invariant_of-self-2 : goal.invariant_of-self-2
invariant_of-self-2 c =
    let d = c.args.self.now in
    let len : d.stored.len ≡ length c.make_marked_durable.new.stored = omega arith in
    let s = history_of_file d in
    let recorded = subst (λ (marks : List Bool). file_story d.start.items c.record_marked_sync.new.log.items ≡ flushed_where (marked_at marks) (now s) ∷ now s ∷ s)
    c.deref.ensures.value (c.if-not-record_marked_sync.ensures.recorded d.start.items) in
    record {
      agrees = agrees_marked d.changed.items d.stored.items _ s (file_story d.start.items c.record_marked_sync.new.log.items) d.agrees (file_newest d.start.items d.log.items) recorded (λ n.
          ap (λ (stored : List StoredSector). stored_at stored n) (front c.make_marked_durable.new.stored _ d.stored.len len)
          ∙ c.make_marked_durable.ensures n
          ∙ ap (λ (marks : List Bool). settled (marked_at marks n) (stored_at c.deref_mut.result.now n)) c.deref-2.ensures.value
          ∙ ap (λ (stored : List StoredSector). settled (marked_at d.changed.items n) (stored_at stored n)) c.deref_mut.ensures.value);
      contents = c.record_marked_sync.ensures.whole d.start.items d.contents;
    }

pub returns-clause-changed : goal.returns-clause-changed
returns-clause-changed c n marked =
    let d = c.args.self.now in
    let s = history_of_file d in
    let recorded = subst (λ (marks : List Bool). file_story d.start.items c.record_marked_sync.new.log.items ≡ flushed_where (marked_at marks) (now s) ∷ now s ∷ s)
    c.deref.ensures.value (c.if-not-record_marked_sync.ensures.recorded d.start.items) in
    subst (λ (t : Story). IsSafe (now t) n ((now s).at n).shown) (sym recorded) (marked_safe (marked_at d.changed.items) (now s) n marked)
