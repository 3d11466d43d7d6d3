use Rattle.std.proofs.Common.{IfSome, subst, ap, sym, ◌∙◌, ℕ, List, [], ◌∷◌, Option, None}
use Rattle.sector_dev.specs.History.{all_synced, content_at}
use Rattle.sector_dev.specs.FileHistory.{file_first}
use Rattle.sector_dev.specs.inner.Stored.{stored_at}
use Rattle.sector_dev.specs.declared.stored.StoredSector.{StoredSector}
use Rattle.sector_dev.specs.Disk.{IsContent}
use Rattle.sector_dev.proofs.FileInMemory.{agrees_made, made_whole}
use Rattle.sector_dev.proofs.Recorded.{zeros_content}
use Rattle.sector_dev.proofs.model_file.ModelFile.new.Goals as goal

pub invariant_of-result : goal.invariant_of-result
invariant_of-result c = record {
  agrees = agrees_made c.new.result.items c.new-2.result.items c.new-3.result.items c.new-2.ensures.items (λ n.
      ap (λ (stored : List StoredSector). stored_at stored n) c.new-3.ensures.items
      ∙ ap (λ (start : List (Option (List ℕ))). record { synced = content_at start n; newest = None }) (sym c.new.ensures.items));
  contents = made_whole c.new.result.items c.new-2.result.items c.new-2.ensures.items (λ n.
      subst (λ (start : List (Option (List ℕ))). IfSome (content_at start n) IsContent) (sym c.new.ensures.items) zeros_content);
}

pub returns-clause-zeros : goal.returns-clause-zeros
returns-clause-zeros c =
    file_first c.new.result.items c.new-2.result.items c.new-2.ensures.items
    ∙ ap (λ (start : List (Option (List ℕ))). all_synced (content_at start) ∷ []) c.new.ensures.items
