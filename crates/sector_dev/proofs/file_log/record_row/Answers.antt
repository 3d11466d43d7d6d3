use Rattle.std.proofs.Common.{◌≡◌, ◌∙◌, List, Option, ℕ, subst, sym}
use Rattle.std.specs.Prelude.{is_ok}
use Rattle.std.specs.Bool.{OnTrue}
use Rattle.sector_dev.specs.Rows.{row_from, grown}
use Rattle.sector_dev.specs.FileHistory.{file_story}
use Rattle.sector_dev.proofs.FileInMemory.{logged, not_logged, row_is, whole_logged}
use Rattle.sector_dev.specs.declared.file_log.FileEvent.TheVariants.{Wrote}
use Rattle.sector_dev.proofs.file_log.record_row.Goals as goal

pub returns-clause-recorded : goal.returns-clause-recorded
returns-clause-recorded c =
    subst (λ (cs : List (List ℕ)). OnTrue c.is_ok.result ((first : List (Option (List ℕ))) → file_story first c.push.new.self.items ≡ grown (row_from c.args.start cs) (file_story first c.args.log.now.items)))
    (row_is (is_ok c.extend_from_slice.result) c.extend_from_slice.new.self.items c.new-row.result.items c.args.contents.now c.extend_from_slice.ensures.items (sym c.is_ok-copied.ensures.value ∙ c.if-not-copied.false) c.new-row.ensures.items)
    (logged c.is_ok.result _ c.args.log.now.items c.push.new.self.items (Wrote c.args.start c.extend_from_slice.new.self) c.is_ok.ensures.value c.push.ensures.items)

pub returns-clause-whole : goal.returns-clause-whole
returns-clause-whole c =
    whole_logged c.is_ok.result c.args.start c.args.contents.now c.args.log.now.items c.push.new.self.items (returns-clause-recorded c)
    (not_logged c.is_ok.result _ c.args.log.now.items c.push.new.self.items (Wrote c.args.start c.extend_from_slice.new.self) c.is_ok.ensures.value c.push.ensures.items)
    c.have_bytes.ensures
