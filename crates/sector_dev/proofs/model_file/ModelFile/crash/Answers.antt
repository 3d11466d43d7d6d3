use Rattle.std.proofs.Common.{ap, sym, ◌∙◌, ◌≡◌, ℕ, List, [], ◌∷◌, Option, None, subst}
use Rattle.sector_dev.specs.Disk.{Story, Image, now, shown_image, MayLeave}
use Rattle.sector_dev.specs.Chosen.{IsChosen}
use Rattle.sector_dev.specs.History.{all_synced, content_at}
use Rattle.sector_dev.specs.FileHistory.{file_first}
use Rattle.sector_dev.specs.View.{history_of_file, sectors_of_file}
use Rattle.sector_dev.specs.declared.stored.StoredSector.{StoredSector}
use Rattle.sector_dev.specs.laws.Crash.{left_whole}
use Rattle.sector_dev.specs.laws.Stories.{now_whole}
use Rattle.sector_dev.proofs.FileInMemory.{agrees_made, made_whole}
use Rattle.sector_dev.proofs.Crashed.{Leaves, leaves_allowed, leaves_chosen}
use Rattle.sector_dev.proofs.model_file.ModelFile.crash.Goals as goal

-- what a device with no call yet shows
shows_first : (start : List (Option (List ℕ))) (s : Story) → s ≡ all_synced (content_at start) ∷ [] → shown_image (now s) ≡ content_at start
unfolding all_synced
shows_first start s is = ap (λ (t : Story). shown_image (now t)) is

pub invariant_of-result : goal.invariant_of-result
invariant_of-result c =
    let d = c.args.self.now in
    let start = c.in_ok-start.start.items in
    let leaves = subst (λ (stored : List StoredSector). Leaves c.args.choice stored (content_at start)) c.deref.ensures.value c.in_ok-start.ensures in
    record {
      agrees = agrees_made start c.new.result.items c.in_ok-stored.stored.items c.new.ensures.items (λ n. c.in_ok-stored.ensures n ∙ ap (λ (start : List (Option (List ℕ))). record { synced = content_at start n; newest = None }) c.deref-2.ensures.value);
      contents = made_whole start c.new.result.items c.new.ensures.items (left_whole (now (history_of_file d)) (content_at start) (now_whole (history_of_file d) d.contents) (leaves_allowed c.args.choice d.stored.items (now (history_of_file d)) (content_at start) d.agrees leaves));
    }

pub returns-clause-synced : goal.returns-clause-synced
returns-clause-synced c =
    let first = file_first c.in_ok-start.start.items c.new.result.items c.new.ensures.items in
    first ∙ ap (λ (image : Image). all_synced image ∷ []) (sym (shows_first c.in_ok-start.start.items _ first))

pub returns-clause-allowed : goal.returns-clause-allowed
returns-clause-allowed c =
    let d = c.args.self.now in
    let start = c.in_ok-start.start.items in
    let leaves = subst (λ (stored : List StoredSector). Leaves c.args.choice stored (content_at start)) c.deref.ensures.value c.in_ok-start.ensures in
    subst (λ (image : Image). MayLeave (now (history_of_file d)) image) (sym (shows_first start _ (file_first start c.new.result.items c.new.ensures.items)))
    (leaves_allowed c.args.choice d.stored.items (now (history_of_file d)) (content_at start) d.agrees leaves)

pub returns-clause-chosen : goal.returns-clause-chosen
returns-clause-chosen c =
    let d = c.args.self.now in
    let start = c.in_ok-start.start.items in
    let leaves = subst (λ (stored : List StoredSector). Leaves c.args.choice stored (content_at start)) c.deref.ensures.value c.in_ok-start.ensures in
    subst (λ (image : Image). IsChosen c.args.choice (now (history_of_file d)) (sectors_of_file d) image) (sym (shows_first start _ (file_first start c.new.result.items c.new.ensures.items)))
    (leaves_chosen c.args.choice d.stored.items (now (history_of_file d)) (sectors_of_file d) (content_at start) d.agrees leaves)
