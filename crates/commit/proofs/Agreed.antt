-- A formatting and each stop leave commit sectors that agree.
use Rattle.std.specs.Prelude.{◌≡◌, ◌≢◌, ◌⊎◌, ◌<◌, ◌+◌, ◌^◌, ◌%◌, ◌||◌, ℕ, true, false, Some, None, refl}
use Rattle.std.proofs.Common.{ap, ◌∙◌, subst, inl, inr, ⊎_elim, arith}
use Rattle.std.proofs.lemmas.Bool.{cases_eq}
use Rattle.std.proofs.lemmas.Bool.Decides.{nat_tests}
use Rattle.std.specs.Cmp.Lexicographic.{bytes_decides}
use Rattle.sector_dev.specs.Disk.{Disk, Image, synced_image}
use Rattle.sector_dev.specs.History.{zeros}
use Rattle.commit.specs.declared.agreeing.CommitSector.TheVariants.{Empty, Holds}
use Rattle.commit.specs.declared.sector.Commit.{Commit}
use Rattle.commit.specs.declared.sector.FormatVersion.{FormatVersion}
use Rattle.commit.specs.Sector.{commit_at, commit_text, IsCommit}
use Rattle.commit.specs.Ruling.{ruling}
use Rattle.commit.specs.Agreeing.{content_at, is_next, agree, commits_agree}
use Rattle.commit.specs.Formatting.{IsMadeEmpty, first_commit}
use Rattle.commit.specs.Publishing.{MayHoldCommit}
use Rattle.commit.specs.laws.Agreeing.{holds_commit, holds_other, holds_lost, same_agreement, agreement_of}
use Rattle.commit.specs.laws.Sectors.{found_again}
use Rattle.commit.proofs.Rules.{rules_in}
use Rattle.commit.proofs.Formatted.{zeros_keep}

-- zeros are empty
zeros_hold : content_at 0 (Some zeros) ≡ Empty
zeros_hold = holds_other 0 zeros true (zeros_keep zeros refl 0 (omega arith) refl) ((bytes_decides zeros zeros).1 refl)

-- what a formatting makes agrees: zeros and the first commit
pub made_agree : (size : ℕ) (version : FormatVersion) (before after : Image) → size < 2 ^ 64 → IsMadeEmpty size version before after → commits_agree after ≡ true
made_agree size version before after fits made =
    let first = first_commit size version in
    let is : IsCommit first = record { epoch = omega arith; epoch_fits = omega arith; start_fits = omega arith; count_fits = omega arith; bytes_fit = omega arith; sectors_fit = fits } in
    agreement_of after Empty (Holds first) (ap (content_at 0) made.zeroth ∙ zeros_hold) (holds_commit 1 (after 1) first (ap (commit_at 1) made.first ∙ found_again first is))

-- a commit and the next one agree, in either order
is_behind : (a b : Commit) → b.epoch ≡ a.epoch + 1 → is_next a b ≡ true
is_behind a b next = grind (arith, nat_tests)

is_before : (a b : Commit) → b.epoch ≡ a.epoch + 1 → is_next b a ≡ false
is_before a b next = grind (arith, nat_tests)

in_order : (a b : Commit) → b.epoch ≡ a.epoch + 1 → agree (Holds a) (Holds b) ≡ true
in_order a b next = λ i. is_behind a b next i || is_next b a

in_turn : (a b : Commit) → b.epoch ≡ a.epoch + 1 → agree (Holds b) (Holds a) ≡ true
in_turn a b next = λ i. is_before a b next i || is_behind a b next i

-- where the sector of the next commit holds what it held, that commit or nothing, they agree as before
pub stays_agreed : (before : Disk) (old new : Commit) (image : Image) → ruling (synced_image before) ≡ Some old → IsCommit new → new.epoch ≡ old.epoch + 1
    → ((n : ℕ) → n < 2 → n ≢ new.epoch % 2 → image n ≡ (before.at n).synced) → MayHoldCommit before new (image (new.epoch % 2))
    → commits_agree (synced_image before) ≡ true → commits_agree image ≡ true
stays_agreed before old new image rules writable next others left agreed =
    ⊎_elim
    (λ (even : new.epoch % 2 ≡ 0). zeroth even (subst (λ k. MayHold k) even left))
    (λ (odd : new.epoch % 2 ≢ 0). let is : new.epoch % 2 ≡ 1 = omega arith in first is (subst (λ k. MayHold k) is left))
    (cases_eq (new.epoch % 2) 0)
  where
    MayHold : ℕ → Type 0
    MayHold k = (image k ≡ (before.at k).synced) ⊎ (image k ≡ Some (commit_text new)) ⊎ (image k ≡ None)

    spelled : (k : ℕ) → new.epoch % 2 ≡ k → image k ≡ Some (commit_text new) → content_at k (image k) ≡ Holds new
    spelled k place is = holds_commit k (image k) new (ap (commit_at k) is ∙ subst (λ j. commit_at j (Some (commit_text new)) ≡ Some new) place (found_again new writable))

    kept : (k : ℕ) → k < 2 → k ≢ new.epoch % 2 → old.epoch % 2 ≡ k → content_at k (image k) ≡ Holds old
    kept k low other place = holds_commit k (image k) old (ap (commit_at k) (others k low other) ∙ subst (λ j. commit_at j (synced_image before j) ≡ Some old) place (rules_in (synced_image before) old rules))

    zeroth : new.epoch % 2 ≡ 0 → MayHold 0 → commits_agree image ≡ true
    zeroth even (inl same) = same_agreement (synced_image before) image same (others 1 (omega arith) (λ e. omega (arith, even))) ∙ agreed
    zeroth even (inr (inl is)) = agreement_of image (Holds new) (Holds old) (spelled 0 even is) (kept 1 (omega arith) (λ e. omega (arith, even)) (omega (arith, even, next))) ∙ in_turn old new next
    zeroth even (inr (inr lost)) = agreement_of image Empty (Holds old) (holds_lost 0 (image 0) lost) (kept 1 (omega arith) (λ e. omega (arith, even)) (omega (arith, even, next)))

    first : new.epoch % 2 ≡ 1 → MayHold 1 → commits_agree image ≡ true
    first odd (inl same) = same_agreement (synced_image before) image (others 0 (omega arith) (λ e. omega (arith, odd))) same ∙ agreed
    first odd (inr (inl is)) = agreement_of image (Holds old) (Holds new) (kept 0 (omega arith) (λ e. omega (arith, odd)) (omega (arith, odd, next))) (spelled 1 odd is) ∙ in_order old new next
    first odd (inr (inr lost)) = agreement_of image (Holds old) Empty (kept 0 (omega arith) (λ e. omega (arith, odd)) (omega (arith, odd, next))) (holds_lost 1 (image 1) lost)
