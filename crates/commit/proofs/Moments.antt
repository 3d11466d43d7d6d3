-- The moments of a publishing.
use Rattle.std.proofs.Common.{◌≡◌, ◌≢◌, ◌⊎◌, inl, inr, ⊎_elim, ◌<◌, ◌+◌, ◌%◌, ℕ, List, [], ◌∷◌, Option, Some, None, refl, sym, ap, ◌∙◌, subst, arith}
use Rattle.std.proofs.lemmas.Bool.{cases_eq}
use Rattle.std.proofs.lemmas.Nat.{mod_below}
use Rattle.sector_dev.specs.Disk.{Disk, Sector, Story, Image, now, put, flushed, synced_image, shown_image, MayLeave, MayHold, Puts, FailsToPut, Flushes, LeftSince, moment}
use Rattle.sector_dev.specs.Time.{Grows}
use Rattle.sector_dev.specs.laws.Time.{two, left_since}
use Rattle.sector_dev.specs.laws.Crash.{put_other, put_same, holds_one, holds_synced, leaves_synced, leaves_flushed, same_flushed}
use Rattle.segments.specs.Runs.{OutOf, StartFrom}
use Rattle.segments.specs.laws.ReadBack.{same_pieces}
use Rattle.segments.specs.Writing.{WritesOnly, HoldsEach, runs_of}
use Rattle.segments.specs.Pieces.{PlainPiece}
use Rattle.commit.specs.declared.sector.Commit.{Commit}
use Rattle.commit.specs.Sector.{commit_at}
use Rattle.commit.specs.laws.Sectors.{found_is}
use Rattle.commit.specs.Ruling.{ruling, Rests}
use Rattle.commit.specs.Publishing.{IsOutside, MayHoldCommit, IsOldOrNew, IsPublishing, IsPublished, IsRuledBy}
use Rattle.commit.proofs.Rules.{same_rules, new_rules, old_rules}

-- a commit sector lies in no run
pub out_of_commits : (pieces : List PlainPiece) (n : ℕ) → n < 2 → StartFrom 2 (runs_of pieces) → OutOf (runs_of pieces) n
out_of_commits [] n lt above = tt
out_of_commits (p ∷ ps) n lt above = (inl (omega (arith, above.0)), out_of_commits ps n lt above.1)

module _ (old new : Commit) (pieces : List PlainPiece) (d0 : Disk) (above : StartFrom 2 (runs_of pieces)) (next : new.epoch ≡ old.epoch + 1) (rests : Rests d0 old) where
  abbrev pub P : Disk → Type 0
  P = IsPublishing d0 new pieces (IsRuledBy old) (IsRuledBy new)

  abbrev slot : ℕ
  slot = new.epoch % 2

  slot_out : OutOf (runs_of pieces) slot
  slot_out = out_of_commits pieces slot (mod_below new.epoch 2 (omega arith)) above

  -- while the pieces are written each image has the old commit sectors
  pub while_written : (d : Disk) → WritesOnly (runs_of pieces) d0 d → P d
  while_written d w =
      let outside = λ (image : Image) (may : MayLeave d image) (n : ℕ) (out : OutOf (runs_of pieces) n).
      leaves_synced d image n (ap (λ (s : Sector). s.pending) (w.outside n out) ∙ rests.quiet.pending n) may ∙ ap (λ (s : Sector). s.synced) (w.outside n out) in
      record {
        touches = λ n out. w.outside n out.0;
        begun = w.begun;
        leaves = λ image may. record {
          outside = λ n out. outside image may n out.0;
          commit = inl (outside image may slot slot_out);
          which = inl (same_rules (synced_image d0) image (outside image may 0 (out_of_commits pieces 0 (omega arith) above)) (outside image may 1 (out_of_commits pieces 1 (omega arith) above)) ∙ rests.rules);
        };
      }

  -- what was left before is old
  pub left_old_or_new : (s0 s : Story) → now s0 ≡ d0 → Grows P s0 s → (image : Image) → LeftSince s (moment s0) image → IsOldOrNew d0 new pieces (IsRuledBy old) (IsRuledBy new) image
  left_old_or_new s0 s is grows image left =
      let begins : P d0 = while_written d0 (record { outside = λ n out. refl; begun = inl refl }) in
      ⊎_elim (λ (may : MayLeave (now s0) image). begins.leaves image (subst (λ (d : Disk). MayLeave d image) is may))
      (λ (at : (d : Disk) × P d × MayLeave d image). at.1.leaves image at.2)
      (left_since image grows left)

  -- the disk with the pieces on it, synced
  pub record Staged (d : Disk) : Type 0 where
    pub quiet : (n : ℕ) → (d.at n).pending ≡ []
    pub shown : (n : ℕ) → (d.at n).shown ≡ (d.at n).synced
    pub same : (n : ℕ) → OutOf (runs_of pieces) n → d.at n ≡ d0.at n
    pub begun : (d ≡ d0) ⊎ (d0.writes < d.writes)
    pub holds : HoldsEach (synced_image d) pieces

  -- where nothing waits a sync changes no sector
  same_sector : (s : Sector) → s.pending ≡ [] → s.shown ≡ s.synced → record { synced = s.shown; pending = []; shown = s.shown } ≡ s
  same_sector s quiet shown = λ i. record { synced = shown i; pending = sym quiet i; shown = s.shown }

  pub staged : (d : Disk) → WritesOnly (runs_of pieces) d0 d → HoldsEach (shown_image d) pieces → Staged (flushed d)
  unfolding flushed
  staged d w holds = record {
    quiet = λ n. refl;
    shown = λ n. refl;
    same = λ n out. ap (λ (s : Sector). record { synced = s.shown; pending = []; shown = s.shown }) (w.outside n out) ∙ same_sector (d0.at n) (rests.quiet.pending n) (rests.quiet.shown n);
    begun = ⊎_elim (λ (is : d ≡ d0). inl (ap flushed is ∙ same_flushed d0 rests.quiet.pending rests.quiet.shown)) (λ (lt : d0.writes < d.writes). inr lt) w.begun;
    holds = holds;
  }

  pub at_rest : (d : Disk) → Staged d → P d
  at_rest d s = while_written d (record { outside = s.same; begun = s.begun })

  module _ (c : List ℕ) (spells : commit_at slot (Some c) ≡ Some new) where
    rules_staged : (d : Disk) → Staged d → ruling (synced_image d) ≡ Some old
    rules_staged d s = same_rules (synced_image d0) (synced_image d) (ap (λ (z : Sector). z.synced) (s.same 0 (out_of_commits pieces 0 (omega arith) above))) (ap (λ (z : Sector). z.synced) (s.same 1 (out_of_commits pieces 1 (omega arith) above))) ∙ rests.rules

    still : (d : Disk) → Staged d → (image : Image) → ((n : ℕ) → image n ≡ (d.at n).synced) → ruling image ≡ Some old
    still d s image same = same_rules (synced_image d) image (same 0) (same 1) ∙ rules_staged d s

    -- what the sector of the new commit holds once it is written
    written : (d : Disk) → Staged d → (image : Image) → (image slot ≡ (d.at slot).synced) ⊎ (image slot ≡ Some c) ⊎ (image slot ≡ None) → MayHoldCommit d0 new (image slot)
    written d s image (inl was) = inl (was ∙ ap (λ (z : Sector). z.synced) (s.same slot slot_out))
    written d s image (inr (inl is)) = inr (inl (is ∙ (found_is slot (Some c) new spells).text))
    written d s image (inr (inr lost)) = inr (inr lost)

    -- an image with the new commit sector
    pub committed : (d : Disk) → Staged d → (image : Image) → ((n : ℕ) → n ≢ slot → image n ≡ (d.at n).synced) → image slot ≡ Some c → (ruling image ≡ Some new) × HoldsEach image pieces
    committed d s image others is = (
      new_rules (synced_image d) image new.epoch old new (rules_staged d s) (omega (arith, next)) others (ap (commit_at slot) is ∙ spells),
      same_pieces 2 (synced_image d) image pieces above (λ n low. others n (λ e. omega (arith, mod_below new.epoch 2 (omega arith)))) s.holds,
    )

    -- the disk with the commit sector written
    pub while_committed : (d : Disk) → Staged d → (x : Option (List ℕ)) → P (put d slot c x)
    unfolding MayLeave put
    while_committed d s x =
        let others = λ (image : Image) (may : MayLeave (put d slot c x) image) (n : ℕ) (other : n ≢ slot).
        holds_synced (d.at n) (image n) (s.quiet n) (subst (λ (z : Sector). MayHold z (image n)) (put_other d slot c x n other) (may n)) in
        record {
          touches = λ n out. put_other d slot c x n out.1 ∙ s.same n out.0;
          begun = inr (⊎_elim (λ (is : d ≡ d0). let e = ap (λ (y : Disk). y.writes) is in omega arith) (λ (lt : d0.writes < d.writes). omega arith) s.begun);
          leaves = λ image may. record {
            outside = λ n out. others image may n out.1 ∙ ap (λ (z : Sector). z.synced) (s.same n out.0);
            commit = written d s image (holds_one (d.at slot) c x (image slot) (s.quiet slot) (subst (λ (z : Sector). MayHold z (image slot)) (put_same d slot c x) (may slot)));
            which = rules d s image (others image may) (holds_one (d.at slot) c x (image slot) (s.quiet slot) (subst (λ (z : Sector). MayHold z (image slot)) (put_same d slot c x) (may slot)));
          };
        }
      where
        rules : (d : Disk) → Staged d → (image : Image) → ((n : ℕ) → n ≢ slot → image n ≡ (d.at n).synced) → (image slot ≡ (d.at slot).synced) ⊎ (image slot ≡ Some c) ⊎ (image slot ≡ None) → (ruling image ≡ Some old) ⊎ ((ruling image ≡ Some new) × HoldsEach image pieces)
        rules d s image others (inl was) = inl (still d s image (λ n. ⊎_elim {C = image n ≡ (d.at n).synced} (λ (e : n ≡ slot). subst (λ k. image k ≡ (d.at k).synced) (sym e) was) (λ (other : n ≢ slot). others n other) (cases_eq n slot)))
        rules d s image others (inr (inl is)) = inr (committed d s image others is)
        rules d s image others (inr (inr lost)) = inl (old_rules (synced_image d) image new.epoch old (rules_staged d s) next others lost)

    pub put_done : (s2 s3 : Story) (x : Option (List ℕ)) → Staged (now s2) → Puts s2 slot c x s3 → Grows P s2 s3
    put_done s2 s3 x s is = two P s2 s3 _ _ is (while_committed (now s2) s x) (while_committed (now s2) s _)

    pub put_failed : (s2 s3 : Story) → Staged (now s2) → FailsToPut s2 slot c s3 → Grows P s2 s3
    put_failed s2 s3 s (inl same) = record { fresh = []; joined = same; each = tt }
    put_failed s2 s3 s (inr (inl is)) = put_done s2 s3 _ s is
    put_failed s2 s3 s (inr (inr is)) = put_done s2 s3 _ s is

    more : (d x : Disk) → Staged d → x ≡ put d slot c (Some c) → d0.writes < x.writes
    unfolding put
    more d x s is =
        let count : x.writes ≡ d.writes + 1 = ap (λ (y : Disk). y.writes) is in
        ⊎_elim (λ (same : d ≡ d0). let e = ap (λ (y : Disk). y.writes) same in omega arith) (λ (lt : d0.writes < d.writes). omega arith) s.begun

    -- the disk with the commit sector on it, synced
    pub done : (d x : Disk) → Staged d → x ≡ put d slot c (Some c) → P (flushed x) × IsPublished d0 new pieces (IsRuledBy new) (flushed x)
    unfolding flushed
    done d x s is =
        let shown : (n : ℕ) → n ≢ slot → (x.at n).shown ≡ (d.at n).synced = λ n other. ap (λ (y : Disk). (y.at n).shown) is ∙ ap (λ (z : Sector). z.shown) (put_other d slot c (Some c) n other) ∙ s.shown n in
        let here : (x.at slot).shown ≡ Some c = ap (λ (y : Disk). (y.at slot).shown) is ∙ ap (λ (z : Sector). z.shown) (put_same d slot c (Some c)) in
        let both = committed d s (shown_image x) shown here in
        let touches : (n : ℕ) → IsOutside new pieces n → (flushed x).at n ≡ d0.at n = λ n out.
        ap (λ (y : Disk). record { synced = (y.at n).shown; pending = []; shown = (y.at n).shown }) is
        ∙ ap (λ (z : Sector). record { synced = z.shown; pending = []; shown = z.shown }) (put_other d slot c (Some c) n out.1 ∙ s.same n out.0)
        ∙ same_sector (d0.at n) (rests.quiet.pending n) (rests.quiet.shown n) in
        let begun : d0.writes < x.writes = more d x s is in (
          record {
            touches = touches;
            begun = inr begun;
            leaves = λ image may. record {
              outside = λ n out. leaves_flushed x image n may ∙ shown n out.1 ∙ ap (λ (z : Sector). z.synced) (s.same n out.0);
              commit = written d s image (inr (inl (leaves_flushed x image slot may ∙ here)));
              which = inr (committed d s image (λ n other. leaves_flushed x image n may ∙ shown n other) (leaves_flushed x image slot may ∙ here));
            };
          },
          record {
            quiet = record { pending = λ n. refl; shown = λ n. refl };
            stands = both.0;
            holds = both.1;
            touches = touches;
            begun = begun;
          },
        )

    pub sync_done : (s2 s3 s4 : Story) → Staged (now s2) → Puts s2 slot c (Some c) s3 → Flushes s3 s4 → Grows P s3 s4 × IsPublished d0 new pieces (IsRuledBy new) (now s4)
    sync_done s2 s3 s4 s puts flushes =
        let is : now s3 ≡ put (now s2) slot c (Some c) = ap now puts in
        let both = done (now s2) (now s3) s is in (
          two P s3 s4 _ _ flushes both.0 (subst P (sym is) (while_committed (now s2) s (Some c))),
          subst (IsPublished d0 new pieces (IsRuledBy new)) (sym (ap now flushes)) both.1,
        )

  pub run_done : (s1 s2 : Story) → WritesOnly (runs_of pieces) d0 (now s1) → HoldsEach (shown_image (now s1)) pieces → Flushes s1 s2 → Grows P s1 s2 × Staged (now s2)
  run_done s1 s2 w holds is =
      let s = staged (now s1) w holds in
      (two P s1 s2 _ _ is (at_rest (flushed (now s1)) s) (while_written (now s1) w), subst Staged (sym (ap now is)) s)
