-- What a write touches.
use Rattle.std.proofs.Common.{◌≡◌, ◌≢◌, ◌⊎◌, inl, inr, ⊎_elim, ◌≤◌, ◌<◌, ◌+◌, ℕ, zero, suc, List, [], ◌∷◌, ◌++◌, length, map, Option, Some, Result, Ok, Err, refl, sym, ap, ◌∙◌, subst, arith}
use Rattle.std.specs.Result.{OnOk, OnErr}
use Rattle.std.specs.List.{range_with_len}
use Rattle.std.proofs.lemmas.Bool.{cases_eq}
use Rattle.sector_dev.specs.Disk.{Disk, Sector, Story, now, put, shown_image, MayHold, MayLeave, Puts, FailsToPut}
use Rattle.sector_dev.specs.Time.{Grows}
use Rattle.sector_dev.specs.laws.Time.{two, goes_on, weaken, now_has, left_since}
use Rattle.sector_dev.specs.laws.Crash.{put_other, put_same}
use Rattle.sector_dev.specs.Rows.{SectorWrite, GrowsBy, FailsAmong}
use Rattle.segments.specs.declared.run.Run.{Run}
use Rattle.segments.specs.Runs.{OutOf}
use Rattle.segments.specs.Sectors.{sector_count, sector_of, Holds}
use Rattle.segments.specs.Writing.{WritesOnly, LeavesOthers, run_writes}

writes_none : (runs : List Run) (d : Disk) → WritesOnly runs d d
writes_none runs d = record { outside = λ n out. refl; begun = inl refl }

-- one write inside the runs
writes_put : (runs : List Run) (d0 d : Disk) (n : ℕ) (c : List ℕ) (x : Option (List ℕ)) → ((k : ℕ) → OutOf runs k → k ≢ n) → WritesOnly runs d0 d → WritesOnly runs d0 (put d n c x)
unfolding put
writes_put runs d0 d n c x inside w = record {
  outside = λ k out. put_other d n c x k (inside k out) ∙ w.outside k out;
  begun = inr (⊎_elim (λ (same : d ≡ d0). let count : d.writes ≡ d0.writes = ap (λ (e : Disk). e.writes) same in omega arith) (λ (lt : d0.writes < d.writes). omega arith) w.begun);
}

write_done : (runs : List Run) (d0 : Disk) (old new : Story) (n : ℕ) (c : List ℕ) (x : Option (List ℕ)) → ((k : ℕ) → OutOf runs k → k ≢ n) → WritesOnly runs d0 (now old) → Puts old n c x new → Grows (WritesOnly runs d0) old new
write_done runs d0 old new n c x inside w is =
    two (WritesOnly runs d0) old new _ _ is (writes_put runs d0 (now old) n c x inside w) (writes_put runs d0 (now old) n c _ inside w)

write_failed : (runs : List Run) (d0 : Disk) (old new : Story) (n : ℕ) (c : List ℕ) → ((k : ℕ) → OutOf runs k → k ≢ n) → WritesOnly runs d0 (now old) → FailsToPut old n c new → Grows (WritesOnly runs d0) old new
write_failed runs d0 old new n c inside w (inl same) = record { fresh = []; joined = same; each = tt }
write_failed runs d0 old new n c inside w (inr (inl is)) = write_done runs d0 old new n c _ inside w is
write_failed runs d0 old new n c inside w (inr (inr is)) = write_done runs d0 old new n c _ inside w is

writes_on : (runs : List Run) (d0 d1 d : Disk) → WritesOnly runs d0 d1 → WritesOnly runs d1 d → WritesOnly runs d0 d
writes_on runs d0 d1 d first second = record {
  outside = λ n out. second.outside n out ∙ first.outside n out;
  begun =
      ⊎_elim (λ (same : d ≡ d1). ⊎_elim (λ (all : d1 ≡ d0). inl (same ∙ all)) (λ (lt : d0.writes < d1.writes). inr (let count : d.writes ≡ d1.writes = ap (λ (e : Disk). e.writes) same in omega arith)) first.begun)
      (λ (lt : d1.writes < d.writes). inr (⊎_elim (λ (same : d1 ≡ d0). let count : d1.writes ≡ d0.writes = ap (λ (e : Disk). e.writes) same in omega arith) (λ (before : d0.writes < d1.writes). omega arith) first.begun))
      second.begun;
}

-- one stretch of writing after another
written_on : (runs : List Run) (a b c : Story) → Grows (WritesOnly runs (now a)) a b → Grows (WritesOnly runs (now b)) b c → Grows (WritesOnly runs (now a)) a c
written_on runs a b c first second =
    let here : WritesOnly runs (now a) (now b) = now_has {P = WritesOnly runs (now a)} (writes_none runs (now a)) first in
    goes_on first (weaken (λ d w. writes_on runs (now a) (now b) d here w) second)

-- what the disk is at last
pub written_now : (runs : List Run) (a b : Story) → Grows (WritesOnly runs (now a)) a b → WritesOnly runs (now a) (now b)
written_now runs a b g = now_has {P = WritesOnly runs (now a)} (writes_none runs (now a)) g

-- no image left since holds elsewhere what none could hold there
pub leaves_others : (runs : List Run) (old new : Story) → Grows (WritesOnly runs (now old)) old new → LeavesOthers runs old new
unfolding MayLeave
leaves_others runs old new g image left n out =
    ⊎_elim (λ (may : MayLeave (now old) image). may n)
    (λ (then : (d : Disk) × WritesOnly runs (now old) d × MayLeave d image). subst (λ (s : Sector). MayHold s (image n)) (then.1.outside n out) (then.2 n))
    (left_since {P = WritesOnly runs (now old)} image g left)

-- ---- the writes of a list

-- each of them lies in one of these runs
abbrev pub AreIn : List Run → List SectorWrite → Type 0
AreIn runs [] = Unit {0}
AreIn runs (w ∷ ws) = ((k : ℕ) → OutOf runs k → k ≢ w.sector) × AreIn runs ws

-- while they are done, no other sector changes
pub moments_done : (runs : List Run) (ws : List SectorWrite) (a b : Story) → AreIn runs ws → GrowsBy ws a b → Grows (WritesOnly runs (now a)) a b
moments_done runs [] a b inside same = record { fresh = []; joined = same; each = tt }
moments_done runs (w ∷ ws) a b inside done =
    written_on runs a done.0 b (write_done runs (now a) a done.0 w.sector w.content (Some w.content) inside.0 (writes_none runs (now a)) done.1) (moments_done runs ws done.0 b inside.1 done.2)

pub moments_failed : (runs : List Run) (ws : List SectorWrite) (a b : Story) → AreIn runs ws → FailsAmong ws a b → Grows (WritesOnly runs (now a)) a b
moments_failed runs [] a b inside fails = absurd fails
moments_failed runs (w ∷ ws) a b inside (inl here) = write_failed runs (now a) a b w.sector w.content inside.0 (writes_none runs (now a)) here
moments_failed runs (w ∷ ws) a b inside (inr later) =
    written_on runs a later.0 b (write_done runs (now a) a later.0 w.sector w.content (Some w.content) inside.0 (writes_none runs (now a)) later.1) (moments_failed runs ws later.0 b inside.1 later.2)

-- whichever way they ended
pub moments_of : {T E : Type 0} {P : Type 0} (r : Result T E) (runs : List Run) (ws : List SectorWrite) (a b : Story) → AreIn runs ws → OnOk r (P → GrowsBy ws a b) → OnErr r (P → FailsAmong ws a b) → P → Grows (WritesOnly runs (now a)) a b
moments_of (Ok x) runs ws a b inside done failed p = moments_done runs ws a b inside (done p)
moments_of (Err e) runs ws a b inside done failed p = moments_failed runs ws a b inside (failed p)

pub in_both : (runs : List Run) (ws vs : List SectorWrite) → AreIn runs ws → AreIn runs vs → AreIn runs (ws ++ vs)
in_both runs [] vs first second = second
in_both runs (w ∷ ws) vs first second = (first.0, in_both runs ws vs first.1 second)

pub in_more : (small big : List Run) (ws : List SectorWrite) → ((n : ℕ) → OutOf big n → OutOf small n) → AreIn small ws → AreIn big ws
in_more small big [] fewer inside = tt
in_more small big (w ∷ ws) fewer inside = ((λ k out. inside.0 k (fewer k out)), in_more small big ws fewer inside.1)

-- a row that starts n sectors after this one
abbrev row_from : ℕ → ℕ → ℕ → (ℕ → List ℕ) → List SectorWrite
row_from start i count content = map (λ j. record { sector = start + j; content = content j }) (range_with_len i count)

in_row : (runs : List Run) (start i count : ℕ) (content : ℕ → List ℕ) → ((k : ℕ) → OutOf runs k → (k < start + i) ⊎ (start + (i + count) ≤ k)) → AreIn runs (row_from start i count content)
in_row runs start i zero content out = tt
in_row runs start i (suc count) content out = (
  λ k o same. ⊎_elim {C = ⊥} (λ (below : k < start + i). omega arith) (λ (above : start + (i + suc count) ≤ k). omega arith) (out k o),
  in_row runs start (i + 1) count content (λ k o. ⊎_elim (λ (below : k < start + i). inl (omega arith)) (λ (above : start + (i + suc count) ≤ k). inr (omega arith)) (out k o)),
)

-- the writes of some bytes lie in each run that has room for them
pub run_in : (run : Run) (others : List Run) (bytes : List ℕ) → sector_count (length bytes) ≤ run.count → AreIn (run ∷ others) (run_writes run.start bytes)
run_in run others bytes room =
    in_row (run ∷ others) run.start 0 (sector_count (length bytes)) (sector_of bytes)
    (λ k out. ⊎_elim (λ (below : k < run.start). inl (omega arith)) (λ (above : run.start + run.count ≤ k). inr (omega arith)) out.0)

-- the sectors of a row have their contents after it
shows_row : (start i count : ℕ) (content : ℕ → List ℕ) (a b : Story) → GrowsBy (row_from start i count content) a b → (j : ℕ) → i ≤ j → j < i + count → shown_image (now b) (start + j) ≡ Some (content j)
shows_row start i zero content a b done j low lt = absurd (omega arith)
shows_row start i (suc count) content a b done j low lt =
    ⊎_elim
    (λ (same : j ≡ i). ap (λ k. shown_image (now b) (start + k)) same ∙ first ∙ ap (λ k. Some (content k)) (sym same))
    (λ (other : j ≢ i). shows_row start (i + 1) count content done.0 b done.2 j (omega arith) (omega arith))
    (cases_eq j i)
  where
    behind : List Run
    behind = record { start = start + (i + 1); count = count } ∷ []

    later : WritesOnly behind (now done.0) (now b)
    later =
        written_now behind done.0 b
        (moments_done behind (row_from start (i + 1) count content) done.0 b
        (in_row behind start (i + 1) count content (λ k out. ⊎_elim (λ (below : k < start + (i + 1)). inl below) (λ (above : start + (i + 1) + count ≤ k). inr (omega arith)) out.0)) done.2)

    first : shown_image (now b) (start + i) ≡ Some (content i)
    first =
        ap (λ (s : Sector). s.shown) (later.outside (start + i) (inl (omega arith), tt))
        ∙ ap (λ (s : Story). ((now s).at (start + i)).shown) done.1
        ∙ ap (λ (s : Sector). s.shown) (put_same (now a) (start + i) (content i) (Some (content i)))

-- a run holds the bytes that were written into it
pub run_holds : (start : ℕ) (bytes : List ℕ) (a b : Story) → GrowsBy (run_writes start bytes) a b → Holds (shown_image (now b)) start bytes
unfolding Holds
run_holds start bytes a b done j lt = shows_row start 0 (sector_count (length bytes)) (sector_of bytes) a b done j (omega arith) (omega arith)
