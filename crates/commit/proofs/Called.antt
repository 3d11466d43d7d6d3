-- Calls of a device in order.
use Rattle.std.proofs.Common.{inl, inr, ◌++◌, List, [], ◌∷◌, subst}
use Rattle.sector_dev.specs.Disk.{Story}
use Rattle.sector_dev.specs.Rows.{SectorWrite, GrowsBy, FailsAmong}
use Rattle.commit.specs.InOrder.{DeviceCall, write, sync, AreDone, OneFails, all_written}

-- writes that were done, and writes of which one failed
pub all_done : (ws : List SectorWrite) (a b : Story) → GrowsBy ws a b → AreDone (all_written ws) a b
all_done [] a b done = done
all_done (w ∷ ws) a b done = (done.0, done.1, all_done ws done.0 b done.2)

pub one_failed : (ws : List SectorWrite) (a b : Story) → FailsAmong ws a b → OneFails (all_written ws) a b
one_failed [] a b failed = absurd failed
one_failed (w ∷ ws) a b (inl failed) = inl failed
one_failed (w ∷ ws) a b (inr later) = inr (later.0, later.1, one_failed ws later.0 b later.2)

-- calls that were done, and then others
pub done_on : (xs ys : List DeviceCall) (a b c : Story) → AreDone xs a b → AreDone ys b c → AreDone (xs ++ ys) a c
done_on [] ys a b c first second = subst (λ (s : Story). AreDone ys s c) first second
done_on (write w ∷ xs) ys a b c first second = (first.0, first.1, done_on xs ys first.0 b c first.2 second)
done_on (sync ∷ xs) ys a b c first second = (first.0, first.1, done_on xs ys first.0 b c first.2 second)

-- and then others of which one failed
pub fails_on : (xs ys : List DeviceCall) (a b c : Story) → AreDone xs a b → OneFails ys b c → OneFails (xs ++ ys) a c
fails_on [] ys a b c first second = subst (λ (s : Story). OneFails ys s c) first second
fails_on (write w ∷ xs) ys a b c first second = inr (first.0, first.1, fails_on xs ys first.0 b c first.2 second)
fails_on (sync ∷ xs) ys a b c first second = inr (first.0, first.1, fails_on xs ys first.0 b c first.2 second)

-- calls of which one failed, and others that were to follow
pub failed_before : (xs ys : List DeviceCall) (a b : Story) → OneFails xs a b → OneFails (xs ++ ys) a b
failed_before [] ys a b failed = absurd failed
failed_before (write w ∷ xs) ys a b (inl failed) = inl failed
failed_before (write w ∷ xs) ys a b (inr later) = inr (later.0, later.1, failed_before xs ys later.0 b later.2)
failed_before (sync ∷ xs) ys a b (inl failed) = inl failed
failed_before (sync ∷ xs) ys a b (inr later) = inr (later.0, later.1, failed_before xs ys later.0 b later.2)
