-- Devices with which a run may begin.
use Rattle.std.specs.Prelude.{Result, Ok, Err, IfOk}
use Rattle.std.proofs.Common.{◌≡◌, ℕ, Bool, true, Option, Some, None, refl, ap, sym, subst, ◌∙◌, ◌∷◌, [], inl, inr, ⊎_elim, if◌then◌else◌, replicate}
use Rattle.sector_dev.specs.Disk.{Story, Image, now, shown_image, MayLeave}
use Rattle.sector_dev.specs.Time.{LeavesOnly}
use Rattle.sector_dev.specs.History.{all_synced, zeros}
use Rattle.sector_dev.specs.laws.Crash.{only_image}
use Rattle.sector_dev.specs.View.{size_of, history_of}
use Rattle.sector_dev.specs.declared.model.ModelDevice.{ModelDevice}
use Rattle.commit.specs.declared.sector.Commit.{Commit}
use Rattle.commit.specs.Sector.{commit_at}
use Rattle.commit.specs.Ruling.{newer, ruling}
use Rattle.commit.specs.Standing.{no_store, by_commit, damaged, is_size, standing}
use Rattle.commit.specs.declared.cause.Cause.TheVariants.{DeviceSize}
use Rattle.commit.specs.Formatting.{HoldsNoCommit}
use Rattle.commit.specs.laws.Sectors.{none_begins}
use Rattle.tables.specs.Tables.{Tables, no_tables}
use Rattle.tables.specs.Commands.{PlainCommand}
use Rattle.tables.specs.Verdict.{after}
use Rattle.store_runs.specs.Machine as machines
use Rattle.store_runs.specs.Machine.{Machine, shut_down, with_doubt, Allows, holds}
use Rattle.store_runs.specs.Held.{held_of, held_by}
use Rattle.pages.specs.Stored.{stored_reading}
use Rattle.store.specs.Fits.{setting_of, DeviceFits, fresh, resumed, doubting, HoldsNoneOrEmpty, HoldsWithOrWithout}
use Rattle.store.specs.Beginning.{IsLeftOf, BeginsAnew}

none_newer : (b : Option Commit) → newer None b ≡ b
unfolding newer
none_newer b = refl

none_rules : (image : Image) → HoldsNoCommit image → ruling image ≡ None
unfolding ruling
none_rules image none = ap (λ (x : Option Commit). newer x (commit_at 1 (image 1))) none.0 ∙ none_newer (commit_at 1 (image 1)) ∙ none.1

no_store_stands : (size : ℕ) (image : Image) → is_size size ≡ true → HoldsNoCommit image → standing stored_reading size image ≡ no_store
unfolding standing
no_store_stands size image limits none =
    ap (λ (t : Bool). if t then by_commit stored_reading size image (ruling image) else damaged DeviceSize) limits ∙ ap (by_commit stored_reading size image) (none_rules image none)

pub fresh_fits : {D : Type 0} (size : D → ℕ) (story : D → Story) (device : D) → is_size (size device) ≡ true → LeavesOnly HoldsNoCommit (now (story device)) → DeviceFits size story no_tables fresh device
unfolding Allows held_by
fresh_fits size story device limits none =
    record {
      in_limits = limits;
      allows = λ image may. inr (inr (refl, ap (held_of image) (no_store_stands (size device) image limits (none image may))));
      fresh = λ early. record { settled = refl; doubt = refl; began = refl };
    }

pub resumed_fits : {D : Type 0} (size : D → ℕ) (story : D → Story) (device : D) (t : Tables) → is_size (size device) ≡ true → LeavesOnly (λ image. held_by (size device) image ≡ holds t) (now (story device)) → DeviceFits size story t resumed device
unfolding Allows after
resumed_fits size story device t limits has =
    record {
      in_limits = limits;
      allows = λ image may. inl (has image may);
      fresh = λ early. absurd (cc early);
    }

pub formatting_fits : {D : Type 0} (size : D → ℕ) (story : D → Story) (device : D) → is_size (size device) ≡ true → LeavesOnly (HoldsNoneOrEmpty (size device)) (now (story device))
    → DeviceFits size story no_tables fresh device
unfolding Allows after
formatting_fits size story device limits has =
    record {
      in_limits = limits;
      allows = λ image may. ⊎_elim (λ (none : held_by (size device) image ≡ machines.no_store). inr (inr (refl, none))) (λ (empty : held_by (size device) image ≡ holds no_tables). inl empty) (has image may);
      fresh = λ early. record { settled = refl; doubt = refl; began = refl };
    }

pub doubting_fits : {D : Type 0} (size : D → ℕ) (story : D → Story) (device : D) (t : Tables) (c : PlainCommand) → is_size (size device) ≡ true
    → LeavesOnly (HoldsWithOrWithout (size device) t c) (now (story device)) → DeviceFits size story t (doubting c) device
unfolding Allows after
doubting_fits size story device t c limits has =
    record {
      in_limits = limits;
      allows = λ image may.
          ⊎_elim (λ (without : held_by (size device) image ≡ holds t). inl without) (λ (with' : held_by (size device) image ≡ holds (after t (c ∷ []))). inr (inl with')) (has image may);
      fresh = λ early. absurd (cc early);
    }

-- ---- devices on which all is synced

left_synced : (image other : Image) → MayLeave (all_synced image) other → other ≡ image
unfolding all_synced
left_synced image other may = only_image (all_synced image) other (λ n. refl) may

-- a stop leaves them as they are
one_image : (story : Story) (image other : Image) → story ≡ all_synced image ∷ [] → MayLeave (now story) other → other ≡ image
one_image story image other is may = left_synced image other (subst (λ (s : Story). MayLeave (now s) other) is may)

zeros_hold_none : HoldsNoCommit (λ _. Some zeros)
unfolding zeros
zeros_hold_none = (none_begins 0 0 (replicate 511 0) refl, none_begins 1 0 (replicate 511 0) refl)

pub zeros_fit : {D : Type 0} (size : D → ℕ) (story : D → Story) (device : D) → is_size (size device) ≡ true → story device ≡ all_synced (λ _. Some zeros) ∷ [] → DeviceFits size story no_tables fresh device
zeros_fit size story device limits is =
    fresh_fits size story device limits (λ image may. subst HoldsNoCommit (sym (one_image (story device) (λ _. Some zeros) image is may)) zeros_hold_none)

module _ {D : Type 0} (size : D → ℕ) (story : D → Story) (base : Tables) (m : Machine) (before device : D) (fits : DeviceFits size story base m before) (left : IsLeftOf size story before device) where
  limits : is_size (size device) ≡ true
  limits = subst (λ (n : ℕ). is_size n ≡ true) (sym left.same) fits.in_limits

  same : (image : Image) → MayLeave (now (story device)) image → image ≡ shown_image (now (story device))
  same image may = one_image (story device) (shown_image (now (story device))) image left.synced may

  allowed : Allows (setting_of (size device) base) m (shown_image (now (story device)))
  allowed = subst (λ (n : ℕ). Allows (setting_of n base) m (shown_image (now (story device)))) (sym left.same) (fits.allows (shown_image (now (story device))) left.allowed)

  -- the place is shut, and the run goes on
  pub left_goes_on : DeviceFits size story base (shut_down m) device
  unfolding Allows
  left_goes_on = record {
    in_limits = limits;
    allows = λ image may. subst (λ (x : Image). Allows (setting_of (size device) base) m x) (sym (same image may)) allowed;
    fresh = λ early. let f = fits.fresh early in record { settled = f.settled; doubt = f.doubt; began = f.began };
  }

  -- or it begins anew
  pub left_begins_anew : BeginsAnew size story base m device
  unfolding Allows
  left_begins_anew = by_case allowed
    where
      by_case : Allows (setting_of (size device) base) m (shown_image (now (story device))) → BeginsAnew size story base m device
      by_case (inl is) = inl (resumed_fits size story device (after base m.settled) limits (λ image may. ap (held_by (size device)) (same image may) ∙ is))
      by_case (inr (inl is)) = inr (inl (resumed_fits size story device (after base (with_doubt m.settled m.doubt)) limits (λ image may. ap (held_by (size device)) (same image may) ∙ is)))
      by_case (inr (inr none)) = inr (inr (none.0, formatting_fits size story device limits (λ image may. inl (ap (held_by (size device)) (same image may) ∙ none.1))))

-- ---- devices in memory

pub new_fits : {E : Type 0} (made : Result ModelDevice E) (sectors : ℕ) → IfOk made (λ device. size_of device ≡ sectors) → IfOk made (λ device. history_of device ≡ all_synced (λ _. Some zeros) ∷ []) → is_size sectors ≡ true
    → IfOk made (λ device. DeviceFits size_of history_of no_tables fresh device)
new_fits (Ok device) sectors size is within = zeros_fit size_of history_of device (subst (λ (n : ℕ). is_size n ≡ true) (sym size) within) is
new_fits (Err e) sectors size is within = tt

pub crashed_left : {E : Type 0} (before : ModelDevice) (left : Result ModelDevice E) → IfOk left (λ device. size_of device ≡ size_of before)
    → IfOk left (λ device. history_of device ≡ all_synced (shown_image (now (history_of device))) ∷ []) → IfOk left (λ device. MayLeave (now (history_of before)) (shown_image (now (history_of device))))
    → IfOk left (λ device. IsLeftOf size_of history_of before device)
crashed_left before (Ok device) size is may = record { same = size; synced = is; allowed = may }
crashed_left before (Err e) size is may = tt
