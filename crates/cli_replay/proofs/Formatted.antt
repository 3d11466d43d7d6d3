-- An empty store on a device that is shut, and why none is made on a new one.
use Rattle.std.proofs.Common.{◌≡◌, ◌∙◌, ℕ, Bool, false, [], ◌∷◌, None, Option, Some, replicate, refl, ap, sym, subst}
use Rattle.commit.specs.Ruling.{newer, ruling}
use Rattle.commit.specs.Sector.{commit_at}
use Rattle.commit.specs.declared.opening_refusal.OpeningRefusal.{OpeningRefusal}
use Rattle.commit.specs.declared.opening_refusal.OpeningRefusal.TheVariants as openings
use Rattle.commit.specs.declared.sector.Commit.{Commit}
use Rattle.commit.specs.declared.sector.FormatVersion.{FormatVersion}
use Rattle.commit.specs.laws.Sectors.{none_begins}
use Rattle.sector_dev.specs.Disk.{Story, MayLeave, now, shown_image}
use Rattle.sector_dev.specs.History.{all_synced, zeros}
use Rattle.sector_dev.specs.Faults.{no_faults}
use Rattle.sector_dev.specs.Time.{LeavesOnly}
use Rattle.sector_dev.specs.View.{size_of, failed_of, history_of}
use Rattle.sector_dev.specs.declared.faults.Faults.{Faults}
use Rattle.sector_dev.specs.declared.model.ModelDevice.{ModelDevice}
use Rattle.sector_dev.specs.declared.device.SectorDevice.{Ghosts}
use Rattle.store.specs.declared.store.Store.{Store}
use Rattle.store.specs.Beginning.{IsLeftOf}
use Rattle.commit.specs.Standing.{is_size}
use Rattle.tables.specs.Tables.{Tables, no_tables}
use Rattle.store_runs.specs.Calls.{format_call, done}
use Rattle.store.specs.Fits.{setting_of, fresh, resumed, device_of, DeviceFits, FormatsStore, Opens}
use Rattle.store.specs.Opening.{TellsFormatting}
use Rattle.store_runs.specs.Machine.{Setting, Machine, Allows, shut_down}
use Rattle.store.specs.Places.{ShutFits}
use Rattle.store_runs.specs.Steps.{Step}
use Rattle.cli_replay.specs.Replay.{IsEmptyStore, IsOfNewDevice, after_opening}

-- what a formatting made goes on as a store that a run may begin with
pub formatted_resumed : (s : Setting) (m next : Machine) (wrote : Bool) → Step s m format_call done wrote next → shut_down next ≡ resumed
unfolding Step
formatted_resumed s m next wrote step = ap shut_down step.3

-- what stands on a device stands on one with the same sectors and the same story
pub still_empty : {g : Ghosts ModelDevice} (sectors : ℕ) (version : FormatVersion) (device other : ModelDevice) → size_of other ≡ size_of device → history_of other ≡ history_of device
    → failed_of other ≡ failed_of device → IsEmptyStore g sectors version device → IsEmptyStore g sectors version other
still_empty sectors version device other size history failed empty = record {
  size = size ∙ empty.size;
  failed = failed ∙ empty.failed;
  stands = record {
    phase = empty.stands.phase;
    fits = record {
      in_limits = ap is_size size ∙ empty.stands.fits.in_limits;
      allows =
          subst (λ (n : ℕ). LeavesOnly (Allows (setting_of n no_tables) resumed) (now (history_of other))) (sym size)
          (subst (λ (story : Story). LeavesOnly (Allows (setting_of (size_of device) no_tables) resumed) (now story)) (sym history) empty.stands.fits.allows);
      fresh = empty.stands.fits.fresh;
    };
  };
  new = empty.new;
  store = empty.store;
  formatted = empty.formatted;
  left = record {
    same = size ∙ empty.left.same;
    synced = subst (λ (story : Story). story ≡ all_synced (shown_image (now story)) ∷ []) (sym history) empty.left.synced;
    allowed = subst (λ (story : Story). MayLeave (now (history_of (device_of empty.store))) (shown_image (now story))) (sym history) empty.left.allowed;
  };
}

-- the faults of a device without others
pub all_faults : (fail stop : ℕ) (before after : Faults) → before ≡ no_faults → after ≡ record before { fail = after_opening fail; stop = after_opening stop }
    → after ≡ record no_faults { fail = after_opening fail; stop = after_opening stop }
all_faults fail stop before after none set = set ∙ ap (λ (f : Faults). record f { fail = after_opening fail; stop = after_opening stop }) none

-- what a crash leaves of a device that was formatted has an empty store
pub formatted_empty : {g : Ghosts ModelDevice} (sectors : ℕ) (version : FormatVersion) (device formatted left : ModelDevice) (store : Store ModelDevice g)
    → Opens size_of history_of failed_of no_tables fresh format_call device store → FormatsStore size_of history_of version device store → formatted ≡ device_of store → size_of device ≡ sectors → size_of left ≡ size_of formatted → failed_of left ≡ 0
    → ((base : Tables) (m : Machine) → DeviceFits size_of history_of base m formatted → IsLeftOf size_of history_of formatted left → ShutFits size_of history_of base (shut_down m) left)
    → IsLeftOf size_of history_of formatted left → IsEmptyStore g sectors version left
formatted_empty sectors version device formatted left store opens formats is made size failed goes_on crash = record {
  size = size ∙ ap size_of is ∙ opens.same ∙ made;
  failed = failed;
  stands =
      subst (λ (m : Machine). ShutFits size_of history_of no_tables m left) (formatted_resumed (setting_of (size_of device) no_tables) fresh opens.next _ opens.goes.step)
      (goes_on no_tables opens.next (subst (λ (d : ModelDevice). DeviceFits size_of history_of no_tables opens.next d) (sym is) opens.fits.device) crash);
  new = device;
  store = store;
  formatted = formats;
  left = subst (λ (d : ModelDevice). IsLeftOf size_of history_of d left) is crash;
}

-- ---- a new device

zeros_rule_none : (s : Story) → s ≡ all_synced (λ _. Some zeros) ∷ [] → ruling (shown_image (now s)) ≡ None
unfolding newer ruling all_synced zeros
zeros_rule_none s is =
    ap (λ (x : Story). ruling (shown_image (now x))) is
    ∙ ap (λ (c : Option Commit). newer c (commit_at 1 (Some zeros))) (none_begins 0 0 (replicate 511 0) refl)
    ∙ none_begins 1 0 (replicate 511 0) refl

-- why a device of zeros is not formatted
pub new_refused : (sectors : ℕ) (device : ModelDevice) (r : OpeningRefusal) → size_of device ≡ sectors → history_of device ≡ all_synced (λ _. Some zeros) ∷ []
    → TellsFormatting r (size_of device) (ruling (shown_image (now (history_of device)))) → IsOfNewDevice sectors r
new_refused sectors device openings.NotAStore size is told = absurd told
new_refused sectors device openings.AlreadyAStore size is told = absurd (told (zeros_rule_none (history_of device) is))
new_refused sectors device (openings.Damaged cause) size is told = (told.0, subst (λ (n : ℕ). is_size n ≡ false) size told.1)
new_refused sectors device openings.Device size is told = tt
new_refused sectors device openings.OutOfMemory size is told = tt
