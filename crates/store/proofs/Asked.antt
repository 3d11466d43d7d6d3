-- A call that asks the catalogue in memory is a call of the machine that changes nothing.
use Rattle.std.specs.Prelude.{◌≡◌, ◌≢◌, ◌+◌, ◌-◌, ◌^◌, ℕ, min, Bool, true, false, nat_lt, List, Result, Err, IfErr, if◌then◌else◌, refl}
use Rattle.std.proofs.Common.{ap, sym, ◌∙◌, subst, arith}
use Rattle.std.proofs.lemmas.Bool.Decides.{nat_tests}
use Rattle.sector_dev.specs.Disk.{Disk, Story, now}
use Rattle.sector_dev.specs.laws.Time.{stays}
use Rattle.sector_dev.specs.declared.device.SectorDevice.{Ghosts}
use Rattle.segments.specs.declared.run.Run.{Run}
use Rattle.tables.specs.Tables.{Tables}
use Rattle.tables.specs.declared.refusal.Refusal.{Refusal}
use Rattle.tables.specs.Refusals.{by_room, origin_of}
use Rattle.store.specs.declared.store.Store.{Store}
use Rattle.store_runs.specs.Calls.{PlainCall, apply_call, stream_call, open_export_call, compact_call, upgrade_call, PlainReply, export_is, refused, is_device_reply}
use Rattle.store_runs.specs.Machine.{Setting, Phase, running, halted, Machine, AllowsEach, pinned_by, SparesKept}
use Rattle.store_runs.specs.Steps.{Step}
use Rattle.store_runs.specs.Runs.{TellsFound, TellsExport}
use Rattle.store_runs.specs.Rooms.{CommandDecides, StepDecides, UpgradeDecides, TellsRoom}
use Rattle.store.specs.Fits.{setting_of, StoreFits}
use Rattle.store.specs.Applying.{GoesOn}
use Rattle.store.proofs.Roomed.{room_by}

-- a store that is halted runs no more, and one that isn't runs
pub not_running : (p : Phase) (h : Bool) → p ≡ (if h then halted else running) → h ≡ true → p ≢ running
not_running p h phase on runs = let stopped : p ≡ halted = phase ∙ ap (λ (b : Bool). if b then halted else running) on in cc (stopped, runs)

pub is_running : (p : Phase) (h : Bool) → p ≡ (if h then halted else running) → h ≡ false → p ≡ running
is_running p h phase off = phase ∙ ap (λ (b : Bool). if b then halted else running) off

pub not_less : (n : ℕ) → nat_lt n n ≡ false
not_less n = grind (arith, nat_tests)

-- what holds of the one refusal that there is
pub told_of : {T : Type 0} (r : Result T Refusal) (e : Refusal) (P : Refusal → Type 0) → r ≡ Err e → P e → IfErr r P
told_of r e P is p = subst (λ x. IfErr x P) (sym is) p

-- a call that is refused for another reason than room
pub refused_elsewhere : (s : Setting) (pinned : List Run) (call : PlainCall) (r : Refusal) (before after : Disk) → origin_of r ≢ by_room → TellsRoom s pinned call (refused r) before after
refused_elsewhere s pinned (apply_call c) r before after other = room_by (origin_of r) s.size pinned before after (CommandDecides before c) r (λ room. absurd (other room))
refused_elsewhere s pinned (stream_call c) r before after other = room_by (origin_of r) s.size pinned before after (CommandDecides before c) r (λ room. absurd (other room))
refused_elsewhere s pinned compact_call r before after other = room_by (origin_of r) s.size pinned before after (StepDecides s.size pinned before) r (λ room. absurd (other room))
refused_elsewhere s pinned upgrade_call r before after other = room_by (origin_of r) s.size pinned before after (UpgradeDecides before) r (λ room. absurd (other room))
refused_elsewhere s pinned _ r before after other = tt

-- no export is opened by a call that is refused, or that leaves the machine as it is
pub refused_keeps : (s : Setting) (call : PlainCall) (r : Refusal) (before : Disk) (next : Machine) → TellsExport s call (refused r) before next
refused_keeps s (open_export_call name) r before next = tt
refused_keeps s _ r before next = tt

pub stays_keeps : (s : Setting) (m : Machine) (call : PlainCall) (reply : PlainReply) (wrote : Bool) (before : Disk) → Step s m call reply wrote m
    → TellsExport s call reply before m
unfolding Step
stays_keeps s m (open_export_call name) (export_is id) wrote before step =
    let one_more : m.next_id ≡ m.next_id + 1 = ap (λ (k : Machine). k.next_id) step.5.3 in absurd (omega (arith, one_more))
stays_keeps s m (open_export_call name) _ wrote before step = tt
stays_keeps s m _ reply wrote before step = tt

-- a step that writes nothing, of a store that stays as it is
pub still : {D : Type 0} {g : Ghosts D} (size : D → ℕ) (story : D → Story) (failed : D → ℕ) (base : Tables) (m : Machine) (call : PlainCall) (reply : PlainReply) (store : Store D g)
    → Step (setting_of (size store.device) base) m call reply false m → is_device_reply reply ≡ false → StoreFits size story base m store
    → TellsFound (setting_of (size store.device) base) reply (now (story store.device)) → TellsRoom (setting_of (size store.device) base) (pinned_by m) call reply (now (story store.device)) (now (story store.device))
    → GoesOn size story failed base m call reply store store
still size story failed base m call reply store step answered fits tells room =
    let s = setting_of (size store.device) base in
    let d = now (story store.device) in
    record {
      next = m;
      same = refl;
      goes = record {
        step = subst (λ (b : Bool). Step s m call reply b m) (sym (not_less d.writes)) step;
        moments = stays (AllowsEach s call reply m d) (story store.device);
        settles = fits.device.allows;
        quiet = λ no device. refl;
        counts = sym (ap (λ (b : Bool). if b then min (failed store.device + 1) (2 ^ 64 - 1) else failed store.device) answered);
        tells = tells;
        room = room;
        spares = λ needs. stays (SparesKept m d) (story store.device);
        keeps = stays_keeps s m call reply false d step;
      };
      fits = fits;
    }
