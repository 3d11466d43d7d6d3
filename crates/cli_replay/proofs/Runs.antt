-- Lines that were played are a run of calls.
use Rattle.std.proofs.Common.{◌≡◌, ◌∙◌, ◌∷◌, [], ℕ, Bool, true, false, List, Option, refl, sym, subst}
use Rattle.sector_dev.specs.declared.device.SectorDevice.{Ghosts}
use Rattle.tables.specs.Tables.{Tables}
use Rattle.store.specs.declared.call.Call.{Call}
use Rattle.store.specs.declared.call.StoreOrDevice.{StoreOrDevice}
use Rattle.store_runs.specs.Calls.{PlainCall, PlainReply}
use Rattle.store_runs.specs.Machine.{Machine}
use Rattle.store_runs.specs.Runs.{Run}
use Rattle.store.specs.Fits.{setting_of}
use Rattle.store.specs.Places.{device_in, PlaceFits, PlaceGoes, PlaceRuns}
use Rattle.cli_replay.specs.Playing.{PlaysLine, Plays, ArePlayedAsRun}

module _ {D : Type 0} (g : Ghosts D) {R : Type 0} (is_over : D → Bool) (remaining : R → Option (List ℕ)) (tells : g.tells ≡ true) (base : Tables) where
  no_call : (m : Machine) (place : StoreOrDevice D g) → PlaceFits g.size g.story base m place → PlaceRuns g.size g.story g.failed base m [] [] (device_in place) place
  unfolding Run
  no_call m place fits = record { next = m; same = refl; run = record { machine = refl; same = refl; failures = refl }; fits = fits }

  none : (m : Machine) (calls : List (Call R)) (place : StoreOrDevice D g) → PlaceFits g.size g.story base m place → ArePlayedAsRun g remaining base m calls [] place place
  none m calls place fits = record { plains = []; are = refl; runs = no_call m place fits }

  ends : (m : Machine) (calls : List (Call R)) (replies : List PlainReply) (old new : StoreOrDevice D g) → PlaceFits g.size g.story base m old → replies ≡ [] → new ≡ old → ArePlayedAsRun g remaining base m calls replies old new
  ends m calls replies old new fits without same =
      subst (λ (rs : List PlainReply). ArePlayedAsRun g remaining base m calls rs old new) (sym without)
      (subst (λ (p : StoreOrDevice D g). ArePlayedAsRun g remaining base m calls [] old p) (sym same) (none m calls old fits))

  -- one call, and then the others
  call_first : (m : Machine) (plain : PlainCall) (reply : PlainReply) (plains : List PlainCall) (replies : List PlainReply) (old next new : StoreOrDevice D g)
      → (goes : PlaceGoes g.size g.story g.failed base m plain reply (device_in old) next) → PlaceRuns g.size g.story g.failed base goes.next plains replies (device_in next) new
      → PlaceRuns g.size g.story g.failed base m (plain ∷ plains) (reply ∷ replies) (device_in old) new
  unfolding Run
  call_first m plain reply plains replies old next new goes runs = record {
    next = runs.next;
    same = runs.same ∙ goes.same;
    run = record {
      machine = goes.next;
      story = g.story (device_in next);
      failures = g.failed (device_in next);
      goes = goes.goes;
      others = subst (λ (n : ℕ). Run (setting_of n base) plains replies goes.next (g.story (device_in next)) (g.failed (device_in next)) runs.next (g.story (device_in new)) (g.failed (device_in new))) goes.same runs.run;
    };
    fits = runs.fits;
  }

  -- one line, where its device has stopped or not, and then the others
  line_run : (b : Bool) (call : Call R) (calls : List (Call R)) (m : Machine) (replies : List PlainReply) (old new : StoreOrDevice D g)
      → ((m' : Machine) (others : List PlainReply) (next : StoreOrDevice D g) → Plays g is_over remaining next calls others new → PlaceFits g.size g.story base m' next
      → ArePlayedAsRun g remaining base m' calls others next new)
      → PlaysLine g b remaining old call replies new (λ next others. Plays g is_over remaining next calls others new) → PlaceFits g.size g.story base m old
      → ArePlayedAsRun g remaining base m (call ∷ calls) replies old new
  line_run true call calls m replies old new others_run plays fits = ends m (call ∷ calls) replies old new fits plays.0 plays.1
  line_run false call calls m replies old new others_run played fits =
      let goes = played.one.goes tells base m fits in
      let others = others_run goes.next played.others played.next played.rest goes.fits in
      subst (λ (rs : List PlainReply). ArePlayedAsRun g remaining base m (call ∷ calls) rs old new) (sym played.are) (record {
        plains = played.one.plain ∷ others.plains;
        are = (played.one.is, others.are);
        runs = call_first m played.one.plain played.reply others.plains played.others old played.next new goes others.runs;
      })

  pub played_run : (calls : List (Call R)) (m : Machine) (replies : List PlainReply) (old new : StoreOrDevice D g) → Plays g is_over remaining old calls replies new → PlaceFits g.size g.story base m old
      → ArePlayedAsRun g remaining base m calls replies old new
  unfolding Plays
  played_run [] m replies old new plays fits = ends m [] replies old new fits plays.0 plays.1
  played_run (call ∷ calls) m replies old new plays fits =
      line_run (is_over (device_in old)) call calls m replies old new (λ (m' : Machine) (others : List PlainReply) (next : StoreOrDevice D g) rest stands. played_run calls m' others next new rest stands)
      plays fits
