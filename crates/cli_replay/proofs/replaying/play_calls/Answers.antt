use Rattle.std.proofs.Common.{◌∙◌, List, refl, ap, subst}
use Rattle.std.proofs.lemmas.Result.{err_from_is_err_and}
use Rattle.std.specs.Prelude.{string_bytes}
use Rattle.sector_dev.specs.Chosen.{IsChosen}
use Rattle.sector_dev.specs.Disk.{now, shown_image}
use Rattle.sector_dev.specs.View.{size_of, faults_of, history_of}
use Rattle.sector_dev.specs.contracts.model.calls.ModelDeviceSectorDevice.TheImpl.{ghosts}
use Rattle.sector_dev.specs.declared.model.ModelDevice.{ModelDevice}
use Rattle.tables.specs.Tables.{Tables}
use Rattle.store.specs.declared.call.Reply.{Reply}
use Rattle.store.specs.Beginning.{IsLeftOf}
use Rattle.store.specs.Fits.{DeviceFits}
use Rattle.store_runs.specs.Machine.{Machine, shut_down}
use Rattle.store.specs.Places.{replies_of, ShutFits}
use Rattle.cli_replay.specs.Playing.{replies_text}
use Rattle.cli_replay.proofs.Formatted.{still_empty, all_faults}
use Rattle.cli_replay.proofs.Kept.{replay_keeps}
use Rattle.cli_replay.proofs.Results.{printed_text}
use Rattle.cli_replay.proofs.Plays.{over, none_left}
use Rattle.cli_replay.proofs.replaying.play_calls.Goals as goal

pub returns-in_err-place-clause-told : goal.returns-in_err-place-clause-told
returns-in_err-place-clause-told c =
    let p = err_from_is_err_and c.from_residual.result c.from_residual.ensures.1 in
    let faulty = c.with_faults-device in
    rw (p.1, p.2) (λ sectors version empty. c.in_err-place.ensures.told sectors version
    (still_empty sectors version c.args.device faulty.result faulty.ensures.size faulty.ensures.history faulty.ensures.failed empty))

pub returns-clause-replays : goal.returns-clause-replays
returns-clause-replays c = λ sectors version empty.
    let faulty = c.with_faults-device in
    let end = c.in_ok-place-2.place in
    let replies = c.in_ok-place-2.replies.items in
    let left = c.in_ok-left.left in
    let stands = still_empty sectors version c.args.device faulty.result faulty.ensures.size faulty.ensures.history faulty.ensures.failed empty in
    let crash = subst (λ (d : ModelDevice). IsLeftOf size_of history_of d left) c.device.ensures c.in_ok-left.ensures.left in
    let chosen =
    subst (λ (d : ModelDevice). IsChosen c.args.faults.choice (now (history_of d)) (size_of d) (shown_image (now (history_of left)))) c.device.ensures c.in_ok-left.ensures.chosen in
    let goes_on =
    subst (λ (d : ModelDevice). (base : Tables) (m : Machine) → DeviceFits size_of history_of base m d → IsLeftOf size_of history_of d left → ShutFits size_of history_of base (shut_down m) left)
    c.device-2.ensures c.left_devices_fit.ensures.goes_on in
    let found = c.in_ok-found.ensures.found in
    record {
      device = faulty.result;
      empty = stands;
      faults = all_faults c.args.faults.fail c.args.faults.stop (faults_of c.args.device) (faults_of faulty.result) c.requires faulty.ensures.others;
      begin = c.in_ok-place.place;
      opening = c.in_ok-place.ensures.opened;
      replies = replies_of replies;
      end = end;
      plays = c.in_ok-place-2.ensures;
      left = left;
      crash = crash;
      chosen = chosen;
      tables = string_bytes c.in_ok-found.found;
      found = found;
      kept =
          replay_keeps ghosts over none_left refl c.acknowledged_commands_are_settled.ensures faulty.result stands.stands c.in_ok-place.place c.in_ok-place.ensures.opened c.args.calls.items
          (replies_of replies) end c.in_ok-place-2.ensures left goes_on crash found.opened found.found found.opens found.listing found.after found.lists;
      printed =
          printed_text _ _ _ _ _ c.has_stopped.result _ c.in_ok-joined_text.ensures (c.in_ok-text.ensures ∙ ap (λ (rs : List Reply). replies_text c.args.numbers.now (replies_of rs)) c.deref.ensures.value)
          (c.has_stopped.ensures ∙ ap over c.device-3.ensures) c.deref-2.ensures;
    }
