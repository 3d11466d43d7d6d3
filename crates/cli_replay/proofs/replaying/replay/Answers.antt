use Rattle.std.proofs.Common.{◌∙◌, ℕ, List, map, ap, subst}
use Rattle.std.proofs.lemmas.Result.{err_from_is_err_and, IfOk-weaker}
use Rattle.std.specs.Io.KnownBytes.{Appends}
use Rattle.std.specs.Prelude.{string_bytes}
use Rattle.cli_scripts.specs.declared.items.ScriptItem.{ScriptItem}
use Rattle.cli_scripts.specs.Items.{number_of}
use Rattle.cli_scripts.specs.Plain.{plain_items}
use Rattle.sector_dev.specs.contracts.model.calls.ModelDeviceSectorDevice.TheImpl.{ghosts}
use Rattle.cli_replay.specs.Replay.{AreCallsOfItems, IsReplay}
use Rattle.cli_replay.proofs.Opening.{playing_refused, script_unread, streams_refused}
use Rattle.cli_replay.proofs.Plays.{none_left}
use Rattle.cli_replay.proofs.Scripts.{have_words, script_refused}
use Rattle.cli_replay.proofs.replaying.replay.Goals as goal

pub returns-in_err-text-clause-told : goal.returns-in_err-text-clause-told
returns-in_err-text-clause-told g c =
    let p = err_from_is_err_and c.from_residual-in_err-text.result c.from_residual-in_err-text.ensures.1 in
    let device = c.in_ok-device.ensures in
    rw (p.1, p.2) (playing_refused g.F.Read.remaining c.args.sectors _ device.in_limits (c.in_err-text.ensures.told c.args.sectors c.args.version device.empty))

pub returns-in_err-script-clause-told : goal.returns-in_err-script-clause-told
returns-in_err-script-clause-told g c =
    let p = err_from_is_err_and c.from_residual-in_err-script.result c.from_residual-in_err-script.ensures.1 in
    rw (p.1, p.2) (script_unread g.F.Read.remaining c.args.sectors _ c.in_ok-device.ensures.in_limits c.in_err-script.ensures.told)

pub returns-in_err-calls-clause-told : goal.returns-in_err-calls-clause-told
returns-in_err-calls-clause-told g c =
    let p = err_from_is_err_and c.from_residual-in_err-calls.result c.from_residual-in_err-calls.ensures.1 in
    rw (p.1, p.2) (streams_refused g.F.Read.remaining c.args.sectors _ c.in_ok-device.ensures.in_limits c.in_err-calls.ensures.told)

pub returns-in_err-items-clause-told : goal.returns-in_err-items-clause-told
returns-in_err-items-clause-told g c =
    let p = err_from_is_err_and c.from_residual-in_err-items.result c.from_residual-in_err-items.ensures.1 in
    let script = c.in_ok-script.script.items in
    let have = have_words script c.deref.result.now c.in_ok-words.words.items c.deref-2.result.now c.deref.ensures.value c.deref-2.ensures.value c.in_ok-words.ensures in
    rw (p.1, p.2) (script_refused g.F.Read.remaining c.args.sectors script _ c.in_ok-device.ensures.in_limits c.in_ok-script.ensures.all (c.in_err-items.ensures.told script have))

pub returns-clause-replays : goal.returns-clause-replays
returns-clause-replays g c =
    let old = g.W.Write.contents c.args.output.now in
    let new = g.W.Write.contents c.write_whole.new.writer in
    let script = c.in_ok-script.script.items in
    let have = have_words script c.deref.result.now c.in_ok-words.words.items c.deref-2.result.now c.deref.ensures.value c.deref-2.ensures.value c.in_ok-words.ensures in
    IfOk-weaker c.write_whole.result (λ done. Appends old new c.as_bytes.result.now) _ (λ done written. record {
      script = script;
      of_file = c.in_ok-script.ensures.all;
      items = plain_items c.in_ok-items.items.items;
      parsed = c.in_ok-items.ensures.items script have;
      calls = c.in_ok-calls.calls.items;
      are =
          subst (λ (items : List ScriptItem). AreCallsOfItems g.F.Read.remaining (plain_items items) c.in_ok-calls.calls.items) c.deref-3.ensures.value
          c.in_ok-calls.ensures.calls;
      text = string_bytes c.in_ok-text.text;
      replay =
          subst
          (λ (numbers : List ℕ). IsReplay ghosts none_left c.args.sectors c.args.version c.args.faults.fail c.args.faults.stop c.args.faults.choice numbers
          c.in_ok-calls.calls.items (string_bytes c.in_ok-text.text))
          (c.deref-5.ensures.value ∙ c.in_ok-numbers.ensures ∙ ap (λ (items : List ScriptItem). map number_of (plain_items items)) c.deref-4.ensures.value)
          (c.in_ok-text.ensures.replays c.args.sectors c.args.version c.in_ok-device.ensures.empty);
      written = subst (λ (bytes : List ℕ). Appends old new bytes) c.as_bytes.ensures.value written;
    }) c.write_whole.ensures.written
