use Rattle.std.proofs.Common.{refl}
use Rattle.tables.specs.Tables.{no_tables}
use Rattle.store.specs.Fits.{fresh}
use Rattle.cli_replay.proofs.Formatted.{formatted_empty, new_refused}
use Rattle.cli_replay.proofs.device.empty_store.Goals as goal

pub returns-in-Ok-clause-empty : goal.returns-in-Ok-clause-empty
returns-in-Ok-clause-empty c =
    let left = c.in_ok-left-in-Ok in
    let new = c.devices_fit.ensures.zeros c.in-Ok.ensures.in_limits c.in_ok-device.ensures.zeros in
    let opens = c.in-Ok.ensures.opened refl no_tables fresh new in
    formatted_empty c.args.sectors c.args.version c.in_ok-device.device c.close-formatted.result left.left c.in-Ok.store opens (c.in-Ok.ensures.formatted refl) c.close-formatted.ensures
    c.in_ok-device.ensures.size left.ensures.size left.ensures.failed
    c.left_devices_fit.ensures.goes_on (record { same = left.ensures.size; synced = left.ensures.synced; allowed = left.ensures.allowed })

pub returns-clause-told : goal.returns-clause-told
returns-clause-told c =
    new_refused c.args.sectors c.in_ok-device.device c.in-Err.refusal c.in_ok-device.ensures.size c.in_ok-device.ensures.zeros (c.in-Err.ensures.told refl)
