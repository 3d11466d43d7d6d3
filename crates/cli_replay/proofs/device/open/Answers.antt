use Rattle.std.proofs.Common.{refl}
use Rattle.sector_dev.specs.contracts.model.calls.ModelDeviceSectorDevice.TheImpl.{ghosts}
use Rattle.cli_replay.proofs.Opening.{opening_told}
use Rattle.cli_replay.proofs.Plays.{none_left}
use Rattle.cli_replay.proofs.device.open.Goals as goal

pub returns-in-NotOpened-clause-told : goal.returns-in-NotOpened-clause-told
returns-in-NotOpened-clause-told c = λ sectors version empty.
    opening_told ghosts none_left refl c.args.device empty.stands c.answer-place.result.1 c.in-NotOpened.refusal c.answer-place.result.0 c.answer-place.ensures c.in-NotOpened.is
