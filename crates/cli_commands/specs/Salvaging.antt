-- What the program answers to a salvage.
use Rattle.store.specs.Salvaging.{BreaksOff}
use Rattle.cli_reports.specs.declared.refusal.Refusal.{Refusal}
use Rattle.cli_reports.specs.declared.refusal.Refusal.TheVariants.{Io, Store}
use Rattle.cli_reports.specs.declared.refusal.Side.TheVariants.{Output}

-- a salvage was broken off: a write or the device failed, or memory was refused; part of its stream may be written
abbrev pub IsBrokenOff : Refusal → Type 0
IsBrokenOff (Io Output) = Unit {0}
IsBrokenOff (Store r) = BreaksOff r
IsBrokenOff _ = ⊥
