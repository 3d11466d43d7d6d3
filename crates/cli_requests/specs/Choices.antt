-- What a crash leaves, as a word of a command line.
use Rattle.std.specs.Prelude.{◌≡◌, ◌⊎◌, ◌++◌, ◌-◌, ◌^◌, codes}
use Rattle.clap.specs.Words.{Text}
use Rattle.cli_requests.specs.Numbers.{IsNumber}
use Rattle.sector_dev.specs.declared.crash_choice.CrashChoice.{CrashChoice}
use Rattle.sector_dev.specs.declared.crash_choice.CrashChoice.TheVariants.{Old, New, Bits, Lost}

-- a number has the bits of the sectors that are new, and after `lost:` of those that are lost; `lost` alone means all
abbrev pub IsChoice : Text → CrashChoice → Type 0
IsChoice word Old = word ≡ codes "old"
IsChoice word New = word ≡ codes "new"
IsChoice word (Bits bits) = IsNumber word bits
IsChoice word (Lost bits) = ((word ≡ codes "lost") × (bits ≡ 2 ^ 64 - 1)) ⊎ ((number : Text) × (word ≡ codes "lost:" ++ number) × IsNumber number bits)
