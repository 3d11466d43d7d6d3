-- What a failed output may have taken.
use Rattle.std.specs.Prelude.{◌≡◌, ◌++◌, ℕ, List, Option}
use Rattle.std.specs.Io.KnownBytes.{Appends}
use Rattle.cli_reports.specs.declared.refusal.Refusal.{Refusal}
use Rattle.cli_reports.specs.declared.refusal.Refusal.TheVariants.{Io}
use Rattle.cli_reports.specs.declared.refusal.Side.TheVariants.{Output}

-- some first bytes of the text were written, and nothing else
abbrev pub AppendsFront : (old new : Option (List ℕ)) → (text : List ℕ) → Type 0
AppendsFront old new text = (front rest : List ℕ) × (text ≡ front ++ rest) × Appends old new front

-- if the output failed, P holds
abbrev pub IfOutput : (P : Type 0) → Refusal → Type 0
IfOutput P (Io Output) = P
IfOutput P _ = Unit {0}
