-- Tokens that a writer has been given.
use Rattle.std.specs.Prelude.{◌≡◌, ◌++◌, List, Result, OnOk}
use Rattle.json.specs.Token.{Token}
use Rattle.json.specs.Written.{Written}

-- all of these tokens are appended, unless memory is refused
abbrev pub WritesAll : {E : Type 0} → Result (Unit {0}) E → (old new : Written) → List Token → Type 0
WritesAll result old new tokens = OnOk result ((new.tokens ≡ old.tokens ++ tokens) × (new.before ≡ old.before))
