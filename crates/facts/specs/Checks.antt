-- Checks in a fixed order, of which the first finding is reported.
use Rattle.std.specs.Prelude.{Bool, if◌then◌else◌, List, [], ◌∷◌, Option, Some, None, Result, Ok, Err}

-- what a check finds if its test holds
abbrev pub when : {E : Type 0} → Bool → E → Option E
when b e = if b then Some e else None

-- the first of some options that is present
abbrev pub first_some : {X : Type 0} → List (Option X) → Option X
first_some [] = None
first_some (Some x ∷ rest) = Some x
first_some (None ∷ rest) = first_some rest

-- the finding as an error, or else this result
abbrev pub unless : {A E : Type 0} → Option E → Result A E → Result A E
unless None r = r
unless (Some e) r = Err e
