-- The outcome of a call that a definition states.
use Rattle.std.specs.Prelude.{◌≡◌, Option, Some, None, Result, Ok, Err}

-- what was read, mapped by `view`, is what the definition reads
abbrev pub Reads : {X Y : Type 0} → (X → Y) → Option X → Option Y → Type 0
Reads view None read = read ≡ None
Reads view (Some x) read = read ≡ Some (view x)

-- the fault of an error is the stated one; without a fault, memory was refused and nothing is claimed
abbrev pub Reports : {Y F : Type 0} → Option F → Result Y F → Type 0
Reports None stated = Unit {0}
Reports (Some f) stated = stated ≡ Err f

-- the result, mapped by `view`, is the stated one, unless memory was refused; `reported` is the fault of an error, if it has one
abbrev pub Gives : {X Y E F : Type 0} → (E → Option F) → (X → Y) → Result X E → Result Y F → Type 0
Gives reported view (Ok x) stated = stated ≡ Ok (view x)
Gives reported view (Err e) stated = Reports (reported e) stated
