-- Whether a store is open in a run, and calls that are refused as halted while one is.
use Rattle.std.specs.Prelude.{◌||◌, Bool, true, false, if◌then◌else◌, List, [], ◌∷◌}
use Rattle.tables.specs.declared.refusal.Refusal.TheVariants as refusals
use Rattle.store_runs.specs.Calls.{PlainCall, format_call, open_call, close_call, PlainReply, done, refused}
use Rattle.store_runs.specs.Machine.{Phase, running, shut}

-- the phase of a machine that is not halted
abbrev pub phase_where : (is_open : Bool) → Phase
phase_where is_open = if is_open then running else shut

abbrev pub is_done : PlainReply → Bool
is_done done = true
is_done _ = false

-- the same after a call, by whether a store was open before it
abbrev pub is_open_after : PlainCall → PlainReply → (is_open : Bool) → Bool
is_open_after format_call reply is_open = is_done reply
is_open_after open_call reply is_open = is_done reply
is_open_after close_call reply is_open = false
is_open_after _ reply is_open = is_open

-- a store is open, and a call of it is refused as halted
abbrev pub tells_halt : (is_open : Bool) → PlainReply → Bool
tells_halt is_open (refused refusals.Halted) = is_open
tells_halt is_open _ = false

-- one of these calls is refused in this way
abbrev pub tells_halt_while_open : (is_open : Bool) → List PlainCall → List PlainReply → Bool
tells_halt_while_open is_open [] replies = false
tells_halt_while_open is_open (call ∷ calls) [] = false
tells_halt_while_open is_open (call ∷ calls) (reply ∷ replies) = tells_halt is_open reply || tells_halt_while_open (is_open_after call reply is_open) calls replies
