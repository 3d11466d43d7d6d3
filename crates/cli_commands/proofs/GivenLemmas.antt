-- What was read of an input.
use Rattle.std.proofs.Common.{◌≡◌, ℕ, ◌≤◌, List, Option, arith}
use Rattle.std.specs.Prelude.{IfSome, vec_len}
use Rattle.std.specs.Global.{Vec}
use Rattle.cli_commands.specs.declared.input.TheConstants.{LARGEST_INPUT}
use Rattle.cli_commands.specs.Given.{IsWholeInput}

-- bytes that were read to the end
pub whole_input : (input : Option (List ℕ)) (bytes : Vec ℕ) → IfSome input (λ all. bytes.items ≡ all) → vec_len bytes ≤ LARGEST_INPUT → IsWholeInput input bytes.items
whole_input input bytes all within = (all, omega (arith, within, bytes.ok.0))
