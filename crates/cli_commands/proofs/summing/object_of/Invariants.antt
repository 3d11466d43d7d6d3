-- The text so far, and the members of the numbers that are left, are those of all.
use Rattle.std.proofs.Common.{◌≡◌, ◌++◌, map, flat_map, drop, string_bytes}
use Rattle.cli_commands.specs.Printed.{number_member}
use Rattle.cli_commands.proofs.summing.object_of.Given as goal

abbrev pub invariant-loop-name : goal.invariant-loop-name
invariant-loop-name l = string_bytes l.text ++ flat_map number_member (map (λ n. (n.0.now, n.1)) (drop l.name-index l.name-items)) ≡ string_bytes l.initial.text ++ flat_map number_member (map (λ n. (n.0.now, n.1)) l.name-items)
