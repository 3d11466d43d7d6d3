-- The commands so far and those of the names that are left are all commands.
use Rattle.std.proofs.Common.{◌≡◌, ◌++◌, drop, map, string_bytes}
use Rattle.table_archive.specs.Manifest.{plain_listed}
use Rattle.tables.specs.View.{command_of}
use Rattle.store.specs.Receiving.{drops}
use Rattle.store.proofs.receiving.push_drops.Given as goal

abbrev pub invariant-loop-name : goal.invariant-loop-name
invariant-loop-name l =
    map command_of l.commands.items ++ drops (map (λ t. (string_bytes t.0, t.1)) (drop l.name-index l.names)) (map plain_listed l.tables)
    ≡ map command_of l.fn.commands.items ++ drops (map (λ t. (string_bytes t.0, t.1)) l.names) (map plain_listed l.tables)
