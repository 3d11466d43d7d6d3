-- Commands on tables as plain data.
use Rattle.std.specs.Prelude.{ℕ, List, [], ◌∷◌, ◌++◌, Option, Some, None}
use Rattle.facts.specs.Bytes.{AreBytes}
use Rattle.arrow_schema.specs.Column.{PlainSchema}
use Rattle.arrow_schema.specs.Limits.{IsWithinLimits}
use Rattle.cells.specs.Cell.{Cell}
use Rattle.query.specs.Query.{PlainQuery}

mutual
  -- names and streams are bytes
  pub data PlainCommand : Type 0 where
    create : (name : List ℕ) → PlainSchema → PlainCommand
    import_stream : (name : List ℕ) → (bytes : List ℕ) → PlainCommand
    append_stream : (name : List ℕ) → (bytes : List ℕ) → PlainCommand
    append_rows : (name : List ℕ) → List (List Cell) → PlainCommand
    save_as : (from to : List ℕ) → PlainQuery → PlainCommand
    rename : (from to : List ℕ) → PlainCommand
    drop_table : (name : List ℕ) → PlainCommand
    -- several commands as one: all of them are done, or none
    all_of : PlainCommands → PlainCommand

  -- a list of commands
  pub data PlainCommands : Type 0 where
    no_command : PlainCommands
    and_command : PlainCommand → PlainCommands → PlainCommands

abbrev pub commands_of : List PlainCommand → PlainCommands
commands_of [] = no_command
commands_of (c ∷ cs) = and_command c (commands_of cs)

abbrev pub command_list : PlainCommands → List PlainCommand
command_list no_command = []
command_list (and_command c cs) = c ∷ command_list cs

abbrev mutual
  -- the names whose tables a command may change
  pub changed_names : PlainCommand → List (List ℕ)
  changed_names (create name schema) = name ∷ []
  changed_names (import_stream name bytes) = name ∷ []
  changed_names (append_stream name bytes) = name ∷ []
  changed_names (append_rows name rows) = name ∷ []
  changed_names (save_as from to query) = to ∷ []
  changed_names (rename from to) = from ∷ to ∷ []
  changed_names (drop_table name) = name ∷ []
  changed_names (all_of cs) = changed_by_each cs

  pub changed_by_each : PlainCommands → List (List ℕ)
  changed_by_each no_command = []
  changed_by_each (and_command c cs) = changed_names c ++ changed_by_each cs

abbrev mutual
  -- a command brings a schema within the limits, or a stream of bytes
  pub BringsTables : PlainCommand → Type 0
  BringsTables (create name schema) = IsWithinLimits schema
  BringsTables (import_stream name bytes) = AreBytes bytes
  BringsTables (append_stream name bytes) = Unit {0}
  BringsTables (append_rows name rows) = Unit {0}
  BringsTables (save_as from to query) = Unit {0}
  BringsTables (rename from to) = Unit {0}
  BringsTables (drop_table name) = Unit {0}
  BringsTables (all_of cs) = EachBringsTables cs

  pub EachBringsTables : PlainCommands → Type 0
  EachBringsTables no_command = Unit {0}
  EachBringsTables (and_command c cs) = BringsTables c × EachBringsTables cs

abbrev pub BringTables : List PlainCommand → Type 0
BringTables [] = Unit {0}
BringTables (c ∷ cs) = BringsTables c × BringTables cs
