-- What the refused word of a command line names.
use Rattle.std.specs.Prelude.{ℕ, List, codes}
use Rattle.cli_reports.specs.declared.refused_word.Role.{Role}
use Rattle.cli_reports.specs.declared.refused_word.Role.TheVariants as roles

abbrev pub role_text : Role → List ℕ
role_text roles.File = codes "file"
role_text roles.Name = codes "name"
role_text roles.Field = codes "field"
role_text roles.Condition = codes "condition"
role_text roles.Column = codes "column"
