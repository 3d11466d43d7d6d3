use Rattle.std.proofs.Common.{◌≡◌, ◌∙◌, map, rules}
use Rattle.arrow_schema.specs.declared.types.Field.{the_lemmas as field_lemmas}
use Rattle.arrow_schema.specs.Column.{structs, columns_of}
use Rattle.arrow_schema.specs.Parts.{kind_of_column}
use Rattle.arrow_schema.specs.View.{column_of, kind_of}
use Rattle.arrow_schema.specs.laws.Columns.{columns_listed}
use Rattle.text_import.proofs.place.part_of_field.Goals as goal

pub returns-in-Struct : goal.returns-in-Struct
returns-in-Struct c =
    let fields = c.in-Struct.fields.items in
    let own : kind_of_column (column_of c.args.field.now) ≡ kind_of c.args.field.now.data_type = search (rules, field_lemmas) in
    let kind : kind_of_column (column_of c.args.field.now) ≡ structs (columns_of (map column_of fields)) = own ∙ rw c.in-Struct.is (search (rules, field_lemmas)) in
    rw (kind, columns_listed (map column_of fields)) (rw c.deref-in-Struct.ensures.value at c.listed.ensures)
