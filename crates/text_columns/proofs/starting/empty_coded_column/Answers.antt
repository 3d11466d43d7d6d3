use Rattle.std.specs.Prelude.{Option, Some, option_map}
use Rattle.std.proofs.Common.{refl, [], sym, subst}
use Rattle.std.proofs.lemmas.List.{nil_from_length}
use Rattle.arrow_schema.specs.View.{index_of, kind_of}
use Rattle.arrow_schema.specs.declared.types.DictSpec.{DictSpec}
use Rattle.arrow_schema.specs.laws.Parts.{field_parts}
use Rattle.text_columns.specs.declared.coding.Coding.{Coding}
use Rattle.text_columns.specs.inner.Kept.{HoldsCells}
use Rattle.text_columns.proofs.Coded.{none_coded}
use Rattle.text_columns.proofs.starting.empty_coded_column.Goals as goal

pub returns : goal.returns
returns c =
    let kind = kind_of c.args.field.now.data_type in
    let d : Coding = record { index = c.args.spec.index; indices = c.new.result; keys = c.new-2.result; one = c.in-Some-2.one } in
    let coded = none_coded (index_of c.args.spec) kind c.in-Some.values d refl refl c.new.ensures.items (rw c.in-Some.is at c.in_ok-values.ensures) (nil_from_length c.new-2.result.keys c.new-2.ensures.len)
    (rw c.in-Some-2.is at c.in_ok-one.ensures) in
    rw (field_parts c.args.field.now) (refl, c.new-3.ensures.items, subst (λ (o : Option DictSpec). HoldsCells (option_map index_of o) kind [] c.in-Some.values (Some d)) (sym c.requires) coded)
