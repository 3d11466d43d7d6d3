use Rattle.std.proofs.Common.{◌≡◌, ◌∙◌, ◌∷◌, [], ◌+◌, ◌++◌, sym, ap, map, drop, append_assoc, rules}
use Rattle.std.specs.Prelude.{unwrap_or, Option}
use Rattle.std.proofs.lemmas.List.{map_push}
use Rattle.arrow_schema.specs.Column.{Column, Kind, nulls}
use Rattle.arrow_schema.specs.View.{kind_step, column_step, column_of}
use Rattle.arrow_schema.specs.declared.types.Field.{fold-roll-Field}
use Rattle.facts.specs.laws.Lists.{drop-item}
use Rattle.ipc_message.specs.declared.raw_header.RawField.TheViews.{the_lemmas}
use Rattle.ipc_message.specs.Raw.{raw_fields_of}
use Rattle.ipc_message.specs.Fields.{preorder, preorder_all}
use Rattle.ipc_message.specs.Convert.{column_of_field, columns_of_fields}
use Rattle.ipc_message.specs.View.{raw_field_of}
use Rattle.ipc_message.proofs.Decoded.{parts_readable, column_opened, left_readable, right_readable, same_column}
use Rattle.ipc_message.proofs.convert.+convert.Goals as goal

pub copy_field-copy_fields-requires : goal.copy_field-copy_fields-requires
copy_field-copy_fields-requires t c = (search (rules, the_lemmas), rw c.deref.ensures.value (parts_readable c.args.raw.now c.requires).below)

pub copy_field-copy_text-requires : goal.copy_field-copy_text-requires
copy_field-copy_text-requires t c = (parts_readable c.args.raw.now c.requires).name

pub copy_field-data_type-requires-clause-decoded : goal.copy_field-data_type-requires-clause-decoded
copy_field-data_type-requires-clause-decoded t c =
    rw (c.type_name.ensures, c.in_ok-children.ensures, c.deref.ensures.value) (parts_readable c.args.raw.now c.requires).decoded

pub copy_field-data_type-requires-clause-timezone : goal.copy_field-data_type-requires-clause-timezone
copy_field-data_type-requires-clause-timezone t c = (parts_readable c.args.raw.now c.requires).timezone

pub copy_field-copy_pairs-requires : goal.copy_field-copy_pairs-requires
copy_field-copy_pairs-requires t c = rw c.deref-2.ensures.value (parts_readable c.args.raw.now c.requires).pairs

pub copy_field-copy_index-requires : goal.copy_field-copy_index-requires
copy_field-copy_index-requires t c = (parts_readable c.args.raw.now c.requires).index

pub copy_field-returns : goal.copy_field-returns
unfolding column_of_field
copy_field-returns t c =
    let decoded = rw (c.type_name.ensures, c.in_ok-children.ensures, c.deref.ensures.value) at c.in_ok-data_type.ensures in
    let pairs = rw c.deref-2.ensures.value at c.in_ok-pairs.ensures in
    fold-roll-Field Kind Column kind_step column_step _
    ∙ same_column c.in_ok-name.ensures (sym (ap (λ (kind : Option Kind). unwrap_or kind nulls) decoded)) c.copy_index.ensures pairs
    ∙ sym (column_opened c.args.raw.now)

pub copy_fields-copy_field-requires : goal.copy_fields-copy_field-requires
unfolding preorder_all
copy_fields-copy_field-requires t c =
    let x = c.field-item.result in
    let next = drop-item c.args.raw.now c.loop-field.field-index x c.loop-field-test.true c.field-item.is in
    (search (rules, the_lemmas), left_readable (preorder (raw_field_of x)) _ (rw next at c.loop-field.invariant.readable))

pub copy_fields-loop-field-preserved : goal.copy_fields-loop-field-preserved
unfolding preorder_all columns_of_fields
copy_fields-loop-field-preserved t c =
    let i = c.loop-field.field-index in
    let x = c.field-item.result in
    let old = map column_of c.loop-field.fields.items in
    let rest = columns_of_fields (raw_fields_of (map raw_field_of (drop (i + 1) c.args.raw.now))) in
    let next = drop-item c.args.raw.now i x c.loop-field-test.true c.field-item.is in
    let copied : map column_of c.push.new.self.items ≡ old ++ column_of_field (raw_field_of x) ∷ []
    = rw c.in_ok-push.ensures.items (map_push column_of c.loop-field.fields.items _ ∙ ap (λ (y : Column). old ++ y ∷ []) c.in_ok-copy_field.ensures) in
    record {
      copied = rw copied (append_assoc old (column_of_field (raw_field_of x) ∷ []) rest ∙ (rw next at c.loop-field.invariant.copied));
      readable = right_readable (preorder (raw_field_of x)) _ (rw next at c.loop-field.invariant.readable);
    }
