use Rattle.std.proofs.Common.{◌≡◌, ◌∙◌, ◌+◌, ◌∷◌, [], ◌++◌, List, ap, map, drop, append_assoc}
use Rattle.std.proofs.lemmas.List.{map_push}
use Rattle.facts.specs.laws.Lists.{drop-item}
use Rattle.ipc_message.specs.declared.fields.FieldRef.{FieldRef}
use Rattle.ipc_message.specs.declared.raw_header.RawField.{out-RawField}
use Rattle.ipc_message.specs.Raw as raw
use Rattle.ipc_message.specs.Raw.{raw_fields_of}
use Rattle.ipc_message.specs.Fields.{preorder_all}
use Rattle.ipc_message.specs.View.{raw_field_of}
use Rattle.ipc_message.specs.inner.Listed.{listed}
use Rattle.ipc_message.proofs.Opened.{preorder_opened}
use Rattle.ipc_message.proofs.fields.+list_fields.Goals as goal

-- a field, and then its children, before the others
field_listed : (old pushed new own rest whole : List raw.RawField) (f : raw.RawField) → pushed ≡ old ++ f ∷ [] → new ≡ pushed ++ own → old ++ ((f ∷ own) ++ rest) ≡ whole → new ++ rest ≡ whole
field_listed old pushed new own rest whole f first then h =
    rw (then, first) (append_assoc (old ++ f ∷ []) own rest ∙ append_assoc old (f ∷ []) (own ++ rest) ∙ h)

pub loop-field-preserved : goal.loop-field-preserved
unfolding preorder_all
loop-field-preserved t c =
    let fields = c.args.fields.now in
    let i = c.loop-field.field-index in
    let f = c.field-item.result in
    let rest = preorder_all (raw_fields_of (map raw_field_of (drop (i + 1) fields))) in
    let own = preorder_all (raw_fields_of (map raw_field_of (out-RawField f).children.items)) in
    field_listed (listed c.loop-field.list.items) (listed c.push.new.self.items) _ own rest _ (raw_field_of f)
    (ap listed c.in_ok-push.ensures.items ∙ map_push (λ (g : FieldRef). raw_field_of g.field.now) c.loop-field.list.items _)
    (rw c.deref.ensures.value at c.in_ok-list_fields.ensures)
    (rw (drop-item fields i f c.loop-field-test.true c.field-item.is, preorder_opened f) at c.loop-field.invariant)
