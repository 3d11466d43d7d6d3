use Rattle.std.proofs.Common.{◌≡◌, ◌∙◌, ◌+◌, ◌++◌, List, map, append_assoc, sym, ap, drop, rules}
use Rattle.ipc_message.specs.declared.raw_header.RawField.{out-RawField}
use Rattle.ipc_message.specs.declared.raw_header.RawField.TheViews.{the_lemmas}
use Rattle.std.proofs.lemmas.List.Concat.{flat_map-append}
use Rattle.facts.specs.laws.Lists.{drop-item}
use Rattle.ipc_message.specs.Raw as raw
use Rattle.ipc_message.specs.Raw.{raw_fields_of}
use Rattle.ipc_message.specs.DictionaryTypes.{PlainDictionary, own_dictionary, dictionaries_in, plain_dictionary_of}
use Rattle.ipc_message.specs.Fields.{dictionary_of, preorder, preorder_all}
use Rattle.ipc_message.specs.View.{raw_field_of}
use Rattle.ipc_message.proofs.Decoded.{left_readable, right_readable, parts_readable}
use Rattle.ipc_message.proofs.Opened.{preorder_opened}
use Rattle.ipc_message.proofs.dictionaries.+list_fields.Goals as goal

-- the dictionary of a field, and then those below it, before the others
own_listed : (old between new own : List PlainDictionary) (below rest : List raw.RawField) (whole : List PlainDictionary) → between ≡ old ++ own → new ≡ between ++ dictionaries_in below
    → old ++ (own ++ dictionaries_in (below ++ rest)) ≡ whole → new ++ dictionaries_in rest ≡ whole
own_listed old between new own below rest whole first then h =
    rw (then, first) (append_assoc (old ++ own) (dictionaries_in below) (dictionaries_in rest) ∙ append_assoc old own (dictionaries_in below ++ dictionaries_in rest)
    ∙ ap (λ (t : List PlainDictionary). old ++ (own ++ t)) (sym (flat_map-append (λ (f : raw.RawField). own_dictionary (dictionary_of f) f) below rest)) ∙ h)

pub list_own-requires : goal.list_own-requires
unfolding preorder_all
list_own-requires t c =
    let i = c.loop-field.field-index in
    let x = c.field-item.result in
    left_readable (preorder (raw_field_of x)) _ (rw (drop-item c.args.fields.now i x c.loop-field-test.true c.field-item.is) at c.loop-field.invariant.readable)

pub list_fields-requires : goal.list_fields-requires
unfolding preorder_all
list_fields-requires t c =
    let i = c.loop-field.field-index in
    let x = c.field-item.result in
    let own = left_readable (preorder (raw_field_of x)) _ (rw (drop-item c.args.fields.now i x c.loop-field-test.true c.field-item.is) at c.loop-field.invariant.readable) in
    (search (rules, the_lemmas), rw c.deref.ensures.value (parts_readable x own).below)

pub loop-field-preserved : goal.loop-field-preserved
unfolding preorder_all
loop-field-preserved t c =
    let i = c.loop-field.field-index in
    let x = c.field-item.result in
    let below = preorder_all (raw_fields_of (map raw_field_of (out-RawField x).children.items)) in
    let rest = preorder_all (raw_fields_of (map raw_field_of (drop (i + 1) c.args.fields.now))) in
    let next = drop-item c.args.fields.now i x c.loop-field-test.true c.field-item.is in
    record {
      listed = own_listed (map plain_dictionary_of c.loop-field.list.items) (map plain_dictionary_of c.list_own.new.list.items) _ (own_dictionary (dictionary_of (raw_field_of x)) (raw_field_of x)) below rest _
          c.in_ok-list_own.ensures (rw c.deref.ensures.value at c.in_ok-list_fields.ensures) (rw (next, preorder_opened x) at c.loop-field.invariant.listed);
      readable = right_readable (preorder (raw_field_of x)) rest (rw next at c.loop-field.invariant.readable);
    }
