use Rattle.std.proofs.Common.{◌≡◌, ◌<◌, ◌+◌, ◌∙◌, ℕ, Bool, true, false, ◌&&◌, ◌||◌, List, length, drop, get_or, refl, sym, ap}
use Rattle.std.specs.Prelude.{Option, None, Some, option_map, is_some}
use Rattle.std.specs.List.{list_any}
use Rattle.std.proofs.Math.Bool.{and-false}
use Rattle.facts.specs.laws.Lists.{drop-item}
use Rattle.ipc_message.specs.declared.fields.FieldRef.{FieldRef}
use Rattle.ipc_message.specs.declared.raw_header.Encoding.{Encoding}
use Rattle.ipc_message.specs.declared.raw_header.RawField.{RawField, out-RawField}
use Rattle.ipc_message.specs.declared.raw_header.RawField.TheFolds.{fold_out-RawField}
use Rattle.ipc_message.specs.Checks.{is_nested, is_dictionary_of_nested}
use Rattle.ipc_message.specs.Raw as raw
use Rattle.ipc_message.specs.Types.{type_name}
use Rattle.ipc_message.specs.View.{encoding_of, raw_field_of, raw_field_step}
use Rattle.ipc_message.specs.inner.Listed.{listed}
use Rattle.ipc_message.proofs.schema_checks.has_dictionary_of_nested.Goals.{else-is_some-via-then-is_some+else-is_nested, else-is_some-via-else-is_some}
use Rattle.ipc_message.proofs.schema_checks.has_dictionary_of_nested.Goals as goal

skipped : (fields : List FieldRef) (i : ℕ) (f : FieldRef) → i < length fields → f ≡ get_or fields i f → is_dictionary_of_nested (raw_field_of f.field.now) ≡ false
    → list_any is_dictionary_of_nested (listed (drop i fields)) ≡ list_any is_dictionary_of_nested (listed (drop (i + 1) fields))
skipped fields i f lt is none =
    ap (λ (fs : List FieldRef). list_any is_dictionary_of_nested (listed fs)) (drop-item fields i f lt is)
    ∙ ap (λ b. b || list_any is_dictionary_of_nested (listed (drop (i + 1) fields))) none

no_index : (d : Option Encoding) (b : Bool) → is_some d ≡ false → (is_some (option_map encoding_of d) && b) ≡ false
no_index None b h = refl
no_index (Some e) b h = absurd cc

not_nested : (f : RawField) → is_nested (type_name (out-RawField f).code) ≡ false → is_dictionary_of_nested (raw_field_of f) ≡ false
not_nested f h =
    ap is_dictionary_of_nested (fold_out-RawField raw.RawField raw_field_step f)
    ∙ ap (λ b. is_some (option_map encoding_of (out-RawField f).dictionary) && b) h ∙ and-false _

no_dictionary : (f : RawField) → is_some (out-RawField f).dictionary ≡ false → is_dictionary_of_nested (raw_field_of f) ≡ false
no_dictionary f h = ap is_dictionary_of_nested (fold_out-RawField raw.RawField raw_field_step f) ∙ no_index (out-RawField f).dictionary _ h

pub loop-place-preserved : goal.loop-place-preserved
loop-place-preserved c =
    let f = c.place-item.result in
    let passes = skipped c.args.fields.now c.loop-place.place-index f c.loop-place-test.true c.place-item.is in
    elim c.else-is_some.branch [
      | else-is_some-via-then-is_some+else-is_nested w ↦ sym (passes (not_nested f.field.now (rw w.type_name.ensures at (sym w.if-is_nested.ensures)))) ∙ c.loop-place.invariant
      | else-is_some-via-else-is_some w ↦ sym (passes (no_dictionary f.field.now (sym c.is_some.ensures ∙ w.if-is_some.false))) ∙ c.loop-place.invariant
    ]
