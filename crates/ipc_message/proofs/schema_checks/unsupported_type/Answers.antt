use Rattle.std.proofs.Common.{◌≡◌, ◌<◌, ◌+◌, ◌∙◌, ℕ, true, false, ◌&&◌, List, length, drop, get_or, sym, ap}
use Rattle.std.specs.Prelude.{not, find, Some, ◌==◌, if◌then◌else◌}
use Rattle.std.proofs.Math.Bool.{and-false}
use Rattle.facts.specs.laws.Lists.{drop-item}
use Rattle.ipc_message.specs.declared.fields.FieldRef.{FieldRef}
use Rattle.ipc_message.specs.declared.raw_header.RawField.{RawField, out-RawField}
use Rattle.ipc_message.specs.declared.raw_header.RawField.TheFolds.{fold_out-RawField}
use Rattle.ipc_message.specs.declared.type_codes.TheConstants.{NONE}
use Rattle.ipc_message.specs.Checks.{is_unsupported}
use Rattle.ipc_message.specs.Header.{supported_codes}
use Rattle.ipc_message.specs.Raw as raw
use Rattle.ipc_message.specs.View.{raw_field_of, raw_field_step}
use Rattle.ipc_message.specs.inner.Listed.{listed}
use Rattle.ipc_message.proofs.schema_checks.unsupported_type.Goals.{else-field-ne-NONE-via-then-field-ne-NONE+else-not-is_supported, else-field-ne-NONE-via-else-field-ne-NONE}
use Rattle.ipc_message.proofs.schema_checks.unsupported_type.Goals as goal

skipped : (fields : List FieldRef) (i : ℕ) (f : FieldRef) → i < length fields → f ≡ get_or fields i f → is_unsupported supported_codes (raw_field_of f.field.now) ≡ false
    → find (is_unsupported supported_codes) (listed (drop i fields)) ≡ find (is_unsupported supported_codes) (listed (drop (i + 1) fields))
skipped fields i f lt is none =
    ap (λ (fs : List FieldRef). find (is_unsupported supported_codes) (listed fs)) (drop-item fields i f lt is)
    ∙ ap (λ b. if b then Some (raw_field_of f.field.now) else find (is_unsupported supported_codes) (listed (drop (i + 1) fields))) none

is_supported : (f : RawField) → supported_codes (out-RawField f).code ≡ true → is_unsupported supported_codes (raw_field_of f) ≡ false
is_supported f h =
    ap (is_unsupported supported_codes) (fold_out-RawField raw.RawField raw_field_step f)
    ∙ ap (λ b. not ((out-RawField f).code == NONE) && not b) h ∙ and-false _

names_none : (f : RawField) → (out-RawField f).code ≡ NONE → is_unsupported supported_codes (raw_field_of f) ≡ false
names_none f h = ap (is_unsupported supported_codes) (fold_out-RawField raw.RawField raw_field_step f) ∙ ap (λ n. not (n == NONE) && not (supported_codes n)) h

pub loop-place-preserved : goal.loop-place-preserved
loop-place-preserved c =
    let f = c.place-item.result in
    let passes = skipped c.args.fields.now c.loop-place.place-index f c.loop-place-test.true c.place-item.is in
    elim c.else-field-ne-NONE.branch [
      | else-field-ne-NONE-via-then-field-ne-NONE+else-not-is_supported w ↦ sym (passes (is_supported f.field.now (sym w.if-not-is_supported.ensures))) ∙ c.loop-place.invariant
      | else-field-ne-NONE-via-else-field-ne-NONE w ↦ sym (passes (names_none f.field.now w.if-field-ne-NONE.false)) ∙ c.loop-place.invariant
    ]
