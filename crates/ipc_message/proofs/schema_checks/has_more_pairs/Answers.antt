use Rattle.std.proofs.Common.{◌≡◌, ◌<◌, ◌+◌, ℕ, List, length, drop, get_or, sym, ap, ◌∙◌, arith}
use Rattle.std.specs.Prelude.{nat_lt, sum_by, vec_len}
use Rattle.std.proofs.lemmas.List.{length-map}
use Rattle.std.proofs.lemmas.List.Sums.{sum_by-cons}
use Rattle.facts.specs.laws.Lists.{drop-item}
use Rattle.ipc_message.specs.declared.fields.FieldRef.{FieldRef}
use Rattle.ipc_message.specs.declared.raw_header.RawField.{RawField}
use Rattle.ipc_message.specs.declared.raw_header.RawField.TheViews.{out-RawField}
use Rattle.ipc_message.specs.declared.raw_header.RawField.TheFolds.{fold_out-RawField}
use Rattle.ipc_message.specs.Raw as raw
use Rattle.ipc_message.specs.Fields.{pairs_of}
use Rattle.ipc_message.specs.View.{raw_field_of, raw_field_step, key_value}
use Rattle.ipc_message.specs.inner.Listed.{listed}
use Rattle.ipc_message.proofs.schema_checks.has_more_pairs.Goals as goal

-- the pairs of a field of the code, and those of the next field before those of the others
counted : (f : RawField) → length (pairs_of (raw_field_of f)) ≡ vec_len (out-RawField f).pairs
counted f =
    let pairs = (out-RawField f).pairs in
    let len : length pairs.items ≡ vec_len pairs = omega (arith, pairs.ok.0) in
    ap (λ (g : raw.RawField). length (pairs_of g)) (fold_out-RawField raw.RawField raw_field_step f) ∙ length-map pairs.items key_value ∙ len

pairs_next : (fields : List FieldRef) (i : ℕ) (f : FieldRef) → i < length fields → f ≡ get_or fields i f
    → sum_by (λ g. length (pairs_of g)) (listed (drop i fields)) ≡ length (pairs_of (raw_field_of f.field.now)) + sum_by (λ g. length (pairs_of g)) (listed (drop (i + 1) fields))
pairs_next fields i f lt is =
    rw (drop-item fields i f lt is) (sum_by-cons (λ (g : raw.RawField). length (pairs_of g)) (raw_field_of f.field.now) (listed (drop (i + 1) fields)))

pub loop-place-preserved : goal.loop-place-preserved
loop-place-preserved c =
    let i = c.loop-place.place-index in
    let fields = c.args.fields.now in
    let total = c.loop-place.total in
    let f = c.place-item.result in
    let count : c.len-count.result ≡ length (pairs_of (raw_field_of f.field.now)) = c.len-count.ensures ∙ sym (counted f.field.now) in
    let more = pairs_next fields i f c.loop-place-test.true c.place-item.is in
    let same : total + c.len-count.result + sum_by (λ g. length (pairs_of g)) (listed (drop (i + 1) fields)) ≡ total + sum_by (λ g. length (pairs_of g)) (listed (drop i fields)) = omega (arith, count, more) in
    ap (nat_lt c.args.limit) same ∙ c.loop-place.invariant
