use Rattle.std.specs.BTreeMap.{get}
use Rattle.std.specs.Ordering.{nat_cmp}
use Rattle.std.specs.Prelude.{Option, Some, None, option_map}
use Rattle.std.proofs.Common.{◌≡◌, ◌<◌, ℕ, true, List, length, slice_get, get_or, sym, ap, ◌∙◌, arith}
use Rattle.std.proofs.lemmas.List.{length-map}
use Rattle.std.proofs.lemmas.Option.{slice_get_within}
use Rattle.ipc_message.specs.declared.fields.FieldRef.{FieldRef}
use Rattle.ipc_message.specs.declared.raw_header.Encoding.{Encoding}
use Rattle.ipc_message.specs.declared.raw_header.RawField.{out-RawField}
use Rattle.ipc_message.specs.Fields.{dictionary_of}
use Rattle.ipc_message.specs.Raw.{RawEncoding}
use Rattle.ipc_message.specs.Raw as raw
use Rattle.ipc_message.specs.Same.{has_id}
use Rattle.ipc_message.specs.View.{encoding_of, raw_field_of}
use Rattle.ipc_message.specs.inner.Firsts.{Adds}
use Rattle.ipc_message.specs.inner.Listed.{listed}
use Rattle.ipc_message.proofs.Firsts.{HaveIds, ids_stay, firsts_stay, firsts_skip, listed_at, no_two_types, two_types}
use Rattle.ipc_message.proofs.Opened.{dictionary_opened}
use Rattle.ipc_message.proofs.schema_checks.has_two_types.Goals.{in-Some+in_ok-first+else-not-have_same_value_type, in_default}
use Rattle.ipc_message.proofs.schema_checks.has_two_types.Goals as goal

-- the dictionary of a field of the code
with_dictionary : (f : FieldRef) (e : Encoding) → (out-RawField f.field.now).dictionary ≡ Some e → dictionary_of (raw_field_of f.field.now) ≡ Some (encoding_of e)
with_dictionary f e is = dictionary_opened f.field.now ∙ ap (option_map encoding_of) is

without_dictionary : (f : FieldRef) → (out-RawField f.field.now).dictionary ≡ None → dictionary_of (raw_field_of f.field.now) ≡ None
without_dictionary f is = dictionary_opened f.field.now ∙ ap (option_map encoding_of) is

-- the first field of an id is one of the fields
within : (fields : List FieldRef) (firsts : ℕ → Option ℕ) (id k : ℕ) → HaveIds (listed fields) firsts → firsts id ≡ Some k → k < length fields
within fields firsts id k ids is =
    let found = ids id k is in
    omega (arith, slice_get_within (listed fields) k found.0 found.1, length-map fields (λ (f : FieldRef). raw_field_of f.field.now))

-- and has the id
has_first_id : (fields : List raw.RawField) (firsts : ℕ → Option ℕ) (id k : ℕ) (g : raw.RawField) → HaveIds fields firsts → firsts id ≡ Some k → slice_get fields k ≡ Some g → has_id id (dictionary_of g) ≡ true
has_first_id fields firsts id k g ids is there =
    let found = ids id k is in
    let both : Some found.0 ≡ Some g = sym found.1 ∙ there in
    let same : found.0 ≡ g = cc in
    ap (λ (x : raw.RawField). has_id id (dictionary_of x)) (sym same) ∙ found.2

pub loop-i-preserved : goal.loop-i-preserved
loop-i-preserved c =
    let fields : List FieldRef = c.args.fields.now in
    let i : ℕ = c.loop-i.i in
    let f : FieldRef = get_or fields i c.index-fields-i.result in
    let at = listed_at fields i c.index-fields-i.result (omega (arith, c.loop-i-test.true)) in
    elim c.match-field.branch [
      | in-Some+in_ok-first+else-not-have_same_value_type w ↦ (
          let e : RawEncoding = encoding_of w.in-Some.dictionary in
          let is = with_dictionary f w.in-Some.dictionary w.in-Some.is in
          let adds : Adds (get nat_cmp c.loop-i.firsts) (get nat_cmp w.first_of.new.firsts) e.id i w.in_ok-first.first = w.in_ok-first.ensures in
          let ids = ids_stay (listed fields) (get nat_cmp c.loop-i.firsts) (get nat_cmp w.first_of.new.firsts) i w.in_ok-first.first (raw_field_of f.field.now) e at is adds c.loop-i.invariant.0 in
          let g : FieldRef = get_or fields w.in_ok-first.first w.index-fields-first.result in
          let there = listed_at fields w.in_ok-first.first w.index-fields-first.result (within fields (get nat_cmp w.first_of.new.firsts) e.id w.in_ok-first.first ids adds.first) in
          let firsts = firsts_stay (listed fields) (get nat_cmp c.loop-i.firsts) (get nat_cmp w.first_of.new.firsts) i w.in_ok-first.first (raw_field_of f.field.now) (raw_field_of g.field.now) e at is adds there
          (sym w.if-not-have_same_value_type.ensures) c.loop-i.invariant.1 in
          rw w.firsts-is (ids, firsts))
      | in_default w ↦ rw w.firsts-is (c.loop-i.invariant.0, firsts_skip (listed fields) (get nat_cmp c.loop-i.firsts) i (raw_field_of f.field.now) at (without_dictionary f w.in_default.is) c.loop-i.invariant.1)
    ]

pub returns-then-not-have_same_value_type : goal.returns-then-not-have_same_value_type
returns-then-not-have_same_value_type c =
    let fields : List FieldRef = c.args.fields.now in
    let i : ℕ = c.loop-i.i in
    let f : FieldRef = get_or fields i c.index-fields-i.result in
    let g : FieldRef = get_or fields c.in_ok-first.first c.index-fields-first.result in
    let e : RawEncoding = encoding_of c.in-Some.dictionary in
    let at = listed_at fields i c.index-fields-i.result (omega (arith, c.loop-i-test.true)) in
    let is = with_dictionary f c.in-Some.dictionary c.in-Some.is in
    let adds : Adds (get nat_cmp c.loop-i.firsts) (get nat_cmp c.first_of.new.firsts) e.id i c.in_ok-first.first = c.in_ok-first.ensures in
    let ids = ids_stay (listed fields) (get nat_cmp c.loop-i.firsts) (get nat_cmp c.first_of.new.firsts) i c.in_ok-first.first (raw_field_of f.field.now) e at is adds c.loop-i.invariant.0 in
    let there = listed_at fields c.in_ok-first.first c.index-fields-first.result (within fields (get nat_cmp c.first_of.new.firsts) e.id c.in_ok-first.first ids adds.first) in
    sym (two_types (listed fields) i c.in_ok-first.first (raw_field_of f.field.now) (raw_field_of g.field.now) e at is there
    (has_first_id (listed fields) (get nat_cmp c.first_of.new.firsts) e.id c.in_ok-first.first (raw_field_of g.field.now) ids adds.first there)
    (sym c.if-not-have_same_value_type.ensures))

pub returns : goal.returns
returns c =
    let fields : List FieldRef = c.args.fields.now in
    let all : c.loop-i.i ≡ length (listed fields) = omega (arith, c.loop-i-test.false, length-map fields (λ (f : FieldRef). raw_field_of f.field.now)) in
    sym (no_two_types (listed fields) (get nat_cmp c.loop-i.firsts) c.loop-i.i all c.loop-i.invariant.1)
