use Rattle.std.specs.Prelude.{Option}
use Rattle.std.proofs.Common.{◌+◌, ◌∷◌, [], ℕ, List, ap, length, subst, sym, arith}
use Rattle.arrow_schema.specs.declared.types.Field.{Field}
use Rattle.std.proofs.lemmas.List.{length-append}
use Rattle.facts.specs.laws.Lists.{drop-item}
use Rattle.table_cut.specs.declared.entry_sizes.EntrySize.{EntrySize}
use Rattle.table_cut.specs.inner.Columns.{arrays_from_place}
use Rattle.table_cut.specs.inner.EntrySizes.{AreSizesOf}
use Rattle.table_cut.proofs.Bounds.{first_sound, one_sound}
use Rattle.table_cut.proofs.EntrySizeLemmas.{none_known, one_known}
use Rattle.table_cut.proofs.entry_sizes.add_sizes.Goals as goal

pub loop-place-init : goal.loop-place-init
loop-place-init c = record {
  sound = c.requires.sound;
  count = sym (ap length c.requires.none);
  known = none_known c.args.run c.args.sizes.now.items c.requires.none;
}

pub column_size-requires-clause-sound : goal.column_size-requires-clause-sound
column_size-requires-clause-sound c =
    let fields : List Field = c.args.fields.now in
    let i : ℕ = c.loop-place.place in
    let field : Field = c.index-fields-place.result in
    let item = drop-item fields i field c.loop-place-test.true c.index-fields-place.is in
    let sound = first_sound fields field c.args.run i c.args.run.len item (omega arith) c.loop-place.invariant.sound in
    one_sound field (c.args.run.from + c.args.run.len) (arrays_from_place i c.args.run) sound.0

pub loop-place-preserved : goal.loop-place-preserved
loop-place-preserved c =
    let fields : List Field = c.args.fields.now in
    let i : ℕ = c.loop-place.place in
    let field : Field = c.index-fields-place.result in
    let item = drop-item fields i field c.loop-place-test.true c.index-fields-place.is in
    let sound = first_sound fields field c.args.run i c.args.run.len item (omega arith) c.loop-place.invariant.sound in
    let sizes : List (Option EntrySize) = c.loop-place.sizes.items in
    record {
      sound = sound.1;
      count = omega (arith, c.loop-place.invariant.count, ap length c.in_ok-push.ensures.items, length-append sizes (c.column_size.result ∷ []));
      known = subst (λ (all : List (Option EntrySize)). AreSizesOf c.args.run all) (sym c.in_ok-push.ensures.items)
          (one_known c.args.run sizes c.column_size.result i c.loop-place.invariant.count c.loop-place.invariant.known c.column_size.ensures);
    }

pub returns-in_err-push : goal.returns-in_err-push
returns-in_err-push c =
    subst (λ (all : List (Option EntrySize)). AreSizesOf c.args.run all) (sym c.in_err-push.ensures.items) c.loop-place.invariant.known
