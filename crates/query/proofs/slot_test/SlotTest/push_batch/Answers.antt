use Rattle.std.proofs.Common.{◌≡◌, ℕ, true, ◌++◌, map, sym, subst, ◌∙◌, ap}
use Rattle.std.specs.Prelude.{OnOk}
use Rattle.std.specs.List.{range_with_len}
use Rattle.columns.specs.Array.{Array}
use Rattle.query.specs.inner.Slots.{array_of}
use Rattle.query.specs.inner.SlotTests.{holds_at, has_slots}
use Rattle.query.proofs.SlotFlags.{view_is}
use Rattle.query.proofs.slot_test.SlotTest.push_batch.Goals as goal

pub push_slots-requires : goal.push_slots-requires
push_slots-requires c =
    let same =
    view_is c.place.result c.args.part.now c.args.batch.now c.deref-2.result.now c.deref-3.result.now c.array_or.result.now c.deref.result.now c.deref-2.ensures.value c.deref-3.ensures.value
    c.deref.ensures.value c.array_or.ensures
    ∙ ap (λ (k : ℕ). array_of k c.args.part.now c.args.batch.now) c.place.ensures in
    let P : Array → Type 0 = λ a. has_slots c.args.self c.args.batch.now.rows a ≡ true in
    subst P (sym same) c.requires

pub returns : goal.returns
returns c =
    let same =
    view_is c.place.result c.args.part.now c.args.batch.now c.deref-2.result.now c.deref-3.result.now c.array_or.result.now c.deref.result.now c.deref-2.ensures.value c.deref-3.ensures.value
    c.deref.ensures.value c.array_or.ensures
    ∙ ap (λ (k : ℕ). array_of k c.args.part.now c.args.batch.now) c.place.ensures in
    let P : Array → Type 0 =
    λ a. OnOk c.push_slots.result (c.push_slots.new.flags ≡ c.args.flags.now ++ map (holds_at c.args.self a) (range_with_len 0 c.args.batch.now.rows)) in
    subst P same c.push_slots.ensures
