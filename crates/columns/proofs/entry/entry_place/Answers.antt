use Rattle.std.proofs.Common.{◌<◌, ◌-◌, take, ◌∙◌, sym}
use Rattle.columns.specs.Array.{slots_in}
use Rattle.columns.specs.Sound.{is_kind_sound}
use Rattle.columns.specs.View.{array_in, no_dictionary}
use Rattle.columns.specs.Ends.{entry_count}
use Rattle.columns.specs.laws.Places.{slots_is}
use Rattle.columns.proofs.Entries.{found_here, found_nowhere, present_here, present_nowhere, sound_here}
use Rattle.columns.proofs.Ends.{found_from, present_from, all_from, place_below, found_before, present_before}
use Rattle.columns.proofs.entry.entry_place.Goals as goal

pub place_below-requires : goal.place_below-requires
place_below-requires c =
    place_below c.args.known.arrays.now c.array_place-i.result c.args.index c.end_before.result c.in-Some.array.now c.in-Some.ensures.lookup.3.0 (c.in-Some.ensures.lookup.3.1 _) c.array_place-i.ensures c.end_before.ensures

pub returns-in-None-clause-cell : goal.returns-in-None-clause-cell
returns-in-None-clause-cell c = λ kind.
    found_nowhere c.args.bytes.now kind c.args.known.arrays.now c.array_place-i.result (c.args.index - entry_count (take c.array_place-i.result c.args.known.arrays.now)) c.in-None.ensures.lookup.3
    ∙ found_from c.args.bytes.now kind c.args.known.arrays.now c.array_place-i.result c.args.index c.array_place-i.ensures.within c.array_place-i.ensures.before

pub returns-in-None-clause-present : goal.returns-in-None-clause-present
returns-in-None-clause-present c = λ kind.
    sym (present_nowhere c.args.bytes.now kind c.args.known.arrays.now c.array_place-i.result (c.args.index - entry_count (take c.array_place-i.result c.args.known.arrays.now)) c.in-None.ensures.lookup.3)
    ∙ present_from c.args.bytes.now kind c.args.known.arrays.now c.array_place-i.result c.args.index c.array_place-i.ensures.within c.array_place-i.ensures.before

pub returns-in-Some-clause-cell : goal.returns-in-Some-clause-cell
returns-in-Some-clause-cell c = λ kind.
    let below : c.args.index - c.end_before.result < c.in-Some.array.now.slots =
    place_below c.args.known.arrays.now c.array_place-i.result c.args.index c.end_before.result c.in-Some.array.now c.in-Some.ensures.lookup.3.0 (c.in-Some.ensures.lookup.3.1 _) c.array_place-i.ensures c.end_before.ensures in
    rw c.flat_view.ensures
    rw c.place_below.ensures
    (found_here c.args.bytes.now kind c.args.known.arrays.now c.array_place-i.result (c.args.index - c.end_before.result) c.in-Some.array.now c.in-Some.ensures.lookup.3.0 (c.in-Some.ensures.lookup.3.1 _) below
    ∙ found_before c.args.bytes.now kind c.args.known.arrays.now c.array_place-i.result c.args.index c.end_before.result c.array_place-i.ensures c.end_before.ensures)

pub returns-in-Some-clause-present : goal.returns-in-Some-clause-present
returns-in-Some-clause-present c = λ kind.
    let below : c.args.index - c.end_before.result < c.in-Some.array.now.slots =
    place_below c.args.known.arrays.now c.array_place-i.result c.args.index c.end_before.result c.in-Some.array.now c.in-Some.ensures.lookup.3.0 (c.in-Some.ensures.lookup.3.1 _) c.array_place-i.ensures c.end_before.ensures in
    sym (present_here c.args.bytes.now kind c.args.known.arrays.now c.array_place-i.result (c.args.index - c.end_before.result) c.in-Some.array.now c.in-Some.ensures.lookup.3.0 (c.in-Some.ensures.lookup.3.1 _) below)
    ∙ present_before c.args.bytes.now kind c.args.known.arrays.now c.array_place-i.result c.args.index c.end_before.result c.array_place-i.ensures c.end_before.ensures

pub returns-in-Some-clause-sound : goal.returns-in-Some-clause-sound
returns-in-Some-clause-sound c = λ kind h.
    let below : c.args.index - c.end_before.result < c.in-Some.array.now.slots =
    place_below c.args.known.arrays.now c.array_place-i.result c.args.index c.end_before.result c.in-Some.array.now c.in-Some.ensures.lookup.3.0 (c.in-Some.ensures.lookup.3.1 _) c.array_place-i.ensures c.end_before.ensures in
    let rest = all_from (is_kind_sound kind) (array_in c.args.bytes.now no_dictionary) c.args.known.arrays.now c.array_place-i.result h in
    let here = sound_here (is_kind_sound kind) (array_in c.args.bytes.now no_dictionary) c.args.known.arrays.now c.array_place-i.result c.in-Some.array.now c.in-Some.ensures.lookup.3.0 (c.in-Some.ensures.lookup.3.1 _) rest in
    let within : c.args.index - c.end_before.result < slots_in (array_in c.args.bytes.now no_dictionary c.in-Some.array.now) =
    rw (slots_is c.args.bytes.now no_dictionary c.in-Some.array.now) below in
    rw c.flat_view.ensures
    rw c.place_below.ensures (within, here.0)
