use Rattle.std.specs.List.{flat_map}
use Rattle.std.proofs.Common.{◌≡◌, ◌∙◌, false, ◌+◌, List, map, drop, append_assoc, refl}
use Rattle.std.specs.Prelude.{get_or}
use Rattle.std.proofs.lemmas.List.{get_or_default}
use Rattle.cells.specs.declared.entry.Entry.TheVariants.{Bool}
use Rattle.facts.specs.laws.Lists.{drop-item}
use Rattle.columns.specs.Built.{contents_of}
use Rattle.cells.specs.Entry.{entry_cell}
use Rattle.cells.specs.declared.entry.Entry.{Entry}
use Rattle.batch_build.specs.laws.Ended.{ended}
use Rattle.array_build.proofs.entry_arrays.entry_contents.Goals as goal

pub loop-entry-preserved : goal.loop-entry-preserved
loop-entry-preserved c =
    let cell : Entry = get_or c.args.entries.now c.loop-entry.entry-index (Bool false) in
    let is : cell ≡ get_or c.args.entries.now c.loop-entry.entry-index cell = get_or_default c.args.entries.now c.loop-entry.entry-index (Bool false) cell c.loop-entry-test.true in
    let others = drop (c.loop-entry.entry-index + 1) c.args.entries.now in
    let kept = rw (drop-item c.args.entries.now c.loop-entry.entry-index cell c.loop-entry-test.true is) at c.loop-entry.invariant in
    rw (c.in_ok-extend_from_slice.ensures.items, c.contents_of.ensures) (append_assoc c.loop-entry.contents.items (contents_of (entry_cell cell)) (flat_map contents_of (map entry_cell others)) ∙ kept)

pub returns : goal.returns
returns c =
    ended (λ (entries : List Entry). flat_map contents_of (map entry_cell entries)) c.loop-entry.contents.items _ c.args.entries.now c.loop-entry.entry-index refl c.loop-entry-test.false c.loop-entry.invariant
