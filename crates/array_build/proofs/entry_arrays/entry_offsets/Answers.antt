use Rattle.std.specs.List.{flat_map}
use Rattle.std.proofs.Common.{◌≡◌, ◌∙◌, false, ◌+◌, List, ap, map, drop, length, append_assoc, length-append, arith, refl}
use Rattle.std.specs.Prelude.{get_or}
use Rattle.std.proofs.lemmas.List.{get_or_default}
use Rattle.cells.specs.declared.entry.Entry.TheVariants.{Bool}
use Rattle.facts.specs.laws.Lists.{drop-item}
use Rattle.byteorder.specs.Endian.{little_bytes}
use Rattle.columns.specs.Built.{contents_of, sums_from}
use Rattle.columns.specs.Offsets.{width_of}
use Rattle.cells.specs.Entry.{entry_cell}
use Rattle.cells.specs.declared.entry.Entry.{Entry}
use Rattle.batch_build.specs.laws.Offsets.{last_offset}
use Rattle.array_build.proofs.entry_arrays.entry_offsets.Goals as goal

pub loop-entry-preserved : goal.loop-entry-preserved
loop-entry-preserved c =
    let cell : Entry = get_or c.args.entries.now c.loop-entry.entry-index (Bool false) in
    let is : cell ≡ get_or c.args.entries.now c.loop-entry.entry-index cell = get_or_default c.args.entries.now c.loop-entry.entry-index (Bool false) cell c.loop-entry-test.true in
    let end = c.loop-entry.end in
    let others = map entry_cell (drop (c.loop-entry.entry-index + 1) c.args.entries.now) in
    let own = contents_of (entry_cell cell) in
    let bytes = little_bytes (width_of c.args.width) in
    let item = drop-item c.args.entries.now c.loop-entry.entry-index cell c.loop-entry-test.true is in
    let offsets = rw item at c.loop-entry.invariant.offsets in
    let ends = rw item at c.loop-entry.invariant.end in
    record {
      offsets = rw (c.in_ok-push_offset.ensures.ok, c.contents_of.ensures) (append_assoc c.loop-entry.offsets.items (bytes end) (flat_map bytes (sums_from (end + length own) (map (λ other. length (contents_of other)) others))) ∙ offsets);
      end = rw c.contents_of.ensures (omega (arith, length-append own (flat_map contents_of others), ends));
    }

pub overflow_add-end : goal.overflow_add-end
overflow_add-end c =
    let cell : Entry = get_or c.args.entries.now c.loop-entry.entry-index (Bool false) in
    let is : cell ≡ get_or c.args.entries.now c.loop-entry.entry-index cell = get_or_default c.args.entries.now c.loop-entry.entry-index (Bool false) cell c.loop-entry-test.true in
    let others = map entry_cell (drop (c.loop-entry.entry-index + 1) c.args.entries.now) in
    let own = contents_of (entry_cell cell) in
    let ends = rw (drop-item c.args.entries.now c.loop-entry.entry-index cell c.loop-entry-test.true is) at c.loop-entry.invariant.end in
    omega (arith, length-append own (flat_map contents_of others), ends, c.requires, ap length c.contents_of.ensures)

pub returns : goal.returns
returns c =
    last_offset (width_of c.args.width) (λ (entries : List Entry). map (λ cell. length (contents_of cell)) (map entry_cell entries)) c.loop-entry.offsets.items _ _ c.loop-entry.end c.args.entries.now
    c.loop-entry.entry-index refl c.loop-entry-test.false c.in_ok-push_offset-2.ensures.ok c.loop-entry.invariant.offsets
