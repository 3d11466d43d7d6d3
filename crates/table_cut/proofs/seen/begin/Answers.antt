use Rattle.std.proofs.Common.{◌≡◌, ◌∙◌, ◌+◌, ◌++◌, ◌∷◌, [], List, map, take, take_all, ap, sym}
use Rattle.std.proofs.lemmas.List.{map-append}
use Rattle.facts.specs.laws.Lists.{take-item}
use Rattle.cells.specs.Dictionary.{with_entries}
use Rattle.cells.specs.Entry.{entry_cell}
use Rattle.table_cut.specs.declared.holding.Held.{Held}
use Rattle.table_cut.specs.inner.Seen.{held_in, entries_in, entries_held}
use Rattle.columns.specs.Borrowed.{borrowed_cell}
use Rattle.table_cut.proofs.seen.begin.Goals as goal

pub loop-column-preserved : goal.loop-column-preserved
loop-column-preserved c =
    let held : List Held = c.args.held.now in
    let i = c.loop-column.column-index in
    let column : Held = c.column-item.result in
    let empty : entries_in c.new-entries.result ≡ [] = ap (map entry_cell) c.new-entries.ensures.empty in
    let noted : entries_in c.note_all.new.entries ≡ entries_held (held_in column) =
    c.in_ok-note_all.ensures ∙ (λ j. with_entries (empty j) (map borrowed_cell (c.deref.ensures.value j))) in
    let more : map entries_held (map held_in (take (i + 1) held)) ≡ map entries_held (map held_in (take i held)) ++ entries_held (held_in column) ∷ [] =
    ap (λ (hs : List Held). map entries_held (map held_in hs)) (take-item held i column c.loop-column-test.true c.column-item.is)
    ∙ ap (map entries_held) (map-append held_in (take i held) (column ∷ []))
    ∙ map-append entries_held (map held_in (take i held)) (held_in column ∷ []) in
    ap (map entries_in) c.in_ok-push.ensures.items
    ∙ map-append entries_in c.loop-column.sets.items (c.note_all.new.entries ∷ [])
    ∙ (λ j. c.loop-column.invariant j ++ noted j ∷ []) ∙ sym more

pub returns : goal.returns
returns c =
    c.loop-column.invariant ∙ ap (λ (hs : List Held). map entries_held (map held_in hs)) (take_all c.loop-column.column-index c.args.held.now c.loop-column-test.false)
