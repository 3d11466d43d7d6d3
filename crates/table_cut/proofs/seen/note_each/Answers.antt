use Rattle.std.proofs.Common.{◌≡◌, ◌+◌, ◌++◌, ◌∷◌, ◌<◌, ℕ, List, map, length, take, drop, sym, ap, ◌∙◌, arith}
use Rattle.std.proofs.lemmas.List.{map-set, drop-map, length-map, length-set}
use Rattle.facts.specs.laws.Lists.{drop-item}
use Rattle.cells.specs.Cell.{Cell}
use Rattle.cells.specs.Dictionary.{with_entries}
use Rattle.table_cut.specs.declared.holding.Held.{Held}
use Rattle.table_cut.specs.inner.Seen.{held_in, entries_in, with_all}
use Rattle.table_cut.proofs.SeenLemmas.{one_noted}
use Rattle.columns.specs.Borrowed.{borrowed_cell}
use Rattle.table_cut.proofs.seen.note_each.Goals as goal

pub loop-i-preserved : goal.loop-i-preserved
loop-i-preserved c =
    let i : ℕ = c.loop-i.i in
    let sets = c.loop-i.sets in
    let held : List Held = c.args.held.now in
    let column : Held = c.index-held-i.result in
    let es : List (List Cell) = map entries_in sets in
    let before : List Cell = entries_in c.index-sets-i.result in
    let after : List Cell = entries_in c.note_all.new.entries in
    let inside : i < length sets = omega (arith, c.loop-i-test.true, c.loop-i.invariant.as_many) in
    let count : length es ≡ length sets = length-map sets entries_in in
    let here : drop i es ≡ before ∷ drop (i + 1) es =
    drop-map entries_in i sets ∙ ap (map entries_in) (drop-item sets i c.index-sets-i.result inside c.index-sets-i.is) ∙ ap (λ (x : List (List Cell)). before ∷ x) (sym (drop-map entries_in (i + 1) sets)) in
    let helds = ap (map held_in) (drop-item held i column c.loop-i-test.true c.index-held-i.is) in
    let noted : after ≡ with_entries before (map borrowed_cell column.cells.items) = c.in_ok-note_all.ensures ∙ (λ j. with_entries (entries_in (sym c.index-sets-i.is j)) (map borrowed_cell (c.deref.ensures.value j))) in
    let changed = map-set entries_in sets i c.note_all.new.entries in
    record {
      all = ap (λ (x : List (List Cell)). take (i + 1) x ++ with_all (drop (i + 1) x) (map held_in (drop (i + 1) held))) changed
          ∙ one_noted es (map held_in (drop i held)) (map held_in (drop (i + 1) held)) i (held_in column) before after (omega (arith, inside, count)) here helds noted
          ∙ c.loop-i.invariant.all;
      as_many = length-set sets i c.note_all.new.entries ∙ c.loop-i.invariant.as_many;
    }
