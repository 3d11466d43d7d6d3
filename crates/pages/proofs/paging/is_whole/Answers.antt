use Rattle.std.proofs.Common.{◌≡◌, ◌+◌, ℕ, List, length, map, sym, ap, arith}
use Rattle.std.proofs.lemmas.Bool.{lt-leb}
use Rattle.catalogue.specs.Entries.{plain_entry}
use Rattle.catalogue.specs.Text.{entry_size, list_size}
use Rattle.catalogue.specs.View.{catalogue_of}
use Rattle.pages.proofs.Passing.{stands_at, next_sum, part_sum}
use Rattle.pages.proofs.paging.is_whole.Goals as goal

pub page_size-requires-clause-sound : goal.page_size-requires-clause-sound
page_size-requires-clause-sound c =
    (stands_at c.entries-entries.result.now c.loop-entry.entry-index c.entry-item.result (catalogue_of c.args.list.now) c.entries-entries.ensures.entries c.entries-entries.ensures.kept c.loop-entry-test.true c.entry-item.is).sound

pub page_size-requires-clause-segments : goal.page_size-requires-clause-segments
page_size-requires-clause-segments c =
    let few = (stands_at c.entries-entries.result.now c.loop-entry.entry-index c.entry-item.result (catalogue_of c.args.list.now) c.entries-entries.ensures.entries c.entries-entries.ensures.kept c.loop-entry-test.true c.entry-item.is).few in
    omega (arith, few)

pub returns-then-size-gt-MOST_LIST_BYTES : goal.returns-then-size-gt-MOST_LIST_BYTES
returns-then-size-gt-MOST_LIST_BYTES c =
    let es = c.entries-entries.result.now in
    let i = c.loop-entry.entry-index in
    let x = c.entry-item.result in
    let next = next_sum entry_size es i x c.loop-entry-test.true c.entry-item.is in
    let part = part_sum entry_size es (i + 1) in
    let all : list_size (map plain_entry es) ≡ list_size (catalogue_of c.args.list.now) = ap list_size c.entries-entries.ensures.entries in
    let named = ap (λ (bytes : List ℕ). length bytes) c.name.ensures in
    sym (lt-leb (list_size (catalogue_of c.args.list.now)) 512 (omega (arith, next, part, all, named, c.in_ok-size.ensures.size, c.loop-entry.invariant.size, c.if-size-gt-MOST_LIST_BYTES.true)))
