use Rattle.std.specs.Prelude.{min}
use Rattle.std.proofs.Common.{◌≡◌, ◌+◌, ◌++◌, ◌∙◌, ℕ, List, [], ◌∷◌, drop, take, map, length, sym, ap, subst, arith, append_assoc, append-nil}
use Rattle.std.proofs.lemmas.List.{map-append}
use Rattle.facts.specs.laws.Lists.{drop-item}
use Rattle.catalogue.specs.declared.entry.Segment.{Segment}
use Rattle.catalogue.specs.declared.entry.TableEntry.{TableEntry}
use Rattle.catalogue.specs.Entries.{PlainEntry, PlainCatalogue, plain_entry, IsCatalogue}
use Rattle.catalogue.specs.View.{catalogue_of}
use Rattle.catalogue.specs.laws.Kept.{passes_catalogue}
use Rattle.store_runs.specs.Filling.{new_in, entry_filled, filled}
use Rattle.store_changes.proofs.Refilled.{one_more, none_left}
use Rattle.store_changes.proofs.rebuilding.filled.Goals as goal

pub loop-entry-preserved : goal.loop-entry-preserved
loop-entry-preserved c =
    let items = c.entries-entry-items.result.now in
    let e = plain_entry c.entry-item.result in
    let rest = c.loop-entry.rest.now in
    let k = c.min-count.result in
    let new = ap (λ (ss : List Segment). length (new_in c.args.from ss)) c.segments.ensures in
    let size : k ≡ min (length (new_in c.args.from e.segments)) (length rest) = omega (arith, c.new_count.ensures, new, c.min-count.ensures) in
    record {
      all = ap (λ (ps : List PlainEntry). ps ++ filled c.args.from (map plain_entry (drop (c.loop-entry.entry-index + 1) items)) c.split_at.result.1.now) (ap (map plain_entry) c.in_ok-push.ensures.items ∙ map-append plain_entry c.loop-entry.entries.items (c.in_ok-filled_entry.field-0 ∷ []))
          ∙ one_more c.args.from (map plain_entry c.loop-entry.entries.items) e (plain_entry c.in_ok-filled_entry.field-0) (map plain_entry (drop (c.loop-entry.entry-index + 1) items)) rest k c.split_at.result.0.now c.split_at.result.1.now size c.split_at.ensures.front c.split_at.ensures.back c.in_ok-filled_entry.ensures
          ∙ ap (λ (ts : List TableEntry). map plain_entry c.loop-entry.entries.items ++ filled c.args.from (map plain_entry ts) rest) (sym (drop-item items c.loop-entry.entry-index c.entry-item.result c.loop-entry-test.true c.entry-item.is))
          ∙ c.loop-entry.invariant.all;
    }

pub of_entries-requires : goal.of_entries-requires
of_entries-requires c = passes_catalogue (map plain_entry c.loop-entry.entries.items) (subst (λ (d : PlainCatalogue). IsCatalogue d) (sym (none_left c.args.from (map plain_entry c.loop-entry.entries.items) (filled c.args.from (catalogue_of c.args.made.now) c.args.others.now) c.entries-entry-items.result.now c.loop-entry.entry-index c.loop-entry.rest.now c.loop-entry-test.false c.loop-entry.invariant.all)) c.requires)

pub returns : goal.returns
returns c = c.of_entries.ensures ∙ none_left c.args.from (map plain_entry c.loop-entry.entries.items) (filled c.args.from (catalogue_of c.args.made.now) c.args.others.now) c.entries-entry-items.result.now c.loop-entry.entry-index c.loop-entry.rest.now c.loop-entry-test.false c.loop-entry.invariant.all
