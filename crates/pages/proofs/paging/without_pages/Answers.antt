use Rattle.std.proofs.Common.{◌≡◌, ◌∙◌, List, map, sym, ap}
use Rattle.std.proofs.lemmas.List.{map-id}
use Rattle.std.proofs.lemmas.Iterator.Adapters.{YieldsList-from_vec}
use Rattle.std.proofs.lemmas.Iterator.Consumers.{YieldsList-end}
use Rattle.catalogue.specs.declared.entry.TableEntry.{TableEntry}
use Rattle.catalogue.specs.Entries.{PlainCatalogue, plain_entry, bare, is_catalogue}
use Rattle.catalogue.specs.laws.Bare.{bare_stands}
use Rattle.catalogue.specs.View.{catalogue_of}
use Rattle.pages.proofs.paging.without_pages.Goals as goal

pub of_entries-requires : goal.of_entries-requires
of_entries-requires c =
    let items = c.into_entries-entry-items.result.items in
    let ys = c.loop-entry.yielded in
    let gives = c.into_iter-entry-iterator.ensures.into_iter_gives in
    let end = YieldsList-end (YieldsList-from_vec items gives.0 (gives.1 ∙ c.into_entries-entry-items.result.ok.0)) ys _ c.loop-entry.yielded_by c.next.result c.next.new.self c.in-None.is c.next.ensures.steps in
    let all : ys ≡ items = sym (map-id ys) ∙ end.0 in
    ap is_catalogue c.loop-entry.invariant.made ∙ ap (λ (zs : List TableEntry). is_catalogue (map bare (map plain_entry zs))) all
    ∙ ap (λ (d : PlainCatalogue). is_catalogue (map bare d)) c.into_entries-entry-items.ensures ∙ bare_stands (catalogue_of c.args.list) c.args.list.kept
