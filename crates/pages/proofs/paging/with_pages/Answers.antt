use Rattle.std.proofs.Common.{◌≡◌, ◌∙◌, List, length, take, map, sym, ap, arith}
use Rattle.std.proofs.lemmas.List.{map-id}
use Rattle.std.proofs.lemmas.Iterator.Adapters.{YieldsList-from_vec}
use Rattle.std.proofs.lemmas.Iterator.Consumers.{YieldsList-so_far, YieldsList-turn, YieldsList-end}
use Rattle.catalogue.specs.declared.entry.TableEntry.{TableEntry}
use Rattle.catalogue.specs.Entries.{PlainCatalogue, plain_entry, is_catalogue}
use Rattle.catalogue.specs.laws.Kept.{catalogue_is}
use Rattle.catalogue.specs.View.{catalogue_of}
use Rattle.pages.specs.Paging.{pageless, with_pages}
use Rattle.pages.specs.laws.Stands.{pages_stand}
use Rattle.pages.proofs.Passing.{stands_at}
use Rattle.pages.proofs.Turned.{texts_number, pages_turn, texts_turn, room_for}
use Rattle.pages.proofs.paging.with_pages.Goals as goal

pub with_page-requires-clause-sound : goal.with_page-requires-clause-sound
with_page-requires-clause-sound c =
    let items = c.into_entries-entry-items.result.items in
    let gives = c.into_iter-entry-iterator.ensures.into_iter_gives in
    let turn = YieldsList-turn (YieldsList-from_vec items gives.0 (gives.1 ∙ c.into_entries-entry-items.result.ok.0)) c.loop-entry.yielded _ c.loop-entry.yielded_by c.next.result c.next.new.self c.in-Some.entry c.in-Some.is c.next.ensures.steps in
    (stands_at items (length c.loop-entry.yielded) c.in-Some.entry (catalogue_of c.args.list) c.into_entries-entry-items.ensures (catalogue_is (catalogue_of c.args.list) c.args.list.kept) turn.0 turn.1).sound

pub with_page-requires-clause-run : goal.with_page-requires-clause-run
with_page-requires-clause-run c = λ none.
    let items = c.into_entries-entry-items.result.items in
    let ys = c.loop-entry.yielded in
    let gives = c.into_iter-entry-iterator.ensures.into_iter_gives in
    let all = YieldsList-from_vec items gives.0 (gives.1 ∙ c.into_entries-entry-items.result.ok.0) in
    let turn = YieldsList-turn all ys _ c.loop-entry.yielded_by c.next.result c.next.new.self c.in-Some.entry c.in-Some.is c.next.ensures.steps in
    let so_far : ys ≡ take (length ys) items = sym (map-id ys) ∙ YieldsList-so_far all ys _ c.loop-entry.yielded_by in
    let number = texts_number c.loop-entry.texts.items (map plain_entry ys) c.loop-entry.invariant.texts in
    let count = c.loop-entry.texts.ok.0 ∙ number ∙ ap (λ (zs : List TableEntry). length (pageless (map plain_entry zs))) so_far in
    room_for items (length ys) c.in-Some.entry c.loop-entry.texts.len c.args.runs.now (catalogue_of c.args.list) c.into_entries-entry-items.ensures c.requires turn.0 turn.1 count none

pub loop-entry-preserved : goal.loop-entry-preserved
loop-entry-preserved c =
    let ys = c.loop-entry.yielded in
    let number = texts_number c.loop-entry.texts.items (map plain_entry ys) c.loop-entry.invariant.texts in
    record {
      next = tt;
      ends = tt;
      made = pages_turn ys c.loop-entry.entries.items c.push.new.self.items c.in-Some.entry c.in_ok-with_page.field-0 c.args.runs.now c.loop-entry.texts.len c.loop-entry.invariant.made c.in_ok-push.ensures.items c.in_ok-with_page.ensures.entry
          (omega (arith, c.loop-entry.texts.ok.0, number));
      texts = texts_turn ys c.in-Some.entry c.loop-entry.texts.items c.with_page.new.texts.items c.in_ok-with_page.ensures.texts c.loop-entry.invariant.texts;
    }

pub of_entries-requires : goal.of_entries-requires
of_entries-requires c =
    let items = c.into_entries-entry-items.result.items in
    let ys = c.loop-entry.yielded in
    let runs = c.args.runs.now in
    let gives = c.into_iter-entry-iterator.ensures.into_iter_gives in
    let end = YieldsList-end (YieldsList-from_vec items gives.0 (gives.1 ∙ c.into_entries-entry-items.result.ok.0)) ys _ c.loop-entry.yielded_by c.next.result c.next.new.self c.in-None.is c.next.ensures.steps in
    let all : ys ≡ items = sym (map-id ys) ∙ end.0 in
    ap is_catalogue c.loop-entry.invariant.made ∙ ap (λ (zs : List TableEntry). is_catalogue (with_pages (map plain_entry zs) runs)) all
    ∙ ap (λ (d : PlainCatalogue). is_catalogue (with_pages d runs)) c.into_entries-entry-items.ensures ∙ pages_stand (catalogue_of c.args.list) runs c.requires c.args.list.kept
