use Rattle.std.proofs.Common.{◌≡◌, ◌<◌, ◌+◌, ◌++◌, ◌∙◌, ℕ, List, [], ◌∷◌, length, get_or, take, map, flat_map, Option, ap, arith, sym}
use Rattle.std.proofs.lemmas.List.{map-append, take_more, take_all}
use Rattle.facts.specs.laws.Lists.{flat_map-push}
use Rattle.segments.specs.declared.run.Run.{Run}
use Rattle.segments.specs.declared.extent.Extent.{Extent}
use Rattle.catalogue.specs.declared.entry.Segment.{Segment}
use Rattle.catalogue.specs.declared.entry.TableEntry.{TableEntry}
use Rattle.catalogue.specs.Entries.{plain_entry}
use Rattle.catalogue.specs.Edits.{page_behind}
use Rattle.store_runs.specs.Changes.{page_lost, lost_page}
use Rattle.store_changes.proofs.editing.lost_pages.Goals as goal

-- the pages of the tables so far, and that of the next one
more_pages : (es : List TableEntry) (i : ℕ) (e : TableEntry) → i < length es → e ≡ get_or es i e → flat_map lost_page (map plain_entry (take (i + 1) es)) ≡ flat_map lost_page (map plain_entry (take i es)) ++ lost_page (plain_entry e)
more_pages es i e lt is =
    ap (λ (xs : List TableEntry). flat_map lost_page (map plain_entry xs)) (take_more es i e lt ∙ ap (λ (x : TableEntry). take i es ++ x ∷ []) (sym is))
    ∙ ap (flat_map lost_page) (map-append plain_entry (take i es) (e ∷ [])) ∙ flat_map-push lost_page (map plain_entry (take i es)) (plain_entry e)

pub loop-entry-preserved : goal.loop-entry-preserved
loop-entry-preserved c =
    let e = plain_entry c.entry-item.result in
    record {
      all = c.in_ok-put_lost.ensures ∙ ap (λ (rs : List Run). rs ++ page_lost e.page c.page_behind.result) c.loop-entry.invariant.all
          ∙ ap (λ (p : Option Extent). flat_map lost_page (map plain_entry (take c.loop-entry.entry-index c.args.entries.now)) ++ page_lost e.page p)
          (c.page_behind.ensures ∙ ap (λ (gs : List Segment). page_behind gs e.page) c.segments.ensures)
          ∙ sym (more_pages c.args.entries.now c.loop-entry.entry-index c.entry-item.result c.loop-entry-test.true c.entry-item.is);
    }

pub returns : goal.returns
returns c = c.loop-entry.invariant.all ∙ ap (λ (xs : List TableEntry). flat_map lost_page (map plain_entry xs)) (take_all c.loop-entry.entry-index c.args.entries.now (omega (arith, c.loop-entry-test.false)))
