-- Which runs a catalogue of a kind has for its new pages.
use Rattle.std.proofs.Common.{◌≡◌, Bool, true, false, List}
use Rattle.std.specs.Prelude.{if◌then◌else◌}
use Rattle.segments.specs.declared.run.Run.{Run}
use Rattle.commit.specs.declared.sector.CatalogueKind.TheVariants.{Whole, Pages}
use Rattle.catalogue.specs.Entries.{PlainCatalogue}
use Rattle.pages.specs.Paging.{is_whole, kind_of, pageless, AreFilled, AreRunsOf, ArePageRuns}

pub page_runs_filled : (c : PlainCatalogue) (runs : List Run) → kind_of c ≡ Pages → ArePageRuns c runs → AreFilled (pageless c) runs
page_runs_filled c runs is are = by_whole (is_whole c) is are
  where
    by_whole : (t : Bool) → (if t then Whole else Pages) ≡ Pages → AreRunsOf t c runs → AreFilled (pageless c) runs
    by_whole true kind none = absurd (cc kind)
    by_whole false kind filled = filled
