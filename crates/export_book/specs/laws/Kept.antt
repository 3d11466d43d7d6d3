-- How often exports name a run.
use Rattle.std.proofs.Common.{◌≤◌, List, [], ◌∷◌, length, arith}
use Rattle.std.specs.List.{AllByRecursion}
use Rattle.segments.specs.declared.run.Run.{Run}
use Rattle.segments.specs.Usages.{times_among}
use Rattle.segments.specs.laws.Usages.{times_both}
use Rattle.catalogue.specs.Entries.{runs_in_segments}
use Rattle.export_book.specs.declared.book.TheConstants.{MAX_EXPORTS}
use Rattle.export_book.specs.Book.{PlainExport, PlainBook, IsBook, runs_kept}

kept_each : (es : List PlainExport) (run : Run) → AllByRecursion (λ (e : PlainExport). (run : Run) → times_among (runs_in_segments e.segments) run ≤ 1) es → times_among (runs_kept es) run ≤ length es
kept_each [] run once = omega arith
kept_each (e ∷ es) run once = omega (arith, times_both (runs_in_segments e.segments) (runs_kept es) run, once.0 run, kept_each es run once.1)

pub kept_few : (b : PlainBook) (run : Run) → IsBook b → times_among (runs_kept b.exports) run ≤ MAX_EXPORTS
kept_few b run is = omega (arith, kept_each b.exports run is.once, is.few)
