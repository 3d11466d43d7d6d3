-- The proof that a book is sound is unique.
use Rattle.std.specs.Prelude.{◌<◌, ◌≤◌, List, [], ◌∷◌, length}
use Rattle.std.specs.Coded.{×_prop, Π_prop, Unit-prop, le_prop}
use Rattle.std.specs.List.{AllByRecursion, AllByRecursion-prop}
use Rattle.segments.specs.declared.run.Run.{Run}
use Rattle.segments.specs.Usages.{times_among}
use Rattle.catalogue.specs.declared.limits.TheConstants.{MAX_SEGMENTS}
use Rattle.catalogue.specs.Entries.{runs_in_segments}
use Rattle.export_book.specs.Book.{PlainExport, PlainBook, AreRising, IsBook}

rising_prop : (es : List PlainExport) → IsProp (AreRising es)
rising_prop [] = Unit-prop
rising_prop (e ∷ es) = ×_prop (AllByRecursion-prop (λ (o : PlainExport). e.id < o.id) (λ o. le_prop) es) (rising_prop es)

below_prop : (b : PlainBook) → IsProp (AllByRecursion (λ (e : PlainExport). e.id < b.next) b.exports)
below_prop b = AllByRecursion-prop (λ (e : PlainExport). e.id < b.next) (λ e. le_prop) b.exports

short_prop : (b : PlainBook) → IsProp (AllByRecursion (λ (e : PlainExport). length e.segments ≤ MAX_SEGMENTS) b.exports)
short_prop b = AllByRecursion-prop (λ (e : PlainExport). length e.segments ≤ MAX_SEGMENTS) (λ e. le_prop) b.exports

once_prop : (b : PlainBook) → IsProp (AllByRecursion (λ (e : PlainExport). (run : Run) → times_among (runs_in_segments e.segments) run ≤ 1) b.exports)
once_prop b = AllByRecursion-prop (λ (e : PlainExport). (run : Run) → times_among (runs_in_segments e.segments) run ≤ 1) (λ e. Π_prop (λ run. le_prop)) b.exports

pub book_prop : (b : PlainBook) → IsProp (IsBook b)
book_prop b x y = λ i. record {
  few = le_prop x.few y.few i;
  below = below_prop b x.below y.below i;
  rising = rising_prop b.exports x.rising y.rising i;
  most = le_prop x.most y.most i;
  short = short_prop b x.short y.short i;
  once = once_prop b x.once y.once i;
}
