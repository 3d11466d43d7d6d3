-- Entries whose new segments get places: with none of them, and with the next ones of a list.
use Rattle.std.specs.Prelude.{min}
use Rattle.std.proofs.Common.{◌≡◌, ℕ, ◌≤◌, ◌++◌, List, [], ◌∷◌, length, map, take, drop, refl, sym, ap, ◌∙◌, arith, append_assoc, append-nil}
use Rattle.std.proofs.lemmas.List.{take-take, take_min, drop_min, drop_all, nil_from_length}
use Rattle.catalogue.specs.declared.entry.Segment.{Segment}
use Rattle.catalogue.specs.declared.entry.TableEntry.{TableEntry}
use Rattle.catalogue.specs.Entries.{PlainEntry, PlainCatalogue, plain_entry}
use Rattle.catalogue.specs.Edits.{page_behind}
use Rattle.store_runs.specs.Filling.{placed_in, new_in, entry_filled, filled}
use Rattle.store_changes.specs.laws.Filled.{all_placed}

pub filled_none : (from : ℕ) (e : PlainEntry) (others : List Segment) → length (new_in from e.segments) ≡ 0 → entry_filled from e others ≡ e
filled_none from e others none =
    let is = nil_from_length (new_in from e.segments) none in
    let own : placed_in from e.segments ++ take (length (new_in from e.segments)) others ≡ e.segments =
    ap (λ (ns : List Segment). placed_in from e.segments ++ take (length ns) others) is ∙ append-nil (placed_in from e.segments) ∙ all_placed from e.segments is in
    λ i. record { name = e.name; schema = e.schema; segments = own i; page = page_behind (is i) e.page }

-- the next ones: no more are taken than the entry needs, and no more than there are
pub next_ones : (k m : ℕ) (others : List Segment) → k ≡ min m (length others) → (take m (take k others) ≡ take m others) × (drop k others ≡ drop m others)
next_ones k m others is = (ap (λ (n : ℕ). take m (take n others)) is ∙ ap (take m) (take_min m others) ∙ take-take m m others (omega arith), ap (λ (n : ℕ). drop n others) is ∙ drop_min m others)

-- one table more is filled
pub one_more : (from : ℕ) (front : List PlainEntry) (e f : PlainEntry) (es : PlainCatalogue) (rest : List Segment) (k : ℕ) (own behind : List Segment) → k ≡ min (length (new_in from e.segments)) (length rest)
    → own ≡ take k rest → behind ≡ drop k rest → f ≡ entry_filled from e own → (front ++ f ∷ []) ++ filled from es behind ≡ front ++ filled from (e ∷ es) rest
unfolding filled
one_more from front e f es rest k own behind is first second made =
    let m = length (new_in from e.segments) in
    let next = next_ones k m rest is in
    append_assoc front (f ∷ []) (filled from es behind)
    ∙ (λ i. front ++ (made ∙ same (ap (take m) first ∙ next.0)) i ∷ filled from es ((second ∙ next.1) i))
  where
    same : take (length (new_in from e.segments)) own ≡ take (length (new_in from e.segments)) rest → entry_filled from e own ≡ entry_filled from e rest
    same h = λ i. record { name = e.name; schema = e.schema; segments = placed_in from e.segments ++ h i; page = page_behind (new_in from e.segments) e.page }

-- no table is left
pub none_left : (from : ℕ) (front all : PlainCatalogue) (items : List TableEntry) (i : ℕ) (rest : List Segment) → length items ≤ i → front ++ filled from (map plain_entry (drop i items)) rest ≡ all → front ≡ all
unfolding filled
none_left from front all items i rest past is =
    sym (append-nil front) ∙ ap (λ (ts : List TableEntry). front ++ filled from (map plain_entry ts) rest) (sym (drop_all i items past)) ∙ is
