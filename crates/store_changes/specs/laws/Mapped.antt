-- What is said of each entry of a catalogue stays if it depends neither on pages nor on how the segments of one entry are exchanged.
use Rattle.std.specs.Prelude.{◌≡◌, ℕ, Bool, true, false, List, [], ◌∷◌, length, map, drop, Option, Some, None, if◌then◌else◌, refl}
use Rattle.std.proofs.Common.{ap, ◌∙◌, subst}
use Rattle.std.specs.Str.{bytes_eq}
use Rattle.segments.specs.declared.run.Run.{Run}
use Rattle.segments.specs.declared.extent.Extent.{Extent}
use Rattle.catalogue.specs.declared.entry.Segment.{Segment}
use Rattle.catalogue.specs.Entries.{PlainEntry, PlainCatalogue, bare}
use Rattle.catalogue.specs.Edits.{entry_of, with_segments, with_others, with_exchanged}
use Rattle.catalogue.specs.laws.Changed.{exchanged_is}
use Rattle.commit.specs.declared.sector.FormatVersion.{FormatVersion}
use Rattle.pages.specs.Paging.{is_whole, in_page, in_first, tail_of, with_pages, settled}
use Rattle.pages.specs.laws.Paged.{by_page, kept_first, made_first}
use Rattle.store_runs.specs.Changes.{PlainChange, edited, placed_segments}
use Rattle.store_runs.specs.Carrying.{placed}

-- the entry with other segments, as it is after a change
abbrev pub with_own : PlainEntry → List Segment → PlainEntry
with_own e segments = record { name = e.name; schema = e.schema; segments = segments; page = None }

module _ {X : Type 0} (f : PlainEntry → X) where
  -- one entry has other segments
  pub with_mapped : (c : PlainCatalogue) (name : List ℕ) (e : PlainEntry) (segments : List Segment) → entry_of c name ≡ Some e → f (with_own e segments) ≡ f e
      → map f (with_segments c name segments) ≡ map f c
  with_mapped [] name e segments found same = refl
  with_mapped (x ∷ xs) name e segments found same = by_name (bytes_eq x.name name) found (λ h. with_mapped xs name e segments h same)
    where
      by_name : (b : Bool) → (if b then Some x else entry_of xs name) ≡ Some e → (entry_of xs name ≡ Some e → map f (with_segments xs name segments) ≡ map f xs)
          → map f (if b then record { name = x.name; schema = x.schema; segments = segments; page = None } ∷ xs else x ∷ with_segments xs name segments) ≡ map f (x ∷ xs)
      by_name true h later = let is : e ≡ x = cc h in ap (λ (y : X). y ∷ map f xs) (subst (λ (y : PlainEntry). f (with_own y segments) ≡ f y) is same)
      by_name false h later = ap (λ (ys : List X). f x ∷ ys) (later h)

  pub exchanged_mapped : (c : PlainCatalogue) (name : List ℕ) (e : PlainEntry) → entry_of c name ≡ Some e → (place count : ℕ) (others : List Segment)
      → f (with_own e (with_others e.segments place count others)) ≡ f e → map f (with_exchanged c name place count others) ≡ map f c
  exchanged_mapped c name e found place count others same =
      ap (map f) (exchanged_is c name e found place count others) ∙ with_mapped c name e (with_others e.segments place count others) found same

  -- entries have other pages
  module _ (free : (e : PlainEntry) (o : Option Extent) → f (record { name = e.name; schema = e.schema; segments = e.segments; page = o }) ≡ f e) where
    bare_mapped : (c : PlainCatalogue) → map f (map bare c) ≡ map f c
    bare_mapped [] = refl
    bare_mapped (e ∷ es) = λ i. free e None i ∷ bare_mapped es i

    first_mapped : (e : PlainEntry) (runs : List Run) → f (in_first e runs) ≡ f e
    first_mapped e [] = refl
    first_mapped e (run ∷ runs) = free e (in_page e run).page

    pages_mapped : (c : PlainCatalogue) (runs : List Run) → map f (with_pages c runs) ≡ map f c
    pages_mapped [] runs = refl
    pages_mapped (e ∷ es) runs =
        by_page e.page
        (λ p here. ap (map f) (kept_first e es runs p here) ∙ ap (λ (ys : List X). f e ∷ ys) (pages_mapped es runs))
        (λ none. ap (map f) (made_first e es runs none) ∙ (λ i. first_mapped e runs i ∷ pages_mapped es (tail_of runs) i))

    settled_mapped : (c : PlainCatalogue) (runs : List Run) → map f (settled c runs) ≡ map f c
    settled_mapped c runs = by_whole (is_whole c)
      where
        by_whole : (t : Bool) → map f (if t then map bare c else with_pages c runs) ≡ map f c
        by_whole true = bare_mapped c
        by_whole false = pages_mapped c runs

    pub placed_mapped : (v : FormatVersion) (c : PlainCatalogue) (change : PlainChange) (places : List Run)
        → map f (placed v c change places) ≡ map f (edited c change.edit (placed_segments v places change.streams change.counts))
    placed_mapped v c change places = settled_mapped (edited c change.edit (placed_segments v places change.streams change.counts)) (drop (length change.streams) places)
