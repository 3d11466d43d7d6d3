-- How a stored catalogue is read: the list that a commit names, or a root and then page by page.
use Rattle.std.specs.Prelude.{◌≡◌, ◌≤◌, ◌-◌, ℕ, true, List, [], ◌∷◌, length, Option, Some, None, Result, Ok, Err}
use Rattle.std.specs.List.{AllByRecursion, list_all}
use Rattle.sector_dev.specs.Disk.{Image, Story, now, shown_image}
use Rattle.arrow_schema.specs.Column.{PlainSchema}
use Rattle.segments.specs.declared.extent.Extent.{Extent}
use Rattle.commit.specs.declared.cause.Cause.{Cause}
use Rattle.commit.specs.declared.cause.Cause.TheVariants.{CatalogueText}
use Rattle.commit.specs.declared.sector.CatalogueKind.{CatalogueKind}
use Rattle.commit.specs.declared.sector.CatalogueKind.TheVariants.{Whole, Pages}
use Rattle.commit.specs.Standing.{Reading, extent_at}
use Rattle.commit.specs.declared.sector.FormatVersion.{FormatVersion}
use Rattle.commit.specs.declared.sector.FormatVersion.TheVariants.{One, Two}
use Rattle.catalogue.specs.declared.entry.Segment.{Segment}
use Rattle.catalogue.specs.declared.entry.SegmentForm.{SegmentForm}
use Rattle.catalogue.specs.declared.entry.SegmentForm.TheVariants.{Bare, Digested}
use Rattle.catalogue.specs.declared.limits.TheConstants.{MAX_SEGMENTS, MAX_TABLES}
use Rattle.catalogue.specs.Entries.{PlainEntry, PlainCatalogue, PlainRoot, is_name, ascends, root_names, runs_of}
use Rattle.catalogue.specs.Reading.{catalogue_at, page_at, root_at, entry_from}

-- the form of the texts in a version
abbrev pub form_of : FormatVersion → SegmentForm
form_of One = Bare
form_of Two = Digested

-- a step after another one; the first cause is returned
abbrev pub then_read : {A B : Type 0} → Result A Cause → (A → Result B Cause) → Result B Cause
then_read (Err cause) next = Err cause
then_read (Ok x) next = next x

abbrev pub or_no_text : {A : Type 0} → Option A → Result A Cause
or_no_text None = Err CatalogueText
or_no_text (Some x) = Ok x

-- the contents of the page in this extent, which is of this form and has at most `most` segments
abbrev pub page_in : SegmentForm → ℕ → Image → (most : ℕ) → Extent → Result (PlainSchema × List Segment) Cause
page_in form size image most page = then_read (extent_at size image 8 page) (λ bytes. or_no_text (page_at form most bytes))

-- the names of a root's tables are valid and ascend, and there are not too many
pub record AreTables (rs : List PlainRoot) : Type 0 where
  pub named : list_all (λ (r : PlainRoot). is_name r.name) rs ≡ true
  pub order : ascends (root_names rs) ≡ true
  pub tables : length rs ≤ MAX_TABLES

-- page by page in the order of the root, each tested whole before the next; the segments of all pages are counted together
unfoldable pub pages_at : SegmentForm → ℕ → Image → (most : ℕ) → List PlainRoot → Result PlainCatalogue Cause
pages_at form size image most [] = Ok []
pages_at form size image most (r ∷ rs) =
    then_read (page_in form size image most r.page)
    (λ body. then_read (pages_at form size image (most - length body.1) rs) (λ others. Ok (entry_from r.name (Some r.page) body ∷ others)))

-- the catalogue of the text of a commit of this kind and form: a list holds all of it, and a root says where the pages lie
abbrev pub by_kind : CatalogueKind → SegmentForm → ℕ → Image → List ℕ → Result PlainCatalogue Cause
by_kind Whole form size image text = or_no_text (catalogue_at form text)
by_kind Pages form size image text = then_read (or_no_text (root_at text)) (pages_at form size image MAX_SEGMENTS)

abbrev pub stored_reading : Reading PlainCatalogue
stored_reading = record { at = λ size image k text. by_kind k.kind (form_of k.version) size image text; runs = runs_of }

-- the entry has no page, or its page holds its schema and segments
abbrev pub HoldsPage : SegmentForm → ℕ → Image → PlainEntry → Type 0
HoldsPage form size image e = (page : Extent) → e.page ≡ Some page → page_in form size image (length e.segments) page ≡ Ok (e.schema, e.segments)

abbrev pub HoldsPages : SegmentForm → ℕ → Image → PlainCatalogue → Type 0
HoldsPages form size image c = AllByRecursion (HoldsPage form size image) c

-- the same as reads return it
abbrev pub page_shown : SegmentForm → ℕ → Story → (most : ℕ) → Extent → Result (PlainSchema × List Segment) Cause
page_shown form size story most page = page_in form size (shown_image (now story)) most page

abbrev pub pages_shown : SegmentForm → ℕ → Story → (most : ℕ) → List PlainRoot → Result PlainCatalogue Cause
pages_shown form size story most rs = pages_at form size (shown_image (now story)) most rs
