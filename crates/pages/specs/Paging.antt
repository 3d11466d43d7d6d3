-- Which tables of a catalogue get a page, and how the catalogue is stored.
use Rattle.std.specs.Prelude.{◌≡◌, ◌+◌, ℕ, Bool, true, false, nat_le, if◌then◌else◌, List, [], ◌∷◌, length, map, flat_map, sum_by, Some, None}
use Rattle.segments.specs.declared.run.Run.{Run}
use Rattle.commit.specs.declared.sector.CatalogueKind.{CatalogueKind}
use Rattle.commit.specs.declared.sector.CatalogueKind.TheVariants.{Whole, Pages}
use Rattle.catalogue.specs.Entries.{PlainEntry, PlainCatalogue, PlainRoot, is_filled, page_runs, bare}
use Rattle.catalogue.specs.Text.{table_text, table_size, list_text, list_size, root_text}

-- a list whose text fits in a sector is stored whole
abbrev pub is_whole : PlainCatalogue → Bool
is_whole c = nat_le (list_size c) 512

abbrev pub kind_of : PlainCatalogue → CatalogueKind
kind_of c = if is_whole c then Whole else Pages

-- the entry, if it has no page
abbrev pub if_pageless : PlainEntry → List PlainEntry
if_pageless e = elim e.page [ None ↦ e ∷ [] | Some p ↦ [] ]

abbrev pub pageless : PlainCatalogue → List PlainEntry
pageless c = flat_map if_pageless c

-- the size in bytes of each page to be written, and that of the list or root after them
abbrev pub page_sizes : PlainCatalogue → List ℕ
page_sizes c = if is_whole c then [] else map table_size (pageless c)

-- this does not depend on where the pages lie
abbrev pub root_bytes : PlainCatalogue → ℕ
root_bytes c = 4 + sum_by (λ (e : PlainEntry). 28 + length e.name) c

abbrev pub text_size : PlainCatalogue → ℕ
text_size c = if is_whole c then list_size c else root_bytes c

-- the entry with its page in this run
abbrev pub in_page : PlainEntry → Run → PlainEntry
in_page e run = record { name = e.name; schema = e.schema; segments = e.segments; page = Some (record { run = run; bytes = table_size e }) }

abbrev pub in_first : PlainEntry → List Run → PlainEntry
in_first e [] = e
in_first e (run ∷ runs) = in_page e run

abbrev pub tail_of : List Run → List Run
tail_of [] = []
tail_of (run ∷ runs) = runs

-- each table without a page gets one in these runs, in order
abbrev pub with_pages : PlainCatalogue → List Run → PlainCatalogue
with_pages [] runs = []
with_pages (e ∷ es) runs = elim e.page [ Some p ↦ e ∷ with_pages es runs | None ↦ in_first e runs ∷ with_pages es (tail_of runs) ]

-- each of these tables has one of the runs, with exactly the sectors that its page needs
abbrev pub AreFilled : List PlainEntry → List Run → Type 0
AreFilled [] [] = Unit {0}
AreFilled [] (run ∷ runs) = ⊥
AreFilled (e ∷ es) [] = ⊥
AreFilled (e ∷ es) (run ∷ runs) = (is_filled 8 (record { run = run; bytes = table_size e }) ≡ true) × AreFilled es runs

-- the runs of the pages to be written: none if the catalogue is stored whole
abbrev pub AreRunsOf : (whole : Bool) → PlainCatalogue → List Run → Type 0
AreRunsOf true c runs = runs ≡ []
AreRunsOf false c runs = AreFilled (pageless c) runs

abbrev pub ArePageRuns : PlainCatalogue → List Run → Type 0
ArePageRuns c runs = AreRunsOf (is_whole c) c runs

-- a catalogue as it is stored: whole without pages, or each table in a page
abbrev pub settled : PlainCatalogue → List Run → PlainCatalogue
settled c runs = if is_whole c then map bare c else with_pages c runs

-- the pages that are given up if it is stored whole
abbrev pub dropped_pages : PlainCatalogue → List Run
dropped_pages c = if is_whole c then flat_map (λ (e : PlainEntry). page_runs e.page) c else []

-- the texts of the pages to be written, and the list or the root
abbrev pub page_texts : PlainCatalogue → List (List ℕ)
page_texts c = if is_whole c then [] else map table_text (pageless c)

abbrev pub if_paged : PlainEntry → List PlainRoot
if_paged e = elim e.page [ None ↦ [] | Some p ↦ record { name = e.name; page = p } ∷ [] ]

abbrev pub root_of : PlainCatalogue → List PlainRoot
root_of c = flat_map if_paged c

-- the text that the commit names: the list, or the root of the settled catalogue
abbrev pub settled_text : PlainCatalogue → List Run → List ℕ
settled_text c runs = if is_whole c then list_text c else root_text (root_of (with_pages c runs))
