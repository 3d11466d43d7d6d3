-- Changes of a catalogue.
use Rattle.std.specs.Prelude.{ℕ, if◌then◌else◌, List, [], ◌∷◌, ◌++◌, length, map, take, drop, find, Option, Some, None}
use Rattle.std.specs.Str.{bytes_eq}
use Rattle.std.specs.Cmp.Lexicographic.{slice_cmp}
use Rattle.std.specs.Ordering.{nat_cmp, match_ordering}
use Rattle.segments.specs.declared.extent.Extent.{Extent}
use Rattle.catalogue.specs.Entries.{PlainEntry, PlainCatalogue, row_count}
use Rattle.catalogue.specs.declared.entry.Segment.{Segment}

-- the entry with this name
abbrev pub entry_of : PlainCatalogue → List ℕ → Option PlainEntry
entry_of c name = find (λ e. bytes_eq e.name name) c

-- with this entry inserted in order, replacing one of its name
abbrev pub with_entry : PlainCatalogue → PlainEntry → PlainCatalogue
with_entry [] e = e ∷ []
with_entry (x ∷ xs) e = match_ordering (slice_cmp nat_cmp x.name e.name) (x ∷ with_entry xs e) (e ∷ xs) (e ∷ (x ∷ xs))

-- without the entry of this name
abbrev pub without : PlainCatalogue → List ℕ → PlainCatalogue
without [] name = []
without (x ∷ xs) name = if bytes_eq x.name name then xs else x ∷ without xs name

-- the entry under another name; it keeps its page, whose text does not have the name
abbrev pub named : List ℕ → PlainEntry → PlainEntry
named name e = record { name = name; schema = e.schema; segments = e.segments; page = e.page }

-- with an entry renamed
abbrev pub renamed : PlainCatalogue → List ℕ → List ℕ → PlainCatalogue
renamed c from to = elim (entry_of c from) [ None ↦ c | Some e ↦ with_entry (without c from) (named to e) ]

-- with these segments for the table of this name, which loses its page
abbrev pub with_segments : PlainCatalogue → List ℕ → List Segment → PlainCatalogue
with_segments [] name segments = []
with_segments (x ∷ xs) name segments =
    if bytes_eq x.name name then record { name = x.name; schema = x.schema; segments = segments; page = None } ∷ xs else x ∷ with_segments xs name segments

-- with more segments after those of a table; without any, the table is unchanged and keeps its page
abbrev pub with_more : PlainCatalogue → List ℕ → List Segment → PlainCatalogue
with_more c name [] = c
with_more c name (s ∷ more) = elim (entry_of c name) [ None ↦ c | Some e ↦ with_segments c name (e.segments ++ s ∷ more) ]

-- `count` segments from `place` on, and the segments with others in their place
abbrev pub from_place : List Segment → (place count : ℕ) → List Segment
from_place segments place count = take count (drop place segments)

abbrev pub with_others : List Segment → (place count : ℕ) → List Segment → List Segment
with_others segments place count others = take place segments ++ (others ++ drop count (drop place segments))

-- the same for the table of this name
abbrev pub with_exchanged : PlainCatalogue → List ℕ → (place count : ℕ) → List Segment → PlainCatalogue
with_exchanged c name place count others = elim (entry_of c name) [ None ↦ c | Some e ↦ with_segments c name (with_others e.segments place count others) ]

-- the page is kept if the list is empty: its text is still that of the table
abbrev pub page_behind : {A : Type 0} → List A → Option Extent → Option Extent
page_behind [] page = page
page_behind (x ∷ xs) page = None

-- each segment with the digest at its place
abbrev pub with_digest : Segment → List ℕ → Segment
with_digest s digest = record { place = s.place; rows = s.rows; digest = Some digest }

abbrev pub with_digests : List Segment → List (List ℕ) → List Segment
with_digests [] ds = []
with_digests (s ∷ ss) [] = s ∷ with_digests ss []
with_digests (s ∷ ss) (d ∷ ds) = with_digest s d ∷ with_digests ss ds

-- a table with these digests; it keeps its page, whose text has no digests, only if it has no segments
abbrev pub entry_digested : PlainEntry → List (List ℕ) → PlainEntry
entry_digested e ds = record { name = e.name; schema = e.schema; segments = with_digests e.segments ds; page = page_behind e.segments e.page }

-- the segments of each table with the next digests
unfoldable pub digested : PlainCatalogue → List (List ℕ) → PlainCatalogue
digested [] ds = []
digested (e ∷ es) ds = entry_digested e (take (length e.segments) ds) ∷ digested es (drop (length e.segments) ds)

-- the name and row count of each table
abbrev pub tables_of : PlainCatalogue → List (List ℕ × ℕ)
tables_of c = map (λ e. (e.name, row_count e)) c
