-- A catalogue some of whose segments have no places yet, and the same catalogue once they have them.
use Rattle.std.specs.Prelude.{ℕ, Bool, not, nat_lt, List, [], ◌∷◌, ◌++◌, length, take, drop, flat_map}
use Rattle.std.specs.List.{filter}
use Rattle.segments.specs.declared.run.Run.{Run}
use Rattle.catalogue.specs.declared.entry.Segment.{Segment}
use Rattle.catalogue.specs.Entries.{PlainEntry, PlainCatalogue, page_runs, runs_in_segments}
use Rattle.catalogue.specs.Edits.{page_behind}

-- a segment that starts before this sector has its place; the others are new
abbrev pub has_place : (from : ℕ) → Segment → Bool
has_place from s = nat_lt s.place.run.start from

abbrev pub is_new : (from : ℕ) → Segment → Bool
is_new from s = not (has_place from s)

abbrev pub placed_in : (from : ℕ) → List Segment → List Segment
placed_in from segments = filter (has_place from) segments

abbrev pub new_in : (from : ℕ) → List Segment → List Segment
new_in from segments = filter (is_new from) segments

-- those of all tables, in order
abbrev pub new_segments : (from : ℕ) → PlainCatalogue → List Segment
new_segments from c = flat_map (λ (e : PlainEntry). new_in from e.segments) c

-- the runs that an entry names, without those of its new segments
abbrev pub runs_placed_in : (from : ℕ) → PlainEntry → List Run
runs_placed_in from e = page_runs (page_behind (new_in from e.segments) e.page) ++ runs_in_segments (placed_in from e.segments)

abbrev pub runs_placed : (from : ℕ) → PlainCatalogue → List Run
runs_placed from c = flat_map (runs_placed_in from) c

-- a table with the next of these segments in place of its new ones, after those that have places; its page remains if there are no new ones
abbrev pub entry_filled : (from : ℕ) → PlainEntry → List Segment → PlainEntry
entry_filled from e others = record {
  name = e.name;
  schema = e.schema;
  segments = placed_in from e.segments ++ take (length (new_in from e.segments)) others;
  page = page_behind (new_in from e.segments) e.page;
}

-- the same for each table, in order
unfoldable pub filled : (from : ℕ) → PlainCatalogue → List Segment → PlainCatalogue
filled from [] others = []
filled from (e ∷ es) others = entry_filled from e others ∷ filled from es (drop (length (new_in from e.segments)) others)
