-- How many bytes a text has, and what the limits say of rows and runs.
use Rattle.std.proofs.Common.{◌≡◌, ◌≤◌, ◌<◌, ◌+◌, ℕ, zero, suc, true, List, [], ◌∷◌, ◌++◌, length, get_or, map, refl, sym, ap, subst, ◌∙◌, arith}
use Rattle.std.specs.List.{flat_map, sum_by, Contains}
use Rattle.std.proofs.lemmas.List.{length-append, length-map}
use Rattle.std.proofs.lemmas.List.Elements.{Contains-append_left, Contains-append_right}
use Rattle.std.proofs.lemmas.List.Sums.{sum_by-cons, get_or-le-sum_by}
use Rattle.byteorder.specs.Endian.{little_bytes}
use Rattle.byteorder.specs.Numbers.{length-bytes_low_first}
use Rattle.ipc_write.specs.Written.{schema_message}
use Rattle.segments.specs.declared.run.Run.{Run}
use Rattle.catalogue.specs.declared.entry.Segment.{Segment}
use Rattle.segments.specs.declared.extent.Extent.{Extent}
use Rattle.catalogue.specs.Entries.{PlainEntry, PlainCatalogue, PlainRoot, is_entry, row_count, page_runs, runs_in_segments, runs_in, runs_of, segment_count, IsCatalogue}
use Rattle.catalogue.specs.Text.{sized, counted, extent_text, digest_text, segment_text, segment_size, table_text, table_size, entry_text, entry_size, list_text, list_size, root_entry_text, root_text, root_size}
use Rattle.catalogue.specs.laws.Kept.{entry_is}
use Rattle.catalogue.proofs.Standing.{map_at}
use Rattle.catalogue.proofs.Rows.{rows_le, passes_at}

extent_size : (e : Extent) → length (extent_text e) ≡ 24
extent_size e =
    let a = little_bytes 8 e.run.start in
    let b = little_bytes 8 e.run.count in
    let c = little_bytes 8 e.bytes in
    omega (arith, length-append a (b ++ c), length-append b c, length-bytes_low_first 0 8 e.run.start, length-bytes_low_first 0 8 e.run.count, length-bytes_low_first 0 8 e.bytes)

segment_has_size : (s : Segment) → length (segment_text s) ≡ segment_size s
segment_has_size s =
    let rows = little_bytes 8 s.rows in
    omega (arith, length-append (extent_text s.place) (rows ++ digest_text s.digest), length-append rows (digest_text s.digest), extent_size s.place, length-bytes_low_first 0 8 s.rows)

segments_size : (ss : List Segment) → length (flat_map segment_text ss) ≡ sum_by segment_size ss
segments_size [] = refl
segments_size (s ∷ ss) = omega (arith, length-append (segment_text s) (flat_map segment_text ss), segment_has_size s, segments_size ss, sum_by-cons segment_size s ss)

sized_size : (bytes : List ℕ) → length (sized bytes) ≡ 4 + length bytes
sized_size bytes = omega (arith, length-append (little_bytes 4 (length bytes)) bytes, length-bytes_low_first 0 4 (length bytes))

pub table_has_size : (e : PlainEntry) → length (table_text e) ≡ table_size e
unfolding table_text
table_has_size e =
    let message = schema_message e.schema in
    omega (
      arith,
      length-append (sized message) (counted segment_text e.segments),
      sized_size message,
      length-append (little_bytes 4 (length e.segments)) (flat_map segment_text e.segments),
      length-bytes_low_first 0 4 (length e.segments),
      segments_size e.segments,
    )

entry_has_size : (e : PlainEntry) → length (entry_text e) ≡ entry_size e
entry_has_size e = omega (arith, length-append (sized e.name) (table_text e), sized_size e.name, table_has_size e)

entries_size : (c : PlainCatalogue) → length (flat_map entry_text c) ≡ sum_by entry_size c
entries_size [] = refl
entries_size (e ∷ es) = omega (arith, length-append (entry_text e) (flat_map entry_text es), entry_has_size e, entries_size es, sum_by-cons entry_size e es)

pub text_has_size : (c : PlainCatalogue) → length (list_text c) ≡ list_size c
text_has_size c = omega (arith, length-append (little_bytes 4 (length c)) (flat_map entry_text c), length-bytes_low_first 0 4 (length c), entries_size c)

abbrev root_entry_size : PlainRoot → ℕ
root_entry_size r = 28 + length r.name

root_entries_size : (rs : List PlainRoot) → length (flat_map root_entry_text rs) ≡ sum_by root_entry_size rs
root_entries_size [] = refl
root_entries_size (r ∷ rs) =
    omega (
      arith,
      length-append (root_entry_text r) (flat_map root_entry_text rs),
      length-append (sized r.name) (extent_text r.page),
      sized_size r.name,
      extent_size r.page,
      root_entries_size rs,
      sum_by-cons root_entry_size r rs,
    )

pub root_has_size : (rs : List PlainRoot) → length (root_text rs) ≡ root_size rs
root_has_size rs = omega (arith, length-append (little_bytes 4 (length rs)) (flat_map root_entry_text rs), length-bytes_low_first 0 4 (length rs), root_entries_size rs)

-- ---- runs

run_in : (ss : List Segment) (s : Segment) → Contains ss s → Contains (map (λ (x : Segment). x.place.run) ss) s.place.run
run_in ss s has =
    let place : Segment → Run = λ x. x.place.run in
    (has.0, subst (λ n. has.0 < n) (sym (length-map ss place)) has.1, map_at place ss has.0 s ∙ ap place has.2)

run_among : (c : PlainCatalogue) (e : PlainEntry) (s : Segment) (k : ℕ) → k < length c → get_or c k e ≡ e → Contains e.segments s → Contains (runs_of c) s.place.run
run_among [] e s k lt is has = absurd (omega arith)
run_among (x ∷ xs) e s zero lt is has = Contains-append_left (runs_in x) (runs_of xs) s.place.run (Contains-append_right (page_runs x.page) (runs_in_segments x.segments) s.place.run (run_in x.segments s (subst (λ (y : PlainEntry). Contains y.segments s) (sym is) has)))
run_among (x ∷ xs) e s (suc k) lt is has = Contains-append_right (runs_in x) (runs_of xs) s.place.run (run_among xs e s k (omega arith) is has)

pub run_is_named : (c : PlainCatalogue) (e : PlainEntry) (s : Segment) → Contains c e → Contains e.segments s → Contains (runs_of c) s.place.run
run_is_named c e s at has = run_among c e s at.0 at.1 at.2 has

-- ---- rows

pub few_rows_in : (c : PlainCatalogue) (e : PlainEntry) → IsCatalogue c → Contains c e → row_count e ≤ 268435456
few_rows_in c e k at =
    let stood = entry_is e (subst (λ x. is_entry x ≡ true) at.2 (passes_at c at.0 e k.entries at.1)) in
    let here : length e.segments ≤ segment_count c = subst (λ (x : PlainEntry). length x.segments ≤ segment_count c) at.2 (get_or-le-sum_by (λ (x : PlainEntry). length x.segments) c at.0 e at.1) in
    let most = k.segments in
    omega (arith, rows_le e.segments stood.segments, here, most)
