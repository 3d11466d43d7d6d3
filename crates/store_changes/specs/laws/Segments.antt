-- Laws of the new segments of a change.
use Rattle.std.specs.Prelude.{◌≡◌, ◌≤◌, ◌<◌, ◌^◌, ◌++◌, ◌==◌, ◌&&◌, ℕ, ◌+◌, true, List, [], ◌∷◌, length, map, nat_le, nat_lt, Some}
use Rattle.std.specs.List.{list_all, AllByRecursion}
use Rattle.std.proofs.Common.{refl, ap, arith}
use Rattle.std.proofs.lemmas.Slice.Eq.{bytes_eq-Decides}
use Rattle.sha2.specs.Sha256.{sha256}
use Rattle.sha2.proofs.Facts256.{length-sha256}
use Rattle.std.proofs.lemmas.Bool.{and_parts, and_from, le-leb, lt-ltb, eq-eqb}
use Rattle.segments.specs.declared.run.Run.{Run}
use Rattle.segments.specs.Sectors.{sector_count}
use Rattle.commit.specs.declared.sector.FormatVersion.{FormatVersion}
use Rattle.commit.specs.declared.sector.FormatVersion.TheVariants.{One, Two}
use Rattle.commit.specs.Placing.{sectors_of}
use Rattle.catalogue.specs.declared.limits.TheConstants.{MAX_SEGMENT_ROWS}
use Rattle.catalogue.specs.declared.entry.Segment.{Segment}
use Rattle.catalogue.specs.Text.{digest_text, segment_size}
use Rattle.catalogue.specs.Entries.{is_between, is_digest, is_filled, is_segment, has_digest, has_digests}
use Rattle.pages.specs.Stored.{form_of}
use Rattle.pages.specs.laws.Taken.{AreTaken}
use Rattle.store_runs.specs.Held.{is_undamaged}
use Rattle.store_runs.specs.Changes.{digest_for, placed_segments}
use Rattle.store_runs.specs.Carrying.{unplaced}

-- what may be a segment's stream
abbrev pub IsStream : List ℕ → Type 0
IsStream stream = (1 ≤ length stream) × (length stream < 2 ^ 64)

pub are_streams : (streams : List (List ℕ)) → AllByRecursion (λ (stream : List ℕ). 1 ≤ length stream) streams → AllByRecursion (λ (stream : List ℕ). length stream < 2 ^ 64) streams → AllByRecursion IsStream streams
are_streams [] some short = tt
are_streams (s ∷ ss) some short = ((some.0, short.0), are_streams ss some.1 short.1)

-- a digest of a stream is one, and what it is of is not damaged
digest_is : (version : FormatVersion) (stream : List ℕ) → is_digest (digest_for version stream) ≡ true
digest_is One stream = refl
digest_is Two stream = eq-eqb _ _ (length-sha256 stream)

pub own_digest : (version : FormatVersion) (stream : List ℕ) → is_undamaged (digest_for version stream) (Some stream) ≡ true
own_digest One stream = refl
own_digest Two stream = (bytes_eq-Decides (sha256 stream) (sha256 stream)).1 refl

-- it is there where the version has one
digest_has : (version : FormatVersion) (stream : List ℕ) → has_digest (form_of version) (digest_for version stream) ≡ true
digest_has One stream = refl
digest_has Two stream = refl

pub segment_is : (s : Segment) → s.place.run.start < 2 ^ 64 → s.place.bytes < 2 ^ 64 → 1 ≤ s.place.bytes → s.place.run.count ≡ sector_count s.place.bytes → is_between 1 MAX_SEGMENT_ROWS s.rows ≡ true → is_digest s.digest ≡ true → is_segment s ≡ true
segment_is s start bytes some sectors rows digest =
    and_from (is_filled 1 s.place) (is_between 1 MAX_SEGMENT_ROWS s.rows && is_digest s.digest)
    (and_from (nat_lt s.place.run.start (2 ^ 64) && nat_lt s.place.bytes (2 ^ 64)) (nat_le 1 s.place.bytes && (s.place.run.count == sector_count s.place.bytes))
    (and_from (nat_lt s.place.run.start (2 ^ 64)) (nat_lt s.place.bytes (2 ^ 64)) (lt-ltb _ _ start) (lt-ltb _ _ bytes))
    (and_from (nat_le 1 s.place.bytes) (s.place.run.count == sector_count s.place.bytes) (le-leb _ _ some) (eq-eqb _ _ sectors)))
    (and_from (is_between 1 MAX_SEGMENT_ROWS s.rows) (is_digest s.digest) rows digest)

-- ---- in their runs

pub placed_runs : (v : FormatVersion) (runs : List Run) (streams : List (List ℕ)) (counts : List ℕ) → length runs ≡ length streams → length streams ≡ length counts → map (λ (s : Segment). s.place.run) (placed_segments v runs streams counts) ≡ runs
placed_runs v [] streams counts a b = refl
placed_runs v (r ∷ rs) [] counts a b = absurd (omega (arith, a))
placed_runs v (r ∷ rs) (s ∷ ss) [] a b = absurd (omega (arith, b))
placed_runs v (r ∷ rs) (s ∷ ss) (n ∷ ns) a b = ap (λ (xs : List Run). r ∷ xs) (placed_runs v rs ss ns (omega (arith, a)) (omega (arith, b)))

pub placed_number : (v : FormatVersion) (runs : List Run) (streams : List (List ℕ)) (counts : List ℕ) → length runs ≡ length streams → length streams ≡ length counts → length (placed_segments v runs streams counts) ≡ length streams
placed_number v [] streams counts a b = a
placed_number v (r ∷ rs) [] counts a b = absurd (omega (arith, a))
placed_number v (r ∷ rs) (s ∷ ss) [] a b = absurd (omega (arith, b))
placed_number v (r ∷ rs) (s ∷ ss) (n ∷ ns) a b = let more = placed_number v rs ss ns (omega (arith, a)) (omega (arith, b)) in omega (arith, more)

-- where there are more runs, those of the streams are the first
pub placed_few : (v : FormatVersion) (runs : List Run) (streams : List (List ℕ)) (counts : List ℕ) → length streams ≤ length runs → length streams ≡ length counts → length (placed_segments v runs streams counts) ≡ length streams
placed_few v [] [] counts few same = refl
placed_few v [] (s ∷ ss) counts few same = absurd (omega (arith, few))
placed_few v (r ∷ rs) [] counts few same = refl
placed_few v (r ∷ rs) (s ∷ ss) [] few same = absurd (omega (arith, same))
placed_few v (r ∷ rs) (s ∷ ss) (n ∷ ns) few same = let more = placed_few v rs ss ns (omega (arith, few)) (omega (arith, same)) in omega (arith, more)

pub placed_none : (v : FormatVersion) (runs : List Run) (counts : List ℕ) → placed_segments v runs [] counts ≡ []
placed_none v [] counts = refl
placed_none v (r ∷ rs) counts = refl

-- each may stand in a catalogue, in runs that were taken for them
pub placed_sound : (v : FormatVersion) (size : ℕ) (runs : List Run) (streams : List (List ℕ)) (counts : List ℕ) → size < 2 ^ 64 → AreTaken size (map sectors_of streams) runs → AllByRecursion IsStream streams
    → list_all (is_between 1 MAX_SEGMENT_ROWS) counts ≡ true → list_all is_segment (placed_segments v runs streams counts) ≡ true
placed_sound v size [] streams counts limit took are rows = refl
placed_sound v size (r ∷ rs) [] counts limit took are rows = absurd took
placed_sound v size (r ∷ rs) (s ∷ ss) [] limit took are rows = refl
placed_sound v size (r ∷ rs) (s ∷ ss) (n ∷ ns) limit took are rows =
    let segment : Segment = record { place = record { run = r; bytes = length s }; rows = n; digest = digest_for v s } in
    let parts = and_parts (is_between 1 MAX_SEGMENT_ROWS n) (list_all (is_between 1 MAX_SEGMENT_ROWS) ns) rows in
    let within = took.0.within in
    and_from (is_segment segment) (list_all is_segment (placed_segments v rs ss ns)) (segment_is segment (omega (arith, within, limit)) are.0.1 are.0.0 took.0.count_is parts.0 (digest_is v s))
    (placed_sound v size rs ss ns limit took.1 are.1 parts.1)

-- runs after them make no difference
pub placed_front : (v : FormatVersion) (places more : List Run) (streams : List (List ℕ)) (counts : List ℕ) → length places ≡ length streams → placed_segments v places streams counts ≡ placed_segments v (places ++ more) streams counts
placed_front v [] [] [] counts same = refl
placed_front v [] (m ∷ ms) [] counts same = refl
placed_front v [] more (s ∷ ss) counts same = absurd (omega (arith, same))
placed_front v (r ∷ rs) more [] counts same = absurd (omega (arith, same))
placed_front v (r ∷ rs) more (s ∷ ss) [] same = refl
placed_front v (r ∷ rs) more (s ∷ ss) (n ∷ ns) same =
    ap (λ (gs : List Segment). record { place = record { run = r; bytes = length s }; rows = n; digest = digest_for v s } ∷ gs) (placed_front v rs more ss ns (omega (arith, same)))

-- ---- without places

pub unplaced_number : (v : FormatVersion) (streams : List (List ℕ)) (counts : List ℕ) → length streams ≡ length counts → length (unplaced v streams counts) ≡ length streams
unplaced_number v [] counts same = refl
unplaced_number v (s ∷ ss) [] same = absurd (omega (arith, same))
unplaced_number v (s ∷ ss) (n ∷ ns) same = let more = unplaced_number v ss ns (omega (arith, same)) in omega (arith, more)

pub unplaced_sound : (v : FormatVersion) (streams : List (List ℕ)) (counts : List ℕ) → AllByRecursion IsStream streams → list_all (is_between 1 MAX_SEGMENT_ROWS) counts ≡ true → list_all is_segment (unplaced v streams counts) ≡ true
unplaced_sound v [] counts are rows = refl
unplaced_sound v (s ∷ ss) [] are rows = refl
unplaced_sound v (s ∷ ss) (n ∷ ns) are rows =
    let segment : Segment = record { place = record { run = record { start = 0; count = sector_count (length s) }; bytes = length s }; rows = n; digest = digest_for v s } in
    let parts = and_parts (is_between 1 MAX_SEGMENT_ROWS n) (list_all (is_between 1 MAX_SEGMENT_ROWS) ns) rows in
    and_from (is_segment segment) (list_all is_segment (unplaced v ss ns)) (segment_is segment (omega arith) are.0.1 are.0.0 refl parts.0 (digest_is v s)) (unplaced_sound v ss ns are.1 parts.1)

-- ---- their digests

-- their texts have as many bytes wherever they lie
pub placed_alike : (v : FormatVersion) (runs : List Run) (streams : List (List ℕ)) (counts : List ℕ) → length runs ≡ length streams → length streams ≡ length counts
    → map segment_size (placed_segments v runs streams counts) ≡ map segment_size (unplaced v streams counts)
placed_alike v [] [] counts a b = refl
placed_alike v [] (s ∷ ss) counts a b = absurd (omega (arith, a))
placed_alike v (r ∷ rs) [] counts a b = absurd (omega (arith, a))
placed_alike v (r ∷ rs) (s ∷ ss) [] a b = absurd (omega (arith, b))
placed_alike v (r ∷ rs) (s ∷ ss) (n ∷ ns) a b = ap (λ (sizes : List ℕ). (32 + length (digest_text (digest_for v s))) ∷ sizes) (placed_alike v rs ss ns (omega (arith, a)) (omega (arith, b)))

-- they have one just where the version has any
pub placed_form : (v : FormatVersion) (runs : List Run) (streams : List (List ℕ)) (counts : List ℕ) → has_digests (form_of v) (placed_segments v runs streams counts) ≡ true
placed_form v [] streams counts = refl
placed_form v (r ∷ rs) [] counts = refl
placed_form v (r ∷ rs) (s ∷ ss) [] = refl
placed_form v (r ∷ rs) (s ∷ ss) (n ∷ ns) = and_from (has_digest (form_of v) (digest_for v s)) (has_digests (form_of v) (placed_segments v rs ss ns)) (digest_has v s) (placed_form v rs ss ns)
