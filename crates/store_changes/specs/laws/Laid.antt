-- Streams that are laid over an image one after another, and the new segments that have them.
use Rattle.std.specs.Prelude.{◌≡◌, ◌≢◌, ◌≤◌, ◌<◌, ◌+◌, ◌-◌, ◌++◌, ◌^◌, ℕ, zero, suc, Bool, true, false, not, nat_lt, if◌then◌else◌, List, [], ◌∷◌, length, map, get_or, slice_get, Option, Some, None, refl}
use Rattle.std.specs.List.{list_all, AllByRecursion}
use Rattle.std.proofs.Common.{sym, ap, ◌∙◌, subst, arith, append_assoc}
use Rattle.std.proofs.lemmas.Bool.{lt-ltb, ltb-true, and_parts, and_from}
use Rattle.sector_dev.specs.Disk.{Image}
use Rattle.segments.specs.declared.run.Run.{Run}
use Rattle.segments.specs.Sectors.{sector_count, sector_of, Holds, bytes_at}
use Rattle.segments.specs.laws.ReadBack.{read_back}
use Rattle.catalogue.specs.declared.limits.TheConstants.{MAX_SEGMENT_ROWS}
use Rattle.catalogue.specs.declared.entry.Segment.{Segment}
use Rattle.catalogue.specs.Entries.{is_between, is_segment, runs_in_segments}
use Rattle.commit.specs.declared.sector.FormatVersion.TheVariants.{One}
use Rattle.store_runs.specs.Changes.{placed_segments, HoldsStreams}
use Rattle.store_runs.specs.Filling.{has_place, placed_in, new_in}
use Rattle.store_changes.specs.Draft.{end_of, starts_from, places_from, with_stream, laid, HasStream}
use Rattle.store_changes.specs.laws.Segments.{IsStream, segment_is}

-- ---- where they lie

pub end_on : (next : ℕ) (ss : List (List ℕ)) → next ≤ end_of next ss
end_on next [] = omega arith
end_on next (s ∷ ss) = let more = end_on (next + sector_count (length s)) ss in omega (arith, more)

pub end_more : (next : ℕ) (a b : List (List ℕ)) → end_of next (a ++ b) ≡ end_of (end_of next a) b
end_more next [] b = refl
end_more next (s ∷ ss) b = end_more (next + sector_count (length s)) ss b

pub starts_more : (next : ℕ) (a b : List (List ℕ)) → starts_from next (a ++ b) ≡ starts_from next a ++ starts_from (end_of next a) b
starts_more next [] b = refl
starts_more next (s ∷ ss) b = ap (λ (ns : List ℕ). next ∷ ns) (starts_more (next + sector_count (length s)) ss b)

pub starts_count : (next : ℕ) (ss : List (List ℕ)) → length (starts_from next ss) ≡ length ss
starts_count next [] = refl
starts_count next (s ∷ ss) = let more = starts_count (next + sector_count (length s)) ss in omega (arith, more)

pub places_count : (next : ℕ) (ss : List (List ℕ)) → length (places_from next ss) ≡ length ss
places_count next [] = refl
places_count next (s ∷ ss) = let more = places_count (next + sector_count (length s)) ss in omega (arith, more)

abbrev pub AreWithin : (low high : ℕ) → List Run → Type 0
AreWithin low high runs = AllByRecursion (λ (run : Run). (low ≤ run.start) × (run.start + run.count ≤ high)) runs

within_from : (low other high : ℕ) (runs : List Run) → low ≤ other → AreWithin other high runs → AreWithin low high runs
within_from low other high [] le all = tt
within_from low other high (r ∷ rs) le all = let start = all.0.0 in ((omega (arith, le, start), all.0.1), within_from low other high rs le all.1)

pub places_within : (next : ℕ) (ss : List (List ℕ)) → AreWithin next (end_of next ss) (places_from next ss)
places_within next [] = tt
places_within next (s ∷ ss) =
    let later = next + sector_count (length s) in
    let behind = end_on later ss in
    ((omega arith, behind), within_from next later (end_of later ss) (places_from later ss) (omega arith) (places_within later ss))

-- ---- the image

pub laid_more : (next : ℕ) (a b : List (List ℕ)) (image : Image) → laid next (a ++ b) image ≡ laid (end_of next a) b (laid next a image)
laid_more next [] b image = refl
laid_more next (s ∷ ss) b image = laid_more (next + sector_count (length s)) ss b (with_stream next s image)

stream_below : (next : ℕ) (s : List ℕ) (image : Image) (n : ℕ) → n < next → with_stream next s image n ≡ image n
stream_below next s image n low = ap (λ (b : Bool). if b then image n else Some (sector_of s (n - next))) (lt-ltb n next low)

stream_above : (next : ℕ) (s : List ℕ) (image : Image) (j : ℕ) → with_stream next s image (next + j) ≡ Some (sector_of s j)
stream_above next s image j = by_test (nat_lt (next + j) next) refl
  where
    back : (next + j) - next ≡ j
    back = omega arith

    by_test : (b : Bool) → nat_lt (next + j) next ≡ b → (if b then image (next + j) else Some (sector_of s ((next + j) - next))) ≡ Some (sector_of s j)
    by_test false is = ap (λ (n : ℕ). Some (sector_of s n)) back
    by_test true is = let low = ltb-true (next + j) next is in absurd (omega (arith, low))

pub laid_below : (next : ℕ) (ss : List (List ℕ)) (image : Image) (n : ℕ) → n < next → laid next ss image n ≡ image n
laid_below next [] image n low = refl
laid_below next (s ∷ ss) image n low = laid_below (next + sector_count (length s)) ss (with_stream next s image) n (omega (arith, low)) ∙ stream_below next s image n low

-- the first stream is not overwritten
first_holds : (next : ℕ) (s : List ℕ) (ss : List (List ℕ)) (image : Image) → Holds (laid next (s ∷ ss) image) next s
unfolding Holds
first_holds next s ss image j low =
    laid_below (next + sector_count (length s)) ss (with_stream next s image) (next + j) (omega (arith, low)) ∙ stream_above next s image j

pub laid_holds : (next : ℕ) (ss : List (List ℕ)) (image : Image) (i n : ℕ) (s : List ℕ) → slice_get (starts_from next ss) i ≡ Some n → slice_get ss i ≡ Some s → bytes_at (laid next ss image) n (length s) ≡ Some s
laid_holds next [] image i n s at is = absurd (cc is)
laid_holds next (x ∷ xs) image zero n s at is =
    let same : x ≡ s = cc is in
    let here : next ≡ n = cc at in
    let holds = read_back (laid next (x ∷ xs) image) next x (first_holds next x xs image) in
    subst (λ (k : ℕ). bytes_at (laid next (x ∷ xs) image) k (length s) ≡ Some s) here (subst (λ (y : List ℕ). bytes_at (laid next (x ∷ xs) image) next (length y) ≡ Some y) same holds)
laid_holds next (x ∷ xs) image (suc i) n s at is = laid_holds (next + sector_count (length x)) xs (with_stream next x image) i n s at is

-- ---- their segments

pub new_holds : (next : ℕ) (ss : List (List ℕ)) (counts : List ℕ) (image : Image) → length ss ≡ length counts → HoldsStreams (laid next ss image) (placed_segments One (places_from next ss) ss counts) ss counts
new_holds next [] counts image same = refl
new_holds next (s ∷ ss) [] image same = absurd (omega (arith, same))
new_holds next (s ∷ ss) (n ∷ ns) image same =
    (read_back (laid next (s ∷ ss) image) next s (first_holds next s ss image), refl, refl, new_holds (next + sector_count (length s)) ss ns (with_stream next s image) (omega (arith, same)))

new_test : (from : ℕ) (s : Segment) → from ≤ s.place.run.start → has_place from s ≡ false
new_test from s high = by_test (nat_lt s.place.run.start from) refl
  where
    by_test : (b : Bool) → nat_lt s.place.run.start from ≡ b → b ≡ false
    by_test false is = refl
    by_test true is = let low = ltb-true s.place.run.start from is in absurd (omega (arith, high, low))

-- none of them has its place
pub none_placed : (from next : ℕ) (ss : List (List ℕ)) (counts : List ℕ) → from ≤ next → placed_in from (placed_segments One (places_from next ss) ss counts) ≡ []
none_placed from next [] counts low = refl
none_placed from next (s ∷ ss) [] low = refl
none_placed from next (s ∷ ss) (n ∷ ns) low =
    let g : Segment = record { place = record { run = record { start = next; count = sector_count (length s) }; bytes = length s }; rows = n; digest = None } in
    let later = next + sector_count (length s) in
    let rest = placed_segments One (places_from later ss) ss ns in
    ap (λ (b : Bool). if b then g ∷ placed_in from rest else placed_in from rest) (new_test from g low) ∙ none_placed from later ss ns (omega (arith, low))

pub all_new : (from next : ℕ) (ss : List (List ℕ)) (counts : List ℕ) → from ≤ next → new_in from (placed_segments One (places_from next ss) ss counts) ≡ placed_segments One (places_from next ss) ss counts
all_new from next [] counts low = refl
all_new from next (s ∷ ss) [] low = refl
all_new from next (s ∷ ss) (n ∷ ns) low =
    let g : Segment = record { place = record { run = record { start = next; count = sector_count (length s) }; bytes = length s }; rows = n; digest = None } in
    let later = next + sector_count (length s) in
    let rest = placed_segments One (places_from later ss) ss ns in
    ap (λ (b : Bool). if not b then g ∷ new_in from rest else new_in from rest) (new_test from g low) ∙ ap (λ (gs : List Segment). g ∷ gs) (all_new from later ss ns (omega (arith, low)))

-- each has its stream
abbrev pub HaveStreams : (starts : List ℕ) → (streams : List (List ℕ)) → List Segment → Type 0
HaveStreams starts streams gs = AllByRecursion (HasStream starts streams) gs

has_behind : (n : ℕ) (ns : List ℕ) (s : List ℕ) (ss : List (List ℕ)) (gs : List Segment) → HaveStreams ns ss gs → HaveStreams (n ∷ ns) (s ∷ ss) gs
has_behind n ns s ss [] has = tt
has_behind n ns s ss (g ∷ gs) has =
    (record { place = suc has.0.place; starts_at = has.0.starts_at; stream = has.0.stream; is = has.0.is; size = has.0.size; bare = has.0.bare }, has_behind n ns s ss gs has.1)

own_streams : (next : ℕ) (ss : List (List ℕ)) (counts : List ℕ) → HaveStreams (starts_from next ss) ss (placed_segments One (places_from next ss) ss counts)
own_streams next [] counts = tt
own_streams next (s ∷ ss) [] = tt
own_streams next (s ∷ ss) (n ∷ ns) =
    let later = next + sector_count (length s) in
    (record { place = 0; starts_at = refl; stream = s; is = refl; size = refl; bare = refl }, has_behind next (starts_from later ss) s ss (placed_segments One (places_from later ss) ss ns) (own_streams later ss ns))

-- also among streams behind others
pub new_have : (from : ℕ) (a ss : List (List ℕ)) (counts : List ℕ) → HaveStreams (starts_from from (a ++ ss)) (a ++ ss) (placed_segments One (places_from (end_of from a) ss) ss counts)
new_have from [] ss counts = own_streams from ss counts
new_have from (x ∷ xs) ss counts =
    let later = from + sector_count (length x) in
    has_behind from (starts_from later (xs ++ ss)) x (xs ++ ss) (placed_segments One (places_from (end_of later xs) ss) ss counts) (new_have later xs ss counts)

get_front : {A : Type 0} (xs ys : List A) (i : ℕ) (x : A) → slice_get xs i ≡ Some x → slice_get (xs ++ ys) i ≡ Some x
get_front [] ys i x is = absurd (cc is)
get_front (y ∷ xs) ys zero x is = is
get_front (y ∷ xs) ys (suc i) x is = get_front xs ys i x is

pub still_have : (starts more : List ℕ) (streams others : List (List ℕ)) (gs : List Segment) → HaveStreams starts streams gs → HaveStreams (starts ++ more) (streams ++ others) gs
still_have starts more streams others [] has = tt
still_have starts more streams others (g ∷ gs) has = (
  record {
    place = has.0.place;
    starts_at = get_front starts more has.0.place g.place.run.start has.0.starts_at;
    stream = has.0.stream;
    is = get_front streams others has.0.place has.0.stream has.0.is;
    size = has.0.size;
    bare = has.0.bare;
  },
  still_have starts more streams others gs has.1,
)

-- they may stand in a catalogue
pub new_sound : (next : ℕ) (ss : List (List ℕ)) (counts : List ℕ) → end_of next ss < 2 ^ 64 → AllByRecursion IsStream ss → list_all (is_between 1 MAX_SEGMENT_ROWS) counts ≡ true
    → list_all is_segment (placed_segments One (places_from next ss) ss counts) ≡ true
new_sound next [] counts limit are rows = refl
new_sound next (s ∷ ss) [] limit are rows = refl
new_sound next (s ∷ ss) (n ∷ ns) limit are rows =
    let later = next + sector_count (length s) in
    let behind = end_on later ss in
    let g : Segment = record { place = record { run = record { start = next; count = sector_count (length s) }; bytes = length s }; rows = n; digest = None } in
    let parts = and_parts (is_between 1 MAX_SEGMENT_ROWS n) (list_all (is_between 1 MAX_SEGMENT_ROWS) ns) rows in
    and_from (is_segment g) (list_all is_segment (placed_segments One (places_from later ss) ss ns)) (segment_is g (omega (arith, behind, limit)) are.0.1 are.0.0 refl parts.0 refl)
    (new_sound later ss ns limit are.1 parts.1)
