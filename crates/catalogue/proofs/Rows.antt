-- Rows, segments and runs of entries that are gone over one after another.
use Rattle.std.proofs.Common.{◌≡◌, ◌≤◌, ◌<◌, ◌+◌, ◌*◌, ◌^◌, ◌++◌, leb, ℕ, zero, suc, true, List, [], ◌∷◌, length, get_or, take, map, append-nil, append_assoc, sym, ap, subst, ◌∙◌, arith}
use Rattle.std.specs.List.{list_all, sum_by}
use Rattle.std.proofs.lemmas.Bool.{and_parts, leb-true}
use Rattle.std.proofs.lemmas.List.{length-map, map-append, take-map, take_more}
use Rattle.std.proofs.lemmas.Grind.{flat_map-append}
use Rattle.std.proofs.lemmas.List.Sums.{sum_by-cons, sum_by_more_le}
use Rattle.facts.specs.laws.Lists.{take-item}
use Rattle.catalogue.specs.declared.entry.Segment.{Segment}
use Rattle.catalogue.specs.declared.entry.TableEntry.{TableEntry}
use Rattle.catalogue.specs.declared.limits.TheConstants.{MAX_SEGMENT_ROWS}
use Rattle.catalogue.specs.Entries.{PlainEntry, PlainCatalogue, plain_entry, is_segment, is_entry, row_count, runs_in, runs_of, segment_count, is_catalogue}
use Rattle.catalogue.specs.laws.Kept.{segment_is, entry_is, catalogue_is}
use Rattle.catalogue.proofs.Standing.{map_at}

few_rows : (s : Segment) → is_segment s ≡ true → s.rows ≤ 4096
few_rows s h =
    leb-true _ _ (and_parts (leb 1 s.rows) (leb s.rows MAX_SEGMENT_ROWS) (segment_is s h).rows).1

pub rows_le : (ss : List Segment) → list_all is_segment ss ≡ true → sum_by (λ (s : Segment). s.rows) ss ≤ 4096 * length ss
rows_le [] all = omega arith
rows_le (s ∷ ss) all =
    let parts = and_parts (is_segment s) (list_all is_segment ss) all in
    omega (arith, sum_by-cons (λ (x : Segment). x.rows) s ss, few_rows s parts.0, rows_le ss parts.1)

pub passes_at : (c : PlainCatalogue) (k : ℕ) (d : PlainEntry) → list_all is_entry c ≡ true → k < length c → is_entry (get_or c k d) ≡ true
passes_at [] k d all lt = absurd (omega arith)
passes_at (x ∷ xs) zero d all lt = (and_parts (is_entry x) (list_all is_entry xs) all).0
passes_at (x ∷ xs) (suc k) d all lt = passes_at xs k d (and_parts (is_entry x) (list_all is_entry xs) all).1 (omega arith)

-- the segments so far and those of the next entry are among all
pub counted_within : (es : List TableEntry) (i : ℕ) (x : TableEntry) → i < length es → x ≡ get_or es i x → segment_count (map plain_entry (take i es)) + length (plain_entry x).segments ≤ segment_count (map plain_entry es)
counted_within es i x lt is =
    let count : PlainEntry → ℕ = λ e. length e.segments in
    let whole : sum_by count (take i (map plain_entry es)) + count (get_or (map plain_entry es) i (plain_entry x)) ≤ sum_by count (map plain_entry es) =
    sum_by_more_le count (map plain_entry es) i (plain_entry x) (let len = length-map es plain_entry in omega arith) in
    let here : count (get_or (map plain_entry es) i (plain_entry x)) ≡ length (plain_entry x).segments = ap count (map_at plain_entry es i x) ∙ ap (λ (e : TableEntry). length (plain_entry e).segments) (sym is) in
    let front : sum_by count (take i (map plain_entry es)) ≡ segment_count (map plain_entry (take i es)) = ap (sum_by count) (take-map plain_entry i es) in
    omega (arith, whole, here, front)

pub few_segments : (es : List TableEntry) → is_catalogue (map plain_entry es) ≡ true → segment_count (map plain_entry es) ≤ 65536
few_segments es kept = (catalogue_is (map plain_entry es) kept).segments

-- the rows of an entry of a catalogue
pub rows_fit : (es : List TableEntry) (i : ℕ) (x : TableEntry) → is_catalogue (map plain_entry es) ≡ true → i < length es → x ≡ get_or es i x → row_count (plain_entry x) < 2 ^ 64
rows_fit es i x kept lt is =
    let k = catalogue_is (map plain_entry es) kept in
    let within : i < length (map plain_entry es) = let len = length-map es plain_entry in omega arith in
    let at : get_or (map plain_entry es) i (plain_entry x) ≡ plain_entry x = map_at plain_entry es i x ∙ ap plain_entry (sym is) in
    let stood = entry_is (plain_entry x) (subst (λ e. is_entry e ≡ true) at (passes_at (map plain_entry es) i (plain_entry x) k.entries within)) in
    let front = counted_within es i x lt is in
    let most = few_segments es kept in
    omega (arith, rows_le (plain_entry x).segments stood.segments, front, most)

-- the runs so far, and those of the next entry
pub more_runs : (es : List TableEntry) (i : ℕ) (x : TableEntry) → i < length es → x ≡ get_or es i x
    → runs_of (map plain_entry (take i es)) ++ runs_in (plain_entry x) ≡ runs_of (map plain_entry (take (i + 1) es))
more_runs es i x lt is =
    let one : runs_of (plain_entry x ∷ []) ≡ runs_in (plain_entry x) = append-nil (runs_in (plain_entry x)) in
    sym (ap (λ (xs : List TableEntry). runs_of (map plain_entry xs)) (take_more es i x lt)
    ∙ ap (λ (y : TableEntry). runs_of (map plain_entry (take i es ++ y ∷ []))) (sym is)
    ∙ ap runs_of (map-append plain_entry (take i es) (x ∷ []))
    ∙ flat_map-append runs_in (map plain_entry (take i es)) (plain_entry x ∷ [])
    ∙ ap (λ rs. runs_of (map plain_entry (take i es)) ++ rs) one)

-- what was put so far, and the next part
pub next_put : {A : Type 0} (out front so_far all part old new : List A) → new ≡ old ++ part → old ≡ out ++ (front ++ so_far) → all ≡ so_far ++ part → new ≡ out ++ (front ++ all)
next_put out front so_far all part old new e h more =
    e ∙ ap (λ t. t ++ part) h ∙ append_assoc out (front ++ so_far) part ∙ ap (λ t. out ++ t) (append_assoc front so_far part ∙ ap (λ t. front ++ t) (sym more))

-- what is made of the items so far, and of the next one
pub map-item : {X Y : Type 0} (f : X → Y) (xs : List X) (i : ℕ) (x : X) → i < length xs → x ≡ get_or xs i x → map f (take (i + 1) xs) ≡ map f (take i xs) ++ f x ∷ []
map-item f xs i x lt is = ap (map f) (take-item xs i x lt is) ∙ map-append f (take i xs) (x ∷ [])

-- what was made so far is what the items so far are, and one more is
pub next_made : {X Y Z : Type 0} (f : X → Z) (g : Y → Z) (xs : List X) (i : ℕ) (x : X) (old new : List Y) (y : Y) → i < length xs → x ≡ get_or xs i x → new ≡ old ++ y ∷ [] → g y ≡ f x
    → map g old ≡ map f (take i xs) → map g new ≡ map f (take (i + 1) xs)
next_made f g xs i x old new y lt is e same h =
    ap (map g) e ∙ map-append g old (y ∷ []) ∙ ap (λ made. made ++ g y ∷ []) h ∙ ap (λ z. map f (take i xs) ++ z ∷ []) same ∙ sym (map-item f xs i x lt is)

-- what is known of an entry of a catalogue
pub record StandsAt (x : TableEntry) : Type 0 where
  pub sound : is_entry (plain_entry x) ≡ true
  pub few : length (plain_entry x).segments ≤ 65536

pub stands_at : (es : List TableEntry) (i : ℕ) (x : TableEntry) → is_catalogue (map plain_entry es) ≡ true → i < length es → x ≡ get_or es i x → StandsAt x
stands_at es i x kept lt is =
    let k = catalogue_is (map plain_entry es) kept in
    let within : i < length (map plain_entry es) = let len = length-map es plain_entry in omega arith in
    let at : get_or (map plain_entry es) i (plain_entry x) ≡ plain_entry x = map_at plain_entry es i x ∙ ap plain_entry (sym is) in
    let front = counted_within es i x lt is in
    let most = few_segments es kept in
    record { sound = subst (λ e. is_entry e ≡ true) at (passes_at (map plain_entry es) i (plain_entry x) k.entries within); few = omega (arith, front, most) }
