-- A changed catalogue is a catalogue.
use Rattle.std.proofs.Common.{◌≡◌, ◌≤◌, ◌+◌, ◌++◌, ℕ, Bool, true, List, [], ◌∷◌, length, take, drop, take-append-drop, Option, Some, None, refl, sym, ap, subst, ◌∙◌, arith}
use Rattle.std.specs.List.{list_all}
use Rattle.std.specs.Str.{bytes_eq}
use Rattle.std.proofs.lemmas.Bool.{cond-false, cond_both, and_parts, and_from}
use Rattle.std.proofs.lemmas.List.{length-append, length-map}
use Rattle.std.proofs.lemmas.List.Folds.{list_all-append}
use Rattle.catalogue.specs.declared.limits.TheConstants.{MAX_TABLES, MAX_SEGMENTS}
use Rattle.catalogue.specs.declared.entry.Segment.{Segment}
use Rattle.catalogue.specs.Entries.{PlainEntry, PlainCatalogue, is_name, is_segment, is_entry, names_of, ascends, segment_count, is_catalogue, IsCatalogue}
use Rattle.catalogue.specs.Edits.{entry_of, with_entry, without, named, renamed, with_segments, with_more, from_place, with_others, with_exchanged}
use Rattle.catalogue.specs.laws.Kept.{entry_is, entry_stands, passes_catalogue, catalogue_is}
use Rattle.catalogue.specs.laws.Order.{by_found, none_found, with_rises, with_all, without_rises, without_all}
use Rattle.catalogue.specs.laws.Sums.{refilled, put_most, taken_out, without_least, refilled_sum, one, number, segments_in}

-- ---- put

pub put_stands : (c : PlainCatalogue) (e : PlainEntry) → is_catalogue c ≡ true → is_entry e ≡ true → length (with_entry c e) ≤ MAX_TABLES → segment_count (with_entry c e) ≤ MAX_SEGMENTS → is_catalogue (with_entry c e) ≡ true
put_stands c e kept entry tables most =
    let k = catalogue_is c kept in
    passes_catalogue (with_entry c e) (record { entries = with_all is_entry c e k.entries entry; order = with_rises c e k.order; tables = tables; segments = most })

-- ---- remove

pub removed_stands : (c : PlainCatalogue) (name : List ℕ) → is_catalogue c ≡ true → is_catalogue (without c name) ≡ true
removed_stands c name kept =
    let k = catalogue_is c kept in
    let tables = k.tables in
    let segments = k.segments in
    passes_catalogue (without c name) (record {
      entries = without_all is_entry c name k.entries;
      order = without_rises c name k.order;
      tables = omega (arith, tables, without_least one c name, number c, number (without c name));
      segments = omega (arith, segments, without_least segments_in c name);
    })

-- a name that is not there is not there after a removal either
pub none_without : (c : PlainCatalogue) (other name : List ℕ) → entry_of c name ≡ None → entry_of (without c other) name ≡ None
none_without [] other name h = refl
none_without (x ∷ xs) other name h =
    let parts = none_found x xs name h in
    cond_both (bytes_eq x.name other) xs (x ∷ without xs other) (λ d. entry_of d name ≡ None) (λ _. parts.1)
    (λ _. cond-false (bytes_eq x.name name) (Some x) (entry_of (without xs other) name) parts.0 ∙ none_without xs other name parts.1)

-- ---- rename

pub found_passes : (p : PlainEntry → Bool) (c : PlainCatalogue) (name : List ℕ) (e : PlainEntry) → list_all p c ≡ true → entry_of c name ≡ Some e → p e ≡ true
found_passes p [] name e all h = absurd cc
found_passes p (x ∷ xs) name e all h =
    let parts = and_parts (p x) (list_all p xs) all in
    by_found x xs name e h (λ t stands. subst (λ y. p y ≡ true) stands parts.0) (λ f there. found_passes p xs name e parts.1 there)

-- the result of renaming an entry that is there
pub renamed_is : (c : PlainCatalogue) (from to : List ℕ) (e : PlainEntry) → entry_of c from ≡ Some e → renamed c from to ≡ with_entry (without c from) (named to e)
renamed_is c from to e h = ap (λ (o : Option PlainEntry). elim o [ None ↦ c | Some x ↦ with_entry (without c from) (named to x) ]) h

pub renamed_none : (c : PlainCatalogue) (from to : List ℕ) → entry_of c from ≡ None → renamed c from to ≡ c
renamed_none c from to h = ap (λ (o : Option PlainEntry). elim o [ None ↦ c | Some x ↦ with_entry (without c from) (named to x) ]) h

pub renamed_stands : (c : PlainCatalogue) (from to : List ℕ) (e : PlainEntry) → is_catalogue c ≡ true → is_name to ≡ true → entry_of c from ≡ Some e → is_catalogue (with_entry (without c from) (named to e)) ≡ true
renamed_stands c from to e kept name found =
    let k = catalogue_is c kept in
    let stood = entry_is e (found_passes is_entry c from e k.entries found) in
    let left = without c from in
    let tables = k.tables in
    let segments = k.segments in
    passes_catalogue (with_entry left (named to e)) (record {
      entries = with_all is_entry left (named to e) (without_all is_entry c from k.entries) (entry_stands (named to e) name stood.schema stood.segments stood.page);
      order = with_rises left (named to e) (without_rises c from k.order);
      tables = omega (arith, put_most one left (named to e), taken_out one c from e found, number c, number (with_entry left (named to e)), tables);
      segments = omega (arith, put_most segments_in left (named to e), taken_out segments_in c from e found, segments);
    })

-- ---- append

-- other segments for an entry change no name
pub same_names : (c : PlainCatalogue) (name : List ℕ) (segments : List Segment) → names_of (with_segments c name segments) ≡ names_of c
same_names [] name segments = refl
same_names (x ∷ xs) name segments =
    cond_both (bytes_eq x.name name) (refilled x segments ∷ xs) (x ∷ with_segments xs name segments) (λ d. names_of d ≡ names_of (x ∷ xs)) (λ _. refl) (λ _. ap (λ ns. x.name ∷ ns) (same_names xs name segments))

-- a property of all entries still holds, if an entry keeps it with these segments
pub refilled_all : (p : PlainEntry → Bool) (c : PlainCatalogue) (name : List ℕ) (segments : List Segment) → ((e : PlainEntry) → p e ≡ true → p (refilled e segments) ≡ true) → list_all p c ≡ true → list_all p (with_segments c name segments) ≡ true
refilled_all p [] name segments alike all = refl
refilled_all p (x ∷ xs) name segments alike all =
    let parts = and_parts (p x) (list_all p xs) all in
    cond_both (bytes_eq x.name name) (refilled x segments ∷ xs) (x ∷ with_segments xs name segments) (λ d. list_all p d ≡ true) (λ _. and_from (p (refilled x segments)) (list_all p xs) (alike x parts.0) parts.1)
    (λ _. and_from (p x) (list_all p (with_segments xs name segments)) parts.0 (refilled_all p xs name segments alike parts.1))

-- the result of appending at least one segment to an entry that is there
pub more_is : (c : PlainCatalogue) (name : List ℕ) (e : PlainEntry) (s : Segment) (more : List Segment) → entry_of c name ≡ Some e → with_more c name (s ∷ more) ≡ with_segments c name (e.segments ++ s ∷ more)
more_is c name e s more h = ap (λ (o : Option PlainEntry). elim o [ None ↦ c | Some x ↦ with_segments c name (x.segments ++ s ∷ more) ]) h

pub more_none : (c : PlainCatalogue) (name : List ℕ) (more : List Segment) → entry_of c name ≡ None → with_more c name more ≡ c
more_none c name [] h = refl
more_none c name (s ∷ more) h = ap (λ (o : Option PlainEntry). elim o [ None ↦ c | Some x ↦ with_segments c name (x.segments ++ s ∷ more) ]) h

-- a catalogue whose table gets other segments is a catalogue
pub refilled_stands : (c : PlainCatalogue) (name : List ℕ) (e : PlainEntry) (segments : List Segment) → is_catalogue c ≡ true → entry_of c name ≡ Some e → list_all is_segment segments ≡ true
    → segment_count (with_segments c name segments) ≤ MAX_SEGMENTS → is_catalogue (with_segments c name segments) ≡ true
refilled_stands c name e segments kept found all most =
    let k = catalogue_is c kept in
    let d = with_segments c name segments in
    let size : length d ≡ length c = sym (length-map d (λ (x : PlainEntry). x.name)) ∙ ap (λ (ns : List (List ℕ)). length ns) (same_names c name segments) ∙ length-map c (λ (x : PlainEntry). x.name) in
    let tables = k.tables in
    passes_catalogue d (record {
      entries = refilled_all is_entry c name segments (λ x is. let s = entry_is x is in entry_stands (refilled x segments) s.name s.schema all refl) k.entries;
      order = ap ascends (same_names c name segments) ∙ k.order;
      tables = omega (arith, size, tables);
      segments = most;
    })

pub more_stands : (c : PlainCatalogue) (name : List ℕ) (e : PlainEntry) (more : List Segment) → is_catalogue c ≡ true → entry_of c name ≡ Some e → list_all is_segment more ≡ true → segment_count c + length more ≤ MAX_SEGMENTS
    → is_catalogue (with_more c name more) ≡ true
more_stands c name e [] kept found each most = kept
more_stands c name e (s ∷ ss) kept found each most =
    let more : List Segment = s ∷ ss in
    let k = catalogue_is c kept in
    let sum = refilled_sum segments_in c name e (e.segments ++ more) found in
    let len = length-append e.segments more in
    let stood = entry_is e (found_passes is_entry c name e k.entries found) in
    let all : list_all is_segment (e.segments ++ more) ≡ true = list_all-append is_segment e.segments more ∙ and_from (list_all is_segment e.segments) (list_all is_segment more) stood.segments each in
    ap is_catalogue (more_is c name e s ss found) ∙ refilled_stands c name e (e.segments ++ more) kept found all (omega (arith, sum, len, most))

-- ---- exchange

-- segments in three parts
pub parted : (segments : List Segment) (place count : ℕ) → segments ≡ take place segments ++ (from_place segments place count ++ drop count (drop place segments))
parted segments place count = sym (ap (λ (ss : List Segment). take place segments ++ ss) (take-append-drop count (drop place segments)) ∙ take-append-drop place segments)

-- if all segments and all replacements pass, so do those after the exchange
others_pass : (segments : List Segment) (place count : ℕ) (others : List Segment) → list_all is_segment segments ≡ true → list_all is_segment others ≡ true → list_all is_segment (with_others segments place count others) ≡ true
others_pass segments place count others all each =
    let front = take place segments in
    let gone = from_place segments place count in
    let rest = drop count (drop place segments) in
    let whole = sym (list_all-append is_segment front (gone ++ rest)) ∙ ap (list_all is_segment) (sym (parted segments place count)) ∙ all in
    let first = and_parts (list_all is_segment front) (list_all is_segment (gone ++ rest)) whole in
    let last = and_parts (list_all is_segment gone) (list_all is_segment rest) (sym (list_all-append is_segment gone rest) ∙ first.1) in
    list_all-append is_segment front (others ++ rest)
    ∙ and_from (list_all is_segment front) (list_all is_segment (others ++ rest)) first.0
    (list_all-append is_segment others rest ∙ and_from (list_all is_segment others) (list_all is_segment rest) each last.1)

pub exchanged_none : (c : PlainCatalogue) (name : List ℕ) (place count : ℕ) (others : List Segment) → entry_of c name ≡ None → with_exchanged c name place count others ≡ c
exchanged_none c name place count others h = ap (λ (o : Option PlainEntry). elim o [ None ↦ c | Some x ↦ with_segments c name (with_others x.segments place count others) ]) h

module _ (c : PlainCatalogue) (name : List ℕ) (e : PlainEntry) (found : entry_of c name ≡ Some e) (place count : ℕ) where
  -- the result of an exchange in an entry that is there
  pub exchanged_is : (others : List Segment) → with_exchanged c name place count others ≡ with_segments c name (with_others e.segments place count others)
  exchanged_is others = ap (λ (o : Option PlainEntry). elim o [ None ↦ c | Some x ↦ with_segments c name (with_others x.segments place count others) ]) found

  pub exchanged_stands : (others : List Segment) → IsCatalogue c → list_all is_segment others ≡ true → segment_count (with_exchanged c name place count others) ≤ MAX_SEGMENTS
      → IsCatalogue (with_exchanged c name place count others)
  exchanged_stands others k each most =
      let stood = entry_is e (found_passes is_entry c name e k.entries found) in
      subst IsCatalogue (sym (exchanged_is others))
      (catalogue_is (with_segments c name (with_others e.segments place count others))
      (refilled_stands c name e (with_others e.segments place count others) (passes_catalogue c k) found (others_pass e.segments place count others stood.segments each)
      (subst (λ (d : PlainCatalogue). segment_count d ≤ MAX_SEGMENTS) (exchanged_is others) most)))
