-- Tables that are read one after another stand as a catalogue.
use Rattle.std.proofs.Common.{◌≡◌, ◌≤◌, ◌<◌, ◌+◌, ◌-◌, ◌++◌, ℕ, zero, suc, Bool, true, List, [], ◌∷◌, length, map, take, get_or, Some, refl, sym, ap, ◌∙◌, arith}
use Rattle.std.specs.List.{list_all, sum_by}
use Rattle.std.proofs.lemmas.Bool.{and_parts, and_from}
use Rattle.std.proofs.lemmas.List.{map-append, length-map, take_all, take_more}
use Rattle.std.proofs.lemmas.List.Folds.{list_all-append}
use Rattle.std.proofs.lemmas.List.Sums.{sum_by-cons, sum_by-append}
use Rattle.catalogue.specs.declared.limits.TheConstants.{MAX_SEGMENTS}
use Rattle.catalogue.specs.declared.entry.TableEntry.{TableEntry}
use Rattle.catalogue.specs.declared.entry.RootEntry.{RootEntry}
use Rattle.catalogue.specs.declared.entry.SegmentForm.{SegmentForm}
use Rattle.catalogue.specs.Entries.{PlainEntry, PlainRoot, plain_entry, plain_root, is_name, is_entry, names_of, ascends, root_names, segment_count, is_catalogue, has_digests, has_form}
use Rattle.catalogue.specs.Reading.{entry_from}
use Rattle.catalogue.specs.laws.Kept.{passes_catalogue}
use Rattle.pages.specs.Stored.{AreTables}

pub named_at : (rs : List RootEntry) (i : ℕ) (d : RootEntry) → list_all (λ (r : PlainRoot). is_name r.name) (map plain_root rs) ≡ true → i < length rs → is_name (plain_root (get_or rs i d)).name ≡ true
named_at [] i d all lt = absurd (omega (arith, lt))
named_at (r ∷ rs) zero d all lt = (and_parts (is_name (plain_root r).name) (list_all (λ (s : PlainRoot). is_name s.name) (map plain_root rs)) all).0
named_at (r ∷ rs) (suc i) d all lt = named_at rs i d (and_parts (is_name (plain_root r).name) (list_all (λ (s : PlainRoot). is_name s.name) (map plain_root rs)) all).1 (omega (arith, lt))

pub one_sound : (es fs : List TableEntry) (e : TableEntry) → fs ≡ es ++ e ∷ [] → list_all is_entry (map plain_entry es) ≡ true → is_entry (plain_entry e) ≡ true → list_all is_entry (map plain_entry fs) ≡ true
one_sound es fs e more all here =
    ap (λ (xs : List TableEntry). list_all is_entry (map plain_entry xs)) more ∙ ap (list_all is_entry) (map-append plain_entry es (e ∷ [])) ∙ list_all-append is_entry (map plain_entry es) (plain_entry e ∷ [])
    ∙ and_from (list_all is_entry (map plain_entry es)) (list_all is_entry (plain_entry e ∷ [])) all (and_from (is_entry (plain_entry e)) true here refl)

pub one_formed : (form : SegmentForm) (es fs : List TableEntry) (e : TableEntry) → fs ≡ es ++ e ∷ [] → has_form form (map plain_entry es) ≡ true
    → has_digests form (plain_entry e).segments ≡ true → has_form form (map plain_entry fs) ≡ true
one_formed form es fs e more all here =
    let has : PlainEntry → Bool = λ x. has_digests form x.segments in
    ap (λ (xs : List TableEntry). list_all has (map plain_entry xs)) more ∙ ap (list_all has) (map-append plain_entry es (e ∷ []))
    ∙ list_all-append has (map plain_entry es) (plain_entry e ∷ [])
    ∙ and_from (list_all has (map plain_entry es)) (list_all has (plain_entry e ∷ [])) all (and_from (has (plain_entry e)) true here refl)

pub one_named : (rs : List RootEntry) (i : ℕ) (d : RootEntry) (es fs : List TableEntry) (e : TableEntry) → i < length rs → fs ≡ es ++ e ∷ []
    → plain_entry e ≡ entry_from (plain_root (get_or rs i d)).name (Some (get_or rs i d).page) ((plain_entry e).schema, (plain_entry e).segments) → names_of (map plain_entry es) ≡ root_names (map plain_root (take i rs))
    → names_of (map plain_entry fs) ≡ root_names (map plain_root (take (i + 1) rs))
one_named rs i d es fs e lt more entry so_far =
    let name : (plain_entry e).name ≡ (plain_root (get_or rs i d)).name = ap (λ (y : PlainEntry). y.name) entry in
    ap (λ (xs : List TableEntry). names_of (map plain_entry xs)) more ∙ ap names_of (map-append plain_entry es (e ∷ [])) ∙ map-append (λ (y : PlainEntry). y.name) (map plain_entry es) (plain_entry e ∷ [])
    ∙ (λ k. so_far k ++ name k ∷ [])
    ∙ sym (ap (λ (ys : List RootEntry). root_names (map plain_root ys)) (take_more rs i d lt) ∙ ap root_names (map-append plain_root (take i rs) (get_or rs i d ∷ []))
    ∙ map-append (λ (r : PlainRoot). r.name) (map plain_root (take i rs)) (plain_root (get_or rs i d) ∷ []))

pub one_counted : (es fs : List TableEntry) (e : TableEntry) (left count : ℕ) → fs ≡ es ++ e ∷ [] → length (plain_entry e).segments ≡ count → length (plain_entry e).segments ≤ left → segment_count (map plain_entry es) + left ≡ MAX_SEGMENTS
    → segment_count (map plain_entry fs) + (left - count) ≡ MAX_SEGMENTS
one_counted es fs e left count more len few so_far =
    let size : PlainEntry → ℕ = λ x. length x.segments in
    let all : segment_count (map plain_entry fs) ≡ sum_by size (map plain_entry es ++ plain_entry e ∷ []) = ap (λ (xs : List TableEntry). segment_count (map plain_entry xs)) more ∙ ap (sum_by size) (map-append plain_entry es (e ∷ [])) in
    omega (arith, all, sum_by-append size (map plain_entry es) (plain_entry e ∷ []), sum_by-cons size (plain_entry e) [], len, few, so_far)

pub all_sound : (rs : List RootEntry) (i : ℕ) (es : List TableEntry) (left : ℕ) → length rs ≤ i → AreTables (map plain_root rs) → list_all is_entry (map plain_entry es) ≡ true → names_of (map plain_entry es) ≡ root_names (map plain_root (take i rs))
    → segment_count (map plain_entry es) + left ≡ MAX_SEGMENTS → is_catalogue (map plain_entry es) ≡ true
all_sound rs i es left past are all names few =
    let same : names_of (map plain_entry es) ≡ root_names (map plain_root rs) = names ∙ ap (λ (ys : List RootEntry). root_names (map plain_root ys)) (take_all i rs past) in
    let tables = are.tables in
    let number : length (names_of (map plain_entry es)) ≡ length (root_names (map plain_root rs)) = ap (λ (ns : List (List ℕ)). length ns) same in
    passes_catalogue (map plain_entry es) (record {
      entries = all;
      order = ap ascends same ∙ are.order;
      tables = omega (arith, number, tables, length-map (map plain_entry es) (λ (x : PlainEntry). x.name), length-map (map plain_root rs) (λ (r : PlainRoot). r.name));
      segments = omega (arith, few);
    })
