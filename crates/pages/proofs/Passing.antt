-- Tables of a catalogue that are gone over one after another.
use Rattle.std.proofs.Common.{◌≡◌, ◌≤◌, ◌<◌, ◌+◌, ◌++◌, ℕ, zero, suc, true, List, [], ◌∷◌, length, take, map, get_or, sym, ap, subst, ◌∙◌, arith}
use Rattle.std.specs.List.{list_all, sum_by}
use Rattle.std.proofs.lemmas.Bool.{and_parts, leb-true}
use Rattle.std.proofs.lemmas.List.{map-append, take-append-drop}
use Rattle.std.proofs.lemmas.List.Sums.{sum_by-cons, sum_by-append}
use Rattle.facts.specs.laws.Lists.{take-item}
use Rattle.std.proofs.Common.{drop}
use Rattle.catalogue.specs.declared.entry.TableEntry.{TableEntry}
use Rattle.catalogue.specs.declared.limits.TheConstants.{MAX_NAME_BYTES}
use Rattle.catalogue.specs.Entries.{PlainEntry, PlainCatalogue, plain_entry, is_between, is_name_byte, is_entry, segment_count, IsCatalogue}
use Rattle.catalogue.specs.laws.Kept.{entry_is}

-- what is known of each
pub record StandsAt (x : TableEntry) : Type 0 where
  pub sound : is_entry (plain_entry x) ≡ true
  pub few : length (plain_entry x).segments ≤ 65536
  pub short : length (plain_entry x).name ≤ 64

entry_at : (es : List TableEntry) (i : ℕ) (x : TableEntry) → list_all is_entry (map plain_entry es) ≡ true → segment_count (map plain_entry es) ≤ 65536 → i < length es → x ≡ get_or es i x → StandsAt x
entry_at [] i x all few lt is = absurd (omega arith)
entry_at (e ∷ es) zero x all few lt is =
    let parts = and_parts (is_entry (plain_entry e)) (list_all is_entry (map plain_entry es)) all in
    let name = (entry_is (plain_entry e) parts.0).name in
    let short = and_parts (is_between 1 MAX_NAME_BYTES (length (plain_entry e).name)) (list_all is_name_byte (plain_entry e).name) name in
    subst (λ (y : TableEntry). StandsAt y) (sym is) (record {
      sound = parts.0;
      few = omega (arith, few, sum_by-cons (λ (d : PlainEntry). length d.segments) (plain_entry e) (map plain_entry es));
      short = leb-true _ _ (and_parts _ _ short.0).1;
    })
entry_at (e ∷ es) (suc i) x all few lt is =
    let parts = and_parts (is_entry (plain_entry e)) (list_all is_entry (map plain_entry es)) all in
    entry_at es i x parts.1 (omega (arith, few, sum_by-cons (λ (d : PlainEntry). length d.segments) (plain_entry e) (map plain_entry es))) (omega arith) is

pub stands_at : (es : List TableEntry) (i : ℕ) (x : TableEntry) (c : PlainCatalogue) → map plain_entry es ≡ c → IsCatalogue c → i < length es → x ≡ get_or es i x → StandsAt x
stands_at es i x c same k lt is = entry_at es i x (ap (list_all is_entry) same ∙ k.entries) (subst (λ (d : PlainCatalogue). segment_count d ≤ 65536) (sym same) k.segments) lt is

-- the tables so far, and the next one
pub next_item : (es : List TableEntry) (i : ℕ) (x : TableEntry) → i < length es → x ≡ get_or es i x → map plain_entry (take (i + 1) es) ≡ map plain_entry (take i es) ++ plain_entry x ∷ []
next_item es i x lt is = ap (map plain_entry) (take-item es i x lt is) ∙ map-append plain_entry (take i es) (x ∷ [])

pub next_sum : (f : PlainEntry → ℕ) (es : List TableEntry) (i : ℕ) (x : TableEntry) → i < length es → x ≡ get_or es i x → sum_by f (map plain_entry (take (i + 1) es)) ≡ sum_by f (map plain_entry (take i es)) + f (plain_entry x)
next_sum f es i x lt is =
    let both = ap (sum_by f) (next_item es i x lt is) in
    omega (arith, both, sum_by-append f (map plain_entry (take i es)) (plain_entry x ∷ []), sum_by-cons f (plain_entry x) [])

pub part_sum : (f : PlainEntry → ℕ) (es : List TableEntry) (i : ℕ) → sum_by f (map plain_entry (take i es)) ≤ sum_by f (map plain_entry es)
part_sum f es i =
    let whole = ap (λ (xs : List TableEntry). sum_by f (map plain_entry xs)) (sym (take-append-drop i es)) ∙ ap (sum_by f) (map-append plain_entry (take i es) (drop i es)) in
    omega (arith, whole, sum_by-append f (map plain_entry (take i es)) (map plain_entry (drop i es)))
