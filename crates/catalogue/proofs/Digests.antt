-- Tables get their digests one after another.
use Rattle.std.proofs.Common.{◌≡◌, ◌≤◌, ◌<◌, ◌+◌, ℕ, zero, suc, List, [], ◌∷◌, ◌++◌, length, get_or, take, drop, map, refl, sym, ap, ◌∙◌, append_assoc, arith}
use Rattle.std.proofs.lemmas.List.{length-map, length-drop, map-append, drop_all, append-nil}
use Rattle.std.proofs.lemmas.List.Sums.{sum_by-cons}
use Rattle.catalogue.specs.declared.entry.TableEntry.{TableEntry}
use Rattle.catalogue.specs.Entries.{PlainEntry, PlainCatalogue, plain_entry, segment_count}
use Rattle.catalogue.specs.Edits.{entry_digested, digested}
use Rattle.catalogue.proofs.Standing.{map_at}

-- one more table has its digests, and so many are left for the others
record HasNext (c : PlainCatalogue) (i : ℕ) (e made : PlainEntry) (ds : List (List ℕ)) : Type 0 where
  pub next : made ∷ digested (drop (suc i) c) (drop (length e.segments) ds) ≡ digested (drop i c) ds
  pub left : segment_count (drop (suc i) c) + length e.segments ≡ segment_count (drop i c)

one_digested : (c : PlainCatalogue) (i : ℕ) (e made : PlainEntry) (ds : List (List ℕ)) → i < length c → e ≡ get_or c i e → made ≡ entry_digested e (take (length e.segments) ds) → HasNext c i e made ds
unfolding digested
one_digested [] i e made ds lt is own = absurd (omega (arith, lt))
one_digested (x ∷ xs) zero e made ds lt is own =
    record {
      next = ap (λ (y : PlainEntry). y ∷ digested xs (drop (length e.segments) ds)) own ∙ ap (λ (y : PlainEntry). entry_digested y (take (length y.segments) ds) ∷ digested xs (drop (length y.segments) ds)) is;
      left = let count = sum_by-cons (λ (y : PlainEntry). length y.segments) x xs in let same : length e.segments ≡ length x.segments = ap (λ (y : PlainEntry). length y.segments) is in omega (arith, count, same);
    }
one_digested (x ∷ xs) (suc i) e made ds lt is own =
    let later = one_digested xs i e made ds (omega (arith, lt)) is own in record { next = later.next; left = later.left }

-- the same of the entries of a loop, which so far has gone up to this one
module _ (items : List TableEntry) (i : ℕ) (x : TableEntry) (rest : List (List ℕ)) (n : ℕ) (lt : i < length items) (is : x ≡ get_or items i x) (count : n ≡ length (plain_entry x).segments) where
  one : (made : PlainEntry) → made ≡ entry_digested (plain_entry x) (take (length (plain_entry x).segments) rest) → HasNext (map plain_entry items) i (plain_entry x) made rest
  one made own =
      one_digested (map plain_entry items) i (plain_entry x) made rest (omega (arith, lt, length-map items plain_entry)) (sym (map_at plain_entry items i x ∙ ap plain_entry (sym is))) own

  pub own_few : segment_count (drop i (map plain_entry items)) ≡ length rest → n ≤ length rest
  own_few left = let here = (one (entry_digested (plain_entry x) (take (length (plain_entry x).segments) rest)) refl).left in omega (arith, here, left, count)

  module _ (y : TableEntry) (front back : List (List ℕ)) (own : front ≡ take n rest) (others : back ≡ drop n rest) (made : plain_entry y ≡ entry_digested (plain_entry x) front) where
    now : HasNext (map plain_entry items) i (plain_entry x) (plain_entry y) rest
    now = one (plain_entry y) (made ∙ ap (entry_digested (plain_entry x)) (own ∙ ap (λ (k : ℕ). take k rest) count))

    next : suc i ≡ i + 1
    next = omega arith

    pub more_left : segment_count (drop i (map plain_entry items)) ≡ length rest → segment_count (drop (i + 1) (map plain_entry items)) ≡ length back
    more_left left =
        let here : segment_count (drop (suc i) (map plain_entry items)) ≡ length back =
        let size = ap (λ (ds : List (List ℕ)). length ds) others in omega (arith, now.left, left, size, count, length-drop n rest) in
        (λ j. segment_count (drop (sym next j) (map plain_entry items))) ∙ here

    pub more_digested : (old new : List TableEntry) (all : PlainCatalogue) → new ≡ old ++ y ∷ [] → map plain_entry old ++ digested (drop i (map plain_entry items)) rest ≡ all
        → map plain_entry new ++ digested (drop (i + 1) (map plain_entry items)) back ≡ all
    more_digested old new all pushed so_far =
        (λ j. map plain_entry (pushed j) ++ digested (drop (sym next j) (map plain_entry items)) (others j))
        ∙ ap (λ (k : ℕ). map plain_entry (old ++ y ∷ []) ++ digested (drop (suc i) (map plain_entry items)) (drop k rest)) count
        ∙ ap (λ (c : PlainCatalogue). c ++ digested (drop (suc i) (map plain_entry items)) (drop (length (plain_entry x).segments) rest)) (map-append plain_entry old (y ∷ []))
        ∙ append_assoc (map plain_entry old) (plain_entry y ∷ []) (digested (drop (suc i) (map plain_entry items)) (drop (length (plain_entry x).segments) rest))
        ∙ ap (λ (c : PlainCatalogue). map plain_entry old ++ c) now.next
        ∙ so_far

pub all_digested : (items all : List TableEntry) (i : ℕ) (rest ds : List (List ℕ)) → length items ≤ i → map plain_entry all ++ digested (drop i (map plain_entry items)) rest ≡ digested (map plain_entry items) ds
    → map plain_entry all ≡ digested (map plain_entry items) ds
unfolding digested
all_digested items all i rest ds past so_far =
    let end : length (map plain_entry items) ≤ i = omega (arith, past, length-map items plain_entry) in
    sym (append-nil (map plain_entry all))
    ∙ (λ j. map plain_entry all ++ digested (sym (drop_all i (map plain_entry items) end) j) rest)
    ∙ so_far
