-- Runs that were taken for streams, pages and a text have the properties that pages need.
use Rattle.std.specs.Prelude.{◌≡◌, ◌⊎◌, ◌≤◌, ◌+◌, ◌^◌, ◌&&◌, ◌==◌, ℕ, Bool, true, false, nat_le, nat_lt, List, [], ◌∷◌, ◌++◌, length, map, if◌then◌else◌, refl}
use Rattle.std.proofs.Common.{inl, inr, arith}
use Rattle.std.proofs.lemmas.Bool.{and_from, le-leb, lt-ltb, eq-eqb}
use Rattle.segments.specs.declared.run.Run.{Run}
use Rattle.segments.specs.Pieces.{PlainPiece}
use Rattle.segments.specs.Sectors.{sector_count}
use Rattle.segments.specs.Writing.{runs_of as piece_runs}
use Rattle.commit.specs.Placing.{contents_of, AreWritten}
use Rattle.commit.specs.Replacing.{IsPieceOf}
use Rattle.commit.specs.Standing.{is_extent, is_on_device}
use Rattle.commit.specs.laws.Taking.{Took}
use Rattle.catalogue.specs.Entries.{PlainEntry, PlainCatalogue, is_filled}
use Rattle.catalogue.specs.Text.{table_text, table_size, list_size}
use Rattle.pages.specs.Paging.{is_whole, pageless, page_sizes, root_bytes, text_size, AreFilled, AreRunsOf, ArePageRuns}
use Rattle.pages.specs.laws.Written.{ArePages}

-- a run of `count` sectors on the device, after the commit sectors
pub record IsTaken (size count : ℕ) (run : Run) : Type 0 where
  pub count_is : run.count ≡ count
  pub above : 2 ≤ run.start
  pub within : run.start + run.count ≤ size

abbrev pub AreTaken : (size : ℕ) → List ℕ → List Run → Type 0
AreTaken size [] [] = Unit {0}
AreTaken size [] (r ∷ rs) = ⊥
AreTaken size (n ∷ ns) [] = ⊥
AreTaken size (n ∷ ns) (r ∷ rs) = IsTaken size n r × AreTaken size ns rs

pub took_taken : (size : ℕ) (used : Run → Type 0) (ns : List ℕ) (rs : List Run) → Took size used ns rs → AreTaken size ns rs
took_taken size used [] [] took = tt
took_taken size used [] (r ∷ rs) took = absurd took
took_taken size used (n ∷ ns) [] took = absurd took
took_taken size used (n ∷ ns) (r ∷ rs) took =
    (record { count_is = took.0.0; above = took.0.1.above; within = took.0.1.within }, took_taken size (λ other. used other ⊎ (other ≡ r)) ns rs took.1)

pub taken_length : (size : ℕ) (ns : List ℕ) (rs : List Run) → AreTaken size ns rs → length rs ≡ length ns
taken_length size [] [] taken = refl
taken_length size [] (r ∷ rs) taken = absurd taken
taken_length size (n ∷ ns) [] taken = absurd taken
taken_length size (n ∷ ns) (r ∷ rs) taken = let more = taken_length size ns rs taken.1 in omega (arith, more)

-- the first of them without the others
pub taken_front : (size : ℕ) (ns ms : List ℕ) (rs qs : List Run) → length rs ≡ length ns → AreTaken size (ns ++ ms) (rs ++ qs) → AreTaken size ns rs
taken_front size [] ms [] qs same taken = tt
taken_front size [] ms (r ∷ rs) qs same taken = absurd (omega (arith, same))
taken_front size (n ∷ ns) ms [] qs same taken = absurd (omega (arith, same))
taken_front size (n ∷ ns) ms (r ∷ rs) qs same taken = (taken.0, taken_front size ns ms rs qs (omega (arith, same)) taken.1)

pub taken_behind : (size : ℕ) (ns ms : List ℕ) (rs qs : List Run) → length rs ≡ length ns → AreTaken size (ns ++ ms) (rs ++ qs) → AreTaken size ms qs
taken_behind size [] ms [] qs same taken = taken
taken_behind size [] ms (r ∷ rs) qs same taken = absurd (omega (arith, same))
taken_behind size (n ∷ ns) ms [] qs same taken = absurd (omega (arith, same))
taken_behind size (n ∷ ns) ms (r ∷ rs) qs same taken = taken_behind size ns ms rs qs (omega (arith, same)) taken.1

-- ---- pages

no_runs : (size : ℕ) (rs : List Run) → AreTaken size [] rs → rs ≡ []
no_runs size [] none = refl
no_runs size (r ∷ rs) none = absurd none

module _ (size : ℕ) (most : size ≤ 4194304) where
  page_filled : (e : PlainEntry) (run : Run) → IsTaken size (sector_count (table_size e)) run → is_filled 8 (record { run = run; bytes = table_size e }) ≡ true
  page_filled e run is =
      let bytes = table_size e in
      let count = is.count_is in
      let within = is.within in
      and_from (nat_lt run.start (2 ^ 64) && nat_lt bytes (2 ^ 64)) (nat_le 8 bytes && (run.count == sector_count bytes))
      (and_from (nat_lt run.start (2 ^ 64)) (nat_lt bytes (2 ^ 64)) (lt-ltb _ _ (omega (arith, most, within))) (lt-ltb _ _ (omega (arith, most, within, count))))
      (and_from (nat_le 8 bytes) (run.count == sector_count bytes) (le-leb _ _ (omega arith)) (eq-eqb _ _ count))

  page_extent : (e : PlainEntry) (run : Run) → IsTaken size (sector_count (table_size e)) run → is_extent size 8 (record { run = run; bytes = table_size e }) ≡ true
  page_extent e run is =
      let bytes = table_size e in
      let count = is.count_is in
      let some : 1 ≤ run.count = omega (arith, count) in
      and_from (nat_le 8 bytes) ((run.count == sector_count bytes) && is_on_device size run) (le-leb _ _ (omega arith))
      (and_from (run.count == sector_count bytes) (is_on_device size run) (eq-eqb _ _ count)
      (and_from (nat_le 2 run.start) (nat_le 1 run.count && nat_le (run.start + run.count) size) (le-leb _ _ is.above)
      (and_from (nat_le 1 run.count) (nat_le (run.start + run.count) size) (le-leb _ _ some) (le-leb _ _ is.within))))

  pages_filled : (es : List PlainEntry) (qs : List Run) → AreTaken size (map sector_count (map table_size es)) qs → AreFilled es qs
  pages_filled [] [] taken = tt
  pages_filled [] (q ∷ qs) taken = absurd taken
  pages_filled (e ∷ es) [] taken = absurd taken
  pages_filled (e ∷ es) (q ∷ qs) taken = (page_filled e q taken.0, pages_filled es qs taken.1)

  pub are_page_runs : (c : PlainCatalogue) (qs : List Run) → AreTaken size (map sector_count (page_sizes c)) qs → ArePageRuns c qs
  are_page_runs c qs taken = by_whole (is_whole c) taken
    where
      by_whole : (t : Bool) → AreTaken size (map sector_count (if t then [] else map table_size (pageless c))) qs → AreRunsOf t c qs
      by_whole true none = no_runs size qs none
      by_whole false taken = pages_filled (pageless c) qs taken

  -- each page is one of all pieces
  pub pages_are : (all : List PlainPiece) (es : List PlainEntry) (pages : List PlainPiece) → contents_of pages ≡ map table_text es → AreTaken size (map sector_count (map table_size es)) (piece_runs pages)
      → ((run : Run) (bytes : List ℕ) → IsPieceOf pages run bytes → IsPieceOf all run bytes) → ArePages size all es (piece_runs pages)
  pages_are all [] [] texts taken among = tt
  pages_are all [] (p ∷ ps) texts taken among = absurd (cc texts)
  pages_are all (e ∷ es) [] texts taken among = absurd (cc texts)
  pages_are all (e ∷ es) (p ∷ ps) texts taken among =
      let first : p.bytes ≡ table_text e = cc texts in
      let others : contents_of ps ≡ map table_text es = cc texts in
      (page_extent e p.run taken.0, among p.run (table_text e) (inl (refl, first)), pages_are all es ps others taken.1 (λ run bytes is. among run bytes (inr is)))

-- ---- pieces of a part are pieces of the whole

pub piece_left : (xs ys : List PlainPiece) (run : Run) (bytes : List ℕ) → IsPieceOf xs run bytes → IsPieceOf (xs ++ ys) run bytes
piece_left [] ys run bytes is = absurd is
piece_left (x ∷ xs) ys run bytes (inl here) = inl here
piece_left (x ∷ xs) ys run bytes (inr later) = inr (piece_left xs ys run bytes later)

pub piece_right : (xs ys : List PlainPiece) (run : Run) (bytes : List ℕ) → IsPieceOf ys run bytes → IsPieceOf (xs ++ ys) run bytes
piece_right [] ys run bytes is = is
piece_right (x ∷ xs) ys run bytes is = inr (piece_right xs ys run bytes is)

-- ---- what is requested has at least one byte

pub text_least : (c : PlainCatalogue) → 4 ≤ text_size c
text_least c = by_whole (is_whole c)
  where
    by_whole : (t : Bool) → 4 ≤ (if t then list_size c else root_bytes c)
    by_whole true = omega arith
    by_whole false = omega arith

each_written : (es : List PlainEntry) → AreWritten (map table_size es)
each_written [] = tt
each_written (e ∷ es) = (omega arith, each_written es)

pub sizes_written : (c : PlainCatalogue) → AreWritten (page_sizes c)
sizes_written c = by_whole (is_whole c)
  where
    by_whole : (t : Bool) → AreWritten (if t then [] else map table_size (pageless c))
    by_whole true = tt
    by_whole false = each_written (pageless c)
