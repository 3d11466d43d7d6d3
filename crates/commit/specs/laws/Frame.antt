-- What opening finds depends only on the commit sectors and the runs in use.
use Rattle.std.specs.Prelude.{if◌then◌else◌, ◌≡◌, ◌≤◌, ◌<◌, ◌+◌, ◌%◌, ◌==◌, ◌&&◌, ℕ, Bool, true, false, nat_le, List, [], ◌∷◌, Option, Some, None, Result, Ok, Err, refl}
use Rattle.std.proofs.Common.{inl, inr, ⊎_elim, sym, ap, ◌∙◌, subst, arith}
use Rattle.std.proofs.lemmas.Bool.{and_parts, eq-eqb}
use Rattle.std.proofs.lemmas.Bool.Decides.{nat_tests}
use Rattle.sector_dev.specs.Disk.{Disk, Sector, Image, synced_image}
use Rattle.segments.specs.Runs.{OutOf}
use Rattle.segments.specs.Sectors.{sector_count, bytes_at, Holds}
use Rattle.segments.specs.laws.ReadBack.{same_bytes, read_back}
use Rattle.segments.specs.Writing.{runs_of, HoldsEach}
use Rattle.segments.specs.declared.run.Run.{Run}
use Rattle.segments.specs.Pieces.{PlainPiece}
use Rattle.commit.specs.declared.sector.Commit.{Commit}
use Rattle.commit.specs.declared.cause.Cause.{Cause}
use Rattle.commit.specs.declared.cause.Cause.TheVariants.{DeviceSize, CatalogueRange, RunRange, RunOverlap}
use Rattle.commit.specs.Ruling.{newer, ruling, Rests}
use Rattle.commit.specs.declared.sector.FormatVersion.{FormatVersion}
use Rattle.commit.specs.Formatting.{HoldsNoCommit, IsEmptyStore, first_commit, empty_text}
use Rattle.commit.specs.Publishing.{IsOldOrNew, IsPublishing, IsPublished, IsRuledBy}
use Rattle.commit.specs.Replacing.{Change, IsPieceOf, IsMade, CanReplace, StandsAs, StandsAsEither}
use Rattle.commit.specs.Standing.{Reading, no_store, damaged, rules, is_size, is_on_device, is_extent, all_on_device, are_apart, used_runs, readable, extent_at, text_at, runs_fault, by_runs, by_catalogue, spelled_by, named_by, by_commit, standing, Stands, InSome, IsLocal}

-- a text is found: the tests before it passed
pub record HasText (size : ℕ) (image : Image) (k : Commit) (text : List ℕ) : Type 0 where
  pub device : (k.device_sectors == size) ≡ true
  pub extent : is_extent size 4 k.catalogue ≡ true
  pub read : bytes_at image k.catalogue.run.start k.catalogue.bytes ≡ Some text

pub text_is : (size : ℕ) (image : Image) (k : Commit) (text : List ℕ) → text_at size image k ≡ Ok text → HasText size image k text
unfolding text_at
text_is size image k text is = by_tests (k.device_sectors == size) (is_extent size 4 k.catalogue) (bytes_at image k.catalogue.run.start k.catalogue.bytes) refl refl refl is
  where
    by_tests : (x y : Bool) (o : Option (List ℕ)) → (k.device_sectors == size) ≡ x → is_extent size 4 k.catalogue ≡ y → bytes_at image k.catalogue.run.start k.catalogue.bytes ≡ o
        → (if x then (if y then readable o else Err CatalogueRange) else Err DeviceSize) ≡ Ok text → HasText size image k text
    by_tests true true (Some found) d e r is = let same : found ≡ text = cc is in record { device = d; extent = e; read = r ∙ ap Some same }
    by_tests true true None d e r is = absurd (cc is)
    by_tests true false o d e r is = absurd (cc is)
    by_tests false y o d e r is = absurd (cc is)

pub has_text : (size : ℕ) (image : Image) (k : Commit) (text : List ℕ) → HasText size image k text → text_at size image k ≡ Ok text
unfolding text_at
has_text size image k text h = λ i. if h.device i then (if h.extent i then readable (h.read i) else Err CatalogueRange) else Err DeviceSize

-- the result of each test of a text
pub text_found : (size : ℕ) (image : Image) (k : Commit) (text : List ℕ) → k.device_sectors ≡ size → is_extent size 4 k.catalogue ≡ true → bytes_at image k.catalogue.run.start k.catalogue.bytes ≡ Some text → text_at size image k ≡ Ok text
text_found size image k text device extent read = has_text size image k text (record { device = eq-eqb k.device_sectors size device; extent = extent; read = read })

-- if the device has the commit's size, the text is the content of the extent
pub text_there : (size : ℕ) (image : Image) (k : Commit) → k.device_sectors ≡ size → text_at size image k ≡ extent_at size image 4 k.catalogue
unfolding text_at
text_there size image k device = λ i. if eq-eqb k.device_sectors size device i then extent_at size image 4 k.catalogue else Err DeviceSize

pub text_elsewhere : (size : ℕ) (image : Image) (k : Commit) → (k.device_sectors ≡ size → ⊥) → text_at size image k ≡ Err DeviceSize
unfolding text_at
text_elsewhere size image k other =
    let no : (k.device_sectors == size) ≡ false = grind (arith, nat_tests) in
    λ i. if no i then (if is_extent size 4 k.catalogue then readable (bytes_at image k.catalogue.run.start k.catalogue.bytes) else Err CatalogueRange) else Err DeviceSize

-- runs that can be in use: each lies on the device, and no two share a sector
pub fault_none : (size : ℕ) (text : Run) (runs : List Run) → runs_fault size text runs ≡ None → (all_on_device size runs ≡ true) × (are_apart (text ∷ runs) ≡ true)
unfolding runs_fault
fault_none size text runs is = by_tests (all_on_device size runs) (are_apart (text ∷ runs)) refl refl is
  where
    by_tests : (x y : Bool) → all_on_device size runs ≡ x → are_apart (text ∷ runs) ≡ y → (if x then (if y then None else Some RunOverlap) else Some RunRange) ≡ None
        → (all_on_device size runs ≡ true) × (are_apart (text ∷ runs) ≡ true)
    by_tests true true a b is = (a, b)
    by_tests true false a b is = absurd (cc is)
    by_tests false y a b is = absurd (cc is)

-- a piece lies in its run
pub piece_holds : (image : Image) (pieces : List PlainPiece) (run : Run) (bytes : List ℕ) → HoldsEach image pieces → IsPieceOf pieces run bytes → Holds image run.start bytes
piece_holds image [] run bytes holds is = absurd is
piece_holds image (p ∷ ps) run bytes holds (inl is) = subst (λ (r : Run). Holds image r.start bytes) is.0 (subst (λ (b : List ℕ). Holds image p.run.start b) is.1 holds.0)
piece_holds image (p ∷ ps) run bytes holds (inr later) = piece_holds image ps run bytes holds.1 later

module _ {C : Type 0} (reading : Reading C) (size : ℕ) where
  -- all tests passed
  pub record IsFound (image : Image) (k : Commit) (c : C) : Type 0 where
    pub size_is : is_size size ≡ true
    pub ruled : ruling image ≡ Some k
    pub text : List ℕ
    pub found : text_at size image k ≡ Ok text
    pub spelled : reading.at size image k text ≡ Ok c
    pub fit : runs_fault size k.catalogue.run (reading.runs c) ≡ None

  -- then it rules
  pub found_rules : (image : Image) (k : Commit) (c : C) → IsFound image k c → standing reading size image ≡ rules k c
  unfolding standing
  found_rules image k c f =
      (λ i. if f.size_is i then by_commit reading size image (f.ruled i) else damaged DeviceSize)
      ∙ ap (by_catalogue reading size k) (ap (spelled_by reading size image k) f.found ∙ f.spelled)
      ∙ ap (by_runs k c) f.fit

  -- what is found if a commit rules, by the catalogue that it names
  found_by : (image : Image) (k : Commit) → is_size size ≡ true → ruling image ≡ Some k → standing reading size image ≡ by_catalogue reading size k (named_by reading size image k)
  unfolding standing
  found_by image k size_is ruled = λ i. if size_is i then by_commit reading size image (ruled i) else damaged DeviceSize

  -- the result of each test
  pub stands_nowhere : (image : Image) → is_size size ≡ true → ruling image ≡ None → standing reading size image ≡ no_store
  unfolding standing
  stands_nowhere image size_is none = λ i. if size_is i then by_commit reading size image (none i) else damaged DeviceSize

  pub stands_on_no_device : (image : Image) → is_size size ≡ false → standing reading size image ≡ damaged DeviceSize
  unfolding standing
  stands_on_no_device image size_is = λ i. if size_is i then by_commit reading size image (ruling image) else damaged DeviceSize

  pub stands_as : (image : Image) (k : Commit) (c : C) → is_size size ≡ true → ruling image ≡ Some k → named_by reading size image k ≡ Ok c → runs_fault size k.catalogue.run (reading.runs c) ≡ None → standing reading size image ≡ rules k c
  stands_as image k c size_is ruled named fit = found_by image k size_is ruled ∙ ap (by_catalogue reading size k) named ∙ ap (by_runs k c) fit

  pub stands_misnamed : (image : Image) (k : Commit) (cause : Cause) → is_size size ≡ true → ruling image ≡ Some k → named_by reading size image k ≡ Err cause → standing reading size image ≡ damaged cause
  stands_misnamed image k cause size_is ruled named = found_by image k size_is ruled ∙ ap (by_catalogue reading size k) named

  pub stands_unfit : (image : Image) (k : Commit) (c : C) (cause : Cause) → is_size size ≡ true → ruling image ≡ Some k → named_by reading size image k ≡ Ok c → runs_fault size k.catalogue.run (reading.runs c) ≡ Some cause → standing reading size image ≡ damaged cause
  stands_unfit image k c cause size_is ruled named fault = found_by image k size_is ruled ∙ ap (by_catalogue reading size k) named ∙ ap (by_runs k c) fault

  -- if a commit rules, all tests passed
  pub rules_found : (image : Image) (k : Commit) (c : C) → standing reading size image ≡ rules k c → IsFound image k c
  unfolding standing
  rules_found image k c is = by_size (is_size size) refl is
    where
      by_fault : (k' : Commit) (text : List ℕ) (c' : C) → ruling image ≡ Some k' → is_size size ≡ true → text_at size image k' ≡ Ok text → reading.at size image k' text ≡ Ok c'
          → (o : Option Cause) → runs_fault size k'.catalogue.run (reading.runs c') ≡ o → by_runs k' c' o ≡ rules k c → IsFound image k c
      by_fault k' text c' r s t u None f same =
          let ks : k' ≡ k = cc same in let cs : c' ≡ c = cc same in
          subst (λ (z : C). IsFound image k z) cs (subst (λ (z : Commit). IsFound image z c') ks (record { size_is = s; ruled = r; text = text; found = t; spelled = u; fit = f }))
      by_fault k' text c' r s t u (Some cause) f same = absurd (cc same)

      by_spelled : (k' : Commit) (text : List ℕ) → ruling image ≡ Some k' → is_size size ≡ true → text_at size image k' ≡ Ok text
          → (o : Result C Cause) → reading.at size image k' text ≡ o → by_catalogue reading size k' o ≡ rules k c → IsFound image k c
      by_spelled k' text r s t (Err cause) u same = absurd (cc same)
      by_spelled k' text r s t (Ok c') u same = by_fault k' text c' r s t u (runs_fault size k'.catalogue.run (reading.runs c')) refl same

      by_read : (k' : Commit) → ruling image ≡ Some k' → is_size size ≡ true → (o : Result (List ℕ) Cause) → text_at size image k' ≡ o → by_catalogue reading size k' (spelled_by reading size image k' o) ≡ rules k c → IsFound image k c
      by_read k' r s (Err cause) t same = absurd (cc same)
      by_read k' r s (Ok text) t same = by_spelled k' text r s t (reading.at size image k' text) refl same

      by_ruling : is_size size ≡ true → (o : Option Commit) → ruling image ≡ o → by_commit reading size image o ≡ rules k c → IsFound image k c
      by_ruling s None r same = absurd (cc same)
      by_ruling s (Some k') r same = by_read k' r s (text_at size image k') refl same

      by_size : (x : Bool) → is_size size ≡ x → (if x then by_commit reading size image (ruling image) else damaged DeviceSize) ≡ rules k c → IsFound image k c
      by_size true s same = by_ruling s (ruling image) refl same
      by_size false s same = absurd (cc same)

  -- the sectors of the catalogue's text lie in its run
  text_sector : (k : Commit) (j : ℕ) → is_extent size 4 k.catalogue ≡ true → j < sector_count k.catalogue.bytes → (k.catalogue.run.start ≤ k.catalogue.run.start + j) × (k.catalogue.run.start + j < k.catalogue.run.start + k.catalogue.run.count)
  text_sector k j extent lt =
      let parts = and_parts (nat_le 4 k.catalogue.bytes) ((k.catalogue.run.count == sector_count k.catalogue.bytes) && is_on_device size k.catalogue.run) extent in
      let count = (and_parts (k.catalogue.run.count == sector_count k.catalogue.bytes) (is_on_device size k.catalogue.run) parts.1).0 in
      let same : k.catalogue.run.count ≡ sector_count k.catalogue.bytes = grind (arith, nat_tests) in
      (omega arith, omega arith)

  -- the frame: an image with the same ruling commit and the same runs in use opens as the same store
  pub same_standing : IsLocal reading → (a b : Image) (k : Commit) (c : C) → standing reading size a ≡ rules k c → ruling b ≡ ruling a
      → ((n : ℕ) → InSome (used_runs reading k c) n → b n ≡ a n) → standing reading size b ≡ rules k c
  same_standing local a b k c is ruled same =
      let f = rules_found a k c is in
      let h = text_is size a k f.text f.found in
      found_rules b k c (record {
        size_is = f.size_is;
        ruled = ruled ∙ f.ruled;
        text = f.text;
        found = has_text size b k f.text (record {
          device = h.device;
          extent = h.extent;
          read = same_bytes b a k.catalogue.run.start k.catalogue.bytes (λ j lt. same (k.catalogue.run.start + j) (inl (text_sector k j h.extent lt))) ∙ h.read;
        });
        spelled = local size a b k f.text c f.spelled (λ n within. same n (inr within));
        fit = f.fit;
      })

  -- each sector of a run in use lies after the commit sectors
  above_run : (r : Run) (n : ℕ) → is_on_device size r ≡ true → (r.start ≤ n) × (n < r.start + r.count) → 2 ≤ n
  above_run r n is within =
      let low = (and_parts (nat_le 2 r.start) (nat_le 1 r.count && nat_le (r.start + r.count) size) is).0 in
      let le : 2 ≤ r.start = grind (arith, nat_tests) in omega (arith, within.0)

  above_each : (rs : List Run) (n : ℕ) → all_on_device size rs ≡ true → InSome rs n → 2 ≤ n
  above_each [] n is within = absurd within
  above_each (r ∷ rs) n is (inl here) = above_run r n (and_parts (is_on_device size r) (all_on_device size rs) is).0 here
  above_each (r ∷ rs) n is (inr later) = above_each rs n (and_parts (is_on_device size r) (all_on_device size rs) is).1 later

  pub above_used : (image : Image) (k : Commit) (c : C) (n : ℕ) → standing reading size image ≡ rules k c → InSome (used_runs reading k c) n → 2 ≤ n
  above_used image k c n is (inl here) =
      let f = rules_found image k c is in
      let extent = (text_is size image k f.text f.found).extent in
      let parts = and_parts (nat_le 4 k.catalogue.bytes) ((k.catalogue.run.count == sector_count k.catalogue.bytes) && is_on_device size k.catalogue.run) extent in
      above_run k.catalogue.run n (and_parts (k.catalogue.run.count == sector_count k.catalogue.bytes) (is_on_device size k.catalogue.run) parts.1).1 here
  above_used image k c n is (inr later) = let f = rules_found image k c is in above_each (reading.runs c) n (fault_none size k.catalogue.run (reading.runs c) f.fit).0 later

  -- if the new commit rules an image that holds the pieces, the new catalogue is found
  pub made_stands : (before : Image) (change : Change C) → is_size size ≡ true → IsMade reading size before change → (image : Image) → ruling image ≡ Some change.new → HoldsEach image change.pieces
      → ((n : ℕ) → 2 ≤ n → OutOf (runs_of change.pieces) n → image n ≡ before n) → standing reading size image ≡ rules change.new change.will
  made_stands before change limits made image ruled holds same =
      let text = made.text in
      let there = piece_holds image change.pieces change.new.catalogue.run text holds made.written in
      found_rules image change.new change.will (record {
        size_is = limits;
        ruled = ruled;
        text = text;
        found = has_text size image change.new text (record {
          device = eq-eqb change.new.device_sectors size made.device;
          extent = made.extent;
          read = ap (bytes_at image change.new.catalogue.run.start) (sym made.whole) ∙ read_back image change.new.catalogue.run.start text there;
        });
        spelled = made.read image holds same;
        fit = made.fit;
      })

  low : (n : ℕ) → n % 2 < 2
  low n = omega arith

  -- an image that is old or new by its commit opens as the old store or as the new one
  pub stands_as_either : IsLocal reading → (before : Disk) (change : Change C) → CanReplace reading size before change → (image : Image)
      → IsOldOrNew before change.new change.pieces (IsRuledBy change.old) (IsRuledBy change.new) image → StandsAsEither reading size change before image
  stands_as_either local before change can image is =
      let outside : (n : ℕ) → 2 ≤ n → OutOf (runs_of change.pieces) n → image n ≡ synced_image before n = λ n le out. is.outside n (out, λ e. omega (arith, low change.new.epoch)) in
      let found = rules_found (synced_image before) change.old change.was can.stands.found in
      record {
        outside = is.outside;
        commit = is.commit;
        which =
            ⊎_elim
            (λ (rule : ruling image ≡ Some change.old).
            inl (same_standing local (synced_image before) image change.old change.was can.stands.found (rule ∙ sym found.ruled) (λ n within. outside n (above_used (synced_image before) change.old change.was n can.stands.found within) (can.free n within))))
            (λ (both : (ruling image ≡ Some change.new) × HoldsEach image change.pieces). inr (made_stands (synced_image before) change found.size_is can.made image both.0 both.1 outside, both.1))
            is.which;
      }

  -- a commit that is found at rest rests
  pub stands_rests : (d : Disk) (k : Commit) (c : C) → Stands reading size d k c → Rests d k
  stands_rests d k c s = record { quiet = s.quiet; rules = (rules_found (synced_image d) k c s.found).ruled }

  -- at each moment of publishing, and at its end
  pub replaces : IsLocal reading → (before : Disk) (change : Change C) → CanReplace reading size before change → (d : Disk) → IsPublishing before change.new change.pieces (IsRuledBy change.old) (IsRuledBy change.new) d
      → IsPublishing before change.new change.pieces (StandsAs reading size change.old change.was) (StandsAs reading size change.new change.will) d
  replaces local before change can d p = record { touches = p.touches; begun = p.begun; leaves = λ image may. stands_as_either local before change can image (p.leaves image may) }

  pub replaced : (before : Disk) (change : Change C) → CanReplace reading size before change → (d : Disk) → IsPublished before change.new change.pieces (IsRuledBy change.new) d
      → IsPublished before change.new change.pieces (StandsAs reading size change.new change.will) d
  replaced before change can d p = record {
    quiet = p.quiet;
    stands = made_stands (synced_image before) change (rules_found (synced_image before) change.old change.was can.stands.found).size_is can.made (synced_image d) p.stands p.holds
        (λ n le out. ap (λ (s : Sector). s.synced) (p.touches n (out, λ e. omega (arith, low change.new.epoch))));
    holds = p.holds;
    touches = p.touches;
    begun = p.begun;
  }

  -- a device without a commit holds no store
  pub none_stands : (image : Image) → is_size size ≡ true → HoldsNoCommit image → standing reading size image ≡ no_store
  unfolding ruling newer
  none_stands image limits none = stands_nowhere image limits (λ i. newer (none.0 i) (none.1 i))

  -- the empty store is found, if its text is that of a catalogue without runs
  pub empty_stands : (version : FormatVersion) (image : Image) (c : C) → is_size size ≡ true → IsEmptyStore size version image → reading.at size image (first_commit size version) empty_text ≡ Ok c → reading.runs c ≡ [] → standing reading size image ≡ rules (first_commit size version) c
  unfolding runs_fault
  empty_stands version image c limits store spelled none =
      let extent : is_extent size 4 (first_commit size version).catalogue ≡ true = grind (arith, nat_tests) in
      stands_as image (first_commit size version) c limits store.rules
      (ap (spelled_by reading size image (first_commit size version)) (text_found size image (first_commit size version) empty_text refl extent store.text) ∙ spelled)
      (ap (runs_fault size (first_commit size version).catalogue.run) none)
