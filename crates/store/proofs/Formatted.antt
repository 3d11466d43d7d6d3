-- A formatting is a call of the machine.
use Rattle.std.specs.Prelude.{◌≡◌, ◌≢◌, ◌⊎◌, ◌≤◌, ◌&&◌, ℕ, Bool, true, false, nat_le, [], Option, Some, None, Result, Ok, Err, if◌then◌else◌, refl}
use Rattle.std.proofs.Common.{inl, inr, ap, sym, subst, ◌∙◌, arith}
use Rattle.std.proofs.lemmas.Bool.{and_parts, leb-true, le-leb, lt-ltb}
use Rattle.sector_dev.specs.Disk.{Disk, Story, Image, now, MayLeave, ShowsImage, shown_image, synced_image}
use Rattle.sector_dev.specs.Time.{Grows, LeavesOnly, OnlyReads}
use Rattle.sector_dev.specs.laws.Time.{weaken, now_has}
use Rattle.sector_dev.specs.laws.Crash.{only_image}
use Rattle.commit.specs.declared.sector.Commit.{Commit}
use Rattle.commit.specs.declared.sector.FormatVersion.{FormatVersion}
use Rattle.commit.specs.declared.cause.Cause.{Cause}
use Rattle.commit.specs.declared.cause.Cause.TheVariants.{DeviceSize}
use Rattle.commit.specs.declared.formatting.FormatError.{FormatError}
use Rattle.commit.specs.declared.formatting.FormatError.TheVariants as errors
use Rattle.commit.specs.Ruling.{ruling}
use Rattle.commit.specs.Standing as standings
use Rattle.commit.specs.Standing.{is_size, is_on_device, rules, standing, by_runs, by_catalogue, by_commit, named_by, runs_fault, Stands}
use Rattle.commit.specs.Formatting.{IsNoneOrEmpty, IsEmptyStore, IsFormatting, IsFormatted, first_commit, empty_text, CountsFormat}
use Rattle.commit.specs.laws.Frame.{stands_nowhere, none_stands, empty_stands}
use Rattle.segments.specs.declared.run.Run.{Run}
use Rattle.catalogue.specs.Entries.{PlainCatalogue, runs_of}
use Rattle.catalogue.specs.declared.entry.SegmentForm.{SegmentForm}
use Rattle.catalogue.specs.Reading.{catalogue_at}
use Rattle.tables.specs.Tables.{Tables, no_tables}
use Rattle.tables.specs.Verdict.{after}
use Rattle.store_runs.specs.Calls.{format_call, PlainReply, done, shut_by, may_be_done, counted}
use Rattle.store_runs.specs.Steps.{Step}
use Rattle.store_runs.specs.Runs.{Goes}
use Rattle.store_runs.specs.Machine.{no_store, holds, Machine, opened, shut_down, Allows, AllowsEach, meanwhile, has_written}
use Rattle.store_runs.specs.Held.{tables_held, held_tables, held_of, held_by}
use Rattle.pages.specs.Stored.{stored_reading, form_of, or_no_text}
use Rattle.store.specs.Fits.{setting_of, IsFresh}
use Rattle.store.specs.Opening.{formatting_of, TellsFormatting, IsOfFormatting}
use Rattle.store.proofs.Asked.{not_less}
use Rattle.store.proofs.Opened.{not_started, same_allows}

-- what a formatting counts, in the words of replies
pub formatting_counts : {T : Type 0} (r : Result T FormatError) (e : FormatError) (f f' : ℕ) → r ≡ Err e → CountsFormat f f' r → f' ≡ counted (shut_by (formatting_of e)) f
formatting_counts (Ok x) e f f' is counts = absurd (cc is)
formatting_counts (Err errors.AlreadyAStore) e f f' is counts = let same : errors.AlreadyAStore ≡ e = cc is in subst (λ (k : FormatError). f' ≡ counted (shut_by (formatting_of k)) f) same counts
formatting_counts (Err (errors.Damaged cause)) e f f' is counts = let same : errors.Damaged cause ≡ e = cc is in subst (λ (k : FormatError). f' ≡ counted (shut_by (formatting_of k)) f) same counts
formatting_counts (Err errors.Device) e f f' is counts = let same : errors.Device ≡ e = cc is in subst (λ (k : FormatError). f' ≡ counted (shut_by (formatting_of k)) f) same counts
formatting_counts (Err errors.OutOfMemory) e f f' is counts = let same : errors.OutOfMemory ≡ e = cc is in subst (λ (k : FormatError). f' ≡ counted (shut_by (formatting_of k)) f) same counts

-- the run of the first catalogue lies on the device
pub first_placed : (size : ℕ) (version : FormatVersion) → is_size size ≡ true → is_on_device size (first_commit size version).catalogue.run ≡ true
first_placed size version limits =
    let least : 16 ≤ size = leb-true _ _ (and_parts (nat_le 16 size) (nat_le size 4194304) limits).0 in
    le-leb 3 size (omega (arith, least))

-- a device of a size that no store has
pub formatting_limits : {T : Type 0} (r : Result T FormatError) (e : FormatError) → r ≡ Err e → r ≡ Err (errors.Damaged DeviceSize) → e ≡ errors.Damaged DeviceSize
formatting_limits (Ok x) e is told = absurd (cc is)
formatting_limits (Err x) e is told =
    let one : x ≡ e = cc is in
    let other : x ≡ errors.Damaged DeviceSize = cc told in
    sym one ∙ other

-- which alone is reported as damaged
pub formatting_damaged : {T : Type 0} (r : Result T FormatError) (e : FormatError) (size : ℕ) → r ≡ Err e → ((cause : Cause) → e ≡ errors.Damaged cause → is_size size ≡ false)
    → (is_size size ≡ false → r ≡ Err (errors.Damaged DeviceSize)) → (cause : Cause) → e ≡ errors.Damaged cause → (cause ≡ DeviceSize) × (is_size size ≡ false)
formatting_damaged r e size is outside told cause damaged =
    let only : e ≡ errors.Damaged DeviceSize = formatting_limits r e is (told (outside cause damaged)) in
    let which : cause ≡ DeviceSize = cc (damaged, only) in
    (which, outside cause damaged)

-- and what was formatted has a size that a store has
pub formatted_limits : {T P : Type 0} (r : Result T FormatError) (x : T) (b : Bool) → r ≡ Ok x → (b ≡ false → (r ≡ Err (errors.Damaged DeviceSize)) × P) → b ≡ true
formatted_limits r x true is limits = refl
formatted_limits (Ok y) x false is limits = let no = (limits refl).0 in absurd (cc no)
formatted_limits (Err e) x false is limits = absurd (cc is)

-- a catalogue without tables names no runs
pub no_runs : (size : ℕ) (text : Run) (c : PlainCatalogue) → c ≡ [] → runs_fault size text (runs_of c) ≡ None
unfolding runs_fault
no_runs size text c none = ap (λ (d : PlainCatalogue). runs_fault size text (runs_of d)) none

-- what is reported is so
pub formatting_tells : (e : FormatError) (size : ℕ) (found : Option Commit) → (e ≡ errors.AlreadyAStore → found ≢ None) → ((cause : Cause) → e ≡ errors.Damaged cause → (cause ≡ DeviceSize) × (is_size size ≡ false))
    → (e ≡ errors.OutOfMemory → found ≡ None) → TellsFormatting (formatting_of e) size found
formatting_tells errors.AlreadyAStore size found already damaged memory = already refl
formatting_tells (errors.Damaged cause) size found already damaged memory = damaged cause refl
formatting_tells errors.Device size found already damaged memory = tt
formatting_tells errors.OutOfMemory size found already damaged memory = memory refl

-- also of a device that doesn't tell its story
pub formatting_reason : (e : FormatError) (size : ℕ) → ((cause : Cause) → e ≡ errors.Damaged cause → (cause ≡ DeviceSize) × (is_size size ≡ false)) → IsOfFormatting size (formatting_of e)
formatting_reason errors.AlreadyAStore size damaged = tt
formatting_reason (errors.Damaged cause) size damaged = damaged cause refl
formatting_reason errors.Device size damaged = tt
formatting_reason errors.OutOfMemory size damaged = tt

-- where a commit rules there is a store, whole or damaged
tables_some : (o : Option Tables) → held_tables o ≢ no_store
tables_some None none = cc none
tables_some (Some tables) none = cc none

runs_some : (image : Image) (k : Commit) (c : PlainCatalogue) (fault : Option Cause) → held_of image (by_runs k c fault) ≢ no_store
runs_some image k c None none = tables_some (tables_held image c) none
runs_some image k c (Some cause) none = cc none

named_some : (size : ℕ) (image : Image) (k : Commit) (named : Result PlainCatalogue Cause) → held_of image (by_catalogue stored_reading size k named) ≢ no_store
named_some size image k (Err cause) none = cc none
named_some size image k (Ok c) none = runs_some image k c (runs_fault size k.catalogue.run (runs_of c)) none

some_store : (size : ℕ) (image : Image) → is_size size ≡ true → ruling image ≢ None → held_by size image ≢ no_store
unfolding held_by standing
some_store size image limits some = by_ruling (ruling image) refl
  where
    found : (o : Option Commit) → ruling image ≡ o → held_by size image ≡ held_of image (by_commit stored_reading size image o)
    found o is = λ i. held_of image (if limits i then by_commit stored_reading size image (is i) else standings.damaged DeviceSize)

    by_ruling : (o : Option Commit) → ruling image ≡ o → held_by size image ≢ no_store
    by_ruling None is = absurd (some is)
    by_ruling (Some k) is = λ none. named_some size image k (named_by stored_reading size image k) (sym (found (Some k) is) ∙ none)

module _ (size : ℕ) (version : FormatVersion) (limits : is_size size ≡ true) (spelled : (form : SegmentForm) → catalogue_at form empty_text ≡ Some []) where
  -- the empty store
  pub new_stands : (image : Image) → IsEmptyStore size version image → standing stored_reading size image ≡ rules (first_commit size version) []
  new_stands image empty = empty_stands stored_reading size version image [] limits empty (ap or_no_text (spelled (form_of version))) refl

  new_held : (image : Image) → IsEmptyStore size version image → held_by size image ≡ holds no_tables
  unfolding held_by tables_held
  new_held image empty = ap (held_of image) (new_stands image empty)

  module _ (base : Tables) (m : Machine) where
    nothing_yet : IsFresh base m → after base m.settled ≡ no_tables
    unfolding after
    nothing_yet fresh = λ i. after (fresh.began i) (fresh.settled i)

    -- before the start no store and the empty one are allowed
    allows_new : m.started ≡ false → IsFresh base m → (image : Image) → IsNoneOrEmpty size version image → Allows (setting_of size base) m image
    unfolding Allows held_by
    allows_new early fresh image (inl none) = inr (inr (early, ap (held_of image) (none_stands stored_reading size image limits none)))
    allows_new early fresh image (inr empty) = inl (new_held image empty ∙ ap holds (sym (nothing_yet fresh)))

    -- at a moment of a formatting: as it was, or the run has not started and no store or the empty one lies there
    abbrev pub IsEarly : Disk → Disk → Type 0
    IsEarly before d = (d ≡ before) ⊎ ((m.started ≡ false) × LeavesOnly (IsNoneOrEmpty size version) d)

    -- where reads show no commit the run has not started; where they show one the formatting only reads
    pub early_moments : (s0 s1 : Story) → ShowsImage (now s0) → LeavesOnly (Allows (setting_of size base) m) (now s0) → (ruling (shown_image (now s0)) ≢ None → OnlyReads s0 s1) → Grows (IsFormatting size version (now s0)) s0 s1
        → Grows (IsEarly (now s0)) s0 s1
    unfolding ShowsImage
    early_moments s0 s1 shows allows untouched grows = by_ruling (ruling (shown_image (now s0))) refl
      where
        by_ruling : (o : Option Commit) → ruling (shown_image (now s0)) ≡ o → Grows (IsEarly (now s0)) s0 s1
        by_ruling (Some k) is = weaken (λ d same. inl same) (untouched (λ none. let both : Some k ≡ None = sym is ∙ none in cc both))
        by_ruling None is =
            let early = not_started size base m (shown_image (now s0)) (allows (shown_image (now s0)) shows) (stands_nowhere stored_reading size (shown_image (now s0)) limits is) in
            weaken (each early) grows
          where
            each : m.started ≡ false → (d : Disk) → IsFormatting size version (now s0) d → IsEarly (now s0) d
            each early d (inl same) = inl same
            each early d (inr leaves) = inr (early, leaves)

    pub early_none : (s0 : Story) → ShowsImage (now s0) → LeavesOnly (Allows (setting_of size base) m) (now s0) → ruling (shown_image (now s0)) ≡ None → m.started ≡ false
    unfolding ShowsImage
    early_none s0 shows allows none = not_started size base m (shown_image (now s0)) (allows (shown_image (now s0)) shows) (stands_nowhere stored_reading size (shown_image (now s0)) limits none)

    no_command : (b : Bool) → meanwhile format_call m b ≡ m
    no_command true = refl
    no_command false = refl

    -- what the machine allows at such a moment
    allows_early : (m.started ≡ false → IsFresh base m) → (before d : Disk) → LeavesOnly (Allows (setting_of size base) m) before → IsEarly before d → LeavesOnly (Allows (setting_of size base) m) d
    allows_early fresh before d allows (inl same) image may = allows image (subst (λ (x : Disk). MayLeave x image) same may)
    allows_early fresh before d allows (inr both) image may = allows_new both.0 (fresh both.0) image (both.1 image may)

    pub format_moments : (reply : PlainReply) (s0 s1 : Story) → (m.started ≡ false → IsFresh base m) → LeavesOnly (Allows (setting_of size base) m) (now s0) → Grows (IsEarly (now s0)) s0 s1
        → Grows (AllowsEach (setting_of size base) format_call reply m (now s0)) s0 s1
    format_moments reply s0 s1 fresh allows grows =
        weaken (λ d is image may. subst (λ (k : Machine). Allows (setting_of size base) k image) (sym (no_command (may_be_done reply && has_written (now s0) d))) (allows_early fresh (now s0) d allows is image may)) grows

    -- after one that was refused
    pub refused_allows : (s0 s1 : Story) → (m.started ≡ false → IsFresh base m) → LeavesOnly (Allows (setting_of size base) m) (now s0) → Grows (IsEarly (now s0)) s0 s1
        → LeavesOnly (Allows (setting_of size base) (shut_down m)) (now s1)
    refused_allows s0 s1 fresh allows grows = same_allows size base m (now s1) (allows_early fresh (now s0) (now s1) allows (now_has {P = IsEarly (now s0)} (inl refl) grows))

    -- no write began where nothing changed
    same_written : (s0 s1 : Story) → now s1 ≡ now s0 → has_written (now s0) (now s1) ≡ false
    same_written s0 s1 same = ap (has_written (now s0)) same ∙ not_less (now s0).writes

    pub format_refused : (e : FormatError) (s0 s1 : Story) (f f' : ℕ) → (m.started ≡ false → IsFresh base m) → LeavesOnly (Allows (setting_of size base) m) (now s0) → Grows (IsEarly (now s0)) s0 s1
        → ((cause : Cause) → e ≢ errors.Damaged cause) → (e ≢ errors.Device → now s1 ≡ now s0) → f' ≡ counted (shut_by (formatting_of e)) f
        → (e ≡ errors.AlreadyAStore → ruling (shown_image (now s0)) ≢ None) → Goes (setting_of size base) m format_call (shut_by (formatting_of e)) s0 s1 f f' (shut_down m)
    unfolding Step
    format_refused errors.AlreadyAStore s0 s1 f f' fresh allows grows sound quiet counts already =
        let same = quiet (λ is. cc is) in
        record {
          step = (same_written s0 s1 same, refl);
          moments = format_moments (shut_by (formatting_of errors.AlreadyAStore)) s0 s1 fresh allows grows;
          settles = refused_allows s0 s1 fresh allows grows;
          quiet = λ no device. same;
          counts = counts;
          tells = some_store size (shown_image (now s0)) limits (already refl);
          room = tt;
          spares = λ needs. absurd (cc needs);
          keeps = tt;
        }
    format_refused (errors.Damaged cause) s0 s1 f f' fresh allows grows sound quiet counts already = absurd (sound cause refl)
    format_refused errors.Device s0 s1 f f' fresh allows grows sound quiet counts already =
        record {
          step = refl;
          moments = format_moments (shut_by (formatting_of errors.Device)) s0 s1 fresh allows grows;
          settles = refused_allows s0 s1 fresh allows grows;
          quiet = λ no device. absurd (cc device);
          counts = counts;
          tells = tt;
          room = tt;
          spares = λ needs. absurd (cc needs);
          keeps = tt;
        }
    format_refused errors.OutOfMemory s0 s1 f f' fresh allows grows sound quiet counts already =
        let same = quiet (λ is. cc is) in
        record {
          step = (same_written s0 s1 same, refl);
          moments = format_moments (shut_by (formatting_of errors.OutOfMemory)) s0 s1 fresh allows grows;
          settles = refused_allows s0 s1 fresh allows grows;
          quiet = λ no device. same;
          counts = counts;
          tells = tt;
          room = tt;
          spares = λ needs. absurd (cc needs);
          keeps = tt;
        }

    -- ---- one that was done

    -- all is synced, and it is the empty store
    pub formatted_stands : (before d : Disk) → IsFormatted size version before d → Stands stored_reading size d (first_commit size version) []
    formatted_stands before d is = record { quiet = is.rests.quiet; found = new_stands (synced_image d) (record { rules = is.rests.rules; text = is.text }) }

    settled_new : IsFresh base m → (before d : Disk) → IsFormatted size version before d → LeavesOnly (Allows (setting_of size base) (opened [])) d
    unfolding Allows after
    settled_new fresh before d is image may =
        let same : image ≡ synced_image d = only_image d image is.rests.quiet.pending may in
        let began = fresh.began in
        inl (ap (held_by size) same ∙ new_held (synced_image d) (record { rules = is.rests.rules; text = is.text }) ∙ ap holds (sym began))

    pub format_done : (s0 s1 : Story) (f f' : ℕ) → (m.started ≡ false → IsFresh base m) → LeavesOnly (Allows (setting_of size base) m) (now s0) → Grows (IsEarly (now s0)) s0 s1 → m.started ≡ false
        → IsFormatted size version (now s0) (now s1) → f' ≡ f → Goes (setting_of size base) m format_call done s0 s1 f f' (opened [])
    unfolding Step
    format_done s0 s1 f f' fresh allows grows early is same =
        record {
          step = (early, (fresh early).settled, lt-ltb (now s0).writes (now s1).writes is.begun, refl);
          moments = format_moments done s0 s1 fresh allows grows;
          settles = settled_new (fresh early) (now s0) (now s1) is;
          quiet = λ no quiet. absurd (cc no);
          counts = same;
          tells = tt;
          room = tt;
          spares = λ needs. absurd (cc needs);
          keeps = tt;
        }

    -- its tables are those of the settled commands, of which there are none
    pub new_tables : IsFresh base m → (image : Image) → tables_held image [] ≡ Some (after base [])
    unfolding tables_held after
    new_tables fresh image = ap Some (sym fresh.began)
