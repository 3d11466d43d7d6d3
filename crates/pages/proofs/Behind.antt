-- Pages that are read one after another.
use Rattle.std.specs.Prelude.{◌≡◌, ◌≤◌, ◌<◌, ◌+◌, ◌-◌, ◌++◌, ℕ, List, [], ◌∷◌, length, map, drop, get_or, Some, Result, Ok, Err, refl}
use Rattle.std.proofs.Common.{sym, ap, ◌∙◌, append_assoc}
use Rattle.std.proofs.lemmas.List.{drop_more, drop_all, map-append, append-nil}
use Rattle.sector_dev.specs.Disk.{Image, Story, now, shown_image}
use Rattle.sector_dev.specs.Time.{OnlyReads}
use Rattle.sector_dev.specs.laws.Time.{now_read}
use Rattle.arrow_schema.specs.Column.{PlainSchema}
use Rattle.segments.specs.declared.extent.Extent.{Extent}
use Rattle.catalogue.specs.declared.entry.SegmentForm.{SegmentForm}
use Rattle.catalogue.specs.declared.entry.Segment.{Segment}
use Rattle.catalogue.specs.declared.entry.TableEntry.{TableEntry}
use Rattle.catalogue.specs.declared.entry.RootEntry.{RootEntry}
use Rattle.catalogue.specs.Entries.{PlainEntry, PlainCatalogue, plain_entry, plain_root}
use Rattle.catalogue.specs.Reading.{entry_from}
use Rattle.commit.specs.declared.cause.Cause.{Cause}
use Rattle.commit.specs.declared.reading.OpenError.{OpenError}
use Rattle.commit.specs.declared.reading.OpenError.TheVariants.{NotAStore, Damaged, Device, OutOfMemory}
use Rattle.commit.specs.Opening.{TellsCause}
use Rattle.pages.specs.Stored.{then_read, page_in, pages_at, page_shown, pages_shown}

abbrev pub Found : Type 0
Found = Result PlainCatalogue Cause

abbrev Body : Type 0
Body = PlainSchema × List Segment

-- tables after those that were read
abbrev pub behind : PlainCatalogue → Found → Found
behind front rest = then_read rest (λ others. Ok (front ++ others))

one_behind : (front : PlainCatalogue) (e : PlainEntry) (rest : Found) → behind front (then_read rest (λ others. Ok (e ∷ others))) ≡ behind (front ++ e ∷ []) rest
one_behind front e (Ok others) = ap Ok (sym (append_assoc front (e ∷ []) others))
one_behind front e (Err cause) = refl

module _ (form : SegmentForm) (size : ℕ) (image : Image) where
  left_at : (rs : List RootEntry) (i : ℕ) (d : RootEntry) → i < length rs → map plain_root (drop i rs) ≡ plain_root (get_or rs i d) ∷ map plain_root (drop (i + 1) rs)
  left_at rs i d lt = ap (map plain_root) (drop_more rs i d lt)

  -- the tables behind one whose page says this
  rest_at : ℕ → List RootEntry → ℕ → RootEntry → Body → Found
  rest_at most rs i x body = then_read (pages_at form size image (most - length body.1) (map plain_root (drop (i + 1) rs))) (λ others. Ok (entry_from (plain_root x).name (Some x.page) body ∷ others))

  -- what is left is read by its first page, and then the others
  first_left : (most : ℕ) (rs : List RootEntry) (i : ℕ) (d : RootEntry) → i < length rs → pages_at form size image most (map plain_root (drop i rs)) ≡ then_read (page_in form size image most (get_or rs i d).page) (rest_at most rs i (get_or rs i d))
  unfolding pages_at rest_at
  first_left most rs i d lt = ap (pages_at form size image most) (left_at rs i d lt)

  pub next_read : (most : ℕ) (rs : List RootEntry) (i : ℕ) (d : RootEntry) (es fs : List TableEntry) (e : TableEntry) → i < length rs
      → page_in form size image most (get_or rs i d).page ≡ Ok ((plain_entry e).schema, (plain_entry e).segments)
      → plain_entry e ≡ entry_from (plain_root (get_or rs i d)).name (Some (get_or rs i d).page) ((plain_entry e).schema, (plain_entry e).segments) → fs ≡ es ++ e ∷ []
      → behind (map plain_entry es) (pages_at form size image most (map plain_root (drop i rs)))
      ≡ behind (map plain_entry fs) (pages_at form size image (most - length (plain_entry e).segments) (map plain_root (drop (i + 1) rs)))
  unfolding rest_at
  next_read most rs i d es fs e lt page entry more =
      let rest = pages_at form size image (most - length (plain_entry e).segments) (map plain_root (drop (i + 1) rs)) in
      ap (behind (map plain_entry es)) (first_left most rs i d lt ∙ ap (λ (r : Result Body Cause). then_read r (rest_at most rs i (get_or rs i d))) page)
      ∙ ap (λ (y : PlainEntry). behind (map plain_entry es) (then_read rest (λ others. Ok (y ∷ others)))) (sym entry)
      ∙ one_behind (map plain_entry es) (plain_entry e) rest
      ∙ ap (λ (front : PlainCatalogue). behind front rest) (sym (ap (map plain_entry) more ∙ map-append plain_entry es (e ∷ [])))

  pub not_read : (most : ℕ) (rs : List RootEntry) (i : ℕ) (d : RootEntry) (es : List TableEntry) (cause : Cause) → i < length rs → page_in form size image most (get_or rs i d).page ≡ Err cause
      → behind (map plain_entry es) (pages_at form size image most (map plain_root (drop i rs))) ≡ Err cause
  not_read most rs i d es cause lt page = ap (behind (map plain_entry es)) (first_left most rs i d lt ∙ ap (λ (r : Result Body Cause). then_read r (rest_at most rs i (get_or rs i d))) page)

  pub all_read : (most : ℕ) (rs : List RootEntry) (i : ℕ) (es : List TableEntry) → length rs ≤ i → behind (map plain_entry es) (pages_at form size image most (map plain_root (drop i rs))) ≡ Ok (map plain_entry es)
  unfolding pages_at
  all_read most rs i es past = ap (λ (ys : List RootEntry). behind (map plain_entry es) (pages_at form size image most (map plain_root ys))) (drop_all i rs past) ∙ ap Ok (append-nil (map plain_entry es))

-- as the device tells it at a later call
pub page_then : (form : SegmentForm) (size later : ℕ) (old new : Story) (most : ℕ) (page : Extent) → later ≡ size → OnlyReads old new → page_shown form later new most page ≡ page_shown form size old most page
page_then form size later old new most page sized reads = λ i. page_in form (sized i) (shown_image (now_read old new reads i)) most page

-- what is told of a page is told of all
pub told_of_all : (one : Result Body Cause) (all : Found) (e : OpenError) → ((cause : Cause) → one ≡ Err cause → all ≡ Err cause) → TellsCause e one → TellsCause e all
told_of_all one all NotAStore so told = tt
told_of_all one all (Damaged cause) so told = so cause told
told_of_all one all Device so told = tt
told_of_all one all OutOfMemory so told = tt

-- the same of the page at a place of a root, as the device tells it later
module _ (form : SegmentForm) (size later : ℕ) (old new : Story) (most : ℕ) (rs : List RootEntry) (i : ℕ) (d : RootEntry) (es : List TableEntry) (lt : i < length rs) (sized : later ≡ size) (reads : OnlyReads old new) where
  same_page : page_shown form later new most (get_or rs i d).page ≡ page_shown form size old most (get_or rs i d).page
  same_page = page_then form size later old new most (get_or rs i d).page sized reads

  pub told_at : (all : Found) (e : OpenError) → all ≡ behind (map plain_entry es) (pages_shown form size old most (map plain_root (drop i rs))) → TellsCause e (page_shown form later new most (get_or rs i d).page) → TellsCause e all
  told_at all e so_far told =
      told_of_all (page_shown form later new most (get_or rs i d).page) all e
      (λ cause is. so_far ∙ not_read form size (shown_image (now old)) most rs i d es cause lt (sym same_page ∙ is)) told

  pub read_at : (fs : List TableEntry) (e : TableEntry) → plain_entry e ≡ entry_from (plain_root (get_or rs i d)).name (Some (get_or rs i d).page) ((plain_entry e).schema, (plain_entry e).segments)
      → page_shown form later new most (get_or rs i d).page ≡ Ok ((plain_entry e).schema, (plain_entry e).segments) → fs ≡ es ++ e ∷ []
      → behind (map plain_entry es) (pages_shown form size old most (map plain_root (drop i rs)))
      ≡ behind (map plain_entry fs) (pages_shown form size old (most - length (plain_entry e).segments) (map plain_root (drop (i + 1) rs)))
  read_at fs e entry found more = next_read form size (shown_image (now old)) most rs i d es fs e lt (sym same_page ∙ found) entry more
