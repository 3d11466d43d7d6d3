-- What was read of a store is a catalogue, whose pages say what was read.
use Rattle.std.proofs.Common.{◌≡◌, ◌≤◌, ◌+◌, ◌-◌, ◌^◌, ◌&&◌, ◌==◌, ℕ, true, List, [], ◌∷◌, length, map, Some, None, Ok, refl, sym, ap, subst, ◌∙◌, arith}
use Rattle.std.specs.Prelude.{nat_le, nat_lt}
use Rattle.std.specs.List.{list_all}
use Rattle.std.proofs.lemmas.Bool.{and_parts, and_from, leb-true, lt-ltb, eqb-true}
use Rattle.std.proofs.lemmas.List.Sums.{sum_by-cons}
use Rattle.sector_dev.specs.Disk.{Image}
use Rattle.segments.specs.Sectors.{sector_count}
use Rattle.segments.specs.declared.extent.Extent.{Extent}
use Rattle.commit.specs.declared.sector.CatalogueKind.{CatalogueKind}
use Rattle.commit.specs.declared.sector.CatalogueKind.TheVariants.{Whole, Pages}
use Rattle.commit.specs.Standing.{is_size, is_extent, is_on_device, extent_at}
use Rattle.catalogue.specs.declared.entry.SegmentForm.{SegmentForm}
use Rattle.catalogue.specs.declared.limits.TheConstants.{MAX_SEGMENTS}
use Rattle.catalogue.specs.Schemas.{is_within_limits}
use Rattle.catalogue.specs.Entries.{PlainEntry, PlainCatalogue, PlainRoot, bare, is_name, is_segment, is_filled, is_page, is_entry, names_of, ascends, root_names, segment_count, IsCatalogue, has_digests, has_form}
use Rattle.catalogue.specs.Reading.{catalogue_at, root_at, page_at, entry_from}
use Rattle.pages.specs.Stored.{then_read, or_no_text, page_in, pages_at, by_kind, HoldsPages, AreTables}
use Rattle.pages.specs.laws.Read.{Body, body_is, bound_ok, text_there, read_holds, bytes_are}

-- ---- pages say what was read

-- where no table has a page
none_hold : (form : SegmentForm) (size : ℕ) (image : Image) (c : PlainCatalogue) → map bare c ≡ c → HoldsPages form size image c
none_hold form size image [] none = tt
none_hold form size image (e ∷ es) none =
    let first : bare e ≡ e = cc none in
    let others : map bare es ≡ es = cc none in
    let no_page : None ≡ e.page = ap (λ (x : PlainEntry). x.page) first in
    ((λ page here. absurd (cc (no_page, here))), none_hold form size image es others)

pub read_pages_hold : ((form : SegmentForm) (bytes : List ℕ) (c : PlainCatalogue) → catalogue_at form bytes ≡ Some c → map bare c ≡ c) → (form : SegmentForm) (size : ℕ) (image : Image) (kind : CatalogueKind) (text : List ℕ) (c : PlainCatalogue) → by_kind kind form size image text ≡ Ok c
    → HoldsPages form size image c
read_pages_hold pageless form size image Whole text c is = none_hold form size image c (pageless form text c (text_there (catalogue_at form text) c is))
read_pages_hold pageless form size image Pages text c is =
    let x = bound_ok (or_no_text (root_at text)) (pages_at form size image MAX_SEGMENTS) c is in
    read_holds form size image MAX_SEGMENTS x.0 c x.2

-- ---- what was read has its form

module _ (pages : (form : SegmentForm) (most : ℕ) (bytes : List ℕ) (e : PlainEntry) → page_at form most bytes ≡ Some (e.schema, e.segments) → has_digests form e.segments ≡ true) where
  pages_formed : (form : SegmentForm) (size : ℕ) (image : Image) (most : ℕ) (rs : List PlainRoot) (c : PlainCatalogue) → pages_at form size image most rs ≡ Ok c → has_form form c ≡ true
  unfolding pages_at
  pages_formed form size image most [] c is = let none : [] ≡ c = cc is in ap (has_form form) (sym none)
  pages_formed form size image most (r ∷ rs) c is =
      let x = bound_ok (page_in form size image most r.page)
      (λ body. then_read (pages_at form size image (most - length body.1) rs) (λ others. Ok (entry_from r.name (Some r.page) body ∷ others))) c is in
      let y = bound_ok (pages_at form size image (most - length x.0.1) rs) (λ others. Ok (entry_from r.name (Some r.page) x.0 ∷ others)) c x.2 in
      let e : PlainEntry = entry_from r.name (Some r.page) x.0 in
      let whole : e ∷ y.0 ≡ c = cc y.2 in
      let z = bound_ok (extent_at size image 8 r.page) (λ bytes. or_no_text (page_at form most bytes)) x.0 x.1 in
      ap (has_form form) (sym whole)
      ∙ and_from (has_digests form e.segments) (has_form form y.0) (pages form most z.0 e (text_there (page_at form most z.0) x.0 z.2)) (pages_formed form size image (most - length x.0.1) rs y.0 y.1)

pub read_formed : ((form : SegmentForm) (bytes : List ℕ) (c : PlainCatalogue) → catalogue_at form bytes ≡ Some c → has_form form c ≡ true)
    → ((form : SegmentForm) (most : ℕ) (bytes : List ℕ) (e : PlainEntry) → page_at form most bytes ≡ Some (e.schema, e.segments) → has_digests form e.segments ≡ true)
    → (form : SegmentForm) (size : ℕ) (image : Image) (kind : CatalogueKind) (text : List ℕ) (c : PlainCatalogue) → by_kind kind form size image text ≡ Ok c → has_form form c ≡ true
read_formed lists pages form size image Whole text c is = lists form text c (text_there (catalogue_at form text) c is)
read_formed lists pages form size image Pages text c is =
    let x = bound_ok (or_no_text (root_at text)) (pages_at form size image MAX_SEGMENTS) c is in
    pages_formed pages form size image MAX_SEGMENTS x.0 c x.2

-- ---- what was read is a catalogue

-- a run on a device of a store has numbers of 64 bits
pub extent_filled : (size : ℕ) (p : Extent) → is_size size ≡ true → is_extent size 8 p ≡ true → is_filled 8 p ≡ true
extent_filled size p limits is =
    let parts = and_parts (nat_le 8 p.bytes) ((p.run.count == sector_count p.bytes) && is_on_device size p.run) is in
    let own = and_parts (p.run.count == sector_count p.bytes) (is_on_device size p.run) parts.1 in
    let on = and_parts (nat_le 2 p.run.start) (nat_le 1 p.run.count && nat_le (p.run.start + p.run.count) size) own.1 in
    let ends : p.run.start + p.run.count ≤ size = leb-true _ _ (and_parts (nat_le 1 p.run.count) (nat_le (p.run.start + p.run.count) size) on.1).1 in
    let most : size ≤ 4194304 = leb-true _ _ (and_parts (nat_le 16 size) (nat_le size 4194304) limits).1 in
    let count : p.run.count ≡ sector_count p.bytes = eqb-true _ _ own.0 in
    and_from (nat_lt p.run.start (2 ^ 64) && nat_lt p.bytes (2 ^ 64)) (nat_le 8 p.bytes && (p.run.count == sector_count p.bytes))
    (and_from (nat_lt p.run.start (2 ^ 64)) (nat_lt p.bytes (2 ^ 64)) (lt-ltb _ _ (omega (arith, ends, most))) (lt-ltb _ _ (omega (arith, ends, most, count))))
    (and_from (nat_le 8 p.bytes) (p.run.count == sector_count p.bytes) parts.0 own.0)

-- a table of this name and page, whose body was read
pub table_stands : (name : List ℕ) (p : Extent) (b : Body) → is_name name ≡ true → is_within_limits b.0 ≡ true → list_all is_segment b.1 ≡ true → is_filled 8 p ≡ true → is_entry (entry_from name (Some p) b) ≡ true
table_stands name p b named limits sound filled =
    and_from (is_name name) (is_within_limits b.0 && (list_all is_segment b.1 && is_page (Some p))) named
    (and_from (is_within_limits b.0) (list_all is_segment b.1 && is_page (Some p)) limits (and_from (list_all is_segment b.1) (is_page (Some p)) sound filled))

record AreRead (most : ℕ) (rs : List PlainRoot) (c : PlainCatalogue) : Type 0 where
  pub entries : list_all is_entry c ≡ true
  pub names : names_of c ≡ root_names rs
  pub number : length c ≡ length rs
  pub few : segment_count c ≤ most

pages_are : (form : SegmentForm) (size : ℕ) (image : Image) (most : ℕ) (rs : List PlainRoot) (c : PlainCatalogue) → is_size size ≡ true → list_all (λ (r : PlainRoot). is_name r.name) rs ≡ true → pages_at form size image most rs ≡ Ok c → AreRead most rs c
unfolding pages_at
pages_are form size image most [] c limits named is =
    let none : [] ≡ c = cc is in
    subst (λ (d : PlainCatalogue). AreRead most [] d) none (record { entries = refl; names = refl; number = refl; few = omega arith })
pages_are form size image most (r ∷ rs) c limits named is =
    let x = bound_ok (page_in form size image most r.page)
    (λ body. then_read (pages_at form size image (most - length body.1) rs) (λ others. Ok (entry_from r.name (Some r.page) body ∷ others))) c is in
    let y = bound_ok (pages_at form size image (most - length x.0.1) rs) (λ others. Ok (entry_from r.name (Some r.page) x.0 ∷ others)) c x.2 in
    let whole : entry_from r.name (Some r.page) x.0 ∷ y.0 ≡ c = cc y.2 in
    let names = and_parts (is_name r.name) (list_all (λ (s : PlainRoot). is_name s.name) rs) named in
    let others = pages_are form size image (most - length x.0.1) rs y.0 limits names.1 y.1 in
    let z = bound_ok (extent_at size image 8 r.page) (λ bytes. or_no_text (page_at form most bytes)) x.0 x.1 in
    let b = body_is form most z.0 x.0 (text_there (page_at form most z.0) x.0 z.2) in
    let e : PlainEntry = entry_from r.name (Some r.page) x.0 in
    let sound : is_entry e ≡ true = table_stands r.name r.page x.0 names.0 b.limits b.sound (extent_filled size r.page limits (bytes_are size image 8 r.page z.0 z.1).extent) in
    let within = b.few in
    let left = others.few in
    let many = others.number in
    subst (λ (d : PlainCatalogue). AreRead most (r ∷ rs) d) whole (record {
      entries = and_from (is_entry e) (list_all is_entry y.0) sound others.entries;
      names = ap (λ (ns : List (List ℕ)). r.name ∷ ns) others.names;
      number = omega (arith, many);
      few = omega (arith, within, left, sum_by-cons (λ (d : PlainEntry). length d.segments) e y.0);
    })

pub read_stands : ((form : SegmentForm) (bytes : List ℕ) (c : PlainCatalogue) → catalogue_at form bytes ≡ Some c → IsCatalogue c) → ((bytes : List ℕ) (rs : List PlainRoot) → root_at bytes ≡ Some rs → AreTables rs)
    → (form : SegmentForm) (size : ℕ) (image : Image) (kind : CatalogueKind) (text : List ℕ) (c : PlainCatalogue) → is_size size ≡ true → by_kind kind form size image text ≡ Ok c → IsCatalogue c
read_stands lists roots form size image Whole text c limits is = lists form text c (text_there (catalogue_at form text) c is)
read_stands lists roots form size image Pages text c limits is =
    let x = bound_ok (or_no_text (root_at text)) (pages_at form size image MAX_SEGMENTS) c is in
    let root = roots text x.0 (text_there (root_at text) x.0 x.1) in
    let read = pages_are form size image MAX_SEGMENTS x.0 c limits root.named x.2 in
    let tables = root.tables in
    let number = read.number in
    record { entries = read.entries; order = ap ascends read.names ∙ root.order; tables = omega (arith, tables, number); segments = read.few }
