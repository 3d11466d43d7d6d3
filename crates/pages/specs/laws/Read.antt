-- Pages that were read hold what was read, and are read again.
use Rattle.std.specs.Prelude.{if◌then◌else◌, ◌≡◌, ◌≤◌, ◌<◌, ◌+◌, ◌-◌, ◌&&◌, ◌==◌, ℕ, Bool, true, false, nat_le, List, [], ◌∷◌, ◌++◌, length, Option, Some, None, Result, Ok, Err, refl}
use Rattle.std.specs.List.{list_all, AllByRecursion}
use Rattle.std.proofs.Common.{sym, ap, ◌∙◌, subst, arith}
use Rattle.std.proofs.lemmas.Bool.{and_parts, and_from, leb-true, le-leb, eqb-true, cond-true}
use Rattle.std.proofs.lemmas.List.Sums.{sum_by-cons}
use Rattle.sector_dev.specs.Disk.{Image}
use Rattle.arrow_schema.specs.Column.{PlainSchema}
use Rattle.segments.specs.declared.extent.Extent.{Extent}
use Rattle.segments.specs.Sectors.{sector_count, bytes_at}
use Rattle.segments.specs.laws.ReadBack.{same_bytes}
use Rattle.catalogue.specs.declared.entry.SegmentForm.{SegmentForm}
use Rattle.catalogue.specs.Schemas.{is_within_limits}
use Rattle.catalogue.specs.declared.entry.Segment.{Segment}
use Rattle.catalogue.specs.Entries.{PlainEntry, PlainCatalogue, PlainRoot, is_segment, segment_count}
use Rattle.catalogue.specs.Reading.{◌>>=◌, body_at, page_at, entry_from}
use Rattle.commit.specs.declared.cause.Cause.{Cause}
use Rattle.commit.specs.declared.cause.Cause.TheVariants.{CatalogueRange}
use Rattle.commit.specs.Standing.{is_extent, is_on_device, readable, extent_at}
use Rattle.pages.specs.Paging.{root_of}
use Rattle.pages.specs.Stored.{then_read, or_no_text, page_in, pages_at, HoldsPage, HoldsPages}

-- the value of a step that succeeded
pub bound_ok : {A B : Type 0} (o : Result A Cause) (f : A → Result B Cause) (y : B) → then_read o f ≡ Ok y → (x : A) × (o ≡ Ok x) × (f x ≡ Ok y)
bound_ok (Err cause) f y is = absurd (cc is)
bound_ok (Ok x) f y is = (x, refl, is)

pub then_ok : {A B : Type 0} (o : Result A Cause) (f : A → Result B Cause) (x : A) (y : Result B Cause) → o ≡ Ok x → f x ≡ y → then_read o f ≡ y
then_ok o f x y is next = ap (λ p. then_read p f) is ∙ next

pub text_there : {A : Type 0} (o : Option A) (x : A) → or_no_text o ≡ Ok x → o ≡ Some x
text_there None x is = absurd (cc is)
text_there (Some y) x is = let same : y ≡ x = cc is in ap Some same

-- ---- the text of a page

abbrev pub Body : Type 0
Body = PlainSchema × List Segment

abbrev passes : ℕ → Body × List ℕ → Bool
passes most x = (length x.1 == 0) && (is_within_limits x.0.0 && (list_all is_segment x.0.1 && nat_le (length x.0.1) most))

pub record IsBody (form : SegmentForm) (bytes : List ℕ) (most : ℕ) (b : Body) : Type 0 where
  pub rest : List ℕ
  pub body : body_at form bytes ≡ Some (b, rest)
  pub none : (length rest == 0) ≡ true
  pub limits : is_within_limits b.0 ≡ true
  pub sound : list_all is_segment b.1 ≡ true
  pub few : length b.1 ≤ most

pub body_is : (form : SegmentForm) (most : ℕ) (bytes : List ℕ) (b : Body) → page_at form most bytes ≡ Some b → IsBody form bytes most b
unfolding page_at
body_is form most bytes b is = by_body (body_at form bytes) refl is
  where
    by_test : (x : Body × List ℕ) (t : Bool) → body_at form bytes ≡ Some x → passes most x ≡ t → (if t then Some x.0 else None) ≡ Some b → IsBody form bytes most b
    by_test x true found ok h =
        let same : x.0 ≡ b = cc h in
        let parts = and_parts (length x.1 == 0) (is_within_limits x.0.0 && (list_all is_segment x.0.1 && nat_le (length x.0.1) most)) ok in
        let rest = and_parts (is_within_limits x.0.0) (list_all is_segment x.0.1 && nat_le (length x.0.1) most) parts.1 in
        let last = and_parts (list_all is_segment x.0.1) (nat_le (length x.0.1) most) rest.1 in
        subst (λ (y : Body). IsBody form bytes most y) same
        (record { rest = x.1; body = found; none = parts.0; limits = rest.0; sound = last.0; few = leb-true _ _ last.1 })
    by_test x false found ok h = absurd (cc h)

    by_body : (o : Option (Body × List ℕ)) → body_at form bytes ≡ o → page_at form most bytes ≡ Some b → IsBody form bytes most b
    by_body None found h = absurd (cc (h, found))
    by_body (Some x) found h = by_test x (passes most x) found refl ((λ i. (sym found i) >>= (λ (y : Body × List ℕ). if passes most y then Some y.0 else None)) ∙ h)

pub is_body : (form : SegmentForm) (most : ℕ) (bytes : List ℕ) (b : Body) → IsBody form bytes most b → page_at form most bytes ≡ Some b
unfolding page_at
is_body form most bytes b is =
    (λ i. (is.body i) >>= (λ (y : Body × List ℕ). if passes most y then Some y.0 else None))
    ∙ cond-true (passes most (b, is.rest)) (Some b) None
    (and_from _ _ is.none (and_from _ _ is.limits (and_from _ _ is.sound (le-leb _ _ is.few))))

-- with another limit that its segments do not exceed
pub page_most : (form : SegmentForm) (m n : ℕ) (bytes : List ℕ) (b : Body) → page_at form m bytes ≡ Some b → length b.1 ≤ n → page_at form n bytes ≡ Some b
page_most form m n bytes b is few =
    let x = body_is form m bytes b is in
    is_body form n bytes b (record { rest = x.rest; body = x.body; none = x.none; limits = x.limits; sound = x.sound; few = few })

pub page_in_most : (form : SegmentForm) (size : ℕ) (image : Image) (m n : ℕ) (p : Extent) (b : Body) → page_in form size image m p ≡ Ok b → length b.1 ≤ n → page_in form size image n p ≡ Ok b
page_in_most form size image m n p b is few =
    let x = bound_ok (extent_at size image 8 p) (λ bytes. or_no_text (page_at form m bytes)) b is in
    then_ok (extent_at size image 8 p) (λ bytes. or_no_text (page_at form n bytes)) x.0 (Ok b) x.1 (ap or_no_text (page_most form m n x.0 b (text_there (page_at form m x.0) b x.2) few))

-- ---- pages that were read hold what was read

pub read_holds : (form : SegmentForm) (size : ℕ) (image : Image) (most : ℕ) (rs : List PlainRoot) (c : PlainCatalogue) → pages_at form size image most rs ≡ Ok c → HoldsPages form size image c
unfolding pages_at
read_holds form size image most [] c is = let none : [] ≡ c = cc is in subst (λ (d : PlainCatalogue). HoldsPages form size image d) none tt
read_holds form size image most (r ∷ rs) c is =
    let x = bound_ok (page_in form size image most r.page)
    (λ body. then_read (pages_at form size image (most - length body.1) rs) (λ others. Ok (entry_from r.name (Some r.page) body ∷ others))) c is in
    let y = bound_ok (pages_at form size image (most - length x.0.1) rs) (λ others. Ok (entry_from r.name (Some r.page) x.0 ∷ others)) c x.2 in
    let whole : entry_from r.name (Some r.page) x.0 ∷ y.0 ≡ c = cc y.2 in
    let first : HoldsPage form size image (entry_from r.name (Some r.page) x.0) = λ p here.
    let same : r.page ≡ p = cc here in
    subst (λ (q : Extent). page_in form size image (length x.0.1) q ≡ Ok x.0) same (page_in_most form size image most (length x.0.1) r.page x.0 x.1 (omega arith)) in
    subst (λ (d : PlainCatalogue). HoldsPages form size image d) whole (first, read_holds form size image (most - length x.0.1) rs y.0 y.1)

-- ---- and are read again

-- the entry has a page that holds its schema and segments
abbrev pub HasPage : SegmentForm → ℕ → Image → PlainEntry → Type 0
HasPage form size image e = (p : Extent) × (e.page ≡ Some p) × (page_in form size image (length e.segments) p ≡ Ok (e.schema, e.segments))

pub pages_again : (form : SegmentForm) (size : ℕ) (image : Image) (most : ℕ) (c : PlainCatalogue) → AllByRecursion (HasPage form size image) c → segment_count c ≤ most → pages_at form size image most (root_of c) ≡ Ok c
unfolding pages_at
pages_again form size image most [] all few = refl
pages_again form size image most (e ∷ es) all few =
    let p : Extent = all.0.0 in
    let here : e.page ≡ Some p = all.0.1 in
    let count : segment_count (e ∷ es) ≡ length e.segments + segment_count es = sum_by-cons (λ (x : PlainEntry). length x.segments) e es in
    let root : root_of (e ∷ es) ≡ record { name = e.name; page = p } ∷ root_of es = ap (λ (o : Option Extent). elim o [ None ↦ [] | Some q ↦ record { name = e.name; page = q } ∷ [] ] ++ root_of es) here in
    let one : page_in form size image most p ≡ Ok (e.schema, e.segments) = page_in_most form size image (length e.segments) most p (e.schema, e.segments) all.0.2 (omega (arith, count, few)) in
    let rest = pages_again form size image (most - length e.segments) es all.1 (omega (arith, count, few)) in
    let entry : entry_from e.name (Some p) (e.schema, e.segments) ≡ e = λ i. record { name = e.name; schema = e.schema; segments = e.segments; page = sym here i } in
    ap (pages_at form size image most) root
    ∙ then_ok (page_in form size image most p) (λ body. then_read (pages_at form size image (most - length body.1) (root_of es)) (λ others. Ok (entry_from e.name (Some p) body ∷ others))) (e.schema, e.segments) (Ok (e ∷ es)) one
    (then_ok (pages_at form size image (most - length e.segments) (root_of es)) (λ others. Ok (entry_from e.name (Some p) (e.schema, e.segments) ∷ others)) es (Ok (e ∷ es)) rest (λ i. Ok (entry i ∷ es)))

-- ---- in another image with the same sectors

pub record HasBytes (size : ℕ) (image : Image) (least : ℕ) (e : Extent) (bytes : List ℕ) : Type 0 where
  pub extent : is_extent size least e ≡ true
  pub read : bytes_at image e.run.start e.bytes ≡ Some bytes

pub bytes_are : (size : ℕ) (image : Image) (least : ℕ) (e : Extent) (bytes : List ℕ) → extent_at size image least e ≡ Ok bytes → HasBytes size image least e bytes
bytes_are size image least e bytes is = by_tests (is_extent size least e) (bytes_at image e.run.start e.bytes) refl refl is
  where
    by_tests : (x : Bool) (o : Option (List ℕ)) → is_extent size least e ≡ x → bytes_at image e.run.start e.bytes ≡ o → (if x then readable o else Err CatalogueRange) ≡ Ok bytes → HasBytes size image least e bytes
    by_tests true (Some found) x r is = let same : found ≡ bytes = cc is in record { extent = x; read = r ∙ ap Some same }
    by_tests true None x r is = absurd (cc is)
    by_tests false o x r is = absurd (cc is)

pub has_bytes : (size : ℕ) (image : Image) (least : ℕ) (e : Extent) (bytes : List ℕ) → HasBytes size image least e bytes → extent_at size image least e ≡ Ok bytes
has_bytes size image least e bytes h = λ i. if h.extent i then readable (h.read i) else Err CatalogueRange

pub record IsExtent (size least : ℕ) (e : Extent) : Type 0 where
  pub count : e.run.count ≡ sector_count e.bytes
  pub on : is_on_device size e.run ≡ true

pub extent_is : (size least : ℕ) (e : Extent) → is_extent size least e ≡ true → IsExtent size least e
extent_is size least e is =
    let parts = and_parts (nat_le least e.bytes) ((e.run.count == sector_count e.bytes) && is_on_device size e.run) is in
    let rest = and_parts (e.run.count == sector_count e.bytes) (is_on_device size e.run) parts.1 in
    record { count = eqb-true e.run.count (sector_count e.bytes) rest.0; on = rest.1 }

pub same_extent : (size : ℕ) (a b : Image) (least : ℕ) (e : Extent) (bytes : List ℕ) → extent_at size a least e ≡ Ok bytes → ((n : ℕ) → e.run.start ≤ n → n < e.run.start + e.run.count → b n ≡ a n) → extent_at size b least e ≡ Ok bytes
same_extent size a b least e bytes is same =
    let h = bytes_are size a least e bytes is in
    let count = (extent_is size least e h.extent).count in
    has_bytes size b least e bytes (record {
      extent = h.extent;
      read = same_bytes b a e.run.start e.bytes (λ j lt. same (e.run.start + j) (omega arith) (omega (arith, count, lt))) ∙ h.read;
    })

pub same_page : (form : SegmentForm) (size : ℕ) (a b : Image) (most : ℕ) (p : Extent) (body : Body) → page_in form size a most p ≡ Ok body → ((n : ℕ) → p.run.start ≤ n → n < p.run.start + p.run.count → b n ≡ a n) → page_in form size b most p ≡ Ok body
same_page form size a b most p body is same =
    let x = bound_ok (extent_at size a 8 p) (λ bytes. or_no_text (page_at form most bytes)) body is in
    then_ok (extent_at size b 8 p) (λ bytes. or_no_text (page_at form most bytes)) x.0 (Ok body) (same_extent size a b 8 p x.0 x.1 same) x.2
