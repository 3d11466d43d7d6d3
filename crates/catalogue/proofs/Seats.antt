-- Entries of the code, and their places.
use Rattle.std.proofs.Common.{◌≡◌, ◌≤◌, ◌<◌, ◌+◌, ◌++◌, ℕ, true, false, List, [], ◌∷◌, length, get_or, set, insert, remove, take, map, Option, Some, None, Ok, Err, refl, sym, ap, subst, ◌∙◌, arith}
use Rattle.std.specs.Prelude.{nat_le, Result, OnOk, OnErr}
use Rattle.std.specs.List.{list_all}
use Rattle.std.proofs.lemmas.Bool.{lt-leb}
use Rattle.std.proofs.lemmas.List.{length-map, map-set}
use Rattle.std.proofs.Math.Seq.{map-set_same}
use Rattle.catalogue.specs.declared.entry.TableEntry.{TableEntry}
use Rattle.catalogue.specs.Entries.{PlainEntry, PlainCatalogue, plain_entry, is_name, is_segment, segment_count, is_catalogue}
use Rattle.catalogue.specs.declared.entry.Segment.{Segment}
use Rattle.catalogue.specs.declared.limits.TheConstants.{MAX_SEGMENTS}
use Rattle.catalogue.specs.Edits.{entry_of, with_entry, without, named, renamed, with_segments, with_more, with_others, with_exchanged}
use Rattle.catalogue.specs.inner.Places.{place_of, seat_of}
use Rattle.catalogue.proofs.Standing.{seated, gap, placed, set_segments, map_insert, map_remove, map_at}
use Rattle.catalogue.proofs.Rows.{counted_within}
use Rattle.catalogue.specs.laws.Changed.{renamed_stands, more_is, more_none, more_stands, exchanged_is}
use Rattle.catalogue.specs.laws.Sums.{refilled}

pub record Seated (es : List TableEntry) (e : TableEntry) (place : ℕ) : Type 0 where
  pub within : place < length es
  pub put : map plain_entry (set es place e) ≡ with_entry (map plain_entry es) (plain_entry e)
  pub stood : (d : TableEntry) → entry_of (map plain_entry es) ((plain_entry e).name) ≡ Some (plain_entry (get_or es place d))

pub seat_in : (es : List TableEntry) (e : TableEntry) (place : ℕ) → seat_of ((plain_entry e).name) 0 (map plain_entry es) ≡ Ok place → Seated es e place
seat_in es e place h =
    let s = seated (map plain_entry es) (plain_entry e) 0 place h in
    let at : s.index ≡ place = let p = s.is in omega arith in
    let here = subst (λ k. set (map plain_entry es) k (plain_entry e) ≡ with_entry (map plain_entry es) (plain_entry e)) at s.put in
    let len = length-map es plain_entry in
    record {
      within = let w = s.within in omega arith;
      put = map-set plain_entry es place e ∙ here;
      stood = λ d. s.stood (plain_entry d) ∙ ap (λ k. Some (get_or (map plain_entry es) k (plain_entry d))) at ∙ ap Some (map_at plain_entry es place d);
    }

pub record Gapped (es : List TableEntry) (e : TableEntry) (place : ℕ) : Type 0 where
  pub within : place ≤ length es
  pub put : map plain_entry (insert es place e) ≡ with_entry (map plain_entry es) (plain_entry e)

pub gap_in : (es : List TableEntry) (e : TableEntry) (place : ℕ) → seat_of ((plain_entry e).name) 0 (map plain_entry es) ≡ Err place → Gapped es e place
gap_in es e place h =
    let s = gap (map plain_entry es) (plain_entry e) 0 place h in
    let at : s.index ≡ place = let p = s.is in omega arith in
    let here = subst (λ k. insert (map plain_entry es) k (plain_entry e) ≡ with_entry (map plain_entry es) (plain_entry e)) at s.put in
    let len = length-map es plain_entry in
    let within : place ≤ length es = let w = s.within in omega arith in
    record { within = within; put = map_insert plain_entry es place e within ∙ here }

pub record Placed (es : List TableEntry) (name : List ℕ) (place : ℕ) : Type 0 where
  pub within : place < length es
  pub removed : map plain_entry (remove es place) ≡ without (map plain_entry es) name
  pub stood : (d : TableEntry) → entry_of (map plain_entry es) name ≡ Some (plain_entry (get_or es place d))

pub place_in : (es : List TableEntry) (name : List ℕ) (place : ℕ) → place_of name 0 (map plain_entry es) ≡ Some place → Placed es name place
place_in es name place h =
    let s = placed (map plain_entry es) name 0 place h in
    let at : s.index ≡ place = let p = s.is in omega arith in
    let here = subst (λ k. remove (map plain_entry es) k ≡ without (map plain_entry es) name) at s.removed in
    let len = length-map es plain_entry in
    let within : place < length es = let w = s.within in omega arith in
    record {
      within = within;
      removed = map_remove plain_entry es place within ∙ here;
      stood = λ d. s.stood (plain_entry d) ∙ ap (λ k. Some (get_or (map plain_entry es) k (plain_entry d))) at ∙ ap Some (map_at plain_entry es place d);
    }

-- one entry more than fits
pub too_many : (es : List TableEntry) (i left most : ℕ) (x : TableEntry) → i < length es → x ≡ get_or es i x → segment_count (map plain_entry (take i es)) + left ≡ most → left < length (plain_entry x).segments → nat_le (segment_count (map plain_entry es)) most ≡ false
too_many es i left most x lt is so_far more = lt-leb (segment_count (map plain_entry es)) most (let within = counted_within es i x lt is in omega (arith, within, so_far, more))

-- ---- results of changes

pub changed_kept : {A B : Type 0} (r : Result A B) (old new changed : PlainCatalogue) → OnOk r (new ≡ changed) → OnErr r (new ≡ old) → is_catalogue old ≡ true → is_catalogue changed ≡ true → is_catalogue new ≡ true
changed_kept (Ok x) old new changed put err kept stands = ap is_catalogue put ∙ stands
changed_kept (Err x) old new changed put err kept stands = ap is_catalogue err ∙ kept

pub renamed_kept : (c : PlainCatalogue) (from to : List ℕ) → is_catalogue c ≡ true → is_name to ≡ true → is_catalogue (renamed c from to) ≡ true
renamed_kept c from to kept name = by_entry (entry_of c from) refl
  where
    by_entry : (o : Option PlainEntry) → entry_of c from ≡ o → is_catalogue (elim o [ None ↦ c | Some e ↦ with_entry (without c from) (named to e) ]) ≡ true
    by_entry None h = kept
    by_entry (Some e) h = renamed_stands c from to e kept name h

pub more_kept : {A B : Type 0} (r : Result A B) (old new : PlainCatalogue) (name : List ℕ) (more : List Segment) → OnOk r (new ≡ with_more old name more) → OnErr r (new ≡ old) → is_catalogue old ≡ true → list_all is_segment more ≡ true
    → segment_count old + length more ≤ MAX_SEGMENTS → is_catalogue new ≡ true
more_kept (Ok x) old new name more put err kept each most = ap is_catalogue put ∙ by_entry (entry_of old name) refl
  where
    by_entry : (o : Option PlainEntry) → entry_of old name ≡ o → is_catalogue (with_more old name more) ≡ true
    by_entry None h = ap is_catalogue (more_none old name more h) ∙ kept
    by_entry (Some e) h = more_stands old name e more kept h each most
more_kept (Err x) old new name more put err kept each most = ap is_catalogue err ∙ kept

-- the entry at its place has other segments
refilled_at : (es : List TableEntry) (name : List ℕ) (place : ℕ) (x new : TableEntry) (segments : List Segment) → place_of name 0 (map plain_entry es) ≡ Some place → x ≡ get_or es place x
    → plain_entry new ≡ refilled (plain_entry x) segments → map plain_entry (set es place new) ≡ with_segments (map plain_entry es) name segments
refilled_at es name place x new segments h is new_is =
    let c = map plain_entry es in
    let at : get_or c place (plain_entry x) ≡ plain_entry x = map_at plain_entry es place x ∙ ap plain_entry (sym is) in
    map-set plain_entry es place new
    ∙ ap (set c place) new_is
    ∙ ap (λ (e : PlainEntry). set c place (refilled e segments)) (sym at)
    ∙ set_segments c name 0 place place (plain_entry x) segments h (omega arith)

stood_at : (es : List TableEntry) (name : List ℕ) (place : ℕ) (x : TableEntry) → place_of name 0 (map plain_entry es) ≡ Some place → x ≡ get_or es place x → entry_of (map plain_entry es) name ≡ Some (plain_entry x)
stood_at es name place x h is = (place_in es name place h).stood x ∙ ap (λ (e : TableEntry). Some (plain_entry e)) (sym is)

-- after `append_more`: it has more
pub more_at : {A B : Type 0} (r : Result A B) (es : List TableEntry) (name : List ℕ) (place : ℕ) (x new : TableEntry) (more : List Segment) → (length more ≡ 0 → ⊥) → place_of name 0 (map plain_entry es) ≡ Some place → x ≡ get_or es place x
    → OnOk r (plain_entry new ≡ refilled (plain_entry x) ((plain_entry x).segments ++ more)) → OnOk r (map plain_entry (set es place new) ≡ with_more (map plain_entry es) name more)
more_at (Ok y) es name place x new [] some h is new_is = absurd (some refl)
more_at (Ok y) es name place x new (s ∷ more) some h is new_is =
    refilled_at es name place x new ((plain_entry x).segments ++ s ∷ more) h is new_is ∙ sym (more_is (map plain_entry es) name (plain_entry x) s more (stood_at es name place x h is))
more_at (Err y) es name place x new more some h is new_is = tt

-- after `exchange`: some of them were exchanged
pub exchanged_at : {A B : Type 0} (r : Result A B) (es : List TableEntry) (name : List ℕ) (at : ℕ) (x new : TableEntry) (place count : ℕ) (others : List Segment) → place_of name 0 (map plain_entry es) ≡ Some at → x ≡ get_or es at x
    → OnOk r (plain_entry new ≡ refilled (plain_entry x) (with_others (plain_entry x).segments place count others))
    → OnOk r (map plain_entry (set es at new) ≡ with_exchanged (map plain_entry es) name place count others)
exchanged_at (Ok y) es name at x new place count others h is new_is =
    refilled_at es name at x new (with_others (plain_entry x).segments place count others) h is new_is
    ∙ sym (exchanged_is (map plain_entry es) name (plain_entry x) (stood_at es name at x h is) place count others)
exchanged_at (Err y) es name at x new place count others h is new_is = tt

-- after either: all is as it was
pub kept_at : {A B : Type 0} (r : Result A B) (es : List TableEntry) (at : ℕ) (x new : TableEntry) → x ≡ get_or es at x → OnErr r (plain_entry new ≡ plain_entry x) → OnErr r (map plain_entry (set es at new) ≡ map plain_entry es)
kept_at (Ok y) es at x new is same = tt
kept_at (Err y) es at x new is same = map-set_same plain_entry es at new x (same ∙ ap plain_entry is)
