-- The story with the writes in a buffer.
use Rattle.std.proofs.Common.{◌≡◌, ◌≢◌, ◌<◌, ◌≤◌, ◌+◌, ◌-◌, ℕ, Bool, true, false, if◌then◌else◌, List, [], ◌∷◌, ◌++◌, Option, Some, None, length, suc, refl, ap, sym, ◌∙◌, arith, ⊎_elim, inl, inr, ◌⊎◌, length-append}
use Rattle.std.specs.Prelude.{slice_get, slice_index_or, nat_lt}
use Rattle.std.specs.Bool.{OnTrue}
use Rattle.std.specs.Option.{option_or}
use Rattle.std.proofs.lemmas.Bool.{cases_lt, cases_eq}
use Rattle.std.proofs.lemmas.Bool.Decides.{nat_tests}
use Rattle.sector_dev.specs.Disk.{Disk, Sector, Story, now, put, AreContents}
use Rattle.sector_dev.specs.Rows.{SectorWrite, content_from, row_from, write_done, grown}
use Rattle.sector_dev.specs.Buffer.{content_in}
use Rattle.sector_dev.specs.Behind.{ReadsAs, with_buffered}
use Rattle.sector_dev.specs.laws.Crash.{put_same, put_other}
use Rattle.sector_dev.specs.declared.buffer.SectorBuffer.{SectorBuffer}

-- ---- the content of a sector of a row

pub above_start : (start k : ℕ) (xs : List (List ℕ)) → start ≤ k → content_from start xs k ≡ slice_get xs (k - start)
above_start start k xs le = let above : nat_lt k start ≡ false = grind (arith, nat_tests) in ap (λ (b : Bool). if b then None else slice_get xs (k - start)) above

pub below_start : (start k : ℕ) (xs : List (List ℕ)) → k < start → content_from start xs k ≡ None
below_start start k xs lt = let below : nat_lt k start ≡ true = grind (arith, nat_tests) in ap (λ (b : Bool). if b then None else slice_get xs (k - start)) below

pub here_in : (start : ℕ) (c : List ℕ) (cs : List (List ℕ)) → content_from start (c ∷ cs) start ≡ Some c
here_in start c cs = let none : start - start ≡ 0 = omega arith in above_start start start (c ∷ cs) (omega arith) ∙ ap (slice_get (c ∷ cs)) none

pub later_in : (start n : ℕ) (c : List ℕ) (cs : List (List ℕ)) → n ≢ start → content_from start (c ∷ cs) n ≡ content_from (start + 1) cs n
later_in start n c cs other =
    ⊎_elim {C = content_from start (c ∷ cs) n ≡ content_from (start + 1) cs n}
    (λ (below : n < start). below_start start n (c ∷ cs) below ∙ sym (below_start (start + 1) n cs (omega arith)))
    (λ (le : start ≤ n).
    let next : n - start ≡ suc (n - (start + 1)) = omega arith in
    above_start start n (c ∷ cs) le ∙ ap (slice_get (c ∷ cs)) next ∙ sym (above_start (start + 1) n cs (omega arith)))
    (cases_lt n start)

-- ---- what reads return after the writes of a row

-- a sector outside the row is as it was
pub row_other : (start : ℕ) (cs : List (List ℕ)) (s : Story) (n : ℕ) → content_from start cs n ≡ None → (now (grown (row_from start cs) s)).at n ≡ (now s).at n
row_other start [] s n none = refl
row_other start (c ∷ cs) s n none =
    ⊎_elim {C = (now (grown (row_from start (c ∷ cs)) s)).at n ≡ (now s).at n}
    (λ (here : n ≡ start). absurd (cc (sym none ∙ ap (content_from start (c ∷ cs)) here ∙ here_in start c cs)))
    (λ (other : n ≢ start).
    row_other (start + 1) cs (write_done (record { sector = start; content = c }) s) n (sym (later_in start n c cs other) ∙ none)
    ∙ put_other (now s) start c (Some c) n other)
    (cases_eq n start)

-- a sector of the row has its content
pub row_shown : (start : ℕ) (cs : List (List ℕ)) (s : Story) (n : ℕ) (x : List ℕ) → content_from start cs n ≡ Some x → ((now (grown (row_from start cs) s)).at n).shown ≡ Some x
row_shown start [] s n x is = absurd (nothing (nat_lt n start) is)
  where
    nothing : (b : Bool) → (if b then None else slice_get [] (n - start)) ≡ Some x → ⊥
    nothing true is = cc is
    nothing false is = cc is
row_shown start (c ∷ cs) s n x is =
    ⊎_elim {C = ((now (grown (row_from start (c ∷ cs)) s)).at n).shown ≡ Some x}
    (λ (here : n ≡ start).
    let past : content_from (start + 1) cs n ≡ None = below_start (start + 1) n cs (omega arith) in
    ap (λ (sector : Sector). sector.shown) (row_other (start + 1) cs (write_done (record { sector = start; content = c }) s) n past)
    ∙ ap (λ (k : ℕ). ((put (now s) start c (Some c)).at k).shown) here
    ∙ ap (λ (sector : Sector). sector.shown) (put_same (now s) start c (Some c))
    ∙ sym (here_in start c cs) ∙ ap (content_from start (c ∷ cs)) (sym here) ∙ is)
    (λ (other : n ≢ start). row_shown (start + 1) cs (write_done (record { sector = start; content = c }) s) n x (sym (later_in start n c cs other) ∙ is))
    (cases_eq n start)

first_or : (P : Type 0) (a b : Option (List ℕ)) (c : List ℕ) → option_or a b ≡ Some c → (a ≡ Some c → P) → (a ≡ None → b ≡ Some c → P) → P
first_or P None b c is here there = there refl is
first_or P (Some x) b c is here there = here is

-- a content in memory is what the device shows
pub shown_in_memory : (writes ahead : SectorBuffer) (s : Story) (n : ℕ) (c : List ℕ) → ReadsAs (now s) ahead.start ahead.contents.items → option_or (content_in writes n) (content_in ahead n) ≡ Some c → ((now (with_buffered writes s)).at n).shown ≡ Some c
shown_in_memory writes ahead s n c reads is =
    first_or (((now (with_buffered writes s)).at n).shown ≡ Some c) (content_in writes n) (content_in ahead n) c is
    (λ here. row_shown writes.start writes.contents.items s n c here)
    (λ none there. ap (λ (sector : Sector). sector.shown) (row_other writes.start writes.contents.items s n none) ∙ reads n c there)

none_or : (a b : Option (List ℕ)) → option_or a b ≡ None → a ≡ None
none_or None b none = refl
none_or (Some x) b none = none

-- and so is one that the file gave for a sector that is not in memory
pub shown_in_file : (writes ahead : SectorBuffer) (s : Story) (n : ℕ) (c : List ℕ) → option_or (content_in writes n) (content_in ahead n) ≡ None → ReadsAs (now s) n (c ∷ []) → ((now (with_buffered writes s)).at n).shown ≡ Some c
shown_in_file writes ahead s n c none reads =
    ap (λ (sector : Sector). sector.shown) (row_other writes.start writes.contents.items s n (none_or (content_in writes n) (content_in ahead n) none))
    ∙ reads n c (here_in n c [])

-- nothing is read as
pub reads_none : (d : Disk) (start : ℕ) (cs : List (List ℕ)) → cs ≡ [] → ReadsAs d start cs
reads_none d start [] none = λ n c is. absurd (nothing n c (nat_lt n start) is)
  where
    nothing : (n : ℕ) (c : List ℕ) (b : Bool) → (if b then None else slice_get [] (n - start)) ≡ Some c → ⊥
    nothing n c true is = cc is
    nothing n c false is = cc is
reads_none d start (x ∷ xs) none = absurd (cc none)

-- ---- a longer row

grown_append : (ws vs : List SectorWrite) (s : Story) → grown (ws ++ vs) s ≡ grown vs (grown ws s)
grown_append [] vs s = refl
grown_append (w ∷ ws) vs s = grown_append ws vs (write_done w s)

row_append : (start n : ℕ) (cs ds : List (List ℕ)) → n ≡ start + length cs → row_from start (cs ++ ds) ≡ row_from start cs ++ row_from n ds
row_append start n [] ds is = ap (λ (k : ℕ). row_from k ds) (let e : start ≡ n = omega (arith, is) in e)
row_append start n (c ∷ cs) ds is = λ i. record { sector = start; content = c } ∷ row_append (start + 1) n cs ds (omega (arith, is)) i

-- sectors behind those of a buffer
pub buffered_more : (old new : SectorBuffer) (n : ℕ) (ds : List (List ℕ)) (s : Story) → new.start ≡ old.start → new.contents.items ≡ old.contents.items ++ ds → n ≡ old.start + length old.contents.items → with_buffered new s ≡ grown (row_from n ds) (with_buffered old s)
buffered_more old new n ds s place items is =
    (λ i. grown (row_from (place i) (items i)) s)
    ∙ ap (λ (ws : List SectorWrite). grown ws s) (row_append old.start n old.contents.items ds is)
    ∙ grown_append (row_from old.start old.contents.items) (row_from n ds) s

-- a buffer without contents
pub buffered_none : (b : SectorBuffer) (s : Story) → b.contents.items ≡ [] → with_buffered b s ≡ s
buffered_none b s none = ap (λ (cs : List (List ℕ)). grown (row_from b.start cs) s) none

-- a buffer that only an empty one's start tells apart
pub buffered_same : (old new : SectorBuffer) (s : Story) → new.contents.items ≡ old.contents.items → (new.start ≡ old.start) ⊎ (old.contents.items ≡ []) → with_buffered new s ≡ with_buffered old s
buffered_same old new s same (inl place) = λ i. grown (row_from (place i) (same i)) s
buffered_same old new s same (inr none) = buffered_none new s (same ∙ none) ∙ sym (buffered_none old s none)

pub are_append : (cs ds : List (List ℕ)) → AreContents cs → AreContents ds → AreContents (cs ++ ds)
are_append [] ds a b = b
are_append (c ∷ cs) ds a b = (a.0, are_append cs ds a.1 b)

-- sectors that were appended, where there was memory for them
pub story_appended : (r added : Bool) (start0 start n : ℕ) (old mid new ds : List (List ℕ)) → r ≡ added → new ≡ (if added then mid ++ ds else mid) → n ≡ start + length mid → mid ≡ old → (start ≡ start0) ⊎ (old ≡ []) → OnTrue r ((s : Story) → grown (row_from start new) s ≡ grown (row_from n ds) (grown (row_from start0 old) s))
story_appended true true start0 start n old mid new ds both is at same place = λ s.
    ap (λ (cs : List (List ℕ)). grown (row_from start cs) s) is
    ∙ ap (λ (ws : List SectorWrite). grown ws s) (row_append start n mid ds at)
    ∙ grown_append (row_from start mid) (row_from n ds) s
    ∙ ap (grown (row_from n ds)) (before place s)
  where
    before : (start ≡ start0) ⊎ (old ≡ []) → (s : Story) → grown (row_from start mid) s ≡ grown (row_from start0 old) s
    before (inl here) s = λ i. grown (row_from (here i) (same i)) s
    before (inr none) s = ap (λ (cs : List (List ℕ)). grown (row_from start cs) s) (same ∙ none) ∙ sym (ap (λ (cs : List (List ℕ)). grown (row_from start0 cs) s) none)
story_appended true false start0 start n old mid new ds both is at same place = absurd (cc both)
story_appended false added start0 start n old mid new ds both is at same place = tt

pub items_appended : (r added : Bool) (old mid new ds : List (List ℕ)) → r ≡ added → new ≡ (if added then mid ++ ds else mid) → mid ≡ old → OnTrue r (new ≡ old ++ ds)
items_appended true true old mid new ds both is same = is ∙ ap (λ (cs : List (List ℕ)). cs ++ ds) same
items_appended true false old mid new ds both is same = absurd (cc both)
items_appended false added old mid new ds both is same = tt

pub ends_appended : (r added : Bool) (start n : ℕ) (mid new ds : List (List ℕ)) → r ≡ added → new ≡ (if added then mid ++ ds else mid) → n ≡ start + length mid → OnTrue r (start + length new ≡ n + length ds)
ends_appended true true start n mid new ds both is at = let e = ap length is in let f = length-append mid ds in omega (arith, e, f, at)
ends_appended true false start n mid new ds both is at = absurd (cc both)
ends_appended false added start n mid new ds both is at = tt

pub shown_in_row : (writes ahead : SectorBuffer) (s : Story) (n : ℕ) (xs : List (List ℕ)) (d : List ℕ) → option_or (content_in writes n) (content_in ahead n) ≡ None → 1 ≤ length xs → ReadsAs (now s) n xs → ((now (with_buffered writes s)).at n).shown ≡ Some (slice_index_or xs 0 d)
shown_in_row writes ahead s n [] d none some reads = absurd (omega (arith, some))
shown_in_row writes ahead s n (x ∷ xs) d none some reads =
    ap (λ (sector : Sector). sector.shown) (row_other writes.start writes.contents.items s n (none_or (content_in writes n) (content_in ahead n) none))
    ∙ reads n x (here_in n x xs)
