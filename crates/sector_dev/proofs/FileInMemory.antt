-- What a file in memory holds, after a write and after a sync.
use Rattle.std.proofs.Common.{◌≡◌, ◌<◌, ◌≤◌, ◌+◌, ◌-◌, ℕ, Bool, true, false, if◌then◌else◌, List, [], ◌∷◌, ◌++◌, Option, Some, None, length, get_or, ap, refl, sym, ◌∙◌, arith, ⊎_elim, inl, inr, subst, ◌⊎◌, ◌≢◌, set, get_or-set_same, get_or-set_other, take}
use Rattle.std.specs.Prelude.{nat_lt, slice_get, IfSome}
use Rattle.std.specs.Bool.{OnTrue, OnFalse}
use Rattle.std.proofs.Math.Seq.{take-append_seam}
use Rattle.std.proofs.lemmas.Bool.{cases_lt, cases_eq}
use Rattle.std.proofs.lemmas.List.{get_or_default}
use Rattle.std.proofs.lemmas.Option.{slice_get_past, slice_get-get_or, slice_get_within, get_or_from_slice_get, none-some}
use Rattle.sector_dev.specs.Disk.{Disk, Sector, Story, now, put, AreContents, IsContent, IsWhole, Each, Flushes}
use Rattle.sector_dev.specs.Rows.{content_from, row_from, write_done, grown}
use Rattle.sector_dev.specs.Behind.{ReadsAs}
use Rattle.sector_dev.specs.FileHistory.{file_step, file_story, file_push, file_first, flushed_where, marked_at, SetsRow}
use Rattle.sector_dev.specs.History.{all_synced, content_at}
use Rattle.sector_dev.specs.inner.Newest.{ReadsNewest}
use Rattle.sector_dev.specs.inner.Stored.{never_written, stored_at, stored_of, settled, shown_in}
use Rattle.sector_dev.specs.laws.Behind.{row_whole}
use Rattle.sector_dev.specs.laws.FileHistory.{synced_if, marked_whole}
use Rattle.sector_dev.specs.laws.Crash.{flushed_whole, put_same, put_other}
use Rattle.sector_dev.specs.laws.Stories.{now_whole}
use Rattle.sector_dev.proofs.Agreement.{Agrees}
use Rattle.sector_dev.proofs.BufferedStory.{above_start, below_start, here_in, later_in, row_other}
use Rattle.sector_dev.specs.declared.stored.StoredSector.{StoredSector}
use Rattle.sector_dev.specs.declared.file_log.FileEvent.{FileEvent}

-- ---- after a write

-- what is stored of a sector of the row
row_stored : (start : ℕ) (cs : List (List ℕ)) (s : Story) (n : ℕ) (x : List ℕ) → content_from start cs n ≡ Some x → stored_of ((now (grown (row_from start cs) s)).at n) ≡ record { synced = ((now s).at n).synced; newest = Some x }
row_stored start [] s n x is = absurd (nothing (nat_lt n start) is)
  where
    nothing : (b : Bool) → (if b then None else slice_get [] (n - start)) ≡ Some x → ⊥
    nothing true is = cc is
    nothing false is = cc is
row_stored start (c ∷ cs) s n x is =
    ⊎_elim {C = stored_of ((now (grown (row_from start (c ∷ cs)) s)).at n) ≡ record { synced = ((now s).at n).synced; newest = Some x }}
    (λ (here : n ≡ start).
    let past : content_from (start + 1) cs n ≡ None = below_start (start + 1) n cs (omega arith) in
    ap stored_of (row_other (start + 1) cs (write_done (record { sector = start; content = c }) s) n past)
    ∙ ap (λ (k : ℕ). stored_of ((put (now s) start c (Some c)).at k)) here
    ∙ ap stored_of (put_same (now s) start c (Some c))
    ∙ ap (λ (k : ℕ). record { synced = ((now s).at k).synced; newest = Some c }) (sym here)
    ∙ ap (λ (o : Option (List ℕ)). record { synced = ((now s).at n).synced; newest = o }) (sym (here_in start c cs) ∙ ap (content_from start (c ∷ cs)) (sym here) ∙ is))
    (λ (other : n ≢ start).
    row_stored (start + 1) cs (write_done (record { sector = start; content = c }) s) n x (sym (later_in start n c cs other) ∙ is)
    ∙ ap (λ (sector : Sector). record { synced = sector.synced; newest = Some x }) (put_other (now s) start c (Some c) n other))
    (cases_eq n start)

pub agrees_row : (s : Story) (start : ℕ) (contents : List (List ℕ)) (old new : List StoredSector) → Agrees old (now s) → SetsRow start contents old new → Agrees new (now (grown (row_from start contents) s))
agrees_row s start contents old new agrees sets n =
    ⊎_elim {C = Goal}
    (λ (below : n < start). other (below_start start n contents below) (inl below))
    (λ (le : start ≤ n).
    ⊎_elim {C = Goal}
    (λ (in_row : n < start + length contents).
    sets.there n le in_row
    ∙ ap (λ (e : StoredSector). record { synced = e.synced; newest = Some (get_or contents (n - start) []) }) (agrees n)
    ∙ sym (row_stored start contents s n (get_or contents (n - start) []) (above_start start n contents le ∙ slice_get-get_or contents (n - start) [] (omega (arith, le, in_row)))))
    (λ (past : start + length contents ≤ n). other (above_start start n contents le ∙ slice_get_past contents (n - start) (omega (arith, le, past))) (inr past))
    (cases_lt n (start + length contents)))
    (cases_lt n start)
  where
    Goal : Type 0
    Goal = stored_at new n ≡ stored_of ((now (grown (row_from start contents) s)).at n)

    other : content_from start contents n ≡ None → (n < start) ⊎ (start + length contents ≤ n) → Goal
    other none out = sets.others n out ∙ agrees n ∙ ap stored_of (sym (row_other start contents s n none))

pub row_written : (s t : Story) (start : ℕ) (contents : List (List ℕ)) (old mid new after : List StoredSector) → Agrees old (now s) → ((n : ℕ) → stored_at mid n ≡ stored_at old n) → SetsRow start contents mid new → after ≡ new → t ≡ grown (row_from start contents) s → Agrees after (now t)
row_written s t start contents old mid new after agrees same sets is grows n =
    ap (λ (stored : List StoredSector). stored_at stored n) is
    ∙ agrees_row s start contents mid new (λ k. same k ∙ agrees k) sets n
    ∙ ap (λ (u : Story). stored_of ((now u).at n)) (sym grows)

-- what a slice of all sectors was written back as
pub front : (xs zs : List StoredSector) (n : ℕ) → n ≡ length xs → take n (xs ++ zs) ≡ xs
front xs zs n is = ap (λ (k : ℕ). take k (xs ++ zs)) is ∙ take-append_seam xs zs

-- ---- a read

pub reads_row : (d : Disk) (start : ℕ) (stored : List StoredSector) (to : List (List ℕ)) → Agrees stored d → ReadsNewest d → ((j : ℕ) → j < length to → shown_in (stored_at stored (start + j)) ≡ Some (get_or to j [])) → ReadsAs d start to
reads_row d start stored to agrees reads same n c is =
    ⊎_elim {C = (d.at n).shown ≡ Some c}
    (λ (below : n < start). absurd (none-some c (sym (below_start start n to below) ∙ is)))
    (λ (le : start ≤ n).
    let got : slice_get to (n - start) ≡ Some c = sym (above_start start n to le) ∙ is in
    let lt : n - start < length to = slice_get_within to (n - start) c got in
    let place : start + (n - start) ≡ n = omega (arith, le) in
    reads n
    ∙ ap shown_in (sym (agrees n))
    ∙ ap (λ (k : ℕ). shown_in (stored_at stored k)) (sym place)
    ∙ same (n - start) lt
    ∙ ap {A = List ℕ} Some (get_or_from_slice_get to (n - start) c [] got))
    (cases_lt n start)

-- ---- one call more in the log

pub logged : (r pushed : Bool) (old new : List FileEvent) (e : FileEvent) → r ≡ pushed → new ≡ (if pushed then old ++ e ∷ [] else old) → OnTrue r ((first : List (Option (List ℕ))) → file_story first new ≡ file_step e (file_story first old))
logged true true old new e same is = λ first. ap (file_story first) is ∙ file_push first old e
logged true false old new e same is = absurd (cc same)
logged false pushed old new e same is = tt

pub not_logged : (r pushed : Bool) (old new : List FileEvent) (e : FileEvent) → r ≡ pushed → new ≡ (if pushed then old ++ e ∷ [] else old) → OnFalse r (new ≡ old)
not_logged true pushed old new e same is = tt
not_logged false true old new e same is = absurd (cc same)
not_logged false false old new e same is = is

whole_row : (start : ℕ) (contents : List (List ℕ)) (old new : Story) → new ≡ grown (row_from start contents) old → AreContents contents → Each IsWhole old → Each IsWhole new
whole_row start contents old new is are each = subst (λ s. Each IsWhole s) (sym is) (row_whole start contents old are each)

whole_flushed : (old new : Story) → Flushes old new → Each IsWhole old → Each IsWhole new
whole_flushed old new is each = subst (λ s. Each IsWhole s) (sym is) (flushed_whole (now old) (now_whole old each), (now_whole old each, each))

pub row_is : (b : Bool) (new row ds : List (List ℕ)) → new ≡ (if b then row ++ ds else row) → b ≡ true → row ≡ [] → new ≡ ds
row_is true new row ds is took none = is ∙ ap (λ (xs : List (List ℕ)). xs ++ ds) none
row_is false new row ds is took none = absurd (cc took)

pub whole_logged : (r : Bool) (start : ℕ) (contents : List (List ℕ)) (old new : List FileEvent) → OnTrue r ((first : List (Option (List ℕ))) → file_story first new ≡ grown (row_from start contents) (file_story first old)) → OnFalse r (new ≡ old) → AreContents contents → (first : List (Option (List ℕ))) → Each IsWhole (file_story first old) → Each IsWhole (file_story first new)
whole_logged true start contents old new is same are first each = whole_row start contents (file_story first old) (file_story first new) (is first) are each
whole_logged false start contents old new is same are first each = subst (λ (log : List FileEvent). Each IsWhole (file_story first log)) (sym same) each

pub whole_synced : (r : Bool) (old new : List FileEvent) → OnTrue r ((first : List (Option (List ℕ))) → Flushes (file_story first old) (file_story first new)) → OnFalse r (new ≡ old) → (first : List (Option (List ℕ))) → Each IsWhole (file_story first old) → Each IsWhole (file_story first new)
whole_synced true old new is same first each = whole_flushed (file_story first old) (file_story first new) (is first) each
whole_synced false old new is same first each = subst (λ (log : List FileEvent). Each IsWhole (file_story first log)) (sym same) each

whole_where : (marks : List Bool) (old new : Story) → new ≡ flushed_where (marked_at marks) (now old) ∷ now old ∷ old → Each IsWhole old → Each IsWhole new
whole_where marks old new is each = subst (λ s. Each IsWhole s) (sym is) (marked_whole (marked_at marks) (now old) (now_whole old each), (now_whole old each, each))

pub whole_marked : (r : Bool) (marks : List Bool) (old new : List FileEvent)
    → OnTrue r ((first : List (Option (List ℕ))) → file_story first new ≡ flushed_where (marked_at marks) (now (file_story first old)) ∷ now (file_story first old) ∷ file_story first old)
    → OnFalse r (new ≡ old) → (first : List (Option (List ℕ))) → Each IsWhole (file_story first old) → Each IsWhole (file_story first new)
whole_marked true marks old new is same first each = whole_where marks (file_story first old) (file_story first new) (is first) each
whole_marked false marks old new is same first each = subst (λ (log : List FileEvent). Each IsWhole (file_story first log)) (sym same) each

-- ---- after a sync of the marked sectors

pub agrees_marked : (marks : List Bool) (old new : List StoredSector) (before after : Story) → Agrees old (now before) → ReadsNewest (now before)
    → after ≡ flushed_where (marked_at marks) (now before) ∷ now before ∷ before → ((n : ℕ) → stored_at new n ≡ settled (marked_at marks n) (stored_at old n)) → Agrees new (now after)
unfolding flushed_where
agrees_marked marks old new before after agrees reads is settles n =
    settles n ∙ ap (settled (marked_at marks n)) (agrees n)
    ∙ elim (marked_at marks n) as (λ b. settled b (stored_of ((now before).at n)) ≡ stored_of (synced_if b ((now before).at n))) [
      | true ↦ λ i. record { synced = sym (reads n) i; newest = None }
      | false ↦ refl
    ]
    ∙ ap (λ (s : Story). stored_of ((now s).at n)) (sym is)

-- ---- the first story

pub agrees_made : (start : List (Option (List ℕ))) (log : List FileEvent) (stored : List StoredSector) → log ≡ [] → ((n : ℕ) → stored_at stored n ≡ record { synced = content_at start n; newest = None }) → Agrees stored (now (file_story start log))
unfolding all_synced
agrees_made start log stored none holds n = holds n ∙ ap (λ (s : Story). stored_of ((now s).at n)) (sym (file_first start log none))

pub made_whole : (start : List (Option (List ℕ))) (log : List FileEvent) → log ≡ [] → ((n : ℕ) → IfSome (content_at start n) IsContent) → Each IsWhole (file_story start log)
unfolding all_synced IsWhole
made_whole start log none contents = subst (λ s. Each IsWhole s) (sym (file_first start log none)) ((λ n. (contents n, (tt, contents n))), tt)

-- ---- one sector more

pub there_more : (start i : ℕ) (contents : List (List ℕ)) (old mid : List StoredSector) (c : List ℕ) (e : StoredSector) → c ≡ get_or contents i [] → start + i < length mid → e ≡ get_or mid (start + i) e → ((n : ℕ) → start + i ≤ n → stored_at mid n ≡ stored_at old n)
    → ((n : ℕ) → start ≤ n → n < start + i → stored_at mid n ≡ record { synced = (stored_at old n).synced; newest = Some (get_or contents (n - start) []) })
    → (n : ℕ) → start ≤ n → n < start + (i + 1) → stored_at (set mid (start + i) (record { synced = e.synced; newest = Some c })) n ≡ record { synced = (stored_at old n).synced; newest = Some (get_or contents (n - start) []) }
there_more start i contents old mid c e is room here_is past before n le lt =
    let written : StoredSector = record { synced = e.synced; newest = Some c } in
    ⊎_elim {C = stored_at (set mid (start + i) written) n ≡ record { synced = (stored_at old n).synced; newest = Some (get_or contents (n - start) []) }}
    (λ (here : n ≡ start + i).
    let place : i ≡ n - start = omega (arith, here) in
    let was : e ≡ stored_at old n = here_is ∙ get_or_default mid (start + i) e never_written room ∙ past (start + i) (omega arith) ∙ ap (stored_at old) (sym here) in
    ap (λ (k : ℕ). stored_at (set mid (start + i) written) k) here
    ∙ get_or-set_same mid (start + i) written never_written room
    ∙ ap (λ (s : StoredSector). record { synced = s.synced; newest = Some c }) was
    ∙ ap (λ (x : List ℕ). record { synced = (stored_at old n).synced; newest = Some x }) (is ∙ ap (λ (k : ℕ). get_or contents k []) place))
    (λ (other : n ≢ start + i). get_or-set_other mid (start + i) n written never_written other ∙ before n le (omega (arith, lt, other)))
    (cases_eq n (start + i))

pub others_more : (start i : ℕ) (old mid : List StoredSector) (e : StoredSector) → ((n : ℕ) → (n < start) ⊎ (start + i ≤ n) → stored_at mid n ≡ stored_at old n)
    → (n : ℕ) → (n < start) ⊎ (start + (i + 1) ≤ n) → stored_at (set mid (start + i) e) n ≡ stored_at old n
others_more start i old mid e before n (inl below) = get_or-set_other mid (start + i) n e never_written (λ same. omega (arith, same, below)) ∙ before n (inl below)
others_more start i old mid e before n (inr past) = get_or-set_other mid (start + i) n e never_written (λ same. omega (arith, same, past)) ∙ before n (inr (omega (arith, past)))

pub row_set : (start i : ℕ) (contents : List (List ℕ)) (old new : List StoredSector) → i ≡ length contents → length new ≡ length old
    → ((n : ℕ) → start ≤ n → n < start + i → stored_at new n ≡ record { synced = (stored_at old n).synced; newest = Some (get_or contents (n - start) []) })
    → ((n : ℕ) → (n < start) ⊎ (start + i ≤ n) → stored_at new n ≡ stored_at old n) → SetsRow start contents old new
row_set start i contents old new all len there others = record {
  len = len;
  there = λ n le lt. there n le (omega (arith, lt, all));
  others = λ n out. others n (past n out);
}
  where
    past : (n : ℕ) → (n < start) ⊎ (start + length contents ≤ n) → (n < start) ⊎ (start + i ≤ n)
    past n (inl below) = inl below
    past n (inr le) = inr (omega (arith, le, all))

-- one sector more was read
pub read_more : (stored : List StoredSector) (start i : ℕ) (mid : List (List ℕ)) (c : List ℕ) → i < length mid → shown_in (stored_at stored (start + i)) ≡ Some c → ((j : ℕ) → j < i → shown_in (stored_at stored (start + j)) ≡ Some (get_or mid j []))
    → (j : ℕ) → j < i + 1 → shown_in (stored_at stored (start + j)) ≡ Some (get_or (set mid i c) j [])
read_more stored start i mid c room shown before j lt =
    ⊎_elim {C = shown_in (stored_at stored (start + j)) ≡ Some (get_or (set mid i c) j [])}
    (λ (here : j ≡ i).
    ap (λ (k : ℕ). shown_in (stored_at stored (start + k))) here ∙ shown
    ∙ ap {A = List ℕ} Some (sym (get_or-set_same mid i c [] room)) ∙ ap {A = List ℕ} Some (ap (λ (k : ℕ). get_or (set mid i c) k []) (sym here)))
    (λ (other : j ≢ i). before j (omega (arith, lt, other)) ∙ ap {A = List ℕ} Some (sym (get_or-set_other mid i j c [] other)))
    (cases_eq j i)
