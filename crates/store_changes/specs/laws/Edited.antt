-- Laws of an edited catalogue: it stands, where its runs come from, and what doesn't depend on the places of its new segments.
use Rattle.std.specs.Prelude.{◌≡◌, ◌≤◌, ◌+◌, ◌++◌, ◌&&◌, ◌||◌, ℕ, zero, suc, Bool, true, false, not, List, [], ◌∷◌, length, map, flat_map, sum_by, Option, Some, None}
use Rattle.std.specs.List.{list_all}
use Rattle.std.proofs.Common.{◌⊎◌, inl, inr, ⊎_elim, if◌then◌else◌, refl, sym, ap, ◌∙◌, subst, arith, take, drop, length-take-le, length-drop}
use Rattle.std.proofs.lemmas.List.{length-append, length-map, map-append}
use Rattle.std.proofs.lemmas.List.Sums.{sum_by-cons}
use Rattle.std.specs.Str.{bytes_eq}
use Rattle.segments.specs.declared.run.Run.{Run}
use Rattle.segments.specs.declared.extent.Extent.{Extent}
use Rattle.arrow_schema.specs.Column.{PlainSchema}
use Rattle.catalogue.specs.declared.limits.TheConstants.{MAX_SEGMENTS}
use Rattle.catalogue.specs.declared.entry.Segment.{Segment}
use Rattle.catalogue.specs.Entries.{PlainEntry, PlainCatalogue, is_segment, is_page, is_entry, page_runs, runs_in, runs_of, segment_count, IsCatalogue}
use Rattle.catalogue.specs.Edits.{page_behind, with_digests, entry_digested, digested, entry_of, with_entry, without, named, renamed, with_segments, with_more, from_place, with_others, with_exchanged}
use Rattle.ipc_write.specs.Written.{schema_message}
use Rattle.catalogue.specs.Text.{segment_size}
use Rattle.catalogue.specs.laws.Shapes.{shapes, put_shapes, refilled_shapes}
use Rattle.pages.specs.laws.Alike.{count_alike}
use Rattle.catalogue.specs.laws.Kept.{entry_is, entry_stands, passes_catalogue, catalogue_is}
use Rattle.catalogue.specs.laws.Sums.{put_new, put_over, put_alike, taken_out, refilled_sum, one, number, segments_in}
use Rattle.catalogue.specs.laws.Digests.{digests_runs, digested_stands}
use Rattle.catalogue.specs.laws.Changed.{put_stands, removed_stands, none_without, renamed_is, renamed_stands, more_is, more_none, more_stands, parted, found_passes, exchanged_none, exchanged_is, exchanged_stands}
use Rattle.commit.specs.Placing.{is_among, times_among}
use Rattle.commit.specs.laws.Fit.{times_both, times_some, some_times}
use Rattle.store_runs.specs.Changes.{PlainEdit, PlainChange, put, extend, move, remove, exchange, digest, rebuild, new_entry, page_over, page_instead, edited, page_lost, given_by, given_by_all, lost_page, name_edited, given_from, given_of, given_up, IsEdit, IsChange}
use Rattle.store_changes.specs.laws.ExchangedRuns.{run_of, exchanged_times, exchanged_count}
use Rattle.store_changes.specs.laws.Filled.{filled_shapes, filled_times, filled_stands}

-- ---- what doesn't depend on the places of the new segments

-- the sizes of the texts of segments
abbrev pub sizes_in : List Segment → List ℕ
sizes_in segments = map segment_size segments

-- as many segments
pub number_alike : (a b : List Segment) → sizes_in a ≡ sizes_in b → length a ≡ length b
number_alike a b same = sym (length-map a segment_size) ∙ ap (λ (ns : List ℕ). length ns) same ∙ length-map b segment_size

-- also between others
between_alike : (front a b rest : List Segment) → sizes_in a ≡ sizes_in b → sizes_in (front ++ (a ++ rest)) ≡ sizes_in (front ++ (b ++ rest))
between_alike front a b rest same =
    map-append segment_size front (a ++ rest)
    ∙ ap (λ (ns : List ℕ). sizes_in front ++ ns) (map-append segment_size a rest ∙ ap (λ (ns : List ℕ). ns ++ sizes_in rest) same ∙ sym (map-append segment_size b rest))
    ∙ sym (map-append segment_size front (b ++ rest))

behind_others : (front a b : List Segment) → sizes_in a ≡ sizes_in b → sizes_in (front ++ a) ≡ sizes_in (front ++ b)
behind_others front a b same =
    map-append segment_size front a ∙ ap (λ (ns : List ℕ). sizes_in front ++ ns) same ∙ sym (map-append segment_size front b)

more_shapes : (c : PlainCatalogue) (name : List ℕ) (a b : List Segment) → sizes_in a ≡ sizes_in b → shapes (with_more c name a) ≡ shapes (with_more c name b)
more_shapes c name [] [] same = refl
more_shapes c name [] (y ∷ ys) same = absurd (cc same)
more_shapes c name (x ∷ xs) [] same = absurd (cc same)
more_shapes c name (x ∷ xs) (y ∷ ys) same = by_entry (entry_of c name) refl
  where
    by_entry : (o : Option PlainEntry) → entry_of c name ≡ o → shapes (with_more c name (x ∷ xs)) ≡ shapes (with_more c name (y ∷ ys))
    by_entry None h = ap shapes (more_none c name (x ∷ xs) h ∙ sym (more_none c name (y ∷ ys) h))
    by_entry (Some e) h =
        ap shapes (more_is c name e x xs h)
        ∙ refilled_shapes c name (e.segments ++ x ∷ xs) (e.segments ++ y ∷ ys) (behind_others e.segments (x ∷ xs) (y ∷ ys) same)
        ∙ ap shapes (sym (more_is c name e y ys h))

exchanged_shapes : (c : PlainCatalogue) (name : List ℕ) (place count : ℕ) (a b : List Segment) → sizes_in a ≡ sizes_in b → shapes (with_exchanged c name place count a) ≡ shapes (with_exchanged c name place count b)
exchanged_shapes c name place count a b same = by_entry (entry_of c name) refl
  where
    by_entry : (o : Option PlainEntry) → entry_of c name ≡ o → shapes (with_exchanged c name place count a) ≡ shapes (with_exchanged c name place count b)
    by_entry None h = ap shapes (exchanged_none c name place count a h ∙ sym (exchanged_none c name place count b h))
    by_entry (Some e) h =
        let one = with_others e.segments place count a in
        let other = with_others e.segments place count b in
        let rest = drop count (drop place e.segments) in
        ap shapes (exchanged_is c name e h place count a)
        ∙ refilled_shapes c name one other (between_alike (take place e.segments) a b rest same)
        ∙ ap shapes (sym (exchanged_is c name e h place count b))

-- whether there are segments
over_alike : (old : PlainEntry) (schema : PlainSchema) (a b : List Segment) → length a ≡ length b → page_over old schema a ≡ page_over old schema b
over_alike old schema [] [] same = refl
over_alike old schema [] (y ∷ ys) same = absurd (omega (arith, same))
over_alike old schema (x ∷ xs) [] same = absurd (omega (arith, same))
over_alike old schema (x ∷ xs) (y ∷ ys) same = refl

instead_alike : (o : Option PlainEntry) (schema : PlainSchema) (a b : List Segment) → length a ≡ length b → page_instead o schema a ≡ page_instead o schema b
instead_alike None schema a b same = refl
instead_alike (Some old) schema a b same = over_alike old schema a b same

behind_alike : (page : Option Extent) (a b : List Segment) → length a ≡ length b → page_behind a page ≡ page_behind b page
behind_alike page [] [] same = refl
behind_alike page [] (y ∷ ys) same = absurd (omega (arith, same))
behind_alike page (x ∷ xs) [] same = absurd (omega (arith, same))
behind_alike page (x ∷ xs) (y ∷ ys) same = refl

pub edited_shapes : (c : PlainCatalogue) (edit : PlainEdit) (a b : List Segment) → sizes_in a ≡ sizes_in b → shapes (edited c edit a) ≡ shapes (edited c edit b)
edited_shapes c (put name schema) a b same =
    let page = instead_alike (entry_of c name) schema a b (number_alike a b same) in
    put_shapes c (new_entry name schema a (page_instead (entry_of c name) schema a)) (new_entry name schema b (page_instead (entry_of c name) schema b)) (λ i. ((name, schema), (same i, page i)))
edited_shapes c (extend name) a b same = more_shapes c name a b same
edited_shapes c (move from to) a b same = refl
edited_shapes c (remove name) a b same = refl
edited_shapes c (exchange name place count) a b same = exchanged_shapes c name place count a b same
edited_shapes c (digest ds) a b same = refl
edited_shapes c (rebuild old from made gone) a b same = filled_shapes from made a b same

pub edited_count : (c : PlainCatalogue) (edit : PlainEdit) (a b : List Segment) → sizes_in a ≡ sizes_in b → segment_count (edited c edit a) ≡ segment_count (edited c edit b)
edited_count c edit a b same = count_alike (edited c edit a) (edited c edit b) (edited_shapes c edit a b same)

-- what is given up doesn't, either
given_alike : (edit : PlainEdit) (e : PlainEntry) (a b : List Segment) → length a ≡ length b → given_by edit a e ≡ given_by edit b e
given_alike (put name schema) e a b same = ap (λ (o : Option Extent). page_lost e.page o ++ map run_of e.segments) (over_alike e schema a b same)
given_alike (extend name) e a b same = ap (page_lost e.page) (behind_alike e.page a b same)
given_alike _ e a b same = refl

pub given_up_alike : (c : PlainCatalogue) (edit : PlainEdit) (a b : List Segment) → length a ≡ length b → given_up c edit a ≡ given_up c edit b
given_up_alike c edit a b same = by_name (name_edited edit)
  where
    by_entry : (o : Option PlainEntry) → given_from edit a o ≡ given_from edit b o
    by_entry None = refl
    by_entry (Some e) = given_alike edit e a b same

    by_name : (o : Option (List ℕ)) → given_of c edit a o ≡ given_of c edit b o
    by_name None = refl
    by_name (Some name) = by_entry (entry_of c name)

-- ---- where its runs come from

-- a page of a table that is changed is none, or the one that it had
behind_or : {A : Type 0} (xs : List A) (page : Option Extent) → (page_behind xs page ≡ None) ⊎ (page_behind xs page ≡ page)
behind_or [] page = inr refl
behind_or (x ∷ xs) page = inl refl

over_or : (old : PlainEntry) (schema : PlainSchema) (segments : List Segment) → (page_over old schema segments ≡ None) ⊎ (page_over old schema segments ≡ old.page)
over_or old schema (s ∷ ss) = inl refl
over_or old schema [] = by_message (bytes_eq (schema_message old.schema) (schema_message schema))
  where
    by_message : (t : Bool) → ((if t then page_behind old.segments old.page else None) ≡ None) ⊎ ((if t then page_behind old.segments old.page else None) ≡ old.page)
    by_message true = behind_or old.segments old.page
    by_message false = inl refl

-- where an edit takes no segments there are none
no_segments : (streams : List (List ℕ)) (segments : List Segment) → streams ≡ [] → length segments ≡ length streams → segments ≡ []
no_segments streams [] none same = refl
no_segments streams (s ∷ ss) none same = let n : length streams ≡ 0 = ap (λ (xs : List (List ℕ)). length xs) none in absurd (omega (arith, n, same))

module _ (run : Run) where
  times_in : PlainEntry → ℕ
  times_in e = times_among (runs_in e) run

  times_of : (c : PlainCatalogue) → times_among (runs_of c) run ≡ sum_by times_in c
  unfolding times_in
  times_of [] = refl
  times_of (x ∷ xs) = omega (arith, times_of xs, times_both (runs_in x) (runs_of xs) run, sum_by-cons times_in x xs)

  in_times : (e : PlainEntry) → times_in e ≡ times_among (page_runs e.page) run + times_among (map run_of e.segments) run
  unfolding times_in
  in_times e = times_both (page_runs e.page) (map run_of e.segments) run

  -- a page is given up, or it stays
  lost_times : (old new : Option Extent) → (new ≡ None) ⊎ (new ≡ old) → times_among (page_lost old new) run + times_among (page_runs new) run ≡ times_among (page_runs old) run
  lost_times old None or = omega arith
  lost_times (Some p) (Some q) (inl none) = absurd (cc none)
  lost_times (Some p) (Some q) (inr same) = let times = ap (λ (o : Option Extent). times_among (page_runs o) run) same in omega (arith, times)
  lost_times None (Some q) (inl none) = absurd (cc none)
  lost_times None (Some q) (inr same) = absurd (cc same)

  -- what is given up was named
  given_times : (edit : PlainEdit) (segments : List Segment) (e : PlainEntry) → times_among (given_by edit segments e) run ≤ times_in e
  unfolding times_in
  given_times (put name schema) segments e =
      let page = page_over e schema segments in
      omega (arith, in_times e, lost_times e.page page (over_or e schema segments), times_both (page_lost e.page page) (map run_of e.segments) run)
  given_times (extend name) segments e = let page = page_behind segments e.page in omega (arith, in_times e, lost_times e.page page (behind_or segments e.page))
  given_times (move from to) segments e = omega arith
  given_times (remove name) segments e = omega arith
  given_times (exchange name place count) segments e =
      let front = take place e.segments in
      let gone = from_place e.segments place count in
      let rest = drop count (drop place e.segments) in
      let parts : times_among (map run_of e.segments) run ≡ times_among (map run_of front) run + (times_among (map run_of gone) run + times_among (map run_of rest) run) =
      ap (λ (ss : List Segment). times_among (map run_of ss) run) (parted e.segments place count)
      ∙ ap (λ (rs : List Run). times_among rs run) (map-append run_of front (gone ++ rest)) ∙ times_both (map run_of front) (map run_of (gone ++ rest)) run
      ∙ ap (λ (n : ℕ). times_among (map run_of front) run + n) (ap (λ (rs : List Run). times_among rs run) (map-append run_of gone rest) ∙ times_both (map run_of gone) (map run_of rest) run) in
      omega (arith, in_times e, parts, times_both (page_runs e.page) (map run_of gone) run)
  given_times (rebuild old from made gone) segments e = omega arith
  given_times (digest ds) segments e = let page = page_behind e.segments e.page in omega (arith, in_times e, lost_times e.page page (behind_or e.segments e.page))

  -- a table that gets digests has the runs that it had, but for a page that is given up
  digest_times : (e : PlainEntry) (ds : List (List ℕ)) → times_in (entry_digested e ds) + times_among (lost_page e) run ≡ times_in e
  unfolding times_in
  digest_times e ds =
      let page = page_behind e.segments e.page in
      let stays : times_among (map run_of (with_digests e.segments ds)) run ≡ times_among (map run_of e.segments) run = ap (λ (rs : List Run). times_among rs run) (digests_runs e.segments ds) in
      omega (arith, stays, in_times e, times_both (page_runs page) (map run_of (with_digests e.segments ds)) run, lost_times e.page page (behind_or e.segments e.page))

  digested_times : (c : PlainCatalogue) (ds : List (List ℕ)) → times_among (runs_of (digested c ds)) run + times_among (flat_map lost_page c) run ≡ times_among (runs_of c) run
  unfolding digested times_in
  digested_times [] ds = refl
  digested_times (e ∷ es) ds =
      let front = take (length e.segments) ds in
      let rest = drop (length e.segments) ds in
      omega (
        arith,
        digest_times e front,
        digested_times es rest,
        times_both (runs_in (entry_digested e front)) (runs_of (digested es rest)) run,
        times_both (lost_page e) (flat_map lost_page es) run,
        times_both (runs_in e) (runs_of es) run,
      )

-- of the entry that is found
given_found : (c : PlainCatalogue) (edit : PlainEdit) (segments : List Segment) (name : List ℕ) (e : PlainEntry) → name_edited edit ≡ Some name → entry_of c name ≡ Some e → given_up c edit segments ≡ given_by edit segments e
given_found c edit segments name e named h = ap (given_of c edit segments) named ∙ ap (given_from edit segments) h

none_given : (c : PlainCatalogue) (edit : PlainEdit) (segments : List Segment) (name : List ℕ) → name_edited edit ≡ Some name → entry_of c name ≡ None → given_up c edit segments ≡ []
none_given c edit segments name named h = ap (given_of c edit segments) named ∙ ap (given_from edit segments) h

-- each run is listed as often as before, and as it is among the new segments, but for those that are given up
pub edited_times_are : (c : PlainCatalogue) (edit : PlainEdit) (streams : List (List ℕ)) (segments : List Segment) (run : Run) → IsCatalogue c → IsEdit c edit streams → length segments ≡ length streams
    → times_among (runs_of (edited c edit segments)) run + times_among (given_up c edit segments) run ≡ times_among (runs_of c) run + times_among (map run_of segments) run
unfolding times_in
edited_times_are c (put name schema) streams segments run k can same = by_entry (entry_of c name) refl
  where
    by_entry : (o : Option PlainEntry) → entry_of c name ≡ o
        → times_among (runs_of (edited c (put name schema) segments)) run + times_among (given_up c (put name schema) segments) run ≡ times_among (runs_of c) run + times_among (map run_of segments) run
    by_entry None h =
        let new : PlainEntry = new_entry name schema segments None in
        let is : edited c (put name schema) segments ≡ with_entry c new = ap (λ (o : Option PlainEntry). with_entry c (new_entry name schema segments (page_instead o schema segments))) h in
        let made : times_among (runs_of (edited c (put name schema) segments)) run ≡ times_among (runs_of (with_entry c new)) run = ap (λ (d : PlainCatalogue). times_among (runs_of d) run) is in
        let none : times_among (given_up c (put name schema) segments) run ≡ 0 = ap (λ (rs : List Run). times_among rs run) (none_given c (put name schema) segments name refl h) in
        omega (arith, none, made, times_of run c, times_of run (with_entry c new), put_new (times_in run) c new h)
    by_entry (Some old) h =
        let page = page_over old schema segments in
        let new : PlainEntry = new_entry name schema segments page in
        let is : edited c (put name schema) segments ≡ with_entry c new = ap (λ (o : Option PlainEntry). with_entry c (new_entry name schema segments (page_instead o schema segments))) h in
        let made : times_among (runs_of (edited c (put name schema) segments)) run ≡ times_among (runs_of (with_entry c new)) run = ap (λ (d : PlainCatalogue). times_among (runs_of d) run) is in
        let gone : times_among (given_up c (put name schema) segments) run ≡ times_among (given_by (put name schema) segments old) run = ap (λ (rs : List Run). times_among rs run) (given_found c (put name schema) segments name old refl h) in
        omega (
          arith,
          made,
          gone,
          times_both (page_lost old.page page) (map run_of old.segments) run,
          lost_times run old.page page (over_or old schema segments),
          in_times run old,
          in_times run new,
          times_of run c,
          times_of run (with_entry c new),
          put_over (times_in run) c new old k.order h,
        )
edited_times_are c (extend name) streams [] run k can same =
    let e : PlainEntry = can.0 in
    let gone : times_among (given_up c (extend name) []) run ≡ times_among (page_lost e.page e.page) run = ap (λ (rs : List Run). times_among rs run) (given_found c (extend name) [] name e refl can.1) in
    omega (arith, gone, lost_times run e.page e.page (inr refl))
edited_times_are c (extend name) streams (s ∷ ss) run k can same =
    let segments : List Segment = s ∷ ss in
    let e : PlainEntry = can.0 in
    let h : entry_of c name ≡ Some e = can.1 in
    let d : PlainCatalogue = with_segments c name (e.segments ++ segments) in
    let more : times_among (runs_of (with_more c name segments)) run ≡ times_among (runs_of d) run = ap (λ (x : PlainCatalogue). times_among (runs_of x) run) (more_is c name e s ss h) in
    let gone : times_among (given_up c (extend name) segments) run ≡ times_among (page_runs e.page) run = ap (λ (rs : List Run). times_among rs run) (given_found c (extend name) segments name e refl h) in
    let both : times_among (map run_of (e.segments ++ segments)) run ≡ times_among (map run_of e.segments) run + times_among (map run_of segments) run =
    ap (λ (rs : List Run). times_among rs run) (map-append run_of e.segments segments) ∙ times_both (map run_of e.segments) (map run_of segments) run in
    omega (arith, more, gone, both, in_times run e, times_of run c, times_of run d, refilled_sum (times_in run) c name e (e.segments ++ segments) h)
edited_times_are c (move from to) streams segments run k can same =
    let e : PlainEntry = can.2.0 in
    let h : entry_of c from ≡ Some e = can.2.1 in
    let d : PlainCatalogue = with_entry (without c from) (named to e) in
    let none : times_among (map run_of segments) run ≡ 0 = ap (λ (ss : List Segment). times_among (map run_of ss) run) (no_segments streams segments can.3 same) in
    let gone : times_among (given_up c (move from to) segments) run ≡ 0 = ap (λ (rs : List Run). times_among rs run) (given_found c (move from to) segments from e refl h) in
    let moved : times_among (runs_of (edited c (move from to) segments)) run ≡ times_among (runs_of d) run = ap (λ (x : PlainCatalogue). times_among (runs_of x) run) (renamed_is c from to e h) in
    omega (arith, none, gone, moved, times_of run c, times_of run d, taken_out (times_in run) c from e h, put_new (times_in run) (without c from) (named to e) (none_without c from to can.1))
edited_times_are c (remove name) streams segments run k can same =
    let e : PlainEntry = can.0.0 in
    let h : entry_of c name ≡ Some e = can.0.1 in
    let none : times_among (map run_of segments) run ≡ 0 = ap (λ (ss : List Segment). times_among (map run_of ss) run) (no_segments streams segments can.1 same) in
    let gone : times_among (given_up c (remove name) segments) run ≡ times_among (runs_in e) run = ap (λ (rs : List Run). times_among rs run) (given_found c (remove name) segments name e refl h) in
    omega (arith, none, gone, times_of run c, times_of run (without c name), taken_out (times_in run) c name e h)
edited_times_are c (exchange name place count) streams segments run k can same =
    let e : PlainEntry = can.0 in
    let h : entry_of c name ≡ Some e = can.1 in
    let gone : times_among (given_up c (exchange name place count) segments) run ≡ times_among (page_runs e.page ++ map run_of (from_place e.segments place count)) run =
    ap (λ (rs : List Run). times_among rs run) (given_found c (exchange name place count) segments name e refl h) in
    omega (arith, gone, exchanged_times c name e h place count run segments)
edited_times_are c (digest ds) streams segments run k can same =
    let none : times_among (map run_of segments) run ≡ 0 = ap (λ (ss : List Segment). times_among (map run_of ss) run) (no_segments streams segments can.2 same) in
    omega (arith, none, digested_times run c ds)
edited_times_are c (rebuild old from made gone) streams segments run k can same =
    let new = can.new in
    let old_runs = can.runs run in
    omega (arith, old_runs, filled_times from run made segments (same ∙ sym new))

-- those that an edit of all tables gives up were listed
given_by_all_times : (c : PlainCatalogue) (edit : PlainEdit) (streams : List (List ℕ)) (run : Run) → IsEdit c edit streams → times_among (given_by_all c edit) run ≤ times_among (runs_of c) run
given_by_all_times c (digest ds) streams run can = omega (arith, digested_times run c [])
given_by_all_times c (rebuild old from made gone) streams run can = let old_runs = can.runs run in omega (arith, old_runs)
given_by_all_times c _ streams run can = omega arith

-- those that are given up were listed
pub given_up_times : (c : PlainCatalogue) (edit : PlainEdit) (streams : List (List ℕ)) (segments : List Segment) (run : Run) → IsEdit c edit streams
    → times_among (given_up c edit segments) run ≤ times_among (runs_of c) run
given_up_times c edit streams segments run can = by_name (name_edited edit) refl
  where
    by_entry : (name : List ℕ) → name_edited edit ≡ Some name → (o : Option PlainEntry) → entry_of c name ≡ o → times_among (given_up c edit segments) run ≤ times_among (runs_of c) run
    by_entry name named None h = let none : times_among (given_up c edit segments) run ≡ 0 = ap (λ (rs : List Run). times_among rs run) (none_given c edit segments name named h) in omega (arith, none)
    by_entry name named (Some e) h =
        let gone : times_among (given_up c edit segments) run ≡ times_among (given_by edit segments e) run = ap (λ (rs : List Run). times_among rs run) (given_found c edit segments name e named h) in
        omega (arith, gone, given_times run edit segments e, times_of run c, taken_out (times_in run) c name e h)

    by_name : (o : Option (List ℕ)) → name_edited edit ≡ o → times_among (given_up c edit segments) run ≤ times_among (runs_of c) run
    by_name None named =
        let gone : times_among (given_up c edit segments) run ≡ times_among (given_by_all c edit) run = ap (λ (o : Option (List ℕ)). times_among (given_of c edit segments o) run) named in
        omega (arith, gone, given_by_all_times c edit streams run can)
    by_name (Some name) named = by_entry name named (entry_of c name) refl

-- whether a run is listed, by how often it is
pub none_listed : (xs : List Run) (run : Run) → is_among xs run ≡ false → times_among xs run ≡ 0
none_listed xs run is = by_number (times_among xs run) refl
  where
    by_number : (n : ℕ) → times_among xs run ≡ n → n ≡ 0
    by_number zero h = refl
    by_number (suc n) h = absurd (let some = some_times xs run (omega (arith, h)) in cc (some, is))

not_listed : (xs : List Run) (run : Run) → times_among xs run ≡ 0 → is_among xs run ≡ false
not_listed xs run none = by_test (is_among xs run) refl
  where
    by_test : (t : Bool) → is_among xs run ≡ t → t ≡ false
    by_test true is = absurd (let some = times_some xs run is in omega (arith, some, none))
    by_test false is = refl

pub by_times : (a b c d : List Run) (run : Run) → times_among a run + times_among b run ≡ times_among c run + times_among d run → (is_among b run ≡ true → is_among c run ≡ true) → times_among c run ≤ 1
    → (is_among d run ≡ true → is_among c run ≡ false) → is_among a run ≡ ((is_among c run && not (is_among b run)) || is_among d run)
by_times a b c d run sum named once apart = by_tests (is_among b run) (is_among c run) (is_among d run) refl refl refl
  where
    by_tests : (q r s : Bool) → is_among b run ≡ q → is_among c run ≡ r → is_among d run ≡ s → is_among a run ≡ ((r && not q) || s)
    by_tests q true true in_b in_c in_d = absurd (let out = apart in_d in cc (out, in_c))
    by_tests true false true in_b in_c in_d = absurd (let there = named in_b in cc (there, in_c))
    by_tests false false true in_b in_c in_d = some_times a run (omega (arith, sum, none_listed b run in_b, times_some d run in_d))
    by_tests q false false in_b in_c in_d = not_listed a run (omega (arith, sum, none_listed c run in_c, none_listed d run in_d))
    by_tests true true false in_b in_c in_d = not_listed a run (omega (arith, sum, once, times_some b run in_b, none_listed d run in_d))
    by_tests false true false in_b in_c in_d = some_times a run (omega (arith, sum, none_listed b run in_b, times_some c run in_c))

-- ---- it stands

put_tables : (c : PlainCatalogue) (name : List ℕ) (schema : PlainSchema) (segments : List Segment) (page : Option Extent) → length (with_entry c (new_entry name schema segments page)) ≡ length (with_entry c (new_entry name schema [] None))
put_tables c name schema segments page =
    let d : PlainCatalogue = with_entry c (new_entry name schema segments page) in
    let e : PlainCatalogue = with_entry c (new_entry name schema [] None) in
    omega (arith, put_alike one c (new_entry name schema segments page) (new_entry name schema [] None) refl refl, number d, number e)

pub more_count : (c : PlainCatalogue) (name : List ℕ) (e : PlainEntry) (segments : List Segment) → entry_of c name ≡ Some e → segment_count (with_more c name segments) ≡ segment_count c + length segments
more_count c name e [] h = omega arith
more_count c name e (s ∷ ss) h =
    let segments : List Segment = s ∷ ss in
    ap segment_count (more_is c name e s ss h) ∙ omega (arith, refilled_sum segments_in c name e (e.segments ++ segments) h, length-append e.segments segments)

-- how many segments a table has; none if it isn't there
abbrev pub segments_at : PlainCatalogue → List ℕ → ℕ
segments_at c name = elim (entry_of c name) [ None ↦ 0 | Some e ↦ length e.segments ]

pub at_found : (c : PlainCatalogue) (name : List ℕ) (e : PlainEntry) → entry_of c name ≡ Some e → segments_at c name ≡ length e.segments
at_found c name e h = ap (λ (o : Option PlainEntry). elim o [ None ↦ 0 | Some x ↦ length x.segments ]) h

at_none : (c : PlainCatalogue) (name : List ℕ) → entry_of c name ≡ None → segments_at c name ≡ 0
at_none c name h = ap (λ (o : Option PlainEntry). elim o [ None ↦ 0 | Some x ↦ length x.segments ]) h

-- as many as are asked for, where the table has them
pub length_from : (segments : List Segment) (place count : ℕ) → place + count ≤ length segments → length (from_place segments place count) ≡ count
length_from segments place count within =
    let rest = length-drop place segments in
    length-take-le count (drop place segments) (omega (arith, rest, within))

pub put_count : (c : PlainCatalogue) (e : PlainEntry) → IsCatalogue c → segment_count (with_entry c e) + segments_at c e.name ≡ segment_count c + length e.segments
put_count c e k = by_entry (entry_of c e.name) refl
  where
    by_entry : (o : Option PlainEntry) → entry_of c e.name ≡ o → segment_count (with_entry c e) + segments_at c e.name ≡ segment_count c + length e.segments
    by_entry None h = omega (arith, at_none c e.name h, put_new segments_in c e h)
    by_entry (Some old) h = omega (arith, at_found c e.name old h, put_over segments_in c e old k.order h)

pub removed_count : (c : PlainCatalogue) (name : List ℕ) (e : PlainEntry) → entry_of c name ≡ Some e → segment_count (without c name) + segments_at c name ≡ segment_count c
removed_count c name e h = omega (arith, at_found c name e h, taken_out segments_in c name e h)

pub moved_count : (c : PlainCatalogue) (from to : List ℕ) (e : PlainEntry) → entry_of c from ≡ Some e → entry_of c to ≡ None → segment_count (renamed c from to) ≡ segment_count c
moved_count c from to e h none =
    ap segment_count (renamed_is c from to e h) ∙ omega (arith, taken_out segments_in c from e h, put_new segments_in (without c from) (named to e) (none_without c from to none))

pub exchange_count : (c : PlainCatalogue) (name : List ℕ) (place count : ℕ) (e : PlainEntry) (segments : List Segment) → entry_of c name ≡ Some e → place + count ≤ length e.segments
    → segment_count (with_exchanged c name place count segments) + count ≡ segment_count c + length segments
exchange_count c name place count e segments h within = omega (arith, exchanged_count c name e h place count segments, length_from e.segments place count within)

pub segments_within : (c : PlainCatalogue) (name : List ℕ) → segments_at c name ≤ segment_count c
segments_within c name = by_entry (entry_of c name) refl
  where
    by_entry : (o : Option PlainEntry) → entry_of c name ≡ o → segments_at c name ≤ segment_count c
    by_entry None h = omega (arith, at_none c name h)
    by_entry (Some e) h = omega (arith, at_found c name e h, taken_out segments_in c name e h)

-- a page that stays is sound as it was
pub instead_sound : (c : PlainCatalogue) (name : List ℕ) (schema : PlainSchema) (segments : List Segment) → IsCatalogue c → is_page (page_instead (entry_of c name) schema segments) ≡ true
instead_sound c name schema segments k = by_entry (entry_of c name) refl
  where
    by_entry : (o : Option PlainEntry) → entry_of c name ≡ o → is_page (page_instead o schema segments) ≡ true
    by_entry None h = refl
    by_entry (Some old) h =
        ⊎_elim (λ (none : page_over old schema segments ≡ None). ap is_page none)
        (λ (same : page_over old schema segments ≡ old.page). ap is_page same ∙ (entry_is old (found_passes is_entry c name old k.entries h)).page) (over_or old schema segments)

pub edit_stands : (c : PlainCatalogue) (edit : PlainEdit) (streams : List (List ℕ)) (segments : List Segment) → IsCatalogue c → IsEdit c edit streams → length segments ≡ length streams → list_all is_segment segments ≡ true
    → segment_count (edited c edit segments) ≤ MAX_SEGMENTS → IsCatalogue (edited c edit segments)
edit_stands c (put name schema) streams segments k can many each most =
    let page = page_instead (entry_of c name) schema segments in
    let e : PlainEntry = new_entry name schema segments page in
    let tables = can.2 in
    catalogue_is (with_entry c e) (put_stands c e (passes_catalogue c k) (entry_stands e can.0 can.1 each (instead_sound c name schema segments k)) (omega (arith, tables, put_tables c name schema segments page)) most)
edit_stands c (extend name) streams segments k can many each most =
    let e : PlainEntry = can.0 in
    let h : entry_of c name ≡ Some e = can.1 in
    catalogue_is (with_more c name segments) (more_stands c name e segments (passes_catalogue c k) h each (omega (arith, most, more_count c name e segments h)))
edit_stands c (move from to) streams segments k can many each most =
    subst IsCatalogue (sym (renamed_is c from to can.2.0 can.2.1)) (catalogue_is (with_entry (without c from) (named to can.2.0)) (renamed_stands c from to can.2.0 (passes_catalogue c k) can.0 can.2.1))
edit_stands c (remove name) streams segments k can many each most = catalogue_is (without c name) (removed_stands c name (passes_catalogue c k))
edit_stands c (exchange name place count) streams segments k can many each most = exchanged_stands c name can.0 can.1 place count segments k each most
edit_stands c (rebuild old from made gone) streams segments k can many each most = let new = can.new in filled_stands from made segments can.stands each (many ∙ sym new)
edit_stands c (digest ds) streams segments k can many each most = catalogue_is (digested c ds) (digested_stands c ds (passes_catalogue c k) can.1)

pub edited_stands : (c : PlainCatalogue) (change : PlainChange) (segments : List Segment) → IsCatalogue c → IsChange c change → length segments ≡ length change.streams → list_all is_segment segments ≡ true
    → segment_count (edited c change.edit segments) ≤ MAX_SEGMENTS → IsCatalogue (edited c change.edit segments)
edited_stands c change segments k is many each most = edit_stands c change.edit change.streams segments k is.edit many each most
