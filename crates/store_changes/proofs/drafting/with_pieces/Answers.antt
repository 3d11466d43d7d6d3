use Rattle.std.specs.Prelude.{◌<◌, ◌^◌}
use Rattle.std.specs.List.{list_all}
use Rattle.std.proofs.Common.{◌≡◌, ◌++◌, ◌∙◌, ℕ, true, List, map, length, refl, sym, ap, subst, arith}
use Rattle.std.proofs.lemmas.List.{map-append}
use Rattle.segments.specs.declared.run.Run.{Run}
use Rattle.catalogue.specs.declared.entry.Segment.{Segment}
use Rattle.catalogue.specs.Entries.{is_segment, IsCatalogue}
use Rattle.catalogue.specs.View.{catalogue_of}
use Rattle.store_runs.specs.Changes.{PlainChange, edited, given_up}
use Rattle.store_changes.specs.Change.{change_of}
use Rattle.store_changes.specs.Draft.{end_of, starts_from, streams_of}
use Rattle.store_changes.specs.laws.Drafting.{low_runs}
use Rattle.store_changes.specs.laws.Prepared.{one_schema}
use Rattle.store_changes.proofs.Drafts.{next_segments, segments_are, segments_sound, after_stands, end_is_low, as_many, Follows, is_next, leaves_next}
use Rattle.store_changes.proofs.drafting.with_pieces.Goals as goal

pub place_streams-requires : goal.place_streams-requires
place_streams-requires c =
    let change : PlainChange = change_of c.args.change.now in
    as_many c.deref.result.now c.deref-2.result.now change (ap (map (λ s. s.items)) c.deref.ensures.value ∙ c.in_ok-more.ensures ∙ c.requires.streams) (c.deref-2.ensures.value ∙ c.requires.counts) c.requires.sound.each

pub given_up-requires : goal.given_up-requires
given_up-requires c = let change : PlainChange = change_of c.args.change.now in record { edit = (change.streams, c.requires.sound.edit) }

pub edited_in_place-requires-clause-edit : goal.edited_in_place-requires-clause-edit
edited_in_place-requires-clause-edit c = let change : PlainChange = change_of c.args.change.now in (change.streams, c.requires.sound.edit)

pub edited_in_place-requires-clause-sound : goal.edited_in_place-requires-clause-sound
edited_in_place-requires-clause-sound c =
    let d = c.args.draft in
    let change : PlainChange = change_of c.args.change.now in
    let one = one_schema c.one_page_each.ensures.apart in
    let own : map (λ s. s.items) c.deref.result.now ≡ change.streams = ap (map (λ s. s.items)) c.deref.ensures.value ∙ c.in_ok-more.ensures ∙ c.requires.streams in
    let rows : c.deref-2.result.now ≡ change.counts = c.deref-2.ensures.value ∙ c.requires.counts in
    let segments = segments_are one d c.requires.draft change c.requires.line c.requires.sound d.next c.in_ok-placed.placed.segments.items (map (λ s. s.items) c.deref.result.now) c.deref-2.result.now refl own rows c.in_ok-placed.ensures.segments in
    let limit = end_is_low one d c.requires.draft change c.requires.line c.requires.sound c.in_ok-placed.placed.next (c.in_ok-placed.ensures.next ∙ ap (end_of d.next) own) c.in_ok-placed.ensures.counted in
    subst (λ (xs : List Segment). list_all is_segment xs ≡ true) (sym (c.deref-6.ensures.value ∙ segments)) (segments_sound one d c.requires.draft change c.requires.line c.requires.sound limit)

pub edited_in_place-requires-clause-stands : goal.edited_in_place-requires-clause-stands
edited_in_place-requires-clause-stands c =
    let d = c.args.draft in
    let change : PlainChange = change_of c.args.change.now in
    let one = one_schema c.one_page_each.ensures.apart in
    let own : map (λ s. s.items) c.deref.result.now ≡ change.streams = ap (map (λ s. s.items)) c.deref.ensures.value ∙ c.in_ok-more.ensures ∙ c.requires.streams in
    let rows : c.deref-2.result.now ≡ change.counts = c.deref-2.ensures.value ∙ c.requires.counts in
    let segments = segments_are one d c.requires.draft change c.requires.line c.requires.sound d.next c.in_ok-placed.placed.segments.items (map (λ s. s.items) c.deref.result.now) c.deref-2.result.now refl own rows c.in_ok-placed.ensures.segments in
    let limit = end_is_low one d c.requires.draft change c.requires.line c.requires.sound c.in_ok-placed.placed.next (c.in_ok-placed.ensures.next ∙ ap (end_of d.next) own) c.in_ok-placed.ensures.counted in
    subst (λ (xs : List Segment). IsCatalogue (edited (catalogue_of d.made) change.edit xs)) (sym (c.deref-6.ensures.value ∙ segments)) (after_stands one d c.requires.draft change c.requires.line c.requires.sound limit c.requires.few)

pub returns-clause-draft : goal.returns-clause-draft
returns-clause-draft c =
    let d = c.args.draft in
    let change : PlainChange = change_of c.args.change.now in
    let made = catalogue_of d.made in
    let one = one_schema c.one_page_each.ensures.apart in
    let own : map (λ s. s.items) c.deref.result.now ≡ change.streams = ap (map (λ s. s.items)) c.deref.ensures.value ∙ c.in_ok-more.ensures ∙ c.requires.streams in
    let rows : c.deref-2.result.now ≡ change.counts = c.deref-2.ensures.value ∙ c.requires.counts in
    let segments = segments_are one d c.requires.draft change c.requires.line c.requires.sound d.next c.in_ok-placed.placed.segments.items (map (λ s. s.items) c.deref.result.now) c.deref-2.result.now refl own rows c.in_ok-placed.ensures.segments in
    let limit = end_is_low one d c.requires.draft change c.requires.line c.requires.sound c.in_ok-placed.placed.next (c.in_ok-placed.ensures.next ∙ ap (end_of d.next) own) c.in_ok-placed.ensures.counted in
    is_next one d c.requires.draft change c.requires.line c.requires.sound _ (record {
      from = refl;
      old = refl;
      made = c.in_ok-made.ensures ∙ ap (edited made change.edit) (c.deref-6.ensures.value ∙ segments);
      gone = c.in_ok-extend_from_slice.ensures.items ∙ ap (λ (rs : List Run). d.gone.items ++ rs) (c.deref-5.ensures.value ∙ c.in_ok-low.ensures ∙ ap (low_runs d.from) (c.deref-4.ensures.value ∙ c.in_ok-lost.ensures ∙ ap (given_up made change.edit) (c.deref-3.ensures.value ∙ segments)));
      streams = ap (map (λ s. s.items)) c.in_ok-append.ensures.items ∙ map-append (λ s. s.items) d.streams.items c.in_ok-more.more.items ∙ ap (λ (ss : List (List ℕ)). streams_of d ++ ss) (c.in_ok-more.ensures ∙ c.requires.streams);
      starts = c.in_ok-extend_from_slice-2.ensures.items ∙ ap (λ (ns : List ℕ). d.starts.items ++ ns) (c.deref-7.ensures.value ∙ c.in_ok-placed.ensures.starts ∙ ap (starts_from d.next) own);
      next = c.in_ok-placed.ensures.next ∙ ap (end_of d.next) own;
    }) (after_stands one d c.requires.draft change c.requires.line c.requires.sound limit c.requires.few)

pub returns-clause-leaves : goal.returns-clause-leaves
returns-clause-leaves c =
    let d = c.args.draft in
    let change : PlainChange = change_of c.args.change.now in
    let made = catalogue_of d.made in
    let one = one_schema c.one_page_each.ensures.apart in
    let own : map (λ s. s.items) c.deref.result.now ≡ change.streams = ap (map (λ s. s.items)) c.deref.ensures.value ∙ c.in_ok-more.ensures ∙ c.requires.streams in
    let rows : c.deref-2.result.now ≡ change.counts = c.deref-2.ensures.value ∙ c.requires.counts in
    let segments = segments_are one d c.requires.draft change c.requires.line c.requires.sound d.next c.in_ok-placed.placed.segments.items (map (λ s. s.items) c.deref.result.now) c.deref-2.result.now refl own rows c.in_ok-placed.ensures.segments in
    let limit = end_is_low one d c.requires.draft change c.requires.line c.requires.sound c.in_ok-placed.placed.next (c.in_ok-placed.ensures.next ∙ ap (end_of d.next) own) c.in_ok-placed.ensures.counted in
    leaves_next one d c.requires.draft change c.requires.line c.requires.sound _ _ _ (c.in_ok-made.ensures ∙ ap (edited made change.edit) (c.deref-6.ensures.value ∙ segments))
    (ap (map (λ s. s.items)) c.in_ok-append.ensures.items ∙ map-append (λ s. s.items) d.streams.items c.in_ok-more.more.items ∙ ap (λ (ss : List (List ℕ)). streams_of d ++ ss) (c.in_ok-more.ensures ∙ c.requires.streams))
    (c.in_ok-placed.ensures.next ∙ ap (end_of d.next) own) (after_stands one d c.requires.draft change c.requires.line c.requires.sound limit c.requires.few)
