use Rattle.std.proofs.Common.{◌≡◌, ◌∙◌, ℕ, List, sym, ap, subst}
use Rattle.catalogue.specs.declared.entry.Segment.{Segment}
use Rattle.catalogue.specs.View.{catalogue_of}
use Rattle.store_runs.specs.Changes.{PlainChange, rebuild, IsChange}
use Rattle.store_runs.specs.Deciding.{IsWhole}
use Rattle.store_runs.specs.Filling.{new_segments}
use Rattle.store_changes.specs.Draft.{starts_from, laid, ArePlaces, streams_of}
use Rattle.store_changes.specs.Picked.{streams_at}
use Rattle.store_changes.specs.laws.Drafting.{rows_in, all_have, can_change, whole}
use Rattle.store_changes.specs.laws.Laid.{HaveStreams}
use Rattle.store_changes.proofs.drafting.Draft.finish.Goals as goal

pub places_of-requires : goal.places_of-requires
places_of-requires c =
    let d = c.args.self in
    let starts = c.deref.ensures.value ∙ c.requires.starts in
    let new = c.deref-2.ensures.value ∙ c.in_ok-new.ensures in (
      d.from,
      streams_of d,
      starts,
      subst (λ (ns : List ℕ). HaveStreams ns (streams_of d) c.deref-2.result.now) (sym starts)
          (subst (λ (gs : List Segment). HaveStreams (starts_from d.from (streams_of d)) (streams_of d) gs) (sym new) (all_have d.from (streams_of d) (catalogue_of d.made) c.requires.drafted.kept)),
    )

pub returns-clause-can : goal.returns-clause-can
returns-clause-can c = λ short.
    let d = c.args.self in
    let old = catalogue_of d.old in
    let made = catalogue_of d.made in
    let starts = c.deref.ensures.value ∙ c.requires.starts in
    let new = c.deref-2.ensures.value ∙ c.in_ok-new.ensures in
    let places = c.in_ok-places.places.items in
    let are : ArePlaces (starts_from d.from (streams_of d)) (new_segments d.from made) places =
    subst (λ (ns : List ℕ). ArePlaces ns (new_segments d.from made) places) starts (subst (λ (gs : List Segment). ArePlaces c.deref.result.now gs places) new c.in_ok-places.ensures) in
    let rows = c.in_ok-rows.ensures ∙ ap rows_in (c.deref-3.ensures.value ∙ c.in_ok-new.ensures) in
    subst (λ (ns : List ℕ). IsChange old (record { edit = rebuild old d.from made d.gone.items; streams = streams_at (streams_of d) places; counts = ns })) (sym rows)
    (can_change d.from old made d.gone.items (streams_of d) c.requires.drafted places are)

pub returns-clause-whole : goal.returns-clause-whole
returns-clause-whole c = λ image.
    let d = c.args.self in
    let old = catalogue_of d.old in
    let made = catalogue_of d.made in
    let starts = c.deref.ensures.value ∙ c.requires.starts in
    let new = c.deref-2.ensures.value ∙ c.in_ok-new.ensures in
    let places = c.in_ok-places.places.items in
    let are : ArePlaces (starts_from d.from (streams_of d)) (new_segments d.from made) places =
    subst (λ (ns : List ℕ). ArePlaces ns (new_segments d.from made) places) starts (subst (λ (gs : List Segment). ArePlaces c.deref.result.now gs places) new c.in_ok-places.ensures) in
    let rows = c.in_ok-rows.ensures ∙ ap rows_in (c.deref-3.ensures.value ∙ c.in_ok-new.ensures) in
    subst (λ (ns : List ℕ). IsWhole d.from old (laid d.from (streams_of d) image) made (record { edit = rebuild old d.from made d.gone.items; streams = streams_at (streams_of d) places; counts = ns })) (sym rows)
    (whole d.from old made d.gone.items (streams_of d) c.requires.drafted places are image)
