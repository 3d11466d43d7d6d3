use Rattle.std.proofs.Common.{◌≡◌, ◌∙◌, ◌++◌, ◌∷◌, ℕ, true, List, [], length, refl, ap, sym, subst}
use Rattle.std.specs.Prelude.{Err}
use Rattle.std.specs.Global.{Vec}
use Rattle.std.specs.List.{list_all}
use Rattle.std.proofs.lemmas.Result.{err_from_is_err_and}
use Rattle.segments.specs.declared.run.Run.{Run}
use Rattle.segments.specs.Pieces.{plain_pieces}
use Rattle.segments.specs.Usages.{IsUsedIn, GivesAll}
use Rattle.segments.specs.Writing.{runs_of}
use Rattle.catalogue.specs.declared.entry.Segment.{Segment}
use Rattle.catalogue.specs.Entries.{PlainCatalogue, is_segment, IsCatalogue}
use Rattle.catalogue.specs.View.{catalogue_of}
use Rattle.catalogue.specs.laws.Kept.{catalogue_is}
use Rattle.commit.specs.Placing.{Takes, AreSome, AreWritten, plain_contents, contents_of, counts_of}
use Rattle.commit.specs.Publishing.{next_commit}
use Rattle.commit.specs.laws.Taking.{all_given_back}
use Rattle.pages.specs.Paging.{kind_of, ArePageRuns, settled, page_texts, settled_text}
use Rattle.pages.specs.laws.Taken.{sizes_written}
use Rattle.store_runs.specs.Carrying.{unplaced, outline}
use Rattle.store_runs.specs.Changes.{PlainChange}
use Rattle.store_changes.specs.Change.{change_of}
use Rattle.store_changes.specs.Prepared.{unpaged}
use Rattle.store_changes.specs.laws.Placed.{unpaged_shapes, as_many, outline_stands}
use Rattle.store_changes.specs.laws.Prepared.{PageLaws, one_schema, memory_alone, some_bytes, as_many_rows, as_many_pieces, asked, took_for, given_segments, given_is, texts_count, made_sound, made_stands, made_runs, made_kind, prepared}
use Rattle.store_changes.proofs.preparing.plan_change.Goals as goal

pub returns-in_err-streams-clause-no_room : goal.returns-in_err-streams-clause-no_room
returns-in_err-streams-clause-no_room c = let p = err_from_is_err_and c.from_residual.result c.from_residual.ensures.1 in rw (p.1, p.2) (λ n is. absurd (memory_alone n is))

pub returns-in_err-streams-clause-err : goal.returns-in_err-streams-clause-err
returns-in_err-streams-clause-err c = let p = err_from_is_err_and c.from_residual.result c.from_residual.ensures.1 in rw p.1 (λ run. refl)

pub unplaced-requires : goal.unplaced-requires
unplaced-requires c =
    let change : PlainChange = change_of c.args.change.now in
    let contents : plain_contents c.deref.result.now ≡ change.streams = ap plain_contents c.deref.ensures.value ∙ c.in_ok-streams.ensures ∙ c.requires.streams in
    as_many_rows c.deref.result.now c.deref-2.result.now change contents (c.deref-2.ensures.value ∙ c.requires.counts) c.requires.sound.each

pub returns-in_err-segments-clause-no_room : goal.returns-in_err-segments-clause-no_room
returns-in_err-segments-clause-no_room c = let p = err_from_is_err_and c.from_residual-in_err-segments.result c.from_residual-in_err-segments.ensures.1 in rw (p.1, p.2) (λ n is. absurd (memory_alone n is))

pub returns-in_err-segments-clause-err : goal.returns-in_err-segments-clause-err
returns-in_err-segments-clause-err c = let p = err_from_is_err_and c.from_residual-in_err-segments.result c.from_residual-in_err-segments.ensures.1 in rw p.1 (λ run. refl)

pub ask-requires-clause-stands : goal.ask-requires-clause-stands
ask-requires-clause-stands c =
    let listed = catalogue_of c.args.stored.now.list in
    outline_stands c.args.commit.version listed (change_of c.args.change.now) c.requires.sound (catalogue_is listed c.args.stored.now.list.kept) c.requires.few

pub ask-requires-clause-segments : goal.ask-requires-clause-segments
ask-requires-clause-segments c =
    let change : PlainChange = change_of c.args.change.now in
    let v = c.args.commit.version in
    let made : plain_contents c.in_ok-streams.streams.items ≡ change.streams = c.in_ok-streams.ensures ∙ c.requires.streams in
    let none_placed : c.in_ok-segments.segments.items ≡ unplaced v change.streams change.counts =
    c.in_ok-segments.ensures ∙ (λ i. unplaced v ((ap plain_contents c.deref.ensures.value ∙ made) i) ((c.deref-2.ensures.value ∙ c.requires.counts) i)) in
    c.deref-3.ensures.value ∙ none_placed

pub returns-in_err-asked-clause-no_room : goal.returns-in_err-asked-clause-no_room
returns-in_err-asked-clause-no_room c = let p = err_from_is_err_and c.from_residual-in_err-asked.result c.from_residual-in_err-asked.ensures.1 in rw (p.1, p.2) (λ n is. absurd (memory_alone n is))

pub returns-in_err-asked-clause-err : goal.returns-in_err-asked-clause-err
returns-in_err-asked-clause-err c = let p = err_from_is_err_and c.from_residual-in_err-asked.result c.from_residual-in_err-asked.ensures.1 in rw p.1 (λ run. refl)

pub place-requires-clause-text : goal.place-requires-clause-text
place-requires-clause-text c =
    let listed = catalogue_of c.args.stored.now.list in
    some_bytes (outline c.args.commit.version listed (change_of c.args.change.now)) c.in_ok-asked.asked.layout.text_bytes c.in_ok-asked.ensures.text

pub place-requires-clause-pages : goal.place-requires-clause-pages
place-requires-clause-pages c =
    let listed = catalogue_of c.args.stored.now.list in
    subst (λ (ns : List ℕ). AreWritten ns) (sym (c.deref-4.ensures.value ∙ c.in_ok-asked.ensures.pages)) (sizes_written (outline c.args.commit.version listed (change_of c.args.change.now)))

pub place-requires-clause-some : goal.place-requires-clause-some
place-requires-clause-some c = subst (λ (xs : List (List ℕ)). AreSome xs) (sym (c.in_ok-streams.ensures ∙ c.requires.streams)) c.requires.sound.some

pub returns-in_err-places-clause-no_room : goal.returns-in_err-places-clause-no_room
returns-in_err-places-clause-no_room c =
    let p = err_from_is_err_and c.from_residual-in_err-places.result c.from_residual-in_err-places.ensures.1 in
    let listed = catalogue_of c.args.stored.now.list in
    let change : PlainChange = change_of c.args.change.now in
    let sizes = asked c.args.commit.version listed change (plain_contents c.in_ok-streams.streams.items) c.deref-4.result.now c.in_ok-asked.asked.layout.text_bytes (c.in_ok-streams.ensures ∙ c.requires.streams)
    (c.deref-4.ensures.value ∙ c.in_ok-asked.ensures.pages) c.in_ok-asked.ensures.text in
    rw (p.1, p.2) (λ n is. subst (λ (ns : List ℕ). Takes c.args.map.now.size (IsUsedIn c.args.map.now.entries) ns (Err n)) sizes (c.in_err-places.ensures.no_room n is))

pub returns-in_err-places-clause-err : goal.returns-in_err-places-clause-err
returns-in_err-places-clause-err c = let p = err_from_is_err_and c.from_residual-in_err-places.result c.from_residual-in_err-places.ensures.1 in rw p.1 c.in_err-places.ensures.err

pub page_runs-requires : goal.page_runs-requires
page_runs-requires c = (length c.deref-4.result.now, c.in_ok-places.ensures.room)

pub next_catalogue-requires : goal.next_catalogue-requires
next_catalogue-requires c =
    let listed = catalogue_of c.args.stored.now.list in
    let change : PlainChange = change_of c.args.change.now in
    let v = c.args.commit.version in
    let pieces = plain_pieces c.in_ok-places.places.pieces.items in
    let ps = plain_pieces c.deref-6.result.now in
    let made : plain_contents c.in_ok-streams.streams.items ≡ change.streams = c.in_ok-streams.ensures ∙ c.requires.streams in
    let streams = c.in_ok-places.ensures.contents ∙ made in
    let same = ap plain_pieces c.deref-6.ensures.value in
    let none_placed : c.in_ok-segments.segments.items ≡ unplaced v change.streams change.counts =
    c.in_ok-segments.ensures ∙ (λ i. unplaced v ((ap plain_contents c.deref.ensures.value ∙ made) i) ((c.deref-2.ensures.value ∙ c.requires.counts) i)) in
    let segments = c.deref-5.ensures.value ∙ none_placed in
    let took = took_for v c.args.map.now c.place.new.map listed change (plain_contents c.in_ok-streams.streams.items) c.deref-4.result.now c.in_ok-asked.asked.layout.text_bytes c.in_ok-places.places.runs.items
    ((runs_of pieces ++ c.page_runs.result.now) ++ c.in_ok-places.places.text ∷ []) made (c.deref-4.ensures.value ∙ c.in_ok-asked.ensures.pages) c.in_ok-asked.ensures.text c.in_ok-places.ensures.taken c.page_runs.ensures in
    let laws : PageLaws = assumption (one_schema c.one_page_each.ensures.apart, c.pages_hold_what_was_read.ensures, c.kept_catalogues_are_read.ensures) in
    let stands = catalogue_is listed c.args.stored.now.list.kept in
    let given = given_is v listed change pieces ps c.deref-5.result.now same segments in
    record {
      count = as_many_pieces v c.deref-6.result.now c.deref-5.result.now change (ap contents_of same ∙ streams) segments c.requires.sound.each;
      sound =
          subst (λ (gs : List Segment). list_all is_segment gs ≡ true) (sym (given_segments v listed change pieces ps c.deref-5.result.now same segments))
          (made_sound laws c.args.commit c.args.map.now c.place.new.map c.requires.limits listed stands change c.requires.sound c.requires.few pieces c.page_runs.result.now c.in_ok-places.places.text took streams);
      edit = (change.streams, c.requires.sound.edit);
      stands =
          subst IsCatalogue (sym given)
          (made_stands laws c.args.commit c.args.map.now c.place.new.map c.requires.limits listed stands change c.requires.sound c.requires.few pieces c.page_runs.result.now c.in_ok-places.places.text took streams);
      kind =
          c.in_ok-asked.ensures.kind
          ∙ sym (ap kind_of given ∙ made_kind laws c.args.commit c.args.map.now c.place.new.map c.requires.limits listed stands change c.requires.sound c.requires.few pieces c.page_runs.result.now c.in_ok-places.places.text took streams);
      pages =
          subst (λ (d : PlainCatalogue). ArePageRuns d c.page_runs.result.now) (sym given)
          (made_runs laws c.args.commit c.args.map.now c.place.new.map c.requires.limits listed stands change c.requires.sound c.requires.few pieces c.page_runs.result.now c.in_ok-places.places.text took streams);
    }

pub plan_next-requires-clause-room : goal.plan_next-requires-clause-room
plan_next-requires-clause-room c =
    let listed = catalogue_of c.args.stored.now.list in
    let change : PlainChange = change_of c.args.change.now in
    let v = c.args.commit.version in
    let pieces = plain_pieces c.in_ok-places.places.pieces.items in
    let ps = plain_pieces c.deref-6.result.now in
    let made : plain_contents c.in_ok-streams.streams.items ≡ change.streams = c.in_ok-streams.ensures ∙ c.requires.streams in
    let streams = c.in_ok-places.ensures.contents ∙ made in
    let same = ap plain_pieces c.deref-6.ensures.value in
    let none_placed : c.in_ok-segments.segments.items ≡ unplaced v change.streams change.counts =
    c.in_ok-segments.ensures ∙ (λ i. unplaced v ((ap plain_contents c.deref.ensures.value ∙ made) i) ((c.deref-2.ensures.value ∙ c.requires.counts) i)) in
    let segments = c.deref-5.ensures.value ∙ none_placed in
    let took = took_for v c.args.map.now c.place.new.map listed change (plain_contents c.in_ok-streams.streams.items) c.deref-4.result.now c.in_ok-asked.asked.layout.text_bytes c.in_ok-places.places.runs.items
    ((runs_of pieces ++ c.page_runs.result.now) ++ c.in_ok-places.places.text ∷ []) made (c.deref-4.ensures.value ∙ c.in_ok-asked.ensures.pages) c.in_ok-asked.ensures.text c.in_ok-places.ensures.taken c.page_runs.ensures in
    let laws : PageLaws = assumption (one_schema c.one_page_each.ensures.apart, c.pages_hold_what_was_read.ensures, c.kept_catalogues_are_read.ensures) in
    let stands = catalogue_is listed c.args.stored.now.list.kept in
    let edited_is = given_is v listed change pieces ps c.deref-5.result.now same segments in
    let texts = c.in-Ok.ensures.texts ∙ ap (λ (d : PlainCatalogue). page_texts d ++ settled_text d c.page_runs.result.now ∷ []) edited_is in
    let many = as_many v c.args.map.now c.place.new.map listed change c.requires.sound pieces c.page_runs.result.now c.in_ok-places.places.text took streams in
    let number = texts_count laws (unpaged v listed change (runs_of pieces)) (outline v listed change) c.in-Ok.texts.items c.deref-4.result.now (settled_text (unpaged v listed change (runs_of pieces)) c.page_runs.result.now)
    (unpaged_shapes v listed change c.requires.sound (runs_of pieces) many) texts (c.deref-4.ensures.value ∙ c.in_ok-asked.ensures.pages) in
    (length c.deref-4.result.now, c.in-Ok.texts.ok.0 ∙ number, c.in_ok-places.ensures.room)

pub returns-clause-err : goal.returns-clause-err
returns-clause-err c =
    let sizes = counts_of (plain_contents c.in_ok-streams.streams.items) c.deref-4.result.now c.in_ok-asked.asked.layout.text_bytes in
    all_given_back c.args.map.now c.place.new.map c.give_each.new.self sizes c.in_ok-places.places.runs.items c.in_ok-places.ensures.taken
    (subst (GivesAll c.place.new.map c.give_each.new.self) c.deref-in-Err.ensures.value c.give_each.ensures)

pub returns-in-Ok-clause-ok : goal.returns-in-Ok-clause-ok
returns-in-Ok-clause-ok c =
    let listed = catalogue_of c.args.stored.now.list in
    let change : PlainChange = change_of c.args.change.now in
    let v = c.args.commit.version in
    let pieces = plain_pieces c.in_ok-places.places.pieces.items in
    let ps = plain_pieces c.deref-6.result.now in
    let made : plain_contents c.in_ok-streams.streams.items ≡ change.streams = c.in_ok-streams.ensures ∙ c.requires.streams in
    let streams = c.in_ok-places.ensures.contents ∙ made in
    let same = ap plain_pieces c.deref-6.ensures.value in
    let none_placed : c.in_ok-segments.segments.items ≡ unplaced v change.streams change.counts =
    c.in_ok-segments.ensures ∙ (λ i. unplaced v ((ap plain_contents c.deref.ensures.value ∙ made) i) ((c.deref-2.ensures.value ∙ c.requires.counts) i)) in
    let segments = c.deref-5.ensures.value ∙ none_placed in
    let took = took_for v c.args.map.now c.place.new.map listed change (plain_contents c.in_ok-streams.streams.items) c.deref-4.result.now c.in_ok-asked.asked.layout.text_bytes c.in_ok-places.places.runs.items
    ((runs_of pieces ++ c.page_runs.result.now) ++ c.in_ok-places.places.text ∷ []) made (c.deref-4.ensures.value ∙ c.in_ok-asked.ensures.pages) c.in_ok-asked.ensures.text c.in_ok-places.ensures.taken c.page_runs.ensures in
    let laws : PageLaws = assumption (one_schema c.one_page_each.ensures.apart, c.pages_hold_what_was_read.ensures, c.kept_catalogues_are_read.ensures) in
    let stands = catalogue_is listed c.args.stored.now.list.kept in
    let edited_is = given_is v listed change pieces ps c.deref-5.result.now same segments in
    let k = c.args.commit in
    let kind = c.in_ok-asked.ensures.kind in
    let bytes = c.in_ok-asked.ensures.text in
    prepared laws c.args.commit c.args.map.now c.place.new.map c.requires.limits listed stands change c.requires.sound c.requires.few pieces c.page_runs.result.now c.in_ok-places.places.text took streams
    c.in-Ok.next c.plan_next.result c.in_ok-asked.asked.back.items c.requires.own c.requires.next
    (c.in-Ok.ensures.catalogue ∙ ap (λ (d : PlainCatalogue). settled d c.page_runs.result.now) edited_is)
    (c.plan_next.ensures.commit ∙ (λ i. next_commit k (c.version_after.ensures i) (kind i) c.in_ok-places.places.text (bytes i)))
    c.plan_next.ensures.catalogue (c.plan_next.ensures.placed ∙ c.page_runs.ensures)
    (c.plan_next.ensures.contents ∙ ap (λ (vs : List (List ℕ)). contents_of pieces ++ vs) (c.in-Ok.ensures.texts ∙ ap (λ (d : PlainCatalogue). page_texts d ++ settled_text d c.page_runs.result.now ∷ []) edited_is))
    (ap (λ (w : Vec Run). w.items) c.plan_next.ensures.runs ∙ c.page_runs.ensures) c.in_ok-asked.ensures.back
