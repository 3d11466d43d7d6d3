-- The pages that are kept when a catalogue gets digests: those of tables without segments, which mean the same in each form.
use Rattle.std.specs.Prelude.{◌≡◌, ℕ, List, [], ◌∷◌, length, take, drop, Some, Ok}
use Rattle.std.proofs.Common.{ap}
use Rattle.sector_dev.specs.Disk.{Image}
use Rattle.arrow_schema.specs.Column.{PlainSchema}
use Rattle.segments.specs.declared.extent.Extent.{Extent}
use Rattle.catalogue.specs.declared.entry.Segment.{Segment}
use Rattle.catalogue.specs.declared.entry.SegmentForm.{SegmentForm}
use Rattle.catalogue.specs.declared.entry.SegmentForm.TheVariants.{Digested}
use Rattle.catalogue.specs.Entries.{PlainCatalogue}
use Rattle.catalogue.specs.Edits.{page_behind, with_digests, digested}
use Rattle.catalogue.specs.Reading.{page_at}
use Rattle.catalogue.specs.laws.Forms.{body_none}
use Rattle.commit.specs.Standing.{extent_at}
use Rattle.pages.specs.Stored.{or_no_text, page_in, HoldsPages}
use Rattle.pages.specs.laws.Read.{body_is, is_body, bound_ok, then_ok, text_there}

page_none : (a b : SegmentForm) (most : ℕ) (bytes : List ℕ) (schema : PlainSchema) → page_at a most bytes ≡ Some (schema, []) → page_at b most bytes ≡ Some (schema, [])
page_none a b most bytes schema is =
    let x = body_is a most bytes (schema, []) is in
    is_body b most bytes (schema, []) (record { rest = x.rest; body = body_none a b bytes schema x.rest x.body; none = x.none; limits = x.limits; sound = x.sound; few = x.few })

module _ (size : ℕ) (image : Image) where
  pub page_in_none : (a b : SegmentForm) (most : ℕ) (p : Extent) (schema : PlainSchema) → page_in a size image most p ≡ Ok (schema, []) → page_in b size image most p ≡ Ok (schema, [])
  page_in_none a b most p schema is =
      let x = bound_ok (extent_at size image 8 p) (λ bytes. or_no_text (page_at a most bytes)) (schema, []) is in
      then_ok (extent_at size image 8 p) (λ bytes. or_no_text (page_at b most bytes)) x.0 (Ok (schema, [])) x.1
      (ap or_no_text (page_none a b most x.0 schema (text_there (page_at a most x.0) (schema, []) x.2)))

  pub digested_holds : (form : SegmentForm) (c : PlainCatalogue) (ds : List (List ℕ)) → HoldsPages form size image c → HoldsPages Digested size image (digested c ds)
  unfolding digested
  digested_holds form [] ds held = tt
  digested_holds form (e ∷ es) ds held = (one e.segments (take (length e.segments) ds) held.0, digested_holds form es (drop (length e.segments) ds) held.1)
    where
      one : (ss : List Segment) (own : List (List ℕ)) → ((page : Extent) → e.page ≡ Some page → page_in form size image (length ss) page ≡ Ok (e.schema, ss))
          → (page : Extent) → page_behind ss e.page ≡ Some page → page_in Digested size image (length (with_digests ss own)) page ≡ Ok (e.schema, with_digests ss own)
      one [] own says page here = page_in_none form Digested 0 page e.schema (says page here)
      one (s ∷ ss) own says page here = absurd (cc here)
