-- The stream of a single segment.
use Rattle.std.specs.Prelude.{slice_get, is_some}
use Rattle.std.proofs.Common.{◌≡◌, ◌∙◌, ℕ, Bool, true, false, true≢false, List, [], ◌∷◌, Option, Some, None, refl, sym, ap, subst}
use Rattle.std.specs.List.{list_all}
use Rattle.std.proofs.lemmas.Option.{slice_get_within, get_or_from_slice_get}
use Rattle.sha2.specs.Sha256.{sha256}
use Rattle.sector_dev.specs.Disk.{Image}
use Rattle.arrow_schema.specs.Column.{PlainSchema}
use Rattle.catalogue.specs.declared.entry.Segment.{Segment}
use Rattle.catalogue.specs.Entries.{PlainEntry, is_segment}
use Rattle.tables.specs.declared.refusal.Refusal.{Refusal}
use Rattle.tables.specs.declared.refusal.Refusal.TheVariants as refusals
use Rattle.cells.specs.Cell.{Cell}
use Rattle.store_runs.specs.Held.{is_undamaged, rows_in_bytes, segment_rows, joined_rows, rows_held}
use Rattle.store_runs.specs.Reading.{IsCopy, LacksRows}
use Rattle.store_changes.specs.Ahead.{HasBytes}
use Rattle.store_changes.specs.laws.Digests.{copy_rows, copy_undamaged}
use Rattle.store_changes.specs.laws.ReadTables.{no_segment, sound_at}
use Rattle.store.specs.declared.segment_streams.SegmentStream.{SegmentStream}
use Rattle.store.specs.SegmentStreams.{HasStream, HaveStreams, IsStreamAt, EntryHasStream, StreamsAt, RefusesAt, RefusesPlace, RefusesStream}

some_of : {X : Type 0} (o : Option X) → is_some o ≡ true → (x : X) × (o ≡ Some x)
some_of None is = absurd (true≢false (sym is))
some_of (Some x) is = (x, refl)

none_of : {X : Type 0} (o : Option X) → is_some o ≡ false → o ≡ None
none_of None is = refl
none_of (Some x) is = absurd (true≢false is)

module _ (tells : Bool) (image : Image) (s : PlainSchema) (g : Segment) (bytes : List ℕ) where
  copied : HasBytes tells image g bytes → is_undamaged g.digest (Some bytes) ≡ true → IsCopy tells image g bytes
  copied has whole = record { count = has.count; undamaged = whole; held = has.held }

  -- undamaged bytes that mean its rows
  pub streams : (digest : List ℕ) → HasBytes tells image g bytes → is_undamaged g.digest (Some bytes) ≡ true → digest ≡ sha256 bytes
      → true ≡ is_some (rows_in_bytes s g.rows (Some bytes)) → HasStream tells image s g digest bytes
  streams digest has whole is means =
      let rows = some_of (rows_in_bytes s g.rows (Some bytes)) (sym means) in
      record { copy = copied has whole; digested = is; rows = rows.0; means = rows.1 }

  -- undamaged bytes that do not
  pub not_streams : (place : ℕ) → HasBytes tells image g bytes → is_undamaged g.digest (Some bytes) ≡ true → false ≡ is_some (rows_in_bytes s g.rows (Some bytes))
      → LacksRows tells image s g place (refusals.SegmentUnread place)
  not_streams place has whole means =
      let copy = copied has whole in (
        refl,
        λ told. (copy_undamaged tells image s g bytes copy told, copy_rows tells image s g bytes copy told ∙ none_of (rows_in_bytes s g.rows (Some bytes)) (sym means)),
      )

-- ---- at a place

module _ (tells : Bool) (image : Image) (e : PlainEntry) (place : ℕ) (s : PlainSchema) (g : Segment) (schema : s ≡ e.schema) (at : slice_get e.segments place ≡ Some g) where
  pub stream_at : (stream : SegmentStream) → HasStream tells image s g stream.digest stream.bytes.items → EntryHasStream tells image e place stream
  stream_at stream has =
      subst (λ (o : Option Segment). IsStreamAt tells image e.schema o stream) (sym at)
      (subst (λ (x : PlainSchema). HasStream tells image x g stream.digest stream.bytes.items) schema has)

  pub refuses_at_place : (r : Refusal) → LacksRows tells image s g place r → RefusesPlace tells image e place r
  refuses_at_place r lacks =
      subst (λ (o : Option Segment). RefusesAt tells image e.schema o place r) (sym at) (subst (λ (x : PlainSchema). LacksRows tells image x g place r) schema lacks)

-- past the last one
pub refuses_past : (tells : Bool) (image : Image) (e : PlainEntry) (place : ℕ) → slice_get e.segments place ≡ None → RefusesPlace tells image e place (refusals.SegmentUnread place)
refuses_past tells image e place none = subst (λ (o : Option Segment). RefusesAt tells image e.schema o place (refusals.SegmentUnread place)) (sym none) refl

-- ---- at a name

module _ (halted : Bool) (found : Option PlainEntry) (tells : Bool) (image : Image) (e : PlainEntry) (place : ℕ) (on : halted ≡ false) (there : found ≡ Some e) where
  pub streams_at : (stream : SegmentStream) → EntryHasStream tells image e place stream → StreamsAt halted tells image found place stream
  streams_at stream has =
      subst (λ (b : Bool). StreamsAt b tells image found place stream) (sym on)
      (subst (λ (o : Option PlainEntry). StreamsAt false tells image o place stream) (sym there) has)

  pub refuses_stream : (r : Refusal) → RefusesPlace tells image e place r → RefusesStream halted tells image found place r
  refuses_stream r refuses =
      subst (λ (b : Bool). RefusesStream b tells image found place r) (sym on)
      (subst (λ (o : Option PlainEntry). RefusesStream false tells image o place r) (sym there) refuses)

-- the segment at a place may be in a catalogue
pub sound_here : (segments : List Segment) (place : ℕ) (g : Segment) → list_all is_segment segments ≡ true → slice_get segments place ≡ Some g → is_segment g ≡ true
sound_here segments place g sound at =
    subst (λ (x : Segment). is_segment x ≡ true) (get_or_from_slice_get segments place g no_segment at)
    (sound_at segments place (slice_get_within segments place g at) sound)

-- ---- the rows of a table

pub streams_hold : (image : Image) (s : PlainSchema) (gs : List Segment) (xs : List (List ℕ)) (rows : List (List Cell)) → HaveStreams image s gs xs rows → rows_held s gs image ≡ Some rows
unfolding rows_held
streams_hold image s [] [] rows is = ap Some (sym is)
streams_hold image s (g ∷ gs) (x ∷ xs) rows (digest, has, others, later, is) =
    let own : segment_rows s g image ≡ Some has.rows = copy_rows true image s g x has.copy refl ∙ has.means in
    let rest : rows_held s gs image ≡ Some others = streams_hold image s gs xs others later in
    (λ i. joined_rows (own i) (rest i)) ∙ ap Some (sym is)
streams_hold image s [] (x ∷ xs) rows have = absurd have
streams_hold image s (g ∷ gs) [] rows have = absurd have
