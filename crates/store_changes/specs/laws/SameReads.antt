-- What was read of a table is what reads of another image show that is the same in the sectors of its segments, if the device tells its story.
use Rattle.std.specs.Prelude.{◌≡◌, ◌⊎◌, ◌≤◌, ◌<◌, ◌+◌, ℕ, zero, suc, Bool, true, List, [], ◌∷◌, length, map, take, slice_get, Option, Some, None, Result, Ok, Err, refl}
use Rattle.std.specs.List.{list_all}
use Rattle.std.proofs.Common.{inl, inr, sym, ap, ◌∙◌, subst, arith}
use Rattle.std.proofs.lemmas.Bool.{and_parts, and_from}
use Rattle.sector_dev.specs.Disk.{Image}
use Rattle.segments.specs.laws.ReadBack.{same_bytes}
use Rattle.arrow_schema.specs.Column.{PlainSchema}
use Rattle.cells.specs.Cell.{Cell, PlainTable}
use Rattle.catalogue.specs.declared.entry.Segment.{Segment}
use Rattle.catalogue.specs.Entries.{PlainEntry, is_segment, is_entry, runs_in_segments}
use Rattle.catalogue.specs.laws.Kept.{entry_is}
use Rattle.commit.specs.Standing.{InSome}
use Rattle.tables.specs.declared.refusal.Refusal.{Refusal}
use Rattle.tables.specs.declared.refusal.Refusal.TheVariants as refusals
use Rattle.query.specs.Query.{PlainQuery}
use Rattle.store_runs.specs.Changes.{PlainChange}
use Rattle.store_runs.specs.Held.{is_undamaged, bytes_of, segment_rows, rows_held, table_of_rows, table_held}
use Rattle.store_runs.specs.Reading.{IsCopy, HasRead, HaveRead, ArePast, IsUnread, IsDamaged, Unreads, IsRead}
use Rattle.store_runs.specs.Deciding.{Addition, IsAdded, IsSaved, IsNotRead}
use Rattle.store_changes.specs.laws.Frame.{sectors_of, same_segment, same_rows}

module _ (a b : Image) where
  -- in the sectors of segments
  abbrev pub Agree : List Segment → Type 0
  Agree gs = (n : ℕ) → InSome (runs_in_segments gs) n → b n ≡ a n

  agree_first : (k : ℕ) (gs : List Segment) → Agree gs → Agree (take k gs)
  agree_first zero gs same n within = absurd within
  agree_first (suc k) [] same n within = absurd within
  agree_first (suc k) (g ∷ gs) same n (inl here) = same n (inl here)
  agree_first (suc k) (g ∷ gs) same n (inr later) = agree_first k gs (λ m some. same m (inr some)) n later

  first_sound : (k : ℕ) (gs : List Segment) → list_all is_segment gs ≡ true → list_all is_segment (take k gs) ≡ true
  first_sound zero gs sound = refl
  first_sound (suc k) [] sound = refl
  first_sound (suc k) (g ∷ gs) sound = let parts = and_parts (is_segment g) (list_all is_segment gs) sound in and_from (is_segment g) (list_all is_segment (take k gs)) parts.0 (first_sound k gs parts.1)

  one_of : (place : ℕ) (gs : List Segment) (g : Segment) → slice_get gs place ≡ Some g → list_all is_segment gs ≡ true → Agree gs → (is_segment g ≡ true) × Agree (g ∷ [])
  one_of place [] g at sound same = absurd (cc at)
  one_of zero (x ∷ xs) g at sound same =
      let here : x ≡ g = cc at in
      subst (λ (y : Segment). (is_segment y ≡ true) × Agree (y ∷ [])) here ((and_parts (is_segment x) (list_all is_segment xs) sound).0, λ n within. elim within [ inl own ↦ same n (inl own) | inr none ↦ absurd none ])
  one_of (suc place) (x ∷ xs) g at sound same = one_of place xs g at (and_parts (is_segment x) (list_all is_segment xs) sound).1 (λ n within. same n (inr within))

  bytes_alike : (g : Segment) → is_segment g ≡ true → Agree (g ∷ []) → bytes_of g b ≡ bytes_of g a
  bytes_alike g sound same =
      let count = sectors_of g sound in
      same_bytes b a g.place.run.start g.place.bytes (λ j lt. same (g.place.run.start + j) (inl (omega arith, omega (arith, count, lt))))

  rows_alike : (schema : PlainSchema) (g : Segment) → is_segment g ≡ true → Agree (g ∷ []) → segment_rows schema g b ≡ segment_rows schema g a
  rows_alike schema g sound same = same_segment a b schema g sound (λ n low high. same n (inl (low, high)))

  module _ (tells : Bool) where
    has_alike : (schema : PlainSchema) (g : Segment) (rows : List (List Cell)) → is_segment g ≡ true → (tells ≡ true → Agree (g ∷ [])) → HasRead tells a schema g rows → HasRead tells b schema g rows
    has_alike schema g rows sound same has = record {
      bytes = has.bytes;
      copy = record { count = has.copy.count; undamaged = has.copy.undamaged; held = λ told. bytes_alike g sound (same told) ∙ has.copy.held told };
      means = has.means;
    }

    have_alike : (schema : PlainSchema) (gs : List Segment) (rows : List (List Cell)) → list_all is_segment gs ≡ true → (tells ≡ true → Agree gs) → HaveRead tells a schema gs rows → HaveRead tells b schema gs rows
    have_alike schema [] rows sound same have = have
    have_alike schema (g ∷ gs) rows sound same (own, others, first, more, is) =
        let parts = and_parts (is_segment g) (list_all is_segment gs) sound in (
          own,
          others,
          has_alike schema g own parts.0 (λ told n within. elim within [ inl here ↦ same told n (inl here) | inr none ↦ absurd none ]) first,
          have_alike schema gs others parts.1 (λ told n within. same told n (inr within)) more,
          is,
        )

    pub read_alike : (e : PlainEntry) (t : PlainTable) → is_entry e ≡ true → (tells ≡ true → Agree e.segments) → IsRead tells a e t → IsRead tells b e t
    read_alike e t sound same read =
        let segments = (entry_is e sound).segments in
        record {
          kept = read.kept;
          schema = read.schema;
          count = read.count;
          read = have_alike e.schema e.segments t.rows segments same read.read;
          held = λ told. ap (table_of_rows e.schema) (same_rows a b e.schema e.segments segments (same told)) ∙ read.held told;
        }

    unread_alike : (e : PlainEntry) (place : ℕ) → is_entry e ≡ true → Agree e.segments → IsUnread a e place → IsUnread b e place
    unread_alike e place sound same u =
        let segments = (entry_is e sound).segments in
        let own = one_of place e.segments u.segment u.at segments same in
        record {
          segment = u.segment;
          at = u.at;
          rows = u.rows;
          before = same_rows a b e.schema (take place e.segments) (first_sound place e.segments segments) (agree_first place e.segments same) ∙ u.before;
          light = u.light;
          undamaged = ap (is_undamaged u.segment.digest) (bytes_alike u.segment own.0 own.1) ∙ u.undamaged;
          past = subst (ArePast e.schema u.rows) (sym (rows_alike e.schema u.segment own.0 own.1)) u.past;
        }

    damaged_alike : (e : PlainEntry) (place : ℕ) → is_entry e ≡ true → Agree e.segments → IsDamaged a e place → IsDamaged b e place
    damaged_alike e place sound same u =
        let segments = (entry_is e sound).segments in
        let own = one_of place e.segments u.segment u.at segments same in
        record {
          segment = u.segment;
          at = u.at;
          rows = u.rows;
          before = same_rows a b e.schema (take place e.segments) (first_sound place e.segments segments) (agree_first place e.segments same) ∙ u.before;
          light = u.light;
          damaged = ap (is_undamaged u.segment.digest) (bytes_alike u.segment own.0 own.1) ∙ u.damaged;
        }

    unreads_alike : (e : PlainEntry) (r : Refusal) → is_entry e ≡ true → (tells ≡ true → Agree e.segments) → Unreads tells a e r → Unreads tells b e r
    unreads_alike e refusals.Device sound same u = tt
    unreads_alike e refusals.OutOfMemory sound same u = tt
    unreads_alike e (refusals.SegmentUnread place) sound same u = (u.0, λ told. unread_alike e place sound (same told) (u.1 told))
    unreads_alike e (refusals.SegmentDamaged place) sound same u = (u.0, λ told. damaged_alike e place sound (same told) (u.1 told))
    unreads_alike e _ sound same u = absurd u

    -- a table that is not read
    pub not_read_alike : (found : Option PlainEntry) (e : PlainEntry) (d : Result PlainChange Refusal) → ((x : PlainEntry) → found ≡ Some x → x ≡ e) → is_entry e ≡ true → (tells ≡ true → Agree e.segments)
        → IsNotRead tells a found d → IsNotRead tells b found d
    not_read_alike found e d only sound same not =
        let is : not.entry ≡ e = only not.entry not.tested in
        record {
          entry = not.entry;
          tested = not.tested;
          refusal = not.refusal;
          told = not.told;
          unread = unreads_alike not.entry not.refusal (subst (λ (x : PlainEntry). is_entry x ≡ true) (sym is) sound) (subst (λ (x : PlainEntry). tells ≡ true → Agree x.segments) (sym is) same) not.unread;
        }

    -- rows for a table that is read
    pub added_alike : (name : List ℕ) (tested : Result Addition Refusal) (e : PlainEntry) (d : Result PlainChange Refusal) → ((x : Addition) → tested ≡ Ok x → x.entry ≡ e) → is_entry e ≡ true → (tells ≡ true → Agree e.segments)
        → IsAdded tells a name tested d → IsAdded tells b name tested d
    added_alike name (Err r) e d only sound same is = is
    added_alike name (Ok x) e d only sound same (inr light) = inr light
    added_alike name (Ok x) e d only sound same (inl (standing, read, is)) =
        let at = only x refl in
        inl (standing, read_alike x.entry standing (subst (λ (y : PlainEntry). is_entry y ≡ true) (sym at) sound) (subst (λ (y : PlainEntry). tells ≡ true → Agree y.segments) (sym at) same) read, is)

    -- a query that is saved
    pub saved_alike : (to : List ℕ) (query : PlainQuery) (tested : Result PlainEntry Refusal) (e : PlainEntry) (d : Result PlainChange Refusal) → ((x : PlainEntry) → tested ≡ Ok x → x ≡ e) → is_entry e ≡ true → (tells ≡ true → Agree e.segments)
        → IsSaved tells a to query tested d → IsSaved tells b to query tested d
    saved_alike to query (Err r) e d only sound same is = is
    saved_alike to query (Ok x) e d only sound same (standing, read, is) =
        let at = only x refl in
        (standing, read_alike x standing (subst (λ (y : PlainEntry). is_entry y ≡ true) (sym at) sound) (subst (λ (y : PlainEntry). tells ≡ true → Agree y.segments) (sym at) same) read, is)
