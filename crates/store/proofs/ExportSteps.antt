-- The calls of exports are calls of the machine.
use Rattle.std.specs.Prelude.{◌≢◌, ◌⊎◌, ◌||◌, min, if◌then◌else◌, option_map, slice_get, nat_le, IsSome}
use Rattle.std.specs.List.{filter, find}
use Rattle.std.proofs.Common.{◌≡◌, ◌≤◌, ◌<◌, ◌+◌, ◌-◌, ◌^◌, ◌++◌, ℕ, suc, zero, Bool, true, false, not, inl, inr, ⊎_elim, List, [], ◌∷◌, Option, Some, None, Ok, length, map, refl, sym, ap, ◌∙◌, subst, arith, length-append}
use Rattle.std.proofs.lemmas.Bool.{leb-true}
use Rattle.std.proofs.lemmas.List.{length-map}
use Rattle.sector_dev.specs.Disk.{Disk, Story, Image, now, shown_image, synced_image}
use Rattle.sector_dev.specs.Time.{LeavesOnly}
use Rattle.sector_dev.specs.laws.Time.{now_read}
use Rattle.sector_dev.specs.declared.device.SectorDevice.{Ghosts}
use Rattle.arrow_schema.specs.Column.{PlainSchema}
use Rattle.arrow_schema.specs.Limits.{IsWithinLimits}
use Rattle.cells.specs.Cell.{Cell, PlainTable}
use Rattle.values.specs.PlainTables.{plain_table}
use Rattle.values.specs.Table.{IsTable}
use Rattle.ipc_message.specs.Header.{supported_codes}
use Rattle.ipc_stream.specs.Meaning.{meaning}
use Rattle.table_cut.specs.CutRows.{joined}
use Rattle.ipc_canonical.specs.Canonical.{stream_parts}
use Rattle.catalogue.specs.declared.entry.Segment.{Segment}
use Rattle.catalogue.specs.Entries.{PlainEntry, IsCatalogue, is_entry, runs_in_segments}
use Rattle.catalogue.specs.Edits.{entry_of}
use Rattle.catalogue.specs.View.{catalogue_of}
use Rattle.catalogue.specs.laws.Changed.{found_passes}
use Rattle.catalogue.specs.laws.Kept.{entry_is}
use Rattle.commit.specs.declared.recovery.Opened.{Opened}
use Rattle.commit.specs.Standing.{standing}
use Rattle.pages.specs.Stored.{stored_reading}
use Rattle.pages.specs.declared.stored.StoredCatalogue.{StoredCatalogue}
use Rattle.export_book.specs.declared.book.TheConstants.{MAX_EXPORTS}
use Rattle.export_book.specs.Book as books
use Rattle.export_book.specs.Book.{PlainExport, PlainBook, IsBook, is_full, open_at}
use Rattle.export_book.specs.laws.Ids.{new_id, has_room}
use Rattle.tables.specs.declared.refusal.Limit.TheVariants as limits
use Rattle.tables.specs.declared.refusal.Refusal.{Refusal}
use Rattle.tables.specs.declared.refusal.Refusal.TheVariants as refusals
use Rattle.tables.specs.Refusals.{by_room, origin_of}
use Rattle.tables.specs.Tables.{Tables, table_at}
use Rattle.tables.specs.Verdict.{after}
use Rattle.store.specs.declared.store.Store.{Store}
use Rattle.store_runs.specs.Calls.{PlainCall, open_export_call, export_next_call, close_export_call, PlainReply, done, export_is, piece_is, refused, is_device_reply}
use Rattle.store_runs.specs.Machine.{Setting, Machine, Export, running, tables_now, Allows, pinned_by, export_at, gave, is_of}
use Rattle.store_runs.specs.Steps.{Step, IsExportOf}
use Rattle.store_runs.specs.Runs.{TellsFound, KeepsShown, TellsExport}
use Rattle.store_runs.specs.Carrying.{HasNoChange}
use Rattle.store_runs.specs.laws.Snapshots.{found_last}
use Rattle.store_runs.specs.Rooms.{TellsRoom}
use Rattle.store_runs.specs.Held.{table_held, rows_each, rows_held, pieces_held, segment_rows}
use Rattle.store.specs.Fits.{setting_of, StoreFits, IsSound, ExportFits, ExportsFit, book_of, commit_of, listed_in}
use Rattle.store.specs.Applying.{GoesOn}
use Rattle.store_runs.specs.Reading.{LacksRows, OnlyReadsDevice}
use Rattle.store.specs.Reading.{OnlyReadsStore}
use Rattle.store.specs.Exporting.{RefusesExport, RefusesRoom, OpensExport, OpensAt, PieceIs, GivesPiece, after_giving, RefusesSegment, RefusesNumber, RefusesPiece, ReadsForExport, RefusesClosing, ClosesAt}
use Rattle.store_changes.specs.laws.Digests.{damaged_lacks}
use Rattle.store_changes.specs.laws.Named.{entry_has, entry_lacks, held_has}
use Rattle.store_changes.specs.laws.Spared.{each_joined}
use Rattle.store_changes.specs.LawsBelow.{TableLaws}
use Rattle.store.proofs.StillFits.{fits_unwritten}
use Rattle.store.proofs.Asked.{is_running, not_running, refused_elsewhere}
use Rattle.store_changes.specs.laws.ReadTables.{held_is_table}
use Rattle.store_changes.specs.laws.Synced.{shown_is_synced}
use Rattle.store.proofs.ReadsStore.{none_written, moments_read, spared_reading, stays_reading, halts_reading}
use Rattle.store.proofs.OpenExports.{FitsAt, found_fits, count_fits, more_fits, given_fits, left_fits, each_count, each_at, piece_at}

-- a law of streams: what their parts mean, joined
abbrev pub PartsLaw : Type 0
PartsLaw = (s : PlainSchema) (lists : List (List (List Cell))) → IsTable (plain_table s (joined lists)) → meaning supported_codes (joined (stream_parts s lists)) ≡ Ok (plain_table s (joined lists))

-- ---- the table that is found

-- the rows of an entry that has a table, segment by segment
pub record HasParts (image : Image) (e : PlainEntry) (table : PlainTable) : Type 0 where
  pub lists : List (List (List Cell))
  pub each : rows_each e.schema e.segments image ≡ Some lists
  pub is : table ≡ plain_table e.schema (joined lists)
  pub kept : IsTable (plain_table e.schema (joined lists))

pub parts_held : TableLaws → (image : Image) (e : PlainEntry) (table : PlainTable) → IsWithinLimits e.schema → table_held image e ≡ Some table → HasParts image e table
parts_held laws image e table within is = by_each (rows_each e.schema e.segments image) refl (each_joined e.schema e.segments image)
  where
    by_each : (o : Option (List (List (List Cell)))) → rows_each e.schema e.segments image ≡ o → option_map (λ (lists : List (List (List Cell))). joined lists) o ≡ rows_held e.schema e.segments image → HasParts image e table
    by_each None each h = let has = held_has image e table is in let none = h ∙ has.1 in absurd (cc none)
    by_each (Some lists) each h =
        let has = held_has image e table is in
        let own = held_is_table laws image e table within is in
        let rows : joined lists ≡ has.0 = let all = h ∙ has.1 in cc all in
        let same : own.0 ≡ joined lists = let all = h ∙ own.1 in cc all in
        record {
          lists = lists;
          each = each;
          is = has.2 ∙ ap (λ (r : List (List Cell)). plain_table e.schema r) (sym rows);
          kept = subst (λ (r : List (List Cell)). IsTable (plain_table e.schema r)) same own.2;
        }

parts_count : (s : PlainSchema) (lists : List (List (List Cell))) → length (stream_parts s lists) ≡ length lists + 2
parts_count s lists = grind (arith, length-append, length-map)

-- ---- a book that is not full

no_room : (b : PlainBook) → is_full b ≡ true → (MAX_EXPORTS ≤ length b.exports) ⊎ (2 ^ 64 ≤ b.next)
no_room b is = by_test (nat_le MAX_EXPORTS (length b.exports)) refl is
  where
    by_test : (x : Bool) → nat_le MAX_EXPORTS (length b.exports) ≡ x → (x || nat_le (2 ^ 64) b.next) ≡ true → (MAX_EXPORTS ≤ length b.exports) ⊎ (2 ^ 64 ≤ b.next)
    by_test true many h = inl (leb-true MAX_EXPORTS (length b.exports) many)
    by_test false many h = inr (leb-true (2 ^ 64) b.next h)

-- ---- an export of an id

fits_none : (image : Image) (o : Option PlainExport) (p : Option Export) → FitsAt image o p → o ≡ None → p ≡ None
fits_none image None None fit is = refl
fits_none image None (Some e) fit is = absurd fit
fits_none image (Some b) None fit is = absurd fit
fits_none image (Some b) (Some e) fit is = absurd (cc is)

fits_some : (image : Image) (o : Option PlainExport) (p : Option Export) (b : PlainExport) → FitsAt image o p → o ≡ Some b → (e : Export) × (p ≡ Some e) × ExportFits image b e
fits_some image None p b fit is = absurd (cc is)
fits_some image (Some x) None b fit is = absurd fit
fits_some image (Some x) (Some e) b fit is = let same : x ≡ b = cc is in (e, refl, subst (λ (y : PlainExport). ExportFits image y e) same fit)

-- a segment of an export that has pieces can be read
readable : (image : Image) (b : PlainExport) (pieces : List (List ℕ)) (place : ℕ) (g : Segment) → pieces_held b.schema b.segments image ≡ Some pieces → slice_get b.segments place ≡ Some g → segment_rows b.schema g image ≡ None → ⊥
readable image b pieces place g held at none = by_lists (rows_each b.schema b.segments image) refl held
  where
    some_at : (lists : List (List (List Cell))) (gs : List Segment) (n : ℕ) → length lists ≡ length gs → slice_get gs n ≡ Some g → slice_get lists n ≡ None → ⊥
    some_at lists [] n count at none = cc at
    some_at [] (x ∷ xs) n count at none = omega (arith, count)
    some_at (l ∷ ls) (x ∷ xs) zero count at none = cc none
    some_at (l ∷ ls) (x ∷ xs) (suc n) count at none = let fewer : length ls ≡ length xs = omega (arith, count) in some_at ls xs n fewer at none

    by_lists : (o : Option (List (List (List Cell)))) → rows_each b.schema b.segments image ≡ o → option_map (stream_parts b.schema) o ≡ Some pieces → ⊥
    by_lists None each h = cc h
    by_lists (Some lists) each h = some_at lists b.segments place (each_count b.schema b.segments image lists each) at (sym (each_at b.schema b.segments image lists place g each at) ∙ none)

-- ---- calls that change the exports alone

module _ {D : Type 0} {g : Ghosts D} (size : D → ℕ) (story : D → Story) (failed : D → ℕ) (base : Tables) (m : Machine) (tells : Bool) (told : tells ≡ true) (old new : Store D g) (fits : StoreFits size story base m old) where
  abbrev own : Setting
  own = setting_of (size old.device) base

  abbrev changed : List Export → ℕ → Machine
  changed exports next_id = record m { exports = exports; next_id = next_id }

  runs_on : old.halted ≡ false → m.phase ≡ running
  runs_on on = is_running m.phase old.halted fits.phase on

  abbrev image : Image
  image = synced_image (now (story old.device))

  elsewhere_told : (call : PlainCall) (q : Refusal) → origin_of q ≢ by_room → TellsRoom own (pinned_by m) call (refused q) (now (story old.device)) (now (story new.device))
  elsewhere_told call q other = refused_elsewhere own (pinned_by m) call q (now (story old.device)) (now (story new.device)) other

  goes_by : (exports : List Export) (next_id : ℕ) (call : PlainCall) (reply : PlainReply) → old.halted ≡ false → is_device_reply reply ≡ false → TellsFound own reply (now (story old.device))
      → TellsRoom own (pinned_by m) call reply (now (story old.device)) (now (story new.device)) → TellsExport own call reply (now (story old.device)) (changed exports next_id) → Step own m call reply false (changed exports next_id) → OnlyReadsDevice size story failed tells done old.device new.device
      → new.halted ≡ false → commit_of new ≡ commit_of old → listed_in new ≡ listed_in old → ExportsFit (synced_image (now (story old.device))) (book_of new).exports exports → (book_of new).next ≡ next_id
      → GoesOn size story failed base m call reply old new
  unfolding Allows
  goes_by exports next_id call reply on answered found room opens step reads halts commit listed fit next =
      let moments = reads.moments told in
      let later : now (story new.device) ≡ now (story old.device) = now_read (story old.device) (story new.device) moments in
      let stood : LeavesOnly (Allows own m) (now (story new.device)) = subst (λ (d : Disk). LeavesOnly (Allows own m) d) (sym later) fits.device.allows in
      let allows : LeavesOnly (Allows own (changed exports next_id)) (now (story new.device)) = λ i may. stood i may in
      record {
        next = changed exports next_id;
        same = reads.same;
        goes = record {
          step = subst (λ (b : Bool). Step own m call reply b (changed exports next_id)) (sym (none_written (story old.device) (story new.device) moments)) step;
          moments = moments_read own m call reply (story old.device) (story new.device) fits.device.allows moments;
          settles = allows;
          quiet = λ no device. later;
          counts = reads.count ∙ sym (ap (λ (b : Bool). if b then min (failed old.device + 1) (2 ^ 64 - 1) else failed old.device) answered);
          tells = found;
          room = room;
          spares = λ needs. spared_reading m (story old.device) (story new.device) moments;
          keeps = opens;
        };
        fits = fits_unwritten size story base m old new fits reads.same exports next_id (runs_on on) halts commit listed later fit next;
      }

  -- ---- an opening

  open_step : (e : PlainEntry) (name : List ℕ) (id : ℕ) → TableLaws → PartsLaw → IsCatalogue (listed_in old) → IsBook (book_of old) → old.halted ≡ false → entry_of (listed_in old) name ≡ Some e
      → OpensExport old e id new → OnlyReadsDevice size story failed tells done old.device new.device → GoesOn size story failed base m (open_export_call name) (export_is id) old new
  unfolding Step
  open_step e name id laws parts catalogue book on found opens reads =
      let sound = fits.sound (runs_on on) in
      let has = entry_has image (listed_in old) (after base m.settled) sound.tables name e found in
      let within = (entry_is e (found_passes is_entry (listed_in old) name e catalogue.entries found)).schema in
      let held = parts_held laws image e has.0 within has.1 in
      let room = has_room (book_of old) opens.room in
      let next : id ≡ m.next_id = opens.next ∙ sound.next in
      let count = count_fits image (book_of old).exports m.exports sound.exports in
      let none : export_at m.exports id ≡ None =
      fits_none image (find (books.is_of id) (book_of old).exports) (export_at m.exports id) (found_fits image (book_of old).exports m.exports id sound.exports) (ap (open_at (book_of old)) opens.next ∙ new_id (book_of old) book) in
      let export : Export = record { id = id; runs = runs_in_segments e.segments; pieces = stream_parts e.schema held.lists; given = 0 } in
      let fit : ExportFits image (record { id = (book_of old).next; schema = e.schema; segments = e.segments; given = 0 }) export =
      record { id = opens.next; runs = refl; pieces = ap (λ (o : Option (List (List (List Cell)))). option_map (stream_parts e.schema) o) held.each; given = refl } in
      let pieces : length export.pieces ≡ length export.runs + 2 =
      omega (arith, parts_count e.schema held.lists, each_count e.schema e.segments image held.lists held.each, length-map e.segments (λ (s : Segment). s.place.run)) in
      let means : meaning supported_codes (joined export.pieces) ≡ Ok has.0 = parts e.schema held.lists held.kept ∙ ap Ok (sym held.is) in
      let at : table_at (tables_now own m) name ≡ Some has.0 = has.2 in
      let same = shown_is_synced (now (story old.device)) sound.stands.quiet.shown in
      let kept : KeepsShown (now (story old.device)) name export (listed_in old) = record {
        entry = e;
        listed = found;
        runs = refl;
        pieces = ap (pieces_held e.schema e.segments) same ∙ fit.pieces;
      } in
      let shown : HasNoChange own.size (now (story old.device)) (λ k c. KeepsShown (now (story old.device)) name export c) = record {
        commit = commit_of old;
        catalogue = listed_in old;
        stood = ap (standing stored_reading own.size) same ∙ sound.stands.found;
        is = kept;
      } in
      goes_by (m.exports ++ export ∷ []) (m.next_id + 1) (open_export_call name) (export_is id) on refl tt tt
      (export, found_last m.exports id export none refl, shown) (
        runs_on on,
        next,
        subst (λ (n : ℕ). n < 2 ^ 64) (sym opens.next) room.1,
        none,
        omega (arith, count, room.0),
        (export, refl, subst (λ (o : Option PlainTable). IsExportOf o export) (sym at) (means, refl, pieces), refl),
        refl,
      ) reads opens.on opens.commit opens.listed
      (subst (λ (b : PlainBook). ExportsFit image b.exports (m.exports ++ export ∷ [])) (sym opens.opened) (more_fits image (book_of old).exports m.exports _ export sound.exports fit))
      (ap (λ (b : PlainBook). b.next) opens.opened ∙ ap (λ (n : ℕ). n + 1) sound.next)

  pub opens_goes : (name : List ℕ) (id : ℕ) → TableLaws → PartsLaw → IsCatalogue (listed_in old) → IsBook (book_of old) → OpensAt old.halted (entry_of (listed_in old) name) old id new
      → OnlyReadsDevice size story failed tells done old.device new.device → GoesOn size story failed base m (open_export_call name) (export_is id) old new
  opens_goes name id laws parts catalogue book opens reads = by_state old.halted (entry_of (listed_in old) name) refl refl opens
    where
      by_state : (h : Bool) (o : Option PlainEntry) → old.halted ≡ h → entry_of (listed_in old) name ≡ o → OpensAt h o old id new → GoesOn size story failed base m (open_export_call name) (export_is id) old new
      by_state true o h found opens = absurd opens
      by_state false None h found opens = absurd opens
      by_state false (Some e) h found opens = open_step e name id laws parts catalogue book h found opens reads

  -- ---- a piece

  piece_goes : (id : ℕ) (b : PlainExport) (piece : Option (List ℕ)) → old.halted ≡ false → open_at (book_of old) id ≡ Some b → PieceIs true image b b.given piece → book_of new ≡ after_giving piece id (book_of old)
      → ReadsForExport size story failed tells done old new → GoesOn size story failed base m (export_next_call id) (piece_is piece) old new
  unfolding Step
  piece_goes id b piece on at is gives reads = by_piece piece is gives
    where
      sound : IsSound size story base m old
      sound = fits.sound (runs_on on)

      found : (e : Export) × (export_at m.exports id ≡ Some e) × ExportFits image b e
      found = fits_some image (open_at (book_of old) id) (export_at m.exports id) b (found_fits image (book_of old).exports m.exports id sound.exports) at

      numbered : (p : Option (List ℕ)) → PieceIs true image b b.given p → p ≡ slice_get found.0.pieces found.0.given
      numbered p is = piece_at image b found.0.pieces b.given p found.2.pieces is ∙ ap (slice_get found.0.pieces) (sym found.2.given)

      on_still : new.halted ≡ false
      on_still = reads.halts ∙ ap (λ (h : Bool). h || false) on

      by_piece : (p : Option (List ℕ)) → PieceIs true image b b.given p → book_of new ≡ after_giving p id (book_of old) → GoesOn size story failed base m (export_next_call id) (piece_is p) old new
      by_piece None is gives =
          goes_by m.exports m.next_id (export_next_call id) (piece_is None) on refl tt tt tt (runs_on on, (found.0, found.1, numbered None is), refl, refl) reads.device on_still
          (ap (λ (o : Opened StoredCatalogue). o.commit) reads.kept) (ap (λ (o : Opened StoredCatalogue). catalogue_of o.catalogue.list) reads.kept)
          (subst (λ (x : PlainBook). ExportsFit image x.exports m.exports) (sym gives) sound.exports) (ap (λ (x : PlainBook). x.next) gives ∙ sound.next)
      by_piece (Some bytes) is gives =
          goes_by (map (gave id) m.exports) m.next_id (export_next_call id) (piece_is (Some bytes)) on refl tt tt tt (runs_on on, (found.0, found.1, numbered (Some bytes) is), refl, refl) reads.device on_still
          (ap (λ (o : Opened StoredCatalogue). o.commit) reads.kept) (ap (λ (o : Opened StoredCatalogue). catalogue_of o.catalogue.list) reads.kept)
          (subst (λ (x : PlainBook). ExportsFit image x.exports (map (gave id) m.exports)) (sym gives) (given_fits image (book_of old).exports m.exports id sound.exports)) (ap (λ (x : PlainBook). x.next) gives ∙ sound.next)

  pub gives_goes : (id : ℕ) (piece : Option (List ℕ)) → GivesPiece old.halted tells (shown_image (now (story old.device))) (open_at (book_of old) id) piece → book_of new ≡ after_giving piece id (book_of old)
      → ReadsForExport size story failed tells done old new → GoesOn size story failed base m (export_next_call id) (piece_is piece) old new
  gives_goes id piece is gives reads = by_state old.halted (open_at (book_of old) id) refl refl is
    where
      by_state : (h : Bool) (o : Option PlainExport) → old.halted ≡ h → open_at (book_of old) id ≡ o → GivesPiece h tells (shown_image (now (story old.device))) o piece → GoesOn size story failed base m (export_next_call id) (piece_is piece) old new
      by_state true o h at is = absurd is
      by_state false None h at is = absurd is
      by_state false (Some b) h at is =
          let same = shown_is_synced (now (story old.device)) (fits.sound (runs_on h)).stands.quiet.shown in
          piece_goes id b piece h at (subst (λ (t : Bool). PieceIs t image b b.given piece) told (subst (λ (i : Image). PieceIs tells i b b.given piece) same is)) gives reads

  -- ---- a closing

  pub closes_goes : (id : ℕ) → ClosesAt old.halted (open_at (book_of old) id) old id new → OnlyReadsDevice size story failed tells done old.device new.device → GoesOn size story failed base m (close_export_call id) done old new
  unfolding Step
  closes_goes id closes reads = by_state old.halted (open_at (book_of old) id) refl refl closes
    where
      by_state : (h : Bool) (o : Option PlainExport) → old.halted ≡ h → open_at (book_of old) id ≡ o → ClosesAt h o old id new → GoesOn size story failed base m (close_export_call id) done old new
      by_state true o h at closes = absurd closes
      by_state false None h at closes = absurd closes
      by_state false (Some b) h at closes =
          let sound = fits.sound (runs_on h) in
          let found = fits_some image (open_at (book_of old) id) (export_at m.exports id) b (found_fits image (book_of old).exports m.exports id sound.exports) at in
          goes_by (filter (λ (e : Export). not (is_of id e)) m.exports) m.next_id (close_export_call id) done h refl tt tt tt (runs_on h, subst (λ (o : Option Export). IsSome o) (sym found.1) refl, refl, refl) reads closes.on closes.commit closes.listed
          (subst (λ (x : PlainBook). ExportsFit image x.exports (filter (λ (e : Export). not (is_of id e)) m.exports)) (sym closes.closed) (left_fits image (book_of old).exports m.exports id sound.exports))
          (ap (λ (x : PlainBook). x.next) closes.closed ∙ sound.next)

  -- ---- refusals that leave the store as it was

  -- one that comes of no machine but this
  stays_refused : (call : PlainCall) (r q : Refusal) → r ≡ q → is_device_reply (refused q) ≡ false → origin_of q ≢ by_room → Step own m call (refused q) false m → OnlyReadsStore size story failed tells (refused r) old new
      → GoesOn size story failed base m call (refused r) old new
  stays_refused call r q is quiet other step reads =
      subst (λ (x : Refusal). OnlyReadsStore size story failed tells (refused x) old new → GoesOn size story failed base m call (refused x) old new) (sym is)
      (λ read. stays_reading size story failed base m tells told old new fits call (refused q) (refused q) quiet quiet tt (elsewhere_told call q other) step read) reads

  pub open_refused : (name : List ℕ) (r : Refusal) → RefusesExport old.halted (entry_of (listed_in old) name) (book_of old) r → OnlyReadsStore size story failed tells (refused r) old new
      → GoesOn size story failed base m (open_export_call name) (refused r) old new
  unfolding Step
  open_refused name r refuses reads = by_state old.halted (entry_of (listed_in old) name) refl refl refuses
    where
      some : (h : old.halted ≡ false) (e : PlainEntry) → entry_of (listed_in old) name ≡ Some e → IsSome (table_at (tables_now own m) name)
      some h e found = let has = entry_has image (listed_in old) (after base m.settled) (fits.sound (runs_on h)).tables name e found in subst (λ (o : Option PlainTable). IsSome o) (sym has.2) refl

      many : (h : old.halted ≡ false) → is_full (book_of old) ≡ true → (MAX_EXPORTS ≤ length m.exports) ⊎ (2 ^ 64 ≤ m.next_id)
      many h full =
          let sound = fits.sound (runs_on h) in
          let count = count_fits image (book_of old).exports m.exports sound.exports in
          ⊎_elim (λ (le : MAX_EXPORTS ≤ length (book_of old).exports). inl (omega (arith, le, count))) (λ (le : 2 ^ 64 ≤ (book_of old).next). inr (subst (λ (n : ℕ). 2 ^ 64 ≤ n) sound.next le)) (no_room (book_of old) full)

      by_full : (h : old.halted ≡ false) (e : PlainEntry) → entry_of (listed_in old) name ≡ Some e → (full : Bool) → is_full (book_of old) ≡ full → RefusesRoom full r → GoesOn size story failed base m (open_export_call name) (refused r) old new
      by_full h e found true full is = stays_refused (open_export_call name) r (refusals.TooMany limits.Exports) is refl (λ is. cc is) (runs_on h, some h e found, many h full, (refl, refl)) reads
      by_full h e found false full is = stays_refused (open_export_call name) r refusals.OutOfMemory is refl (λ is. cc is) (runs_on h, (refl, refl)) reads

      by_state : (h : Bool) (o : Option PlainEntry) → old.halted ≡ h → entry_of (listed_in old) name ≡ o → RefusesExport h o (book_of old) r → GoesOn size story failed base m (open_export_call name) (refused r) old new
      by_state true o h found is = stays_refused (open_export_call name) r refusals.Halted is refl (λ is. cc is) (not_running m.phase old.halted fits.phase h, (refl, refl)) reads
      by_state false None h found is =
          let lacks = entry_lacks image (listed_in old) (after base m.settled) (fits.sound (runs_on h)).tables name found in
          stays_refused (open_export_call name) r refusals.NoTable is refl (λ is. cc is) (runs_on h, lacks, (refl, refl)) reads
      by_state false (Some e) h found is = by_full h e found (is_full (book_of old)) refl is

  missing_at : (id : ℕ) → old.halted ≡ false → open_at (book_of old) id ≡ None → export_at m.exports id ≡ None
  missing_at id h none = fits_none image (open_at (book_of old) id) (export_at m.exports id) (found_fits image (book_of old).exports m.exports id (fits.sound (runs_on h)).exports) none

  pub close_refused : (id : ℕ) (r : Refusal) → RefusesClosing old.halted (open_at (book_of old) id) r → OnlyReadsStore size story failed tells (refused r) old new → GoesOn size story failed base m (close_export_call id) (refused r) old new
  unfolding Step
  close_refused id r refuses reads = by_state old.halted (open_at (book_of old) id) refl refl refuses
    where
      by_state : (h : Bool) (o : Option PlainExport) → old.halted ≡ h → open_at (book_of old) id ≡ o → RefusesClosing h o r → GoesOn size story failed base m (close_export_call id) (refused r) old new
      by_state true o h at is = stays_refused (close_export_call id) r refusals.Halted is refl (λ is. cc is) (not_running m.phase old.halted fits.phase h, (refl, refl)) reads
      by_state false None h at is = stays_refused (close_export_call id) r refusals.NoExport is refl (λ is. cc is) (runs_on h, missing_at id h at, (refl, refl)) reads
      by_state false (Some b) h at is = absurd is

  -- why a piece is not given, in the words of the machine
  pub refuses_goes : (id : ℕ) (r : Refusal) → RefusesPiece old.halted tells (shown_image (now (story old.device))) (open_at (book_of old) id) r → OnlyReadsStore size story failed tells (refused r) old new
      → GoesOn size story failed base m (export_next_call id) (refused r) old new
  unfolding Step
  refuses_goes id r refuses reads = by_state old.halted (open_at (book_of old) id) refl refl refuses
    where
      without_memory : old.halted ≡ false → r ≡ refusals.OutOfMemory → GoesOn size story failed base m (export_next_call id) (refused r) old new
      without_memory h is = stays_refused (export_next_call id) r refusals.OutOfMemory is refl (λ is. cc is) (runs_on h, (refl, refl)) reads

      -- no segment of an export is unread
      no_segment : old.halted ≡ false → (b : PlainExport) (place : ℕ) (g : Segment) → open_at (book_of old) id ≡ Some b → slice_get b.segments place ≡ Some g → segment_rows b.schema g (shown_image (now (story old.device))) ≡ None → ⊥
      no_segment h b place g at within none =
          let sound = fits.sound (runs_on h) in
          let found = fits_some image (open_at (book_of old) id) (export_at m.exports id) b (found_fits image (book_of old).exports m.exports id sound.exports) at in
          let same = shown_is_synced (now (story old.device)) sound.stands.quiet.shown in
          readable image b found.0.pieces place g found.2.pieces within (ap (segment_rows b.schema g) (sym same) ∙ none)

      by_refusal : old.halted ≡ false → (b : PlainExport) (place : ℕ) (g : Segment) → open_at (book_of old) id ≡ Some b → slice_get b.segments place ≡ Some g → (q : Refusal) → r ≡ q
          → LacksRows tells (shown_image (now (story old.device))) b.schema g place q → GoesOn size story failed base m (export_next_call id) (refused r) old new
      by_refusal h b place g at within refusals.Device is u =
          subst (λ (q : Refusal). OnlyReadsStore size story failed tells (refused q) old new → GoesOn size story failed base m (export_next_call id) (refused q) old new) (sym is)
          (halts_reading size story failed base m tells told old new fits (export_next_call id) (runs_on h, refl, refl)) reads
      by_refusal h b place g at within refusals.OutOfMemory is u = without_memory h is
      by_refusal h b place g at within (refusals.SegmentUnread other) is u = absurd (no_segment h b place g at within (u.1 told).1)
      by_refusal h b place g at within (refusals.SegmentDamaged other) is u = absurd (no_segment h b place g at within (damaged_lacks b.schema g (shown_image (now (story old.device))) (u.1 told)))
      by_refusal h b place g at within _ is u = absurd u

      by_number : old.halted ≡ false → (b : PlainExport) (n : ℕ) → open_at (book_of old) id ≡ Some b → RefusesNumber tells (shown_image (now (story old.device))) b n r → GoesOn size story failed base m (export_next_call id) (refused r) old new
      by_number h b zero at u = without_memory h u
      by_number h b (suc place) at u = by_place (slice_get b.segments place) refl u
        where
          by_place : (o : Option Segment) → slice_get b.segments place ≡ o → RefusesSegment tells (shown_image (now (story old.device))) b o place r → GoesOn size story failed base m (export_next_call id) (refused r) old new
          by_place None within u = without_memory h u.1
          by_place (Some g) within u = by_refusal h b place g at within r refl u

      by_state : (h : Bool) (o : Option PlainExport) → old.halted ≡ h → open_at (book_of old) id ≡ o → RefusesPiece h tells (shown_image (now (story old.device))) o r → GoesOn size story failed base m (export_next_call id) (refused r) old new
      by_state true o h at u = stays_refused (export_next_call id) r refusals.Halted u refl (λ is. cc is) (not_running m.phase old.halted fits.phase h, (refl, refl)) reads
      by_state false None h at u = stays_refused (export_next_call id) r refusals.NoExport u refl (λ is. cc is) (runs_on h, missing_at id h at, (refl, refl)) reads
      by_state false (Some b) h at u = by_number h b b.given at u
