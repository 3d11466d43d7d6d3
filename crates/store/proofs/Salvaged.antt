-- What a salvage gives, segment after segment.
use Rattle.std.specs.Prelude.{min, if◌then◌else◌}
use Rattle.std.specs.List.{flat_map}
use Rattle.std.specs.Io.KnownBytes.{Appends}
use Rattle.std.proofs.Common.{◌≡◌, ◌+◌, ◌^◌, ◌-◌, ◌++◌, ◌∷◌, [], ℕ, suc, Bool, true, false, true≢false, List, Option, Some, None, length, map, refl, sym, ap, ◌∙◌, subst, arith, append-nil, append_assoc}
use Rattle.std.proofs.KnownBytes.{Appends-nil, Appends-trans}
use Rattle.std.proofs.lemmas.Grind.{flat_map-append}
use Rattle.sector_dev.specs.Disk.{Story, Image}
use Rattle.arrow_schema.specs.Column.{PlainSchema}
use Rattle.cells.specs.Cell.{Cell}
use Rattle.ipc_write.specs.Written.{schema_message, end_of_stream}
use Rattle.table_cut.specs.CutRows.{joined}
use Rattle.ipc_canonical.specs.Canonical.{rows_messages, stream_parts}
use Rattle.catalogue.specs.declared.entry.Segment.{Segment}
use Rattle.catalogue.specs.Entries.{PlainEntry}
use Rattle.tables.specs.declared.refusal.Refusal.{Refusal}
use Rattle.tables.specs.declared.refusal.Refusal.TheVariants as refusals
use Rattle.store_runs.specs.Calls.{done, refused, is_failure}
use Rattle.store_runs.specs.Reading.{HasRows, LacksRows, OnlyReadsDevice}
use Rattle.store_runs.specs.Held.{segment_rows}
use Rattle.store_changes.specs.laws.Digests.{damaged_lacks, has_then}
use Rattle.store.specs.Salvaging.{IsFound, AreFound, rows_found, left_out, Salvages, SalvagesAt, BreaksOff, RefusesSalvage}
use Rattle.store_changes.specs.ReadSegment.{FailsReading}
use Rattle.store.specs.inner.Salvaging.{is_of_segment, FindsMessages, messages_found, SalvagesOne, SalvagesEach}

-- ---- one segment

module _ (tells : Bool) (image : Image) (s : PlainSchema) (g : Segment) where
  -- what is given are the messages of rows
  pub finds_rows : (piece : Option (List ℕ)) → HasRows tells image s g piece → FindsMessages tells image s g piece
  finds_rows None has = absurd (cc has.2)
  finds_rows (Some messages) has = has

  -- a refusal of the segment says that it does not hold its rows
  pub lost_rows : (place : ℕ) (r : Refusal) → LacksRows tells image s g place r → is_of_segment r ≡ true → FindsMessages tells image s g None
  lost_rows place refusals.Device lacks is = absurd (true≢false (sym is))
  lost_rows place refusals.OutOfMemory lacks is = absurd (true≢false (sym is))
  lost_rows place (refusals.SegmentUnread other) lacks is = λ told. (lacks.1 told).1
  lost_rows place (refusals.SegmentDamaged other) lacks is = λ told. damaged_lacks s g image (lacks.1 told)
  lost_rows place _ lacks is = absurd lacks

  -- any other one is of the device or of memory
  pub fails_else : (place : ℕ) (r : Refusal) → LacksRows tells image s g place r → is_of_segment r ≡ false → FailsReading r
  fails_else place refusals.Device lacks is = tt
  fails_else place refusals.OutOfMemory lacks is = tt
  fails_else place (refusals.SegmentUnread other) lacks is = absurd (true≢false is)
  fails_else place (refusals.SegmentDamaged other) lacks is = absurd (true≢false is)
  fails_else place _ lacks is = absurd lacks

  -- the rows of one that holds them are written
  pub salvaged_rows : (place : ℕ) (messages : List ℕ) (written written' : Option (List ℕ)) (left : List (ℕ × ℕ)) → FindsMessages tells image s g (Some messages) → Appends written written' messages
      → SalvagesOne tells image s place g written written' left left
  salvaged_rows place messages written written' left finds wrote =
      let same : messages ≡ rows_messages s finds.0 = cc finds.2 in
      record {
        found = Some finds.0;
        shown = finds.1;
        messages = subst (Appends written written') same wrote;
        others = sym (append-nil left);
      }

-- a refusal of a segment is no failure of the device
pub of_segment_quiet : (r : Refusal) → is_of_segment r ≡ true → is_failure r ≡ false
of_segment_quiet (refusals.SegmentUnread place) is = refl
of_segment_quiet (refusals.SegmentDamaged place) is = refl
of_segment_quiet _ is = absurd (true≢false (sym is))

pub reads_all_the_same : {D : Type 0} (size : D → ℕ) (story : D → Story) (failed : D → ℕ) (tells : Bool) (r : Refusal) (a b : D) → is_failure r ≡ false → OnlyReadsDevice size story failed tells (refused r) a b
    → OnlyReadsDevice size story failed tells done a b
reads_all_the_same size story failed tells r a b quiet reads = record {
  same = reads.same;
  moments = reads.moments;
  count = reads.count ∙ ap (λ (x : Bool). if x then min (failed a + 1) (2 ^ 64 - 1) else failed a) quiet;
}

-- ---- why it is broken off

pub breaks_writing : (r : Refusal) → r ≡ refusals.Write → BreaksOff r
breaks_writing r is = subst BreaksOff (sym is) tt

-- ---- some segments, and one more

found_length : (tells : Bool) (image : Image) (s : PlainSchema) (gs : List Segment) (fs : List (Option (List (List Cell)))) → AreFound tells image s gs fs → length fs ≡ length gs
found_length tells image s [] [] are = refl
found_length tells image s (g ∷ gs) (f ∷ fs) are = ap suc (found_length tells image s gs fs are.1)
found_length tells image s [] (f ∷ fs) are = absurd are
found_length tells image s (g ∷ gs) [] are = absurd are

found_more : (tells : Bool) (image : Image) (s : PlainSchema) (gs : List Segment) (fs : List (Option (List (List Cell)))) (g : Segment) (f : Option (List (List Cell)))
    → AreFound tells image s gs fs → IsFound tells image s g f → AreFound tells image s (gs ++ g ∷ []) (fs ++ f ∷ [])
found_more tells image s [] [] g f are is = (is, tt)
found_more tells image s (x ∷ gs) (y ∷ fs) g f are is = (are.0, found_more tells image s gs fs g f are.1 is)
found_more tells image s [] (y ∷ fs) g f are is = absurd are
found_more tells image s (x ∷ gs) [] g f are is = absurd are

-- as it was shown at first
found_then : (tells : Bool) (a b : Image) → (tells ≡ true → b ≡ a) → (s : PlainSchema) (g : Segment) (f : Option (List (List Cell))) → IsFound tells b s g f → IsFound tells a s g f
found_then tells a b same s g None none = λ told. ap (segment_rows s g) (sym (same told)) ∙ none told
found_then tells a b same s g (Some rows) read = has_then tells a b same s g rows read

left_more : (place : ℕ) (gs : List Segment) (fs : List (Option (List (List Cell)))) (g : Segment) (f : Option (List (List Cell))) (there : ℕ) → length fs ≡ length gs → there ≡ place + length gs
    → left_out place (gs ++ g ∷ []) (fs ++ f ∷ []) ≡ left_out place gs fs ++ left_out there (g ∷ []) (f ∷ [])
left_more place [] [] g f there same at =
    let here : place ≡ there = omega (arith, at) in
    ap (λ (n : ℕ). left_out n (g ∷ []) (f ∷ [])) here
left_more place (x ∷ gs) (None ∷ fs) g f there same at =
    ap (λ (ls : List (ℕ × ℕ)). (place, x.rows) ∷ ls) (left_more (place + 1) gs fs g f there (omega (arith, same)) (omega (arith, at)))
left_more place (x ∷ gs) (Some rows ∷ fs) g f there same at = left_more (place + 1) gs fs g f there (omega (arith, same)) (omega (arith, at))
left_more place [] (y ∷ fs) g f there same at = absurd (omega (arith, same))
left_more place (x ∷ gs) [] g f there same at = absurd (omega (arith, same))

pub each_first : (tells : Bool) (image : Image) (s : PlainSchema) (written : Option (List ℕ)) → SalvagesEach tells image s [] written written []
each_first tells image s written = record { found = []; shown = tt; messages = Appends-nil written; others = refl }

pub each_more : (tells : Bool) (image image' : Image) (s : PlainSchema) (gs more : List Segment) (g : Segment) (place : ℕ) (a b c : Option (List ℕ)) (left left' : List (ℕ × ℕ))
    → (tells ≡ true → image' ≡ image) → more ≡ gs ++ g ∷ [] → place ≡ length gs
    → SalvagesEach tells image s gs a b left → SalvagesOne tells image' s place g b c left left' → SalvagesEach tells image s more a c left'
each_more tells image image' s gs more g place a b c left left' still is at each one =
    let fs = each.found in
    let f = one.found in
    record {
      found = fs ++ f ∷ [];
      shown = subst (λ (xs : List Segment). AreFound tells image s xs (fs ++ f ∷ [])) (sym is)
          (found_more tells image s gs fs g f each.shown (found_then tells image image' still s g f one.shown));
      messages = subst (Appends a c) (sym (flat_map-append (messages_found s) fs (f ∷ [])))
          (Appends-trans a b c (flat_map (messages_found s) fs) (flat_map (messages_found s) (f ∷ [])) each.messages
          (subst (Appends b c) (sym (append-nil (messages_found s f))) one.messages));
      others = one.others ∙ ap (λ (ls : List (ℕ × ℕ)). ls ++ left_out place (g ∷ []) (f ∷ [])) each.others
          ∙ sym (left_more 0 gs fs g f place (found_length tells image s gs fs each.shown) (omega (arith, at)))
          ∙ ap (λ (xs : List Segment). left_out 0 xs (fs ++ f ∷ [])) (sym is);
    }

-- ---- the stream

messages_are : (s : PlainSchema) (fs : List (Option (List (List Cell)))) → joined (map (rows_messages s) (rows_found fs)) ≡ flat_map (messages_found s) fs
messages_are s [] = refl
messages_are s (None ∷ fs) = messages_are s fs
messages_are s (Some rows ∷ fs) = ap (λ (ms : List ℕ). rows_messages s rows ++ ms) (messages_are s fs)

stream_is : (s : PlainSchema) (fs : List (Option (List (List Cell)))) → (schema_message s ++ flat_map (messages_found s) fs) ++ end_of_stream ≡ joined (stream_parts s (rows_found fs))
stream_is s fs =
    append_assoc (schema_message s) (flat_map (messages_found s) fs) end_of_stream
    ∙ ap (λ (ms : List ℕ). schema_message s ++ ms)
    ((λ i. sym (messages_are s fs) i ++ sym (append-nil end_of_stream) i)
    ∙ sym (flat_map-append (λ (x : List ℕ). x) (map (rows_messages s) (rows_found fs)) (end_of_stream ∷ [])))

pub salvages_all : (tells : Bool) (image : Image) (e : PlainEntry) (s : PlainSchema) (gs : List Segment) (a b c d : Option (List ℕ)) (left : List (ℕ × ℕ)) → s ≡ e.schema → gs ≡ e.segments
    → Appends a b (schema_message s) → SalvagesEach tells image s gs b c left → Appends c d end_of_stream → Salvages tells image e a d left
salvages_all tells image e s gs a b c d left schema segments front each last =
    let fs = each.found in
    let bytes = Appends-trans a c d (schema_message s ++ flat_map (messages_found s) fs) end_of_stream (Appends-trans a b c (schema_message s) (flat_map (messages_found s) fs) front each.messages) last in
    record {
      found = fs;
      shown = subst (λ (xs : List Segment). AreFound tells image e.schema xs fs) segments (subst (λ (x : PlainSchema). AreFound tells image x gs fs) schema each.shown);
      stream = subst (λ (x : PlainSchema). Appends a d (joined (stream_parts x (rows_found fs)))) schema (subst (Appends a d) (stream_is s fs) bytes);
      others = each.others ∙ ap (λ (xs : List Segment). left_out 0 xs fs) segments;
    }

-- ---- at a name

module _ (halted : Bool) (found : Option PlainEntry) where
  pub salvages_at : (tells : Bool) (image : Image) (e : PlainEntry) (written written' : Option (List ℕ)) (left : List (ℕ × ℕ)) → halted ≡ false → found ≡ Some e → Salvages tells image e written written' left
      → SalvagesAt halted tells image found written written' left
  salvages_at tells image e written written' left on there salvages =
      subst (λ (b : Bool). SalvagesAt b tells image found written written' left) (sym on)
      (subst (λ (o : Option PlainEntry). SalvagesAt false tells image o written written' left) (sym there) salvages)

  pub refuses_at : (e : PlainEntry) (r : Refusal) → halted ≡ false → found ≡ Some e → BreaksOff r → RefusesSalvage halted found r
  refuses_at e r on there breaks =
      subst (λ (b : Bool). RefusesSalvage b found r) (sym on) (subst (λ (o : Option PlainEntry). RefusesSalvage false o r) (sym there) breaks)

  pub refuses_nowhere : halted ≡ false → found ≡ None → RefusesSalvage halted found refusals.NoTable
  refuses_nowhere on none = subst (λ (b : Bool). RefusesSalvage b found refusals.NoTable) (sym on) (subst (λ (o : Option PlainEntry). RefusesSalvage false o refusals.NoTable) (sym none) refl)

  pub refuses_halted : halted ≡ true → RefusesSalvage halted found refusals.Halted
  refuses_halted off = subst (λ (b : Bool). RefusesSalvage b found refusals.Halted) (sym off) refl
