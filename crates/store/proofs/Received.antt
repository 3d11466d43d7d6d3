-- The commands that an archive brings, step by step.
use Rattle.std.specs.Prelude.{◌≢◌, ◌⊎◌, ◌&&◌, if◌then◌else◌, Option, option_map, Result, IfErr, OnOk}
use Rattle.std.proofs.Common.{◌≡◌, ◌+◌, ◌<◌, ◌≤◌, ◌∙◌, ◌++◌, ℕ, Bool, true, false, List, [], ◌∷◌, Some, None, Ok, Err, inl, inr, arith, refl, get_or}
use Rattle.std.proofs.Common.{length, map, take, drop, append_assoc, append-nil, refl, sym, ap, subst}
use Rattle.std.proofs.lemmas.Bool.{true≢false, cond-true, cond-false, and_right, and_parts}
use Rattle.std.proofs.lemmas.List.{map-append, length-map, get_or-map}
use Rattle.facts.specs.laws.Lists.{drop-item, take-item}
use Rattle.sector_dev.specs.Disk.{Story}
use Rattle.sector_dev.specs.declared.device.SectorDevice.{Ghosts}
use Rattle.arrow_schema.specs.Column.{PlainSchema}
use Rattle.catalogue.specs.declared.entry.Segment.{Segment}
use Rattle.catalogue.specs.Edits.{entry_of, tables_of}
use Rattle.catalogue.specs.Entries.{PlainEntry, PlainCatalogue}
use Rattle.table_archive.specs.declared.manifest.ListedSegment.{ListedSegment}
use Rattle.table_archive.specs.Archive.{IsStreamOf, AreStreamsOf, Collision}
use Rattle.table_archive.specs.laws.Collisions.{same_or_collision}
use Rattle.table_archive.specs.Manifest.{PlainListed}
use Rattle.tables.specs.declared.command.Command.{Command}
use Rattle.tables.specs.Commands.{PlainCommand, append_stream}
use Rattle.tables.specs.View.{command_of}
use Rattle.store_runs.specs.Calls.{done}
use Rattle.store.proofs.ReadsStore.{fits_reading}
use Rattle.store.specs.declared.applying_all.ListRefusal.{ListRefusal}
use Rattle.store.specs.declared.receiving.ReceiveRefusal.{ReceiveRefusal}
use Rattle.store.specs.declared.receiving.ReceiveRefusal.TheVariants as reasons
use Rattle.store.specs.declared.segment_streams.SegmentInfo.{SegmentInfo}
use Rattle.store.specs.declared.store.Store.{Store}
use Rattle.store.specs.Fits.{listed_in}
use Rattle.store.specs.Reading.{OnlyReadsStore}
use Rattle.store.specs.SegmentStreams.{info_of}
use Rattle.store.specs.Receiving.{same_schema, has_digest, begin_with, left_of, ArePart, AreParts, AreReceived, drops_if, ended_receiving}
use Rattle.store.specs.Receiving.{received_by, AnswersAll, EndsAll, Receives}

-- ---- whether a table is continued

pub begin_short : (ds : List (Option (List ℕ))) (ls : List ListedSegment) → length ls < length ds → begin_with ds ls ≡ false
begin_short [] ls less = absurd (omega (arith, less))
begin_short (d ∷ ds) [] less = refl
begin_short (d ∷ ds) (l ∷ ls) less = ap (λ b. has_digest d l && b) (begin_short ds ls (omega (arith, less))) ∙ and_right (has_digest d l) false refl

pub begin_within : (ds : List (Option (List ℕ))) (ls : List ListedSegment) → begin_with ds ls ≡ true → length ds ≤ length ls
begin_within [] ls is = omega arith
begin_within (d ∷ ds) [] is = absurd (true≢false (sym is))
begin_within (d ∷ ds) (l ∷ ls) is = let rest = begin_within ds ls (and_parts (has_digest d l) (begin_with ds ls) is).1 in omega (arith, rest)

-- a table that is there
module _ (found : Option PlainEntry) (t : PlainListed) (s : PlainSchema) (there : option_map (λ e. e.schema) found ≡ Some s) where
  pub left_other : same_schema s t.schema ≡ false → left_of found t ≡ None
  left_other = by_entry found there
    where
      by_entry : (o : Option PlainEntry) → option_map (λ e. e.schema) o ≡ Some s → same_schema s t.schema ≡ false → left_of o t ≡ None
      by_entry None gone other = refl
      by_entry (Some e) is other =
          let own : e.schema ≡ s = cc is in
          cond-false _ _ _ (ap (λ (x : PlainSchema). same_schema x t.schema && begin_with (map (λ (g : Segment). g.digest) e.segments) t.segments) own
          ∙ ap (λ b. b && begin_with (map (λ (g : Segment). g.digest) e.segments) t.segments) other)

  pub left_same : (infos : List SegmentInfo) → option_map (λ e. map info_of e.segments) found ≡ Some infos → same_schema s t.schema ≡ true
      → left_of found t ≡ (if begin_with (map (λ (i : SegmentInfo). i.digest) infos) t.segments then Some (drop (length infos) t.segments) else None)
  left_same infos = by_entry found there
    where
      digests : (gs : List Segment) → map (λ (i : SegmentInfo). i.digest) (map info_of gs) ≡ map (λ (g : Segment). g.digest) gs
      digests [] = refl
      digests (g ∷ gs) = ap (λ (ds : List (Option (List ℕ))). g.digest ∷ ds) (digests gs)

      by_entry : (o : Option PlainEntry) → option_map (λ e. e.schema) o ≡ Some s → option_map (λ e. map info_of e.segments) o ≡ Some infos
          → same_schema s t.schema ≡ true
          → left_of o t ≡ (if begin_with (map (λ (i : SegmentInfo). i.digest) infos) t.segments then Some (drop (length infos) t.segments) else None)
      by_entry None gone also same = absurd (cc gone)
      by_entry (Some e) is also same =
          let own : e.schema ≡ s = cc is in
          let listed : map info_of e.segments ≡ infos = cc also in
          let ds : map (λ (g : Segment). g.digest) e.segments ≡ map (λ (i : SegmentInfo). i.digest) infos =
          sym (digests e.segments) ∙ ap (map (λ (i : SegmentInfo). i.digest)) listed in
          let count : length e.segments ≡ length infos = sym (length-map e.segments info_of) ∙ ap (λ (is : List SegmentInfo). length is) listed in
          ap (λ (x : PlainSchema). if same_schema x t.schema && begin_with (map (λ (g : Segment). g.digest) e.segments) t.segments
          then Some (drop (length e.segments) t.segments) else None) own
          ∙ ap (λ b. if b && begin_with (map (λ (g : Segment). g.digest) e.segments) t.segments then Some (drop (length e.segments) t.segments) else None) same
          ∙ ap (λ (xs : List (Option (List ℕ))). if begin_with xs t.segments then Some (drop (length e.segments) t.segments) else None) ds
          ∙ ap (λ (n : ℕ). if begin_with (map (λ (i : SegmentInfo). i.digest) infos) t.segments then Some (drop n t.segments) else None) count

-- where there is none
pub left_missing : (found : Option PlainEntry) (t : PlainListed) → found ≡ None → left_of found t ≡ None
left_missing found t none = ap (λ (o : Option PlainEntry). left_of o t) none

-- ---- one more

streams_last : (ls : List ListedSegment) (xs : List (List ℕ)) (l : ListedSegment) (x : List ℕ) → AreStreamsOf ls xs → IsStreamOf l x
    → AreStreamsOf (ls ++ l ∷ []) (xs ++ x ∷ [])
streams_last [] [] l x all one = (one, tt)
streams_last (k ∷ ls) (y ∷ xs) l x all one = (all.0, streams_last ls xs l x all.1 one)
streams_last [] (y ∷ xs) l x all one = absurd all
streams_last (k ∷ ls) [] l x all one = absurd all

pub streams_more : (segments : List ListedSegment) (i : ℕ) (l : ListedSegment) (xs : List (List ℕ)) (x : List ℕ) → i < length segments → l ≡ get_or segments i l
    → AreStreamsOf (take i segments) xs → IsStreamOf l x → AreStreamsOf (take (i + 1) segments) (xs ++ x ∷ [])
streams_more segments i l xs x within at all one =
    subst (λ (ls : List ListedSegment). AreStreamsOf ls (xs ++ x ∷ [])) (sym (take-item segments i l within at)) (streams_last (take i segments) xs l x all one)

-- the commands behind those that were there
pub pushed_more : (before so_far later cs own : List PlainCommand) → so_far ≡ before ++ cs → later ≡ so_far ++ own → later ≡ before ++ (cs ++ own)
pushed_more before so_far later cs own first second = second ∙ ap (λ (xs : List PlainCommand). xs ++ own) first ∙ append_assoc before cs own

pub appends_more : (name : List ℕ) (xs : List (List ℕ)) (x : List ℕ)
    → map (append_stream name) xs ++ append_stream name x ∷ [] ≡ map (append_stream name) (xs ++ x ∷ [])
appends_more name xs x = sym (map-append (append_stream name) xs (x ∷ []))

parts_last : (c : PlainCatalogue) (ts : List PlainListed) (t : PlainListed) (cs own : List PlainCommand) → AreParts c ts cs
    → ArePart t (left_of (entry_of c t.name) t) own
    → AreParts c (ts ++ t ∷ []) (cs ++ own)
parts_last c [] t cs own none one = (own, [], one, refl, ap (λ (xs : List PlainCommand). xs ++ own) none ∙ sym (append-nil own))
parts_last c (u ∷ ts) t cs own (first, others, here, later, whole) one =
    (first, others ++ own, here, parts_last c ts t others own later one, ap (λ (xs : List PlainCommand). xs ++ own) whole ∙ append_assoc first others own)

pub parts_more : {X : Type 0} (of : X → PlainListed) (c : PlainCatalogue) (tables : List X) (i : ℕ) (x : X) (cs own : List PlainCommand)
    → i < length tables → x ≡ get_or tables i x
    → AreParts c (take i (map of tables)) cs → ArePart (of x) (left_of (entry_of c (of x).name) (of x)) own
    → AreParts c (take (i + 1) (map of tables)) (cs ++ own)
parts_more of c tables i x cs own within at all one =
    let among : i < length (map of tables) = omega (arith, within, length-map tables of) in
    let is : of x ≡ get_or (map of tables) i (of x) = sym (get_or-map of tables i x (of x) within ∙ ap of (sym at)) in
    subst (λ (ts : List PlainListed). AreParts c ts (cs ++ own)) (sym (take-item (map of tables) i (of x) among is))
    (parts_last c (take i (map of tables)) (of x) cs own all one)

-- told of a store that was only read since
pub part_of_first : (now before : PlainCatalogue) → now ≡ before → (t : PlainListed) (own : List PlainCommand) → ArePart t (left_of (entry_of now t.name) t) own
    → ArePart t (left_of (entry_of before t.name) t) own
part_of_first now before same t own one = subst (λ (c : PlainCatalogue). ArePart t (left_of (entry_of c t.name) t) own) same one

-- ---- how the store ends

module _ {D : Type 0} {g : Ghosts D} (size : D → ℕ) (story : D → Story) (failed : D → ℕ) (tells : Bool) (mid new : Store D g) where
  pub ends_all : (cs : List Command) (answer : Result (Unit {0}) ListRefusal) → length cs ≢ 0
      → AnswersAll size story failed tells mid (map command_of cs) answer new
      → EndsAll size story failed tells mid (map command_of cs) (received_by answer) new
  ends_all [] answer some answers = absurd (some refl)
  ends_all (c ∷ cs) answer some answers = (answer, answers, refl)

  pub ends_none : (cs : List Command) → length cs ≡ 0 → new ≡ mid → EndsAll size story failed tells mid (map command_of cs) (Ok tt) new
  ends_none [] none same = (refl, same)
  ends_none (c ∷ cs) none same = absurd (omega (arith, none))

-- the commands that drop tables, and then those of the listed ones
pub received_list : (c : PlainCatalogue) (ts : List PlainListed) (delete : Bool) (names : List (List ℕ × ℕ)) (first later parts : List PlainCommand)
    → names ≡ tables_of c
    → first ≡ drops_if delete names ts → AreParts c ts parts → later ≡ first ++ parts → AreReceived c ts delete later
received_list c ts delete names first later parts own drop each whole = record {
  parts = parts;
  each = each;
  whole = whole ∙ ap (λ (xs : List PlainCommand). xs ++ parts) (drop ∙ ap (λ (ns : List (List ℕ × ℕ)). drops_if delete ns ts) own);
}

-- the commands of an archive were made by reads
module _ {D : Type 0} {g : Ghosts D} (size : D → ℕ) (story : D → Story) (failed : D → ℕ)
    (tells : Bool) (old mid new : Store D g) (ts : List PlainListed) (delete : Bool)
    (cs : List Command) (reads : OnlyReadsStore size story failed tells done old mid) (are : AreReceived (listed_in old) ts delete (map command_of cs)) where
  pub receives : (result : Result (Unit {0}) ReceiveRefusal) → EndsAll size story failed tells mid (map command_of cs) result new
      → Receives size story failed tells old ts delete result new
  receives result ends = record {
    mid = mid;
    reads = reads;
    fits = λ told base m fits. fits_reading size story failed base m tells told old mid fits done refl reads;
    commands = map command_of cs;
    are = are;
    ends = ends;
  }

-- also where they are refused
module _ {D : Type 0} {g : Ghosts D} (size : D → ℕ) (story : D → Story) (failed : D → ℕ)
    (tells : Bool) (old new : Store D g) (ts : List PlainListed) (delete : Bool) where
  pub received_ok : (result : Result (Unit {0}) ReceiveRefusal) → Receives size story failed tells old ts delete result new
      → OnOk result (Receives size story failed tells old ts delete result new)
  received_ok (Ok x) receives = receives
  received_ok (Err e) receives = tt

  pub received_err : (result : Result (Unit {0}) ReceiveRefusal) → Receives size story failed tells old ts delete result new
      → IfErr result (λ e. OnlyReadsStore size story failed tells (ended_receiving result) old new ⊎ Receives size story failed tells old ts delete (Err e) new)
  received_err (Ok x) receives = tt
  received_err (Err e) receives = inr receives

-- ---- the streams of listed segments

pub streams_told : (ls : List ListedSegment) (xs ys : List (List ℕ)) → AreStreamsOf ls xs → AreStreamsOf ls ys → (xs ≡ ys) ⊎ Collision
streams_told [] [] [] all also = inl refl
streams_told (l ∷ ls) (x ∷ xs) (y ∷ ys) all also = both (same_or_collision x y (sym all.0.digest ∙ also.0.digest)) (streams_told ls xs ys all.1 also.1)
  where
    both : (x ≡ y) ⊎ Collision → (xs ≡ ys) ⊎ Collision → (x ∷ xs ≡ y ∷ ys) ⊎ Collision
    both (inl same) (inl rest) = inl (λ i. same i ∷ rest i)
    both (inr found) rest = inr found
    both (inl same) (inr found) = inr found
streams_told [] (x ∷ xs) ys all also = absurd all
streams_told [] [] (y ∷ ys) all also = absurd also
streams_told (l ∷ ls) [] ys all also = absurd all
streams_told (l ∷ ls) (x ∷ xs) [] all also = absurd also

-- how a reading ends does not depend on what it gives
pub ended_alike : (T U : Type 0) (e : ReceiveRefusal) → ended_receiving {T = T} (Err e) ≡ ended_receiving {T = U} (Err e)
ended_alike T U (reasons.Store r) = refl
ended_alike T U (reasons.Lacks digest) = refl
