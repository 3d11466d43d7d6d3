-- What a store does with an archive: a list of commands, which are done as one.
use Rattle.std.specs.Prelude.{◌≡◌, ◌&&◌, ℕ, Bool, true, false, if◌then◌else◌, List, [], ◌∷◌, ◌++◌, length, map, drop, Option, Some, None}
use Rattle.std.specs.Prelude.{Result, Ok, Err, IfErr}
use Rattle.std.specs.List.{list_any}
use Rattle.std.specs.Str.{bytes_eq}
use Rattle.sector_dev.specs.Disk.{Story, now, shown_image}
use Rattle.sector_dev.specs.declared.device.SectorDevice.{Ghosts}
use Rattle.arrow_schema.specs.Column.{PlainSchema}
use Rattle.ipc_write.specs.Written.{schema_message}
use Rattle.catalogue.specs.declared.entry.Segment.{Segment}
use Rattle.catalogue.specs.Entries.{PlainEntry, PlainCatalogue}
use Rattle.catalogue.specs.Edits.{entry_of, tables_of}
use Rattle.table_archive.specs.declared.manifest.ListedSegment.{ListedSegment}
use Rattle.table_archive.specs.Manifest.{PlainListed, empty_stream}
use Rattle.table_archive.specs.Archive.{AreStreamsOf}
use Rattle.tables.specs.declared.refusal.Refusal.{Refusal}
use Rattle.tables.specs.Commands.{PlainCommand, import_stream, append_stream, drop_table, all_of, commands_of}
use Rattle.tables.specs.Tables.{Tables}
use Rattle.store_runs.specs.Calls.{PlainReply, apply_call, done, refused, counted}
use Rattle.store_runs.specs.Machine.{Machine}
use Rattle.store.specs.declared.applying_all.ListRefusal.{ListRefusal}
use Rattle.store.specs.declared.receiving.ReceiveRefusal.{ReceiveRefusal}
use Rattle.store.specs.declared.receiving.ReceiveRefusal.TheVariants as receives
use Rattle.store.specs.declared.store.Store.{Store}
use Rattle.store.specs.Answering.{Applies}
use Rattle.store.specs.Applying.{GoesOn}
use Rattle.store.specs.Fits.{StoreFits, device_of, listed_in}
use Rattle.store.specs.Lists.{refusal_of, as_one, ended_list, NamesLine}
use Rattle.store.specs.Reading.{OnlyReadsStore}

-- ---- a table that is there

-- two schemas are the same: their messages are
abbrev pub same_schema : PlainSchema → PlainSchema → Bool
same_schema one other = bytes_eq (schema_message one) (schema_message other)

abbrev pub has_digest : (own : Option (List ℕ)) → ListedSegment → Bool
has_digest None l = false
has_digest (Some own) l = bytes_eq own l.digest

-- the segments with these digests are the first ones of those that are listed
abbrev pub begin_with : (own : List (Option (List ℕ))) → List ListedSegment → Bool
begin_with [] ls = true
begin_with (d ∷ ds) [] = false
begin_with (d ∷ ds) (l ∷ ls) = has_digest d l && begin_with ds ls

-- the store has the first segments of a listed table, in a table of its name and schema with this entry
abbrev pub is_begun : PlainEntry → PlainListed → Bool
is_begun e t = same_schema e.schema t.schema && begin_with (map (λ (g : Segment). g.digest) e.segments) t.segments

-- the segments behind them, if it has
abbrev pub left_of : Option PlainEntry → PlainListed → Option (List ListedSegment)
left_of None t = None
left_of (Some e) t = if is_begun e t then Some (drop (length e.segments) t.segments) else None

-- ---- the commands

-- they append a stream of each of these segments, in order, to the table of this name
pub record Append (name : List ℕ) (ls : List ListedSegment) (cs : List PlainCommand) : Type 0 where
  pub streams : List (List ℕ)
  pub are : AreStreamsOf ls streams
  pub appends : cs ≡ map (append_stream name) streams

-- those of a listed table: its segments are appended to those that the store has of it, or it is made anew, in place of any table of its name
abbrev pub ArePart : PlainListed → (left : Option (List ListedSegment)) → List PlainCommand → Type 0
ArePart t (Some left) cs = Append t.name left cs
ArePart t None cs = (others : List PlainCommand) × Append t.name t.segments others × (cs ≡ import_stream t.name (empty_stream t.schema) ∷ others)

-- those of each listed table, one table after another
abbrev pub AreParts : PlainCatalogue → List PlainListed → List PlainCommand → Type 0
AreParts c [] cs = cs ≡ []
AreParts c (t ∷ ts) cs =
    (own others : List PlainCommand) × ArePart t (left_of (entry_of c t.name) t) own × AreParts c ts others × (cs ≡ own ++ others)

abbrev pub is_listed : (name : List ℕ) → List PlainListed → Bool
is_listed name ts = list_any (λ t. bytes_eq name t.name) ts

-- those that drop each table that is not listed
abbrev pub drops : (names : List (List ℕ × ℕ)) → List PlainListed → List PlainCommand
drops [] ts = []
drops (n ∷ ns) ts = if is_listed n.0 ts then drops ns ts else drop_table n.0 ∷ drops ns ts

abbrev pub drops_if : (delete : Bool) → (names : List (List ℕ × ℕ)) → List PlainListed → List PlainCommand
drops_if true names ts = drops names ts
drops_if false names ts = []

-- the commands that make these tables those of a store with this catalogue
pub record AreReceived (c : PlainCatalogue) (ts : List PlainListed) (delete : Bool) (cs : List PlainCommand) : Type 0 where
  pub parts : List PlainCommand
  pub each : AreParts c ts parts
  pub whole : cs ≡ drops_if delete (tables_of c) ts ++ parts

-- ---- how a store ends

-- how the reading of what is needed ended
abbrev pub ended_receiving : {T : Type 0} → Result T ReceiveRefusal → PlainReply
ended_receiving (Ok x) = done
ended_receiving (Err (receives.Store r)) = refused r
ended_receiving (Err (receives.Lacks digest)) = done

-- the same for several commands as one
abbrev pub received_by : Result (Unit {0}) ListRefusal → Result (Unit {0}) ReceiveRefusal
received_by (Ok x) = Ok x
received_by (Err e) = Err (receives.Store (refusal_of e))

-- how a store answers several commands as one: what `Store::apply_all` promises
pub record AnswersAll {D : Type 0} {g : Ghosts D} (size : D → ℕ) (story : D → Story) (failed : D → ℕ)
    (tells : Bool) (old : Store D g) (commands : List PlainCommand)
    (answer : Result (Unit {0}) ListRefusal) (new : Store D g) : Type 0 where
  pub goes : tells ≡ true → (base : Tables) (m : Machine) → StoreFits size story base m old
      → GoesOn size story failed base m (apply_call (all_of (commands_of commands))) (ended_list answer) old new
  pub applies : Applies size story tells old (all_of (commands_of commands)) (as_one answer) new
  pub line : IfErr answer (NamesLine tells (shown_image (now (story (device_of old)))) (listed_in old) commands)
  pub same : size (device_of new) ≡ size (device_of old)
  pub count : failed (device_of new) ≡ counted (ended_list answer) (failed (device_of old))

-- without a command nothing is done
abbrev pub EndsAll : {D : Type 0} {g : Ghosts D} → (size : D → ℕ) → (story : D → Story) → (failed : D → ℕ) → (tells : Bool) → (old : Store D g)
    → List PlainCommand
    → Result (Unit {0}) ReceiveRefusal → (new : Store D g) → Type 0
EndsAll size story failed tells old [] result new = (result ≡ Ok tt) × (new ≡ old)
EndsAll size story failed tells old (c ∷ cs) result new =
    (answer : Result (Unit {0}) ListRefusal) × AnswersAll size story failed tells old (c ∷ cs) answer new × (result ≡ received_by answer)

-- the store was read, and then it answered the commands that make these tables its own
pub record Receives {D : Type 0} {g : Ghosts D} (size : D → ℕ) (story : D → Story) (failed : D → ℕ) (tells : Bool) (old : Store D g) (ts : List PlainListed)
    (delete : Bool) (result : Result (Unit {0}) ReceiveRefusal) (new : Store D g) : Type 0 where
  pub mid : Store D g
  pub reads : OnlyReadsStore size story failed tells done old mid
  -- a machine that the store stood for is one that it stands for
  pub fits : tells ≡ true → (base : Tables) (m : Machine) → StoreFits size story base m old → StoreFits size story base m mid
  pub commands : List PlainCommand
  pub are : AreReceived (listed_in old) ts delete commands
  pub ends : EndsAll size story failed tells mid commands result new
