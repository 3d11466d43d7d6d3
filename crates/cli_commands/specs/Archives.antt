-- Lists of digests, and what the program answers where an archive is sent or received.
use Rattle.std.specs.Prelude.{◌≡◌, ◌⊎◌, ℕ, Bool, List, [], ◌∷◌, ◌++◌, codes, Result, Ok, Err}
use Rattle.sector_dev.specs.declared.device.SectorDevice.{Ghosts}
use Rattle.hex.specs.Hex.{encode_lower}
use Rattle.table_archive.specs.Digests.{IsBadLine}
use Rattle.cli_reports.specs.declared.refusal.Refusal.{Refusal}
use Rattle.cli_reports.specs.declared.refusal.Refusal.TheVariants.{BadDigest, NotAnArchive, BadMember, LacksSegment, Io, Store, OutOfMemory}
use Rattle.cli_reports.specs.declared.refusal.ArchiveMember.TheVariants as members
use Rattle.table_archive.specs.Manifest.{PlainListed}
use Rattle.table_archive.specs.declared.reading.ArchiveFault.{ArchiveFault}
use Rattle.table_archive.specs.declared.reading.ArchiveFault.TheVariants as faults
use Rattle.store.specs.declared.receiving.ReceiveRefusal.{ReceiveRefusal}
use Rattle.store.specs.declared.receiving.ReceiveRefusal.TheVariants as receives
use Rattle.store.specs.declared.store.Store as stores
use Rattle.store.specs.Reading.{OnlyReadsStore}
use Rattle.store.specs.Receiving.{Receives, ended_receiving}
use Rattle.cli_reports.specs.declared.refusal.Side.TheVariants.{Output}

-- a line for each digest, of hexadecimal digits in lower case
abbrev pub digests_text : List (List ℕ) → List ℕ
digests_text [] = []
digests_text (d ∷ ds) = encode_lower d ++ codes "\n" ++ digests_text ds

-- why a list of digests is refused: its first line that states none, or memory
abbrev pub RefusesList : (text : List ℕ) → Refusal → Type 0
RefusesList text (BadDigest number) = IsBadLine text number
RefusesList text OutOfMemory = Unit {0}
RefusesList text _ = ⊥

-- the refusals of a store that sends an archive, after which a part of it may be written
abbrev pub IsOfSending : Refusal → Type 0
IsOfSending (Store r) = Unit {0}
IsOfSending (Io Output) = Unit {0}
IsOfSending _ = ⊥

-- ---- an archive that is received

-- how some bytes that are no archive are reported
abbrev pub archive_refusal : ArchiveFault → Refusal
archive_refusal faults.NotAnArchive = NotAnArchive
archive_refusal (faults.BadMember digest) = BadMember (members.Segment digest)
archive_refusal (faults.UnnamedMember place) = BadMember (members.At place)
archive_refusal faults.NoEnd = BadMember members.End
archive_refusal faults.AlteredManifest = BadMember members.Manifest
archive_refusal faults.OutOfMemory = OutOfMemory

-- some bytes are reported as no archive
abbrev pub IsNoArchive : Refusal → Type 0
IsNoArchive refusal = (fault : ArchiveFault) × (refusal ≡ archive_refusal fault)

-- how a store that does not receive an archive is reported
abbrev pub receive_refusal : ReceiveRefusal → Refusal
receive_refusal (receives.Lacks digest) = LacksSegment digest
receive_refusal (receives.Store refusal) = Store refusal

-- the answer of the store is reported; a failed output is reported only after it has done what it was asked
abbrev pub ReportsReceiving : (answer : Result (Unit {0}) ReceiveRefusal) → Result (Unit {0}) Refusal → Type 0
ReportsReceiving (Ok x) (Ok y) = Unit {0}
ReportsReceiving (Ok x) (Err refusal) = refusal ≡ Io Output
ReportsReceiving (Err e) result = result ≡ Err (receive_refusal e)

-- the store has made these tables its own, or it was refused and nothing has changed (`Store::receive`)
abbrev pub EndsReceiving : {D : Type 0} {g : Ghosts D} → (old : stores.Store D g) → List PlainListed → (delete : Bool)
    → (answer : Result (Unit {0}) ReceiveRefusal) → (new : stores.Store D g) → Type 0
EndsReceiving {g = g} old tables delete (Ok x) new = Receives g.size g.story g.failed g.tells old tables delete (Ok x) new
EndsReceiving {g = g} old tables delete (Err e) new =
    OnlyReadsStore g.size g.story g.failed g.tells (ended_receiving {T = Unit {0}} (Err e)) old new
    ⊎ Receives g.size g.story g.failed g.tells old tables delete (Err e) new

-- what the store answered so was reported
abbrev pub ReceivesTables : {D : Type 0} {g : Ghosts D} → (old : stores.Store D g) → List PlainListed → (delete : Bool) → Result (Unit {0}) Refusal
    → (new : stores.Store D g) → Type 0
ReceivesTables old tables delete result new =
    (answer : Result (Unit {0}) ReceiveRefusal) × EndsReceiving old tables delete answer new × ReportsReceiving answer result
