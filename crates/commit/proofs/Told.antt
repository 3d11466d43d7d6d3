-- The answers of an opening.
use Rattle.std.specs.Prelude.{◌≢◌, ◌&&◌, ◌==◌, min}
use Rattle.std.proofs.Common.{◌≡◌, ◌≤◌, ◌+◌, ◌-◌, ◌^◌, ℕ, inl, inr, arith, nat_le, true, false, List, Result, Ok, Err, IfOk, IfErr, Option, Some, refl, sym, ap, ◌∙◌, subst}
use Rattle.std.proofs.lemmas.Bool.Decides.{leb_tells}
use Rattle.std.proofs.lemmas.Bool.{and_from, and_parts, false_from_ne_true, leb-true}
use Rattle.sector_dev.specs.Disk.{Disk, Image, Counts, shown_image, flushed}
use Rattle.sector_dev.specs.declared.device.DevError.{DevError}
use Rattle.sector_dev.specs.declared.device.DevError.TheVariants.{Failed}
use Rattle.segments.specs.Sectors.{sector_count}
use Rattle.segments.specs.declared.extent.Extent.{Extent}
use Rattle.commit.specs.declared.sector.Commit.{Commit}
use Rattle.commit.specs.declared.cause.Cause.{Cause}
use Rattle.commit.specs.declared.reading.OpenError.{OpenError}
use Rattle.commit.specs.declared.reading.OpenError.TheVariants.{NotAStore, Damaged, Device, OutOfMemory}
use Rattle.commit.specs.Standing.{Reading, Standing, Stands, is_size, is_extent, is_on_device, text_at, spelled_by, named_by, damaged, rules, standing}
use Rattle.commit.specs.Opening.{CountsOpen, TellsCause, TellsStanding}

-- a text that was read, and then its catalogue from the same disk
pub named_then : {C : Type 0} (reading : Reading C) (size later : ℕ) (d e : Disk) (k : Commit) (text bytes : List ℕ) → later ≡ size → e ≡ d → bytes ≡ text → text_at size (shown_image d) k ≡ Ok text
    → named_by reading size (shown_image d) k ≡ reading.at later (shown_image e) k bytes
named_then reading size later d e k text bytes sizes disks texts found =
    ap (spelled_by reading size (shown_image d) k) found ∙ (λ i. reading.at (sym sizes i) (shown_image (sym disks i)) k (sym texts i))

-- the same of two readings that are equal
pub ok_same : {T E C A : Type 0} (f : T → C) (x y : Result C Cause) (r : Result T E) → (A → x ≡ y) → IfOk r (λ c. A → y ≡ Ok (f c)) → IfOk r (λ c. A → x ≡ Ok (f c))
ok_same f x y (Ok c) same h = λ a. same a ∙ h a
ok_same f x y (Err e) same h = tt

pub err_same : {T C A : Type 0} (x y : Result C Cause) (r : Result T OpenError) → (A → x ≡ y) → IfErr r (λ e. A → TellsCause e y) → IfErr r (λ e. A → TellsCause e x)
err_same x y (Ok c) same h = tt
err_same x y (Err e) same h = λ a. subst (TellsCause e) (sym (same a)) (h a)

-- a cause that is reported of a catalogue is reported of the store
pub told_of : {C : Type 0} (e : OpenError) (read : Result C Cause) (found : Standing C) → (e ≡ NotAStore → ⊥) → ((cause : Cause) → read ≡ Err cause → found ≡ damaged cause) → TellsCause e read → TellsStanding e found
told_of NotAStore read found store is told = absurd (store refl)
told_of (Damaged cause) read found store is told = is cause told
told_of Device read found store is told = tt
told_of OutOfMemory read found store is told = tt

-- and so is one that is reported of its runs
pub told_by : {C : Type 0} (e : OpenError) (fault : Option Cause) (found : Standing C) → (e ≡ NotAStore → ⊥) → ((cause : Cause) → fault ≡ Some cause → found ≡ damaged cause) → ((cause : Cause) → e ≡ Damaged cause → fault ≡ Some cause) → TellsStanding e found
told_by NotAStore fault found store is told = absurd (store refl)
told_by (Damaged cause) fault found store is told = is cause (told cause refl)
told_by Device fault found store is told = tt
told_by OutOfMemory fault found store is told = tt

-- the same disk under another name
pub same_named : {C : Type 0} (reading : Reading C) (size later : ℕ) (d e : Disk) (k : Commit) → later ≡ size → e ≡ d → named_by reading size (shown_image d) k ≡ named_by reading later (shown_image e) k
same_named reading size later d e k sizes disks = λ i. named_by reading (sym sizes i) (shown_image (sym disks i)) k

-- what was found and then synced stands
pub flushed_stands : {C : Type 0} (reading : Reading C) (size : ℕ) (d e : Disk) (k : Commit) (c : C) → e ≡ flushed d → standing reading size (shown_image d) ≡ rules k c → Stands reading size e k c
unfolding flushed
flushed_stands reading size d e k c is found = subst (λ (x : Disk). Stands reading size x k c) (sym is) (record { quiet = record { pending = λ n. refl; shown = λ n. refl }; found = found })

-- a size outside the limits is none of a store
pub no_size : (size : ℕ) → (is_size size ≡ true → ⊥) → is_size size ≡ false
no_size size other = false_from_ne_true (is_size size) other

-- and a size within them is one of a store
leb_is : (a b : ℕ) → a ≤ b → nat_le a b ≡ true
leb_is a b le = elim (leb_tells a b) [ inl is ↦ is.0 | inr other ↦ absurd (omega (arith, other.1)) ]

pub sized : (size n : ℕ) → n ≡ size → 16 ≤ n → n ≤ 4194304 → is_size size ≡ true
sized size n is low high = rw (← is) (and_from _ _ (leb_is 16 n low) (leb_is n 4194304 high))

pub within : (size : ℕ) → is_size size ≡ true → (16 ≤ size) × (size ≤ 4194304)
within size is = let parts = and_parts (nat_le 16 size) (nat_le size 4194304) is in (leb-true _ _ parts.0, leb-true _ _ parts.1)

-- no text, and so no catalogue
pub named_nowhere : {C : Type 0} (reading : Reading C) (size : ℕ) (image : Image) (k : Commit) (e : OpenError) → TellsCause e (text_at size image k) → TellsCause e (named_by reading size image k)
named_nowhere reading size image k NotAStore told = tt
named_nowhere reading size image k (Damaged cause) told = ap (spelled_by reading size image k) told
named_nowhere reading size image k Device told = tt
named_nowhere reading size image k OutOfMemory told = tt

-- an extent on a device lies in a run on it
pub extent_placed : (size : ℕ) (e : Extent) → is_extent size 4 e ≡ true → is_on_device size e.run ≡ true
extent_placed size e is =
    (and_parts (e.run.count == sector_count e.bytes) (is_on_device size e.run) (and_parts (nat_le 4 e.bytes) ((e.run.count == sector_count e.bytes) && is_on_device size e.run) is).1).1

-- what is so whatever a call answers
pub if_ok : {T E P : Type 0} (r : Result T E) → P → IfOk r (λ _. P)
if_ok (Ok x) p = p
if_ok (Err e) p = tt

-- ---- failures that are counted

pub failed_count : (e : DevError) (before after : ℕ) → e ≡ Failed → Counts {T = Unit {0}} before after (Err e) → after ≡ min (before + 1) (2 ^ 64 - 1)
failed_count e before after is counts = subst (λ (x : DevError). Counts {T = Unit {0}} before after (Err x)) is counts

-- an error is counted from where no call had failed
pub recounted : (e : OpenError) (before later after : ℕ) → later ≡ before → CountsOpen {T = Unit {0}} later after (Err e) → CountsOpen {T = Unit {0}} before after (Err e)
recounted NotAStore before later after same counts = counts ∙ same
recounted (Damaged cause) before later after same counts = counts ∙ same
recounted Device before later after same counts = counts ∙ ap (λ (n : ℕ). min (n + 1) (2 ^ 64 - 1)) same
recounted OutOfMemory before later after same counts = counts ∙ same

-- and one that is not of the device is none
pub uncounted : (e : OpenError) (before after : ℕ) → e ≢ Device → after ≡ before → CountsOpen {T = Unit {0}} before after (Err e)
uncounted NotAStore before after other same = same
uncounted (Damaged cause) before after other same = same
uncounted Device before after other same = absurd (other refl)
uncounted OutOfMemory before after other same = same
