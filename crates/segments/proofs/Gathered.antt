-- A run is read sector by sector.
use Rattle.std.specs.Prelude.{min}
use Rattle.std.proofs.Common.{◌≡◌, ◌≤◌, ◌<◌, ◌+◌, ◌-◌, ◌*◌, ◌^◌, ◌++◌, ◌∙◌, inl, inr, ℕ, List, length, Some, None, Result, Err, option_map, take, refl, sym, ap, subst, arith, add-one}
use Rattle.std.proofs.lemmas.Option.{none-some}
use Rattle.std.specs.Int.{div_ceil}
use Rattle.std.specs.Result.{IfErr}
use Rattle.sector_dev.specs.Disk.{Image, Story, Counts, Passes}
use Rattle.sector_dev.specs.declared.device.DevError.{DevError}
use Rattle.sector_dev.specs.declared.device.DevError.TheVariants.{Failed as DeviceFailed, Unreadable as SectorUnreadable}
use Rattle.segments.specs.declared.reading.ReadError.TheVariants.{Unreadable, OutOfMemory}
use Rattle.segments.specs.declared.reading.ReadError.{ReadError}
use Rattle.segments.specs.Reading.{read_error, CountsRead, EndsAtSector}
use Rattle.segments.specs.laws.ReadBack.{none_joined}
use Rattle.segments.specs.Sectors.{sector_count, joined, bytes_at, appended}

-- n sectors, as the code counts them
pub counted : (bytes : ℕ) → div_ceil bytes 512 ≡ sector_count bytes
counted bytes = omega arith

pub joined_more : (image : Image) (start i : ℕ) (front c : List ℕ) → joined image start i ≡ Some front → image (start + i) ≡ Some c → joined image start (i + 1) ≡ Some (front ++ c)
joined_more image start i front c is here = ap (joined image start) (add-one i) ∙ (λ k. appended (is k) (here k))

pub gathered : (image : Image) (start bytes count : ℕ) (all got : List ℕ) → count ≡ sector_count bytes → joined image start count ≡ Some all → got ≡ take bytes all → bytes_at image start bytes ≡ Some got
unfolding bytes_at
gathered image start bytes count all got is joins got_is = ap (λ k. option_map (take bytes) (joined image start k)) (sym is) ∙ ap (option_map (take bytes)) joins ∙ ap Some (sym got_is)

-- of the device's errors only the one of a sector is reported as it
pub told_unreadable : (e : DevError) → read_error e ≡ Unreadable → e ≡ SectorUnreadable
told_unreadable DeviceFailed is = absurd (cc)
told_unreadable SectorUnreadable is = refl

pub same_error : {T E : Type 0} (r : Result T E) (a b : E) → r ≡ Err a → r ≡ Err b → a ≡ b
same_error r a b is other = cc

pub told_of : {T E : Type 0} (P : E → Type 0) (r : Result T E) (e : E) → r ≡ Err e → P e → IfErr r P
told_of P r e is p = subst (λ (x : Result _ _). IfErr x P) (sym is) p

-- a read adds two moments or none
passed_length : (b z : Story) → Passes b z → length z ≤ length b + 2
passed_length b z (inl same) = let more = ap length same in omega (arith, more)
passed_length b z (inr w) = let more = ap length w in omega (arith, more)

pub read_length : (n i : ℕ) (b z : Story) → length b ≤ n + 2 * i → Passes b z → length z ≤ n + 2 * (i + 1)
read_length n i b z le passes = let more = passed_length b z passes in omega (arith, le, more)

-- the reading ended at the sector after those that were read
pub ends_at : (error : ReadError) (told : DevError) (image : Image) (start count i : ℕ) (front : List ℕ) (old mid new : Story) → i < count → joined image start i ≡ Some front → error ≡ read_error told → (told ≡ SectorUnreadable → image (start + i) ≡ None) → length mid ≤ length old + 2 * i → Passes mid new → EndsAtSector error image start count old new
ends_at error told image start count i front old mid new lt found is unreadable so_far passes = record {
  at = i;
  within = lt;
  before = λ j below none. none-some front (sym (none_joined image start i j below none) ∙ found);
  unreadable = λ e. unreadable (told_unreadable told (sym is ∙ e));
  begun = let more = passed_length mid new passes in omega (arith, so_far, more);
}

-- an error of the device is no want of memory
pub never_memory : (e : DevError) → read_error e ≡ OutOfMemory → ⊥
never_memory DeviceFailed is = cc is
never_memory SectorUnreadable is = cc is

-- it is counted from where no read had failed
pub read_counted : (e : DevError) (before later after : ℕ) → later ≡ before → Counts {T = Unit {0}} later after (Err e) → CountsRead {T = Unit {0}} before after (Err (read_error e))
read_counted DeviceFailed before later after same counts = counts ∙ ap (λ (n : ℕ). min (n + 1) (2 ^ 64 - 1)) same
read_counted SectorUnreadable before later after same counts = counts ∙ same
