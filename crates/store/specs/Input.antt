-- How much of an input a reader has given, and why the input is not read as a whole.
use Rattle.std.specs.Prelude.{◌≡◌, ◌⊎◌, ◌+◌, ◌≤◌, ℕ, Bool, true, false, List, length, Option, Result, Err, IsErrAnd}
use Rattle.std.specs.Io.KnownBytes.{Consumes, IsAtEnd}
use Rattle.tables.specs.declared.limits.TheConstants.{MAX_IMPORT_BYTES}
use Rattle.tables.specs.declared.refusal.Limit.TheVariants as limits
use Rattle.tables.specs.declared.refusal.Refusal.{Refusal}
use Rattle.tables.specs.declared.refusal.Refusal.TheVariants as refusals

-- the reader has given its next n bytes
abbrev pub HasGiven : Option (List ℕ) → Option (List ℕ) → ℕ → Type 0
HasGiven old new n = (bytes : List ℕ) × Consumes old new bytes × (length bytes ≡ n)

-- the reader has given at most n bytes
abbrev pub HasGivenAtMost : Option (List ℕ) → Option (List ℕ) → ℕ → Type 0
HasGivenAtMost old new n = (bytes : List ℕ) × Consumes old new bytes × (length bytes ≤ n)

-- why an input is not read as a whole, and how much was read: one byte more than is allowed; or no more than is allowed, if a read failed or memory was
-- refused
abbrev pub RefusesInput : (old new : Option (List ℕ)) → (largest : ℕ) → Refusal → Type 0
RefusesInput old new largest (refusals.TooMany limits.Bytes) = HasGiven old new (largest + 1)
RefusesInput old new largest refusals.Read = HasGivenAtMost old new largest
RefusesInput old new largest refusals.OutOfMemory = HasGivenAtMost old new largest
RefusesInput old new largest _ = ⊥

-- what was read for a command that needs the whole input: all of it, or the input is refused and nothing is changed
abbrev pub ReadsInput : (old new : Option (List ℕ)) → (kept : Type 0) → Result (Unit {0}) Refusal → Type 0
ReadsInput old new kept result = (IsAtEnd new × HasGivenAtMost old new MAX_IMPORT_BYTES) ⊎ (IsErrAnd result (RefusesInput old new MAX_IMPORT_BYTES) × kept)

-- if the store is halted or the first test fails, nothing is read
pub record ReadsFrom {R : Type 0} (remaining : R → Option (List ℕ)) (halted passes : Bool) (why : Refusal) (old new : R) (kept : Type 0) (result : Result (Unit {0}) Refusal) : Type 0 where
  pub closed : halted ≡ true → (result ≡ Err refusals.Halted) × (new ≡ old) × kept
  pub first : halted ≡ false → passes ≡ false → (result ≡ Err why) × (new ≡ old) × kept
  pub reads : halted ≡ false → passes ≡ true → ReadsInput (remaining old) (remaining new) kept result
