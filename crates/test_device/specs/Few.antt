-- How the catalogue of the tests is read.
use Rattle.std.specs.Prelude.{◌≡◌, true, ℕ, ◌+◌, ◌==◌, if◌then◌else◌, List, [], ◌∷◌, length, slice_index, Result, Ok, Err}
use Rattle.segments.specs.declared.run.Run.{Run}
use Rattle.commit.specs.declared.cause.Cause.{Cause}
use Rattle.commit.specs.declared.cause.Cause.TheVariants.{CatalogueText}
use Rattle.commit.specs.declared.recovery.Opened.{Opened}
use Rattle.commit.specs.Standing.{Reading, is_size}
use Rattle.test_device.specs.declared.few.Few.{Few}
use Rattle.test_device.specs.declared.few.Few.TheVariants.{Nothing, One, Two}

-- the runs that it names
abbrev pub runs_of : Few → List Run
runs_of Nothing = []
runs_of (One a) = a ∷ []
runs_of (Two a b) = a ∷ b ∷ []

-- the run of the two bytes at this place
abbrev pub run_at : ℕ → List ℕ → Run
run_at at text = record { start = slice_index text at; count = slice_index text (at + 1) }

-- the runs of a text: none, one or two
abbrev pub runs_in : List ℕ → Result (List Run) Cause
runs_in text =
    if length text == 4 then Ok []
    else (if length text == 6 then Ok (run_at 4 text ∷ []) else (if length text == 8 then Ok (run_at 4 text ∷ run_at 6 text ∷ []) else Err CatalogueText))

abbrev pub reading_of : Reading (List Run)
reading_of = record { at = λ size image k text. runs_in text; runs = λ runs. runs }

-- a store on a device of this size
pub record IsOn (size : ℕ) (store : Opened Few) : Type 0 where
  pub limits : is_size size ≡ true
  pub map : store.map.size ≡ size
  pub device : store.commit.device_sectors ≡ size
