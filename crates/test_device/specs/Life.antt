-- The story of a device that allows one write and one read.
use Rattle.std.specs.Prelude.{◌≢◌, ℕ, List, [], ◌∷◌, Some, None, length}
use Rattle.std.specs.Coded.{Coded-set, coded_ℕ, ×_prop, Π_prop, Unit-prop, le_prop}
use Rattle.sector_dev.specs.Disk.{Story, ShowsImage, now, put, blank, IsContent, IsWhole, Each}
use Rattle.sector_dev.specs.laws.Crash.{blank_shows, blank_whole, put_shows, put_whole}
use Rattle.test_device.specs.declared.life.Life.{Life}
use Rattle.test_device.specs.declared.life.Life.TheVariants.{Fresh, Written, Read}

abbrev pub story_of : Life → Story
story_of Fresh = blank ∷ []
story_of (Written n c) = put blank n c (Some c) ∷ put blank n c None ∷ blank ∷ []
story_of (Read n c) = put blank n c (Some c) ∷ put blank n c (Some c) ∷ put blank n c (Some c) ∷ put blank n c None ∷ blank ∷ []

-- what was written is the content of a sector
abbrev pub SpeaksOfContents : Life → Type 0
SpeaksOfContents Fresh = Unit {0}
SpeaksOfContents (Written n c) = IsContent c
SpeaksOfContents (Read n c) = IsContent c

content_prop : (c : List ℕ) → IsProp (IsContent c)
content_prop c = ×_prop (Coded-set coded_ℕ (length c) 512) (Π_prop (λ k. le_prop))

pub speaks_prop : (life : Life) → IsProp (SpeaksOfContents life)
speaks_prop Fresh = Unit-prop
speaks_prop (Written n c) = content_prop c
speaks_prop (Read n c) = content_prop c

pub story_shows : (life : Life) → ShowsImage (now (story_of life))
story_shows Fresh = blank_shows
story_shows (Written n c) = put_shows blank n c blank_shows
story_shows (Read n c) = put_shows blank n c blank_shows

pub story_begun : (life : Life) → story_of life ≢ []
story_begun Fresh = λ none. cc none
story_begun (Written n c) = λ none. cc none
story_begun (Read n c) = λ none. cc none

written_whole : (n : ℕ) (c : List ℕ) → IsContent c → Each IsWhole (story_of (Written n c))
written_whole n c is = (put_whole blank n c (Some c) blank_whole is is, (put_whole blank n c None blank_whole is tt, (blank_whole, tt)))

pub story_whole : (life : Life) → SpeaksOfContents life → Each IsWhole (story_of life)
story_whole Fresh is = (blank_whole, tt)
story_whole (Written n c) is = written_whole n c is
story_whole (Read n c) is = (put_whole blank n c (Some c) blank_whole is is, (put_whole blank n c (Some c) blank_whole is is, written_whole n c is))
