-- Bytes that are gathered before they are written.
use Rattle.std.specs.Prelude.{Option}
use Rattle.std.specs.Io.KnownBytes.{Appends}
use Rattle.std.proofs.Common.{◌≡◌, ℕ, List, [], ◌++◌, ap, sym, ◌∙◌, append_assoc, append-nil}
use Rattle.std.proofs.KnownBytes.{Appends-nil, Appends-trans}
use Rattle.ipc_encode.specs.inner.Writing.{Gathers}

-- all is written
pub written_all : (old mid new : Option (List ℕ)) (before after bytes : List ℕ) → Appends old mid before → Appends mid new bytes → after ≡ [] → Gathers old new before after bytes
written_all old mid new before after bytes first then none =
    (before ++ bytes, (Appends-trans old mid new before bytes first then, sym (ap (λ (xs : List ℕ). (before ++ bytes) ++ xs) none ∙ append-nil (before ++ bytes))))

-- nothing is written
pub only_gathered : (old : Option (List ℕ)) (before after bytes : List ℕ) → after ≡ before ++ bytes → Gathers old old before after bytes
only_gathered old before after bytes added = ([], (Appends-nil old, sym added))

-- more bytes
pub gathers_more : (first old new : Option (List ℕ)) (before mid after bytes more : List ℕ) → Gathers first old before mid bytes → Gathers old new mid after more
    → Gathers first new before after (bytes ++ more)
gathers_more first old new before mid after bytes more was now = (
  was.0 ++ now.0,
  (
    Appends-trans first old new was.0 now.0 was.1.0 now.1.0,
    sym (append_assoc before bytes more) ∙ ap (λ (xs : List ℕ). xs ++ more) was.1.1 ∙ append_assoc was.0 mid more
        ∙ ap (λ (xs : List ℕ). was.0 ++ xs) now.1.1 ∙ sym (append_assoc was.0 now.0 after),
  ),
)

-- what is gathered is written in the end
pub all_gathered : (first old new : Option (List ℕ)) (before mid bytes : List ℕ) → Gathers first old before mid bytes → before ≡ [] → Appends old new mid → Appends first new bytes
all_gathered first old new before mid bytes was none last =
    let all : was.0 ++ mid ≡ bytes = sym was.1.1 ∙ ap (λ (xs : List ℕ). xs ++ bytes) none in
    rw all at (Appends-trans first old new was.0 mid was.1.0 last)
