-- The streams of an archive beside the digests by which they are named.
use Rattle.std.specs.Prelude.{ℕ, List, [], ◌∷◌, Option, Some, None, flat_map, map}
use Rattle.std.specs.Borrow.{Bor}
use Rattle.table_archive.specs.Found.{Entry}

abbrev pub digest_with : (digest : List ℕ) → Option (Bor (List ℕ)) → List (List ℕ)
digest_with digest None = []
digest_with digest (Some stream) = digest ∷ []

-- the digests whose streams the archive has, in order
abbrev pub digests_with : List Entry → List (List ℕ)
digests_with entries = flat_map (λ (e : Entry). digest_with e.0 e.1) entries

abbrev pub contents : List (Bor (List ℕ)) → List (List ℕ)
contents streams = map (λ (s : Bor (List ℕ)). s.now) streams
