-- Streams beside the digests by which they are named.
use Rattle.std.proofs.Common.{◌≡◌, ◌∙◌, ◌+◌, ◌++◌, ◌<◌, ℕ, Bool, true, List, [], ◌∷◌, Option, Some, None, slice_get, get_or, length, map, take, drop, refl, sym, ap, arith}
use Rattle.std.specs.Prelude.{flat_map}
use Rattle.std.specs.Borrow.{Bor}
use Rattle.std.specs.Str.{bytes_eq}
use Rattle.std.proofs.lemmas.Bool.{and_from}
use Rattle.std.proofs.lemmas.Grind.{flat_map-append}
use Rattle.std.proofs.lemmas.List.{append-nil, map-append}
use Rattle.std.proofs.lemmas.Option.{slice_get_within, get_or_from_slice_get}
use Rattle.std.proofs.lemmas.Slice.Eq.{bytes_eq-Decides}
use Rattle.facts.specs.laws.Lists.{take-item}
use Rattle.sha2.specs.Sha256.{sha256}
use Rattle.table_archive.specs.Found.{Entry, is_of_digest, are_of_digests, stream_in, streams_in}
use Rattle.table_archive.specs.inner.Named.{digest_with, digests_with, contents}

pub entries_more : (entries : List Entry) (i : ℕ) (x : Entry) → Some x ≡ slice_get entries i → take (i + 1) entries ≡ take i entries ++ x ∷ []
entries_more entries i x is =
    take-item entries i x (slice_get_within entries i x (sym is)) (sym (get_or_from_slice_get entries i x x (sym is)))

-- what is made of the entries, of one more
pub one_more : (f : Entry → List (List ℕ)) (entries : List Entry) (i : ℕ) (x : Entry) (old new : List (List ℕ)) → Some x ≡ slice_get entries i
    → old ≡ flat_map f (take i entries) → new ≡ old ++ f x → new ≡ flat_map f (take (i + 1) entries)
one_more f entries i x old new is so_far more =
    more ∙ ap (λ (xs : List (List ℕ)). xs ++ f x) so_far
    ∙ ap (λ (xs : List (List ℕ)). flat_map f (take i entries) ++ xs) (sym (append-nil (f x)))
    ∙ sym (flat_map-append f (take i entries) (x ∷ []))
    ∙ ap (flat_map f) (sym (entries_more entries i x is))

pub contents_more : (old new : List (Bor (List ℕ))) (s : Bor (List ℕ)) → new ≡ old ++ s ∷ [] → contents new ≡ contents old ++ s.now ∷ []
contents_more old new s more = ap contents more ∙ map-append (λ (x : Bor (List ℕ)). x.now) old (s ∷ [])

-- digests of both lists, in the same order
same_head : (x y : List ℕ) (xs ys : List (List ℕ)) → x ∷ xs ≡ y ∷ ys → x ≡ y
same_head x y xs ys is = ap (λ (zs : List (List ℕ)). get_or zs 0 x) is

same_rest : (x y : List ℕ) (xs ys : List (List ℕ)) → x ∷ xs ≡ y ∷ ys → xs ≡ ys
same_rest x y xs ys is = ap (λ (zs : List (List ℕ)). drop 1 zs) is

kept_one : (d : List ℕ) (found : Option (Bor (List ℕ))) (es : List Entry)
    → digest_with d found ++ digests_with es ≡ map sha256 (stream_in found ++ streams_in es)
    → (is_of_digest d found ≡ true) × (digests_with es ≡ map sha256 (streams_in es))
kept_one d None es same = (refl, same)
kept_one d (Some stream) es same = (
  (bytes_eq-Decides d (sha256 stream.now)).1 (same_head d (sha256 stream.now) (digests_with es) (map sha256 (streams_in es)) same),
  same_rest d (sha256 stream.now) (digests_with es) (map sha256 (streams_in es)) same,
)

pub kept_where_same : (entries : List Entry) → digests_with entries ≡ map sha256 (streams_in entries) → are_of_digests entries ≡ true
kept_where_same [] same = refl
kept_where_same (e ∷ es) same =
    let both = kept_one e.0 e.1 es same in
    and_from (is_of_digest e.0 e.1) (are_of_digests es) both.0 (kept_where_same es both.1)

-- the digests of streams are those of their contents
pub digests_of_contents : (streams : List (Bor (List ℕ))) → map (λ (s : Bor (List ℕ)). sha256 s.now) streams ≡ map sha256 (contents streams)
digests_of_contents [] = refl
digests_of_contents (s ∷ ss) = ap (λ (ds : List (List ℕ)). sha256 s.now ∷ ds) (digests_of_contents ss)

-- there is a digest for each stream
one_each : (d : List ℕ) (found : Option (Bor (List ℕ))) (ds ss : List (List ℕ)) → length ds ≡ length ss → length (digest_with d found ++ ds) ≡ length (stream_in found ++ ss)
one_each d None ds ss same = same
one_each d (Some stream) ds ss same = omega (arith, same)

pub as_many : (entries : List Entry) → length (digests_with entries) ≡ length (streams_in entries)
as_many [] = refl
as_many (e ∷ es) = one_each e.0 e.1 (digests_with es) (streams_in es) (as_many es)

-- two lists that are the same so far, and at the next place
pub same_next : (xs ys : List (List ℕ)) (i : ℕ) (x y : List ℕ) → i < length xs → i < length ys → x ≡ get_or xs i x → y ≡ get_or ys i y → x ≡ y
    → take i xs ≡ take i ys → take (i + 1) xs ≡ take (i + 1) ys
same_next xs ys i x y lt lt2 at at2 same so_far =
    take-item xs i x lt at ∙ ap (λ (zs : List (List ℕ)). zs ++ x ∷ []) so_far ∙ ap (λ (z : List ℕ). take i ys ++ z ∷ []) same ∙ sym (take-item ys i y lt2 at2)
