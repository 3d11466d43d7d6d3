use Rattle.std.specs.Prelude.{None, Option, get_or, slice_get}
use Rattle.std.proofs.Common.{◌≡◌, ◌∙◌, ◌++◌, ◌∷◌, [], ℕ, List, ap, arith, length, sym}
use Rattle.dictionary_codes.proofs.Known.{next_taken}
use Rattle.dictionary_codes.proofs.known_entries.name.Goals as goal
use Rattle.dictionary_codes.specs.inner.Places.{places_of}

pub returns-clause-taken : goal.returns-clause-taken
returns-clause-taken c =
    let count : c.len-place.result ≡ length c.args.named.now.items = omega (arith, c.len-place.ensures, c.args.named.now.ok.0) in
    λ n p h.
    ap (λ (xs : List ℕ). slice_get xs p) (c.push_reserved.ensures.items ∙ ap (λ (xs : List ℕ). xs ++ c.args.number ∷ []) c.reserve.ensures.items)
    ∙ next_taken (places_of c.args.places.now) c.args.named.now.items c.args.number c.len-place.result count c.requires.within c.requires.taken n p
    (ap (λ (ps : List (Option ℕ)). get_or ps n None) (sym c.in_ok-set.ensures.ok) ∙ h)
