use Rattle.std.specs.Prelude.{Option, set}
use Rattle.std.proofs.Common.{◌∙◌, ℕ, ap}
use Rattle.std.proofs.lemmas.List.{map-set}
use Rattle.dictionary_codes.specs.inner.PlaceFrom.{place_from}
use Rattle.dictionary_codes.specs.inner.Places.{places_of}
use Rattle.dictionary_codes.proofs.Places.{place_written}
use Rattle.dictionary_codes.proofs.number_places.NumberPlaces.set.Goals as goal

pub returns-clause-ok : goal.returns-clause-ok
returns-clause-ok c =
    let first : ℕ = c.args.self.now.first in
    map-set (place_from first) c.args.self.now.written.items c.args.number c.in_ok-written.written
    ∙ ap (λ (place : Option ℕ). set (places_of c.args.self.now) c.args.number place) (ap (place_from first) c.in_ok-written.ensures.sum ∙ place_written first c.args.place)
