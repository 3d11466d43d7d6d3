-- The places that numbers have.
use Rattle.std.specs.Prelude.{ℕ, List, Option, map}
use Rattle.dictionary_codes.specs.declared.number_places.NumberPlaces.{NumberPlaces}
use Rattle.dictionary_codes.specs.declared.number_places.WrittenPlaces.{WrittenPlaces}
use Rattle.dictionary_codes.specs.inner.PlaceFrom.{place_from}

abbrev pub places_of : NumberPlaces → List (Option ℕ)
places_of places = map (place_from places.first) places.written.items

abbrev pub places_in : WrittenPlaces → List (Option ℕ)
places_in places = map (place_from places.first) places.written.now
