use Rattle.std.specs.Prelude.{Option}
use Rattle.std.proofs.Common.{ℕ, List, arith, subst, sym}
use Rattle.std.proofs.lemmas.List.{length-map}
use Rattle.dictionary_codes.proofs.Known.{named_within}
use Rattle.dictionary_codes.specs.inner.PlaceFrom.{place_from}
use Rattle.dictionary_codes.specs.inner.Places.{places_of}
use Rattle.dictionary_codes.specs.inner.Seen.{HavePlaces}
use Rattle.dictionary_codes.proofs.known_entries.KnownEntries.entries.Goals as goal

pub seen_entry-requires : goal.seen_entry-requires
seen_entry-requires c =
    let named : List ℕ = c.deref-number-items.result.now in
    let places : List (Option ℕ) = places_of c.args.self.now.places in
    let placed : HavePlaces places named = subst (HavePlaces places) (sym c.deref-number-items.ensures.value) c.args.self.now.placed in
    let count = length-map c.args.self.now.places.written.items (place_from c.args.self.now.places.first) in
    let within = named_within places named c.loop-number.number-index placed c.loop-number-test.true in
    omega (arith, within, count, c.args.self.now.count)
