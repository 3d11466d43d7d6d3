use Rattle.std.specs.Prelude.{None, Option, get_or}
use Rattle.std.proofs.Common.{◌≡◌, ◌∙◌, ℕ, List, ap, arith, length}
use Rattle.std.proofs.lemmas.List.{length-map}
use Rattle.std.proofs.lemmas.Option.{IfSome_then}
use Rattle.dictionary_codes.proofs.Known.{AreNumbered, place_is_named}
use Rattle.dictionary_codes.proofs.known_entries.KnownEntries.named_place.Goals as goal
use Rattle.dictionary_codes.specs.Named.{seen_cells}
use Rattle.dictionary_codes.specs.inner.PlaceFrom.{place_from}
use Rattle.dictionary_codes.specs.inner.Places.{places_of}
use Rattle.cells.specs.Entry.{entry_cell}

pub at-requires : goal.at-requires
at-requires c =
    let count = length-map c.args.self.now.places.written.items (place_from c.args.self.now.places.first) in
    omega (arith, ap length c.requires.places, count, c.requires.within, c.args.self.now.count, length-map c.args.self.now.seen.keys entry_cell)

pub returns : goal.returns
returns c =
    let places : List (Option ℕ) = places_of c.args.self.now.places in
    let numbered : AreNumbered (seen_cells c.args.self.now) places c.args.self.now.named.items =
    record { distinct = c.args.self.now.distinct; placed = c.args.self.now.placed; taken = c.args.self.now.taken } in
    let is : c.at.result ≡ get_or places c.args.number None = c.at.ensures ∙ ap (λ (ps : List (Option ℕ)). get_or ps c.args.number None) c.requires.places in
    let named = place_is_named (seen_cells c.args.self.now) places c.args.self.now.named.items c.args.number c.at.result numbered is in
    record {
      named = IfSome_then c.at.result named (λ place all. λ cell is. (all cell is).0);
      place = IfSome_then c.at.result named (λ place all. λ cell is. (all cell is).1);
    }
