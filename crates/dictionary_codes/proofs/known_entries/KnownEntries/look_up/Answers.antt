use Rattle.std.specs.Prelude.{Option}
use Rattle.std.proofs.Common.{◌≡◌, ◌∙◌, ℕ, List, ap, length, sym}
use Rattle.std.proofs.lemmas.List.{length-map}
use Rattle.std.proofs.lemmas.Result.{on_ok_weaker}
use Rattle.dictionary_codes.proofs.Known.{cells_stay, is_within}
use Rattle.dictionary_codes.proofs.known_entries.KnownEntries.look_up.Goals as goal
use Rattle.dictionary_codes.specs.Named.{seen_cells}
use Rattle.dictionary_codes.specs.inner.PlaceFrom.{place_from}
use Rattle.dictionary_codes.specs.inner.Places.{places_of}
use Rattle.cells.specs.Dictionary.{is_entry}
use Rattle.cells.specs.Entry.{entry_cell}

pub invariant_of-self-clause-distinct : goal.invariant_of-self-clause-distinct
invariant_of-self-clause-distinct c = c.see.ensures.distinct c.args.self.now.distinct

pub invariant_of-self-clause-placed : goal.invariant_of-self-clause-placed
invariant_of-self-clause-placed c = λ p n found. c.see.ensures.places n ∙ c.args.self.now.placed p n found

pub invariant_of-self-clause-taken : goal.invariant_of-self-clause-taken
invariant_of-self-clause-taken c = λ n p at. c.args.self.now.taken n p (sym (c.see.ensures.places n) ∙ at)

pub invariant_of-self-clause-known : goal.invariant_of-self-clause-known
invariant_of-self-clause-known c = λ k d within n number some.
    let is = c.args.self.now.known k d within n number some in
    ap (is_entry _) (c.see.ensures.stay number (is_within (seen_cells c.args.self.now) _ number is)) ∙ is

pub returns-clause-named : goal.returns-clause-named
returns-clause-named c =
    let places : List (Option ℕ) = places_of c.args.self.now.places in
    let count : length places ≡ length (seen_cells c.args.self.now) =
    length-map c.args.self.now.places.written.items (place_from c.args.self.now.places.first) ∙ c.args.self.now.count ∙ sym (length-map c.args.self.now.seen.keys entry_cell) in
    on_ok_weaker c.see.result
    (λ seen. cells_stay (seen_cells c.args.self.now) _ places c.args.self.now.named.items count c.args.self.now.placed c.see.ensures.stay)
    c.see.ensures.seen
