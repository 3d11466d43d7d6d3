use Rattle.std.specs.Prelude.{None, Option, Some, get_or}
use Rattle.std.proofs.Common.{◌≡◌, ◌∙◌, ℕ, List, ap, arith, length, sym}
use Rattle.std.proofs.lemmas.List.{length-map}
use Rattle.std.proofs.lemmas.Result.{IfOk-weaker, on_ok_weaker}
use Rattle.dictionary_codes.proofs.Known.{AreNumbered, named_already, named_now}
use Rattle.dictionary_codes.proofs.known_entries.KnownEntries.place_of.Goals as goal
use Rattle.dictionary_codes.specs.Named.{seen_cells}
use Rattle.dictionary_codes.specs.inner.PlaceFrom.{place_from}
use Rattle.dictionary_codes.specs.inner.Places.{places_of}
use Rattle.dictionary_codes.specs.inner.Seen.{cells_numbered}
use Rattle.cells.specs.Cell.{Cell}
use Rattle.cells.specs.Entry.{entry_cell}

pub at-requires : goal.at-requires
at-requires c =
    let count = length-map c.args.self.now.places.written.items (place_from c.args.self.now.places.first) in
    omega (arith, ap length c.all.ensures, count, c.requires, c.args.self.now.count, length-map c.args.self.now.seen.keys entry_cell)

pub returns-in-Some-clause-named : goal.returns-in-Some-clause-named
returns-in-Some-clause-named c =
    let n : ℕ = c.args.number in
    let numbered : AreNumbered (seen_cells c.args.self.now) (places_of c.args.self.now.places) c.args.self.now.named.items =
    record { distinct = c.args.self.now.distinct; placed = c.args.self.now.placed; taken = c.args.self.now.taken } in
    let at : get_or (places_of c.args.self.now.places) n None ≡ Some c.in-Some.place =
    ap (λ (ps : List (Option ℕ)). get_or ps n None) (sym c.all.ensures) ∙ sym c.at.ensures ∙ c.in-Some.is in
    λ cell is. (named_already _ _ _ cell n c.in-Some.place numbered is at).0

pub returns-in-Some-clause-place : goal.returns-in-Some-clause-place
returns-in-Some-clause-place c =
    let n : ℕ = c.args.number in
    let numbered : AreNumbered (seen_cells c.args.self.now) (places_of c.args.self.now.places) c.args.self.now.named.items =
    record { distinct = c.args.self.now.distinct; placed = c.args.self.now.placed; taken = c.args.self.now.taken } in
    let at : get_or (places_of c.args.self.now.places) n None ≡ Some c.in-Some.place =
    ap (λ (ps : List (Option ℕ)). get_or ps n None) (sym c.all.ensures) ∙ sym c.at.ensures ∙ c.in-Some.is in
    λ cell is. (named_already _ _ _ cell n c.in-Some.place numbered is at).1

pub returns-in-None-clause-named : goal.returns-in-None-clause-named
returns-in-None-clause-named c =
    let n : ℕ = c.args.number in
    let seen : List Cell = seen_cells c.args.self.now in
    let numbered : AreNumbered seen (places_of c.args.self.now.places) c.args.self.now.named.items =
    record { distinct = c.args.self.now.distinct; placed = c.args.self.now.placed; taken = c.args.self.now.taken } in
    let free : get_or (places_of c.args.self.now.places) n None ≡ None =
    ap (λ (ps : List (Option ℕ)). get_or ps n None) (sym c.all.ensures) ∙ sym c.at.ensures ∙ c.in-None.is in
    on_ok_weaker c.name.result
    (λ e. λ cell is. ap (cells_numbered seen) e ∙ named_now seen (places_of c.args.self.now.places) c.args.self.now.named.items cell n numbered is free)
    c.name.ensures.named

pub returns-in-None-clause-place : goal.returns-in-None-clause-place
returns-in-None-clause-place c =
    let n : ℕ = c.args.number in
    let seen : List Cell = seen_cells c.args.self.now in
    let numbered : AreNumbered seen (places_of c.name.new.places) c.name.new.named.items =
    record { distinct = c.args.self.now.distinct; placed = c.name.ensures.placed; taken = c.name.ensures.taken } in
    IfOk-weaker c.name.result _ _ (λ place at. λ cell is. (named_already seen (places_of c.name.new.places) c.name.new.named.items cell n place numbered is at).1) c.name.ensures.place
