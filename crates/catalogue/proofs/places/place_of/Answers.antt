use Rattle.std.proofs.Common.{map, sym, ap, ◌∙◌}
use Rattle.catalogue.specs.Entries.{plain_entry}
use Rattle.catalogue.proofs.Halves.{taken, place_is}
use Rattle.catalogue.proofs.places.place_of.Goals as goal

pub returns-in-Ok : goal.returns-in-Ok
returns-in-Ok c = ap taken (sym c.in-Ok.is ∙ c.seat_of.ensures) ∙ sym (place_is (map plain_entry c.args.entries.now) c.args.name.now 0 c.requires)

pub returns-in-Err : goal.returns-in-Err
returns-in-Err c = ap taken (sym c.in-Err.is ∙ c.seat_of.ensures) ∙ sym (place_is (map plain_entry c.args.entries.now) c.args.name.now 0 c.requires)
