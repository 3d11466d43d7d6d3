-- The plain value of a catalogue of the code, whatever memory it uses.
use Rattle.std.specs.Prelude.{map}
use Rattle.catalogue.specs.declared.catalogue.Catalogue.{Catalogue}
use Rattle.catalogue.specs.Entries.{PlainCatalogue, plain_entry}

abbrev pub catalogue_of : Catalogue → PlainCatalogue
catalogue_of c = map plain_entry c.entries.items
