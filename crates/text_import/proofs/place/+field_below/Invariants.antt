use Rattle.std.proofs.Common.{length}
use Rattle.text_import.proofs.place.+field_below.Given as goal

abbrev pub decreases-field_below : goal.decreases-field_below
decreases-field_below l = length l.place.now
