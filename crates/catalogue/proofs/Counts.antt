-- How many tables and segments there are after a change.
use Rattle.std.proofs.Common.{◌≡◌, List, ℕ, Some, arith}
use Rattle.catalogue.specs.Entries.{PlainEntry, PlainCatalogue, IsCatalogue}
use Rattle.catalogue.specs.Edits.{entry_of, with_entry, without}
use Rattle.catalogue.specs.Counts.{HasMore, HasSame, HasFewer}
use Rattle.catalogue.specs.laws.Sums.{put_most, put_over, taken_out, one, number, segments_in}

pub one_more : (c : PlainCatalogue) (e : PlainEntry) → HasMore c e (with_entry c e)
one_more c e = record { tables = omega (arith, put_most one c e, number c, number (with_entry c e)); segments = put_most segments_in c e }

pub one_fewer : (c : PlainCatalogue) (name : List ℕ) (e : PlainEntry) → entry_of c name ≡ Some e → HasFewer c e (without c name)
one_fewer c name e h = record { tables = omega (arith, taken_out one c name e h, number c, number (without c name)); segments = taken_out segments_in c name e h }

pub same_tables : (c : PlainCatalogue) (e old : PlainEntry) → IsCatalogue c → entry_of c e.name ≡ Some old → HasSame c old e (with_entry c e)
same_tables c e old k h = record { tables = omega (arith, put_over one c e old k.order h, number c, number (with_entry c e)); segments = put_over segments_in c e old k.order h }
