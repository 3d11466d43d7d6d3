-- What is known of the weight of a table, from command to command.
use Rattle.std.specs.Prelude.{IfSome, MatchOption}
use Rattle.std.proofs.Common.{◌≡◌, Bool, true, List, ℕ, Option, Some, None, string_bytes, sym, ◌∙◌, subst}
use Rattle.sector_dev.specs.Disk.{Image}
use Rattle.catalogue.specs.Entries.{PlainEntry, PlainCatalogue, is_entry, IsCatalogue}
use Rattle.catalogue.specs.Edits.{entry_of}
use Rattle.catalogue.specs.View.{catalogue_of}
use Rattle.store_runs.specs.Changes.{PlainChange}
use Rattle.store_runs.specs.Deciding.{Leaves}
use Rattle.store_changes.specs.LawsBelow.{TableLaws}
use Rattle.store_changes.specs.declared.drafting.Draft.{Draft}
use Rattle.store_changes.specs.Draft.{laid, streams_of}
use Rattle.store_changes.specs.Weights.{Weighs, WeighsAfter, TellsWeightAfter}
use Rattle.store_changes.specs.laws.SameReads.{Agree, read_alike}
use Rattle.store_changes.specs.laws.Weighed.{weight_after}
use Rattle.store.specs.declared.drafting.NamedWeight.{NamedWeight}
use Rattle.store.specs.Drafted.{KnowsWeight}
use Rattle.store.specs.inner.Drafting.{KnowsWeightAfter}

-- it is what was known of the change, over the streams of its new segments
pub knows_after : TableLaws → (tells : Bool) (image : Image) (d next : Draft) (weighed : Option NamedWeight) (change : PlainChange) → IsCatalogue (catalogue_of d.made)
    → Leaves d.next (laid d.from (streams_of d) image) (catalogue_of d.made) change next.next (laid next.from (streams_of next) image) (catalogue_of next.made)
    → KnowsWeightAfter tells image d weighed change → KnowsWeight tells image next weighed
knows_after laws tells image d next None change sound leaves knows = tt
knows_after laws tells image d next (Some w) change sound leaves knows =
    weight_after laws tells d.next (laid d.from (streams_of d) image) (catalogue_of d.made) change next.next (laid next.from (streams_of next) image) (catalogue_of next.made)
    (string_bytes w.name) w.weight sound leaves knows

-- ---- what reads of the device and the streams of a draft show, and what another image does that is the same in the sectors of the table

module _ (a b : Image) (tells : Bool) (e : PlainEntry) (sound : is_entry e ≡ true) (alike : tells ≡ true → Agree a b e.segments) where
  pub weighs_alike : (weight : ℕ) → Weighs tells a e weight → Weighs tells b e weight
  weighs_alike weight (table, read, is) = (table, read_alike a b tells e table sound alike read, is)

  after_alike : (name : List ℕ) (change : PlainChange) (weight : ℕ) → WeighsAfter tells a e name change weight → WeighsAfter tells b e name change weight
  after_alike name change weight after = record {
    standing = after.standing;
    read = read_alike a b tells e after.standing sound alike after.read;
    rows = after.rows;
    extends = after.extends;
    new = after.new;
    kept = after.kept;
    is = after.is;
  }

  -- what is known after an append, with the name of the table
  pub named_after : (c : PlainCatalogue) (name own : List ℕ) → own ≡ name → (change : PlainChange) → entry_of c name ≡ Some e → (weight : Option ℕ) (weighed : Option NamedWeight)
      → MatchOption weight (weighed ≡ None) (λ w. IfSome weighed (λ known. (string_bytes known.name ≡ own) × (known.weight ≡ w)))
      → IfSome weight (WeighsAfter tells a e name change) → IfSome weighed (λ w. TellsWeightAfter tells b c (string_bytes w.name) change w.weight)
  named_after c name own same change there None None is after = tt
  named_after c name own same change there None (Some known) is after = absurd (cc is)
  named_after c name own same change there (Some w) None is after = tt
  named_after c name own same change there (Some w) (Some known) is after =
      subst (λ (n : List ℕ). TellsWeightAfter tells b c n change known.weight) (sym (is.0 ∙ same))
      (subst (λ (x : ℕ). TellsWeightAfter tells b c name change x) (sym is.1) (e, there, after_alike name change w after))
