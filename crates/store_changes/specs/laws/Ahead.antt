-- Segments that are read ahead of their turn.
use Rattle.std.specs.Prelude.{◌≡◌, ◌<◌, ℕ, Bool, true, List, [], ◌∷◌, length}
use Rattle.std.specs.List.{list_all}
use Rattle.std.proofs.Common.{sym, subst}
use Rattle.sector_dev.specs.Disk.{Image}
use Rattle.segments.specs.declared.extent.Extent.{Extent}
use Rattle.catalogue.specs.declared.entry.Segment.{Segment}
use Rattle.catalogue.specs.Entries.{is_segment}
use Rattle.store_runs.specs.Reading.{IsCopy}
use Rattle.store_changes.specs.declared.ahead.ReadAhead.{ReadAhead}
use Rattle.store_changes.specs.Source.{AreReadable}
use Rattle.store_changes.specs.Ahead.{segments_ahead, EachEarly, IsAhead, IsNext}

-- what could be read before can be read still
pub still_readable : (P Q : Extent → Type 0) (segments : List Segment) → ((place : Extent) → P place → Q place) → AreReadable P segments
    → AreReadable Q segments
still_readable P Q [] still all = tt
still_readable P Q (g ∷ gs) still all = (still g.place all.0, still_readable P Q gs still all.1)

module _ (tells : Bool) (image : Image) (segments : List Segment) (place : ℕ) (ahead : ReadAhead) where
  -- the segment at a place is next
  pub is_next : (can_read : Extent → Type 0) → place < length segments → AreReadable can_read segments → list_all is_segment segments ≡ true
      → IsAhead tells image segments place ahead → IsNext can_read tells image place ahead
  is_next can_read inside readable sound is =
      let same : segments ≡ segments_ahead ahead = sym is.same in
      record {
        inside = subst (λ (gs : List Segment). place < length gs) same inside;
        readable = subst (AreReadable can_read) same readable;
        sound = subst (λ (gs : List Segment). list_all is_segment gs ≡ true) same sound;
        early = subst (λ (gs : List Segment). EachEarly (IsCopy tells image) gs place ahead.early) same is.early;
      }

  -- and then the one behind it
  pub goes_ahead : (before : ReadAhead) → segments_ahead before ≡ segments → IsAhead tells image (segments_ahead before) place ahead
      → IsAhead tells image segments place ahead
  goes_ahead before same is = subst (λ (gs : List Segment). IsAhead tells image gs place ahead) same is
