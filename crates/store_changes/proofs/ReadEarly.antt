-- Bytes of segments that were read early.
use Rattle.std.specs.Prelude.{IfSome}
use Rattle.std.proofs.Common.{◌≡◌, ◌+◌, ℕ, Bool, true, List, Option, Some, None, sym, ap, ◌∙◌}
use Rattle.sector_dev.specs.Disk.{Image}
use Rattle.catalogue.specs.declared.entry.Segment.{Segment}
use Rattle.store_runs.specs.Held.{bytes_of}
use Rattle.store_changes.specs.declared.ahead.Early.{Early}
use Rattle.store_changes.specs.Ahead.{segment_at, HasBytes, EachEarly}

-- as it was shown at first
pub bytes_then : (tells : Bool) (a b : Image) (g : Segment) (bytes : List ℕ) → (tells ≡ true → b ≡ a) → HasBytes tells b g bytes → HasBytes tells a g bytes
bytes_then tells a b g bytes same has = record { count = has.count; held = λ told. ap (bytes_of g) (sym (same told)) ∙ has.held told }

pub if_weaker : {X : Type 0} (P Q : X → Type 0) (o : Option X) → ((x : X) → P x → Q x) → IfSome o P → IfSome o Q
if_weaker P Q None f h = tt
if_weaker P Q (Some x) f h = f x h

-- the same of each of them
pub each_weaker : (P Q : Segment → List ℕ → Type 0) (segments : List Segment) (place : ℕ) (early : Early) → ((g : Segment) (bytes : List ℕ) → P g bytes → Q g bytes)
    → EachEarly P segments place early → EachEarly Q segments place early
each_weaker P Q segments place early f each = record {
  first = if_weaker _ _ early.first (λ bytes h. f (segment_at segments place) bytes.items h) each.first;
  second = if_weaker _ _ early.second (λ bytes h. f (segment_at segments (place + 1)) bytes.items h) each.second;
  third = if_weaker _ _ early.third (λ bytes h. f (segment_at segments (place + 2)) bytes.items h) each.third;
}
