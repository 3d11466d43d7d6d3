use Rattle.std.specs.Prelude.{get_or, Err}
use Rattle.std.proofs.Common.{◌≤◌, ◌<◌, List, ℕ, length, sym, subst}
use Rattle.std.proofs.lemmas.List.Sorted.{searched}
use Rattle.store_changes.proofs.Drafts.{starts_rise, no_gap}
use Rattle.store_changes.proofs.drafting.place_of.Goals as goal

-- the numbers rise, so each of them is found
pub returns-in-Ok-2 : goal.returns-in-Ok-2
returns-in-Ok-2 c =
    let from = c.requires.0 in
    let streams = c.requires.1 in
    let same = c.requires.3 in
    let starts = c.args.starts.now in
    let rise : (i j : ℕ) → i ≤ j → j < length starts → get_or starts i 0 ≤ get_or starts j 0 =
    λ i j le lt. subst (λ (ns : List ℕ). get_or ns i 0 ≤ get_or ns j 0) (sym same) (starts_rise from streams i j le (subst (λ (ns : List ℕ). j < length ns) same lt)) in
    absurd (no_gap starts c.args.start c.in-Ok.place c.requires.2 (searched starts c.args.start (Err c.in-Ok.place) c.in-Ok.ensures.position rise) c.requires.4)
