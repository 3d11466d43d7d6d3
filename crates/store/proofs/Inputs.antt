-- What a reader gives in two goes.
use Rattle.std.proofs.Common.{◌≡◌, ◌∙◌, ℕ, ◌+◌, ◌-◌, ◌≤◌, List, [], ◌++◌, length, take, Option, Some, None, refl, sym, length-append, arith}
use Rattle.std.proofs.lemmas.List.{length-take}
use Rattle.std.specs.Io.KnownBytes.{Consumes, Keeps}
use Rattle.std.proofs.KnownBytes.{Consumes-trans}
use Rattle.tables.specs.declared.refusal.Limit.TheVariants as limits
use Rattle.tables.specs.declared.refusal.Refusal.{Refusal}
use Rattle.tables.specs.declared.refusal.Refusal.TheVariants as refusals
use Rattle.store.specs.Input.{HasGiven, HasGivenAtMost, RefusesInput}

given_both : (a b c : Option (List ℕ)) (xs : List ℕ) (n m : ℕ) → Consumes a b xs → length xs + n ≡ m → HasGiven b c n → HasGiven a c m
given_both a b c xs n m first all given =
    (xs ++ given.0, Consumes-trans a b c xs given.0 first given.1, length-append xs given.0 ∙ (let more = given.2 in omega (arith, more, all)))

given_both_at_most : (a b c : Option (List ℕ)) (xs : List ℕ) (n m : ℕ) → Consumes a b xs → length xs + n ≤ m → HasGivenAtMost b c n → HasGivenAtMost a c m
given_both_at_most a b c xs n m first all given =
    (xs ++ given.0, Consumes-trans a b c xs given.0 first given.1, let more = given.2 in omega (arith, more, all, length-append xs given.0))

-- an input of which something was read before is refused
pub refused_behind : (a b c : Option (List ℕ)) (xs : List ℕ) (n m : ℕ) (e : Refusal) → Consumes a b xs → length xs + n ≡ m → RefusesInput b c n e → RefusesInput a c m e
refused_behind a b c xs n m (refusals.TooMany limits.Bytes) first all told = given_both a b c xs (n + 1) (m + 1) first (omega (arith, all)) told
refused_behind a b c xs n m refusals.Read first all told = given_both_at_most a b c xs n m first (omega (arith, all)) told
refused_behind a b c xs n m refusals.OutOfMemory first all told = given_both_at_most a b c xs n m first (omega (arith, all)) told
refused_behind a b c xs n m _ first all told = absurd told

-- the room that is left
pub room_left : (items : List ℕ) (len largest : ℕ) → len ≡ length items → len ≤ largest → length items + (largest - len) ≡ largest
room_left items len largest is within = omega (arith, is, within)

-- nothing was given yet
pub given_none : (a : Option (List ℕ)) (most : ℕ) → HasGivenAtMost a a most
given_none None most = ([], tt, omega arith)
given_none (Some a) most = ([], refl, omega arith)

pub given_kept : (a b : Option (List ℕ)) (most : ℕ) → Keeps a b → HasGivenAtMost a b most
given_kept None b most kept = ([], tt, omega arith)
given_kept (Some a) None most kept = absurd kept
given_kept (Some a) (Some b) most kept = ([], sym kept, omega arith)

-- the bytes of one read
pub given_taken : (a b : Option (List ℕ)) (count most : ℕ) (bytes : List ℕ) → Consumes a b (take count bytes) → count ≤ most → HasGivenAtMost a b most
given_taken a b count most bytes given within = (take count bytes, given, omega (arith, length-take count bytes, within))
