-- Entries with a gap among them: those after it stand in reverse.
use Rattle.std.proofs.Common.{◌≡◌, ◌≤◌, ◌<◌, ◌+◌, ◌-◌, ℕ, List, [], ◌∷◌, ◌++◌, reverse, insert, length, get_or, Vec, vec_len, vec_capacity, refl, sym, ap, ◌∙◌, arith, append-nil, append_assoc, length-append}
use Rattle.std.proofs.lemmas.List.{length-reverse, reverse-append, get_or_append_left, get_or-append_right, get_or-reverse}
use Rattle.std.proofs.lemmas.List.Edits.{insert_end, insert-append_left}
use Rattle.segments.specs.declared.entries.UsageEntry.{UsageEntry}

over_gap : (before behind : List UsageEntry) (e : UsageEntry) → before ++ reverse (behind ++ e ∷ []) ≡ (before ++ e ∷ []) ++ reverse behind
over_gap before behind e = ap (λ (es : List UsageEntry). before ++ es) (reverse-append behind (e ∷ [])) ∙ sym (append_assoc before (e ∷ []) (reverse behind))

-- the gap goes back over an entry, and on over one
pub gone_back : (before behind less more : List UsageEntry) (e : UsageEntry) → before ≡ less ++ e ∷ [] → more ≡ behind ++ e ∷ [] → less ++ reverse more ≡ before ++ reverse behind
gone_back before behind less more e was is =
    ap (λ (es : List UsageEntry). less ++ reverse es) is ∙ over_gap less behind e ∙ ap (λ (es : List UsageEntry). es ++ reverse behind) (sym was)

pub gone_on : (before behind more less : List UsageEntry) (e : UsageEntry) → behind ≡ less ++ e ∷ [] → more ≡ before ++ e ∷ [] → more ++ reverse less ≡ before ++ reverse behind
gone_on before behind more less e was is =
    ap (λ (es : List UsageEntry). es ++ reverse less) is ∙ sym (over_gap before less e) ∙ ap (λ (es : List UsageEntry). before ++ reverse es) (sym was)

-- how many there are
pub length_both : (before behind : List UsageEntry) → length (before ++ reverse behind) ≡ length before + length behind
length_both before behind = length-append before (reverse behind) ∙ ap (λ n. length before + n) (length-reverse behind)

-- an entry before the gap, and one after it
pub at_before : (before behind : List UsageEntry) (k : ℕ) (d : UsageEntry) → k < length before → get_or (before ++ reverse behind) k d ≡ get_or before k d
at_before before behind k d lt = get_or_append_left before (reverse behind) d k lt

pub at_behind : (before behind : List UsageEntry) (k : ℕ) (d : UsageEntry) → length before ≤ k → k < length before + length behind → get_or (before ++ reverse behind) k d ≡ get_or behind (length behind - 1 - (k - length before)) d
at_behind before behind k d ge lt = get_or-append_right before (reverse behind) (length before) k d refl ge ∙ get_or-reverse behind (k - length before) d (omega arith)

-- an entry goes in where the gap is
pub inserted : (before behind : List UsageEntry) (e : UsageEntry) (place : ℕ) → length before ≡ place → (before ++ e ∷ []) ++ reverse behind ≡ insert (before ++ reverse behind) place e
inserted before behind e place at =
    sym (ap (λ n. insert (before ++ reverse behind) n e) (sym at) ∙ insert-append_left before (reverse behind) (length before) e (omega arith)
    ∙ ap (λ (es : List UsageEntry). es ++ reverse behind) (insert_end before e))

pub settled : (before behind : List UsageEntry) → behind ≡ [] → before ++ reverse behind ≡ before
settled before behind none = ap (λ (es : List UsageEntry). before ++ reverse es) none ∙ append-nil before

pub settled_room : {X Z : Type 0} (before behind : Vec X Z) → behind.items ≡ [] → vec_len before + vec_len behind ≤ vec_capacity before
settled_room before behind none = omega (arith, before.ok.1, behind.ok.0, ap length none)
