-- The commands of a list, one after another, before anything is written.
use Rattle.std.specs.Prelude.{◌≢◌, ◌⊎◌, ◌||◌, ◌+◌, slice_get}
use Rattle.std.proofs.Common.{◌≡◌, ◌++◌, ◌∙◌, ◌≤◌, ℕ, zero, suc, Bool, true, false, List, [], ◌∷◌, Some, take, length, Ok, Err, inl, inr, refl, sym, ap, subst, arith}
use Rattle.std.proofs.lemmas.Bool.{true≢false}
use Rattle.std.proofs.lemmas.List.{length-append, take_at}
use Rattle.sector_dev.specs.Disk.{Image}
use Rattle.catalogue.specs.Entries.{PlainCatalogue, runs_of}
use Rattle.tables.specs.declared.refusal.Refusal.{Refusal}
use Rattle.tables.specs.declared.refusal.Refusal.TheVariants as refusals
use Rattle.tables.specs.declared.refusal.Limit.TheVariants as limits
use Rattle.tables.specs.Commands.{PlainCommand, commands_of}
use Rattle.store_runs.specs.Calls.{refused, is_failure, is_device_reply}
use Rattle.store_runs.specs.Changes.{PlainChange}
use Rattle.store_runs.specs.Deciding.{AreBefore, reads_device, any_reads_device, ExceedsSegments, IsDecided}
use Rattle.store_changes.specs.Verdicts.{LeadsThrough, EndsAtLine, IsRefusedAt}
use Rattle.store.specs.Lists.{refusal_of, refusal_at, ended_by, RefusesList}

-- ---- the device is read for some of them alone

any_both : (xs ys : List PlainCommand) → any_reads_device (commands_of (xs ++ ys)) ≡ (any_reads_device (commands_of xs) || any_reads_device (commands_of ys))
any_both [] ys = refl
any_both (x ∷ xs) ys = by_test (reads_device x) (any_both xs ys)
  where
    by_test : (b : Bool) → any_reads_device (commands_of (xs ++ ys)) ≡ (any_reads_device (commands_of xs) || any_reads_device (commands_of ys))
        → (b || any_reads_device (commands_of (xs ++ ys))) ≡ ((b || any_reads_device (commands_of xs)) || any_reads_device (commands_of ys))
    by_test true later = refl
    by_test false later = later

first_none : (a b c : Bool) → (a || (b || c)) ≡ false → (a ≡ false) × (b ≡ false)
first_none false false c is = (refl, refl)
first_none false true c is = absurd (true≢false is)
first_none true b c is = absurd (true≢false is)

-- none of those so far, and one more neither
pub none_more : (xs : List PlainCommand) (x : PlainCommand) → any_reads_device (commands_of (xs ++ x ∷ [])) ≡ false → (any_reads_device (commands_of xs) ≡ false) × (reads_device x ≡ false)
none_more xs x none = first_none (any_reads_device (commands_of xs)) (reads_device x) false (sym (any_both xs (x ∷ [])) ∙ none)

-- where none of them does, none of the first ones does
pub none_in_front : (xs : List PlainCommand) (x : PlainCommand) (ys : List PlainCommand) → any_reads_device (commands_of (xs ++ x ∷ ys)) ≡ false → any_reads_device (commands_of (xs ++ x ∷ [])) ≡ false
none_in_front xs x ys none =
    let both = first_none (any_reads_device (commands_of xs)) (reads_device x) (any_reads_device (commands_of ys)) (sym (any_both xs (x ∷ ys)) ∙ none) in
    any_both xs (x ∷ []) ∙ ap (λ (b : Bool). b || (reads_device x || false)) both.0 ∙ ap (λ (b : Bool). b || false) both.1

-- ---- where they end

pub within : {A : Type 0} (front : List A) (x : A) (rest all : List A) → front ++ x ∷ rest ≡ all → length front + 1 ≤ length all
within {A} front x rest all parts = let sum = length-append front (x ∷ rest) in let same = ap (λ (xs : List A). length xs) parts in omega (arith, sum, same)

get_behind : {A : Type 0} (xs : List A) (x : A) (ys : List A) (n : ℕ) → length xs ≡ n → slice_get (xs ++ x ∷ ys) n ≡ Some x
get_behind [] x ys zero is = refl
get_behind [] x ys (suc n) is = absurd (omega (arith, is))
get_behind (y ∷ xs) x ys zero is = absurd (omega (arith, is))
get_behind (y ∷ xs) x ys (suc n) is = get_behind xs x ys n (omega (arith, is))

module _ (tells : Bool) (image : Image) (c : PlainCatalogue) where
  pub ends_there : (from : ℕ) (front : List PlainCommand) (next : ℕ) (over : Image) (made : PlainCatalogue) (x : PlainCommand) (r : Refusal) → AreBefore from (runs_of c)
      → LeadsThrough tells from image c front next over made → EndsAtLine tells next over made x r → IsRefusedAt tells image c (front ++ x ∷ []) (length front) r
  ends_there from front next over made x r before leads ends =
      let first : take (length front) (front ++ x ∷ []) ≡ front = take_at front (x ∷ []) (length front) refl in
      record {
        from = from;
        before = before;
        next = next;
        over = over;
        made = made;
        leads = subst (λ (cs : List PlainCommand). LeadsThrough tells from image c cs next over made) (sym first) leads;
        command = x;
        at = get_behind front x [] (length front) refl;
        ends = ends;
      }

  -- others behind it change nothing
  pub ends_in_front : (front : List PlainCommand) (x : PlainCommand) (others : List PlainCommand) (r : Refusal) → IsRefusedAt tells image c (front ++ x ∷ []) (length front) r → IsRefusedAt tells image c (front ++ x ∷ others) (length front) r
  ends_in_front front x others r is =
      let short : take (length front) (front ++ x ∷ []) ≡ front = take_at front (x ∷ []) (length front) refl in
      let long : take (length front) (front ++ x ∷ others) ≡ front = take_at front (x ∷ others) (length front) refl in
      let own : Some is.command ≡ Some x = sym is.at ∙ get_behind front x [] (length front) refl in
      record {
        from = is.from;
        before = is.before;
        next = is.next;
        over = is.over;
        made = is.made;
        leads = subst (λ (cs : List PlainCommand). LeadsThrough tells is.from image c cs is.next is.over is.made) (short ∙ sym long) is.leads;
        command = is.command;
        at = get_behind front x others (length front) refl ∙ sym own;
        ends = is.ends;
      }

-- ---- how they are refused

pub refusal_of_at : (place : ℕ) (r : Refusal) → refusal_of (refusal_at place r) ≡ r
refusal_of_at place refusals.Device = refl
refusal_of_at place refusals.OutOfMemory = refl
refusal_of_at place _ = refl

pub reply_at : (place : ℕ) (r : Refusal) → is_device_reply (ended_by (refusal_at place r)) ≡ is_device_reply (refused r)
reply_at place refusals.Device = refl
reply_at place refusals.OutOfMemory = refl
reply_at place _ = refl

pub refuses_at : (tells : Bool) (image : Image) (c : PlainCatalogue) (commands : List PlainCommand) (place : ℕ) (r : Refusal) → IsRefusedAt tells image c commands place r → RefusesList tells image c commands (refusal_at place r)
refuses_at tells image c commands place refusals.Device is = inr (refl, (place, is))
refuses_at tells image c commands place refusals.OutOfMemory is = inl refl
refuses_at tells image c commands place _ is = ((λ e. cc e), (λ e. cc e), is)

-- ---- one command more

-- what ends a list after a command was decided, where the draft is not made
abbrev pub NotAdded : (next : ℕ) → PlainCatalogue → PlainChange → Refusal → Type 0
NotAdded next c change r = (r ≡ refusals.OutOfMemory) ⊎ ((r ≡ refusals.TooMany limits.Segments) × ExceedsSegments next c change)

pub ends_unadded : (tells : Bool) (next : ℕ) (image : Image) (c : PlainCatalogue) (command : PlainCommand) (change : PlainChange) (r : Refusal) → IsDecided tells image c command (Ok change) → NotAdded next c change r
    → EndsAtLine tells next image c command r
ends_unadded tells next image c command change r decided (inl memory) = inl (inl (ap Err memory))
ends_unadded tells next image c command change r decided (inr (many, exceeds)) = inr (many, (change, decided, exceeds))

pub unadded_quiet : (next : ℕ) (c : PlainCatalogue) (change : PlainChange) (r : Refusal) → NotAdded next c change r → (is_failure r ≡ false) × (r ≢ refusals.Halted)
unadded_quiet next c change r (inl memory) = (ap is_failure memory, λ is. let both : refusals.OutOfMemory ≡ refusals.Halted = sym memory ∙ is in cc both)
unadded_quiet next c change r (inr (many, exceeds)) = (ap is_failure many, λ is. let both : refusals.TooMany limits.Segments ≡ refusals.Halted = sym many ∙ is in cc both)
