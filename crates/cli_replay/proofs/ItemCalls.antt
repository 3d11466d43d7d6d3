-- The calls of items and the numbers of their first lines, one after another.
use Rattle.std.proofs.Common.{◌≡◌, ◌<◌, ◌+◌, ◌++◌, ◌∷◌, ◌∙◌, [], ℕ, List, length, take, drop, map, get_or, append_assoc, Option, ap, sym, subst}
use Rattle.std.specs.List.{AllByRecursion}
use Rattle.store.specs.declared.call.Call.{Call}
use Rattle.cli_scripts.specs.declared.items.ScriptItem.{ScriptItem}
use Rattle.cli_scripts.specs.Items.{PlainItem, one, listed, AreItems, is_known_change, lines_in, number_of}
use Rattle.cli_scripts.specs.Plain.{plain_item, plain_items}
use Rattle.cli_scripts.specs.Script.{PlainLine, commit_list, HaveLines}
use Rattle.cli_replay.specs.Listed.{IsPlayable, IsTested}
use Rattle.cli_replay.specs.Replay.{IsCallOfItem, AreCallsOfItems}
use Rattle.cli_replay.proofs.Changes.{lines_of_kind, one_kept, tested_lines}

-- ---- items that can be played

split : (P : PlainLine → Type 0) (xs ys : List PlainLine) → AllByRecursion P (xs ++ ys) → AllByRecursion P xs × AllByRecursion P ys
split P [] ys all = (tt, all)
split P (x ∷ xs) ys all = let rest = split P xs ys all.1 in ((all.0, rest.0), rest.1)

pub playable_items : (number : ℕ) (lines : List PlainLine) (items : List PlainItem) → AreItems number lines items → AllByRecursion IsTested lines → AllByRecursion IsPlayable items
playable_items number lines [] are tested = tt
playable_items number lines (one n line ∷ items) are tested =
    let both = split IsTested (line ∷ []) are.0 (subst (AllByRecursion IsTested) are.1 tested) in
    ((both.0.0, are.2), playable_items (number + length (lines_in (one n line))) are.0 items are.4 both.1)
playable_items number lines (listed list ∷ items) are tested =
    let both = split IsTested (lines_in (listed list)) are.0 (subst (AllByRecursion IsTested) are.1 tested) in
    let within = split IsTested list.lines (commit_list ∷ []) both.0.1 in
    (lines_of_kind is_known_change list.lines within.0 are.2, playable_items (number + length (lines_in (listed list))) are.0 items are.4 both.1)

-- those of a script
pub playable_script : (texts : List (Option (List (List ℕ)))) (items : List PlainItem) → (lines : List PlainLine) × HaveLines texts lines × AreItems 1 lines items → AllByRecursion IsPlayable items
playable_script texts items parsed = playable_items 1 parsed.0 items parsed.2 (tested_lines texts parsed.0 parsed.1)

-- ---- their calls

-- one more
pub calls_more : {F R : Type 0} (remaining : F → Option (List ℕ)) (items : List PlainItem) (calls : List (Call R)) (item : PlainItem) (call : Call R) → AreCallsOfItems remaining items calls
    → IsCallOfItem remaining item call → AreCallsOfItems remaining (items ++ item ∷ []) (calls ++ call ∷ [])
calls_more remaining [] [] item call are is = (is, tt)
calls_more remaining (i ∷ is) (c ∷ cs) item call are is_call = (are.0, calls_more remaining is cs item call are.1 is_call)
calls_more remaining [] (c ∷ cs) item call are is = absurd are
calls_more remaining (i ∷ is) [] item call are is_call = absurd are

-- one more item of the code
pub calls_kept : {F R : Type 0} (remaining : F → Option (List ℕ)) (items : List ScriptItem) (i : ℕ) (item : ScriptItem) (calls : List (Call R)) (call : Call R) → i < length items
    → item ≡ get_or items i item → AreCallsOfItems remaining (plain_items (take i items)) calls → IsCallOfItem remaining (plain_item item) call
    → AreCallsOfItems remaining (plain_items (take (i + 1) items)) (calls ++ call ∷ [])
calls_kept remaining items i item calls call lt is before here =
    one_kept plain_item (IsCallOfItem remaining) (AreCallsOfItems remaining) (calls_more remaining) items i item calls call lt is before here

-- ---- the numbers of their first lines

pub numbers_kept : (items : List ScriptItem) (i : ℕ) (item : ScriptItem) (numbers longer : List ℕ) (number : ℕ) → drop i items ≡ item ∷ drop (i + 1) items → number ≡ number_of (plain_item item)
    → longer ≡ numbers ++ number ∷ [] → numbers ++ map number_of (plain_items (drop i items)) ≡ map number_of (plain_items items)
    → longer ++ map number_of (plain_items (drop (i + 1) items)) ≡ map number_of (plain_items items)
numbers_kept items i item numbers longer number here is more so_far =
    let after = map number_of (plain_items (drop (i + 1) items)) in
    ap (λ (ns : List ℕ). ns ++ after) more
    ∙ append_assoc numbers (number ∷ []) after
    ∙ ap (λ (n : ℕ). numbers ++ n ∷ after) is
    ∙ ap (λ (xs : List ScriptItem). numbers ++ map number_of (plain_items xs)) (sym here)
    ∙ so_far
