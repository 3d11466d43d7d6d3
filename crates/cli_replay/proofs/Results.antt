-- What is printed.
use Rattle.std.proofs.Common.{◌≡◌, ◌<◌, ◌≤◌, ◌+◌, ◌++◌, ◌∙◌, ◌∷◌, [], ℕ, Bool, List, length, get_or, drop, append_assoc, append-nil, codes, refl, ap, sym, arith}
use Rattle.std.proofs.lemmas.List.{drop_all}
use Rattle.facts.specs.laws.Lists.{drop-item}
use Rattle.store.specs.declared.call.Reply.{Reply}
use Rattle.store.specs.Places.{reply_in, replies_of}
use Rattle.cli_replay.specs.Playing.{reply_text, replies_text, stop_text}

pub printed_text : (all lines shown listed found : List ℕ) (stop over : Bool) → all ≡ lines ++ stop_text stop ++ codes "after:\n" ++ shown → lines ≡ listed → stop ≡ over → shown ≡ found
    → all ≡ listed ++ stop_text over ++ codes "after:\n" ++ found
printed_text all lines shown listed found stop over is of_lines of_stop of_found = is ∙ (λ i. of_lines i ++ stop_text (of_stop i) ++ codes "after:\n" ++ of_found i)

-- ---- the lines of the replies, one after another

-- one more reply
pub reply_more : (numbers : List ℕ) (i number : ℕ) (replies : List Reply) (reply : Reply) (old new all : List ℕ) → i < length numbers → number ≡ get_or numbers i number → i < length replies
    → reply ≡ get_or replies i reply → new ≡ old ++ reply_text number (reply_in reply) → old ++ replies_text (drop i numbers) (replies_of (drop i replies)) ≡ all
    → new ++ replies_text (drop (i + 1) numbers) (replies_of (drop (i + 1) replies)) ≡ all
reply_more numbers i number replies reply old new all numbered is_number among is_reply more so_far =
    let line = reply_text number (reply_in reply) in
    let rest = replies_text (drop (i + 1) numbers) (replies_of (drop (i + 1) replies)) in
    let both : replies_text (drop i numbers) (replies_of (drop i replies)) ≡ line ++ rest =
    (λ k. replies_text (drop-item numbers i number numbered is_number k) (replies_of (drop-item replies i reply among is_reply k))) in
    ap (λ (text : List ℕ). text ++ rest) more ∙ append_assoc old line rest ∙ ap (λ (text : List ℕ). old ++ text) (sym both) ∙ so_far

-- none has a number any more
pub no_number : (numbers : List ℕ) (i : ℕ) (replies : List Reply) (text all : List ℕ) → length numbers ≤ i → text ++ replies_text (drop i numbers) (replies_of (drop i replies)) ≡ all
    → text ++ replies_text (drop (i + 1) numbers) (replies_of (drop (i + 1) replies)) ≡ all
no_number numbers i replies text all past so_far =
    ap (λ (ns : List ℕ). text ++ replies_text ns (replies_of (drop (i + 1) replies))) (drop_all (i + 1) numbers (omega (arith, past)))
    ∙ sym (ap (λ (ns : List ℕ). text ++ replies_text ns (replies_of (drop i replies))) (drop_all i numbers past))
    ∙ so_far

no_replies : (numbers : List ℕ) → replies_text numbers [] ≡ []
no_replies [] = refl
no_replies (n ∷ ns) = refl

-- no reply is left
pub all_replies : (numbers : List ℕ) (i : ℕ) (replies : List Reply) (text all : List ℕ) → length replies ≤ i → text ++ replies_text (drop i numbers) (replies_of (drop i replies)) ≡ all → text ≡ all
all_replies numbers i replies text all past so_far =
    let none : replies_text (drop i numbers) (replies_of (drop i replies)) ≡ [] =
    ap (λ (rs : List Reply). replies_text (drop i numbers) (replies_of rs)) (drop_all i replies past) ∙ no_replies (drop i numbers) in
    sym (append-nil text) ∙ sym (ap (λ (t : List ℕ). text ++ t) none) ∙ so_far
