-- Lines that state digests, one after another.
use Rattle.std.proofs.Common.{◌≡◌, ◌∙◌, ◌+◌, ◌<◌, ◌++◌, ℕ, List, [], ◌∷◌, arith, get_or, length, take, refl, sym, ap, subst}
use Rattle.std.specs.Borrow.{Bor}
use Rattle.std.proofs.lemmas.List.{length-map, get_or-map, take_more}
use Rattle.facts.specs.Texts.{text_list}
use Rattle.table_archive.specs.Digests.{StatesDigest, StateDigests, IsDigestLine, IsBadLine, parts_of}

state_more : (lines digests : List (List ℕ)) (line digest : List ℕ) → StateDigests lines digests → StatesDigest line digest → StateDigests (lines ++ line ∷ []) (digests ++ digest ∷ [])
state_more [] [] line digest all is = (is, tt)
state_more [] (d ∷ ds) line digest all is = absurd all
state_more (l ∷ ls) [] line digest all is = absurd all
state_more (l ∷ ls) (d ∷ ds) line digest all is = (all.0, state_more ls ds line digest all.1 is)

line_at : (parts : List (Bor (List ℕ))) (i : ℕ) (item : Bor (List ℕ)) → i < length parts → item ≡ get_or parts i item → get_or (text_list parts) i [] ≡ item.now
line_at parts i item lt at = get_or-map (λ (t : Bor (List ℕ)). t.now) parts i item [] lt ∙ ap (λ (t : Bor (List ℕ)). t.now) (sym at)

lines_many : (parts : List (Bor (List ℕ))) → length (text_list parts) ≡ length parts
lines_many parts = length-map parts (λ (t : Bor (List ℕ)). t.now)

pub next_digest : (parts : List (Bor (List ℕ))) (i : ℕ) (item : Bor (List ℕ)) (digests more : List (List ℕ)) (digest : List ℕ) → i < length parts → item ≡ get_or parts i item
    → more ≡ digests ++ digest ∷ [] → StateDigests (take i (text_list parts)) digests → StatesDigest item.now digest → StateDigests (take (i + 1) (text_list parts)) more
next_digest parts i item digests more digest lt at longer all is =
    let among : i < length (text_list parts) = omega (arith, lt, lines_many parts) in
    subst (λ (ds : List (List ℕ)). StateDigests (take (i + 1) (text_list parts)) ds) (sym longer)
    (subst (λ (lines : List (List ℕ)). StateDigests lines (digests ++ digest ∷ [])) (sym (take_more (text_list parts) i [] among))
    (state_more (take i (text_list parts)) digests (get_or (text_list parts) i []) digest all
    (subst (λ (line : List ℕ). StatesDigest line digest) (sym (line_at parts i item lt at)) is)))

pub bad_line : (text : List ℕ) (parts : List (Bor (List ℕ))) (i : ℕ) (item : Bor (List ℕ)) (digests : List (List ℕ)) → text_list parts ≡ parts_of text → i < length parts
    → item ≡ get_or parts i item → StateDigests (take i (text_list parts)) digests → ¬ IsDigestLine item.now → (item.now ≡ [] → i + 1 < length parts) → IsBadLine text (i + 1)
bad_line text parts i item digests split lt at all bad more =
    let line : get_or (parts_of text) i [] ≡ item.now = ap (λ (ls : List (List ℕ)). get_or ls i []) (sym split) ∙ line_at parts i item lt at in
    let many : length (parts_of text) ≡ length parts = ap length (sym split) ∙ lines_many parts in
    record {
      place = i;
      counted = refl;
      among = omega (arith, lt, many);
      digests = digests;
      before = subst (λ (ls : List (List ℕ)). StateDigests (take i ls) digests) split all;
      bad = subst (λ (l : List ℕ). ¬ IsDigestLine l) (sym line) bad;
      more = λ empty. omega (arith, more (sym line ∙ empty), many);
    }
