-- Lines and their words, one after another.
use Rattle.std.proofs.Common.{◌≡◌, ◌==◌, ◌<◌, ◌+◌, ◌-◌, ◌++◌, ◌∙◌, ℕ, true, false, if◌then◌else◌, length, take, drop, get_or, map, append_assoc, List, [], ◌∷◌, Option, Some, None, option_map, String, string_bytes, refl, sym, ap, subst, arith}
use Rattle.std.specs.Borrow.{Bor}
use Rattle.std.specs.Global.{Global, Vec}
use Rattle.std.specs.List.{slice_split, list_all}
use Rattle.std.proofs.lemmas.Bool.{cond-true, cond-false, and_from}
use Rattle.std.proofs.lemmas.List.{take_more, take-map, get_or-map, length-map, map-append}
use Rattle.std.proofs.lemmas.List.Folds.{list_all-append}
use Rattle.facts.specs.Texts.{text_list}
use Rattle.cli_scripts.specs.declared.line.ScriptLine.{ScriptLine}
use Rattle.cli_scripts.specs.Plain.{plain_line, plain_lines, plain_words}
use Rattle.cli_scripts.specs.Script.{PlainLine, HasLine, ReadsLine, HaveLines, changes_tables, HasNoChange, ReadsChange, HaveChanges, IsNoChange}
use Rattle.cli_scripts.specs.Words.{lines_of, ends_empty, HasWords, HaveWords}

-- ---- the lines of a script

stripped : (all split : List (List ℕ)) → all ≡ split → ends_empty all ≡ true → take (length all - 1) all ≡ (if ends_empty split then take (length split - 1) split else split)
stripped all split same ends =
    subst (λ (xs : List (List ℕ)). take (length all - 1) all ≡ (if ends_empty xs then take (length xs - 1) xs else xs)) same (sym (cond-true (ends_empty all) (take (length all - 1) all) all ends))

kept : (all split : List (List ℕ)) → all ≡ split → ends_empty all ≡ false → all ≡ (if ends_empty split then take (length split - 1) split else split)
kept all split same ends =
    subst (λ (xs : List (List ℕ)). all ≡ (if ends_empty xs then take (length xs - 1) xs else xs)) same (sym (cond-false (ends_empty all) (take (length all - 1) all) all ends))

-- the last line feed is there
pub lines_end : (script : List ℕ) (all left : List (Bor (List ℕ))) (n : ℕ) → text_list all ≡ slice_split (λ b. b == 10) script → ends_empty (text_list all) ≡ true → n ≡ length all → left ≡ take (n - 1) all
    → text_list left ≡ lines_of script
unfolding lines_of
lines_end script all left n same ends count is =
    let now : Bor (List ℕ) → List ℕ = λ t. t.now in
    let number : n ≡ length (text_list all) = omega (arith, count, length-map all now) in
    ap text_list is ∙ sym (take-map now (n - 1) all) ∙ ap (λ (k : ℕ). take (k - 1) (text_list all)) number
    ∙ stripped (text_list all) (slice_split (λ b. b == 10) script) same ends

-- it is missing
pub lines_whole : (script : List ℕ) (all : List (List ℕ)) → all ≡ slice_split (λ b. b == 10) script → ends_empty all ≡ false → all ≡ lines_of script
unfolding lines_of
lines_whole script all same ends = kept all (slice_split (λ b. b == 10) script) same ends

-- ---- one more line

have_more : (lines : List (List ℕ)) (words : List (Option (List (List ℕ)))) (line : List ℕ) (found : Option (List (List ℕ))) → HaveWords lines words → HasWords line found
    → HaveWords (lines ++ line ∷ []) (words ++ found ∷ [])
have_more [] [] line found have has = (has, tt)
have_more [] (w ∷ ws) line found have has = absurd have
have_more (l ∷ ls) [] line found have has = absurd have
have_more (l ∷ ls) (w ∷ ws) line found have has = (have.0, have_more ls ws line found have.1 has)

-- the words of one more line
pub words_kept : (parts : List (Bor (List ℕ))) (i : ℕ) (d : Bor (List ℕ)) (words : List (Option (Vec (String Global)))) (found : Option (Vec (String Global))) → i < length parts
    → HaveWords (take i (text_list parts)) (map plain_words words) → HasWords (get_or parts i d).now (plain_words found)
    → HaveWords (take (i + 1) (text_list parts)) (map plain_words (words ++ found ∷ []))
words_kept parts i d words found lt so_far has =
    let at = get_or-map (λ (t : Bor (List ℕ)). t.now) parts i d [] lt in
    let among : i < length (text_list parts) = omega (arith, lt, length-map parts (λ (t : Bor (List ℕ)). t.now)) in
    subst (λ (fronts : List (List ℕ)). HaveWords fronts (map plain_words (words ++ found ∷ []))) (sym (take_more (text_list parts) i [] among))
    (subst (λ (ws : List (Option (List (List ℕ)))). HaveWords (take i (text_list parts) ++ get_or (text_list parts) i [] ∷ []) ws) (sym (map-append plain_words words (found ∷ [])))
    (have_more (take i (text_list parts)) (map plain_words words) (get_or (text_list parts) i []) (plain_words found) so_far
    (subst (λ (line : List ℕ). HasWords line (plain_words found)) (sym at) has)))

pub lines_more : (fronts : List (Option (List (List ℕ)))) (lines : List PlainLine) (words : Option (List (List ℕ))) (line : PlainLine) → HaveLines fronts lines → HasLine words line
    → HaveLines (fronts ++ words ∷ []) (lines ++ line ∷ [])
lines_more [] [] words line have is = (is, tt)
lines_more [] (l ∷ ls) words line have is = absurd have
lines_more (f ∷ fs) [] words line have is = absurd have
lines_more (f ∷ fs) (l ∷ ls) words line have is = (have.0, lines_more fs ls words line have.1 is)

-- the command of one more line
pub line_kept : (all : List (Option (Vec (String Global)))) (i : ℕ) (item : Option (Vec (String Global))) (lines : List ScriptLine) (found : Option ScriptLine) (line : ScriptLine) → i < length all
    → item ≡ get_or all i item → ReadsLine (plain_words item) (option_map plain_line found) → found ≡ Some line → HaveLines (take i (map plain_words all)) (plain_lines lines)
    → HaveLines (take (i + 1) (map plain_words all)) (plain_lines (lines ++ line ∷ []))
line_kept all i item lines found line lt here read some so_far =
    let at = ap plain_words here ∙ sym (get_or-map plain_words all i item None lt) in
    let among : i < length (map plain_words all) = omega (arith, lt, length-map all plain_words) in
    let is = subst (λ (o : Option ScriptLine). ReadsLine (plain_words item) (option_map plain_line o)) some read in
    subst (λ (fronts : List (Option (List (List ℕ)))). HaveLines fronts (plain_lines (lines ++ line ∷ []))) (sym (take_more (map plain_words all) i None among))
    (subst (λ (ls : List PlainLine). HaveLines (take i (map plain_words all) ++ get_or (map plain_words all) i None ∷ []) ls) (sym (map-append plain_line lines (line ∷ [])))
    (lines_more (take i (map plain_words all)) (plain_lines lines) (get_or (map plain_words all) i None) (plain_line line) so_far
    (subst (λ (words : Option (List (List ℕ))). HasLine words (plain_line line)) at is)))

-- ---- lines that change tables

-- one more line
pub change_kept : (all : List (Option (Vec (String Global)))) (i : ℕ) (item : Option (Vec (String Global))) (lines : List ScriptLine) (found : Option ScriptLine) (line : ScriptLine) → i < length all
    → item ≡ get_or all i item → ReadsChange (plain_words item) (option_map plain_line found) → found ≡ Some line → HaveChanges (take i (map plain_words all)) (plain_lines lines)
    → HaveChanges (take (i + 1) (map plain_words all)) (plain_lines (lines ++ line ∷ []))
change_kept all i item lines found line lt here read some so_far =
    let is = subst (λ (o : Option ScriptLine). ReadsChange (plain_words item) (option_map plain_line o)) some read in (
      line_kept all i item lines (Some line) line lt here is.0 refl so_far.0,
      ap (list_all changes_tables) (map-append plain_line lines (line ∷ []))
          ∙ list_all-append changes_tables (plain_lines lines) (plain_line line ∷ [])
          ∙ and_from _ _ so_far.1 (and_from _ _ is.1 refl),
    )

-- the first one that does not change tables
pub no_change : (all : List (Option (Vec (String Global)))) (i : ℕ) (item : Option (Vec (String Global))) (lines : List ScriptLine) (number : ℕ) → number ≡ i + 1 → i < length all
    → item ≡ get_or all i item → HaveChanges (take i (map plain_words all)) (plain_lines lines) → HasNoChange (plain_words item) → IsNoChange (map plain_words all) number
no_change all i item lines number counted lt here before none = record {
  index = i;
  counted = counted;
  among = omega (arith, lt, length-map all plain_words);
  front = plain_lines lines;
  before = before;
  bad = subst (λ (words : Option (List (List ℕ))). HasNoChange words) (ap plain_words here ∙ sym (get_or-map plain_words all i item None lt)) none;
}

-- the texts of one more word
pub texts_kept : (words : List (String Global)) (i : ℕ) (item : String Global) (texts longer : List (Bor (List ℕ))) (text : Bor (List ℕ)) → drop i words ≡ item ∷ drop (i + 1) words
    → text.now ≡ string_bytes item → longer ≡ texts ++ text ∷ [] → text_list texts ++ map string_bytes (drop i words) ≡ map string_bytes words
    → text_list longer ++ map string_bytes (drop (i + 1) words) ≡ map string_bytes words
texts_kept words i item texts longer text here is more so_far =
    let after = map string_bytes (drop (i + 1) words) in
    ap (λ (ts : List (Bor (List ℕ))). text_list ts ++ after) more
    ∙ ap (λ (ts : List (List ℕ)). ts ++ after) (map-append (λ (t : Bor (List ℕ)). t.now) texts (text ∷ []))
    ∙ append_assoc (text_list texts) (text.now ∷ []) after
    ∙ ap (λ (b : List ℕ). text_list texts ++ b ∷ after) is
    ∙ ap (λ (ws : List (String Global)). text_list texts ++ map string_bytes ws) (sym here)
    ∙ so_far
