-- The tests of the texts of a line, one after another, and the texts of a line that saves rows.
use Rattle.std.proofs.Common.{◌≡◌, ◌<◌, ◌≤◌, ◌+◌, ◌-◌, ◌∙◌, ◌&&◌, ℕ, Bool, true, false, List, [], ◌∷◌, take, drop, get_or, length, codes, Option, Some, None, option_map, bytes_eq, sym, ap, arith, Bor}
use Rattle.std.specs.Prelude.{is_some}
use Rattle.std.proofs.lemmas.Bool.{cond-true}
use Rattle.std.proofs.lemmas.List.{drop_more, take_all}
use Rattle.facts.specs.Texts.{text_list}
use Rattle.query.specs.ConditionText.{condition_of}
use Rattle.query.specs.Query.{PlainCondition}
use Rattle.cli_scripts.specs.Script.{PlainRows, are_conditions, option_at, option_or_at, limit_of, after_dashes, rows_of}

-- the next text, and those after it
next_text : (texts : List (Bor (List ℕ))) (i : ℕ) (d : Bor (List ℕ)) (found : Option PlainCondition) → i < length texts → condition_of (get_or texts i d).now ≡ found
    → are_conditions (text_list (drop i texts)) ≡ (is_some found && are_conditions (text_list (drop (i + 1) texts)))
next_text texts i d found lt is =
    ap (λ (ts : List (Bor (List ℕ))). are_conditions (text_list ts)) (drop_more texts i d lt)
    ∙ ap (λ (o : Option PlainCondition). is_some o && are_conditions (text_list (drop (i + 1) texts))) is

pub condition_kept : (texts : List (Bor (List ℕ))) (i : ℕ) (d : Bor (List ℕ)) (condition : PlainCondition) (all : Bool) → i < length texts
    → condition_of (get_or texts i d).now ≡ Some condition → are_conditions (text_list (drop i texts)) ≡ all → are_conditions (text_list (drop (i + 1) texts)) ≡ all
condition_kept texts i d condition all lt is so_far = sym (next_text texts i d (Some condition) lt is) ∙ so_far

pub condition_refused : (texts : List (Bor (List ℕ))) (i : ℕ) (d : Bor (List ℕ)) (all : Bool) → i < length texts → condition_of (get_or texts i d).now ≡ None
    → are_conditions (text_list (drop i texts)) ≡ all → all ≡ false
condition_refused texts i d all lt is so_far = sym so_far ∙ next_text texts i d None lt is

-- ---- the rows that are saved

abbrev pub Found : Type 0
Found = Option (List ℕ) × List (List ℕ)

abbrev pub made : Option (List ℕ) → List (List ℕ) → Option ℕ → PlainRows
made columns conditions limit = record { columns = columns; limit = limit; conditions = conditions }

-- the options that were found, one after another
pub rows_found : (first limit columns : Found) (number : Option (Option ℕ)) (words : List (List ℕ)) → first ≡ option_at (codes "--columns") words
    → limit ≡ option_at (codes "--limit") first.1 → columns ≡ option_or_at first.0 (codes "--columns") limit.1 → number ≡ limit_of limit.0
    → option_map (made columns.0 (after_dashes columns.1)) number ≡ rows_of words
unfolding rows_of
rows_found first limit columns number words is_first is_limit is_columns is_number =
    ap (option_map (made columns.0 (after_dashes columns.1))) is_number
    ∙ ap (λ (c : Found). rows_by c limit) is_columns
    ∙ ap (λ (l : Found). rows_by (option_or_at first.0 (codes "--columns") l.1) l) is_limit
    ∙ ap (λ (f : Found). rows_by (option_or_at f.0 (codes "--columns") (option_at (codes "--limit") f.1).1) (option_at (codes "--limit") f.1)) is_first
  where
    rows_by : Found → Found → Option PlainRows
    rows_by c l = option_map (made c.0 (after_dashes c.1)) (limit_of l.0)

-- a word behind its option
pub option_taken : (option : List ℕ) (words : List (Bor (List ℕ))) (d e : Bor (List ℕ)) → 2 ≤ length words → bytes_eq option (get_or words 0 d).now ≡ true
    → (Some (get_or words 1 e).now, text_list (take (length words - 2) (drop 2 words))) ≡ option_at option (text_list words)
unfolding option_at
option_taken option [] d e enough same = absurd (omega (arith, enough))
option_taken option (w ∷ []) d e enough same = absurd (omega (arith, enough))
option_taken option (w ∷ v ∷ more) d e enough same =
    let whole : take (length (w ∷ v ∷ more) - 2) more ≡ more = take_all (length (w ∷ v ∷ more) - 2) more (omega arith) in
    (λ k. (Some v.now, text_list (whole k))) ∙ sym (cond-true (bytes_eq option w.now) (Some v.now, text_list more) (None, w.now ∷ v.now ∷ text_list more) same)
