-- One more line of a script, in its items.
use Rattle.std.proofs.Common.{◌≡◌, ◌≢◌, ◌<◌, ◌+◌, ◌++◌, ◌∙◌, [], ◌∷◌, ℕ, true, List, length, take, map, get_or, append_assoc, append-nil, length-append, Option, Some, None, String, refl, sym, ap, subst, arith}
use Rattle.std.specs.Borrow.{Bor}
use Rattle.std.specs.Global.{Global, Vec}
use Rattle.std.proofs.lemmas.List.{take_more, length-take, get_or-map, length-map, map-append}
use Rattle.text_import.specs.declared.form.TextForm.{TextForm}
use Rattle.cli_scripts.specs.Items.{PlainList, PlainItem, one, listed, is_alone, number_of, lines_in, IsItem, AreItems, PlainGrouping, AreGrouped, HasNoneThere, IsBadLine}
use Rattle.cli_scripts.specs.Plain.{plain_item, plain_items, plain_line, plain_list, plain_words}
use Rattle.cli_scripts.specs.declared.items.ScriptItem.TheVariants as kinds
use Rattle.cli_scripts.specs.declared.items.ScriptList.{ScriptList}
use Rattle.cli_scripts.specs.declared.line.ScriptLine.{ScriptLine}
use Rattle.cli_scripts.specs.declared.line.ScriptLine.TheVariants.{Create, Import, Append, AppendText, Save, Rename, Drop, Compact, Upgrade, Reopen, Begin, Commit}
use Rattle.cli_scripts.specs.declared.items.ScriptItem.{ScriptItem}
use Rattle.cli_scripts.specs.Script.{PlainLine, begin_list, commit_list, HasLine, HaveLines}
use Rattle.cli_scripts.specs.inner.Grouping.{AddsWords}
use Rattle.cli_scripts.proofs.Lines.{lines_more}

-- ---- one more item

pub items_more : (number : ℕ) (front : List PlainLine) (items : List PlainItem) (item : PlainItem) → AreItems number front items → IsItem item → number_of item ≡ number + length front
    → AreItems number (front ++ lines_in item) (items ++ item ∷ [])
items_more number front [] item are is at =
    let none : length front ≡ 0 = ap length are in
    ([], ap (λ (ls : List PlainLine). ls ++ lines_in item) are ∙ sym (append-nil (lines_in item)), is, omega (arith, at, none), refl)
items_more number front (i ∷ is) item are is_item at =
    let rest = are.0 in
    let count : length front ≡ length (lines_in i) + length rest = ap length are.1 ∙ length-append (lines_in i) rest in (
      rest ++ lines_in item,
      ap (λ (ls : List PlainLine). ls ++ lines_in item) are.1 ∙ append_assoc (lines_in i) rest (lines_in item),
      are.2,
      are.3,
      items_more (number + length (lines_in i)) rest is item are.4 is_item (omega (arith, at, count)),
    )

-- ---- one more line

abbrev pub grouping : List PlainItem → Option PlainList → PlainGrouping
grouping items list = record { items = items; list = list }

-- where no list is open
pub alone_more : (items : List PlainItem) (number : ℕ) (line : PlainLine) (lines : List PlainLine) → is_alone line ≡ true → AreGrouped lines (grouping items None) → number ≡ length lines + 1
    → AreGrouped (lines ++ line ∷ []) (grouping (items ++ one number line ∷ []) None)
alone_more items number line lines alone grouped at =
    let here : number ≡ 1 + length grouped.front = omega (arith, at, ap length grouped.rest) in
    record {
      front = grouped.front ++ line ∷ [];
      items = items_more 1 grouped.front items (one number line) grouped.items alone here;
      rest = ap (λ (ls : List PlainLine). ls ++ line ∷ []) grouped.rest;
    }

-- where one is
pub ended : (items : List PlainItem) (list : PlainList) (lines : List PlainLine) → AreGrouped lines (grouping items (Some list))
    → AreGrouped (lines ++ commit_list ∷ []) (grouping (items ++ listed list ∷ []) None)
ended items list lines grouped =
    let here : list.number ≡ 1 + length grouped.front = omega (arith, grouped.rest.1) in
    record {
      front = grouped.front ++ lines_in (listed list);
      items = items_more 1 grouped.front items (listed list) grouped.items grouped.rest.2 here;
      rest = ap (λ (ls : List PlainLine). ls ++ commit_list ∷ []) grouped.rest.0 ∙ append_assoc grouped.front (begin_list ∷ list.lines) (commit_list ∷ []);
    }

-- ---- a line of the code

-- the line is none that must not stand by itself
abbrev pub StandsAlone : ScriptLine → Type 0
StandsAlone line = (line ≢ Begin) × (line ≢ Commit) × ((name file : Bor (List ℕ)) (form : TextForm) → line ≢ AppendText name file form)

not_bound : (line : ScriptLine) → StandsAlone line → is_alone (plain_line line) ≡ true
not_bound (Create name fields) other = refl
not_bound (Import name file complete) other = refl
not_bound (Append name file complete) other = refl
not_bound (Save from to rows) other = refl
not_bound (Rename from to) other = refl
not_bound (Drop name) other = refl
not_bound Compact other = refl
not_bound Upgrade other = refl
not_bound Reopen other = refl
not_bound Begin other = absurd (other.0 refl)
not_bound Commit other = absurd (other.1 refl)
not_bound (AppendText name file form) other = absurd (other.2 name file form refl)

pub line_added : (items pushed : List ScriptItem) (number : ℕ) (line : ScriptLine) (lines : List PlainLine) → pushed ≡ items ++ kinds.Line number line ∷ [] → StandsAlone line
    → AreGrouped lines (grouping (plain_items items) None) → number ≡ length lines + 1 → AreGrouped (lines ++ plain_line line ∷ []) (grouping (plain_items pushed) None)
line_added items pushed number line lines more other grouped at =
    subst (λ (is : List PlainItem). AreGrouped (lines ++ plain_line line ∷ []) (grouping is None)) (sym (ap plain_items more ∙ map-append plain_item items (kinds.Line number line ∷ [])))
    (alone_more (plain_items items) number (plain_line line) lines (not_bound line other) grouped at)

pub list_ended : (items pushed : List ScriptItem) (list : ScriptList) (line : ScriptLine) (lines : List PlainLine) → line ≡ Commit → pushed ≡ items ++ kinds.List list ∷ []
    → AreGrouped lines (grouping (plain_items items) (Some (plain_list list))) → AreGrouped (lines ++ plain_line line ∷ []) (grouping (plain_items pushed) None)
list_ended items pushed list line lines is more grouped =
    subst (λ (l : ScriptLine). AreGrouped (lines ++ plain_line l ∷ []) (grouping (plain_items pushed) None)) (sym is)
    (subst (λ (is : List PlainItem). AreGrouped (lines ++ commit_list ∷ []) (grouping is None)) (sym (ap plain_items more ∙ map-append plain_item items (kinds.List list ∷ [])))
    (ended (plain_items items) (plain_list list) lines grouped))

-- ---- the loop

-- the first lines are read, and grouped
abbrev pub AreRead : List (Option (List (List ℕ))) → PlainGrouping → Type 0
AreRead texts grouping = (lines : List PlainLine) × HaveLines texts lines × AreGrouped lines grouping

count_read : (texts : List (Option (List (List ℕ)))) (lines : List PlainLine) → HaveLines texts lines → length lines ≡ length texts
count_read [] [] have = refl
count_read [] (l ∷ ls) have = absurd have
count_read (t ∷ ts) [] have = absurd have
count_read (t ∷ ts) (l ∷ ls) have = omega (arith, count_read ts ls have.1)

pub words_read : (all : List (Option (Vec (String Global)))) (i : ℕ) (item : Option (Vec (String Global))) (old new : PlainGrouping) (found : Option PlainGrouping) (number : ℕ) → number ≡ i + 1 → i < length all
    → item ≡ get_or all i item → AddsWords old number (plain_words item) found → found ≡ Some new → AreRead (take i (map plain_words all)) old → AreRead (take (i + 1) (map plain_words all)) new
words_read all i item old new found number counted lt here adds some so_far =
    let added : AddsWords old number (plain_words item) (Some new) = subst (λ (o : Option PlainGrouping). AddsWords old number (plain_words item) o) some adds in
    let at = ap plain_words here ∙ sym (get_or-map plain_words all i item None lt) in
    let among : i < length (map plain_words all) = omega (arith, lt, length-map all plain_words) in
    let count : length so_far.0 ≡ i = count_read (take i (map plain_words all)) so_far.0 so_far.1 ∙ length-take i (map plain_words all) ∙ omega (arith, among) in (
      so_far.0 ++ added.0 ∷ [],
      subst (λ (fronts : List (Option (List (List ℕ)))). HaveLines fronts (so_far.0 ++ added.0 ∷ [])) (sym (take_more (map plain_words all) i None among))
          (lines_more (take i (map plain_words all)) so_far.0 (get_or (map plain_words all) i None) added.0 so_far.1
          (subst (λ (words : Option (List (List ℕ))). HasLine words added.0) at added.1)),
      added.2 so_far.0 so_far.2 (omega (arith, counted, count)),
    )

pub words_refused : (all : List (Option (Vec (String Global)))) (i : ℕ) (item : Option (Vec (String Global))) (old : PlainGrouping) (found : Option PlainGrouping) (number : ℕ) → number ≡ i + 1 → i < length all
    → item ≡ get_or all i item → AddsWords old number (plain_words item) found → found ≡ None → AreRead (take i (map plain_words all)) old → IsBadLine (map plain_words all) number
words_refused all i item old found number counted lt here adds none so_far = record {
  index = i;
  counted = counted;
  among = omega (arith, lt, length-map all plain_words);
  front = so_far.0;
  before = so_far.1;
  grouping = old;
  grouped = so_far.2;
  bad =
      subst (λ (words : Option (List (List ℕ))). HasNoneThere old.list words) (ap plain_words here ∙ sym (get_or-map plain_words all i item None lt))
      (subst (λ (o : Option PlainGrouping). AddsWords old number (plain_words item) o) none adds);
}
