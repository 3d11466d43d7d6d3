-- Lines whose commands are added one by one: what they are so far, and how they are refused.
use Rattle.std.specs.Prelude.{◌≡◌, ◌≢◌, ◌⊎◌, ◌++◌, ◌∷◌, ◌+◌, ◌<◌, ◌≤◌, ℕ, zero, suc, Bool, true, List, [], take, length, slice_get, Option, Some, None, option_map, unwrap_or, Result, Ok, Err, IfErr}
use Rattle.std.proofs.Common.{◌∙◌, inl, inr, refl, sym, ap, subst, arith, append_assoc, append-nil}
use Rattle.std.proofs.lemmas.Bool.{cases_lt, true≢false}
use Rattle.std.proofs.lemmas.List.{length-append, take_at, take_all, take-append-le}
use Rattle.sector_dev.specs.Disk.{Story, Image, now, shown_image}
use Rattle.sector_dev.specs.Time.{OnlyReads}
use Rattle.sector_dev.specs.declared.device.SectorDevice.{Ghosts}
use Rattle.arrow_schema.specs.Column.{PlainSchema}
use Rattle.cells.specs.Cell.{Cell}
use Rattle.facts.specs.Outcomes.{Reports}
use Rattle.catalogue.specs.Entries.{PlainEntry, PlainCatalogue, runs_of}
use Rattle.tables.specs.Commands.{PlainCommand, all_of, commands_of}
use Rattle.tables.specs.Tables.{Tables}
use Rattle.tables.specs.declared.refusal.Refusal as tables
use Rattle.tables.specs.declared.refusal.Refusal.TheVariants as reasons
use Rattle.store.specs.declared.store.Store as stores
use Rattle.store.specs.declared.applying_all.ListRefusal.{ListRefusal}
use Rattle.store.specs.declared.applying_all.ListRefusal.TheVariants.{Whole}
use Rattle.store.specs.declared.transacting.Transaction.{Transaction}
use Rattle.store.specs.Answering.{Applies}
use Rattle.store.specs.Applying.{GoesOn}
use Rattle.store.specs.Fits.{StoreFits, device_of, listed_in}
use Rattle.store.specs.Listing.{RefusesTables}
use Rattle.store.specs.Lists.{refusal_of, refusal_at, as_one, ended_list}
use Rattle.store.specs.Reading.{OnlyReadsStore}
use Rattle.store.specs.Transactions.{drafted, Drafts}
use Rattle.store_runs.specs.Calls.{apply_call, done}
use Rattle.store_runs.specs.Deciding.{AreBefore}
use Rattle.store_runs.specs.Machine.{Machine}
use Rattle.store_changes.specs.Draft.{laid, streams_of}
use Rattle.store_changes.specs.Verdicts.{LeadsThrough}
use Rattle.text_import.specs.declared.form.TextForm.{TextForm}
use Rattle.text_import.specs.declared.refusal.Refused.{Refused}
use Rattle.text_import.specs.declared.refusal.TextError.{TextError}
use Rattle.text_import.specs.declared.refusal.TextError.TheVariants as texts
use Rattle.text_import.specs.Form.{rows_of_text}
use Rattle.text_import.specs.Refusals.{refused_by}
use Rattle.cli_reports.specs.Refusals.{text_refusal}
use Rattle.cli_reports.specs.declared.refusal.Refusal.{Refusal}
use Rattle.cli_reports.specs.declared.refusal.Refusal.TheVariants.{Io, Store, Text, OutOfMemory}
use Rattle.cli_reports.specs.declared.refusal.Side.TheVariants.{Output}
use Rattle.cli_commands.specs.declared.applying.ListedCommand.{ListedCommand}
use Rattle.cli_commands.specs.Applying.{FollowsList, IsOfLine, IsListedAt, AreListed, GivesLines, TextHasRows, TextIsRefused, RefusesTextAt, RefusesLines, AnswersLines, HandsLines, AnswersList}
use Rattle.cli_commands.specs.inner.Applying.{at_line, HasOnlyRead, AddsLine, RefusesLine, EndsLine}

pub follows_done : (x : Unit {0}) (result : Result (Unit {0}) Refusal) → IfErr result (λ e. e ≡ Io Output) → FollowsList (Ok x) result
follows_done x (Ok unit) io = tt
follows_done x (Err e) io = io

-- the number of a line is one more than its place
pub follows_at : (place : ℕ) (r : tables.Refusal) → FollowsList (Err (refusal_at place r)) (Err (at_line (place + 1) (Store r)))
follows_at place reasons.Device = refl
follows_at place reasons.OutOfMemory = refl
follows_at place _ = refl

pub gives_at : (unwritten : Type 0) (lines place : ℕ) (r : tables.Refusal) → place < lines → unwritten → GivesLines unwritten lines (place + 1) (Err (refusal_at place r))
gives_at unwritten lines place reasons.Device less reads = inr (omega (arith, less), reads)
gives_at unwritten lines place reasons.OutOfMemory less reads = omega (arith, less)
gives_at unwritten lines place _ less reads = refl

-- ---- places of lists

at_front_end : {A : Type 0} (xs : List A) (x : A) (ys : List A) → slice_get (xs ++ x ∷ ys) (length xs) ≡ Some x
at_front_end [] x ys = refl
at_front_end (y ∷ xs) x ys = at_front_end xs x ys

at_end : {A : Type 0} (xs : List A) (x : A) → slice_get (xs ++ x ∷ []) (length xs) ≡ Some x
at_end xs x = at_front_end xs x []

at_front : {A : Type 0} (xs ys : List A) (n : ℕ) (x : A) → slice_get xs n ≡ Some x → slice_get (xs ++ ys) n ≡ Some x
at_front [] ys n x is = absurd (cc is)
at_front (y ∷ xs) ys zero x is = is
at_front (y ∷ xs) ys (suc n) x is = at_front xs ys n x is

-- ---- the commands of lines

module _ (tells : Bool) (image : Image) (c : PlainCatalogue) where
  pub none_listed : AreListed tells image c [] []
  none_listed = record { count = refl; each = λ place less. absurd (omega (arith, less)) }

  -- what was listed stays so
  listed_on : (lines more : List ListedCommand) (commands others : List PlainCommand) (place : ℕ) → place < length commands → IsListedAt tells image c lines commands place → IsListedAt tells image c (lines ++ more) (commands ++ others) place
  listed_on lines more commands others place less is =
      let first : take place (commands ++ others) ≡ take place commands = take-append-le place commands others (omega (arith, less)) in
      record {
        line = is.line;
        at = at_front lines more place is.line is.at;
        command = is.command;
        has = at_front commands others place is.command is.has;
        from = is.from;
        before = is.before;
        next = is.next;
        over = is.over;
        made = is.made;
        leads = subst (λ (cs : List PlainCommand). LeadsThrough tells is.from image c cs is.next is.over is.made) (sym first) is.leads;
        is = is.is;
      }

  -- one line more: its command is that on the catalogue to which those before it lead
  module _ (from : ℕ) (before : AreBefore from (runs_of c)) (lines : List ListedCommand) (commands : List PlainCommand) (line : ListedCommand) (command : PlainCommand) (next : ℕ) (over : Image) (made : PlainCatalogue)
      (leads : LeadsThrough tells from image c commands next over made) (is : IsOfLine made line command) (listed : AreListed tells image c lines commands) where
    last_listed : IsListedAt tells image c (lines ++ line ∷ []) (commands ++ command ∷ []) (length lines)
    last_listed = record {
      line = line;
      at = at_end lines line;
      command = command;
      has = subst (λ (n : ℕ). slice_get (commands ++ command ∷ []) n ≡ Some command) listed.count (at_end commands command);
      from = from;
      before = before;
      next = next;
      over = over;
      made = made;
      leads = subst (λ (cs : List PlainCommand). LeadsThrough tells from image c cs next over made) (sym (take_at commands (command ∷ []) (length lines) listed.count)) leads;
      is = is;
    }

    pub listed_more : AreListed tells image c (lines ++ line ∷ []) (commands ++ command ∷ [])
    listed_more = record {
      count = let a = length-append commands (command ∷ []) in let b = length-append lines (line ∷ []) in let same = listed.count in omega (arith, a, b, same);
      each = λ place inside. by_place place (cases_lt place (length lines)) inside;
    }
      where
        by_place : (place : ℕ) → (place < length lines) ⊎ (length lines ≤ place) → place < length (lines ++ line ∷ []) → IsListedAt tells image c (lines ++ line ∷ []) (commands ++ command ∷ []) place
        by_place place (inl less) inside = let same = listed.count in listed_on lines (line ∷ []) commands (command ∷ []) place (omega (arith, less, same)) (listed.each place less)
        by_place place (inr end) inside =
            let more = length-append lines (line ∷ []) in
            let same : place ≡ length lines = omega (arith, end, inside, more) in
            subst (λ (n : ℕ). IsListedAt tells image c (lines ++ line ∷ []) (commands ++ command ∷ []) n) (sym same) last_listed

-- ---- a transaction whose commands are those of lines

-- the commands that were accepted since it was begun are those of these lines
pub record HasLines {D : Type 0} {g : Ghosts D} (size : D → ℕ) (story : D → Story) (failed : D → ℕ) (tells : Bool) (first store : stores.Store D g) (t : Transaction) (lines : List ListedCommand) : Type 0 where
  pub given : List PlainCommand
  pub drafts : Drafts size story failed tells first store t given
  pub listed : AreListed tells (shown_image (now (story (device_of first)))) (listed_in first) lines given

module _ {D : Type 0} {g : Ghosts D} (size : D → ℕ) (story : D → Story) (failed : D → ℕ) (tells : Bool) (first store : stores.Store D g) (t : Transaction) where
  abbrev shown : Image
  shown = shown_image (now (story (device_of first)))

  pub no_lines : Drafts size story failed tells first store t [] → HasLines size story failed tells first store t []
  no_lines begun = record { given = []; drafts = begun; listed = none_listed tells shown (listed_in first) }

  module _ (lines : List ListedCommand) (has : HasLines size story failed tells first store t lines) (line : ListedCommand) where
    -- with one more, also where it is refused
    pub listed_then : (command : PlainCommand) → IsOfLine (drafted t) line command → AreListed tells shown (listed_in first) (lines ++ line ∷ []) (has.given ++ command ∷ [])
    listed_then command is =
        listed_more tells shown (listed_in first) (size (device_of first)) has.drafts.before lines has.given line command t.draft.next (laid t.draft.from (streams_of t.draft) shown) (drafted t) has.drafts.leads is has.listed

    pub lines_more : (next : Transaction) (new : stores.Store D g) → AddsLine size story failed tells (drafted t) line first has.given next new → HasLines size story failed tells first new next (lines ++ line ∷ [])
    lines_more next new adds = record { given = has.given ++ adds.command ∷ []; drafts = adds.drafts; listed = listed_then adds.command adds.is }

    -- the text of one more is refused
    pub text_refused : (all rest : List ListedCommand) (refused : Refused) → lines ++ line ∷ rest ≡ all → TextIsRefused (drafted t) line refused → RefusesTextAt tells shown (listed_in first) all (length lines) refused
    text_refused all rest refused parts is = record {
      commands = has.given;
      listed = subst (λ (ls : List ListedCommand). AreListed tells shown (listed_in first) ls has.given) (sym (ap (take (length lines)) (sym parts) ∙ take_at lines (line ∷ rest) (length lines) refl)) has.listed;
      from = size (device_of first);
      before = has.drafts.before;
      next = t.draft.next;
      over = laid t.draft.from (streams_of t.draft) shown;
      made = drafted t;
      leads = has.drafts.leads;
      line = line;
      at = ap (λ (ls : List ListedCommand). slice_get ls (length lines)) (sym parts) ∙ at_front_end lines line rest;
      refuses = is;
    }

-- ---- how lines are refused

pub gives_whole : (unwritten : Type 0) (lines : ℕ) (r : tables.Refusal) → r ≢ reasons.Halted → GivesLines unwritten lines lines (Err (Whole r))
gives_whole unwritten lines reasons.Device other = inl refl
gives_whole unwritten lines reasons.OutOfMemory other = omega arith
gives_whole unwritten lines reasons.Halted other = absurd (other refl)
gives_whole unwritten lines _ other = refl

module _ {D : Type 0} {g : Ghosts D} (size : D → ℕ) (story : D → Story) (failed : D → ℕ) (tells : Bool) (first store new : stores.Store D g) (t : Transaction) (lines : List ListedCommand)
    (has : HasLines size story failed tells first store t lines) (line : ListedCommand) (rest all : List ListedCommand) (parts : lines ++ line ∷ rest ≡ all) (number : ℕ) (counted_so : number ≡ length lines + 1) where
  abbrev image : Image
  image = shown_image (now (story (device_of first)))

  abbrev pub unwritten : Type 0
  unwritten = tells ≡ true → OnlyReads (story (device_of first)) (story (device_of new))

  first_lines : take (length lines + 1) all ≡ lines ++ line ∷ []
  first_lines =
      let whole : (lines ++ line ∷ []) ++ rest ≡ all = append_assoc lines (line ∷ []) rest ∙ parts in
      let count : length (lines ++ line ∷ []) ≡ length lines + 1 = length-append lines (line ∷ []) in
      ap (take (length lines + 1)) (sym whole) ∙ take_at (lines ++ line ∷ []) rest (length lines + 1) count

  within : length lines < length all
  within = let sum = length-append lines (line ∷ rest) in let same = ap (λ (ls : List ListedCommand). length ls) parts in omega (arith, sum, same)

  -- the store refuses the command of the next one
  line_answered : (P : List PlainCommand → Result (Unit {0}) ListRefusal → Type 0) (still : Type 0) (r : tables.Refusal) (ends : RefusesLine size story failed tells (drafted t) line first has.given r new) → still
      → P (has.given ++ ends.command ∷ []) (Err (refusal_at (length has.given) r)) → AnswersLines tells image (listed_in first) all still P (Err (at_line number (Store r)))
  line_answered P still r ends reads answers =
      let same = has.listed.count in
      let later : length has.given + 1 ≡ number = omega (arith, same, counted_so) in
      record {
        count = length lines + 1;
        commands = has.given ++ ends.command ∷ [];
        listed = subst (λ (ls : List ListedCommand). AreListed tells image (listed_in first) ls (has.given ++ ends.command ∷ [])) (sym first_lines) (listed_then size story failed tells first store t lines has line ends.command ends.is);
        answer = Err (refusal_at (length has.given) r);
        given = subst (λ (n : ℕ). GivesLines still (length all) (n + 1) (Err (refusal_at (length has.given) r))) same (gives_at still (length all) (length has.given) r (let inside = within in omega (arith, same, inside)) reads);
        answers = answers;
        follows = subst (λ (n : ℕ). FollowsList (Err (refusal_at (length has.given) r)) (Err (at_line n (Store r)))) later (follows_at (length has.given) r);
      }

  pub line_told : (out : Type 0) → out → (e : Refusal) → EndsLine size story failed tells (drafted t) line first has.given e new
      → HandsLines tells image (listed_in first) all unwritten (λ given answer. AnswersList size story failed tells given answer first new)
      (λ refusal. RefusesLines tells image (listed_in first) all refusal × OnlyReadsStore size story failed tells done first new × out) (Err (at_line number e))
  line_told out same (Store r) ends =
      let no = ends.refuses in
      inr (line_answered (λ given answer. AnswersList size story failed tells given answer first new) unwritten r ends no.unwritten
      (record { applies = as_answer (refusal_at (length has.given) r) (has.given ++ ends.command ∷ []) no.applies; line = no.line; size_kept = no.same; count = no.count }))
    where
      as_answer : (e : ListRefusal) (commands : List PlainCommand) → Applies size story tells first (all_of (commands_of commands)) (Err (refusal_of e)) new → Applies size story tells first (all_of (commands_of commands)) (as_one (Err e)) new
      as_answer e commands applies = applies
  line_told out same (Text refused) ends =
      inl ((length lines, counted_so, text_refused size story failed tells first store t lines has line all rest refused parts ends.0), ends.1.reads, same)
  line_told out same OutOfMemory ends = inl (tt, ends.reads, same)
  line_told out same _ ends = absurd ends

  pub line_goes : tells ≡ true → (base : Tables) (m : Machine) → StoreFits size story base m first → (e : Refusal) → EndsLine size story failed tells (drafted t) line first has.given e new
      → HandsLines tells image (listed_in first) all (OnlyReads (story (device_of first)) (story (device_of new)))
      (λ given answer. GoesOn size story failed base m (apply_call (all_of (commands_of given))) (ended_list answer) first new) (λ refusal. StoreFits size story base m new) (Err (at_line number e))
  line_goes told base m fits (Store r) ends =
      inr (line_answered (λ given answer. GoesOn size story failed base m (apply_call (all_of (commands_of given))) (ended_list answer) first new) (OnlyReads (story (device_of first)) (story (device_of new))) r ends
      (ends.refuses.unwritten told) (ends.refuses.goes told base m fits))
  line_goes told base m fits (Text refused) ends = inl (ends.1.fits told base m fits)
  line_goes told base m fits OutOfMemory ends = inl (ends.fits told base m fits)
  line_goes told base m fits _ ends = absurd ends

-- ---- how all of them are answered

module _ {D : Type 0} {g : Ghosts D} (size : D → ℕ) (story : D → Story) (failed : D → ℕ) (tells : Bool) (first store : stores.Store D g) (t : Transaction) (lines : List ListedCommand)
    (has : HasLines size story failed tells first store t lines) where
  pub all_answered : (P : List PlainCommand → Result (Unit {0}) ListRefusal → Type 0) (still : Type 0) (answer : Result (Unit {0}) ListRefusal) (result : Result (Unit {0}) Refusal) → GivesLines still (length lines) (length lines) answer
      → P has.given answer → FollowsList answer result → AnswersLines tells (shown_image (now (story (device_of first)))) (listed_in first) lines still P result
  all_answered P still answer result gives answers follows = record {
    count = length lines;
    commands = has.given;
    listed = subst (λ (ls : List ListedCommand). AreListed tells (shown_image (now (story (device_of first)))) (listed_in first) ls has.given) (sym (take_all (length lines) lines (omega arith))) has.listed;
    answer = answer;
    given = gives;
    answers = answers;
    follows = follows;
  }

  -- nothing is left behind them
  pub lines_all : (rest all : List ListedCommand) → lines ++ rest ≡ all → length rest ≡ 0 → HasLines size story failed tells first store t all
  lines_all rest all parts none = subst (λ (ls : List ListedCommand). HasLines size story failed tells first store t ls) (sym (append-nil lines) ∙ ap (λ (ls : List ListedCommand). lines ++ ls) (sym (no_items rest none)) ∙ parts) has
    where
      no_items : (xs : List ListedCommand) → length xs ≡ 0 → xs ≡ []
      no_items [] is = refl
      no_items (x ∷ xs) is = absurd (omega (arith, is))

  -- a store that transactions are begun on is not halted
  pub never_halted : (c : PlainCommand) (r : tables.Refusal) (new : stores.Store D g) → Applies size story tells first c (Err r) new → r ≢ reasons.Halted
  never_halted c r new applies is = absurd (true≢false (sym (applies.halted.0 (ap Err is)) ∙ has.drafts.on))

-- a list that is not begun
pub none_answered : (tells : Bool) (image : Image) (c : PlainCatalogue) (lines : List ListedCommand) (P : List PlainCommand → Result (Unit {0}) ListRefusal → Type 0) (still : Type 0) (halted : Bool) (r : tables.Refusal) → RefusesTables halted r
    → P [] (Err (Whole r)) → AnswersLines tells image c lines still P (Err (Store r))
none_answered tells image c lines P still halted r why answers = record {
  count = 0;
  commands = [];
  listed = none_listed tells image c;
  answer = Err (Whole r);
  given = by_refusal r why;
  answers = answers;
  follows = refl;
}
  where
    by_refusal : (q : tables.Refusal) → RefusesTables halted q → GivesLines still (length lines) 0 (Err (Whole q))
    by_refusal reasons.Halted is = refl
    by_refusal reasons.OutOfMemory is = omega arith
    by_refusal _ is = absurd is

-- ---- a text, for the schema that its table has by now

pub text_has_rows : (form : TextForm) (found : Option PlainEntry) (s : PlainSchema) (text : List ℕ) (rows : List (List Cell)) → option_map (λ e. e.schema) found ≡ Some s → rows_of_text form s text ≡ Ok rows → TextHasRows form found text rows
text_has_rows form None s text rows there is = tt
text_has_rows form (Some e) s text rows there is = ap (λ t. rows_of_text form t text) (ap (λ o. unwrap_or o s) there) ∙ is

-- where there is no table the text may have any rows
pub text_unread : (form : TextForm) (found : Option PlainEntry) (text : List ℕ) (rows : List (List Cell)) → found ≡ None → TextHasRows form found text rows
text_unread form None text rows none = tt
text_unread form (Some e) text rows none = absurd (cc none)

pub text_is_refused : (form : TextForm) (found : Option PlainEntry) (s : PlainSchema) (text : List ℕ) (refused : Refused) → option_map (λ e. e.schema) found ≡ Some s → rows_of_text form s text ≡ Err refused
    → (entry : PlainEntry) × (found ≡ Some entry) × (rows_of_text form entry.schema text ≡ Err refused)
text_is_refused form None s text refused there is = absurd (cc there)
text_is_refused form (Some e) s text refused there is = (e, refl, ap (λ t. rows_of_text form t text) (ap (λ o. unwrap_or o s) there) ∙ is)

-- why a text gave no rows
pub text_ends : {D : Type 0} {g : Ghosts D} (size : D → ℕ) (story : D → Story) (failed : D → ℕ) (tells : Bool) (c : PlainCatalogue) (line : ListedCommand) (first : stores.Store D g) (given : List PlainCommand) (new : stores.Store D g)
    (gives : Result (List (List Cell)) Refused) (e : TextError) → Reports (refused_by e) gives → ((refused : Refused) → gives ≡ Err refused → TextIsRefused c line refused) → HasOnlyRead size story failed tells first new
    → EndsLine size story failed tells c line first given (text_refusal e) new
text_ends size story failed tells c line first given new gives (texts.Refused refused) why is only = (is refused why, only)
text_ends size story failed tells c line first given new gives texts.OutOfMemory why is only = only
