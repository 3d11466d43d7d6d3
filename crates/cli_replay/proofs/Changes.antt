-- Lines that can be parsed, those that change tables, and their commands, one after another.
use Rattle.std.proofs.Common.{◌≡◌, ◌≢◌, ◌<◌, ◌+◌, ◌++◌, ◌∷◌, [], ℕ, zero, suc, Bool, true, false, List, length, take, map, get_or, Option, Some, None, Ok, Err, inl, inr, ap, sym, refl, subst, arith}
use Rattle.std.specs.List.{list_all, AllByRecursion}
use Rattle.std.proofs.lemmas.Bool.{and_parts}
use Rattle.std.proofs.lemmas.List.{take_more, map-append}
use Rattle.cli_commands.specs.declared.applying.ListedCommand.{ListedCommand}
use Rattle.cli_scripts.specs.declared.line.ScriptLine.{ScriptLine}
use Rattle.cli_scripts.specs.Plain.{plain_line, plain_lines}
use Rattle.cli_scripts.specs.Script.{PlainLine, HaveLines}
use Rattle.tables.specs.View.{command_of}
use Rattle.tables.specs.declared.command.Command.{Command}
use Rattle.cli_replay.specs.Listed.{IsTested, IsListedOfLine, AreListedOfLines}
use Rattle.cli_replay.specs.Replay.{AreCommandsOfLines, IsCommandOfLine}

-- ---- what is known of each line

pub tested_lines : (texts : List (Option (List (List ℕ)))) (lines : List PlainLine) → HaveLines texts lines → AllByRecursion IsTested lines
tested_lines [] [] have = tt
tested_lines [] (l ∷ ls) have = absurd have
tested_lines (t ∷ ts) [] have = absurd have
tested_lines (None ∷ ts) (l ∷ ls) have = absurd have.0
tested_lines (Some words ∷ ts) (l ∷ ls) have = (have.0.1, tested_lines ts ls have.1)

-- tested lines of a kind
pub lines_of_kind : (is : PlainLine → Bool) (lines : List PlainLine) → AllByRecursion IsTested lines → list_all is lines ≡ true → AllByRecursion (λ line. IsTested line × (is line ≡ true)) lines
lines_of_kind is [] tested all = tt
lines_of_kind is (l ∷ ls) tested all =
    let parts = and_parts (is l) (list_all is ls) all in
    ((tested.0, parts.0), lines_of_kind is ls tested.1 parts.1)

-- one of them
pub line_at : {A B : Type 0} (plain : A → B) (P : B → Type 0) (lines : List A) (i : ℕ) (line : A) → i < length lines → line ≡ get_or lines i line → AllByRecursion P (map plain lines)
    → P (plain line)
line_at {A} plain P lines i line lt is all = subst (λ (l : A). P (plain l)) (sym is) (at lines i lt all) where
  at : (lines : List A) (i : ℕ) → i < length lines → AllByRecursion P (map plain lines) → P (plain (get_or lines i line))
  at [] i lt all = absurd (omega (arith, lt))
  at (l ∷ ls) zero lt all = all.0
  at (l ∷ ls) (suc i) lt all = at ls i (omega (arith, lt)) all.1

-- ---- their commands

-- one more
pub commands_more : {F : Type 0} (remaining : F → Option (List ℕ)) (lines : List PlainLine) (commands : List Command) (line : PlainLine) (command : Command)
    → AreCommandsOfLines remaining lines commands → IsCommandOfLine remaining line (command_of command)
    → AreCommandsOfLines remaining (lines ++ line ∷ []) (commands ++ command ∷ [])
commands_more remaining [] [] line command are is = (is, tt)
commands_more remaining (l ∷ ls) (c ∷ cs) line command are is = (are.0, commands_more remaining ls cs line command are.1 is)
commands_more remaining [] (c ∷ cs) line command are is = absurd are
commands_more remaining (l ∷ ls) [] line command are is = absurd are

-- one more line of the code, or one more item
pub one_kept : {A B C : Type 0} (plain : A → B) (P : B → C → Type 0) (Are : List B → List C → Type 0)
    (more : (ls : List B) (cs : List C) (l : B) (c : C) → Are ls cs → P l c → Are (ls ++ l ∷ []) (cs ++ c ∷ [])) (lines : List A) (i : ℕ) (line : A) (commands : List C) (command : C) → i < length lines
    → line ≡ get_or lines i line → Are (map plain (take i lines)) commands → P (plain line) command → Are (map plain (take (i + 1) lines)) (commands ++ command ∷ [])
one_kept {A} {B} {C} plain P Are more lines i line commands command lt is before here =
    subst (λ (ls : List A). Are (map plain ls) (commands ++ command ∷ [])) (sym (take_more lines i line lt))
    (subst (λ (ps : List B). Are ps (commands ++ command ∷ [])) (sym (map-append plain (take i lines) (get_or lines i line ∷ [])))
    (more (map plain (take i lines)) commands (plain (get_or lines i line)) command before (subst (λ (l : A). P (plain l) command) is here)))

pub commands_kept : {F : Type 0} (remaining : F → Option (List ℕ)) (lines : List ScriptLine) (i : ℕ) (line : ScriptLine) (commands : List Command) (command : Command) → i < length lines
    → line ≡ get_or lines i line → AreCommandsOfLines remaining (plain_lines (take i lines)) commands → IsCommandOfLine remaining (plain_line line) (command_of command)
    → AreCommandsOfLines remaining (plain_lines (take (i + 1) lines)) (commands ++ command ∷ [])
commands_kept remaining lines i line commands command lt is before here =
    one_kept plain_line (λ (l : PlainLine) (c : Command). IsCommandOfLine remaining l (command_of c)) (AreCommandsOfLines remaining) (commands_more remaining) lines i line commands command lt is before here

-- ---- their commands, as far as they are known before the tables are

listed_more : {F : Type 0} (remaining : F → Option (List ℕ)) (lines : List PlainLine) (commands : List ListedCommand) (line : PlainLine) (command : ListedCommand)
    → AreListedOfLines remaining lines commands → IsListedOfLine remaining line command → AreListedOfLines remaining (lines ++ line ∷ []) (commands ++ command ∷ [])
listed_more remaining [] [] line command are is = (is, tt)
listed_more remaining (l ∷ ls) (c ∷ cs) line command are is = (are.0, listed_more remaining ls cs line command are.1 is)
listed_more remaining [] (c ∷ cs) line command are is = absurd are
listed_more remaining (l ∷ ls) [] line command are is = absurd are

pub listed_kept : {F : Type 0} (remaining : F → Option (List ℕ)) (lines : List ScriptLine) (i : ℕ) (line : ScriptLine) (commands : List ListedCommand) (command : ListedCommand) → i < length lines
    → line ≡ get_or lines i line → AreListedOfLines remaining (plain_lines (take i lines)) commands → IsListedOfLine remaining (plain_line line) command
    → AreListedOfLines remaining (plain_lines (take (i + 1) lines)) (commands ++ command ∷ [])
listed_kept remaining lines i line commands command lt is before here =
    one_kept plain_line (IsListedOfLine remaining) (AreListedOfLines remaining) (listed_more remaining) lines i line commands command lt is before here
