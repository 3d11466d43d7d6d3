-- The words of a script, and why it is not replayed.
use Rattle.std.proofs.Common.{◌≡◌, ℕ, true, List, Option, String, map, sym, subst}
use Rattle.std.specs.Global.{Global, Vec}
use Rattle.commit.specs.Standing.{is_size}
use Rattle.cli_reports.specs.declared.refusal.Refusal.{Refusal}
use Rattle.cli_reports.specs.declared.refusal.Refusal.TheVariants.{BadScript, OutOfMemory}
use Rattle.cli_scripts.specs.Plain.{plain_words}
use Rattle.cli_scripts.specs.Words.{HaveWords, lines_of}
use Rattle.cli_replay.specs.Replay.{IsOfFile, RefusesScript, RefusesReplay}

-- the words that were read are those of the script, as they are parsed
pub have_words : (script bytes : List ℕ) (words slice : List (Option (Vec (String Global)))) → bytes ≡ script → slice ≡ words → HaveWords (lines_of bytes) (map plain_words words)
    → HaveWords (lines_of script) (map plain_words slice)
have_words script bytes words slice of_script of_words have =
    subst (λ (ws : List (Option (Vec (String Global)))). HaveWords (lines_of script) (map plain_words ws)) (sym of_words)
    (subst (λ (bs : List ℕ). HaveWords (lines_of bs) (map plain_words words)) of_script have)

pub script_refused : {F : Type 0} (remaining : F → Option (List ℕ)) (sectors : ℕ) (script : List ℕ) (r : Refusal) → is_size sectors ≡ true → IsOfFile remaining script
    → RefusesScript script r → RefusesReplay remaining sectors r
script_refused remaining sectors script (BadScript number) within of_file is = (within, (script, of_file, is))
script_refused remaining sectors script OutOfMemory within of_file is = tt
script_refused remaining sectors script _ within of_file is = absurd is
