use Rattle.std.proofs.Common.{◌≡◌, ◌∙◌, false, codes, refl, sym}
use Rattle.cli_requests.specs.StoreWords.{changes_word, changes_by_input_word}
use Rattle.cli_requests.proofs.WordLemmas.{other_word}
use Rattle.cli_requests.proofs.store_words.changes_word.Goals as goal

pub returns-in_default : goal.returns-in_default
unfolding changes_word
returns-in_default c =
    let word = c.args.word.now in
    let other = c.in_default in
    let input : changes_by_input_word word ≡ false = sym c.changes_by_input_word.ensures ∙ c.if-changes_by_input_word.false in
    let create = other_word (codes "create") word other.not-create in
    let rename = other_word (codes "rename") word other.not-rename in
    let drops = other_word (codes "drop") word other.not-drop in
    let compact = other_word (codes "compact") word other.not-compact in
    let upgrade = other_word (codes "upgrade") word other.not-upgrade in
    rw (input, create, rename, drops, compact, upgrade) refl
