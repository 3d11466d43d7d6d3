use Rattle.std.proofs.Common.{codes, refl}
use Rattle.cli_requests.specs.StoreWords.{reads_tables_word}
use Rattle.cli_requests.proofs.WordLemmas.{other_word}
use Rattle.cli_requests.proofs.store_words.reads_tables_word.Goals as goal

pub returns-in_default : goal.returns-in_default
unfolding reads_tables_word
returns-in_default c =
    let word = c.args.word.now in
    let other = c.in_default in
    let tables = other_word (codes "tables") word other.not-tables in
    let check = other_word (codes "check") word other.not-check in
    let info = other_word (codes "info") word other.not-info in
    let have = other_word (codes "have") word other.not-have in
    let send = other_word (codes "send") word other.not-send in
    rw (tables, check, info, have, send) refl
