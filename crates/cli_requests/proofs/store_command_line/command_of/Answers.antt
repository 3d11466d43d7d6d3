use Rattle.std.specs.Prelude.{codes}
use Rattle.cli_requests.proofs.WordLemmas.{other_word, last_word}
use Rattle.cli_requests.proofs.store_command_line.command_of.Goals as goal

pub returns-in_default-clause-word : goal.returns-in_default-clause-word
returns-in_default-clause-word c = λ is own.
    let word = c.args.command.now in
    let other = c.in_default in
    last_word word is own (other_word (codes "import") word other.not-import) (other_word (codes "append") word other.not-append) (other_word (codes "create") word other.not-create)
    (other_word (codes "rename") word other.not-rename) (other_word (codes "drop") word other.not-drop) (other_word (codes "schema") word other.not-schema)
    (other_word (codes "export") word other.not-export) (other_word (codes "query") word other.not-query) (other_word (codes "check") word other.not-check)
    (other_word (codes "info") word other.not-info)
    (other_word (codes "compact") word other.not-compact) (other_word (codes "upgrade") word other.not-upgrade) (other_word (codes "have") word other.not-have)
