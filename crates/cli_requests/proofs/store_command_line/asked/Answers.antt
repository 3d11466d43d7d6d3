use Rattle.std.specs.Prelude.{codes}
use Rattle.clap.specs.Words.{found_of}
use Rattle.cli_requests.proofs.RightLemmas.{takable_format, takable_copy}
use Rattle.cli_requests.proofs.WordLemmas.{other_word, no_own_request}
use Rattle.cli_requests.proofs.store_command_line.asked.Goals as goal

pub returns-in_default-clause-word : goal.returns-in_default-clause-word
returns-in_default-clause-word c = λ is.
    let word = c.args.command.now in
    let other = c.in_default in
    c.command_request.ensures.word is
    (no_own_request word (other_word (codes "format") word other.not-format) (other_word (codes "copy") word other.not-copy) (other_word (codes "salvage") word other.not-salvage) (other_word (codes "replay") word other.not-replay)
    (other_word (codes "apply") word other.not-apply) (other_word (codes "send") word other.not-send)
    (other_word (codes "receive") word other.not-receive))

pub returns-in-format-clause-taken : goal.returns-in-format-clause-taken
returns-in-format-clause-taken c = takable_format _ (found_of c.args.words.now) _ c.in-format.is c.format_request.ensures.taken

pub returns-in-copy-clause-taken : goal.returns-in-copy-clause-taken
returns-in-copy-clause-taken c = takable_copy _ (found_of c.args.words.now) _ c.in-copy.is c.copy_request.ensures.taken
