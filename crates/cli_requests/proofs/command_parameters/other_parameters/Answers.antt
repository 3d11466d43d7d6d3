use Rattle.std.proofs.Common.{refl, codes}
use Rattle.cli_requests.specs.Apps.{other_parameters}
use Rattle.cli_requests.proofs.WordLemmas.{other_word}
use Rattle.cli_requests.proofs.command_parameters.other_parameters.Goals as goal

pub returns-in_default : goal.returns-in_default
unfolding other_parameters
returns-in_default c =
    let word = c.args.word.now in
    let other = c.in_default in
    let format = other_word (codes "format") word other.not-format in
    let copy = other_word (codes "copy") word other.not-copy in
    let create = other_word (codes "create") word other.not-create in
    let append = other_word (codes "append") word other.not-append in
    let replay = other_word (codes "replay") word other.not-replay in
    let info = other_word (codes "info") word other.not-info in
    let import = other_word (codes "import") word other.not-import in
    let schema = other_word (codes "schema") word other.not-schema in
    let apply = other_word (codes "apply") word other.not-apply in
    let compact = other_word (codes "compact") word other.not-compact in
    let send = other_word (codes "send") word other.not-send in
    let receive = other_word (codes "receive") word other.not-receive in
    rw (format, copy, create, append, replay, info, import, schema, apply, compact, send, receive) refl
