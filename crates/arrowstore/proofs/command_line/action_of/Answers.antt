use Rattle.std.proofs.Common.{◌∙◌, sym, true≢false}
use Rattle.arrowstore.proofs.WordLemmas.{recode_has_no_extra_words}
use Rattle.arrowstore.proofs.command_line.action_of.Goals as goal

pub action_of_few-requires : goal.action_of_few-requires
action_of_few-requires g c = sym c.have_extra_words.ensures ∙ c.if-have_extra_words.false

-- `recode` is neither `help` nor a word that asks for the version
pub returns-then-have_extra_words-clause-understood : goal.returns-then-have_extra_words-clause-understood
returns-then-have_extra_words-clause-understood g c = λ are.
    let more = sym c.have_extra_words.ensures ∙ c.if-have_extra_words.true in
    absurd (true≢false (sym more ∙ recode_has_no_extra_words _ are))
