use Rattle.std.proofs.Common.{◌≡◌, ◌∙◌, ◌+◌, ◌-◌, ap, arith, drop, length, refl, rules, sym, take}
use Rattle.text_columns.proofs.LexemeGrammar.{literal_here, literal_is_scalar}
use Rattle.text_columns.proofs.lexemes.literal_at.Goals as goal

pub returns-clause-scalar : goal.returns-clause-scalar
returns-clause-scalar c = literal_is_scalar _ (omega (arith, c.requires.literal.1, ap length c.requires.literal.0))

pub returns-clause-lexeme : goal.returns-clause-lexeme
returns-clause-lexeme c =
    let d = c.args.line.now in
    let name = c.args.name.now in
    let end = c.args.from + length name in
    let same : take (end - c.args.from) (drop c.args.from d) ≡ name = first_of (search rules, grind (arith, c.ne.ensures, c.if-ne.ensures)) in
    literal_here d name c.args.from end _ c.requires.literal refl (omega (arith, c.requires.within, c.if-line-from.false)) same (sym c.ends_word.ensures ∙ c.if-not-ends_word.false)
