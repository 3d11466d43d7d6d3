use Rattle.std.proofs.Common.{◌∷◌, ◌∙◌, ap, drop, sym}
use Rattle.json.specs.Token as tokens
use Rattle.json.specs.Lex.{between, lex, token}
use Rattle.text_columns.proofs.lexemes.integer_at.Goals as goal

pub returns : goal.returns
returns c =
    let d = c.args.line.now in
    let end = c.in_ok-end.end in
    let found = rw c.as_bytes.ensures.value at c.in_ok-end.ensures in
    record {
      low = found.low;
      high = found.high;
      first = found.first ∙ ap (λ xs. token (tokens.number xs) ∷ lex between (drop end d)) (sym c.in_ok-text.ensures.cases.0);
    }
