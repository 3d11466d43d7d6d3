use Rattle.std.proofs.Common.{◌≡◌, ◌∙◌, ◌+◌, ◌<◌, ap, arith, drop, get_or, length, sym}
use Rattle.std.specs.List.{prefix_len}
use Rattle.json.specs.Token as tokens
use Rattle.json.specs.Lex.{between, lex, token}
use Rattle.std.proofs.Common.{◌∷◌}
use Rattle.text_columns.specs.inner.Lexemes.{is_plain}
use Rattle.text_columns.proofs.LexemeGrammar.{string_lexeme}
use Rattle.text_columns.proofs.lexemes.string_at.Goals as goal

pub returns : goal.returns
returns c =
    let d = c.args.line.now in
    let from = c.args.from in
    let stop = c.plain_end-stop.result in
    let same = c.as_bytes-bytes.ensures.value in
    let is : stop ≡ from + 1 + prefix_len is_plain (drop (from + 1) d) = rw (← same) c.plain_end-stop.ensures.value in
    let within : stop < length d = omega (arith, c.if-stop-bytes.false, c.plain_end-stop.ensures.high, ap length same) in
    let closes : get_or d stop 0 ≡ 34 = ap (λ xs. get_or xs stop 0) (sym same) ∙ c.if-bytes-stop-ne34.false in
    let text = c.in_ok-text.ensures.cases.0 in
    record {
      low = omega (arith, is);
      high = omega arith;
      first = string_lexeme d from stop c.requires.within c.requires.quote is within closes ∙ ap (λ xs. token (tokens.string xs) ∷ lex between (drop (stop + 1) d)) (sym text);
    }
