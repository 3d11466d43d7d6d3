use Rattle.std.proofs.Common.{◌∙◌, arith, sym}
use Rattle.text_columns.proofs.LexemeGrammar.{number_at}
use Rattle.text_columns.proofs.lexemes.integer_end.Goals as goal

pub returns : goal.returns
returns c =
    let digits = c.digits_end-end.ensures in
    record {
      low = omega (arith, digits.value, c.first_digit-first.ensures.low, c.if-end-first.false);
      high = digits.high;
      first = number_at c.args.line.now c.args.from c.first_digit-first.result c.digits_end-end.result c.requires c.first_digit-first.ensures.rest digits.value c.if-end-first.false digits.high
          (sym c.ends_word.ensures ∙ c.if-not-ends_word.false) (c.has_leading_zero.ensures c.if-has_leading_zero.false);
    }
