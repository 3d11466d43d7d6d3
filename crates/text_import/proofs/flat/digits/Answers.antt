use Rattle.std.proofs.Common.{◌≡◌, ◌∙◌, ◌+◌, ◌*◌, ◌-◌, sym, ap, min, get_or, drop, [], arith}
use Rattle.std.proofs.lemmas.List.{drop_all}
use Rattle.std.specs.Prelude.{option_map}
use Rattle.text_import.specs.inner.Capped.{capped, too_large}
use Rattle.text_import.proofs.NumberLemmas.{digits_of_some, digit_none_at, digit_more_at, digits_end}
use Rattle.text_import.proofs.flat.digits.Goals as goal

pub returns-then-not-is_ascii_digit : goal.returns-then-not-is_ascii_digit
returns-then-not-is_ascii_digit c =
    let first = ap (option_map capped) (digits_of_some c.args.text.now (sym c.is_empty.ensures ∙ c.if-is_empty.false)) in
    let none = digit_none_at c.args.text.now c.loop-byte.number c.loop-byte.byte-index c.loop-byte-test.true (sym c.is_ascii_digit.ensures.value ∙ c.if-not-is_ascii_digit.true) in
    sym (first ∙ sym c.loop-byte.invariant.rest ∙ none)

pub returns-then-text-le-SHORT : goal.returns-then-text-le-SHORT
returns-then-text-le-SHORT c = c.short_digits.ensures ∙ sym (ap (option_map capped) (digits_of_some c.args.text.now (sym c.is_empty.ensures ∙ c.if-is_empty.false)))

pub loop-byte-preserved : goal.loop-byte-preserved
loop-byte-preserved c =
    let more = digit_more_at c.args.text.now c.loop-byte.number c.loop-byte.byte-index c.loop-byte-test.true (sym c.is_ascii_digit.ensures.value ∙ c.if-not-is_ascii_digit.false) in
    let kept : c.min-number.result ≡ min (c.loop-byte.number * 10 + (get_or c.args.text.now c.loop-byte.byte-index 0 - 48)) too_large =
    c.min-number.ensures ∙ ap (λ d. min (c.loop-byte.number * 10 + d) too_large) c.from.ensures in
    record { rest = rw kept (sym more ∙ c.loop-byte.invariant.rest); within = rw kept (omega arith) }

pub returns : goal.returns
returns c =
    let first = ap (option_map capped) (digits_of_some c.args.text.now (sym c.is_empty.ensures ∙ c.if-is_empty.false)) in
    let none : drop c.loop-byte.byte-index c.args.text.now ≡ [] = drop_all c.loop-byte.byte-index c.args.text.now c.loop-byte-test.false in
    sym (first ∙ sym (rw none at c.loop-byte.invariant.rest) ∙ digits_end c.loop-byte.number c.loop-byte.invariant.within)
