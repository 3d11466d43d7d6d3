use Rattle.std.specs.Prelude.{Some, option_map}
use Rattle.std.proofs.Common.{◌≡◌, ◌∙◌, ◌+◌, ◌*◌, ◌-◌, min, sym, ap, get_or, drop, [], arith}
use Rattle.std.proofs.lemmas.List.{drop_all}
use Rattle.text_import.specs.inner.Capped.{capped, number_behind, too_large}
use Rattle.text_import.proofs.NumberLemmas.{digit_none_at, digit_more_at, digit_room, digit_small, digits_end}
use Rattle.text_import.specs.laws.Digits.{digit_below}
use Rattle.text_import.proofs.flat.short_digits.Goals as goal

pub returns-then-not-is_ascii_digit : goal.returns-then-not-is_ascii_digit
returns-then-not-is_ascii_digit c =
    let none = digit_none_at c.args.text.now c.loop-byte.number c.loop-byte.byte-index c.loop-byte-test.true (sym c.is_ascii_digit.ensures.value ∙ c.if-not-is_ascii_digit.true) in
    sym (sym c.loop-byte.invariant.rest ∙ none)

pub overflow_mul-number : goal.overflow_mul-number
overflow_mul-number c = omega (arith, digit_room c.args.text.now c.loop-byte.number c.loop-byte.byte-index c.loop-byte.invariant.small c.loop-byte-test.true c.requires)

pub overflow_add-number : goal.overflow_add-number
overflow_add-number c =
    let room = digit_room c.args.text.now c.loop-byte.number c.loop-byte.byte-index c.loop-byte.invariant.small c.loop-byte-test.true c.requires in
    let below = digit_below (get_or c.args.text.now c.loop-byte.byte-index 0) (sym c.is_ascii_digit.ensures.value ∙ c.if-not-is_ascii_digit.false) in
    omega (arith, room, below, c.from.ensures)

pub loop-byte-preserved : goal.loop-byte-preserved
loop-byte-preserved c =
    let is = sym c.is_ascii_digit.ensures.value ∙ c.if-not-is_ascii_digit.false in
    let room = digit_room c.args.text.now c.loop-byte.number c.loop-byte.byte-index c.loop-byte.invariant.small c.loop-byte-test.true c.requires in
    let below = digit_below (get_or c.args.text.now c.loop-byte.byte-index 0) is in
    let more = digit_more_at c.args.text.now c.loop-byte.number c.loop-byte.byte-index c.loop-byte-test.true is in
    let kept : c.loop-byte.number * 10 + c.from.result ≡ min (c.loop-byte.number * 10 + (get_or c.args.text.now c.loop-byte.byte-index 0 - 48)) too_large =
    omega (arith, room, below, c.from.ensures) in
    record {
      rest = ap (λ n. option_map capped (number_behind n (drop (c.loop-byte.byte-index + 1) c.args.text.now))) kept ∙ (sym more ∙ c.loop-byte.invariant.rest);
      small = rw c.from.ensures (digit_small c.args.text.now c.loop-byte.number c.loop-byte.byte-index c.loop-byte.invariant.small is);
    }

pub returns : goal.returns
returns c =
    let none : drop c.loop-byte.byte-index c.args.text.now ≡ [] = drop_all c.loop-byte.byte-index c.args.text.now c.loop-byte-test.false in
    let rest = rw none at c.loop-byte.invariant.rest in
    let end = digits_end c.loop-byte.number (omega arith) in
    ap Some c.from-2.ensures ∙ (sym end ∙ rest)
