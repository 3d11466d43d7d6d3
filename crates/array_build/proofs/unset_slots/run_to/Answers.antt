use Rattle.std.proofs.Common.{◌∙◌, true, false, sym}
use Rattle.bitmap.specs.Bits.{bit}
use Rattle.array_build.proofs.Unset.{later}
use Rattle.array_build.proofs.unset_slots.run_to.Goals as goal

pub returns-then-get-clause-begins : goal.returns-then-get-clause-begins
returns-then-get-clause-begins c =
    later (bit c.args.bits.now) true c.args.from c.next_unset.result c.args.to c.next_unset.ensures.begins c.requires.some (sym c.get.ensures ∙ c.if-get.true) c.next_unset.ensures.longest

pub returns-then-get-clause-alike : goal.returns-then-get-clause-alike
returns-then-get-clause-alike c = λ i low high. c.next_unset.ensures.alike i low high ∙ sym (sym c.get.ensures ∙ c.if-get.true)

pub returns-else-get-clause-begins : goal.returns-else-get-clause-begins
returns-else-get-clause-begins c =
    later (bit c.args.bits.now) false c.args.from c.alike_end.result c.args.to c.alike_end.ensures.begins c.requires.some (sym c.get.ensures ∙ c.if-get.false) c.alike_end.ensures.longest

pub returns-else-get-clause-alike : goal.returns-else-get-clause-alike
returns-else-get-clause-alike c = λ i low high. c.alike_end.ensures.alike i low high ∙ sym (sym c.get.ensures ∙ c.if-get.false)
