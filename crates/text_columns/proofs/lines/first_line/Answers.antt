use Rattle.std.proofs.Common.{◌≡◌, ◌∙◌, ◌-◌, ap, arith, get_or, sym}
use Rattle.std.proofs.lemmas.Bool.{eqb-true}
use Rattle.std.proofs.lemmas.Str.{IsCharBoundary-after_ascii}
use Rattle.std.specs.List.{slice_split}
use Rattle.std.specs.Prelude.{◌==◌, ◌∷◌, take}
use Rattle.text_import.specs.laws.Lines.{first_of_lines, only_line}
use Rattle.text_columns.proofs.lines.first_line.Goals as goal

pub range_from-requires : goal.range_from-requires
range_from-requires c some =
    let d = c.args.text.now in
    let same = c.as_bytes.ensures.value in
    let found = rw same at c.in-Some.ensures in
    let byte : get_or d c.in-Some.end 0 ≡ 10 = eqb-true (get_or d c.in-Some.end 0) 10 found.1 in
    IsCharBoundary-after_ascii d c.in-Some.end c.utf8.text found.0.high (omega (arith, byte))

pub returns-in-Some-clause-line : goal.returns-in-Some-clause-line
returns-in-Some-clause-line c =
    let d = c.args.text.now in
    let end = c.in-Some.end in
    let same = c.as_bytes.ensures.value in
    let found = rw same at c.in-Some.ensures in
    let byte : get_or d end 0 ≡ 10 = eqb-true (get_or d end 0) 10 found.1 in
    let size : end - 0 ≡ end = omega arith in
    let text : c.range.result.now ≡ take end d = c.range.ensures.value ∙ ap (λ k. take k d) size in
    first_of_lines d end found.0.high (λ k lt is. found.0.before k (omega arith) lt is) byte
    ∙ (λ i. sym text i ∷ slice_split (λ b. b == 10) (sym c.range_from.ensures.value i))

pub returns-in-None-clause-line : goal.returns-in-None-clause-line
returns-in-None-clause-line c =
    let none = rw c.as_bytes.ensures.value at c.in-None.ensures in
    only_line c.args.text.now (λ k lt is. none k (omega arith) lt is)
