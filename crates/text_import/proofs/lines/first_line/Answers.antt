use Rattle.std.proofs.Common.{◌≡◌, ◌∙◌, ◌+◌, ◌∷◌, ℕ, List, take, ap, sym, arith, get_or}
use Rattle.std.proofs.lemmas.Bool.{eqb-true}
use Rattle.std.specs.List.{slice_split}
use Rattle.std.specs.Prelude.{◌==◌}
use Rattle.text_import.specs.laws.Lines.{first_of_lines, only_line, to_the_end}
use Rattle.text_import.proofs.lines.first_line.Goals as goal

pub returns-in-Some-clause-line : goal.returns-in-Some-clause-line
returns-in-Some-clause-line c =
    let t = c.args.text.now in
    let end = c.in-Some.end in
    let found = c.in-Some.ensures in
    let byte : get_or t end 0 ≡ 10 = eqb-true (get_or t end 0) 10 found.1 in
    first_of_lines t end found.0.high (λ k lt is. found.0.before k (omega arith) lt is) byte
    ∙ ap (λ (xs : List ℕ). take end t ∷ slice_split (λ b. b == 10) xs) (sym (to_the_end t (end + 1)))

pub returns-in-None-clause-line : goal.returns-in-None-clause-line
returns-in-None-clause-line c = only_line c.args.text.now (λ k lt is. c.in-None.ensures k (omega arith) lt is)
