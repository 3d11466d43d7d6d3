use Rattle.std.proofs.Common.{◌≡◌, ◌++◌, List, [], ℕ, Bor, drop, string_bytes, length, ap, arith}
use Rattle.std.specs.Prelude.{codes, flat_map}
use Rattle.std.proofs.lemmas.List.{drop_all, length-map}
use Rattle.cli_commands.specs.Printed.{summary_numbers, number_member, truth, kind_name}
use Rattle.cli_commands.proofs.OutputLemmas.{five_more}
use Rattle.cli_commands.proofs.summing.object_of.Goals as goal

pub returns : goal.returns
returns c =
    let numbers = c.numbers_of-name-items.result in
    let named = c.numbers_of-name-items.ensures in
    let count = length-map {B = List ℕ × ℕ} numbers (λ (n : Bor (List ℕ) × ℕ). (n.0.now, n.1)) in
    let none : drop c.loop-name.name-index numbers ≡ [] = drop_all c.loop-name.name-index numbers (omega (arith, count, ap length named, c.loop-name-test.false)) in
    five_more (string_bytes c.loop-name.text) _ (codes "{" ++ flat_map number_member (summary_numbers c.args.s.now)) (codes "\"commits_agree\":") (truth c.args.agree) (codes ",\"device\":\"")
    (kind_name c.args.kind) (codes "\"}\n") (rw (none, named, c.in_ok-push_str.ensures.bytes, c.new-text.ensures.bytes) at c.loop-name.invariant)
    c.in_ok-write-2.ensures.bytes
