use Rattle.std.proofs.Common.{◌≡◌, ◌+◌, ◌≤◌, length, drop}
use Rattle.std.specs.Prelude.{sum_by, nat_lt}
use Rattle.facts.specs.Texts.{text_list}
use Rattle.ipc_message.proofs.texts.are_longer.Given as goal

abbrev pub invariant-loop-text : goal.invariant-loop-text
invariant-loop-text l = record {
  all : nat_lt l.limit (l.total + sum_by length (text_list (drop l.text-index l.texts))) ≡ nat_lt l.limit (sum_by length (text_list l.texts));
  within : l.total ≤ l.limit;
}
