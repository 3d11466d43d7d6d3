use Rattle.std.proofs.Common.{map}
use Rattle.std.proofs.lemmas.List.{length-map}
use Rattle.ipc_message.specs.View.{key_value}
use Rattle.ipc_message.proofs.Compared.{same_pairs_short}
use Rattle.ipc_message.proofs.same.have_same_pairs.Goals as goal

pub returns-then-one-other : goal.returns-then-one-other
returns-then-one-other c =
    same_pairs_short (map key_value c.args.one.now) (map key_value c.args.other.now) (λ e. c.if-one-other.true (simp length-map at e))
