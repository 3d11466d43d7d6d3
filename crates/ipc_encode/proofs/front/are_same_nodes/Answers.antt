use Rattle.std.specs.Bool.{Decides}
use Rattle.std.proofs.Common.{◌≡◌, ◌==◌, ◌&&◌, ℕ}
use Rattle.std.proofs.lemmas.Bool.Decides.{Decides-and, Decides-eqb, Decides-like}
use Rattle.std.proofs.lemmas.Slice.Eq.{slice_eq-Decides}
use Rattle.ipc_encode.proofs.front.are_same_nodes.Goals as goal

same_pair : (a b : ℕ × ℕ) → Decides (a.0 == b.0 && a.1 == b.1) (a ≡ b)
same_pair a b = Decides-like (a.0 == b.0 && a.1 == b.1) (λ both i. (both.0 i, both.1 i)) (λ is. (λ i. (is i).0, λ i. (is i).1)) (Decides-and (a.0 == b.0) (a.1 == b.1) (Decides-eqb a.0 b.0) (Decides-eqb a.1 b.1))

pub returns : goal.returns
returns c = (slice_eq-Decides same_pair c.args.nodes.now c.args.others.now c.eq.result c.eq.ensures).0
