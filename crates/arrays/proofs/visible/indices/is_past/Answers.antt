use Rattle.std.specs.Prelude.{ℤ, pos, negsuc, Some, None, nat_le}
use Rattle.std.proofs.Common.{◌≡◌, ℕ, true, List, length, refl, sym, ◌∙◌}
use Rattle.cells.specs.Cell.{Cell}
use Rattle.columns.specs.CellAt.{named_number}
use Rattle.columns.specs.Visible.{is_past}
use Rattle.arrays.proofs.visible.indices.is_past.Goals as goal

unnamed : (z : ℤ) (cells : List Cell) → None ≡ named_number z → true ≡ is_past z cells
unnamed (pos n) cells is = cc
unnamed (negsuc n) cells is = refl

named : (z : ℤ) (cells : List Cell) (n m : ℕ) → Some n ≡ named_number z → m ≡ length cells → nat_le m n ≡ is_past z cells
named (pos k) cells n m is count = let e : n ≡ k = cc in λ j. nat_le (count j) (e j)
named (negsuc k) cells n m is count = cc

pub returns-in-None : goal.returns-in-None
returns-in-None c = λ z cells is count. unnamed z cells (sym c.in-None.is ∙ is)

pub returns-in-Some : goal.returns-in-Some
returns-in-Some c = λ z cells is count. named z cells c.in-Some.number c.args.entries (sym c.in-Some.is ∙ is) count
