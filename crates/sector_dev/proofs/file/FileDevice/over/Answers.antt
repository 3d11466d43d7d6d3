use Rattle.std.proofs.Common.{◌≡◌, ℕ, List, [], ap, subst, sym, length, arith}
use Rattle.sector_dev.specs.Disk.{AreContents, now}
use Rattle.sector_dev.proofs.BufferedStory.{buffered_none, reads_none}
use Rattle.sector_dev.proofs.file.FileDevice.over.Goals as goal

length_none : (xs : List (List ℕ)) → xs ≡ [] → length xs ≡ 0
length_none xs none = ap length none

pub returns-clause-story : goal.returns-clause-story
returns-clause-story g c = buffered_none c.empty.result (g.F.SectorFile.story c.args.file) c.empty.ensures.items

pub invariant_of-result : goal.invariant_of-result
invariant_of-result g c = record {
  within = let none = c.empty.ensures.items in let start = c.empty.ensures.start in let len = length_none c.empty.result.contents.items none in omega (arith, start, len);
  contents = subst AreContents (sym c.empty.ensures.items) tt;
  sound = λ _. c.requires;
  reads = λ _ _. reads_none (now (g.F.SectorFile.story c.args.file)) c.empty-2.result.start c.empty-2.result.contents.items c.empty-2.ensures.items;
}
