-- Those that are lacked so far and of what is left are all of them.
use Rattle.std.proofs.Common.{◌≡◌, ◌++◌, ℕ, List, map, drop}
use Rattle.table_archive.specs.Archive.{lacked_by}
use Rattle.table_archive.specs.Wanted.{Knows}
use Rattle.store.specs.Sending.{Located}
use Rattle.store.specs.inner.Sending.{plain_item}
use Rattle.store.proofs.sending.lacked_items.Given as goal

abbrev pub invariant-loop-item : goal.invariant-loop-item
invariant-loop-item l = record {
  had : List (List ℕ);
  known : Knows l.wanted had;
  left : map plain_item l.lacked.items ++ lacked_by (λ (x : Located). x.digest) had (map plain_item (drop l.item-index l.items))
      ≡ lacked_by (λ (x : Located). x.digest) l.had (map plain_item l.items);
}
