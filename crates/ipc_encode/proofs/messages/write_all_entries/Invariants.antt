use Rattle.std.specs.List.{AllByRecursion}
use Rattle.std.specs.Vec.Iter.{into_iter_items}
use Rattle.std.proofs.Common.{◌≡◌, ◌+◌, ◌++◌, length, map}
use Rattle.batch_build.specs.Batch.{dictionary_in}
use Rattle.ipc_encode.specs.inner.Messages.{HasFew, built_messages}
use Rattle.ipc_encode.specs.inner.Stream.{stream_in}
use Rattle.ipc_encode.proofs.messages.write_all_entries.Given as goal

abbrev pub invariant-loop-dictionary : goal.invariant-loop-dictionary
invariant-loop-dictionary l =
    let left = into_iter_items l.dictionary-iterator in
    record {
      next : goal.iterator-loop-dictionary.can_next l.dictionary-iterator;
      ends : goal.iterator-loop-dictionary.is_finite l.dictionary-iterator;
      count : l.id + length left ≡ length l.fn.dictionaries.items;
      few : AllByRecursion HasFew (map dictionary_in left);
      written : stream_in l.stream ++ built_messages l.id (map dictionary_in left) ≡ stream_in l.fn.stream ++ built_messages 0 (map dictionary_in l.fn.dictionaries.items);
    }
