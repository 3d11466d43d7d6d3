use Rattle.std.proofs.Common.{◌≡◌, ◌∷◌, [], ◌++◌, map, ap, slice_index, ◌∙◌, arith}
use Rattle.std.proofs.lemmas.Result.{err_from_is_err_and}
use Rattle.std.proofs.lemmas.List.{map_push}
use Rattle.arrow_schema.specs.Column.{Pair}
use Rattle.flatbuf.specs.Seen.{tables_in, bytes_behind, places_in, levels_behind}
use Rattle.ipc_message.specs.Header.{pair_things, pair_at}
use Rattle.ipc_message.specs.View.{key_value}
use Rattle.ipc_message.proofs.ElementLemmas.{element_err, element_ok, element_read, all_done}
use Rattle.ipc_message.proofs.read_fields.pairs_behind.Goals as goal

pub returns-in_err-pair-clause-walked : goal.returns-in_err-pair-clause-walked
returns-in_err-pair-clause-walked c =
    let p = err_from_is_err_and c.from_residual.result c.from_residual.ensures.1 in
    let bytes = bytes_behind c.args.pairs.now in
    rw (p.1, p.2) (element_err (pair_things (levels_behind c.args.pairs.now) bytes) bytes (places_in c.args.pairs.now) c.loop-i.i (tables_in c.loop-i.budget) _ _ (omega arith) c.loop-i.invariant.walked c.in_err-pair.ensures.walked)

pub loop-i-preserved : goal.loop-i-preserved
loop-i-preserved c =
    let bytes = bytes_behind c.args.pairs.now in
    let places = places_in c.args.pairs.now in
    record {
      walked = element_ok (pair_things (levels_behind c.args.pairs.now) bytes) bytes places c.loop-i.i (tables_in c.loop-i.budget) (tables_in c.pair_behind.new.budget) _ (omega arith) c.loop-i.invariant.walked c.in_ok-pair.ensures.walked;
      value =
          let pushed : map key_value c.push.new.self.items ≡ map key_value c.loop-i.found.items ++ pair_at bytes (slice_index places c.loop-i.i) ∷ []
          = rw c.in_ok-push.ensures.items (map_push key_value c.loop-i.found.items c.in_ok-pair.pair ∙ ap (λ (p : Pair). map key_value c.loop-i.found.items ++ p ∷ []) c.in_ok-pair.ensures.value) in
          rw pushed (element_read (pair_at bytes) places c.loop-i.i (map key_value c.loop-i.found.items) _ (omega arith) c.loop-i.invariant.value);
    }

pub returns-clause-walked : goal.returns-clause-walked
returns-clause-walked c =
    let bytes = bytes_behind c.args.pairs.now in
    all_done (pair_things (levels_behind c.args.pairs.now) bytes) bytes (places_in c.args.pairs.now) c.loop-i.i (tables_in c.loop-i.budget) _ (omega arith) c.loop-i.invariant.walked
