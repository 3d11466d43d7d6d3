use Rattle.std.proofs.Common.{◌≡◌, ◌∷◌, [], ◌++◌, map, ap, sym, slice_index, ◌∙◌, ◌-◌, arith}
use Rattle.std.proofs.lemmas.Result.{err_from_is_err_and}
use Rattle.std.proofs.lemmas.List.{map_push}
use Rattle.flatbuf.specs.Lookup.{elements}
use Rattle.flatbuf.specs.Seen.{tables_in, bytes_of, levels_of, slot_of, bytes_behind, places_in, levels_behind}
use Rattle.flatbuf.specs.laws.Walk.{run_err}
use Rattle.ipc_message.specs.declared.raw_header.RawField.TheFolds.{fold-roll-RawField}
use Rattle.ipc_message.specs.declared.walk_error.WalkError.TheVariants as errors
use Rattle.ipc_message.specs.Raw as raw
use Rattle.ipc_message.specs.Header.{supported_codes, field_things, field_at}
use Rattle.ipc_message.specs.View.{raw_field_of, raw_field_step}
use Rattle.ipc_message.proofs.ElementLemmas.{element_fails, element_ok, element_read, all_done}
use Rattle.ipc_message.proofs.FieldLemmas.{fails_first, fails_then, ok_then, table_bad, field_fails, field_ok, field_read, fails_there, runs_there, read_there, children_fail, children_run, children_read}
use Rattle.ipc_message.proofs.read_fields.+walk.Goals as goal

pub field_behind-returns-in_err-table-clause-walked : goal.field_behind-returns-in_err-table-clause-walked
field_behind-returns-in_err-table-clause-walked t c =
    let p = err_from_is_err_and c.from_residual.result c.from_residual.ensures.1 in
    rw (p.1, p.2) (table_bad (bytes_behind c.args.fields.now) (levels_behind c.args.fields.now) _ (tables_in c.args.budget.now) _ c.in_err-table.ensures.walked)

pub field_behind-returns-in_err-field_table-clause-walked : goal.field_behind-returns-in_err-field_table-clause-walked
field_behind-returns-in_err-field_table-clause-walked t c =
    let p = err_from_is_err_and c.from_residual-in_err-field_table.result c.from_residual-in_err-field_table.ensures.1 in
    let bytes = bytes_behind c.args.fields.now in
    let left = levels_behind c.args.fields.now in
    let k = tables_in c.table.new.budget in
    let entered = c.in_ok-table.ensures in
    let there = bytes_of c.in_ok-table.table in
    rw (p.1, p.2) (field_fails (errors.Flat _) bytes left _ (tables_in c.args.budget.now) k (omega arith) entered.walked
    (fails_there (errors.Flat _) bytes _ (left - 1) _ k _ _ entered.same entered.levels entered.here
    (run_err there _ _ k _ (run_err there _ _ k _ c.in_err-field_table.ensures.walked))))

pub field_behind-returns-in_err-children-clause-walked : goal.field_behind-returns-in_err-children-clause-walked
field_behind-returns-in_err-children-clause-walked t c =
    let p = err_from_is_err_and c.from_residual-in_err-children.result c.from_residual-in_err-children.ensures.1 in
    let bytes = bytes_behind c.args.fields.now in
    let left = levels_behind c.args.fields.now in
    let k = tables_in c.table.new.budget in
    let m = tables_in c.read_field_table.new.budget in
    let entered = c.in_ok-table.ensures in
    let own = c.in_ok-field_table.ensures in
    let there = bytes_of c.in_ok-table.table in
    rw (p.1, p.2) (field_fails _ bytes left _ (tables_in c.args.budget.now) k (omega arith) entered.walked
    (fails_there _ bytes _ (left - 1) _ k _ _ entered.same entered.levels entered.here
    (fails_first _ there _ _ k (fails_then _ there _ _ k m own.walked
    (children_fail _ there _ (levels_of c.in_ok-table.table) _ m _ _ own.same own.levels own.children c.in_err-children.ensures.walked)))))

pub field_behind-returns-in_err-pairs-clause-walked : goal.field_behind-returns-in_err-pairs-clause-walked
field_behind-returns-in_err-pairs-clause-walked t c =
    let p = err_from_is_err_and c.from_residual-in_err-pairs.result c.from_residual-in_err-pairs.ensures.1 in
    let bytes = bytes_behind c.args.fields.now in
    let left = levels_behind c.args.fields.now in
    let k = tables_in c.table.new.budget in
    let m = tables_in c.read_field_table.new.budget in
    let j = tables_in c.fields_behind.new.budget in
    let entered = c.in_ok-table.ensures in
    let own = c.in_ok-field_table.ensures in
    let there = bytes_of c.in_ok-table.table in
    rw (p.1, p.2) (field_fails _ bytes left _ (tables_in c.args.budget.now) k (omega arith) entered.walked
    (fails_there _ bytes _ (left - 1) _ k _ _ entered.same entered.levels entered.here
    (fails_then _ there _ _ k j (ok_then there _ _ k m j own.walked
    (sym (children_run there _ (levels_of c.in_ok-table.table) _ m _ _ own.same own.levels own.children) ∙ c.in_ok-children.ensures.walked))
    c.in_err-pairs.ensures.walked)))

pub field_behind-returns-clause-walked : goal.field_behind-returns-clause-walked
field_behind-returns-clause-walked t c =
    let bytes = bytes_behind c.args.fields.now in
    let left = levels_behind c.args.fields.now in
    let k = tables_in c.table.new.budget in
    let m = tables_in c.read_field_table.new.budget in
    let j = tables_in c.fields_behind.new.budget in
    let entered = c.in_ok-table.ensures in
    let own = c.in_ok-field_table.ensures in
    let there = bytes_of c.in_ok-table.table in
    let end = tables_in c.pairs_at.new.budget in
    field_ok bytes left _ (tables_in c.args.budget.now) k end (omega arith) entered.walked
    (sym (runs_there bytes _ (left - 1) _ k _ _ entered.same entered.levels entered.here)
    ∙ ok_then there _ _ k j end (ok_then there _ _ k m j own.walked
    (sym (children_run there _ (levels_of c.in_ok-table.table) _ m _ _ own.same own.levels own.children) ∙ c.in_ok-children.ensures.walked))
    c.in_ok-pairs.ensures.walked)

pub field_behind-returns-clause-value : goal.field_behind-returns-clause-value
field_behind-returns-clause-value t c =
    let bytes = bytes_behind c.args.fields.now in
    let left = levels_behind c.args.fields.now in
    let entered = c.in_ok-table.ensures in
    let own = c.in_ok-field_table.ensures in
    let there = bytes_of c.in_ok-table.table in
    let children = map (field_at supported_codes (levels_of c.in_ok-table.table) there) (elements there (slot_of c.in_ok-table.table 5)) in
    let read : map raw_field_of c.in_ok-children.children.items ≡ children
    = c.in_ok-children.ensures.value ∙ children_read there _ (levels_of c.in_ok-table.table) _ _ _ own.same own.levels own.children in
    fold-roll-RawField raw.RawField raw_field_step _
    ∙ rw (read, c.in_ok-pairs.ensures.value) (own.value children)
    ∙ read_there bytes _ (left - 1) _ _ _ entered.same entered.levels entered.here
    ∙ field_read bytes left _ (omega arith)

pub fields_behind-returns-in_err-field-clause-walked : goal.fields_behind-returns-in_err-field-clause-walked
fields_behind-returns-in_err-field-clause-walked t c =
    let p = err_from_is_err_and c.from_residual.result c.from_residual.ensures.1 in
    let bytes = bytes_behind c.args.fields.now in
    let left = levels_behind c.args.fields.now in
    rw (p.1, p.2) (element_fails _ (field_things supported_codes left bytes) bytes (places_in c.args.fields.now) c.loop-i.i (tables_in c.loop-i.budget) _ (omega arith) c.loop-i.invariant.walked c.in_err-field.ensures.walked)

pub fields_behind-loop-i-preserved : goal.fields_behind-loop-i-preserved
fields_behind-loop-i-preserved t c =
    let bytes = bytes_behind c.args.fields.now in
    let left = levels_behind c.args.fields.now in
    let places = places_in c.args.fields.now in
    let at = slice_index places c.loop-i.i in
    record {
      walked = element_ok (field_things supported_codes left bytes) bytes places c.loop-i.i (tables_in c.loop-i.budget) (tables_in c.field_behind.new.budget) _ (omega arith) c.loop-i.invariant.walked c.in_ok-field.ensures.walked;
      value =
          let pushed : map raw_field_of c.push.new.self.items ≡ map raw_field_of c.loop-i.found.items ++ field_at supported_codes left bytes at ∷ []
          = rw c.in_ok-push.ensures.items (map_push raw_field_of c.loop-i.found.items c.in_ok-field.field ∙ ap (λ (f : raw.RawField). map raw_field_of c.loop-i.found.items ++ f ∷ []) c.in_ok-field.ensures.value) in
          rw pushed (element_read (field_at supported_codes left bytes) places c.loop-i.i (map raw_field_of c.loop-i.found.items) _ (omega arith) c.loop-i.invariant.value);
    }

pub fields_behind-returns-clause-walked : goal.fields_behind-returns-clause-walked
fields_behind-returns-clause-walked t c =
    let bytes = bytes_behind c.args.fields.now in
    all_done (field_things supported_codes (levels_behind c.args.fields.now) bytes) bytes (places_in c.args.fields.now) c.loop-i.i (tables_in c.loop-i.budget) _ (omega arith) c.loop-i.invariant.walked
