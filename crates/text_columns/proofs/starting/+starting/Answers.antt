use Rattle.text_columns.proofs.Rows.{keep_more}
use Rattle.text_columns.specs.inner.Kept.{KeepAll}
use Rattle.std.proofs.lemmas.List.{map-append, take_all, take_more}
use Rattle.std.proofs.Common.{arith, ◌≡◌, ◌∙◌, append-nil, refl, rules, sym, map, take, ◌++◌, ◌+◌, List, ◌∷◌, ap, subst, []}
use Rattle.arrow_schema.specs.Column.{columns_of, fixed_lists, large_lists, lists, structs}
use Rattle.arrow_schema.specs.View.{column_of, kind_of}
use Rattle.arrow_schema.specs.declared.types.Field.{the_lemmas as field_lemmas, Field}
use Rattle.text_columns.proofs.Starts.{fixed_lists_step, fixed_null, large_lists_step, lists_step, structs_step}
use Rattle.text_columns.proofs.starting.+starting.Goals as goal

pub empty_lists-returns : goal.empty_lists-returns
empty_lists-returns t c =
    let own = rw c.in-Some.is at c.in_ok-items.ensures in
    record {
      slots = _;
      offsets = _;
      place = _;
      items = _;
      is = refl;
      same = refl;
      none = c.new.ensures.items;
      null_weighs = refl;
      ends = record { width_is = refl; ends = (rw c.new-offsets.ensures.items at c.in_ok-push_offset.ensures.ok) ∙ sym (append-nil _); count = refl };
      unlimited = own.0;
      below = rw c.in_ok-new.ensures.ok own.1;
    }

pub empty_fixed_lists-returns : goal.empty_fixed_lists-returns
empty_fixed_lists-returns t c =
    let own = rw c.in-Some.is at c.in_ok-items.ensures in
    record {
      slots = _;
      place = _;
      items = _;
      is = refl;
      same = refl;
      none = c.new.ensures.items;
      null_weighs = fixed_null (column_of c.args.item.now) c.in-Some.items c.args.size c.null_weight.result c.in-Some-checked_mul.below c.in-Some-checked_add.null_weight own.1 c.null_weight.ensures c.in-Some-checked_mul.ensures.1 c.in-Some-checked_add.ensures.1;
      unlimited = own.0;
      below = rw c.in_ok-new.ensures.ok own.1;
    }

pub empty_plain_column-returns-in-List : goal.empty_plain_column-returns-in-List
empty_plain_column-returns-in-List t c =
    let kind : kind_of c.args.field.now.data_type ≡ lists (column_of c.in-List.item.value) = rw c.in-List.is (search (rules, field_lemmas)) in
    lists_step c.args.field.now (column_of c.in-List.item.value) c.empty_lists.result kind c.requires (rw c.deref.ensures at c.empty_lists.ensures)

pub empty_plain_column-returns-in-LargeList : goal.empty_plain_column-returns-in-LargeList
empty_plain_column-returns-in-LargeList t c =
    let kind : kind_of c.args.field.now.data_type ≡ large_lists (column_of c.in-LargeList.item.value) = rw c.in-LargeList.is (search (rules, field_lemmas)) in
    large_lists_step c.args.field.now (column_of c.in-LargeList.item.value) c.empty_lists-in-LargeList.result kind c.requires (rw c.deref-in-LargeList.ensures at c.empty_lists-in-LargeList.ensures)

pub empty_plain_column-returns-in-FixedSizeList : goal.empty_plain_column-returns-in-FixedSizeList
empty_plain_column-returns-in-FixedSizeList t c =
    let kind : kind_of c.args.field.now.data_type ≡ fixed_lists c.in-FixedSizeList.size (column_of c.in-FixedSizeList.item.value) = rw c.in-FixedSizeList.is (search (rules, field_lemmas)) in
    fixed_lists_step c.args.field.now c.in-FixedSizeList.size (column_of c.in-FixedSizeList.item.value) c.empty_fixed_lists.result kind c.requires (rw c.deref-in-FixedSizeList.ensures at c.empty_fixed_lists.ensures)

pub empty_plain_column-returns-in-Struct : goal.empty_plain_column-returns-in-Struct
empty_plain_column-returns-in-Struct t c =
    let kind : kind_of c.args.field.now.data_type ≡ structs (columns_of (map column_of c.in-Struct.fields.items)) = rw c.in-Struct.is (search (rules, field_lemmas)) in
    structs_step c.args.field.now (map column_of c.in-Struct.fields.items) c.empty_structs.result kind c.requires (rw c.deref-in-Struct.ensures.value at c.empty_structs.ensures)

pub empty_structs-returns : goal.empty_structs-returns
empty_structs-returns t c =
    let names = rw c.in-Some-2.is at c.in_ok-names.ensures in
    record {
      slots = _;
      names = c.in_ok-own.own;
      fields = c.in-Some.builders;
      is = refl;
      same = refl;
      none = c.new.ensures.items;
      null_weighs = rw c.deref.ensures.value at c.in-Some-nulls_weight.ensures;
      names_are = rw c.in_ok-own.ensures names.0;
      distinct = names.1;
      unlimited = c.have_own_limit.ensures c.if-have_own_limit.false;
      keeps = rw c.in-Some.is at c.in_ok-builders.ensures;
    }

pub empty_columns-loop-field-preserved : goal.empty_columns-loop-field-preserved
empty_columns-loop-field-preserved t c =
    let f = c.field-item.result in
    let i = c.loop-field.field-index in
    let before = take i c.args.fields.now in
    let more : take (i + 1) c.args.fields.now ≡ before ++ f ∷ [] = take_more c.args.fields.now i f c.loop-field-test.true ∙ ap (λ (x : Field). before ++ x ∷ []) (sym c.field-item.is) in
    let taken = rw c.in-Some.is at c.in_ok-builder.ensures in
    record {
      keep = rw (more, map-append column_of before (f ∷ []), c.push_reserved.ensures.items)
          (keep_more (map column_of before) c.loop-field.builders.items (column_of f) c.in-Some.builder c.loop-field.invariant.keep taken);
      len = omega (arith, c.push_reserved.ensures.len, c.loop-field.invariant.len);
      room = omega (arith, c.push_reserved.ensures.capacity, c.loop-field.invariant.room);
    }

pub empty_columns-returns : goal.empty_columns-returns
empty_columns-returns t c =
    let all = take_all c.loop-field.field-index c.args.fields.now c.loop-field-test.false in
    subst (λ (fs : List Field). KeepAll (map column_of fs) [] c.loop-field.builders.items) all c.loop-field.invariant.keep
