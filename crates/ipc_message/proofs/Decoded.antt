-- What is known of a field that decodes to a type, and whose texts are UTF-8.
use Rattle.std.proofs.Common.{◌≡◌, ℕ, Bool, true, false, ◌&&◌, List, [], ◌∷◌, ◌++◌, length, refl, ap, sym, ◌∙◌, map}
use Rattle.std.specs.Prelude.{Option, is_some, flat_map}
use Rattle.std.specs.List.{list_all}
use Rattle.std.specs.Str.{is_utf8}
use Rattle.arrow_schema.specs.Column.{Index, Pair, Kind, Column, column}
use Rattle.ipc_message.specs.Types.{without_children, with_item, fixed_list, has_list_size}
use Rattle.std.specs.Prelude.{option_map}
use Rattle.std.proofs.lemmas.Grind.{flat_map-append}
use Rattle.std.proofs.lemmas.List.Folds.{list_all-append}
use Rattle.ipc_message.specs.declared.raw_header.RawField as code
use Rattle.ipc_message.specs.declared.raw_header.RawField.{out-RawField}
use Rattle.ipc_message.specs.declared.raw_header.RawField.TheFolds.{fold_out-RawField}
use Rattle.ipc_message.specs.Raw.{RawParameters, RawField, raw_field, raw_fields_of}
use Rattle.ipc_message.specs.Fields.{preorder, preorder_all}
use Rattle.ipc_message.specs.Types.{type_name, decoded_type}
use Rattle.ipc_message.specs.Convert.{column_of_field, columns_of_fields}
use Rattle.ipc_message.specs.Checks.{has_type, is_bad, is_index_type, timezone_of, texts_of_pairs, texts_of_field}
use Rattle.ipc_message.specs.inner.Readable.{AreReadable}
use Rattle.ipc_message.specs.View.{raw_field_step, raw_field_of, parameters_of, encoding_of, key_value}
use Rattle.std.proofs.lemmas.List.{length-map}
use Rattle.std.proofs.lemmas.Bool.{and_parts, or_parts, not-false}
use Rattle.ipc_message.proofs.Children.{sized_list}
use Rattle.facts.specs.laws.Lists.{any_left, any_right}

pub leaf_is : (kind : Option Kind) (cs : List Column) → is_some (without_children kind cs) ≡ true → without_children kind cs ≡ kind
leaf_is kind [] h = refl
leaf_is kind (c ∷ cs) h = absurd cc

pub leaf_some : (kind : Option Kind) (cs : List Column) → is_some (without_children kind cs) ≡ true → is_some kind ≡ true
leaf_some kind [] h = h
leaf_some kind (c ∷ cs) h = absurd cc

pub item_one : (kind : Column → Option Kind) (cs : List Column) → is_some (with_item kind cs) ≡ true → length cs ≡ 1
item_one kind [] h = absurd cc
item_one kind (c ∷ []) h = refl
item_one kind (c ∷ d ∷ cs) h = absurd cc

pub sized : (p : RawParameters) (cs : List Column) → is_some (with_item (fixed_list p) cs) ≡ true → has_list_size p ≡ true
sized p [] h = absurd cc
sized p (c ∷ []) h = sym (sized_list p c) ∙ h
sized p (c ∷ d ∷ cs) h = absurd cc

pub ruleset decoded_rules = (leaf_is, leaf_some, item_one, sized, length-map)

-- ---- a field, and all below it

all_left : {A : Type 0} (p : A → Bool) (xs ys : List A) → list_all p (xs ++ ys) ≡ true → list_all p xs ≡ true
all_left p xs ys h = (and_parts _ _ (sym (list_all-append p xs ys) ∙ h)).0

all_right : {A : Type 0} (p : A → Bool) (xs ys : List A) → list_all p (xs ++ ys) ≡ true → list_all p ys ≡ true
all_right p xs ys h = (and_parts _ _ (sym (list_all-append p xs ys) ∙ h)).1

texts-append : (xs ys : List RawField) → flat_map texts_of_field (xs ++ ys) ≡ flat_map texts_of_field xs ++ flat_map texts_of_field ys
texts-append xs ys = flat_map-append texts_of_field xs ys

pub left_readable : (xs ys : List RawField) → AreReadable (xs ++ ys) → AreReadable xs
left_readable xs ys h = record {
  decoded = any_left is_bad xs ys h.decoded;
  utf8 = all_left is_utf8 (flat_map texts_of_field xs) (flat_map texts_of_field ys) (ap (list_all is_utf8) (sym (texts-append xs ys)) ∙ h.utf8);
}

pub right_readable : (xs ys : List RawField) → AreReadable (xs ++ ys) → AreReadable ys
right_readable xs ys h = record {
  decoded = any_right is_bad xs ys h.decoded;
  utf8 = all_right is_utf8 (flat_map texts_of_field xs) (flat_map texts_of_field ys) (ap (list_all is_utf8) (sym (texts-append xs ys)) ∙ h.utf8);
}

-- a field of the code that can be read: its parts, and the fields below it
pub record HasReadableParts (f : code.RawField) : Type 0 where
  pub name : is_utf8 (out-RawField f).name.now ≡ true
  pub timezone : is_utf8 (timezone_of (parameters_of (out-RawField f).parameters)) ≡ true
  pub pairs : list_all is_utf8 (texts_of_pairs (map key_value (out-RawField f).pairs.items)) ≡ true
  pub decoded : is_some (decoded_type (type_name (out-RawField f).code) (parameters_of (out-RawField f).parameters) (columns_of_fields (raw_fields_of (map raw_field_of (out-RawField f).children.items)))) ≡ true
  pub index : is_index_type (option_map encoding_of (out-RawField f).dictionary) ≡ true
  pub below : AreReadable (preorder_all (raw_fields_of (map raw_field_of (out-RawField f).children.items)))

abbrev pub opened_field : code.RawField → RawField
opened_field f = raw_field (out-RawField f).name.now (out-RawField f).nullable (out-RawField f).code (parameters_of (out-RawField f).parameters) (option_map encoding_of (out-RawField f).dictionary) (raw_fields_of (map raw_field_of (out-RawField f).children.items)) (map key_value (out-RawField f).pairs.items)

opened : (f : code.RawField) → raw_field_of f ≡ opened_field f
opened = fold_out-RawField RawField raw_field_step

pub parts_readable : (f : code.RawField) → AreReadable (preorder (raw_field_of f)) → HasReadableParts f
unfolding preorder
parts_readable f h =
    let g = rw (opened f) at h in
    let rest = right_readable (_ ∷ []) _ g in
    let own = left_readable (_ ∷ []) _ g in
    let type : (has_type (opened_field f) && is_index_type (option_map encoding_of (out-RawField f).dictionary)) ≡ true = not-false _ ((or_parts _ false own.decoded).0) in
    let texts : (is_utf8 (out-RawField f).name.now && (is_utf8 (timezone_of (parameters_of (out-RawField f).parameters)) && list_all is_utf8 (texts_of_pairs (map key_value (out-RawField f).pairs.items) ++ []))) ≡ true = own.utf8 in
    let others = (and_parts _ _ texts).1 in
    record {
      name = (and_parts _ _ texts).0;
      timezone = (and_parts _ _ others).0;
      pairs = all_left is_utf8 _ [] ((and_parts _ _ others).1);
      decoded = (and_parts _ _ type).0;
      index = (and_parts _ _ type).1;
      below = rest;
    }

pub column_opened : (f : code.RawField) → column_of_field (raw_field_of f) ≡ column_of_field (opened_field f)
column_opened f = ap column_of_field (opened f)

pub same_column : {m n : List ℕ} {nullable : Bool} {k l : Kind} {d e : Option Index} {p q : List Pair} → m ≡ n → k ≡ l → d ≡ e → p ≡ q → column m nullable k d p ≡ column n nullable l e q
same_column a b c d = cc
