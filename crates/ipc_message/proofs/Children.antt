-- Whether a type is decoded, by the number of its children.
use Rattle.std.proofs.Common.{◌≡◌, ℕ, suc, Bool, true, false, ◌&&◌, List, [], ◌∷◌, length, refl, ap, ◌∙◌, map, arith}
use Rattle.std.specs.Prelude.{nat_eq, Option, Some, None, is_some, if◌then◌else◌}
use Rattle.std.proofs.lemmas.Bool.Decides.{nat_tests}
use Rattle.std.proofs.lemmas.List.{length-map}
use Rattle.std.proofs.Math.Bool.{and-true}
use Rattle.arrow_schema.specs.Column.{Kind, Column, lists, large_lists}
use Rattle.ipc_message.specs.declared.raw_header.RawField.{RawField, out-RawField}
use Rattle.ipc_message.specs.declared.raw_header.RawField.TheFolds.{fold_out-RawField}
use Rattle.ipc_message.specs.Raw as raw
use Rattle.ipc_message.specs.Raw.{RawParameters, no_parameters, integer_parameters, byte_width, list_size, date_unit, timestamp_parameters, raw_fields_of}
use Rattle.ipc_message.specs.Types.{type_name, without_children, with_item, is_size, has_list_size, fixed_list, decoded_type}
use Rattle.ipc_message.specs.Convert.{columns_of_fields}
use Rattle.ipc_message.specs.Checks.{has_type}
use Rattle.ipc_message.specs.View.{raw_field_of, raw_field_step, parameters_of}

not_empty : (n : ℕ) → false ≡ nat_eq (suc n) 0
not_empty n = grind (arith, nat_tests)

not_one : (n : ℕ) → false ≡ nat_eq (suc (suc n)) 1
not_one n = grind (arith, nat_tests)

pub leaf_type : (kind : Option Kind) (cs : List Column) → is_some (without_children kind cs) ≡ (nat_eq (length cs) 0 && is_some kind)
leaf_type kind [] = refl
leaf_type kind (c ∷ cs) = ap (λ b. b && is_some kind) (not_empty (length cs))

pub leaf_supported : (kind : Kind) (cs : List Column) → is_some (without_children (Some kind) cs) ≡ nat_eq (length cs) 0
leaf_supported kind cs = leaf_type (Some kind) cs ∙ and-true _

pub item_type : (kind : Column → Option Kind) (b : Bool) → ((c : Column) → is_some (kind c) ≡ b) → (cs : List Column) → is_some (with_item kind cs) ≡ (nat_eq (length cs) 1 && b)
item_type kind b h [] = refl
item_type kind b h (c ∷ []) = h c
item_type kind b h (c ∷ d ∷ cs) = ap (λ x. x && b) (not_one (length cs))

some_size : (b : Bool) (k : Kind) → is_some (if b then Some k else None) ≡ b
some_size true k = refl
some_size false k = refl

pub sized_list : (p : RawParameters) (c : Column) → is_some (fixed_list p c) ≡ has_list_size p
sized_list (list_size n) c = some_size (is_size n) _
sized_list no_parameters c = refl
sized_list (integer_parameters w s) c = refl
sized_list (byte_width n) c = refl
sized_list (date_unit n) c = refl
sized_list (timestamp_parameters n z) c = refl

pub one_list : (cs : List Column) → is_some (with_item (λ item. Some (lists item)) cs) ≡ nat_eq (length cs) 1
one_list cs = item_type (λ item. Some (lists item)) true (λ c. refl) cs ∙ and-true _

pub one_large_list : (cs : List Column) → is_some (with_item (λ item. Some (large_lists item)) cs) ≡ nat_eq (length cs) 1
one_large_list cs = item_type (λ item. Some (large_lists item)) true (λ c. refl) cs ∙ and-true _

pub one_fixed_list : (p : RawParameters) (cs : List Column) → is_some (with_item (fixed_list p) cs) ≡ (nat_eq (length cs) 1 && has_list_size p)
one_fixed_list p cs = item_type (fixed_list p) (has_list_size p) (sized_list p) cs

pub ruleset child_rules = (leaf_supported, leaf_type, one_list, one_large_list, one_fixed_list)

count_of_fields : (fs : List raw.RawField) → length (columns_of_fields (raw_fields_of fs)) ≡ length fs
unfolding columns_of_fields
count_of_fields [] = refl
count_of_fields (f ∷ fs) = ap suc (count_of_fields fs)

-- the children of a field of the code, as columns
abbrev pub child_columns : RawField → List Column
child_columns f = columns_of_fields (raw_fields_of (map raw_field_of (out-RawField f).children.items))

pub count_of_children : (f : RawField) → length (child_columns f) ≡ length (out-RawField f).children.items
count_of_children f = count_of_fields _ ∙ length-map (out-RawField f).children.items raw_field_of

pub has_type_opened : (f : RawField) → has_type (raw_field_of f) ≡ is_some (decoded_type (type_name (out-RawField f).code) (parameters_of (out-RawField f).parameters) (child_columns f))
has_type_opened f = ap has_type (fold_out-RawField raw.RawField raw_field_step f)
