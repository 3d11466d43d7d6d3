-- The parts of a field of the code, seen as a plain field.
use Rattle.std.proofs.Common.{◌≡◌, ◌∙◌, ◌∷◌, [], ◌++◌, ℕ, List, refl, ap, map, append_assoc}
use Rattle.std.specs.Prelude.{option_map}
use Rattle.ipc_message.specs.declared.raw_header.RawField.{RawField, out-RawField}
use Rattle.ipc_message.specs.declared.raw_header.RawField.TheFolds.{fold_out-RawField}
use Rattle.ipc_message.specs.Raw as raw
use Rattle.ipc_message.specs.Raw.{raw_fields_of}
use Rattle.ipc_message.specs.Fields.{children_of, dictionary_of, preorder, preorder_all}
use Rattle.ipc_message.specs.View.{encoding_of, raw_field_step, raw_field_of}

pub children_opened : (f : RawField) → children_of (raw_field_of f) ≡ raw_fields_of (map raw_field_of (out-RawField f).children.items)
children_opened f = ap children_of (fold_out-RawField raw.RawField raw_field_step f)

pub dictionary_opened : (f : RawField) → dictionary_of (raw_field_of f) ≡ option_map encoding_of (out-RawField f).dictionary
dictionary_opened f = ap dictionary_of (fold_out-RawField raw.RawField raw_field_step f)

preorder_parts : (f : raw.RawField) → preorder f ≡ f ∷ preorder_all (children_of f)
unfolding preorder
preorder_parts (raw.raw_field name nullable code table dictionary children pairs) = refl

-- a field, and then all below it
pub preorder_opened : (f : RawField) → preorder (raw_field_of f) ≡ raw_field_of f ∷ preorder_all (raw_fields_of (map raw_field_of (out-RawField f).children.items))
preorder_opened f = preorder_parts (raw_field_of f) ∙ ap (λ (cs : raw.RawFields). raw_field_of f ∷ preorder_all cs) (children_opened f)

-- ---- texts that are listed

pub two_listed : (old one two : List (List ℕ)) (s t : List ℕ) (rest : List (List ℕ)) → one ≡ old ++ s ∷ [] → two ≡ one ++ t ∷ [] → two ++ rest ≡ old ++ (s ∷ t ∷ rest)
two_listed old one two s t rest first second = rw (second, first) (append_assoc (old ++ s ∷ []) (t ∷ []) rest ∙ append_assoc old (s ∷ []) (t ∷ rest))
