-- Raw fields as a list and back, and the columns that they decode to.
use Rattle.std.proofs.Common.{◌≡◌, List, [], ◌∷◌, map, refl, ap}
use Rattle.arrow_schema.specs.Column.{Column}
use Rattle.ipc_message.specs.Raw.{RawField, RawFields, no_raw_field, and_raw_field, raw_fields_of, raw_list_of}
use Rattle.ipc_message.specs.Convert.{column_of_field, columns_of_fields}

pub fields_listed : (fs : RawFields) → raw_fields_of (raw_list_of fs) ≡ fs
fields_listed no_raw_field = refl
fields_listed (and_raw_field f fs) = ap (and_raw_field f) (fields_listed fs)

pub columns_of_list : (fs : List RawField) → columns_of_fields (raw_fields_of fs) ≡ map column_of_field fs
unfolding columns_of_fields
columns_of_list [] = refl
columns_of_list (f ∷ fs) = ap (λ (cs : List Column). column_of_field f ∷ cs) (columns_of_list fs)
