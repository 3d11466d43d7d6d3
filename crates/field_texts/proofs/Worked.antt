-- The examples of docs/formats/field_texts.md, computed from the definitions.
use Rattle.std.proofs.Common.{true, false, [], refl, arith}
use Rattle.std.specs.Prelude.{codes, None, Some}
use Rattle.arrow_schema.specs.Column.{column, texts, integers, fixed_binaries, lists, structs, milliseconds, timestamps, and_column, no_column}
use Rattle.field_texts.specs.Keywords.{number_text, integer_text, time_text, keyword_text}
use Rattle.field_texts.specs.FieldText.{field_text, item_text, type_text, fields_text, more_text}
use Rattle.field_texts.specs.Typed.{IsTextOf, IsTypedField, IsTypedItem, IsTypedKind, AreTyped}

id : IsTextOf true (codes "id:uint64") (column (codes "id") false (integers 64 false) None [])
unfolding field_text type_text integer_text number_text IsTypedField IsTypedKind
id = ((refl, refl, tt, refl), refl)

tags : IsTextOf true (codes "tags:list<utf8?>?") (column (codes "tags") true (lists (column (codes "item") true texts None [])) None [])
unfolding field_text item_text type_text keyword_text IsTypedField IsTypedItem IsTypedKind
tags = ((refl, refl, tt, (refl, refl, tt, tt)), refl)

p : IsTextOf true (codes "p:struct<x:int16,y:int16?>") (column (codes "p") false (structs (and_column (column (codes "x") false (integers 16 true) None []) (and_column (column (codes "y") true (integers 16 true) None []) no_column))) None [])
unfolding field_text fields_text more_text type_text keyword_text integer_text number_text IsTypedField IsTypedKind AreTyped
p = ((refl, refl, tt, ((refl, refl, tt, refl), ((refl, refl, tt, refl), tt))), refl)

city : IsTextOf true (codes "city:dict<int8,utf8>?") (column (codes "city") true texts (Some (record { bits = 8; signed = true })) [])
unfolding field_text type_text keyword_text integer_text number_text IsTypedField IsTypedKind
city = ((refl, refl, (refl, refl), tt), refl)

key : IsTextOf true (codes "key:fixed_binary(16)") (column (codes "key") false (fixed_binaries 16) None [])
unfolding field_text type_text keyword_text number_text IsTypedField IsTypedKind
key = ((refl, refl, tt, λ _. omega arith), refl)

at : IsTextOf true (codes "at:timestamp_ms(UTC)") (column (codes "at") false (timestamps milliseconds (codes "UTC")) None [])
unfolding field_text type_text time_text IsTypedField IsTypedKind
at = ((refl, refl, tt, refl), refl)
