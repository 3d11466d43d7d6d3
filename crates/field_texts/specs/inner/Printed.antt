-- The text of a type in two parts: its keyword, and the rest; and the text of a field after its name.
use Rattle.std.specs.Prelude.{ℕ, List, [], ◌++◌, codes}
use Rattle.arrow_schema.specs.Column.{Kind, nulls, booleans, integers, dates, timestamps, texts, large_texts, binaries, large_binaries, fixed_binaries, lists, large_lists, fixed_lists, structs, Column, column}
use Rattle.field_texts.specs.Keywords.{number_text, integer_text, date_text, time_text, keyword_text}
use Rattle.field_texts.specs.FieldText.{Style, plain, printed, timezone_text, with_dictionary, type_text, nullable_suffix, item_text, fields_text}
use Rattle.field_texts.specs.declared.keyword.Keyword.TheVariants as keywords
use Rattle.field_texts.specs.declared.print.Form.{Form}
use Rattle.field_texts.specs.declared.print.Form.TheVariants as forms

abbrev pub style_of : Form → Style
style_of forms.Printed = printed
style_of forms.Typed = plain

-- a field or an item without its name
abbrev pub bare_text : Style → Column → List ℕ
bare_text style (column name nullable kind dictionary pairs) = with_dictionary dictionary (type_text style kind) ++ nullable_suffix nullable

abbrev pub front_text : Kind → List ℕ
front_text nulls = keyword_text keywords.Null
front_text booleans = keyword_text keywords.Bool
front_text (integers bits signed) = integer_text bits signed
front_text (dates unit) = date_text unit
front_text (timestamps unit timezone) = time_text unit
front_text texts = keyword_text keywords.Utf8
front_text large_texts = keyword_text keywords.LargeUtf8
front_text binaries = keyword_text keywords.Binary
front_text large_binaries = keyword_text keywords.LargeBinary
front_text (fixed_binaries width) = keyword_text keywords.FixedBinary
front_text (lists item) = keyword_text keywords.List
front_text (large_lists item) = keyword_text keywords.LargeList
front_text (fixed_lists size item) = keyword_text keywords.FixedList
front_text (structs parts) = keyword_text keywords.Struct

abbrev pub rest_text : Style → Kind → List ℕ
rest_text style (timestamps unit timezone) = timezone_text style timezone
rest_text style (fixed_binaries width) = number_text width ++ codes ")"
rest_text style (lists item) = item_text style item ++ codes ">"
rest_text style (large_lists item) = item_text style item ++ codes ">"
rest_text style (fixed_lists size item) = number_text size ++ codes "," ++ item_text style item ++ codes ")"
rest_text style (structs parts) = fields_text style parts ++ codes ">"
rest_text style _ = []
