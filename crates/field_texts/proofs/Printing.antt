-- Field texts as they are printed.
use Rattle.std.proofs.Common.{◌≡◌, ◌∙◌, List, ℕ, ◌++◌, Result, Ok, Err, refl, sym, ap, append_assoc, append-nil}
use Rattle.std.specs.Prelude.{OnOk, is_ok, if◌then◌else◌, codes}
use Rattle.arrow_schema.specs.Column.{Kind, nulls, booleans, integers, dates, timestamps, texts, large_texts, binaries, large_binaries, fixed_binaries, lists, large_lists, fixed_lists, structs}
use Rattle.field_texts.specs.FieldText.{Style, type_text, item_text, fields_text}
use Rattle.field_texts.specs.Keywords.{number_text, keyword_text}
use Rattle.field_texts.specs.declared.keyword.Keyword.TheVariants as keywords
use Rattle.field_texts.specs.inner.Printed.{front_text, rest_text}

-- texts that are pushed one after the other
pub pushed_last : {T E : Type 0} (r : Result T E) (old new more whole : List ℕ) → new ≡ (if is_ok r then old ++ more else old) → old ++ more ≡ whole → OnOk r (new ≡ whole)
pushed_last (Ok x) old new more whole is all = is ∙ all
pushed_last (Err x) old new more whole is all = tt

pub two_before : (a b c x y z : List ℕ) → b ≡ a ++ x → c ≡ b ++ y → c ++ z ≡ a ++ (x ++ y ++ z)
two_before a b c x y z e f =
    let grouped : (a ++ x ++ y) ++ z ≡ a ++ (x ++ y ++ z) = simp append_assoc in
    rw (f, e) grouped

pub three_behind : (a b c d x y z : List ℕ) → b ≡ a ++ x → c ≡ b ++ y → d ≡ c ++ z → d ≡ a ++ (x ++ y ++ z)
three_behind a b c d x y z e f g = g ∙ two_before a b c x y z e f

-- the text of a type is its keyword and what stands after it
pub type_in_parts : (style : Style) (k : Kind) → front_text k ++ rest_text style k ≡ type_text style k
unfolding type_text
type_in_parts style nulls = append-nil _
type_in_parts style booleans = append-nil _
type_in_parts style (integers bits signed) = append-nil _
type_in_parts style (dates unit) = append-nil _
type_in_parts style (timestamps unit timezone) = refl
type_in_parts style texts = append-nil _
type_in_parts style large_texts = append-nil _
type_in_parts style binaries = append-nil _
type_in_parts style large_binaries = append-nil _
type_in_parts style (fixed_binaries width) = sym (append_assoc (keyword_text keywords.FixedBinary) (number_text width) (codes ")"))
type_in_parts style (lists item) = sym (append_assoc (keyword_text keywords.List) (item_text style item) (codes ">"))
type_in_parts style (large_lists item) = sym (append_assoc (keyword_text keywords.LargeList) (item_text style item) (codes ">"))
type_in_parts style (fixed_lists size item) =
    let grouped : keyword_text keywords.FixedList ++ (number_text size ++ codes "," ++ item_text style item ++ codes ")")
    ≡ keyword_text keywords.FixedList ++ number_text size ++ codes "," ++ item_text style item ++ codes ")" = simp append_assoc in
    grouped
type_in_parts style (structs parts) = sym (append_assoc (keyword_text keywords.Struct) (fields_text style parts) (codes ">"))
