-- The keywords of field texts: none begins another, so that the keyword that begins a text is determined.
use Rattle.std.proofs.Common.{◌≡◌, ℕ, Bool, true, false, List, [], ◌∷◌, ◌++◌, refl}
use Rattle.std.specs.Prelude.{Option, None, Some, option_map, IfSome}
use Rattle.arrow_schema.specs.declared.types.BitWidth.{BitWidth}
use Rattle.arrow_schema.specs.declared.types.BitWidth.TheVariants.{Eight, Sixteen, ThirtyTwo, SixtyFour}
use Rattle.arrow_schema.specs.declared.types.DateUnit.TheVariants as days
use Rattle.arrow_schema.specs.declared.types.TimeUnit.TheVariants as times
use Rattle.field_texts.specs.declared.keyword.Keyword.{Keyword}
use Rattle.field_texts.specs.declared.keyword.Keyword.TheVariants as keywords
use Rattle.field_texts.specs.Keywords.{integer_text, date_text, time_text, keyword_text}
use Rattle.field_texts.specs.inner.Scan.{stripped, every_keyword, keyword_in, keyword_at}
use Rattle.field_texts.proofs.Cutting.{stripped_is}
use Rattle.field_texts.proofs.Options.{some_map, some_or}

integer_again : (width : BitWidth) (signed : Bool) (rest : List ℕ) → keyword_at (keyword_text (keywords.Int (record { width = width; signed = signed })) ++ rest) ≡ Some (keywords.Int (record { width = width; signed = signed }), rest)
unfolding keyword_at every_keyword keyword_in stripped keyword_text integer_text date_text time_text
integer_again Eight true rest = refl
integer_again Sixteen true rest = refl
integer_again ThirtyTwo true rest = refl
integer_again SixtyFour true rest = refl
integer_again Eight false rest = refl
integer_again Sixteen false rest = refl
integer_again ThirtyTwo false rest = refl
integer_again SixtyFour false rest = refl

pub keyword_again : (keyword : Keyword) (rest : List ℕ) → keyword_at (keyword_text keyword ++ rest) ≡ Some (keyword, rest)
unfolding keyword_at every_keyword keyword_in stripped keyword_text integer_text date_text time_text
keyword_again keywords.Null rest = refl
keyword_again keywords.Bool rest = refl
keyword_again (keywords.Int i) rest = integer_again i.width i.signed rest
keyword_again (keywords.Date days.Day) rest = refl
keyword_again (keywords.Date days.Millisecond) rest = refl
keyword_again (keywords.Timestamp times.Second) rest = refl
keyword_again (keywords.Timestamp times.Millisecond) rest = refl
keyword_again (keywords.Timestamp times.Microsecond) rest = refl
keyword_again (keywords.Timestamp times.Nanosecond) rest = refl
keyword_again keywords.Utf8 rest = refl
keyword_again keywords.LargeUtf8 rest = refl
keyword_again keywords.Binary rest = refl
keyword_again keywords.LargeBinary rest = refl
keyword_again keywords.FixedBinary rest = refl
keyword_again keywords.List rest = refl
keyword_again keywords.LargeList rest = refl
keyword_again keywords.FixedList rest = refl
keyword_again keywords.Struct rest = refl
keyword_again keywords.Dictionary rest = refl

pub stripped_read : (xs text : List ℕ) → IfSome (stripped xs text) (λ rest. text ≡ xs ++ rest)
stripped_read xs text = known (stripped xs text) refl
  where
    known : (o : Option (List ℕ)) → stripped xs text ≡ o → IfSome o (λ rest. text ≡ xs ++ rest)
    known None e = tt
    known (Some rest) e = stripped_is xs text rest e

among_read : (all : List Keyword) (text : List ℕ) → IfSome (keyword_in all text) (λ p. text ≡ keyword_text p.0 ++ p.1)
unfolding keyword_in
among_read [] text = tt
among_read (keyword ∷ others) text =
    some_or (option_map (λ rest. (keyword, rest)) (stripped (keyword_text keyword) text)) (keyword_in others text) (λ p. text ≡ keyword_text p.0 ++ p.1)
    (some_map (λ rest. (keyword, rest)) (stripped (keyword_text keyword) text) (λ rest. text ≡ keyword_text keyword ++ rest) (λ p. text ≡ keyword_text p.0 ++ p.1) (stripped_read (keyword_text keyword) text) (λ rest e. e))
    (among_read others text)

pub keyword_read : (text : List ℕ) → IfSome (keyword_at text) (λ p. text ≡ keyword_text p.0 ++ p.1)
unfolding keyword_at
keyword_read text = among_read every_keyword text

-- the brackets that close a type
pub bracket : (rest : List ℕ) → stripped (62 ∷ []) (62 ∷ rest) ≡ Some rest
unfolding stripped
bracket rest = refl

pub parenthesis : (rest : List ℕ) → stripped (41 ∷ []) (41 ∷ rest) ≡ Some rest
unfolding stripped
parenthesis rest = refl
