-- The schemas of the code have no other widths than the format's, and no other texts than UTF-8.
use Rattle.std.proofs.Common.{◌≡◌, true, List, [], ◌∷◌, map, refl, sym, ◌∙◌, subst}
use Rattle.std.specs.Prelude.{String, string_bytes, Option, Some, None, option_map}
use Rattle.std.specs.List.{list_all}
use Rattle.std.specs.Str.{is_utf8}
use Rattle.std.specs.Global.{Global}
use Rattle.std.proofs.lemmas.Str.{is_utf8-from_IsUtf8, IsUtf8-string_bytes, IsUtf8-nil}
use Rattle.std.proofs.lemmas.List.Folds.{list_all-append}
use Rattle.std.proofs.lemmas.Bool.{and_from}
use Rattle.arrow_schema.specs.declared.types.DictSpec.{DictSpec}
use Rattle.arrow_schema.specs.declared.types.DataType.{DataType}
use Rattle.arrow_schema.specs.declared.types.Field.{Field}
use Rattle.arrow_schema.specs.declared.types.Schema.{Schema}
use Rattle.arrow_schema.specs.declared.types.DataType.TheOpen.{DataType-F, Field-F}
use Rattle.arrow_schema.specs.declared.types.DataType.TheOpen as types
use Rattle.arrow_schema.specs.declared.types.DataType.TheFolds.{ind-Field, map-DataType, map-Field, fold-roll-DataType, fold-roll-Field}
use Rattle.arrow_schema.specs.Column.{Kind, Column, columns_of, PlainSchema}
use Rattle.arrow_schema.specs.View.{index_of, pair_of, kind_step, column_step, kind_of, column_of, schema_of}
use Rattle.arrow_schema.specs.Preorder.{preorder, preorder_below, preorder_all, every_column}
use Rattle.arrow_schema.specs.laws.Widths.{is_bit_width-bits_of}
use Rattle.arrow_schema.specs.Limits.{timezone_of, is_kind_of_width, is_index_of_width, has_bit_widths, texts_of_pairs, has_utf8_texts}

pub record IsSound (s : PlainSchema) : Type 0 where
  pub widths : list_all has_bit_widths (every_column s) ≡ true
  pub texts : list_all has_utf8_texts (every_column s) ≡ true
  pub own_texts : list_all is_utf8 (texts_of_pairs s.pairs) ≡ true

index_is : (d : Option DictSpec) → is_index_of_width (option_map index_of d) ≡ true
index_is None = refl
index_is (Some d) = is_bit_width-bits_of d.index.width

text_is : (s : String Global) → is_utf8 (string_bytes s) ≡ true
text_is s = is_utf8-from_IsUtf8 _ (IsUtf8-string_bytes s)

no_timezone : is_utf8 [] ≡ true
no_timezone = is_utf8-from_IsUtf8 [] IsUtf8-nil

pairs_are : (ps : List (String Global × String Global)) → list_all is_utf8 (texts_of_pairs (map pair_of ps)) ≡ true
pairs_are [] = refl
pairs_are (p ∷ ps) = and_from _ _ (text_is p.0) (and_from _ _ (text_is p.1) (pairs_are ps))

-- what is so of a type, and of a field with all below it
record KindIsSound (k : Kind) : Type 0 where
  width : is_kind_of_width k ≡ true
  timezone : is_utf8 (timezone_of k) ≡ true
  widths : list_all has_bit_widths (preorder_below k) ≡ true
  texts : list_all has_utf8_texts (preorder_below k) ≡ true

record AreSound (cs : List Column) : Type 0 where
  widths : list_all has_bit_widths cs ≡ true
  texts : list_all has_utf8_texts cs ≡ true

abbrev SoundType : Type 0
SoundType = (d : DataType) × KindIsSound (kind_of d)

abbrev SoundField : Type 0
SoundField = (f : Field) × AreSound (preorder (column_of f))

all_sound : (fs : List SoundField) → AreSound (preorder_all (columns_of (map column_of (map (λ e. e.0) fs))))
unfolding preorder_all
all_sound [] = record { widths = refl; texts = refl }
all_sound (e ∷ fs) =
    let rest = all_sound fs in
    record {
      widths = list_all-append has_bit_widths (preorder (column_of e.0)) _ ∙ and_from _ _ e.1.widths rest.widths;
      texts = list_all-append has_utf8_texts (preorder (column_of e.0)) _ ∙ and_from _ _ e.1.texts rest.texts;
    }

kind_sound : (y : DataType-F SoundType SoundField) → KindIsSound (kind_step (map-DataType _ _ _ _ kind_of column_of (map-DataType _ _ _ _ (λ e. e.0) (λ e. e.0) y)))
unfolding preorder_below
kind_sound types.Null = record { width = refl; timezone = no_timezone; widths = refl; texts = refl }
kind_sound types.Bool = record { width = refl; timezone = no_timezone; widths = refl; texts = refl }
kind_sound (types.Int i) = record { width = is_bit_width-bits_of i.width; timezone = no_timezone; widths = refl; texts = refl }
kind_sound (types.Date u) = record { width = refl; timezone = no_timezone; widths = refl; texts = refl }
kind_sound (types.Timestamp u timezone) = record { width = refl; timezone = text_is timezone; widths = refl; texts = refl }
kind_sound types.Utf8 = record { width = refl; timezone = no_timezone; widths = refl; texts = refl }
kind_sound types.LargeUtf8 = record { width = refl; timezone = no_timezone; widths = refl; texts = refl }
kind_sound types.Binary = record { width = refl; timezone = no_timezone; widths = refl; texts = refl }
kind_sound types.LargeBinary = record { width = refl; timezone = no_timezone; widths = refl; texts = refl }
kind_sound (types.FixedSizeBinary w) = record { width = refl; timezone = no_timezone; widths = refl; texts = refl }
kind_sound (types.List f) = record { width = refl; timezone = no_timezone; widths = f.value.1.widths; texts = f.value.1.texts }
kind_sound (types.LargeList f) = record { width = refl; timezone = no_timezone; widths = f.value.1.widths; texts = f.value.1.texts }
kind_sound (types.FixedSizeList n f) = record { width = refl; timezone = no_timezone; widths = f.value.1.widths; texts = f.value.1.texts }
kind_sound (types.Struct fs) =
    let all = all_sound fs.items in
    record { width = refl; timezone = no_timezone; widths = all.widths; texts = all.texts }

field_sound : (y : Field-F SoundType SoundField) → AreSound (preorder (column_step (map-Field _ _ _ _ kind_of column_of (map-Field _ _ _ _ (λ e. e.0) (λ e. e.0) y))))
unfolding preorder
field_sound y =
    let k = y.data_type.1 in
    record {
      widths = and_from _ _ (and_from _ _ k.width (index_is y.dictionary)) k.widths;
      texts = and_from _ _ (and_from _ _ (text_is y.name) (and_from _ _ k.timezone (pairs_are y.pairs.items))) k.texts;
    }

sound_field : (f : Field) → AreSound (preorder (column_of f))
sound_field = ind-Field (λ d. KindIsSound (kind_of d)) (λ f. AreSound (preorder (column_of f)))
    (λ x y is. subst KindIsSound (sym (fold-roll-DataType Kind Column kind_step column_step x)) (subst (λ z. KindIsSound (kind_step (map-DataType _ _ _ _ kind_of column_of z))) is (kind_sound y)))
    (λ x y is. subst (λ c. AreSound (preorder c)) (sym (fold-roll-Field Kind Column kind_step column_step x)) (subst (λ z. AreSound (preorder (column_step (map-Field _ _ _ _ kind_of column_of z)))) is (field_sound y)))

fields_sound : (fs : List Field) → AreSound (preorder_all (columns_of (map column_of fs)))
unfolding preorder_all
fields_sound [] = record { widths = refl; texts = refl }
fields_sound (f ∷ fs) =
    let here = sound_field f in
    let rest = fields_sound fs in
    record {
      widths = list_all-append has_bit_widths (preorder (column_of f)) _ ∙ and_from _ _ here.widths rest.widths;
      texts = list_all-append has_utf8_texts (preorder (column_of f)) _ ∙ and_from _ _ here.texts rest.texts;
    }

pub sound_schema : (s : Schema) → IsSound (schema_of s)
sound_schema s =
    let fields = fields_sound s.fields.items in
    record { widths = fields.widths; texts = fields.texts; own_texts = pairs_are s.pairs.items }
