-- The members of an object of JSON, one after another, under their values.
use Rattle.std.proofs.Common.{◌≡◌, ℕ, zero, suc, ◌-◌, ◌<◌, ◌≤◌, List, [], ◌∷◌, length, Option, Some, None, option_map, option_and_then, refl, ap, ◌∙◌}
use Rattle.json.specs.Token.{Token}
use Rattle.json.specs.Token as tokens
use Rattle.json.specs.Json as json
use Rattle.json.specs.Json.{Parse, parse_map, read_key, after_end_array, items, members, if_last, value, value_with}
use Rattle.json.specs.Lex.{tokens as tokens_of}
use Rattle.json.proofs.Grammar.{members_end, members_more, skip_value-shorter}
use Rattle.serde_json.specs.Data.{Data, object, Members, no_members, put}
use Rattle.serde_json.specs.Read.{of_json, of_members, converted, read}

abbrev pick : {A : Type 0} → A → Option A → A
pick d None = d
pick d (Some a) = a

found : {A B : Type 0} (a : A) (r s : List Token) (x : Option B) (b : B) → option_map {U = B × List Token} (λ y. (y, r)) x ≡ Some (b, s) → (r ≡ s) × (x ≡ Some b)
found a r s None b e = absurd (cc)
found a r s (Some y) b e = let same = ap (pick (y, r)) e in (ap (λ p. p.1) same, ap (λ p. Some p.0) same)

pub converted_some : {A B : Type 0} (f : A → Option B) (o : Option (A × List Token)) (b : B) (r : List Token) → converted f o ≡ Some (b, r) → (a : A) × (o ≡ Some (a, r)) × (f a ≡ Some b)
converted_some f None b r e = absurd (cc)
converted_some f (Some p) b r e = let both = found p.0 p.1 r (f p.0) b e in (p.0, ap (λ s. Some (p.0, s)) both.0, both.1)

pub twice : {A B : Type 0} (g : A → B) (r : List Token) (x : Option A) → option_map (λ b. (b, r)) (option_map g x) ≡ parse_map g (option_map (λ a. (a, r)) x)
twice g r None = refl
twice g r (Some a) = refl

pub object_read : (o : Option (json.Members × List Token)) → converted of_json (parse_map json.object o) ≡ parse_map object (converted (λ ms. of_members ms no_members) o)
object_read None = refl
object_read (Some p) = twice object p.1 (of_members p.0 no_members)

with_member : (k : List ℕ) (j : json.Json) (d : Data) (old : Members) → of_json j ≡ Some d → (o : Option (json.Members × List Token))
    → converted (λ ms. of_members ms old) (parse_map (json.member k j) o) ≡ converted (λ ms. of_members ms (put k d old)) o
with_member k j d old e None = refl
with_member k j d old e (Some p) = rw e

pub member_read : (p : Parse json.Json) (old : Members) (n : ℕ) (k : List ℕ) (ts s r : List Token) (d : Data) → 0 < n → read_key ts ≡ Some (Some k, s) → converted of_json (p s) ≡ Some (d, r)
    → converted (λ ms. of_members ms old) (members p n ts) ≡ converted (λ ms. of_members ms (put k d old)) (members p (n - 1) r)
member_read p old n k ts s r d some key e =
    let j = converted_some of_json (p s) d r e in
    ap (converted (λ ms. of_members ms old)) (members_more p n k ts s r j.0 some key j.1) ∙ with_member k j.0 d old j.2 _

pub members_over : (p : Parse json.Json) (old : Members) (n : ℕ) (ts r : List Token) → length ts ≤ n → read_key ts ≡ Some (None, r) → converted (λ ms. of_members ms old) (members p n ts) ≡ Some (old, r)
members_over p old n ts r enough e = ap (converted (λ ms. of_members ms old)) (members_end p n ts r enough e)

abbrev whole : Option (json.Json × List Token) → Option Data
whole o = option_and_then of_json (option_and_then (λ p. if_last p.0 p.1) o)

pub text_read : (t : List ℕ) (d : Data) → converted of_json (value 127 (tokens_of t)) ≡ Some (d, []) → read t ≡ Some d
text_read t d e = let j = converted_some of_json (value 127 (tokens_of t)) d [] e in ap whole j.1 ∙ j.2

-- ---- the value that comes first

first_is_none : (a : Parse json.Items) (o : Parse json.Members) (ts r : List Token) (d : Data) → converted of_json (value_with a o ts) ≡ Some (d, r) → after_end_array ts ≡ None
first_is_none a o (tokens.end_array ∷ ts) r d e = absurd cc
first_is_none a o _ r d e = refl

-- a value ends no array
pub value_there : (depth : ℕ) (ts r : List Token) (d : Data) → converted of_json (value depth ts) ≡ Some (d, r) → after_end_array ts ≡ None
unfolding value
value_there zero ts r d e = first_is_none (λ ts. None) (λ ts. None) ts r d e
value_there (suc depth) ts r d e = first_is_none (λ ts. items (value depth) (length ts) ts) (λ ts. members (value depth) (length ts) ts) ts r d e

-- and takes a token
pub value_shorter : (depth : ℕ) (ts r : List Token) (d : Data) → converted of_json (value depth ts) ≡ Some (d, r) → length r < length ts
value_shorter depth ts r d e = let j = converted_some of_json (value depth ts) d r e in skip_value-shorter depth ts r (ap (λ (o : Option (json.Json × List Token)). option_map (λ p. p.1) o) j.1)
