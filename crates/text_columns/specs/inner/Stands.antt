-- Where a reader of a line of JSON stands, and the tokens that are left to it.
use Rattle.std.specs.Prelude.{◌≡◌, ◌≤◌, ℕ, true, false, List, ◌∷◌, length, drop}
use Rattle.json.specs.Token.{Token}
use Rattle.json.specs.Lex as lexer
use Rattle.json.specs.Lex.{after_comma, after_value, begins_colon, between, fresh, lex, may_begin, may_close, punctuate}
use Rattle.text_columns.specs.declared.plain_reader.Place.{Place}
use Rattle.text_columns.specs.declared.plain_reader.Place.TheVariants.{AfterComma, AfterValue, Fresh}
use Rattle.text_columns.specs.declared.plain_reader.Stand.{Stand}

abbrev pub place_of : Place → lexer.Place
place_of Fresh = fresh
place_of AfterValue = after_value
place_of AfterComma = after_comma

-- the tokens of a text, after what was read before it
abbrev pub tokens_at : Place → List ℕ → List Token
tokens_at p text = punctuate (place_of p) (lex between text)

-- a comma, a closing bracket or the end follows a value that ends at a place
pub record FollowsValue (line : List ℕ) (end : ℕ) (s : Stand) : Type 0 where
  pub within : s.at ≤ length line
  pub no_colon : begins_colon (lex between (drop end line)) ≡ false
  pub same : punctuate after_value (lex between (drop end line)) ≡ tokens_at s.place (drop s.at line)

-- if a value or a key may begin, it begins with this token
pub record Begins (line : List ℕ) (from : ℕ) (t : Token) (s : Stand) : Type 0 where
  pub within : s.at ≤ length line
  pub first : (p : lexer.Place) → may_begin p ≡ true → punctuate p (lex between (drop from line)) ≡ t ∷ tokens_at s.place (drop s.at line)

-- if a bracket may close, this one does
pub record Closes (line : List ℕ) (from : ℕ) (t : Token) (s : Stand) : Type 0 where
  pub within : s.at ≤ length line
  pub first : (p : lexer.Place) → may_close p ≡ true → punctuate p (lex between (drop from line)) ≡ t ∷ tokens_at s.place (drop s.at line)
