-- Lexemes of a line of JSON, by where they stand.
use Rattle.std.specs.Prelude.{◌≡◌, ◌<◌, ◌≤◌, ◌==◌, ◌||◌, nat_lt, not, ⊤, ℕ, Bool, true, false, List, [], ◌∷◌, length, drop}
use Rattle.json.specs.Ascii as ascii
use Rattle.json.specs.Token.{Token}
use Rattle.json.specs.Token as tokens
use Rattle.json.specs.Lex.{between, lex, token}

-- a byte that stands for itself in a string
abbrev pub is_plain : ℕ → Bool
is_plain x = not ((x == 34) || (x == 92) || nat_lt x 32)

-- the lexeme of a token from a place up to another
pub record IsLexeme (line : List ℕ) (from end : ℕ) (t : Token) : Type 0 where
  pub low : from < end
  pub high : end ≤ length line
  pub first : lex between (drop from line) ≡ token t ∷ lex between (drop end line)

-- a token that is a value by itself
abbrev pub IsScalar : Token → Type 0
IsScalar tokens.begin_object = ⊥
IsScalar tokens.end_object = ⊥
IsScalar tokens.begin_array = ⊥
IsScalar tokens.end_array = ⊥
IsScalar (tokens.key s) = ⊥
IsScalar (tokens.string s) = ⊤
IsScalar (tokens.number s) = ⊤
IsScalar (tokens.boolean b) = ⊤
IsScalar tokens.null = ⊤
IsScalar tokens.bad = ⊥

-- the token of a literal
abbrev pub literal_text : Token → List ℕ
literal_text tokens.begin_object = []
literal_text tokens.end_object = []
literal_text tokens.begin_array = []
literal_text tokens.end_array = []
literal_text (tokens.key s) = []
literal_text (tokens.string s) = []
literal_text (tokens.number s) = []
literal_text (tokens.boolean true) = ascii.true_text
literal_text (tokens.boolean false) = ascii.false_text
literal_text tokens.null = ascii.null_text
literal_text tokens.bad = []

-- a name of a literal, and its token
abbrev pub IsLiteral : List ℕ → Token → Type 0
IsLiteral name t = (name ≡ literal_text t) × (0 < length name)
