-- One token of a line of JSON at a time, and where a reader stands after it.
use Rattle.std.proofs.Common.{◌≡◌, ℕ, ◌+◌, ◌≤◌, ◌<◌, Bool, Some, true, false, List, [], ◌∷◌, length, drop, get_or, ◌⊎◌, inl, inr, refl, arith, ap, sym, ◌∙◌}
use Rattle.std.specs.Bool.{MatchBool}
use Rattle.std.proofs.lemmas.List.{drop_all}
use Rattle.json.specs.Json.{after_end_array}
use Rattle.json.specs.Token.{Token}
use Rattle.json.specs.Token as tokens
use Rattle.json.specs.Lex as lexer
use Rattle.json.specs.Lex.{Lexeme, after_value, begins_colon, between, colon, comma, fresh, lex, may_close, punctuate, token}
use Rattle.text_columns.specs.declared.plain_reader.Place.TheVariants.{AfterComma, AfterValue}
use Rattle.text_columns.specs.declared.plain_reader.Stand.{Stand}
use Rattle.text_columns.specs.inner.Lexemes.{IsLexeme, IsScalar}
use Rattle.text_columns.specs.inner.Stands.{Begins, Closes, FollowsValue, tokens_at}
use Rattle.text_columns.proofs.LexemeGrammar.{array_first, end_array_first, end_object_first, first_byte, key_first, object_first, scalar_first}

-- ---- after a value

module _ (d : List ℕ) (end at : ℕ) (same : lex between (drop at d) ≡ lex between (drop end d)) where
  pub follows_end : length d ≤ at → at ≤ length d → FollowsValue d end (record { at = at; place = AfterValue })
  unfolding lex
  follows_end le within = record {
    within = within;
    no_colon = ap begins_colon (sym same ∙ ap (lex between) (drop_all at d le));
    same = ap (punctuate after_value) (sym same);
  }

  pub follows_comma : at < length d → get_or d at 0 ≡ 44 → (next : ℕ) → next ≤ length d → lex between (drop next d) ≡ lex between (drop (at + 1) d)
      → FollowsValue d end (record { at = next; place = AfterComma })
  unfolding lex punctuate
  follows_comma lt is next within passed =
      let here : lex between (drop end d) ≡ comma ∷ lex between (drop (at + 1) d) = sym same ∙ ap (lex between) (first_byte d at 44 lt is) in
      record { within = within; no_colon = ap begins_colon here; same = ap (punctuate after_value) here ∙ ap (punctuate lexer.after_comma) (sym passed) }

  pub follows_bracket : at < length d → (get_or d at 0 ≡ 93) ⊎ (get_or d at 0 ≡ 125) → FollowsValue d end (record { at = at; place = AfterValue })
  unfolding lex
  follows_bracket lt (inl is) = record {
    within = omega arith;
    no_colon = ap begins_colon (sym same ∙ ap (lex between) (first_byte d at 93 lt is));
    same = ap (punctuate after_value) (sym same);
  }
  follows_bracket lt (inr is) = record {
    within = omega arith;
    no_colon = ap begins_colon (sym same ∙ ap (lex between) (first_byte d at 125 lt is));
    same = ap (punctuate after_value) (sym same);
  }

-- ---- a value

pub begins_scalar : (d : List ℕ) (from end : ℕ) (t : Token) (s : Stand) → IsLexeme d from end t → IsScalar t → FollowsValue d end s → Begins d from t s
begins_scalar d from end t s l scalar f = record {
  within = f.within;
  first = λ p may. ap (punctuate p) l.first ∙ scalar_first p t (lex between (drop end d)) scalar may f.no_colon ∙ ap (λ (ts : List Token). t ∷ ts) f.same;
}

module _ (d : List ℕ) (from : ℕ) (s : Stand) (lt : from < length d) (within : s.at ≤ length d) (same : tokens_at s.place (drop s.at d) ≡ punctuate fresh (lex between (drop (from + 1) d))) where
  pub begins_array : get_or d from 0 ≡ 91 → Begins d from tokens.begin_array s
  unfolding lex
  begins_array is = record {
    within = within;
    first = λ p may. ap (λ (xs : List ℕ). punctuate p (lex between xs)) (first_byte d from 91 lt is) ∙ array_first p (lex between (drop (from + 1) d)) may ∙ ap (λ (ts : List Token). tokens.begin_array ∷ ts) (sym same);
  }

  pub begins_object : get_or d from 0 ≡ 123 → Begins d from tokens.begin_object s
  unfolding lex
  begins_object is = record {
    within = within;
    first = λ p may. ap (λ (xs : List ℕ). punctuate p (lex between xs)) (first_byte d from 123 lt is) ∙ object_first p (lex between (drop (from + 1) d)) may ∙ ap (λ (ts : List Token). tokens.begin_object ∷ ts) (sym same);
  }

-- ---- a key

pub begins_key : (d : List ℕ) (from end at : ℕ) (k : List ℕ) (s : Stand) → IsLexeme d from end (tokens.string k) → lex between (drop at d) ≡ lex between (drop end d) → at < length d → get_or d at 0 ≡ 58
    → s.at ≤ length d → tokens_at s.place (drop s.at d) ≡ punctuate fresh (lex between (drop (at + 1) d)) → Begins d from (tokens.key k) s
unfolding lex
begins_key d from end at k s l passed lt is within same =
    let here : lex between (drop end d) ≡ colon ∷ lex between (drop (at + 1) d) = sym passed ∙ ap (lex between) (first_byte d at 58 lt is) in
    record {
      within = within;
      first = λ p may. ap (punctuate p) (l.first ∙ ap (λ (ls : List Lexeme). token (tokens.string k) ∷ ls) here) ∙ key_first p k (lex between (drop (at + 1) d)) may ∙ ap (λ (ts : List Token). tokens.key k ∷ ts) (sym same);
    }

-- ---- a closing bracket

pub closes_array : (d : List ℕ) (from : ℕ) (s : Stand) → from < length d → get_or d from 0 ≡ 93 → FollowsValue d (from + 1) s → Closes d from tokens.end_array s
unfolding lex
closes_array d from s lt is f = record {
  within = f.within;
  first = λ p may. ap (λ (xs : List ℕ). punctuate p (lex between xs)) (first_byte d from 93 lt is) ∙ end_array_first p (lex between (drop (from + 1) d)) may ∙ ap (λ (ts : List Token). tokens.end_array ∷ ts) f.same;
}

pub closes_object : (d : List ℕ) (from : ℕ) (s : Stand) → from < length d → get_or d from 0 ≡ 125 → FollowsValue d (from + 1) s → Closes d from tokens.end_object s
unfolding lex
closes_object d from s lt is f = record {
  within = f.within;
  first = λ p may. ap (λ (xs : List ℕ). punctuate p (lex between xs)) (first_byte d from 125 lt is) ∙ end_object_first p (lex between (drop (from + 1) d)) may ∙ ap (λ (ts : List Token). tokens.end_object ∷ ts) f.same;
}

-- ---- the end

pub at_last : (p : lexer.Place) (d : List ℕ) (at : ℕ) → length d ≤ at → may_close p ≡ true → punctuate p (lex between (drop at d)) ≡ []
unfolding lex punctuate
at_last lexer.fresh d at le may = ap (λ (xs : List ℕ). punctuate fresh (lex between xs)) (drop_all at d le)
at_last lexer.after_value d at le may = ap (λ (xs : List ℕ). punctuate after_value (lex between xs)) (drop_all at d le)
at_last lexer.after_comma d at le may = absurd cc
at_last lexer.after_key d at le may = absurd cc

pub array_ended : (b : Bool) (old new : List Token) → (b ≡ true → old ≡ tokens.end_array ∷ new) → (b ≡ false → new ≡ old) → MatchBool b (after_end_array old ≡ Some new) (new ≡ old)
array_ended true old new closes stays = ap after_end_array (closes refl)
array_ended false old new closes stays = stays refl
