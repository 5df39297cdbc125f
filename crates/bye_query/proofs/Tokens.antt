-- The tokens that a text splits into are values of the program's types.
use Rattle.std.proofs.Common.{ℕ, false, List, [], ◌∷◌, ◌⊎◌, inl, inr, sym, subst}
use Rattle.std.specs.List.{AllByRecursion}
use Rattle.bye_lex.specs.Languages.{Token as Longest}
use Rattle.bye_tokens.specs.Kinds.{Lexeme}
use Rattle.bye_tokens.specs.Splitting.{skip, BadToken, First, Splits}
use Rattle.bye_tokens.specs.declared.token.Placed.{Placed}
use Rattle.bye_tokens.specs.declared.token.Token.{Token}
use Rattle.bye_grammar.specs.Valid.{IsToken}

-- a token of some kind
of_kind : (text : List ℕ) (token : Token) → Lexeme text token → IsToken token
of_kind text token (inl (v, is, e)) = subst IsToken (sym e) tt
of_kind text token (inr (inl (v, is, e))) = subst IsToken (sym e) tt
of_kind text token (inr (inr (inl (v, is, e)))) = subst IsToken (sym e) is.1
of_kind text token (inr (inr (inr (inl (v, is, e))))) = subst IsToken (sym e) is.is
of_kind text token (inr (inr (inr (inr (inl (v, is, e)))))) = subst IsToken (sym e) tt
of_kind text token (inr (inr (inr (inr (inr (inl (inl (v, is, e)))))))) = subst IsToken (sym e) tt
of_kind text token (inr (inr (inr (inr (inr (inl (inr (v, is, e)))))))) = subst IsToken (sym e) tt
of_kind text token (inr (inr (inr (inr (inr (inr (v, is, e))))))) = subst IsToken (sym e) tt

first : (text own rest : List ℕ) (token : Token) → First text own rest token → IsToken token
first text own rest token f = by_case f.is where
  by_case : Longest Lexeme own rest token ⊎ BadToken text own token → IsToken token
  by_case (inl longest) = of_kind own token longest.is
  by_case (inr bad) = subst IsToken (sym bad.is) tt

-- all tokens
pub all_valid : (total : ℕ) (text : List ℕ) (ts : List Placed) → Splits total text ts → AllByRecursion (λ t. IsToken t.token) ts
all_valid total text [] split = tt
all_valid total text (t ∷ ts) (own, rest, f, at, more) = (first (skip false text) own rest t.token f, all_valid total rest ts more)
