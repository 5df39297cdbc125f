-- Expressions as they are written.
use Rattle.std.proofs.Common.{refl, ℕ, Bool, true, false, List, ◌++◌}
use Rattle.bye_pattern.specs.Conditions.{Expr, IsBound, Same, KindOf, Not, And, Or}
use Rattle.bye_pattern.specs.Printed.{is_call, bracketed, expr_text}
use Rattle.bye_pattern.specs.declared.kind.Kind.TheVariants as kinds
use Rattle.bye_grammar.specs.Valid.{IsExpr}
use Rattle.bye_tokens.specs.declared.token.Token.{Token}
use Rattle.bye_written.specs.Written.{inner_tokens, expr_tokens}
use Rattle.bye_written.proofs.Joined.{Spells, Any, joined, and_then, between}
use Rattle.bye_written.proofs.Keywords.{bound_of, same_term_of, kind_of}
use Rattle.bye_written.proofs.Signs.{NoEqual, open_bracket, close_bracket, comma, and_sign, or_sign, bang}
use Rattle.bye_written.proofs.Terms.{variable, slot}

inner : (b : Bool) {text : List ℕ} {ts : List Token} → Spells Any text ts → Spells Any (bracketed b text) (inner_tokens b ts)
inner true x = x
inner false x = and_then open_bracket (and_then x close_bracket)

no_equal : (e : Expr) (rest : List ℕ) → NoEqual (bracketed (is_call e) (expr_text e) ++ rest)
no_equal (IsBound v) rest = refl
no_equal (Same s t) rest = refl
no_equal (KindOf kinds.Iri s) rest = refl
no_equal (KindOf kinds.Blank s) rest = refl
no_equal (KindOf kinds.Literal s) rest = refl
no_equal (Not e) rest = refl
no_equal (And d e) rest = refl
no_equal (Or d e) rest = refl

pub expression : (e : Expr) → IsExpr e → Spells Any (expr_text e) (expr_tokens e)
expression (IsBound v) valid = joined (and_then bound_of (variable v valid)) close_bracket (λ rest q. refl)
expression (Same s t) valid = joined (between (and_then same_term_of (slot s valid.0)) comma (slot t valid.1) (λ rest. refl)) close_bracket (λ rest q. refl)
expression (KindOf kind s) valid = joined (and_then (kind_of kind) (slot s valid)) close_bracket (λ rest q. refl)
expression (Not e) valid = joined bang (inner (is_call e) (expression e valid)) (λ rest q. no_equal e rest)
expression (And d e) valid = between (inner (is_call d) (expression d valid.0)) and_sign (inner (is_call e) (expression e valid.1)) (λ rest. tt)
expression (Or d e) valid = between (inner (is_call d) (expression d valid.0)) or_sign (inner (is_call e) (expression e valid.1)) (λ rest. tt)
