-- The tokens of FILTERs.
use Rattle.std.proofs.Common.{◌≡◌, refl, ℕ, suc, List, ◌∷◌, [], ◌++◌, Some, None}
use Rattle.bye_pattern.specs.declared.slot.Slot.{Slot}
use Rattle.bye_pattern.specs.declared.slot.Slot.TheVariants.{Var, Const}
use Rattle.bye_pattern.specs.declared.kind.Kind.{Kind}
use Rattle.bye_pattern.specs.declared.kind.Kind.TheVariants as kinds
use Rattle.bye_pattern.specs.declared.cond.Cond.{Cond}
use Rattle.bye_pattern.specs.declared.cond.Cond.TheVariants as conds
use Rattle.bye_pattern.specs.Conditions.{Expr, IsBound, Same, KindOf, Not, And, Or, cond_expr}
use Rattle.bye_pattern.specs.Printed.{is_call}
use Rattle.bye_pattern.specs.Written.{Filter}
use Rattle.bye_table.specs.Mappings.{Name}
use Rattle.bye_tokens.specs.declared.token.Placed.{Placed}
use Rattle.bye_tokens.specs.declared.token.Token.{Token}
use Rattle.bye_tokens.specs.declared.token.Token.TheVariants.{Variable, Keyword, Mark}
use Rattle.bye_tokens.specs.declared.sign.Sign.TheVariants as signs
use Rattle.bye_tokens.specs.declared.word.Word.TheVariants as words
use Rattle.bye_parts.specs.Parts.{Part, ◌>>=◌, ◌>>◌, yield, repeated}
use Rattle.bye_grammar.specs.declared.place.Place.{Place}
use Rattle.bye_grammar.specs.declared.place.Place.TheVariants.{Outer, Inner}
use Rattle.bye_grammar.specs.Fits as fits
use Rattle.bye_grammar.specs.Values.{negated, grouped}
use Rattle.bye_grammar.specs.Grammar.{parenthesized, argument, arguments, call, unary, disjunction, primary, filter}
use Rattle.bye_grammar.specs.Valid.{IsSlot, IsExpr}
use Rattle.bye_written.specs.Written.{slot_tokens, kind_word, in_brackets, inner_tokens, expr_tokens, filter_tokens}
use Rattle.bye_readback.proofs.Writes.{Writes, writes_one, writes_then, writes_first, writes_last, writes_yield, writes_mapped, writes_left, writes_right, writes_none, writes_some, writes_no_rounds, writes_only_round, writes_between}
use Rattle.bye_readback.proofs.Slots.{writes_sign, writes_word, writes_variable, object_writes, constant_writes}
use Rattle.bye_readback.proofs.Depths.{Later, later, both_later, deeper, from_one}

in_parentheses : {V : Type 0} {P : Part Placed V} {xs : List Token} {v : V} → Writes P xs v → Writes (parenthesized P) (in_brackets xs) v
in_parentheses f = writes_between (fits.is_sign signs.Open) (fits.is_sign signs.Close) (Mark signs.Open) (Mark signs.Close) tt tt refl refl f

variable_argument : (place : Place) (v : Name) → IsSlot (Var v) → Writes (argument [] place) (Variable v ∷ []) (Var v)
variable_argument Outer v h = object_writes (Var v) h
variable_argument Inner v h = writes_mapped Var (writes_variable v)

variable_first : (place : Place) (v : Name) (t : Slot) → IsSlot t → Writes (arguments [] place) (Variable v ∷ Mark signs.Comma ∷ slot_tokens t) (Same (Var v) t)
variable_first place v t h = writes_left (writes_then (writes_variable v) (writes_then (writes_sign signs.Comma) (writes_last (Same (Var v)) (object_writes t h))))

both_arguments : (s t : Slot) → IsSlot s → IsSlot t → Writes (arguments [] Outer) (slot_tokens s ++ Mark signs.Comma ∷ slot_tokens t) (Same s t)
both_arguments (Var v) t h k = variable_first Outer v t k
both_arguments (Const c) t h k = writes_right (writes_then (constant_writes c h) (writes_then (writes_sign signs.Comma) (writes_last (Same (Const c)) (object_writes t k))))

kind_fits : (kind : Kind) → fits.kind_test (Keyword (kind_word kind)) ≡ Some kind
kind_fits kinds.Iri = refl
kind_fits kinds.Blank = refl
kind_fits kinds.Literal = refl

module _ (place : Place) (d : ℕ) where
  bound_writes : (v : Name) → Writes (call [] place (suc d)) (expr_tokens (IsBound v)) (IsBound v)
  bound_writes v = writes_left (writes_then (writes_word words.Bound) (in_parentheses (writes_mapped IsBound (writes_variable v))))

  same_term_writes : (s t : Slot) → Writes (arguments [] place) (slot_tokens s ++ Mark signs.Comma ∷ slot_tokens t) (Same s t) → Writes (call [] place (suc d)) (expr_tokens (Same s t)) (Same s t)
  same_term_writes s t f = writes_right (writes_left (writes_then (writes_word words.SameTerm) (in_parentheses f)))

  kind_writes : (kind : Kind) (s : Slot) → Writes (argument [] place) (slot_tokens s) s → Writes (call [] place (suc d)) (expr_tokens (KindOf kind s)) (KindOf kind s)
  kind_writes kind s f = writes_right (writes_right (writes_then (writes_one fits.kind_test (Keyword (kind_word kind)) kind (kind_fits kind)) (in_parentheses (writes_mapped (KindOf kind) f))))

  cond_writes : (c : Cond) → IsExpr (cond_expr c) → Writes (call [] place (suc d)) (expr_tokens (cond_expr c)) (cond_expr c)
  cond_writes (conds.Bound v) h = bound_writes v
  cond_writes (conds.SameVar v w) h = same_term_writes (Var v) (Var w) (variable_first place v (Var w) h.1)
  cond_writes (conds.SameConst v c) h = same_term_writes (Var v) (Const c) (variable_first place v (Const c) h.1)
  cond_writes (conds.KindOf kind v) h = kind_writes kind (Var v) (variable_argument place v h)

-- expressions with an operator between them
abbrev chain : (Expr → Expr → Expr) → Part Placed (Unit {0}) → Part Placed Expr → Part Placed Expr
chain op between P = do
  e ← P
  es ← repeated (between >> P)
  yield (grouped op e es)

module _ {op : Expr → Expr → Expr} {between : Part Placed (Unit {0})} {P : Part Placed Expr} where
  chain_of_one : {xs : List Token} {e : Expr} → Writes P xs e → Writes (chain op between P) xs e
  chain_of_one {e = e} f = writes_first f (writes_then writes_no_rounds (writes_yield e))

  chain_of_two : {xs ys : List Token} {x : Token} {d e : Expr} → Writes P xs d → Writes between (x ∷ []) tt → Writes P ys e → Writes (chain op between P) (xs ++ x ∷ ys) (op d e)
  chain_of_two {d = d} f between g = writes_then f (writes_last (grouped op d) (writes_only_round (writes_then between g)))

module _ {P : Part Placed Expr} {xs : List Token} {e : Expr} (f : Writes P xs e) where
  affirmed : (place : Place) → Writes (unary place P) xs e
  affirmed place = writes_then writes_none (writes_last (negated None) f)

  denied : Writes (unary Outer P) (Mark signs.Bang ∷ xs) (Not e)
  denied = writes_then (writes_some (writes_one (fits.outer_sign Outer signs.Bang) (Mark signs.Bang) tt refl)) (writes_last (negated (Some tt)) f)

  by_itself : (place : Place) → Writes (disjunction place P) xs e
  by_itself place = chain_of_one (chain_of_one (affirmed place))

module _ {P : Part Placed Expr} {xs ys : List Token} {d e : Expr} (f : Writes P xs d) (g : Writes P ys e) where
  joined_by_and : Writes (disjunction Outer P) (xs ++ Mark signs.And ∷ ys) (And d e)
  joined_by_and = chain_of_one (chain_of_two (affirmed f Outer) (writes_sign signs.And) (affirmed g Outer))

  joined_by_or : Writes (disjunction Outer P) (xs ++ Mark signs.Or ∷ ys) (Or d e)
  joined_by_or = chain_of_two (chain_of_one (affirmed f Outer)) (writes_one (fits.outer_sign Outer signs.Or) (Mark signs.Or) tt refl) (chain_of_one (affirmed g Outer))

-- the expression is written so within another one, and so by itself, from some depth on
record IsWritten (inner whole : List Token) (e : Expr) : Type 0 where
  within : Later (λ d. Writes (primary [] Outer d) inner e)
  alone : Later (λ d. Writes (disjunction Outer (primary [] Outer d)) whole e)

of_call : {xs : List Token} {e : Expr} → ((d : ℕ) → Writes (call [] Outer (suc d)) xs e) → IsWritten xs xs e
of_call f = record { within = from_one (λ d. writes_right (f d)); alone = from_one (λ d. by_itself (writes_right (f d)) Outer) }

of_operator : {xs : List Token} {e : Expr} → Later (λ d. Writes (disjunction Outer (primary [] Outer d)) xs e) → IsWritten (in_brackets xs) xs e
of_operator f = record { within = deeper (λ d g. writes_left (in_parentheses g)) f; alone = f }

expr_written : (e : Expr) → IsExpr e → IsWritten (inner_tokens (is_call e) (expr_tokens e)) (expr_tokens e) e
expr_written (IsBound v) h = of_call (λ d. bound_writes Outer d v)
expr_written (Same s t) h = of_call (λ d. same_term_writes Outer d s t (both_arguments s t h.0 h.1))
expr_written (KindOf kind s) h = of_call (λ d. kind_writes Outer d kind s (object_writes s h))
expr_written (Not e) h = of_operator (later (λ d f. chain_of_one (chain_of_one (denied f))) (expr_written e h).within)
expr_written (And d e) h = of_operator (both_later (λ n f g. joined_by_and f g) (expr_written d h.0).within (expr_written e h.1).within)
expr_written (Or d e) h = of_operator (both_later (λ n f g. joined_by_or f g) (expr_written d h.0).within (expr_written e h.1).within)

-- the expression is written so in a FILTER of this place, from some depth on
abbrev pub IsFiltered : Place → Expr → Type 0
IsFiltered place e = Later (λ d. Writes (filter [] place d) (filter_tokens e) (Filter e))

filtered : (place : Place) (e : Expr) → Later (λ d. Writes (disjunction place (primary [] place d)) (expr_tokens e) e) → IsFiltered place e
filtered place e f = deeper (λ d g. writes_then (writes_word words.Filter) (writes_last Filter (writes_left (in_parentheses g)))) f

pub expr_filtered : (e : Expr) → IsExpr e → IsFiltered Outer e
expr_filtered e h = filtered Outer e (expr_written e h).alone

pub cond_filtered : (place : Place) (c : Cond) → IsExpr (cond_expr c) → IsFiltered place (cond_expr c)
cond_filtered place c h = filtered place (cond_expr c) (from_one (λ d. by_itself (writes_right (cond_writes place d c h)) place))
