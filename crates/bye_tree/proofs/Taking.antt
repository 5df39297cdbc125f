-- The conjuncts that are taken as conditions, and those that are left.
use Rattle.std.proofs.Common.{◌≡◌, refl, ◌==◌, length, arith, Bool, true, false, not, cond, ◌&&◌, ◌||◌, List, [], ◌∷◌, ◌++◌, Option, Some, None, is_some, map, Result, Ok, Err, OnOk, sym, ◌∙◌, ap, subst}
use Rattle.std.specs.List.{cons_option, filter, filter_map, flat_map, list_all}
use Rattle.std.proofs.lemmas.List.{append-nil, append_assoc}
use Rattle.std.proofs.lemmas.Bool.{eqb-true}
use Rattle.std.proofs.lemmas.List.Elements.{filter_map-append}
use Rattle.bye_table.specs.Mappings.{Name, is_in}
use Rattle.bye_pattern.specs.declared.cond.Cond.{Cond}
use Rattle.bye_pattern.specs.Conditions.{And, Expr, Or, cond_vars}
use Rattle.bye_pattern.specs.Gathered.{conjuncts, plain, within}
use Rattle.bye_tree.specs.declared.expr.Expr.{Expr as Item}
use Rattle.bye_tree.specs.Exprs.{expr_of, joined}
use Rattle.bye_tree.specs.Taken.{IsTaken, taken}

-- one that is taken, or left
pub one_taken : (root : Bool) (own : List Name) (e : Expr) (c : Cond) (old new : List Cond) (left_old left_new : List Expr) → taken root own e ≡ Some c → new ≡ old ++ c ∷ [] → left_new ≡ left_old
    → IsTaken root own (e ∷ []) old new left_old left_new
one_taken root own e c old new left_old left_new is n l = (
  n ∙ ap (λ o. old ++ cons_option o []) (sym is),
  l ∙ sym (append-nil left_old) ∙ ap (λ (o : Option Cond). left_old ++ cond (not (is_some o)) (e ∷ []) []) (sym is),
)

pub one_left : (root : Bool) (own : List Name) (e : Expr) (old new : List Cond) (left_old left_new : List Expr) → taken root own e ≡ None → new ≡ old → left_new ≡ left_old ++ e ∷ []
    → IsTaken root own (e ∷ []) old new left_old left_new
one_left root own e old new left_old left_new is n l = (
  n ∙ sym (append-nil old) ∙ ap (λ (o : Option Cond). old ++ cons_option o []) (sym is),
  l ∙ ap (λ (o : Option Cond). left_old ++ cond (not (is_some o)) (e ∷ []) []) (sym is),
)

-- some after others
filter_step : (b : Bool) (d : Expr) (ds es all : List Expr) → all ≡ ds ++ es → cond b (d ∷ all) all ≡ cond b (d ∷ ds) ds ++ es
filter_step true d ds es all e = ap (λ ds. d ∷ ds) e
filter_step false d ds es all e = e

filter_join : (f : Expr → Bool) (ds es : List Expr) → filter f (ds ++ es) ≡ filter f ds ++ filter f es
filter_join f [] es = refl
filter_join f (d ∷ ds) es = filter_step (f d) d (filter f ds) (filter f es) (filter f (ds ++ es)) (filter_join f ds es)

pub more_taken : (root : Bool) (own : List Name) (ds es : List Expr) (a b c : List Cond) (x y z : List Expr) → IsTaken root own ds a b x y → IsTaken root own es b c y z → IsTaken root own (ds ++ es) a c x z
more_taken root own ds es a b c x y z f g = (
  g.0 ∙ ap (λ b. b ++ filter_map (taken root own) es) f.0 ∙ append_assoc a (filter_map (taken root own) ds) (filter_map (taken root own) es)
      ∙ ap (λ cs. a ++ cs) (sym (filter_map-append (taken root own) ds es)),
  g.1 ∙ ap (λ y. y ++ filter (λ e. not (is_some (taken root own e))) es) f.1 ∙ append_assoc x (filter (λ e. not (is_some (taken root own e))) ds) (filter (λ e. not (is_some (taken root own e))) es)
      ∙ ap (λ ds. x ++ ds) (sym (filter_join (λ e. not (is_some (taken root own e))) ds es)),
)

-- a plain condition, by whether its variables are own
and_true : (b : Bool) → (b && true) ≡ b
and_true true = refl
and_true false = refl

pub own_taken : (root : Bool) (own : List Name) (c : Cond) (b r : Bool) → list_all (is_in own) (cond_vars c) ≡ b → r ≡ (not root || b) → r ≡ true → cond root (within own (Some c)) (Some c) ≡ Some c
own_taken true own c b r all is yes1 = ap (λ b. cond b (Some c) None) (all ∙ sym is ∙ yes1)
own_taken false own c b r all is yes1 = refl

pub own_left : (root : Bool) (own : List Name) (c : Cond) (b r : Bool) → list_all (is_in own) (cond_vars c) ≡ b → r ≡ (not root || b) → r ≡ false → cond root (within own (Some c)) (Some c) ≡ None
own_left true own c b r all is no1 = ap (λ b. cond b (Some c) None) (all ∙ sym is ∙ no1)
own_left false own c b r all is no1 = let k : true ≡ false = sym is ∙ no1 in cc

pub one_var : (own : List Name) (v : Name) → list_all (is_in own) (v ∷ []) ≡ is_in own v
one_var own v = and_true (is_in own v)

pub two_vars : (own : List Name) (v w : Name) → list_all (is_in own) (v ∷ w ∷ []) ≡ (is_in own v && is_in own w)
two_vars own v w = ap (λ b. is_in own v && b) (and_true (is_in own w))

-- what is not plain is left
pub none_taken : (root : Bool) (own : List Name) → cond root (within own None) None ≡ None
none_taken true own = refl
none_taken false own = refl

-- the conjuncts of several
pub and_conjuncts : (d : Expr) (es : List Expr) → conjuncts (joined And d es) ≡ conjuncts d ++ flat_map conjuncts es
and_conjuncts d [] = sym (append-nil (conjuncts d))
and_conjuncts d (e ∷ es) = and_conjuncts (And d e) es ∙ append_assoc (conjuncts d) (conjuncts e) (flat_map conjuncts es)

pub or_conjuncts : (d e : Expr) (es : List Expr) → conjuncts (joined Or (Or d e) es) ≡ joined Or (Or d e) es ∷ []
or_conjuncts d e [] = refl
or_conjuncts d e (x ∷ es) = or_conjuncts (Or d e) x es

pub or_plain : (d e : Expr) (es : List Expr) → plain (joined Or (Or d e) es) ≡ None
or_plain d e [] = refl
or_plain d e (x ∷ es) = or_plain (Or d e) x es

-- at the return of a call that takes or leaves it
pub leave_on : {T E : Type 0} (r : Result T E) (root : Bool) (own : List Name) (e built : Expr) (conds : List Cond) (old new : List Expr) → built ≡ e → conjuncts e ≡ e ∷ [] → taken root own e ≡ None
    → OnOk r (new ≡ old ++ built ∷ []) → OnOk r (IsTaken root own (conjuncts e) conds conds old new)
leave_on (Ok v) root own e built conds old new b one is h =
    subst (λ (es : List Expr). IsTaken root own es conds conds old new) (sym one) (one_left root own e conds conds old new is refl (h ∙ ap (λ x. old ++ x ∷ []) b))
leave_on (Err x) root own e built conds old new b one is h = tt

pub take_on : {T E : Type 0} (r : Result T E) (root : Bool) (own : List Name) (e : Expr) (c : Cond) (old new : List Cond) (left : List Expr) → conjuncts e ≡ e ∷ [] → taken root own e ≡ Some c
    → OnOk r (new ≡ old ++ c ∷ []) → OnOk r (IsTaken root own (conjuncts e) old new left left)
take_on (Ok v) root own e c old new left one is h = subst (λ (es : List Expr). IsTaken root own es old new left left) (sym one) (one_taken root own e c old new left left is h refl)
take_on (Err x) root own e c old new left one is h = tt

pub same_on : {T E : Type 0} (r : Result T E) (root : Bool) (own : List Name) (d e : Expr) (old new : List Cond) (left_old left_new : List Expr) → e ≡ d
    → OnOk r (IsTaken root own (conjuncts d) old new left_old left_new) → OnOk r (IsTaken root own (conjuncts e) old new left_old left_new)
same_on (Ok v) root own d e old new left_old left_new is h = subst (λ (e : Expr). IsTaken root own (conjuncts e) old new left_old left_new) (sym is) h
same_on (Err x) root own d e old new left_old left_new is h = tt

-- the expressions of the code
pub one_conjunct : (e d : Expr) → e ≡ d → conjuncts d ≡ d ∷ [] → conjuncts e ≡ e ∷ []
one_conjunct e d is one = ap conjuncts is ∙ one ∙ ap (λ d. d ∷ []) (sym is)

pub one_more : (es : List Item) (m : Item) → flat_map conjuncts (map expr_of (es ++ m ∷ [])) ≡ flat_map conjuncts (map expr_of es) ++ conjuncts (expr_of m)
one_more [] m = append-nil (conjuncts (expr_of m))
one_more (e ∷ es) m = ap (λ ds. conjuncts (expr_of e) ++ ds) (one_more es m) ∙ sym (append_assoc (conjuncts (expr_of e)) (flat_map conjuncts (map expr_of es)) (conjuncts (expr_of m)))

pub single : (e d : Expr) (es : List Item) (r : Bool) → e ≡ joined Or d (map expr_of es) → r ≡ (length es == 0) → r ≡ true → e ≡ d
single e d [] r is none sure = is
single e d (x ∷ es) r is none sure = let k : length (x ∷ es) ≡ 0 = eqb-true (length (x ∷ es)) 0 (sym none ∙ sure) in absurd (omega arith)

pub several_conjuncts : (e d : Expr) (es : List Item) → e ≡ joined Or d (map expr_of es) → (es ≡ [] → ⊥) → conjuncts e ≡ e ∷ []
several_conjuncts e d [] is some = absurd (some refl)
several_conjuncts e d (x ∷ es) is some = one_conjunct e (joined Or (Or d (expr_of x)) (map expr_of es)) is (or_conjuncts d (expr_of x) (map expr_of es))

pub several_left : (root : Bool) (own : List Name) (e d : Expr) (es : List Item) → e ≡ joined Or d (map expr_of es) → (es ≡ [] → ⊥) → taken root own e ≡ None
several_left root own e d [] is some = absurd (some refl)
several_left root own e d (x ∷ es) is some = ap (λ (o : Option Cond). cond root (within own o) o) (ap plain is ∙ or_plain d (expr_of x) (map expr_of es)) ∙ none_taken root own

pub and_taken : (root : Bool) (own : List Name) (e d : Expr) (later yielded : List Item) (a b c : List Cond) (x y z : List Expr) → e ≡ joined And d (map expr_of later) → yielded ≡ later → (first : Expr) → first ≡ d
    → IsTaken root own (conjuncts first) a b x y → IsTaken root own (flat_map conjuncts (map expr_of yielded)) b c y z → IsTaken root own (conjuncts e) a c x z
and_taken root own e d later yielded a b c x y z is all first same f g =
    let parts : conjuncts e ≡ conjuncts first ++ flat_map conjuncts (map expr_of yielded) =
    ap conjuncts is ∙ and_conjuncts d (map expr_of later) ∙ (λ i. conjuncts (sym same i) ++ flat_map conjuncts (map expr_of (sym all i))) in
    subst (λ (es : List Expr). IsTaken root own es a c x z) (sym parts) (more_taken root own (conjuncts first) (flat_map conjuncts (map expr_of yielded)) a b c x y z f g)
