-- Expressions that are joined from the left, and their text from left to right.
use Rattle.std.proofs.Common.{◌≡◌, refl, ℕ, Bool, true, false, List, [], ◌∷◌, ◌++◌, ◌==◌, codes, length, map, sym, ◌∙◌, ap, subst, append_assoc, ◌+◌, ◌<◌, get_or, take, arith, Result, Ok, Err, OnOk}
use Rattle.std.proofs.lemmas.List.{append-nil, flat_map_more, map_more}
use Rattle.std.proofs.lemmas.Bool.Decides.{nat_tests}
use Rattle.std.specs.List.{AllByRecursion, flat_map}
use Rattle.bye_pattern.specs.Conditions.{Expr, And, Or}
use Rattle.bye_pattern.specs.Printed.{bracketed, expr_text, filter_line, is_call}
use Rattle.bye_tree.specs.declared.expr.Expr.{Expr as Item}
use Rattle.bye_tree.specs.Exprs.{expr_of, joined}
use Rattle.bye_grammar.specs.Valid.{IsExpr}
use Rattle.bye_printer.specs.Joined.{closed, inner_text, joined_text, opened}

-- an opening bracket stands before the others as it stands after them
opened_more : (ds : List Expr) (text : List ℕ) → opened ds ++ (codes "(" ++ text) ≡ codes "(" ++ (opened ds ++ text)
opened_more [] text = refl
opened_more (d ∷ ds) text = ap (λ text. codes "(" ++ text) (opened_more ds text)

-- the text of an operator, and that it is no call
record IsJoin (op : Expr → Expr → Expr) (sign : List ℕ) : Type 0 where
  text : (d e : Expr) → expr_text (op d e) ≡ inner_text d ++ sign ++ inner_text e
  plain : (d e : Expr) → is_call (op d e) ≡ false
  valid : (d e : Expr) → IsExpr d → IsExpr e → IsExpr (op d e)

regrouped : (ds : List Expr) (e s d f : List ℕ) → opened ds ++ (codes "(" ++ (e ++ s ++ d) ++ codes ")") ++ f ≡ (codes "(" ++ opened ds) ++ e ++ (s ++ d ++ codes ")" ++ f)
regrouped ds e s d f =
    let rest : List ℕ = s ++ (d ++ (codes ")" ++ f)) in
    simp append_assoc (opened_more ds (e ++ rest) ∙ ap (λ text. codes "(" ++ text) (sym (append_assoc (opened ds) e rest)))

joined_is : (op : Expr → Expr → Expr) (sign : List ℕ) → IsJoin op sign → (e : Expr) (ds : List Expr) → inner_text (joined op e ds) ≡ joined_text sign e ds
joined_is op sign is e [] = sym (append-nil (inner_text e))
joined_is op sign is e (d ∷ ds) =
    joined_is op sign is (op e d) ds ∙ (λ i. opened ds ++ bracketed (is.plain e d i) (is.text e d i) ++ flat_map (closed sign) ds)
    ∙ regrouped ds (inner_text e) sign (inner_text d) (flat_map (closed sign) ds)

joined_valid : (op : Expr → Expr → Expr) (sign : List ℕ) → IsJoin op sign → (e : Expr) (ds : List Expr) → IsExpr e × AllByRecursion IsExpr ds → IsExpr (joined op e ds)
joined_valid op sign is e [] h = h.0
joined_valid op sign is e (d ∷ ds) h = joined_valid op sign is (op e d) ds (is.valid e d h.0 h.1.0, h.1.1)

and_join : IsJoin And (codes " && ")
and_join = record { text = λ d e. refl; plain = λ d e. refl; valid = λ d e h k. (h, k) }

or_join : IsJoin Or (codes " || ")
or_join = record { text = λ d e. refl; plain = λ d e. refl; valid = λ d e h k. (h, k) }

joined_call : (op : Expr → Expr → Expr) (sign : List ℕ) → IsJoin op sign → (e d : Expr) (ds : List Expr) → is_call (joined op (op e d) ds) ≡ false
joined_call op sign is e d [] = is.plain e d
joined_call op sign is e d (x ∷ ds) = joined_call op sign is (op e d) x ds

in_order : (old a b c : List ℕ) → old ++ a ++ b ++ c ≡ old ++ (a ++ b ++ c)
in_order old a b c = simp append_assoc refl

-- the text of the program's expression, part by part
joined_put : (op : Expr → Expr → Expr) (sign : List ℕ) → IsJoin op sign → (e d : Expr) (es : List Item) (old first second : List ℕ) → e ≡ joined op d (map expr_of es)
    → first ≡ old ++ opened (map expr_of es) → second ≡ first ++ inner_text d → second ++ flat_map (closed sign) (map expr_of es) ≡ old ++ inner_text e
joined_put op sign join e d es old first second is one two =
    let ds : List Expr = map expr_of es in
    ap (λ text. text ++ flat_map (closed sign) ds) (two ∙ ap (λ text. text ++ inner_text d) one) ∙ in_order old (opened ds) (inner_text d) (flat_map (closed sign) ds)
    ∙ ap (λ text. old ++ text) (sym (joined_is op sign join d ds) ∙ ap inner_text (sym is))

pub and_put : (e d : Expr) (es : List Item) (old first second : List ℕ) → e ≡ joined And d (map expr_of es)
    → first ≡ old ++ opened (map expr_of es) → second ≡ first ++ inner_text d → second ++ flat_map (closed (codes " && ")) (map expr_of es) ≡ old ++ inner_text e
and_put = joined_put And (codes " && ") and_join

pub or_put : (e d : Expr) (es : List Item) (old first second : List ℕ) → e ≡ joined Or d (map expr_of es)
    → first ≡ old ++ opened (map expr_of es) → second ≡ first ++ inner_text d → second ++ flat_map (closed (codes " || ")) (map expr_of es) ≡ old ++ inner_text e
or_put = joined_put Or (codes " || ") or_join

pub and_valid : (e d : Expr) (es : List Item) → e ≡ joined And d (map expr_of es) → IsExpr d → AllByRecursion IsExpr (map expr_of es) → IsExpr e
and_valid e d es is first later = subst IsExpr (sym is) (joined_valid And (codes " && ") and_join d (map expr_of es) (first, later))

pub or_valid : (e d : Expr) (es : List Item) → e ≡ joined Or d (map expr_of es) → IsExpr d → AllByRecursion IsExpr (map expr_of es) → IsExpr e
or_valid e d es is first later = subst IsExpr (sym is) (joined_valid Or (codes " || ") or_join d (map expr_of es) (first, later))

-- what follows from what holds on Ok
pub later_ok : {T E : Type 0} (r : Result T E) {P Q : Type 0} → (P → Q) → OnOk r P → OnOk r Q
later_ok (Ok v) f h = f h
later_ok (Err e) f h = tt

-- one later expression more
all_more : (ds : List Expr) (e : Expr) → AllByRecursion IsExpr ds → IsExpr e → AllByRecursion IsExpr (ds ++ e ∷ [])
all_more [] e h one = (one, tt)
all_more (d ∷ ds) e h one = (h.0, all_more ds e h.1 one)

one_more : (es : List Item) (i : ℕ) (x : Item) → i < length es → x ≡ get_or es i x → map expr_of (take (i + 1) es) ≡ map expr_of (take i es) ++ expr_of x ∷ []
one_more es i x l at = map_more expr_of es i x l ∙ ap (λ y. map expr_of (take i es) ++ expr_of y ∷ []) (sym at)

pub later_text : (sign start out more : List ℕ) (es : List Item) (i : ℕ) (x : Item) → i < length es → x ≡ get_or es i x → out ≡ start ++ flat_map (closed sign) (map expr_of (take i es))
    → more ≡ out ++ sign ++ inner_text (expr_of x) ++ codes ")" → more ≡ start ++ flat_map (closed sign) (map expr_of (take (i + 1) es))
later_text sign start out more es i x l at is put =
    put ∙ in_order out sign (inner_text (expr_of x)) (codes ")") ∙ ap (λ text. text ++ closed sign (expr_of x)) is
    ∙ flat_map_more (closed sign) start (map expr_of (take i es)) (expr_of x) ∙ ap (λ ds. start ++ flat_map (closed sign) ds) (sym (one_more es i x l at))

pub later_valid : (es : List Item) (i : ℕ) (x : Item) → i < length es → x ≡ get_or es i x → AllByRecursion IsExpr (map expr_of (take i es)) → IsExpr (expr_of x) → AllByRecursion IsExpr (map expr_of (take (i + 1) es))
later_valid es i x l at h one = subst (AllByRecursion IsExpr) (sym (one_more es i x l at)) (all_more (map expr_of (take i es)) (expr_of x) h one)

not_empty : (x : Item) (es : List Item) → (length (x ∷ es) == 0) ≡ false
not_empty x es = grind (arith, nat_tests)

-- of one expression alone it is a call where that is one, and of more it is none
pub alone : (op : Expr → Expr → Expr) (e d : Expr) (es : List Item) (r b : Bool) → e ≡ joined op d (map expr_of es) → r ≡ (length es == 0) → r ≡ true → b ≡ is_call d → b ≡ is_call e
alone op e d [] r b is empty sure call = call ∙ sym (ap is_call is)
alone op e d (x ∷ es) r b is empty sure call = let other : false ≡ true = sym (empty ∙ not_empty x es) ∙ sure in cc

several : (op : Expr → Expr → Expr) (sign : List ℕ) → IsJoin op sign → (e d : Expr) (es : List Item) (r : Bool) → e ≡ joined op d (map expr_of es) → r ≡ (length es == 0) → r ≡ false → r ≡ is_call e
several op sign join e d [] r is empty not = let other : true ≡ false = sym empty ∙ not in cc
several op sign join e d (x ∷ es) r is empty not = not ∙ sym (ap is_call is ∙ joined_call op sign join d (expr_of x) (map expr_of es))

pub several_and : (e d : Expr) (es : List Item) (r : Bool) → e ≡ joined And d (map expr_of es) → r ≡ (length es == 0) → r ≡ false → r ≡ is_call e
several_and = several And (codes " && ") and_join

pub several_or : (e d : Expr) (es : List Item) (r : Bool) → e ≡ joined Or d (map expr_of es) → r ≡ (length es == 0) → r ≡ false → r ≡ is_call e
several_or = several Or (codes " || ") or_join

-- the line of a FILTER, whose brackets are those of an expression that is no call
pub call_line : (margin : List ℕ) (e : Expr) → is_call e ≡ true → filter_line margin e ≡ margin ++ codes "FILTER (" ++ inner_text e ++ codes ")\n"
call_line margin e is = ap (λ b. margin ++ codes "FILTER (" ++ bracketed b (expr_text e) ++ codes ")\n") (sym is)

bracket_line : (margin text : List ℕ) → margin ++ codes "FILTER (" ++ text ++ codes ")\n" ≡ margin ++ codes "FILTER " ++ (codes "(" ++ text ++ codes ")") ++ codes "\n"
bracket_line margin text = simp append_assoc refl

pub other_line : (margin : List ℕ) (e : Expr) → is_call e ≡ false → filter_line margin e ≡ margin ++ codes "FILTER " ++ inner_text e ++ codes "\n"
other_line margin e is = bracket_line margin (expr_text e) ∙ ap (λ b. margin ++ codes "FILTER " ++ bracketed b (expr_text e) ++ codes "\n") (sym is)
