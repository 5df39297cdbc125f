-- The machine of strings reads strings.
use Rattle.std.proofs.Common.{◌≡◌, refl, ℕ, zero, suc, ◌<◌, Bool, true, false, cond, ◌==◌, ◌&&◌, List, [], ◌∷◌, ◌++◌, Option, Some, None, option_map, ◌⊎◌, inl, inr, ⊎_elim, length, sym, ◌∙◌, ap, subst, append_assoc, arith, replicate}
use Rattle.std.specs.Str.{all_scalars}
use Rattle.std.proofs.lemmas.List.{append-nil}
use Rattle.bye_terms.proofs.Tests.{bool_cases, both_parts}
use Rattle.bye_lex.specs.Languages.{Viable}
use Rattle.bye_lex.specs.Escapes.{is_scalar, number, Piece, IsRaw, IsEscape}
use Rattle.bye_lex.specs.EscapeSteps as escapes
use Rattle.bye_lex.specs.Iris.{has_numbers}
use Rattle.bye_lex.specs.Strings.{mark_of, around, has_quoting, may_stand, named, IsNamed, quote_of, StringTail, StringToken}
use Rattle.bye_lex.specs.StringSteps.{opened, inside, after_backslash, after_escape, step, final}
use Rattle.bye_lex.specs.declared.escape.Home.TheVariants as homes
use Rattle.bye_lex.specs.declared.escape.EscapeAt.{EscapeAt}
use Rattle.bye_lex.specs.declared.escape.EscapeStep.{EscapeStep}
use Rattle.bye_lex.specs.declared.escape.EscapeStep.TheVariants.{Within, Whole}
use Rattle.bye_lex.specs.declared.style.Style.{Style}
use Rattle.bye_lex.specs.declared.style.Style.TheVariants.{Triples, Tsv, Query}
use Rattle.bye_lex.specs.declared.quoting.Quote.{Quote}
use Rattle.bye_lex.specs.declared.quoting.Quote.TheVariants.{Double, Single}
use Rattle.bye_lex.specs.declared.quoting.Quoting.{Quoting}
use Rattle.bye_lex.specs.declared.quoting.Quoting.TheVariants.{Short, Long}
use Rattle.bye_lex.specs.declared.string.StringAt.{StringAt}
use Rattle.bye_lex.specs.declared.string.StringAt.TheVariants.{Start, Opened, Empty, In, Backslash, Escape, OneQuote, TwoQuotes, Done}
use Rattle.bye_lex.proofs.Branches.{when, unless, chosen, eqb_same, same_eqb, never, heads, some_same, none_some, snoc, pick_of, pick_not, mapped}
use Rattle.bye_lex.proofs.Scans.{Exact}
use Rattle.bye_lex.proofs.EscapeExact.{IsNumbered, IsOpen, escape_forth, escape_back, begin_forth, begin_back, can_escape, begin_open, step_open, no_digits}
use Rattle.bye_lex.proofs.Meanings.{After, EscapeTail, EscapeLeft}
use Rattle.bye_lex.proofs.StringMeaning.{Beyond, Left}
use Rattle.bye_lex.proofs.StringTails.{Spells, Closes, Quoted, view, tail_end, spell, backslash_is_out, backslash_no_quote, not_quoted, not_nothing, spelled, closes_short, closes_long, one_off, two_off, quotes_on}

-- forward
abbrev Next : Style → StringAt → ℕ → List ℕ → List ℕ → Type 0
Next x s c t v = (n : StringAt) × (step x s c ≡ Some n) × Left x n t v

-- a step within a string, at a character that is not the quote
abbrev Inside : Style → Quoting → List ℕ → ℕ → List ℕ → List ℕ → Type 0
Inside x k out c t v = (n : StringAt) × (inside x k out c ≡ Some n) × Left x n t v

to_backslash : (x : Style) (k : Quoting) (out : List ℕ) (c : ℕ) (t w v : List ℕ) → c ≡ 92 → StringTail x k (c ∷ t) w → v ≡ out ++ w → Inside x k out c t v
to_backslash x k out c t w v e h g =
    (Backslash k out, when _ _ _ (same_eqb c 92 e), record { own = w; is = subst (λ c. StringTail x k (c ∷ t) w) e h; stands = g })

enter : (x : Style) (k : Quoting) (out : List ℕ) (c : ℕ) (t w v : List ℕ) → StringTail x k (c ∷ t) w → (c == quote_of k) ≡ false → v ≡ out ++ w → Inside x k out c t v
enter x k out c t w v h other g =
    let s = spelled x k c t w h other in
    ⊎_elim
    (λ (r : IsRaw s.piece × (may_stand x k s.piece.char ≡ true)).
    let e = heads c s.piece.char t s.rest (s.text ∙ ap (λ xs. xs ++ s.rest) r.0.text) in
    let good = subst (λ c. may_stand x k c ≡ true) (sym e.0) r.1 in
    let n : Inside x k out c t v = (
      In k (out ++ c ∷ []),
      unless _ _ _ _ (never (may_stand x k) 92 c (backslash_is_out x k) good) (when _ _ _ good),
      record { own = s.rest_value; is = subst (λ t. StringTail x k t s.rest_value) (sym e.1) s.tail; stands = g ∙ ap (λ w. out ++ w) (s.value ∙ ap (λ c. c ∷ s.rest_value) (sym e.0)) ∙ snoc out s.rest_value c },
    ) in n)
    (λ r. ⊎_elim
    (λ (r : IsNamed s.piece). to_backslash x k out c t w v (heads c 92 t (r.mark ∷ s.rest) (s.text ∙ ap (λ xs. xs ++ s.rest) r.text)).0 h g)
    (λ (r : (has_numbers x ≡ true) × (IsEscape s.piece 117 4 ⊎ IsEscape s.piece 85 8)).
    ⊎_elim
    (λ (r : IsEscape s.piece 117 4). to_backslash x k out c t w v (heads c 92 t (117 ∷ r.digits ++ s.rest) (s.text ∙ ap (λ xs. xs ++ s.rest) r.text)).0 h g)
    (λ (r : IsEscape s.piece 85 8). to_backslash x k out c t w v (heads c 92 t (85 ∷ r.digits ++ s.rest) (s.text ∙ ap (λ xs. xs ++ s.rest) r.text)).0 h g)
    r.1)
    r)
    s.is

at : (x : Style) (n m : StringAt) (t v : List ℕ) → n ≡ m → Left x n t v → Left x m t v
at x n m t v e h = subst (λ (n : StringAt). Left x n t v) e h

leave : (x : Style) (k : Quoting) (out : List ℕ) (n : StringAt) (c : ℕ) (t v : List ℕ) → inside x k out c ≡ Some n → Left x n t v → After (StringTail x k) out (c ∷ t) v
leave x k out n c t v e h =
    pick_of _ _ _ _ e
    (λ b m. let a : After (λ t w. StringTail x k (92 ∷ t) w) out t v = at x n (Backslash k out) t v m h in
    record { own = a.own; is = subst (λ c. StringTail x k (c ∷ t) a.own) (sym (eqb_same c 92 b)) a.is; stands = a.stands })
    (λ e. pick_of _ _ _ _ e
    (λ b m. let a : After (StringTail x k) (out ++ c ∷ []) t v = at x n (In k (out ++ c ∷ [])) t v m h in
    let p : Piece = record { text = c ∷ []; char = c } in
    record { own = c ∷ a.own; is = spell x k p t a.own (inl (record { text = refl }, b)) a.is; stands = a.stands ∙ sym (snoc out a.own c) })
    (λ e. none_some e))

-- the first quote
forth_short : (x : Style) (q : Quote) → has_quoting x (Short q) ≡ true → (t v : List ℕ) → StringTail x (Short q) t v → Left x (opened x q) t v
forth_short Triples q has t v h = record { own = v; is = h; stands = refl }
forth_short Tsv q has t v h = record { own = v; is = h; stands = refl }
forth_short Query q has t v h = inl h

forth_long : (x : Style) (q : Quote) → has_quoting x (Long q) ≡ true → (t tail v : List ℕ) → StringTail x (Long q) tail v → t ≡ mark_of q ∷ mark_of q ∷ tail → Left x (opened x q) t v
forth_long Triples q has t tail v h e = cc
forth_long Tsv q has t tail v h e = cc
forth_long Query q has t tail v h e = inr (record { tail = tail; is = h; spelled = e })

to_double : (x : Style) → step x Start 34 ≡ Some (opened x Double)
to_double x = refl

to_single : (x : Style) → has_quoting x (Short Single) ≡ true → step x Start 39 ≡ Some (opened x Single)
to_single x has = when (has_quoting x (Short Single)) _ _ has

single_of_long : (x : Style) (q : Quote) → has_quoting x (Long q) ≡ true → has_quoting x (Short Single) ≡ true
single_of_long Triples q has = cc
single_of_long Tsv q has = cc
single_of_long Query q has = refl

to_quote : (x : Style) (q : Quote) → (has_quoting x (Short q) ≡ true) ⊎ (has_quoting x (Long q) ≡ true) → step x Start (mark_of q) ≡ Some (opened x q)
to_quote x Double has = to_double x
to_quote x Single has = to_single x (⊎_elim (λ h. h) (λ h. single_of_long x Single h) has)

forth_start : (x : Style) (c : ℕ) (t v : List ℕ) (k : Quoting) → has_quoting x k ≡ true → (tail : List ℕ) → StringTail x k tail v → c ∷ t ≡ around k ++ tail → Next x Start c t v
forth_start x c t v (Short q) has tail h f =
    let e = heads c (mark_of q) t tail f in
    (opened x q, ap (λ c. step x Start c) e.0 ∙ to_quote x q (inl has), forth_short x q has t v (subst (λ t. StringTail x (Short q) t v) (sym e.1) h))
forth_start x c t v (Long q) has tail h f =
    let e = heads c (mark_of q) t (mark_of q ∷ mark_of q ∷ tail) f in
    (opened x q, ap (λ c. step x Start c) e.0 ∙ to_quote x q (inr has), forth_long x q has t tail v h e.1)

forth_opened : (x : Style) (q : Quote) (c : ℕ) (t v : List ℕ) → Left x (Opened q) (c ∷ t) v → Next x (Opened q) c t v
forth_opened x q c t v h =
    ⊎_elim
    (λ (h : StringTail x (Short q) (c ∷ t) v).
    ⊎_elim
    (λ b. let n : Next x (Opened q) c t v = (Empty q, when _ _ _ b, inl (closes_short x q c t v h (eqb_same c (mark_of q) b))) in n)
    (λ b. let i = enter x (Short q) [] c t v v h b refl in let n : Next x (Opened q) c t v = (i.0, unless _ _ _ _ b i.1, i.2) in n)
    (bool_cases (c == mark_of q)))
    (λ (h : Beyond x q (mark_of q ∷ mark_of q ∷ []) (c ∷ t) v).
    let e = heads c (mark_of q) t (mark_of q ∷ h.tail) h.spelled in
    let n : Next x (Opened q) c t v = (Empty q, when _ _ _ (same_eqb c (mark_of q) e.0), inr (record { tail = h.tail; is = h.is; spelled = e.1 })) in n)
    h

forth_empty : (x : Style) (q : Quote) (c : ℕ) (t v : List ℕ) → Left x (Empty q) (c ∷ t) v → Next x (Empty q) c t v
forth_empty x q c t v h =
    ⊎_elim
    (λ (h : (c ∷ t ≡ []) × (v ≡ [])). let e = h.0 in let n : ⊥ = cc in absurd n)
    (λ (h : Beyond x q (mark_of q ∷ []) (c ∷ t) v).
    let e = heads c (mark_of q) t h.tail h.spelled in
    let n : Next x (Empty q) c t v = (In (Long q) [], when _ _ _ (same_eqb c (mark_of q) e.0), record { own = v; is = subst (λ t. StringTail x (Long q) t v) (sym e.1) h.is; stands = refl }) in n)
    h

forth_in : (x : Style) (k : Quoting) (out : List ℕ) (c : ℕ) (t v : List ℕ) → After (StringTail x k) out (c ∷ t) v → Next x (In k out) c t v
forth_in x (Short q) out c t v h =
    ⊎_elim
    (λ b. let e = closes_short x q c t h.own h.is (eqb_same c (mark_of q) b) in
    let n : Next x (In (Short q) out) c t v = (Done out, when _ _ _ b, (e.0, h.stands ∙ ap (λ w. out ++ w) e.1 ∙ append-nil out)) in n)
    (λ b. let i = enter x (Short q) out c t h.own v h.is b h.stands in let n : Next x (In (Short q) out) c t v = (i.0, unless _ _ _ _ b i.1, i.2) in n)
    (bool_cases (c == mark_of q))
forth_in x (Long q) out c t v h =
    ⊎_elim
    (λ b. let n : Next x (In (Long q) out) c t v = (OneQuote q out, when _ _ _ b, record { own = h.own; is = subst (λ c. StringTail x (Long q) (c ∷ t) h.own) (eqb_same c (mark_of q) b) h.is; stands = h.stands }) in n)
    (λ b. let i = enter x (Long q) out c t h.own v h.is b h.stands in let n : Next x (In (Long q) out) c t v = (i.0, unless _ _ _ _ b i.1, i.2) in n)
    (bool_cases (c == mark_of q))

forth_one : (x : Style) (q : Quote) (out : List ℕ) (c : ℕ) (t v : List ℕ) → Left x (OneQuote q out) (c ∷ t) v → Next x (OneQuote q out) c t v
forth_one x q out c t v h =
    ⊎_elim
    (λ b. let n : Next x (OneQuote q out) c t v = (TwoQuotes q out, when _ _ _ b, record { own = h.own; is = subst (λ c. StringTail x (Long q) (mark_of q ∷ c ∷ t) h.own) (eqb_same c (mark_of q) b) h.is; stands = h.stands }) in n)
    (λ b. let o = one_off x q c t h.own h.is b in
    let i = enter x (Long q) (out ++ mark_of q ∷ []) c t o.own v o.is b (h.stands ∙ ap (λ w. out ++ w) o.stands ∙ snoc out o.own (mark_of q)) in
    let n : Next x (OneQuote q out) c t v = (i.0, unless _ _ _ _ b i.1, i.2) in n)
    (bool_cases (c == mark_of q))

forth_two : (x : Style) (q : Quote) (out : List ℕ) (c : ℕ) (t v : List ℕ) → Left x (TwoQuotes q out) (c ∷ t) v → Next x (TwoQuotes q out) c t v
forth_two x q out c t v h =
    ⊎_elim
    (λ b. let e = closes_long x q c t h.own h.is (eqb_same c (mark_of q) b) in
    let n : Next x (TwoQuotes q out) c t v = (Done out, when _ _ _ b, (e.0, h.stands ∙ ap (λ w. out ++ w) e.1 ∙ append-nil out)) in n)
    (λ b. let o = two_off x q c t h.own h.is b in
    let i = enter x (Long q) (out ++ mark_of q ∷ mark_of q ∷ []) c t o.own v o.is b (h.stands ∙ ap (λ w. out ++ w) o.stands ∙ sym (append_assoc out (mark_of q ∷ mark_of q ∷ []) o.own)) in
    let n : Next x (TwoQuotes q out) c t v = (i.0, unless _ _ _ _ b i.1, i.2) in n)
    (bool_cases (c == mark_of q))

-- a mark of an escape by number is no other mark
numbered_only : (c : ℕ) (at : EscapeAt) → escapes.begin c ≡ Some at → named c ≡ None
numbered_only c at e =
    pick_of (c == 117) _ at _ e (λ b k. ap named (eqb_same c 117 b)) (λ k. pick_of (c == 85) _ at None k (λ b k. ap named (eqb_same c 85 b)) (λ k. none_some k))

scalar_of : (p : Piece) → IsNumbered p → is_scalar p.char ≡ true
scalar_of p is = ⊎_elim (λ k. k.scalar) (λ k. k.scalar) is

to_escape : (x : Style) (k : Quoting) (out : List ℕ) (c : ℕ) (at : EscapeAt) → has_numbers x ≡ true → escapes.begin c ≡ Some at → step x (Backslash k out) c ≡ Some (Escape k at out)
to_escape x k out c at has e = ap (λ o. after_backslash x k out c o) (numbered_only c at e) ∙ when (has_numbers x) _ _ has ∙ ap (λ o. option_map (λ at. Escape k at out) o) e

forth_backslash : (x : Style) (k : Quoting) (out : List ℕ) (c : ℕ) (t v : List ℕ) → Left x (Backslash k out) (c ∷ t) v → Next x (Backslash k out) c t v
forth_backslash x k out c t v h =
    let s = spelled x k 92 (c ∷ t) h.own h.is (backslash_no_quote k) in
    ⊎_elim
    (λ (r : IsRaw s.piece × (may_stand x k s.piece.char ≡ true)).
    let e = heads 92 s.piece.char (c ∷ t) s.rest (s.text ∙ ap (λ xs. xs ++ s.rest) r.0.text) in
    let good = subst (λ c. may_stand x k c ≡ true) (sym e.0) r.1 in
    let bad = backslash_is_out x k in
    let no : ⊥ = cc in absurd no)
    (λ r. ⊎_elim
    (λ (r : IsNamed s.piece).
    let one = heads 92 92 (c ∷ t) (r.mark ∷ s.rest) (s.text ∙ ap (λ xs. xs ++ s.rest) r.text) in
    let two = heads c r.mark t s.rest one.1 in
    let is : named c ≡ Some s.piece.char = ap named two.0 ∙ r.char in
    let n : Next x (Backslash k out) c t v = (
      In k (out ++ s.piece.char ∷ []),
      ap (λ o. after_backslash x k out c o) is,
      record { own = s.rest_value; is = subst (λ t. StringTail x k t s.rest_value) (sym two.1) s.tail; stands = h.stands ∙ ap (λ w. out ++ w) s.value ∙ snoc out s.rest_value s.piece.char },
    ) in n)
    (λ (r : (has_numbers x ≡ true) × IsNumbered s.piece).
    let d = begin_forth homes.Text (StringTail x k) s.piece c t s.rest s.rest_value r.1 (scalar_of s.piece r.1) s.tail s.text in
    let n : Next x (Backslash k out) c t v = (
      Escape k d.0 out,
      to_escape x k out c d.0 r.0 d.1,
      (r.0, record { own = h.own; is = subst (λ w. EscapeTail homes.Text (StringTail x k) d.0 t w) (sym s.value) d.2; stands = h.stands }),
    ) in n)
    r)
    s.is

escape_to : (x : Style) (k : Quoting) → has_numbers x ≡ true → (out : List ℕ) (n : EscapeStep) (t own v : List ℕ) → EscapeLeft homes.Text (StringTail x k) n t own → v ≡ out ++ own → Left x (after_escape k out n) t v
escape_to x k has out (Within at) t own v h e = (has, record { own = own; is = h; stands = e })
escape_to x k has out (Whole c) t own v h e = record { own = h.own; is = h.is; stands = e ∙ ap (λ w. out ++ w) h.stands ∙ snoc out h.own c }

forth_escape : (x : Style) (k : Quoting) → has_numbers x ≡ true → (at : EscapeAt) (out : List ℕ) (c : ℕ) (t v : List ℕ) → After (EscapeTail homes.Text (StringTail x k) at) out (c ∷ t) v → Next x (Escape k at out) c t v
forth_escape x k has at out c t v h =
    let n = escape_forth homes.Text (StringTail x k) at c t h.own h.is in
    (after_escape k out n.0, ap (λ o. option_map (after_escape k out) o) n.1, escape_to x k has out n.0 t h.own v n.2 h.stands)

forth : (x : Style) (s : StringAt) (c : ℕ) (t v : List ℕ) → Left x s (c ∷ t) v → Next x s c t v
forth x Start c t v h = forth_start x c t v h.quoting h.has h.tail h.after h.spelled
forth x (Opened q) c t v h = forth_opened x q c t v h
forth x (Empty q) c t v h = forth_empty x q c t v h
forth x (In k out) c t v h = forth_in x k out c t v h
forth x (Backslash k out) c t v h = forth_backslash x k out c t v h
forth x (Escape k at out) c t v (has, h) = forth_escape x k has at out c t v h
forth x (OneQuote q out) c t v h = forth_one x q out c t v h
forth x (TwoQuotes q out) c t v h = forth_two x q out c t v h
forth x (Done out) c t v h = cc

-- backward
abbrev Before : Style → StringAt → StringAt → ℕ → List ℕ → List ℕ → Type 0
Before x s n c t v = step x s c ≡ Some n → Left x n t v → Left x s (c ∷ t) v

has_double : (x : Style) → has_quoting x (Short Double) ≡ true
has_double Triples = refl
has_double Tsv = refl
has_double Query = refl

token_of : (x : Style) (k : Quoting) (c : ℕ) (t tail v : List ℕ) → has_quoting x k ≡ true → StringTail x k tail v → c ∷ t ≡ around k ++ tail → StringToken x (c ∷ t) v
token_of x k c t tail v has h e = record { quoting = k; has = has; tail = tail; after = h; spelled = e }

back_quote : (x : Style) (q : Quote) (c : ℕ) (t v : List ℕ) → has_quoting x (Short q) ≡ true → c ≡ mark_of q → Left x (opened x q) t v → StringToken x (c ∷ t) v
back_quote Triples q c t v has e h = token_of Triples (Short q) c t t v has (subst (λ w. StringTail Triples (Short q) t w) (sym h.stands) h.is) (ap (λ c. c ∷ t) e)
back_quote Tsv q c t v has e h = token_of Tsv (Short q) c t t v has (subst (λ w. StringTail Tsv (Short q) t w) (sym h.stands) h.is) (ap (λ c. c ∷ t) e)
back_quote Query q c t v has e h =
    ⊎_elim
    (λ (h : StringTail Query (Short q) t v). token_of Query (Short q) c t t v refl h (ap (λ c. c ∷ t) e))
    (λ (h : Beyond Query q (mark_of q ∷ mark_of q ∷ []) t v). token_of Query (Long q) c t h.tail v refl h.is (ap (λ c. c ∷ t) e ∙ ap (λ t. mark_of q ∷ t) h.spelled))
    h

back_start : (x : Style) (n : StringAt) (c : ℕ) (t v : List ℕ) → Before x Start n c t v
back_start x n c t v e h =
    pick_of _ _ _ _ e
    (λ b m. back_quote x Double c t v (has_double x) (eqb_same c 34 b) (at x n (opened x Double) t v m h))
    (λ e. pick_of _ _ _ _ e
    (λ b m. let k = both_parts (c == 39) _ b in back_quote x Single c t v k.1 (eqb_same c 39 k.0) (at x n (opened x Single) t v m h))
    (λ e. none_some e))

short_end : (x : Style) (q : Quote) (c : ℕ) (t v : List ℕ) → c ≡ mark_of q → t ≡ [] → v ≡ [] → StringTail x (Short q) (c ∷ t) v
short_end x q c t v e f g =
    let same : c ∷ t ≡ mark_of q ∷ [] = ap (λ c. c ∷ t) e ∙ ap (λ t. mark_of q ∷ t) f in
    subst (λ t. StringTail x (Short q) t v) (sym same) (subst (λ v. StringTail x (Short q) (mark_of q ∷ []) v) (sym g) (tail_end x (Short q)))

back_opened : (x : Style) (q : Quote) (n : StringAt) (c : ℕ) (t v : List ℕ) → Before x (Opened q) n c t v
back_opened x q n c t v e h =
    pick_of _ _ _ _ e
    (λ b m. let a : ((t ≡ []) × (v ≡ [])) ⊎ Beyond x q (mark_of q ∷ []) t v = at x n (Empty q) t v m h in
    ⊎_elim
    (λ (a : (t ≡ []) × (v ≡ [])). inl (short_end x q c t v (eqb_same c (mark_of q) b) a.0 a.1))
    (λ (a : Beyond x q (mark_of q ∷ []) t v). inr (record { tail = a.tail; is = a.is; spelled = ap (λ c. c ∷ t) (eqb_same c (mark_of q) b) ∙ ap (λ t. mark_of q ∷ t) a.spelled }))
    a)
    (λ e. let a = leave x (Short q) [] n c t v e h in inl (subst (λ w. StringTail x (Short q) (c ∷ t) w) (sym a.stands) a.is))

back_empty : (x : Style) (q : Quote) (n : StringAt) (c : ℕ) (t v : List ℕ) → Before x (Empty q) n c t v
back_empty x q n c t v e h =
    pick_of _ _ _ _ e
    (λ b m. let a : After (StringTail x (Long q)) [] t v = at x n (In (Long q) []) t v m h in
    inr (record { tail = t; is = subst (λ w. StringTail x (Long q) t w) (sym a.stands) a.is; spelled = ap (λ c. c ∷ t) (eqb_same c (mark_of q) b) }))
    (λ e. none_some e)

back_in : (x : Style) (k : Quoting) (out : List ℕ) (n : StringAt) (c : ℕ) (t v : List ℕ) → Before x (In k out) n c t v
back_in x (Short q) out n c t v e h =
    pick_of _ _ _ _ e
    (λ b m. let a : (t ≡ []) × (v ≡ out) = at x n (Done out) t v m h in
    record { own = []; is = short_end x q c t [] (eqb_same c (mark_of q) b) a.0 refl; stands = a.1 ∙ sym (append-nil out) })
    (λ e. leave x (Short q) out n c t v e h)
back_in x (Long q) out n c t v e h =
    pick_of _ _ _ _ e
    (λ b m. let a : After (λ t w. StringTail x (Long q) (mark_of q ∷ t) w) out t v = at x n (OneQuote q out) t v m h in
    record { own = a.own; is = subst (λ c. StringTail x (Long q) (c ∷ t) a.own) (sym (eqb_same c (mark_of q) b)) a.is; stands = a.stands })
    (λ e. leave x (Long q) out n c t v e h)

back_one : (x : Style) (q : Quote) (out : List ℕ) (n : StringAt) (c : ℕ) (t v : List ℕ) → Before x (OneQuote q out) n c t v
back_one x q out n c t v e h =
    pick_not _ _ _ _ e
    (λ b m. let a : After (λ t w. StringTail x (Long q) (mark_of q ∷ mark_of q ∷ t) w) out t v = at x n (TwoQuotes q out) t v m h in
    record { own = a.own; is = subst (λ c. StringTail x (Long q) (mark_of q ∷ c ∷ t) a.own) (sym (eqb_same c (mark_of q) b)) a.is; stands = a.stands })
    (λ b e. let a = leave x (Long q) (out ++ mark_of q ∷ []) n c t v e h in
    record { own = mark_of q ∷ a.own; is = quotes_on x q 1 c t a.own (omega arith) a.is b; stands = a.stands ∙ sym (snoc out a.own (mark_of q)) })

back_two : (x : Style) (q : Quote) (out : List ℕ) (n : StringAt) (c : ℕ) (t v : List ℕ) → Before x (TwoQuotes q out) n c t v
back_two x q out n c t v e h =
    pick_not _ _ _ _ e
    (λ b m. let a : (t ≡ []) × (v ≡ out) = at x n (Done out) t v m h in
    let same : mark_of q ∷ mark_of q ∷ c ∷ t ≡ around (Long q) = ap (λ c. mark_of q ∷ mark_of q ∷ c ∷ t) (eqb_same c (mark_of q) b) ∙ ap (λ t. mark_of q ∷ mark_of q ∷ mark_of q ∷ t) a.0 in
    record { own = []; is = subst (λ t. StringTail x (Long q) t []) (sym same) (tail_end x (Long q)); stands = a.1 ∙ sym (append-nil out) })
    (λ b e. let a = leave x (Long q) (out ++ mark_of q ∷ mark_of q ∷ []) n c t v e h in
    record { own = mark_of q ∷ mark_of q ∷ a.own; is = quotes_on x q 2 c t a.own (omega arith) a.is b; stands = a.stands ∙ append_assoc out (mark_of q ∷ mark_of q ∷ []) a.own })

back_numbered : (x : Style) (k : Quoting) (out : List ℕ) (n : StringAt) (c : ℕ) (t v : List ℕ) → option_map (λ at. Escape k at out) (escapes.begin c) ≡ Some n → Left x n t v → Left x (Backslash k out) (c ∷ t) v
back_numbered x k out n c t v e h =
    let m = mapped (λ at. Escape k at out) (escapes.begin c) n e in
    let a : (has_numbers x ≡ true) × After (EscapeTail homes.Text (StringTail x k) m.0) out t v = at x n (Escape k m.0 out) t v (sym m.2) h in
    let b = begin_back homes.Text (StringTail x k) m.0 c t a.1.own m.1 a.1.is in
    let all = spell x k b.piece b.tail b.tail_value (inr (inr (a.0, b.numbered))) b.after in
    record { own = a.1.own; is = subst (λ w. StringTail x k (92 ∷ c ∷ t) w) (sym b.value) (subst (λ t. StringTail x k t (b.piece.char ∷ b.tail_value)) (sym b.text) all); stands = a.1.stands }

back_backslash : (x : Style) (k : Quoting) (out : List ℕ) (n : StringAt) (c : ℕ) (t v : List ℕ) → Before x (Backslash k out) n c t v
back_backslash x k out n c t v e h =
    elim (named c) as (λ o. named c ≡ o → after_backslash x k out c o ≡ Some n → Left x (Backslash k out) (c ∷ t) v) [
      | Some d ↦ λ is e.
          let a : After (StringTail x k) (out ++ d ∷ []) t v = at x n (In k (out ++ d ∷ [])) t v (sym (some_same e)) h in
          let p : Piece = record { text = 92 ∷ c ∷ []; char = d } in
          record { own = d ∷ a.own; is = spell x k p t a.own (inr (inl (record { mark = c; text = refl; char = is }))) a.is; stands = a.stands ∙ sym (snoc out a.own d) }
      | None ↦ λ is e. ⊎_elim (λ f. back_numbered x k out n c t v f.1 h) (λ f. none_some f.1) (chosen (has_numbers x) _ _ _ e)
    ] refl e

escape_from : (x : Style) (k : Quoting) (out : List ℕ) (n : EscapeStep) (t v : List ℕ) → Left x (after_escape k out n) t v → After (EscapeLeft homes.Text (StringTail x k) n) out t v
escape_from x k out (Within at) t v h = h.1
escape_from x k out (Whole c) t v h = record { own = c ∷ h.own; is = record { own = h.own; is = h.is; stands = refl }; stands = h.stands ∙ sym (snoc out h.own c) }

back_escape : (x : Style) (k : Quoting) → has_numbers x ≡ true → (e : EscapeAt) (out : List ℕ) (n : StringAt) (c : ℕ) (t v : List ℕ) → Before x (Escape k e out) n c t v
back_escape x k has e out n c t v step_is h =
    let m = mapped (after_escape k out) (escapes.step homes.Text e c) n step_is in
    let a = escape_from x k out m.0 t v (at x n (after_escape k out m.0) t v (sym m.2) h) in
    (has, record { own = a.own; is = escape_back homes.Text (StringTail x k) e m.0 c t a.own m.1 a.is; stands = a.stands })

back : (x : Style) (s n : StringAt) (c : ℕ) (t v : List ℕ) → Viable (Left x s) [] → Before x s n c t v
back x Start n c t v a e h = back_start x n c t v e h
back x (Opened q) n c t v a e h = back_opened x q n c t v e h
back x (Empty q) n c t v a e h = back_empty x q n c t v e h
back x (In k out) n c t v a e h = back_in x k out n c t v e h
back x (Backslash k out) n c t v a e h = back_backslash x k out n c t v e h
back x (Escape k at out) n c t v a e h = back_escape x k a.whole.0 at out n c t v e h
back x (OneQuote q out) n c t v a e h = back_one x q out n c t v e h
back x (TwoQuotes q out) n c t v a e h = back_two x q out n c t v e h
back x (Done out) n c t v a e h = none_some e

-- each state that is reached can go on
around_scalars : (k : Quoting) → all_scalars (around k) ≡ true
around_scalars (Short Double) = refl
around_scalars (Short Single) = refl
around_scalars (Long Double) = refl
around_scalars (Long Single) = refl

quote_scalars : (q : Quote) → (all_scalars (mark_of q ∷ []) ≡ true) × (all_scalars (mark_of q ∷ mark_of q ∷ []) ≡ true)
quote_scalars Double = (refl, refl)
quote_scalars Single = (refl, refl)

can_in : (x : Style) (k : Quoting) (out : List ℕ) → Viable (Left x (In k out)) []
can_in x k out = record { more = around k; scalars = around_scalars k; value = out ++ []; whole = record { own = []; is = tail_end x k; stands = refl } }

can_backslash : (x : Style) (k : Quoting) (out : List ℕ) → Viable (Left x (Backslash k out)) []
can_backslash x k out = record {
  more = 110 ∷ around k;
  scalars = around_scalars k;
  value = out ++ 10 ∷ [];
  whole = record { own = 10 ∷ []; is = spell x k (record { text = 92 ∷ 110 ∷ []; char = 10 }) (around k) [] (inr (inl (record { mark = 110; text = refl; char = refl }))) (tail_end x k); stands = refl };
}

can_digits : (x : Style) (k : Quoting) → has_numbers x ≡ true → (at : EscapeAt) (out : List ℕ) → escapes.may_be homes.Text (suc at.left) at.number ≡ true → Viable (Left x (Escape k at out)) []
can_digits x k has at out e =
    let g = can_escape homes.Text (StringTail x k) at (around k) [] e (tail_end x k) (around_scalars k) in
    record { more = g.digits ++ around k; scalars = g.scalars; value = out ++ number at.number g.digits ∷ []; whole = (has, record { own = number at.number g.digits ∷ []; is = g.left; stands = refl }) }

can_after : (x : Style) (k : Quoting) → has_numbers x ≡ true → (out : List ℕ) (n : EscapeStep) → IsOpen homes.Text n → Viable (Left x (after_escape k out n)) []
can_after x k has out (Within at) e = can_digits x k has at out e
can_after x k has out (Whole c) e = can_in x k (out ++ c ∷ [])

can_one : (x : Style) (q : Quote) (out : List ℕ) → Viable (Left x (OneQuote q out)) []
can_one x q out = record { more = mark_of q ∷ mark_of q ∷ []; scalars = (quote_scalars q).1; value = out ++ []; whole = record { own = []; is = tail_end x (Long q); stands = refl } }

can_two : (x : Style) (q : Quote) (out : List ℕ) → Viable (Left x (TwoQuotes q out)) []
can_two x q out = record { more = mark_of q ∷ []; scalars = (quote_scalars q).0; value = out ++ []; whole = record { own = []; is = tail_end x (Long q); stands = refl } }

can_empty : (x : Style) (q : Quote) → Viable (Left x (Empty q)) []
can_empty x q = record { more = []; scalars = refl; value = []; whole = inl (refl, refl) }

can_opened : (x : Style) (q : Quote) → Viable (Left x (Opened q)) []
can_opened x q = record { more = mark_of q ∷ []; scalars = (quote_scalars q).0; value = []; whole = inl (tail_end x (Short q)) }

can_quote : (x : Style) (q : Quote) → Viable (Left x (opened x q)) []
can_quote Triples q = can_in Triples (Short q) []
can_quote Tsv q = can_in Tsv (Short q) []
can_quote Query q = can_opened Query q

can_done : (x : Style) (out : List ℕ) → Viable (Left x (Done out)) []
can_done x out = record { more = []; scalars = refl; value = out; whole = (refl, refl) }

pub can_start : (x : Style) → Viable (Left x Start) []
can_start x = record { more = 34 ∷ 34 ∷ []; scalars = refl; value = []; whole = record { quoting = Short Double; has = has_double x; tail = 34 ∷ []; after = tail_end x (Short Double); spelled = refl } }

record Live (x : Style) (o : Option StringAt) : Type 0 where
  all : (n : StringAt) → o ≡ Some n → Viable (Left x n) []

live_none : (x : Style) → Live x None
live_none x = record { all = λ n e. none_some e }

live_some : (x : Style) (s : StringAt) → Viable (Left x s) [] → Live x (Some s)
live_some x s h = record { all = λ n e. subst (λ (n : StringAt). Viable (Left x n) []) (some_same e) h }

live_if : (x : Style) (b : Bool) (y z : Option StringAt) → (b ≡ true → Live x y) → Live x z → Live x (cond b y z)
live_if x true y z h k = h refl
live_if x false y z h k = k

live_inside : (x : Style) (k : Quoting) (out : List ℕ) (c : ℕ) → Live x (inside x k out c)
live_inside x k out c =
    let second = live_if x (may_stand x k c) (Some (In k (out ++ c ∷ []))) None (λ b. live_some x (In k (out ++ c ∷ [])) (can_in x k (out ++ c ∷ []))) (live_none x) in
    live_if x (c == 92) (Some (Backslash k out)) (cond (may_stand x k c) (Some (In k (out ++ c ∷ []))) None) (λ b. live_some x (Backslash k out) (can_backslash x k out)) second

live_numbered : (x : Style) (k : Quoting) (out : List ℕ) (c : ℕ) → has_numbers x ≡ true → Live x (option_map (λ at. Escape k at out) (escapes.begin c))
live_numbered x k out c has = record {
  all = λ n e.
      let m = mapped (λ at. Escape k at out) (escapes.begin c) n e in
      subst (λ (n : StringAt). Viable (Left x n) []) m.2 (can_digits x k has m.0 out (begin_open homes.Text m.0 c m.1));
}

live_backslash : (x : Style) (k : Quoting) (out : List ℕ) (c : ℕ) (o : Option ℕ) → Live x (after_backslash x k out c o)
live_backslash x k out c (Some d) = live_some x (In k (out ++ d ∷ [])) (can_in x k (out ++ d ∷ []))
live_backslash x k out c None = live_if x (has_numbers x) (option_map (λ at. Escape k at out) (escapes.begin c)) None (λ b. live_numbered x k out c b) (live_none x)

live_escape : (x : Style) (k : Quoting) → has_numbers x ≡ true → (at : EscapeAt) (out : List ℕ) (c : ℕ) → Live x (step x (Escape k at out) c)
live_escape x k has at out c = record {
  all = λ n e.
      let m = mapped (after_escape k out) (escapes.step homes.Text at c) n e in
      subst (λ (n : StringAt). Viable (Left x n) []) m.2 (can_after x k has out m.0 (step_open homes.Text at c m.0 m.1));
}

live : (x : Style) (s : StringAt) (c : ℕ) → Viable (Left x s) [] → Live x (step x s c)
live x Start c a =
    let second = live_if x (c == 39 && has_quoting x (Short Single)) (Some (opened x Single)) None (λ b. live_some x (opened x Single) (can_quote x Single)) (live_none x) in
    live_if x (c == 34) (Some (opened x Double)) (cond (c == 39 && has_quoting x (Short Single)) (Some (opened x Single)) None) (λ b. live_some x (opened x Double) (can_quote x Double)) second
live x (Opened q) c a = live_if x (c == mark_of q) (Some (Empty q)) (inside x (Short q) [] c) (λ b. live_some x (Empty q) (can_empty x q)) (live_inside x (Short q) [] c)
live x (Empty q) c a = live_if x (c == mark_of q) (Some (In (Long q) [])) None (λ b. live_some x (In (Long q) []) (can_in x (Long q) [])) (live_none x)
live x (In (Short q) out) c a = live_if x (c == mark_of q) (Some (Done out)) (inside x (Short q) out c) (λ b. live_some x (Done out) (can_done x out)) (live_inside x (Short q) out c)
live x (In (Long q) out) c a = live_if x (c == mark_of q) (Some (OneQuote q out)) (inside x (Long q) out c) (λ b. live_some x (OneQuote q out) (can_one x q out)) (live_inside x (Long q) out c)
live x (Backslash k out) c a = live_backslash x k out c (named c)
live x (Escape k at out) c a = live_escape x k a.whole.0 at out c
live x (OneQuote q out) c a = live_if x (c == mark_of q) (Some (TwoQuotes q out)) (inside x (Long q) (out ++ mark_of q ∷ []) c) (λ b. live_some x (TwoQuotes q out) (can_two x q out)) (live_inside x (Long q) (out ++ mark_of q ∷ []) c)
live x (TwoQuotes q out) c a = live_if x (c == mark_of q) (Some (Done out)) (inside x (Long q) (out ++ mark_of q ∷ mark_of q ∷ []) c) (λ b. live_some x (Done out) (can_done x out)) (live_inside x (Long q) (out ++ mark_of q ∷ mark_of q ∷ []) c)
live x (Done out) c a = live_none x

-- where the text may end
around_some : (k : Quoting) → 0 < length (around k)
around_some (Short q) = omega arith
around_some (Long q) = omega arith

nothing_left : {P : Type 0} (x : Style) (k : Quoting) (w : List ℕ) → StringTail x k [] w → P
nothing_left x k w h =
    ⊎_elim
    (λ (v : Closes k [] w). absurd (omega (arith, ap length v.text, around_some k)))
    (λ v. ⊎_elim (λ s. not_nothing x k w s) (λ (q : Quoted x k [] w). let e = q.text in let no : ⊥ = cc in absurd no) v)
    (view x k [] w h)

backslash_left : {P : Type 0} (x : Style) (k : Quoting) (w : List ℕ) → StringTail x k (92 ∷ []) w → P
backslash_left x k w h =
    let s = spelled x k 92 [] w h (backslash_no_quote k) in
    ⊎_elim
    (λ (r : IsRaw s.piece × (may_stand x k s.piece.char ≡ true)).
    let e = heads 92 s.piece.char [] s.rest (s.text ∙ ap (λ xs. xs ++ s.rest) r.0.text) in
    let good = subst (λ c. may_stand x k c ≡ true) (sym e.0) r.1 in
    let bad = backslash_is_out x k in
    let no : ⊥ = cc in absurd no)
    (λ r. ⊎_elim
    (λ (r : IsNamed s.piece). let e = (heads 92 92 [] (r.mark ∷ s.rest) (s.text ∙ ap (λ xs. xs ++ s.rest) r.text)).1 in let no : ⊥ = cc in absurd no)
    (λ (r : (has_numbers x ≡ true) × (IsEscape s.piece 117 4 ⊎ IsEscape s.piece 85 8)).
    ⊎_elim
    (λ (r : IsEscape s.piece 117 4). let e = (heads 92 92 [] (117 ∷ r.digits ++ s.rest) (s.text ∙ ap (λ xs. xs ++ s.rest) r.text)).1 in let no : ⊥ = cc in absurd no)
    (λ (r : IsEscape s.piece 85 8). let e = (heads 92 92 [] (85 ∷ r.digits ++ s.rest) (s.text ∙ ap (λ xs. xs ++ s.rest) r.text)).1 in let no : ⊥ = cc in absurd no)
    r.1)
    r)
    s.is

one_left : {P : Type 0} (x : Style) (q : Quote) (w : List ℕ) → StringTail x (Long q) (mark_of q ∷ []) w → P
one_left x q w h =
    ⊎_elim
    (λ (v : Closes (Long q) (mark_of q ∷ []) w). absurd (omega (arith, ap length v.text)))
    (λ v. ⊎_elim (λ s. not_quoted x (Long q) (mark_of q) [] w refl s)
    (λ (s : Quoted x (Long q) (mark_of q ∷ []) w). one_quoted x q s.quotes s.own s.own_value s.after s.text)
    v)
    (view x (Long q) (mark_of q ∷ []) w h)
  where
    one_quoted : {P : Type 0} (x : Style) (q : Quote) (n : ℕ) (own own_value : List ℕ) → Spells x (Long q) own own_value → mark_of q ∷ [] ≡ mark_of q ∷ replicate n (mark_of q) ++ own → P
    one_quoted x q zero own own_value s e = not_nothing x (Long q) own_value (subst (λ o. Spells x (Long q) o own_value) (sym (heads (mark_of q) (mark_of q) [] own e).1) s)
    one_quoted x q (suc n) own own_value s e = let f = (heads (mark_of q) (mark_of q) [] (mark_of q ∷ replicate n (mark_of q) ++ own) e).1 in let no : ⊥ = cc in absurd no

two_left : {P : Type 0} (x : Style) (q : Quote) (w : List ℕ) → StringTail x (Long q) (mark_of q ∷ mark_of q ∷ []) w → P
two_left x q w h =
    ⊎_elim
    (λ (v : Closes (Long q) (mark_of q ∷ mark_of q ∷ []) w). absurd (omega (arith, ap length v.text)))
    (λ v. ⊎_elim (λ s. not_quoted x (Long q) (mark_of q) (mark_of q ∷ []) w refl s)
    (λ (s : Quoted x (Long q) (mark_of q ∷ mark_of q ∷ []) w). two_quoted x q s.quotes s.own s.own_value s.after s.text)
    v)
    (view x (Long q) (mark_of q ∷ mark_of q ∷ []) w h)
  where
    two_quoted : {P : Type 0} (x : Style) (q : Quote) (n : ℕ) (own own_value : List ℕ) → Spells x (Long q) own own_value → mark_of q ∷ mark_of q ∷ [] ≡ mark_of q ∷ replicate n (mark_of q) ++ own → P
    two_quoted x q zero own own_value s e = not_quoted x (Long q) (mark_of q) [] own_value refl (subst (λ o. Spells x (Long q) o own_value) (sym (heads (mark_of q) (mark_of q) (mark_of q ∷ []) own e).1) s)
    two_quoted x q (suc zero) own own_value s e =
        let f = heads (mark_of q) (mark_of q) [] own (heads (mark_of q) (mark_of q) (mark_of q ∷ []) (mark_of q ∷ own) e).1 in
        not_nothing x (Long q) own_value (subst (λ o. Spells x (Long q) o own_value) (sym f.1) s)
    two_quoted x q (suc (suc n)) own own_value s e =
        let f = heads (mark_of q) (mark_of q) [] (mark_of q ∷ replicate n (mark_of q) ++ own) (heads (mark_of q) (mark_of q) (mark_of q ∷ []) (mark_of q ∷ mark_of q ∷ replicate n (mark_of q) ++ own) e).1 in
        let g = f.1 in let no : ⊥ = cc in absurd no

no_token : (k : Quoting) (tail : List ℕ) → ◌≡◌ {A = List ℕ} [] (around k ++ tail) → ⊥
no_token (Short q) tail e = cc
no_token (Long q) tail e = cc

ends : (x : Style) (s : StringAt) (v : List ℕ) → Left x s [] v → final s ≡ Some v
ends x Start v h = absurd (no_token h.quoting h.tail h.spelled)
ends x (Opened q) v h =
    ⊎_elim (λ (h : StringTail x (Short q) [] v). nothing_left x (Short q) v h)
    (λ (h : Beyond x q (mark_of q ∷ mark_of q ∷ []) [] v). let e = h.spelled in let no : ⊥ = cc in absurd no) h
ends x (Empty q) v h =
    ⊎_elim (λ (h : (◌≡◌ {A = List ℕ} [] []) × (v ≡ [])). ap Some (sym h.1))
    (λ (h : Beyond x q (mark_of q ∷ []) [] v). let e = h.spelled in let no : ⊥ = cc in absurd no) h
ends x (In k out) v h = nothing_left x k h.own h.is
ends x (Backslash k out) v h = backslash_left x k h.own h.is
ends x (Escape k at out) v (has, h) = absurd (no_digits homes.Text (StringTail x k) at h.own h.is)
ends x (OneQuote q out) v h = one_left x q h.own h.is
ends x (TwoQuotes q out) v h = two_left x q h.own h.is
ends x (Done out) v h = ap Some (sym h.1)

may_end : (x : Style) (s : StringAt) (v : List ℕ) → final s ≡ Some v → Left x s [] v
may_end x Start v e = none_some e
may_end x (Opened q) v e = none_some e
may_end x (Empty q) v e = inl (refl, sym (some_same e))
may_end x (In k out) v e = none_some e
may_end x (Backslash k out) v e = none_some e
may_end x (Escape k at out) v e = none_some e
may_end x (OneQuote q out) v e = none_some e
may_end x (TwoQuotes q out) v e = none_some e
may_end x (Done out) v e = (refl, sym (some_same e))

pub string_exact : (x : Style) → Exact (Left x) (step x) final
string_exact x = record {
  forth = forth x;
  back = back x;
  alive = λ s n c a e. (live x s c a).all n e;
  ends = ends x;
  may_end = may_end x;
}
