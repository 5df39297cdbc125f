-- The machine of IRIs reads IRIs.
use Rattle.std.proofs.Common.{◌≡◌, refl, ℕ, suc, ◌<◌, Bool, true, false, cond, ◌==◌, ◌&&◌, List, [], ◌∷◌, ◌++◌, Option, Some, None, option_map, ◌⊎◌, inl, inr, ⊎_elim, length, map, flat_map, sym, ◌∙◌, ap, subst, append_assoc, arith, codes, length-append}
use Rattle.std.specs.List.{AllByRecursion}
use Rattle.std.proofs.lemmas.List.{append-nil}
use Rattle.bye_terms.specs.Characters.{is_letter, is_scheme_char, is_iri_char}
use Rattle.bye_terms.proofs.Tests.{both_parts}
use Rattle.bye_lex.specs.Languages.{Viable}
use Rattle.bye_lex.specs.Escapes.{number, Piece, IsRaw, IsEscape, is_scalar}
use Rattle.bye_lex.specs.EscapeSteps as escapes
use Rattle.bye_lex.specs.Iris.{has_numbers, IsIriPiece, IriToken, IriLetter, IriScheme, IriTail}
use Rattle.bye_lex.specs.IriSteps.{after_escape, step, final}
use Rattle.bye_lex.specs.declared.escape.Home.TheVariants as homes
use Rattle.bye_lex.specs.declared.escape.EscapeAt.{EscapeAt}
use Rattle.bye_lex.specs.declared.escape.EscapeStep.{EscapeStep}
use Rattle.bye_lex.specs.declared.escape.EscapeStep.TheVariants.{Within, Whole}
use Rattle.bye_lex.specs.declared.iri.IriAt.{IriAt}
use Rattle.bye_lex.specs.declared.iri.IriAt.TheVariants.{Start, Opened, Scheme, Body, Backslash, Escape, Done}
use Rattle.bye_lex.specs.declared.style.Style.{Style}
use Rattle.bye_lex.proofs.Branches.{when, unless, eqb_same, same_eqb, never, heads, some_same, none_some, snoc, and_true, pick_of, mapped}
use Rattle.bye_lex.proofs.Scans.{Exact}
use Rattle.bye_lex.proofs.EscapeExact.{IsNumbered, IsOpen, escape_forth, escape_back, begin_forth, begin_back, can_escape, begin_open, step_open, no_digits}
use Rattle.bye_lex.proofs.IriMeaning.{Left}
use Rattle.bye_lex.proofs.Meanings.{After, EscapeTail, EscapeLeft}

-- forward
abbrev Next : Style → IriAt → ℕ → List ℕ → List ℕ → Type 0
Next x s c t v = (n : IriAt) × (step x s c ≡ Some n) × Left x n t v

forth_start : (x : Style) (c : ℕ) (t v : List ℕ) → IriToken x (c ∷ t) v → Next x Start c t v
forth_start x c t v h =
    let e = heads c 60 t h.rest h.spelled in
    (Opened, when _ _ _ (same_eqb c 60 e.0), subst (λ t. IriLetter x t v) (sym e.1) h.after)

forth_opened : (x : Style) (c : ℕ) (t v : List ℕ) → IriLetter x (c ∷ t) v → Next x Opened c t v
forth_opened x c t v h =
    let e = heads c h.first t h.rest h.spelled in (
      Scheme (c ∷ []),
      when _ _ _ (subst (λ c. is_letter c ≡ true) (sym e.0) h.letter),
      record { own = h.rest_value; is = subst (λ t. IriScheme x t h.rest_value) (sym e.1) h.after; stands = h.stands ∙ ap (λ c. c ∷ h.rest_value) (sym e.0) },
    )

forth_scheme : (x : Style) (out scheme tail tv : List ℕ) (c : ℕ) (t v w : List ℕ) → AllByRecursion (λ c. is_scheme_char c ≡ true) scheme → IriTail x tail tv
    → c ∷ t ≡ scheme ++ 58 ∷ tail → w ≡ scheme ++ 58 ∷ tv → v ≡ out ++ w → Next x (Scheme out) c t v
forth_scheme x out [] tail tv c t v w each a e f g =
    let h = heads c 58 t tail e in (
      Body (out ++ c ∷ []),
      when _ _ _ (same_eqb c 58 h.0),
      record { own = tv; is = subst (λ t. IriTail x t tv) (sym h.1) a; stands = g ∙ ap (λ w. out ++ w) (f ∙ ap (λ c. c ∷ tv) (sym h.0)) ∙ snoc out tv c },
    )
forth_scheme x out (d ∷ ds) tail tv c t v w (k, each) a e f g =
    let h = heads c d t (ds ++ 58 ∷ tail) e in
    let k' = subst (λ c. is_scheme_char c ≡ true) (sym h.0) k in
    let own = ds ++ 58 ∷ tv in (
      Scheme (out ++ c ∷ []),
      unless _ _ _ _ (never is_scheme_char 58 c refl k') (when _ _ _ k'),
      record {
        own = own;
        is = record { scheme = ds; each = each; tail = tail; tail_value = tv; after = a; spelled = h.1; stands = refl };
        stands = g ∙ ap (λ w. out ++ w) (f ∙ ap (λ c. c ∷ own) (sym h.0)) ∙ snoc out own c;
      },
    )

-- a test and a flag that is set
with_flag : (a b : Bool) → a ≡ true → b ≡ true → (a && b) ≡ true
with_flag a b e f = and_true a b e f

without : (a b : Bool) → a ≡ false → (a && b) ≡ false
without true b e = cc
without false b e = refl

forth_body : (x : Style) (out : List ℕ) (ps : List Piece) (c : ℕ) (t w v : List ℕ) → AllByRecursion (IsIriPiece x) ps → c ∷ t ≡ flat_map (λ p. p.text) ps ++ 62 ∷ [] → w ≡ map (λ p. p.char) ps → v ≡ out ++ w → Next x (Body out) c t v
forth_body x out [] c t w v each e f g =
    let h = heads c 62 t [] e in
    (Done out, when _ _ _ (same_eqb c 62 h.0), (h.1, g ∙ ap (λ w. out ++ w) f ∙ append-nil out))
forth_body x out (p ∷ ps) c t w v (is, each) e f g =
    let tail = flat_map (λ p. p.text) ps ++ 62 ∷ [] in
    let whole : c ∷ t ≡ p.text ++ tail = e ∙ append_assoc p.text (flat_map (λ p. p.text) ps) (62 ∷ []) in
    let escaped = λ (has : has_numbers x ≡ true) (mark count : ℕ) (k : IsEscape p mark count).
    let h = heads c 92 t ((mark ∷ k.digits) ++ tail) (whole ∙ ap (λ xs. xs ++ tail) k.text) in
    let n : Next x (Body out) c t v = (
      Backslash out,
      unless _ _ _ _ (never (λ c. c == 92) 62 c refl (same_eqb c 92 h.0)) (when _ _ _ (with_flag (c == 92) (has_numbers x) (same_eqb c 92 h.0) has)),
      (has, record { own = w; is = record { pieces = p ∷ ps; each = (is, each); spelled = ap (λ c. c ∷ t) (sym h.0) ∙ e; stands = f }; stands = g }),
    ) in n in
    ⊎_elim
    (λ (k : IsRaw p).
    let h = heads c p.char t tail (whole ∙ ap (λ xs. xs ++ tail) k.text) in
    let good = subst (λ c. is_iri_char c ≡ true) (sym h.0) is.allowed in
    let own = map (λ (p : Piece). p.char) ps in
    let n : Next x (Body out) c t v = (
      Body (out ++ c ∷ []),
      unless _ _ _ _ (never is_iri_char 62 c refl good) (unless _ _ _ _ (without (c == 92) (has_numbers x) (never is_iri_char 92 c refl good)) (when _ _ _ good)),
      record { own = own; is = record { pieces = ps; each = each; spelled = h.1; stands = refl }; stands = g ∙ ap (λ w. out ++ w) (f ∙ ap (λ c. c ∷ own) (sym h.0)) ∙ snoc out own c },
    ) in n)
    (λ (k : (has_numbers x ≡ true) × (IsEscape p 117 4 ⊎ IsEscape p 85 8)). ⊎_elim (escaped k.0 117 4) (escaped k.0 85 8) k.1)
    is.spelled

-- an escape by number stands for a scalar value
scalar_of : (p : Piece) → IsNumbered p → is_scalar p.char ≡ true
scalar_of p is = ⊎_elim (λ k. k.scalar) (λ k. k.scalar) is

-- what a piece begins
begins_raw : (p : Piece) (t tail : List ℕ) → IsRaw p → is_iri_char p.char ≡ true → 92 ∷ t ≡ p.text ++ tail → ⊥
begins_raw p t tail k good whole =
    let h = heads 92 p.char t tail (whole ∙ ap (λ xs. xs ++ tail) k.text) in
    let bad = subst (λ c. is_iri_char c ≡ true) (sym h.0) good in cc

forth_backslash : (x : Style) → has_numbers x ≡ true → (out : List ℕ) (ps : List Piece) (c : ℕ) (t w v : List ℕ) → AllByRecursion (IsIriPiece x) ps → 92 ∷ c ∷ t ≡ flat_map (λ p. p.text) ps ++ 62 ∷ [] → w ≡ map (λ p. p.char) ps → v ≡ out ++ w → Next x (Backslash out) c t v
forth_backslash x has out [] c t w v each e f g = cc
forth_backslash x has out (p ∷ ps) c t w v (is, each) e f g =
    let tail = flat_map (λ p. p.text) ps ++ 62 ∷ [] in
    let own = map (λ (p : Piece). p.char) ps in
    let whole : 92 ∷ c ∷ t ≡ p.text ++ tail = e ∙ append_assoc p.text (flat_map (λ p. p.text) ps) (62 ∷ []) in
    let rest : IriTail x tail own = record { pieces = ps; each = each; spelled = refl; stands = refl } in
    ⊎_elim
    (λ (k : IsRaw p). absurd (begins_raw p (c ∷ t) tail k is.allowed whole))
    (λ (k : (has_numbers x ≡ true) × IsNumbered p).
    let d = begin_forth homes.Iri (IriTail x) p c t tail own k.1 (and_true _ _ (scalar_of p k.1) is.allowed) rest whole in
    let n : Next x (Backslash out) c t v = (
      Escape d.0 out,
      ap (λ o. option_map (λ at. Escape at out) o) d.1,
      (has, record { own = w; is = subst (λ w. EscapeTail homes.Iri (IriTail x) d.0 t w) (sym f) d.2; stands = g }),
    ) in n)
    is.spelled

escape_to : (x : Style) → has_numbers x ≡ true → (out : List ℕ) (n : EscapeStep) (t own v : List ℕ) → EscapeLeft homes.Iri (IriTail x) n t own → v ≡ out ++ own → Left x (after_escape out n) t v
escape_to x has out (Within at) t own v h e = (has, record { own = own; is = h; stands = e })
escape_to x has out (Whole c) t own v h e = record { own = h.own; is = h.is; stands = e ∙ ap (λ w. out ++ w) h.stands ∙ snoc out h.own c }

forth_escape : (x : Style) → has_numbers x ≡ true → (at : EscapeAt) (out : List ℕ) (c : ℕ) (t v : List ℕ) → After (EscapeTail homes.Iri (IriTail x) at) out (c ∷ t) v → Next x (Escape at out) c t v
forth_escape x has at out c t v h =
    let n = escape_forth homes.Iri (IriTail x) at c t h.own h.is in
    (after_escape out n.0, ap (λ o. option_map (after_escape out) o) n.1, escape_to x has out n.0 t h.own v n.2 h.stands)

forth : (x : Style) (s : IriAt) (c : ℕ) (t v : List ℕ) → Left x s (c ∷ t) v → Next x s c t v
forth x Start c t v h = forth_start x c t v h
forth x Opened c t v h = forth_opened x c t v h
forth x (Scheme out) c t v h = forth_scheme x out h.is.scheme h.is.tail h.is.tail_value c t v h.own h.is.each h.is.after h.is.spelled h.is.stands h.stands
forth x (Body out) c t v h = forth_body x out h.is.pieces c t h.own v h.is.each h.is.spelled h.is.stands h.stands
forth x (Backslash out) c t v (has, h) = forth_backslash x has out h.is.pieces c t h.own v h.is.each h.is.spelled h.is.stands h.stands
forth x (Escape at out) c t v (has, h) = forth_escape x has at out c t v h
forth x (Done out) c t v h = cc

-- backward
abbrev Before : Style → IriAt → IriAt → ℕ → List ℕ → List ℕ → Type 0
Before x s n c t v = step x s c ≡ Some n → Left x n t v → Left x s (c ∷ t) v

at : (x : Style) (n m : IriAt) (t v : List ℕ) → n ≡ m → Left x n t v → Left x m t v
at x n m t v e h = subst (λ (n : IriAt). Left x n t v) e h

back_start : (x : Style) (n : IriAt) (c : ℕ) (t v : List ℕ) → Before x Start n c t v
back_start x n c t v e h =
    pick_of _ _ _ _ e (λ b k. record { rest = t; after = at x n Opened t v k h; spelled = ap (λ c. c ∷ t) (eqb_same c 60 b) }) (λ k. none_some k)

back_opened : (x : Style) (n : IriAt) (c : ℕ) (t v : List ℕ) → Before x Opened n c t v
back_opened x n c t v e h =
    pick_of _ _ _ _ e (λ b k. let a : After (IriScheme x) (c ∷ []) t v = at x n (Scheme (c ∷ [])) t v k h in
    record { first = c; letter = b; rest = t; rest_value = a.own; after = a.is; spelled = refl; stands = a.stands }) (λ k. none_some k)

back_scheme : (x : Style) (out : List ℕ) (n : IriAt) (c : ℕ) (t v : List ℕ) → Before x (Scheme out) n c t v
back_scheme x out n c t v e h =
    pick_of _ _ _ _ e
    (λ b k. let a : After (IriTail x) (out ++ c ∷ []) t v = at x n (Body (out ++ c ∷ [])) t v k h in
    let same = eqb_same c 58 b in
    record {
      own = c ∷ a.own;
      is = record { scheme = []; each = tt; tail = t; tail_value = a.own; after = a.is; spelled = ap (λ c. c ∷ t) same; stands = ap (λ c. c ∷ a.own) same };
      stands = a.stands ∙ sym (snoc out a.own c);
    })
    (λ e. pick_of _ _ _ _ e
    (λ b k. let a : After (IriScheme x) (out ++ c ∷ []) t v = at x n (Scheme (out ++ c ∷ [])) t v k h in
    record {
      own = c ∷ a.own;
      is = record { scheme = c ∷ a.is.scheme; each = (b, a.is.each); tail = a.is.tail; tail_value = a.is.tail_value; after = a.is.after; spelled = ap (λ t. c ∷ t) a.is.spelled; stands = ap (λ t. c ∷ t) a.is.stands };
      stands = a.stands ∙ sym (snoc out a.own c);
    })
    (λ k. none_some k))

tail_cons : (x : Style) (p : Piece) (t w : List ℕ) → IsIriPiece x p → IriTail x t w → IriTail x (p.text ++ t) (p.char ∷ w)
tail_cons x p t w is h = record {
  pieces = p ∷ h.pieces;
  each = (is, h.each);
  spelled = ap (λ t. p.text ++ t) h.spelled ∙ sym (append_assoc p.text (flat_map (λ p. p.text) h.pieces) (62 ∷ []));
  stands = ap (λ w. p.char ∷ w) h.stands;
}

back_body : (x : Style) (out : List ℕ) (n : IriAt) (c : ℕ) (t v : List ℕ) → Before x (Body out) n c t v
back_body x out n c t v e h =
    pick_of _ _ _ _ e
    (λ b k. let a : (t ≡ []) × (v ≡ out) = at x n (Done out) t v k h in
    record { own = []; is = record { pieces = []; each = tt; spelled = ap (λ t. c ∷ t) a.0 ∙ ap (λ c. c ∷ []) (eqb_same c 62 b); stands = refl }; stands = a.1 ∙ sym (append-nil out) })
    (λ e. pick_of _ _ _ _ e
    (λ b k. let a : (has_numbers x ≡ true) × After (λ t w. IriTail x (92 ∷ t) w) out t v = at x n (Backslash out) t v k h in
    record { own = a.1.own; is = subst (λ d. IriTail x (d ∷ t) a.1.own) (sym (eqb_same c 92 (both_parts _ _ b).0)) a.1.is; stands = a.1.stands })
    (λ e. pick_of _ _ _ _ e
    (λ b k. let a : After (IriTail x) (out ++ c ∷ []) t v = at x n (Body (out ++ c ∷ [])) t v k h in
    let p : Piece = record { text = c ∷ []; char = c } in
    record { own = c ∷ a.own; is = tail_cons x p t a.own (record { spelled = inl (record { text = refl }); allowed = b }) a.is; stands = a.stands ∙ sym (snoc out a.own c) })
    (λ k. none_some k)))

back_backslash : (x : Style) → has_numbers x ≡ true → (out : List ℕ) (n : IriAt) (c : ℕ) (t v : List ℕ) → Before x (Backslash out) n c t v
back_backslash x has out n c t v e h =
    let m = mapped (λ at. Escape at out) (escapes.begin c) n e in
    let a : (has_numbers x ≡ true) × After (EscapeTail homes.Iri (IriTail x) m.0) out t v = at x n (Escape m.0 out) t v (sym m.2) h in
    let b = begin_back homes.Iri (IriTail x) m.0 c t a.1.own m.1 a.1.is in
    let all = tail_cons x b.piece b.tail b.tail_value (record { spelled = inr (has, b.numbered); allowed = (both_parts _ _ b.allowed).1 }) b.after in
    (has, record { own = a.1.own; is = subst (λ w. IriTail x (92 ∷ c ∷ t) w) (sym b.value) (subst (λ t. IriTail x t (b.piece.char ∷ b.tail_value)) (sym b.text) all); stands = a.1.stands })

escape_from : (x : Style) (out : List ℕ) (n : EscapeStep) (t v : List ℕ) → Left x (after_escape out n) t v → After (EscapeLeft homes.Iri (IriTail x) n) out t v
escape_from x out (Within at) t v h = h.1
escape_from x out (Whole c) t v h = record { own = c ∷ h.own; is = record { own = h.own; is = h.is; stands = refl }; stands = h.stands ∙ sym (snoc out h.own c) }

back_escape : (x : Style) → has_numbers x ≡ true → (e : EscapeAt) (out : List ℕ) (n : IriAt) (c : ℕ) (t v : List ℕ) → Before x (Escape e out) n c t v
back_escape x has e out n c t v step_is h =
    let m = mapped (after_escape out) (escapes.step homes.Iri e c) n step_is in
    let a = escape_from x out m.0 t v (at x n (after_escape out m.0) t v (sym m.2) h) in
    (has, record { own = a.own; is = escape_back homes.Iri (IriTail x) e m.0 c t a.own m.1 a.is; stands = a.stands })

back : (x : Style) (s n : IriAt) (c : ℕ) (t v : List ℕ) → Viable (Left x s) [] → Before x s n c t v
back x Start n c t v a e h = back_start x n c t v e h
back x Opened n c t v a e h = back_opened x n c t v e h
back x (Scheme out) n c t v a e h = back_scheme x out n c t v e h
back x (Body out) n c t v a e h = back_body x out n c t v e h
back x (Backslash out) n c t v a e h = back_backslash x a.whole.0 out n c t v e h
back x (Escape at out) n c t v a e h = back_escape x a.whole.0 at out n c t v e h
back x (Done out) n c t v a e h = none_some e

-- each state that is reached can go on
tail_end : (x : Style) → IriTail x (62 ∷ []) []
tail_end x = record { pieces = []; each = tt; spelled = refl; stands = refl }

can_body : (x : Style) (out : List ℕ) → Viable (Left x (Body out)) []
can_body x out = record { more = 62 ∷ []; scalars = refl; value = out ++ []; whole = record { own = []; is = tail_end x; stands = refl } }

can_scheme : (x : Style) (out : List ℕ) → Viable (Left x (Scheme out)) []
can_scheme x out = record { more = 58 ∷ 62 ∷ []; scalars = refl; value = out ++ 58 ∷ []; whole = record { own = 58 ∷ []; is = record { scheme = []; each = tt; tail = 62 ∷ []; tail_value = []; after = tail_end x; spelled = refl; stands = refl }; stands = refl } }

can_backslash : (x : Style) → has_numbers x ≡ true → (out : List ℕ) → Viable (Left x (Backslash out)) []
can_backslash x has out =
    let p : Piece = record { text = codes "\\u0021"; char = 33 } in
    let k : IsEscape p 117 4 = record { digits = codes "0021"; text = refl; hex = (refl, (refl, (refl, (refl, tt)))); full = refl; char = refl; scalar = refl } in
    record { more = codes "u0021>"; scalars = refl; value = out ++ 33 ∷ []; whole = (has, record { own = 33 ∷ []; is = tail_cons x p (62 ∷ []) [] (record { spelled = inr (has, inl k); allowed = refl }) (tail_end x); stands = refl }) }

can_digits : (x : Style) → has_numbers x ≡ true → (at : EscapeAt) (out : List ℕ) → escapes.may_be homes.Iri (suc at.left) at.number ≡ true → Viable (Left x (Escape at out)) []
can_digits x has at out e =
    let g = can_escape homes.Iri (IriTail x) at (62 ∷ []) [] e (tail_end x) refl in
    record { more = g.digits ++ 62 ∷ []; scalars = g.scalars; value = out ++ number at.number g.digits ∷ []; whole = (has, record { own = number at.number g.digits ∷ []; is = g.left; stands = refl }) }

can_after : (x : Style) → has_numbers x ≡ true → (out : List ℕ) (n : EscapeStep) → IsOpen homes.Iri n → Viable (Left x (after_escape out n)) []
can_after x has out (Within at) e = can_digits x has at out e
can_after x has out (Whole c) e = can_body x (out ++ c ∷ [])

can_open : (x : Style) → Viable (Left x Opened) []
can_open x = record { more = codes "a:>"; scalars = refl; value = codes "a:"; whole = record { first = 97; letter = refl; rest = codes ":>"; rest_value = codes ":"; after = record { scheme = []; each = tt; tail = 62 ∷ []; tail_value = []; after = tail_end x; spelled = refl; stands = refl }; spelled = refl; stands = refl } }

pub can_start : (x : Style) → Viable (Left x Start) []
can_start x = let w = can_open x in record { more = 60 ∷ w.more; scalars = w.scalars; value = w.value; whole = record { rest = w.more; after = w.whole; spelled = refl } }

can_done : (x : Style) (out : List ℕ) → Viable (Left x (Done out)) []
can_done x out = record { more = []; scalars = refl; value = out; whole = (refl, refl) }

record Live (x : Style) (o : Option IriAt) : Type 0 where
  all : (n : IriAt) → o ≡ Some n → Viable (Left x n) []

live_none : (x : Style) → Live x None
live_none x = record { all = λ n e. none_some e }

live_some : (x : Style) (s : IriAt) → Viable (Left x s) [] → Live x (Some s)
live_some x s h = record { all = λ n e. subst (λ (n : IriAt). Viable (Left x n) []) (some_same e) h }

live_if : (x : Style) (b : Bool) (y z : Option IriAt) → (b ≡ true → Live x y) → Live x z → Live x (cond b y z)
live_if x true y z h k = h refl
live_if x false y z h k = k

live_backslash : (x : Style) → has_numbers x ≡ true → (out : List ℕ) (c : ℕ) → Live x (step x (Backslash out) c)
live_backslash x has out c = record {
  all = λ n e.
      let m = mapped (λ at. Escape at out) (escapes.begin c) n e in
      subst (λ (n : IriAt). Viable (Left x n) []) m.2 (can_digits x has m.0 out (begin_open homes.Iri m.0 c m.1));
}

live_escape : (x : Style) → has_numbers x ≡ true → (at : EscapeAt) (out : List ℕ) (c : ℕ) → Live x (step x (Escape at out) c)
live_escape x has at out c = record {
  all = λ n e.
      let m = mapped (after_escape out) (escapes.step homes.Iri at c) n e in
      subst (λ (n : IriAt). Viable (Left x n) []) m.2 (can_after x has out m.0 (step_open homes.Iri at c m.0 m.1));
}

live : (x : Style) (s : IriAt) (c : ℕ) → Viable (Left x s) [] → Live x (step x s c)
live x Start c a = live_if x (c == 60) (Some Opened) None (λ b. live_some x Opened (can_open x)) (live_none x)
live x Opened c a = live_if x (is_letter c) (Some (Scheme (c ∷ []))) None (λ b. live_some x (Scheme (c ∷ [])) (can_scheme x (c ∷ []))) (live_none x)
live x (Scheme out) c a =
    let more = out ++ c ∷ [] in
    let second = live_if x (is_scheme_char c) (Some (Scheme more)) None (λ b. live_some x (Scheme more) (can_scheme x more)) (live_none x) in
    live_if x (c == 58) (Some (Body more)) (cond (is_scheme_char c) (Some (Scheme more)) None) (λ b. live_some x (Body more) (can_body x more)) second
live x (Body out) c a =
    let more = out ++ c ∷ [] in
    let third = live_if x (is_iri_char c) (Some (Body more)) None (λ b. live_some x (Body more) (can_body x more)) (live_none x) in
    let second = live_if x (c == 92 && has_numbers x) (Some (Backslash out)) (cond (is_iri_char c) (Some (Body more)) None) (λ b. live_some x (Backslash out) (can_backslash x (both_parts _ _ b).1 out)) third in
    live_if x (c == 62) (Some (Done out)) (cond (c == 92 && has_numbers x) (Some (Backslash out)) (cond (is_iri_char c) (Some (Body more)) None)) (λ b. live_some x (Done out) (can_done x out)) second
live x (Backslash out) c a = live_backslash x a.whole.0 out c
live x (Escape at out) c a = live_escape x a.whole.0 at out c
live x (Done out) c a = live_none x

-- where the text may end
no_tail : (ps : List Piece) → ◌≡◌ {A = List ℕ} [] (flat_map (λ p. p.text) ps ++ 62 ∷ []) → ⊥
no_tail ps e = let n = ap length e ∙ length-append (flat_map (λ p. p.text) ps) (62 ∷ []) in omega (arith, n)

no_end : (a b : List ℕ) → ◌≡◌ {A = List ℕ} [] (a ++ (b ++ 62 ∷ [])) → ⊥
no_end [] [] e = cc
no_end [] (y ∷ b) e = cc
no_end (x ∷ a) b e = cc

too_long : (x y : List ℕ) → 0 < length x → 92 ∷ [] ≡ x ++ (y ++ 62 ∷ []) → ⊥
too_long [] y l e = omega (arith, l)
too_long (d ∷ ds) y l e = no_end ds y (heads 92 d [] (ds ++ (y ++ 62 ∷ [])) e).1

raw_some : (p : Piece) → IsRaw p → 0 < length p.text
raw_some p k = let l = ap length k.text in omega (arith, l)

escape_some : (p : Piece) (mark count : ℕ) → IsEscape p mark count → 0 < length p.text
escape_some p mark count k = let l = ap length k.text in omega (arith, l)

piece_some : (x : Style) (p : Piece) → IsIriPiece x p → 0 < length p.text
piece_some x p is = ⊎_elim (raw_some p) (λ k. ⊎_elim (escape_some p 117 4) (escape_some p 85 8) k.1) is.spelled

not_end : ◌≡◌ {A = ℕ} 92 62 → ⊥
not_end e = omega (arith, e)

no_backslash : (x : Style) (ps : List Piece) → AllByRecursion (IsIriPiece x) ps → 92 ∷ [] ≡ flat_map (λ p. p.text) ps ++ 62 ∷ [] → ⊥
no_backslash x [] each e = not_end (heads 92 62 [] [] e).0
no_backslash x (p ∷ ps) (is, each) e =
    too_long p.text (flat_map (λ p. p.text) ps) (piece_some x p is) (e ∙ append_assoc p.text (flat_map (λ p. p.text) ps) (62 ∷ []))

no_scheme : (xs tail : List ℕ) → ◌≡◌ {A = List ℕ} [] (xs ++ 58 ∷ tail) → ⊥
no_scheme [] tail e = cc
no_scheme (x ∷ xs) tail e = cc

ends : (x : Style) (s : IriAt) (v : List ℕ) → Left x s [] v → final s ≡ Some v
ends x Start v h = let e = h.spelled in cc
ends x Opened v h = let e = h.spelled in cc
ends x (Scheme out) v h = absurd (no_scheme h.is.scheme h.is.tail h.is.spelled)
ends x (Body out) v h = absurd (no_tail h.is.pieces h.is.spelled)
ends x (Backslash out) v (has, h) = absurd (no_backslash x h.is.pieces h.is.each h.is.spelled)
ends x (Escape at out) v (has, h) = absurd (no_digits homes.Iri (IriTail x) at h.own h.is)
ends x (Done out) v h = ap Some (sym h.1)

may_end : (x : Style) (s : IriAt) (v : List ℕ) → final s ≡ Some v → Left x s [] v
may_end x Start v e = none_some e
may_end x Opened v e = none_some e
may_end x (Scheme out) v e = none_some e
may_end x (Body out) v e = none_some e
may_end x (Backslash out) v e = none_some e
may_end x (Escape at out) v e = none_some e
may_end x (Done out) v e = (refl, sym (some_same e))

pub iri_exact : (x : Style) → Exact (Left x) (step x) final
iri_exact x = record {
  forth = forth x;
  back = back x;
  alive = λ s n c a e. (live x s c a).all n e;
  ends = ends x;
  may_end = may_end x;
}
