-- The machine of escapes by number reads them, in front of any tail.
use Rattle.std.proofs.Common.{◌≡◌, refl, ℕ, zero, suc, ◌+◌, ◌*◌, true, cond, nat_lt, ◌==◌, List, [], ◌∷◌, ◌++◌, Some, None, ◌⊎◌, inl, inr, ⊎_elim, length, sym, ◌∙◌, ap, subst, arith}
use Rattle.std.specs.List.{AllByRecursion}
use Rattle.std.specs.Char.{digit_value}
use Rattle.std.specs.Str.{all_scalars}
use Rattle.bye_terms.proofs.Tests.{both_parts}
use Rattle.bye_lex.specs.Escapes.{IsHex, number, Piece, IsEscape, is_scalar}
use Rattle.bye_lex.specs.EscapeSteps.{may_be, begin, after_digit, step}
use Rattle.bye_lex.specs.declared.escape.Home.{Home}
use Rattle.bye_lex.specs.declared.escape.Home.TheVariants.{Iri, Text}
use Rattle.bye_lex.specs.declared.escape.EscapeAt.{EscapeAt}
use Rattle.bye_lex.specs.declared.escape.EscapeStep.{EscapeStep}
use Rattle.bye_lex.specs.declared.escape.EscapeStep.TheVariants.{Within, Whole}
use Rattle.bye_lex.proofs.Branches.{when, unless, chosen, eqb_same, same_eqb, never, heads, none_some, pick_of, scalars_join, two_ways}
use Rattle.bye_lex.proofs.Meanings.{After, EscapeTail, EscapeLeft}
use Rattle.bye_lex.proofs.Digits.{opens, digits_for}

-- the two marks of escapes, with their digits
abbrev pub IsNumbered : Piece → Type 0
IsNumbered p = IsEscape p 117 4 ⊎ IsEscape p 85 8

pub is_scalar_there : (home : Home) (n : ℕ) → may_be home zero n ≡ true → is_scalar n ≡ true
is_scalar_there Iri n e = (both_parts _ _ e).0
is_scalar_there Text n e = e

module _ (home : Home) (Tail : List ℕ → List ℕ → Type 0) where
  -- a digit
  abbrev Next : EscapeAt → ℕ → List ℕ → List ℕ → Type 0
  Next at c t v = (n : EscapeStep) × (step home at c ≡ Some n) × EscapeLeft home Tail n t v

  forth_digits : (left n : ℕ) (ds tail tv : List ℕ) (c : ℕ) (t v : List ℕ) → AllByRecursion IsHex ds → length ds ≡ suc left → may_be home zero (number n ds) ≡ true
      → Tail tail tv → c ∷ t ≡ ds ++ tail → v ≡ number n ds ∷ tv → Next (record { left = left; number = n }) c t v
  forth_digits left n [] tail tv c t v hex full a after e f = absurd (omega (arith, full))
  forth_digits zero n (d ∷ []) tail tv c t v (h, hex) full a after e f =
      let k = heads c d t tail e in
      let m = n * 16 + digit_value d in
      let same : digit_value c ≡ digit_value d = ap digit_value k.0 in (
        Whole m,
        ap (λ y. cond (nat_lt y 16) (after_digit home zero (n * 16 + y)) None) same ∙ when _ _ _ h ∙ when _ _ _ a,
        record { own = tv; is = subst (λ t. Tail t tv) (sym k.1) after; stands = f },
      )
  forth_digits zero n (d ∷ d2 ∷ ds) tail tv c t v hex full a after e f = absurd (omega (arith, full))
  forth_digits (suc left) n (d ∷ ds) tail tv c t v (h, hex) full a after e f =
      let k = heads c d t (ds ++ tail) e in
      let m = n * 16 + digit_value d in
      let same : digit_value c ≡ digit_value d = ap digit_value k.0 in (
        Within (record { left = left; number = m }),
        ap (λ y. cond (nat_lt y 16) (after_digit home (suc left) (n * 16 + y)) None) same ∙ when _ _ _ h ∙ when _ _ _ (opens home ds m (suc left) hex (omega (arith, full)) a),
        record { digits = ds; tail = tail; tail_value = tv; hex = hex; full = omega (arith, full); allowed = a; after = after; spelled = k.1; stands = f },
      )

  pub escape_forth : (at : EscapeAt) (c : ℕ) (t v : List ℕ) → EscapeTail home Tail at (c ∷ t) v → Next at c t v
  escape_forth at c t v h = forth_digits at.left at.number h.digits h.tail h.tail_value c t v h.hex h.full h.allowed h.after h.spelled h.stands

  digit_of : (c left m : ℕ) (s : EscapeStep) → cond (nat_lt (digit_value c) 16) (after_digit home left (m * 16 + digit_value c)) None ≡ Some s
      → (nat_lt (digit_value c) 16 ≡ true) × (after_digit home left (m * 16 + digit_value c) ≡ Some s)
  digit_of c left m s e = ⊎_elim (λ h. h) (λ h. none_some h.1) (chosen _ _ _ _ e)

  back_digits : (left m : ℕ) (n : EscapeStep) (c : ℕ) (t v : List ℕ) → step home (record { left = left; number = m }) c ≡ Some n → EscapeLeft home Tail n t v → EscapeTail home Tail (record { left = left; number = m }) (c ∷ t) v
  back_digits zero m n c t v e h =
      let d = digit_of c zero m n e in
      pick_of _ _ _ _ d.1
      (λ b k. let y = m * 16 + digit_value c in
      let a : After Tail (y ∷ []) t v = subst (λ n. EscapeLeft home Tail n t v) k h in
      record { digits = c ∷ []; tail = t; tail_value = a.own; hex = (d.0, tt); full = refl; allowed = b; after = a.is; spelled = refl; stands = a.stands })
      (λ k. none_some k)
  back_digits (suc left) m n c t v e h =
      let d = digit_of c (suc left) m n e in
      pick_of _ _ _ _ d.1
      (λ b k. let y = m * 16 + digit_value c in
      let a : EscapeTail home Tail (record { left = left; number = y }) t v = subst (λ n. EscapeLeft home Tail n t v) k h in
      record { digits = c ∷ a.digits; tail = a.tail; tail_value = a.tail_value; hex = (d.0, a.hex); full = ap suc a.full; allowed = a.allowed; after = a.after; spelled = ap (λ t. c ∷ t) a.spelled; stands = a.stands })
      (λ k. none_some k)

  pub escape_back : (at : EscapeAt) (n : EscapeStep) (c : ℕ) (t v : List ℕ) → step home at c ≡ Some n → EscapeLeft home Tail n t v → EscapeTail home Tail at (c ∷ t) v
  escape_back at n c t v e h = back_digits at.left at.number n c t v e h

  -- the mark
  mark_forth : (p : Piece) (mark left c : ℕ) (t tail tv : List ℕ) → IsEscape p mark (suc left) → may_be home zero p.char ≡ true → Tail tail tv → 92 ∷ c ∷ t ≡ p.text ++ tail
      → (c ≡ mark) × EscapeTail home Tail (record { left = left; number = 0 }) t (p.char ∷ tv)
  mark_forth p mark left c t tail tv k a after whole =
      let one = heads 92 92 (c ∷ t) (mark ∷ k.digits ++ tail) (whole ∙ ap (λ xs. xs ++ tail) k.text) in
      let two = heads c mark t (k.digits ++ tail) one.1 in (
        two.0,
        record {
          digits = k.digits;
          tail = tail;
          tail_value = tv;
          hex = k.hex;
          full = k.full;
          allowed = subst (λ c. may_be home zero c ≡ true) k.char a;
          after = after;
          spelled = two.1;
          stands = ap (λ c. c ∷ tv) k.char;
        },
      )

  pub begin_forth : (p : Piece) (c : ℕ) (t tail tv : List ℕ) → IsNumbered p → may_be home zero p.char ≡ true → Tail tail tv → 92 ∷ c ∷ t ≡ p.text ++ tail
      → (at : EscapeAt) × (begin c ≡ Some at) × EscapeTail home Tail at t (p.char ∷ tv)
  begin_forth p c t tail tv is a after whole =
      let R : Type 0 = (at : EscapeAt) × (begin c ≡ Some at) × EscapeTail home Tail at t (p.char ∷ tv) in
      ⊎_elim
      (λ (k : IsEscape p 117 4). let d = mark_forth p 117 3 c t tail tv k a after whole in let r : R = (record { left = 3; number = 0 }, when _ _ _ (same_eqb c 117 d.0), d.1) in r)
      (λ (k : IsEscape p 85 8).
      let d = mark_forth p 85 7 c t tail tv k a after whole in
      let r : R = (record { left = 7; number = 0 }, unless _ _ _ _ (never (λ c. c == 85) 117 c refl (same_eqb c 85 d.0)) (when _ _ _ (same_eqb c 85 d.0)), d.1) in r)
      is

  -- what begins with the mark of an escape and goes on as it wants
  pub record Begun (c : ℕ) (t v : List ℕ) : Type 0 where
    pub piece : Piece
    pub numbered : IsNumbered piece
    pub allowed : may_be home zero piece.char ≡ true
    pub tail : List ℕ
    pub tail_value : List ℕ
    pub after : Tail tail tail_value
    pub text : 92 ∷ c ∷ t ≡ piece.text ++ tail
    pub value : v ≡ piece.char ∷ tail_value

  begun : (mark left c : ℕ) (t v : List ℕ) → c ≡ mark → ((p : Piece) → IsEscape p mark (suc left) → IsNumbered p) → EscapeTail home Tail (record { left = left; number = 0 }) t v → Begun c t v
  begun mark left c t v same is h =
      let p : Piece = record { text = 92 ∷ mark ∷ h.digits; char = number 0 h.digits } in
      let e : IsEscape p mark (suc left) = record { digits = h.digits; text = refl; hex = h.hex; full = h.full; char = refl; scalar = is_scalar_there home p.char h.allowed } in
      record {
        piece = p;
        numbered = is p e;
        allowed = h.allowed;
        tail = h.tail;
        tail_value = h.tail_value;
        after = h.after;
        text = ap (λ c. 92 ∷ c ∷ t) same ∙ ap (λ t. 92 ∷ mark ∷ t) h.spelled;
        value = h.stands;
      }

  pub begin_back : (at : EscapeAt) (c : ℕ) (t v : List ℕ) → begin c ≡ Some at → EscapeTail home Tail at t v → Begun c t v
  begin_back at c t v e h =
      pick_of _ _ _ _ e
      (λ b k. begun 117 3 c t v (eqb_same c 117 b) (λ p k. inl k) (subst (λ (at : EscapeAt). EscapeTail home Tail at t v) k h))
      (λ k. pick_of _ _ _ _ k
      (λ b k. begun 85 7 c t v (eqb_same c 85 b) (λ p k. inr k) (subst (λ (at : EscapeAt). EscapeTail home Tail at t v) k h))
      (λ k. none_some k))

  -- an escape that is open can go on
  pub record Goes (at : EscapeAt) (tail tail_value : List ℕ) : Type 0 where
    pub digits : List ℕ
    pub scalars : all_scalars (digits ++ tail) ≡ true
    pub left : EscapeTail home Tail at (digits ++ tail) (number at.number digits ∷ tail_value)

  pub can_escape : (at : EscapeAt) (tail tv : List ℕ) → may_be home (suc at.left) at.number ≡ true → Tail tail tv → all_scalars tail ≡ true → Goes at tail tv
  can_escape at tail tv e after scalars =
      let d = digits_for home (suc at.left) at.number e in
      record {
        digits = d.0;
        scalars = scalars_join d.0 tail d.4 scalars;
        left = record { digits = d.0; tail = tail; tail_value = tv; hex = d.1; full = d.2; allowed = d.3; after = after; spelled = refl; stands = refl };
      }

-- and it is open where it is reached
pub begin_open : (home : Home) (at : EscapeAt) (c : ℕ) → begin c ≡ Some at → may_be home (suc at.left) at.number ≡ true
begin_open home at c e =
    two_ways (λ (at : EscapeAt). may_be home (suc at.left) at.number ≡ true) (c == 117) (c == 85) (record { left = 3; number = 0 }) (record { left = 7; number = 0 }) at (first home) (second home) e
  where
    first : (home : Home) → may_be home 4 0 ≡ true
    first Iri = refl
    first Text = refl

    second : (home : Home) → may_be home 8 0 ≡ true
    second Iri = refl
    second Text = refl

-- an escape that is still within is open
abbrev pub IsOpen : Home → EscapeStep → Type 0
IsOpen home (Within at) = may_be home (suc at.left) at.number ≡ true
IsOpen home (Whole c) = may_be home zero c ≡ true

digit_open : (home : Home) (left m : ℕ) (n : EscapeStep) → after_digit home left m ≡ Some n → IsOpen home n
digit_open home zero m n e = pick_of _ _ _ _ e (λ b k. subst (IsOpen home) (sym k) b) (λ k. none_some k)
digit_open home (suc left) m n e = pick_of _ _ _ _ e (λ b k. subst (IsOpen home) (sym k) b) (λ k. none_some k)

pub step_open : (home : Home) (at : EscapeAt) (c : ℕ) (n : EscapeStep) → step home at c ≡ Some n → IsOpen home n
step_open home at c n e = ⊎_elim (λ h. digit_open home at.left (at.number * 16 + digit_value c) n h.1) (λ h. none_some h.1) (chosen _ _ _ _ e)

-- no escape ends without its digits
pub no_digits : (home : Home) (Tail : List ℕ → List ℕ → Type 0) (at : EscapeAt) (v : List ℕ) → EscapeTail home Tail at [] v → ⊥
no_digits home Tail at v h = none at.left h.digits h.tail h.full h.spelled
  where
    none : (left : ℕ) (ds tail : List ℕ) → length ds ≡ suc left → ◌≡◌ {A = List ℕ} [] (ds ++ tail) → ⊥
    none left [] tail full e = omega (arith, full)
    none left (d ∷ ds) tail full e = cc
