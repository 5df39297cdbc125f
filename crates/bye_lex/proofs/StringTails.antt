-- What is left of a string, by its first character.
use Rattle.std.proofs.Common.{◌≡◌, refl, ℕ, zero, suc, ◌≤◌, Bool, true, false, ◌==◌, List, [], ◌∷◌, ◌++◌, ◌⊎◌, inl, inr, ⊎_elim, flat_map, sym, ◌∙◌, ap, subst, append_assoc, arith, replicate}
use Rattle.std.specs.List.{AllByRecursion}
use Rattle.bye_lex.specs.Escapes.{Piece, IsRaw, IsEscape}
use Rattle.bye_lex.specs.Iris.{has_numbers}
use Rattle.bye_lex.specs.Strings.{mark_of, around, may_stand, IsNamed, IsStringPiece, Group, may_precede, quote_of, IsGroup, group_text, group_value, StringTail}
use Rattle.bye_lex.specs.declared.style.Style.{Style}
use Rattle.bye_lex.specs.declared.quoting.Quote.{Quote}
use Rattle.bye_lex.specs.declared.quoting.Quote.TheVariants.{Double, Single}
use Rattle.bye_lex.specs.declared.quoting.Quoting.{Quoting}
use Rattle.bye_lex.specs.declared.quoting.Quoting.TheVariants.{Short, Long}
use Rattle.bye_lex.proofs.Branches.{heads, never, same_eqb}

-- nothing but what closes the string
pub record Closes (k : Quoting) (t w : List ℕ) : Type 0 where
  pub text : t ≡ around k
  pub value : w ≡ []

-- a character, and the rest
pub record Spells (style : Style) (k : Quoting) (t w : List ℕ) : Type 0 where
  pub piece : Piece
  pub is : IsStringPiece style k piece
  pub rest : List ℕ
  pub rest_value : List ℕ
  pub tail : StringTail style k rest rest_value
  pub text : t ≡ piece.text ++ rest
  pub value : w ≡ piece.char ∷ rest_value

-- a quote or two, and then a character
pub record Quoted (style : Style) (k : Quoting) (t w : List ℕ) : Type 0 where
  pub quotes : ℕ
  pub few : may_precede k (suc quotes)
  pub own : List ℕ
  pub own_value : List ℕ
  pub after : Spells style k own own_value
  pub text : t ≡ quote_of k ∷ replicate quotes (quote_of k) ++ own
  pub value : w ≡ quote_of k ∷ replicate quotes (quote_of k) ++ own_value

abbrev pub View : Style → Quoting → List ℕ → List ℕ → Type 0
View style k text value = Closes k text value ⊎ (Spells style k text value ⊎ Quoted style k text value)

rest_of : (style : Style) (k : Quoting) (gs : List Group) → AllByRecursion (IsGroup style k) gs → StringTail style k (flat_map (group_text k) gs ++ around k) (flat_map (group_value k) gs)
rest_of style k gs each = record { groups = gs; each = each; spelled = refl; stands = refl }

view_groups : (style : Style) (k : Quoting) (gs : List Group) → AllByRecursion (IsGroup style k) gs → View style k (flat_map (group_text k) gs ++ around k) (flat_map (group_value k) gs)
view_groups style k [] each = inl (record { text = refl; value = refl })
view_groups style k (g ∷ gs) ((few, is), each) =
    let tail = flat_map (group_text k) gs ++ around k in
    let own : Spells style k (g.piece.text ++ tail) (g.piece.char ∷ flat_map (group_value k) gs) =
    record { piece = g.piece; is = is; rest = tail; rest_value = flat_map (group_value k) gs; tail = rest_of style k gs each; text = refl; value = refl } in
    let apart = append_assoc (group_text k g) (flat_map (group_text k) gs) (around k) in
    elim g.quotes as (λ n. may_precede k n → (t w : List ℕ) → t ≡ (replicate n (quote_of k) ++ g.piece.text) ++ tail → w ≡ (replicate n (quote_of k) ++ g.piece.char ∷ []) ++ flat_map (group_value k) gs → View style k t w) [
      | zero ↦ λ few t w e f. inr (inl (record { piece = g.piece; is = is; rest = tail; rest_value = flat_map (group_value k) gs; tail = rest_of style k gs each; text = e; value = f }))
      | suc n ↦ λ few t w e f. inr (inr (record {
        quotes = n;
        few = few;
        own = g.piece.text ++ tail;
        own_value = g.piece.char ∷ flat_map (group_value k) gs;
        after = own;
        text = e ∙ ap (λ t. quote_of k ∷ t) (append_assoc (replicate n (quote_of k)) g.piece.text tail);
        value = f ∙ ap (λ t. quote_of k ∷ t) (append_assoc (replicate n (quote_of k)) (g.piece.char ∷ []) (flat_map (group_value k) gs));
      }))
    ] few _ _ apart refl

pub view : (style : Style) (k : Quoting) (t w : List ℕ) → StringTail style k t w → View style k t w
view style k t w h = subst (λ t. View style k t w) (sym h.spelled) (subst (λ w. View style k (flat_map (group_text k) h.groups ++ around k) w) (sym h.stands) (view_groups style k h.groups h.each))

-- how a tail is made
pub tail_end : (style : Style) (k : Quoting) → StringTail style k (around k) []
tail_end style k = record { groups = []; each = tt; spelled = refl; stands = refl }

with_group : (style : Style) (k : Quoting) (g : Group) (t w : List ℕ) → IsGroup style k g → StringTail style k t w → StringTail style k (group_text k g ++ t) (group_value k g ++ w)
with_group style k g t w is h = record {
  groups = g ∷ h.groups;
  each = (is, h.each);
  spelled = ap (λ t. group_text k g ++ t) h.spelled ∙ sym (append_assoc (group_text k g) (flat_map (group_text k) h.groups) (around k));
  stands = ap (λ w. group_value k g ++ w) h.stands;
}

none_before : (k : Quoting) → may_precede k 0
none_before (Short quote) = refl
none_before (Long quote) = omega arith

pub spell : (style : Style) (k : Quoting) (p : Piece) (t w : List ℕ) → IsStringPiece style k p → StringTail style k t w → StringTail style k (p.text ++ t) (p.char ∷ w)
spell style k p t w is h = with_group style k (record { quotes = 0; piece = p }) t w (none_before k, is) h

-- the quote begins no character
quote_is_out : (style : Style) (k : Quoting) → may_stand style k (quote_of k) ≡ false
quote_is_out style (Short Double) = refl
quote_is_out style (Short Single) = refl
quote_is_out style (Long Double) = refl
quote_is_out style (Long Single) = refl

pub backslash_is_out : (style : Style) (k : Quoting) → may_stand style k 92 ≡ false
backslash_is_out style (Short Double) = refl
backslash_is_out style (Short Single) = refl
backslash_is_out style (Long Double) = refl
backslash_is_out style (Long Single) = refl

pub backslash_no_quote : (k : Quoting) → (92 == quote_of k) ≡ false
backslash_no_quote (Short Double) = refl
backslash_no_quote (Short Single) = refl
backslash_no_quote (Long Double) = refl
backslash_no_quote (Long Single) = refl

pub record Begins (k : Quoting) (t : List ℕ) : Type 0 where
  pub first : ℕ
  pub more : List ℕ
  pub text : t ≡ first ∷ more
  pub other : (first == quote_of k) ≡ false

escape_begins : (k : Quoting) (p : Piece) (mark count : ℕ) → IsEscape p mark count → Begins k p.text
escape_begins k p mark count e = record { first = 92; more = mark ∷ e.digits; text = e.text; other = backslash_no_quote k }

pub begins : (style : Style) (k : Quoting) (p : Piece) → IsStringPiece style k p → Begins k p.text
begins style k p is =
    ⊎_elim
    (λ (r : IsRaw p × (may_stand style k p.char ≡ true)). record { first = p.char; more = []; text = r.0.text; other = never (may_stand style k) (quote_of k) p.char (quote_is_out style k) r.1 })
    (λ r. ⊎_elim
    (λ (e : IsNamed p). record { first = 92; more = e.mark ∷ []; text = e.text; other = backslash_no_quote k })
    (λ (e : (has_numbers style ≡ true) × (IsEscape p 117 4 ⊎ IsEscape p 85 8)). ⊎_elim (escape_begins k p 117 4) (escape_begins k p 85 8) e.1)
    r)
    is

true_false : {P : Type 0} (b : Bool) → b ≡ true → b ≡ false → P
true_false b e f = cc

is_quote : (k : Quoting) (c : ℕ) → c ≡ quote_of k → (c == quote_of k) ≡ true
is_quote k c e = same_eqb c (quote_of k) e

-- a character and more does not begin with the quote
pub not_quoted : {P : Type 0} (style : Style) (k : Quoting) (c : ℕ) (t w : List ℕ) → c ≡ quote_of k → Spells style k (c ∷ t) w → P
not_quoted style k c t w e h =
    let b = begins style k h.piece h.is in
    let first = heads c b.first t (b.more ++ h.rest) (h.text ∙ ap (λ x. x ++ h.rest) b.text) in
    true_false (c == quote_of k) (is_quote k c e) (ap (λ c. c == quote_of k) first.0 ∙ b.other)

-- and it is not empty
pub not_nothing : {P : Type 0} (style : Style) (k : Quoting) (w : List ℕ) → Spells style k [] w → P
not_nothing style k w h =
    let b = begins style k h.piece h.is in
    let e : ◌≡◌ {A = List ℕ} [] (b.first ∷ b.more ++ h.rest) = h.text ∙ ap (λ x. x ++ h.rest) b.text in cc

closing_quote : (k : Quoting) (c : ℕ) (t : List ℕ) → c ∷ t ≡ around k → c ≡ quote_of k
closing_quote (Short q) c t e = (heads c (mark_of q) t [] e).0
closing_quote (Long q) c t e = (heads c (mark_of q) t (mark_of q ∷ mark_of q ∷ []) e).0

-- what does not begin with the quote begins with a character
pub spelled : (style : Style) (k : Quoting) (c : ℕ) (t w : List ℕ) → StringTail style k (c ∷ t) w → (c == quote_of k) ≡ false → Spells style k (c ∷ t) w
spelled style k c t w h other =
    ⊎_elim
    (λ (v : Closes k (c ∷ t) w). true_false (c == quote_of k) (is_quote k c (closing_quote k c t v.text)) other)
    (λ v. ⊎_elim (λ s. s)
    (λ (q : Quoted style k (c ∷ t) w). true_false (c == quote_of k) (is_quote k c (heads c (quote_of k) t (replicate q.quotes (quote_of k) ++ q.own) q.text).0) other)
    v)
    (view style k (c ∷ t) w h)

-- a short string closes at its quote
pub closes_short : (style : Style) (q : Quote) (c : ℕ) (t w : List ℕ) → StringTail style (Short q) (c ∷ t) w → c ≡ mark_of q → (t ≡ []) × (w ≡ [])
closes_short style q c t w h e =
    ⊎_elim
    (λ (v : Closes (Short q) (c ∷ t) w). ((heads c (mark_of q) t [] v.text).1, v.value))
    (λ v. ⊎_elim (λ s. not_quoted style (Short q) c t w e s) (λ (s : Quoted style (Short q) (c ∷ t) w). let few = s.few in absurd (omega (arith, few))) v)
    (view style (Short q) (c ∷ t) w h)

-- a long one at the third
quoted_on : {P : Type 0} (style : Style) (q : Quote) (c : ℕ) (t own own_value : List ℕ) (n : ℕ) → c ≡ mark_of q → suc n ≤ 2 → Spells style (Long q) own own_value → mark_of q ∷ mark_of q ∷ c ∷ t ≡ mark_of q ∷ replicate n (mark_of q) ++ own → P
quoted_on style q c t own own_value zero e few s f =
    not_quoted style (Long q) (mark_of q) (c ∷ t) own_value refl (subst (λ o. Spells style (Long q) o own_value) (sym (heads (mark_of q) (mark_of q) (mark_of q ∷ c ∷ t) own f).1) s)
quoted_on style q c t own own_value (suc zero) e few s f =
    let one = heads (mark_of q) (mark_of q) (mark_of q ∷ c ∷ t) (mark_of q ∷ own) f in
    let two = heads (mark_of q) (mark_of q) (c ∷ t) own one.1 in
    not_quoted style (Long q) c t own_value e (subst (λ o. Spells style (Long q) o own_value) (sym two.1) s)
quoted_on style q c t own own_value (suc (suc n)) e few s f = absurd (omega (arith, few))

pub closes_long : (style : Style) (q : Quote) (c : ℕ) (t w : List ℕ) → StringTail style (Long q) (mark_of q ∷ mark_of q ∷ c ∷ t) w → c ≡ mark_of q → (t ≡ []) × (w ≡ [])
closes_long style q c t w h e =
    let m = mark_of q in
    ⊎_elim
    (λ (v : Closes (Long q) (m ∷ m ∷ c ∷ t) w).
    let one = heads m m (m ∷ c ∷ t) (m ∷ m ∷ []) v.text in let two = heads m m (c ∷ t) (m ∷ []) one.1 in ((heads c m t [] two.1).1, v.value))
    (λ v. ⊎_elim (λ s. not_quoted style (Long q) m (m ∷ c ∷ t) w refl s)
    (λ (s : Quoted style (Long q) (m ∷ m ∷ c ∷ t) w). quoted_on style q c t s.own s.own_value s.quotes e s.few s.after s.text)
    v)
    (view style (Long q) (m ∷ m ∷ c ∷ t) w h)

tail_of : (style : Style) (k : Quoting) (t w : List ℕ) → Spells style k t w → StringTail style k t w
tail_of style k t w s =
    subst (λ t. StringTail style k t w) (sym s.text) (subst (λ w. StringTail style k (s.piece.text ++ s.rest) w) (sym s.value) (spell style k s.piece s.rest s.rest_value s.is s.tail))

-- what follows one quote that does not close a long string, and two
pub record Follows (style : Style) (q : Quote) (marks text value : List ℕ) : Type 0 where
  pub own : List ℕ
  pub is : StringTail style (Long q) text own
  pub stands : value ≡ marks ++ own

pub one_off : (style : Style) (q : Quote) (c : ℕ) (t w : List ℕ) → StringTail style (Long q) (mark_of q ∷ c ∷ t) w → (c == mark_of q) ≡ false → Follows style q (mark_of q ∷ []) (c ∷ t) w
one_off style q c t w h other =
    let m = mark_of q in
    ⊎_elim
    (λ (v : Closes (Long q) (m ∷ c ∷ t) w).
    let one = heads m m (c ∷ t) (m ∷ m ∷ []) v.text in true_false (c == m) (same_eqb c m (heads c m t (m ∷ []) one.1).0) other)
    (λ v. ⊎_elim (λ s. not_quoted style (Long q) m (c ∷ t) w refl s)
    (λ (s : Quoted style (Long q) (m ∷ c ∷ t) w).
    elim s.quotes as (λ n. m ∷ c ∷ t ≡ m ∷ replicate n m ++ s.own → w ≡ m ∷ replicate n m ++ s.own_value → Follows style q (m ∷ []) (c ∷ t) w) [
      | zero ↦ λ f g. record { own = s.own_value; is = subst (λ o. StringTail style (Long q) o s.own_value) (sym (heads m m (c ∷ t) s.own f).1) (tail_of style (Long q) s.own s.own_value s.after); stands = g }
      | suc n ↦ λ f g. true_false (c == m) (same_eqb c m (heads c m t (replicate n m ++ s.own) (heads m m (c ∷ t) (m ∷ replicate n m ++ s.own) f).1).0) other
    ] s.text s.value)
    v)
    (view style (Long q) (m ∷ c ∷ t) w h)

pub two_off : (style : Style) (q : Quote) (c : ℕ) (t w : List ℕ) → StringTail style (Long q) (mark_of q ∷ mark_of q ∷ c ∷ t) w → (c == mark_of q) ≡ false → Follows style q (mark_of q ∷ mark_of q ∷ []) (c ∷ t) w
two_off style q c t w h other =
    let m = mark_of q in
    ⊎_elim
    (λ (v : Closes (Long q) (m ∷ m ∷ c ∷ t) w).
    let one = heads m m (m ∷ c ∷ t) (m ∷ m ∷ []) v.text in let two = heads m m (c ∷ t) (m ∷ []) one.1 in true_false (c == m) (same_eqb c m (heads c m t [] two.1).0) other)
    (λ v. ⊎_elim (λ s. not_quoted style (Long q) m (m ∷ c ∷ t) w refl s)
    (λ (s : Quoted style (Long q) (m ∷ m ∷ c ∷ t) w).
    elim s.quotes as (λ n. m ∷ m ∷ c ∷ t ≡ m ∷ replicate n m ++ s.own → w ≡ m ∷ replicate n m ++ s.own_value → Follows style q (m ∷ m ∷ []) (c ∷ t) w) [
      | zero ↦ λ f g. not_quoted style (Long q) m (c ∷ t) s.own_value refl (subst (λ o. Spells style (Long q) o s.own_value) (sym (heads m m (m ∷ c ∷ t) s.own f).1) s.after)
      | suc n ↦ λ f g. elim n as (λ n. m ∷ m ∷ c ∷ t ≡ m ∷ m ∷ replicate n m ++ s.own → w ≡ m ∷ m ∷ replicate n m ++ s.own_value → Follows style q (m ∷ m ∷ []) (c ∷ t) w) [
        | zero ↦ λ f g. record { own = s.own_value; is = subst (λ o. StringTail style (Long q) o s.own_value) (sym (heads m m (c ∷ t) s.own (heads m m (m ∷ c ∷ t) (m ∷ s.own) f).1).1) (tail_of style (Long q) s.own s.own_value s.after); stands = g }
        | suc n ↦ λ f g.
            let two = heads m m (c ∷ t) (m ∷ replicate n m ++ s.own) (heads m m (m ∷ c ∷ t) (m ∷ m ∷ replicate n m ++ s.own) f).1 in
            true_false (c == m) (same_eqb c m (heads c m t (replicate n m ++ s.own) two.1).0) other
      ] f g
    ] s.text s.value)
    v)
    (view style (Long q) (m ∷ m ∷ c ∷ t) w h)

-- and the other way round
pub quotes_on : (style : Style) (q : Quote) (n : ℕ) (c : ℕ) (t w : List ℕ) → n ≤ 2 → StringTail style (Long q) (c ∷ t) w → (c == mark_of q) ≡ false → StringTail style (Long q) (replicate n (mark_of q) ++ c ∷ t) (replicate n (mark_of q) ++ w)
quotes_on style q n c t w few h other =
    let m = mark_of q in
    let s = spelled style (Long q) c t w h other in
    let g : Group = record { quotes = n; piece = s.piece } in
    let all = with_group style (Long q) g s.rest s.rest_value (few, s.is) s.tail in
    let text : (replicate n m ++ s.piece.text) ++ s.rest ≡ replicate n m ++ c ∷ t = append_assoc (replicate n m) s.piece.text s.rest ∙ ap (λ t. replicate n m ++ t) (sym s.text) in
    let value : (replicate n m ++ s.piece.char ∷ []) ++ s.rest_value ≡ replicate n m ++ w = append_assoc (replicate n m) (s.piece.char ∷ []) s.rest_value ∙ ap (λ w. replicate n m ++ w) (sym s.value) in
    subst (λ t. StringTail style (Long q) t (replicate n m ++ w)) text (subst (λ w. StringTail style (Long q) ((replicate n m ++ s.piece.text) ++ s.rest) w) value all)
