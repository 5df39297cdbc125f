-- A text splits into the tokens that are read from it, and into no others.
use Rattle.std.proofs.Common.{◌≡◌, refl, ℕ, zero, suc, ◌<◌, ◌≤◌, Bool, true, false, cond, ◌==◌, List, [], ◌∷◌, ◌++◌, length, Option, Some, None, ◌⊎◌, inl, inr, ⊎_elim, sym, ◌∙◌, ap, subst, arith, length-append}
use Rattle.std.proofs.lemmas.List.{append-nil}
use Rattle.bye_lex.specs.Languages.{Token as Longest}
use Rattle.bye_lex.specs.Scanning.{place}
use Rattle.bye_lex.proofs.Branches.{heads}
use Rattle.bye_tokens.specs.Classes.{is_space, is_line_end}
use Rattle.bye_tokens.specs.Fronts.{found, found_or_bad, first_of, with_first, tokens_within, tokens_of}
use Rattle.bye_tokens.specs.Kinds.{Lexeme}
use Rattle.bye_tokens.specs.Laws.{SplitsOneWay}
use Rattle.bye_tokens.specs.Splitting.{skip, BadToken, First, Splits}
use Rattle.bye_tokens.specs.declared.token.Placed.{Placed}
use Rattle.bye_tokens.specs.declared.token.Token.{Token}
use Rattle.bye_tokens.specs.declared.token.Token.TheVariants.{Bad}
use Rattle.bye_tokens.proofs.Apart.{some_lexeme}
use Rattle.bye_tokens.proofs.FoundExact.{found_told, one_lexeme}
use Rattle.bye_tokens.proofs.Longest.{Told, further}

-- skipping makes nothing longer
cond_le : (b : Bool) (x y : List ℕ) (n : ℕ) → length x ≤ n → length y ≤ n → length (cond b x y) ≤ n
cond_le true x y n h k = h
cond_le false x y n h k = k

skip_shorter : (comment : Bool) (text : List ℕ) → length (skip comment text) ≤ length text
skip_shorter true [] = omega arith
skip_shorter false [] = omega arith
skip_shorter true (c ∷ cs) =
    let a = skip_shorter false cs in
    let b = skip_shorter true cs in
    cond_le (is_line_end c) (skip false cs) (skip true cs) (length (c ∷ cs)) (omega (arith, a)) (omega (arith, b))
skip_shorter false (c ∷ cs) =
    let a = skip_shorter true cs in
    let b = skip_shorter false cs in
    cond_le (c == 35) (skip true cs) (cond (is_space c) (skip false cs) (c ∷ cs)) (length (c ∷ cs)) (omega (arith, a))
    (cond_le (is_space c) (skip false cs) (c ∷ cs) (length (c ∷ cs)) (omega (arith, b)) (omega arith))

-- the first token is there, and is some text
first_told : (c : ℕ) (cs : List ℕ) (o : Option (Token × List ℕ)) → Told Lexeme (c ∷ cs) o → (own : List ℕ) × First (c ∷ cs) own (found_or_bad c cs o).1 (found_or_bad c cs o).0
first_told c cs None t = (c ∷ [], record { parts = refl; is = inr (record { char = c; one = refl; is = refl; none = t }) })
first_told c cs (Some r) t = (t.0, record { parts = t.1; is = inl t.2 })

pub first_is : (c : ℕ) (cs : List ℕ) → (own : List ℕ) × First (c ∷ cs) own (found_or_bad c cs (found (c ∷ cs))).1 (found_or_bad c cs (found (c ∷ cs))).0
first_is c cs = first_told c cs (found (c ∷ cs)) (found_told (c ∷ cs))

first_some : (text rest : List ℕ) (token : Token) → First text [] rest token → ⊥
first_some text rest token f = ⊎_elim (λ (k : Longest Lexeme [] rest token). some_lexeme token k.is) (λ (k : BadToken text [] token). let e = k.one in cc) f.is

first_shorter : (text own rest : List ℕ) (token : Token) → First text own rest token → length rest < length text
first_shorter text [] rest token f = absurd (first_some text rest token f)
first_shorter text (c ∷ own) rest token f = omega (arith, ap length f.parts, length-append (c ∷ own) rest)

-- there is one first token
record Same (a b x y : List ℕ) (s t : Token) : Type 0 where
  own : a ≡ b
  rest : x ≡ y
  token : s ≡ t

le_total : (a b : ℕ) → (a ≤ b) ⊎ (b ≤ a)
le_total zero b = inl (omega arith)
le_total (suc a) zero = inr (omega arith)
le_total (suc a) (suc b) = ⊎_elim (λ (h : a ≤ b). inl (omega (arith, h))) (λ (h : b ≤ a). inr (omega (arith, h))) (le_total a b)

longest_same : (text a b x y : List ℕ) (s t : Token) → text ≡ a ++ x → text ≡ b ++ y → Longest Lexeme a x s → Longest Lexeme b y t → length a ≤ length b → Same a b x y s t
longest_same text a b x y s t e f l m k =
    let g = further a b x y (sym e ∙ f) k in
    let nil : g.0 ≡ [] = none g.0 g.1 g.2 in
    let own : a ≡ b = sym (g.1 ∙ ap (λ t. a ++ t) nil ∙ append-nil a) in
    record {
      own = own;
      rest = g.2 ∙ ap (λ t. t ++ y) nil;
      token = one_lexeme b s t (subst (λ a. Lexeme a s) own l.is) m.is;
    }
  where
    none : (more : List ℕ) → b ≡ a ++ more → x ≡ more ++ y → more ≡ []
    none [] e f = refl
    none (c ∷ more) e f = absurd (l.longest (c ∷ more) y t f (omega arith) (subst (λ b. Lexeme b t) e m.is))

turned : (a b x y : List ℕ) (s t : Token) → Same b a y x t s → Same a b x y s t
turned a b x y s t k = record { own = sym k.own; rest = sym k.rest; token = sym k.token }

first_same : (text a b x y : List ℕ) (s t : Token) → First text a x s → First text b y t → Same a b x y s t
first_same text a b x y s t f g =
    ⊎_elim
    (λ (l : Longest Lexeme a x s). ⊎_elim
    (λ (m : Longest Lexeme b y t). ⊎_elim
    (λ (k : length a ≤ length b). longest_same text a b x y s t f.parts g.parts l m k)
    (λ (k : length b ≤ length a). turned a b x y s t (longest_same text b a y x t s g.parts f.parts m l k))
    (le_total (length a) (length b)))
    (λ (m : BadToken text b t). absurd (m.none a x s f.parts l.is))
    g.is)
    (λ (l : BadToken text a s). ⊎_elim
    (λ (m : Longest Lexeme b y t). absurd (l.none b y t g.parts m.is))
    (λ (m : BadToken text b t).
    let both : l.char ∷ x ≡ m.char ∷ y = sym (f.parts ∙ ap (λ a. a ++ x) l.one) ∙ g.parts ∙ ap (λ b. b ++ y) m.one in
    let same = heads l.char m.char x y both in
    let r : Same a b x y s t = record { own = l.one ∙ ap (λ c. c ∷ []) same.0 ∙ sym m.one; rest = same.1; token = l.is ∙ ap Bad same.0 ∙ sym m.is } in r)
    g.is)
    f.is

-- the tokens that are read are tokens of the text
abbrev Within : ℕ → ℕ → Type 0
Within n total = (text : List ℕ) → length text ≤ n → Splits total text (tokens_within n total text)

after_first : (n total : ℕ) (text s : List ℕ) → skip false text ≡ s → length s ≤ suc n → Within n total → Splits total text (with_first total (tokens_within n total) s)
after_first n total text [] e k later = e
after_first n total text (c ∷ cs) e k later =
    let f = first_is c cs in
    let rest = (found_or_bad c cs (found (c ∷ cs))).1 in
    let token = (found_or_bad c cs (found (c ∷ cs))).0 in
    let less = first_shorter (c ∷ cs) f.0 rest token f.1 in
    (f.0, rest, subst (λ s. First s f.0 rest token) (sym e) f.1, ap (place total) (sym e), later rest (omega (arith, less, k)))

within_splits : (n total : ℕ) → Within n total
within_splits zero total [] k = refl
within_splits zero total (c ∷ cs) k = absurd (omega (arith, k))
within_splits (suc n) total text k =
    let s = skip_shorter false text in
    after_first n total text (skip false text) refl (omega (arith, s, k)) (within_splits n total)

pub splits : (total : ℕ) (text : List ℕ) → Splits total text (tokens_of total text)
splits total text = within_splits (length text) total text (omega arith)

-- and the only ones
no_first : (text s own rest : List ℕ) (token : Token) → First s own rest token → s ≡ [] → ⊥
no_first text s own rest token f e = let k = first_shorter s own rest token f in omega (arith, k, ap length e)

pub only : (total : ℕ) (text : List ℕ) (ps qs : List Placed) → Splits total text ps → Splits total text qs → ps ≡ qs
only total text [] [] h k = refl
only total text [] (q ∷ qs) h k = absurd (no_first text (skip false text) k.0 k.1 q.token k.2 h)
only total text (p ∷ ps) [] h k = absurd (no_first text (skip false text) h.0 h.1 p.token h.2 k)
only total text (p ∷ ps) (q ∷ qs) h k =
    let same = first_same (skip false text) h.0 k.0 h.1 k.1 p.token q.token h.2 k.2 in
    let places : p.place ≡ q.place = h.3 ∙ sym k.3 in
    let first : p ≡ q = (λ i. record { place = places i; token = same.token i }) in
    let later = only total k.1 ps qs (subst (λ t. Splits total t ps) same.rest h.4) k.4 in
    (λ i. first i ∷ later i)

pub one_way : SplitsOneWay
one_way total text = (splits total text, λ other h. only total text other (tokens_of total text) h (splits total text))

-- so they are told one after another
pub tokens_end : (total : ℕ) (text : List ℕ) → skip false text ≡ [] → tokens_of total text ≡ []
tokens_end total text e = only total text (tokens_of total text) [] (splits total text) e

pub tokens_next : (total : ℕ) (text : List ℕ) (c : ℕ) (cs : List ℕ) → skip false text ≡ c ∷ cs → tokens_of total text ≡ (first_of total c cs).0 ∷ tokens_of total (first_of total c cs).1
tokens_next total text c cs e =
    let f = first_is c cs in
    let rest = (found_or_bad c cs (found (c ∷ cs))).1 in
    let token = (found_or_bad c cs (found (c ∷ cs))).0 in
    only total text _ ((first_of total c cs).0 ∷ tokens_of total rest) (splits total text)
    (f.0, rest, subst (λ s. First s f.0 rest token) (sym e) f.1, ap (place total) (sym e), splits total rest)
