-- Signs at the front of a text.
use Rattle.std.proofs.Common.{◌≡◌, refl, ℕ, true, ◌==◌, ◌&&◌, ◌<◌, List, [], ◌∷◌, ◌++◌, length, Some, None, option_map, ◌⊎◌, inl, inr, ⊎_elim, sym, ◌∙◌, ap, arith, codes}
use Rattle.bye_terms.proofs.Tests.{both_parts}
use Rattle.bye_lex.specs.Languages.{NoFront}
use Rattle.bye_lex.proofs.Branches.{heads, some_same, none_some, pick_of, eqb_same}
use Rattle.bye_tokens.specs.Fronts.{sign_front, single_front, single, double}
use Rattle.bye_tokens.specs.Kinds.{seen}
use Rattle.bye_tokens.specs.Reading.{or_else}
use Rattle.bye_tokens.specs.Signs.{sign_text, SignToken}
use Rattle.bye_tokens.specs.declared.sign.Sign.{Sign}
use Rattle.bye_tokens.specs.declared.sign.Sign.TheVariants.{OpenGroup, CloseGroup, Open, Close, Dot, Semicolon, Comma, Carets, And, Or, Bang, Star, BlankMark, OpenSquare, CloseSquare, Caret, Bar, Slash, Plus, Dash, Question, Equal, Differs, Less, Greater, AtMost, AtLeast}
use Rattle.bye_tokens.specs.declared.token.Token.{Token}
use Rattle.bye_tokens.specs.declared.token.Token.TheVariants.{Mark}
use Rattle.bye_tokens.proofs.Literals.{one_of}
use Rattle.bye_tokens.proofs.Longest.{Told, Starts, OneValue}

-- a sign of one character
pub record One (s : Sign) : Type 0 where
  pub char : ℕ
  pub text : sign_text s ≡ char ∷ []
  pub is : single char ≡ Some s

-- a sign of two
pub record Two (s : Sign) : Type 0 where
  pub first : ℕ
  pub second : ℕ
  pub text : sign_text s ≡ first ∷ second ∷ []
  pub is : double first second ≡ Some s

pub shape : (s : Sign) → One s ⊎ Two s
shape OpenGroup = inl (record { char = 123; text = refl; is = refl })
shape CloseGroup = inl (record { char = 125; text = refl; is = refl })
shape Open = inl (record { char = 40; text = refl; is = refl })
shape Close = inl (record { char = 41; text = refl; is = refl })
shape Dot = inl (record { char = 46; text = refl; is = refl })
shape Semicolon = inl (record { char = 59; text = refl; is = refl })
shape Comma = inl (record { char = 44; text = refl; is = refl })
shape Carets = inr (record { first = 94; second = 94; text = refl; is = refl })
shape And = inr (record { first = 38; second = 38; text = refl; is = refl })
shape Or = inr (record { first = 124; second = 124; text = refl; is = refl })
shape Bang = inl (record { char = 33; text = refl; is = refl })
shape Star = inl (record { char = 42; text = refl; is = refl })
shape BlankMark = inr (record { first = 95; second = 58; text = refl; is = refl })
shape OpenSquare = inl (record { char = 91; text = refl; is = refl })
shape CloseSquare = inl (record { char = 93; text = refl; is = refl })
shape Caret = inl (record { char = 94; text = refl; is = refl })
shape Bar = inl (record { char = 124; text = refl; is = refl })
shape Slash = inl (record { char = 47; text = refl; is = refl })
shape Plus = inl (record { char = 43; text = refl; is = refl })
shape Dash = inl (record { char = 45; text = refl; is = refl })
shape Question = inl (record { char = 63; text = refl; is = refl })
shape Equal = inl (record { char = 61; text = refl; is = refl })
shape Differs = inr (record { first = 33; second = 61; text = refl; is = refl })
shape Less = inl (record { char = 60; text = refl; is = refl })
shape Greater = inl (record { char = 62; text = refl; is = refl })
shape AtMost = inr (record { first = 60; second = 61; text = refl; is = refl })
shape AtLeast = inr (record { first = 62; second = 61; text = refl; is = refl })

-- and the other way round
at_one : (c d : ℕ) (s n : Sign) → (c == d) ≡ true → s ≡ n → sign_text n ≡ d ∷ [] → sign_text s ≡ c ∷ []
at_one c d s n b k e = ap sign_text k ∙ e ∙ ap (λ d. d ∷ []) (sym (eqb_same c d b))

at_two : (c d a b : ℕ) (s n : Sign) → (c == a && d == b) ≡ true → s ≡ n → sign_text n ≡ a ∷ b ∷ [] → sign_text s ≡ c ∷ d ∷ []
at_two c d a b s n h k e = let p = both_parts _ _ h in ap sign_text k ∙ e ∙ (λ i. sym (eqb_same c a p.0) i ∷ sym (eqb_same d b p.1) i ∷ [])

single_is : (c : ℕ) (s : Sign) → single c ≡ Some s → sign_text s ≡ c ∷ []
single_is c s e =
    pick_of _ _ _ _ e (λ b k. at_one c 123 s OpenGroup b k refl) (λ k0.
    pick_of _ _ _ _ k0 (λ b k. at_one c 125 s CloseGroup b k refl) (λ k1.
    pick_of _ _ _ _ k1 (λ b k. at_one c 40 s Open b k refl) (λ k2.
    pick_of _ _ _ _ k2 (λ b k. at_one c 41 s Close b k refl) (λ k3.
    pick_of _ _ _ _ k3 (λ b k. at_one c 46 s Dot b k refl) (λ k4.
    pick_of _ _ _ _ k4 (λ b k. at_one c 59 s Semicolon b k refl) (λ k5.
    pick_of _ _ _ _ k5 (λ b k. at_one c 44 s Comma b k refl) (λ k6.
    pick_of _ _ _ _ k6 (λ b k. at_one c 33 s Bang b k refl) (λ k7.
    pick_of _ _ _ _ k7 (λ b k. at_one c 42 s Star b k refl) (λ k8.
    pick_of _ _ _ _ k8 (λ b k. at_one c 91 s OpenSquare b k refl) (λ k9.
    pick_of _ _ _ _ k9 (λ b k. at_one c 93 s CloseSquare b k refl) (λ k10.
    pick_of _ _ _ _ k10 (λ b k. at_one c 94 s Caret b k refl) (λ k11.
    pick_of _ _ _ _ k11 (λ b k. at_one c 124 s Bar b k refl) (λ k12.
    pick_of _ _ _ _ k12 (λ b k. at_one c 47 s Slash b k refl) (λ k13.
    pick_of _ _ _ _ k13 (λ b k. at_one c 43 s Plus b k refl) (λ k14.
    pick_of _ _ _ _ k14 (λ b k. at_one c 45 s Dash b k refl) (λ k15.
    pick_of _ _ _ _ k15 (λ b k. at_one c 63 s Question b k refl) (λ k16.
    pick_of _ _ _ _ k16 (λ b k. at_one c 61 s Equal b k refl) (λ k17.
    pick_of _ _ _ _ k17 (λ b k. at_one c 60 s Less b k refl) (λ k18.
    pick_of _ _ _ _ k18 (λ b k. at_one c 62 s Greater b k refl) (λ k19.
    none_some k19))))))))))))))))))))

double_is : (c d : ℕ) (s : Sign) → double c d ≡ Some s → sign_text s ≡ c ∷ d ∷ []
double_is c d s e =
    pick_of _ _ _ _ e (λ b k. at_two c d 94 94 s Carets b k refl) (λ k0.
    pick_of _ _ _ _ k0 (λ b k. at_two c d 38 38 s And b k refl) (λ k1.
    pick_of _ _ _ _ k1 (λ b k. at_two c d 124 124 s Or b k refl) (λ k2.
    pick_of _ _ _ _ k2 (λ b k. at_two c d 95 58 s BlankMark b k refl) (λ k3.
    pick_of _ _ _ _ k3 (λ b k. at_two c d 33 61 s Differs b k refl) (λ k4.
    pick_of _ _ _ _ k4 (λ b k. at_two c d 60 61 s AtMost b k refl) (λ k5.
    pick_of _ _ _ _ k5 (λ b k. at_two c d 62 61 s AtLeast b k refl) (λ k6.
    none_some k6)))))))

-- a text of three characters or more is no sign
three : (a b c : ℕ) (t : List ℕ) (s : Sign) → a ∷ b ∷ c ∷ t ≡ sign_text s → ⊥
three a b c t s e = ⊎_elim (λ (k : One s). let f = e ∙ k.text in cc) (λ (k : Two s). let f = e ∙ k.text in cc) (shape s)

-- one of one character is known by it, one of two by both
one_known : (c : ℕ) (s : Sign) → c ∷ [] ≡ sign_text s → single c ≡ Some s
one_known c s e =
    ⊎_elim (λ (k : One s). ap single (heads c k.char [] [] (e ∙ k.text)).0 ∙ k.is)
    (λ (k : Two s). let f = e ∙ k.text in absurd (short c k.first k.second f)) (shape s)
  where
    short : (c a b : ℕ) → c ∷ [] ≡ a ∷ b ∷ [] → ⊥
    short c a b e = cc

two_known : (c d : ℕ) (s : Sign) → c ∷ d ∷ [] ≡ sign_text s → double c d ≡ Some s
two_known c d s e =
    ⊎_elim (λ (k : One s). absurd (long c d k.char (e ∙ k.text)))
    (λ (k : Two s).
    let f = heads c k.first (d ∷ []) (k.second ∷ []) (e ∙ k.text) in
    ap (λ c. double c d) f.0 ∙ ap (double k.first) (heads d k.second [] [] f.1).0 ∙ k.is)
    (shape s)
  where
    long : (c d a : ℕ) → c ∷ d ∷ [] ≡ a ∷ [] → ⊥
    long c d a e = cc

no_sign : (s : Sign) → [] ≡ sign_text s → ⊥
no_sign s e = ⊎_elim (λ (k : One s). let f = e ∙ k.text in cc) (λ (k : Two s). let f = e ∙ k.text in cc) (shape s)

abbrev AMark : List ℕ → Token → Type 0
AMark = seen Mark SignToken

-- a sign of two characters is the longest
both_chars : (c d : ℕ) (rest : List ℕ) (s : Sign) → double c d ≡ Some s → Told AMark (c ∷ d ∷ rest) (Some (Mark s, rest))
both_chars c d rest s e = (
  c ∷ d ∷ [],
  refl,
  record {
    is = (s, sym (double_is c d s e), refl);
    longest = λ more after other parts some h. longer more some h.0 h.1;
  },
)
  where
    longer : (more : List ℕ) → 0 < length more → (n : Sign) → (c ∷ d ∷ []) ++ more ≡ sign_text n → ⊥
    longer [] some n h = omega (arith, some)
    longer (b ∷ more) some n h = three c d b more n h

-- one of one character is, where it does not begin one of two
one_char : (c : ℕ) (rest : List ℕ) (s : Sign) → ((d : ℕ) (t : List ℕ) → rest ≡ d ∷ t → double c d ≡ None) → single c ≡ Some s → Told AMark (c ∷ rest) (Some (Mark s, rest))
one_char c rest s alone e = (
  c ∷ [],
  refl,
  record {
    is = (s, sym (single_is c s e), refl);
    longest = λ more after other parts some h. longer more after parts some h.0 h.1;
  },
)
  where
    longer : (more after : List ℕ) → rest ≡ more ++ after → 0 < length more → (n : Sign) → (c ∷ []) ++ more ≡ sign_text n → ⊥
    longer [] after parts some n h = omega (arith, some)
    longer (d ∷ []) after parts some n h = none_some (sym (alone d after parts) ∙ two_known c d n h)
    longer (d ∷ b ∷ more) after parts some n h = three c d b more n h

none_there : (c : ℕ) (rest : List ℕ) → ((d : ℕ) (t : List ℕ) → rest ≡ d ∷ t → double c d ≡ None) → single c ≡ None → NoFront AMark (c ∷ rest)
none_there c rest alone e front after v parts h = go front after parts h.0 h.1
  where
    go : (front after : List ℕ) → c ∷ rest ≡ front ++ after → (n : Sign) → front ≡ sign_text n → ⊥
    go [] after parts n h = no_sign n h
    go (a ∷ []) after parts n h = none_some (sym e ∙ ap single (heads c a rest after parts).0 ∙ one_known a n h)
    go (a ∷ b ∷ []) after parts n h =
        let f = heads c a rest (b ∷ after) parts in
        none_some (sym (alone b after f.1) ∙ ap (λ c. double c b) f.0 ∙ two_known a b n h)
    go (a ∷ b ∷ d ∷ front) after parts n h = three a b d front n h

singly : (c : ℕ) (rest : List ℕ) → ((d : ℕ) (t : List ℕ) → rest ≡ d ∷ t → double c d ≡ None) → Told AMark (c ∷ rest) (single_front c rest)
singly c rest alone =
    elim (single c) as (λ o. single c ≡ o → Told AMark (c ∷ rest) (option_map {U = Token × List ℕ} (λ s. (Mark s, rest)) o)) [
      | None ↦ λ e. none_there c rest alone e
      | Some s ↦ λ e. one_char c rest s alone e
    ] refl

pub sign_told : (text : List ℕ) → Told AMark text (sign_front text)
sign_told [] = λ front rest v parts h. go front rest parts h.0 h.1
  where
    go : (front rest : List ℕ) → [] ≡ front ++ rest → (n : Sign) → front ≡ sign_text n → ⊥
    go [] rest parts n h = no_sign n h
    go (a ∷ front) rest parts n h = cc
sign_told (c ∷ []) = singly c [] (λ d t e. cc)
sign_told (c ∷ d ∷ rest) =
    elim (double c d) as (λ o. double c d ≡ o → Told AMark (c ∷ d ∷ rest) (or_else (option_map {U = Token × List ℕ} (λ s. (Mark s, rest)) o) (single_front c (d ∷ rest)))) [
      | None ↦ λ e. singly c (d ∷ rest) (λ b t same. ap (double c) (sym (heads d b rest t same).0) ∙ e)
      | Some s ↦ λ e. both_chars c d rest s e
    ] refl

pub sign_starts : Starts AMark (one_of (codes "{}().;,^&|!*_[]/+-?=<>"))
sign_starts = record { some = λ v h. no_sign h.0 h.1; first = λ c t v h. first_is h.0 c t h.1 }
  where
    first_is : (s : Sign) (c : ℕ) (t : List ℕ) → c ∷ t ≡ sign_text s → one_of (codes "{}().;,^&|!*_[]/+-?=<>") c ≡ true
    first_is OpenGroup c t e = ap (one_of (codes "{}().;,^&|!*_[]/+-?=<>")) (heads c 123 t [] e).0
    first_is CloseGroup c t e = ap (one_of (codes "{}().;,^&|!*_[]/+-?=<>")) (heads c 125 t [] e).0
    first_is Open c t e = ap (one_of (codes "{}().;,^&|!*_[]/+-?=<>")) (heads c 40 t [] e).0
    first_is Close c t e = ap (one_of (codes "{}().;,^&|!*_[]/+-?=<>")) (heads c 41 t [] e).0
    first_is Dot c t e = ap (one_of (codes "{}().;,^&|!*_[]/+-?=<>")) (heads c 46 t [] e).0
    first_is Semicolon c t e = ap (one_of (codes "{}().;,^&|!*_[]/+-?=<>")) (heads c 59 t [] e).0
    first_is Comma c t e = ap (one_of (codes "{}().;,^&|!*_[]/+-?=<>")) (heads c 44 t [] e).0
    first_is Carets c t e = ap (one_of (codes "{}().;,^&|!*_[]/+-?=<>")) (heads c 94 t (94 ∷ []) e).0
    first_is And c t e = ap (one_of (codes "{}().;,^&|!*_[]/+-?=<>")) (heads c 38 t (38 ∷ []) e).0
    first_is Or c t e = ap (one_of (codes "{}().;,^&|!*_[]/+-?=<>")) (heads c 124 t (124 ∷ []) e).0
    first_is Bang c t e = ap (one_of (codes "{}().;,^&|!*_[]/+-?=<>")) (heads c 33 t [] e).0
    first_is Star c t e = ap (one_of (codes "{}().;,^&|!*_[]/+-?=<>")) (heads c 42 t [] e).0
    first_is BlankMark c t e = ap (one_of (codes "{}().;,^&|!*_[]/+-?=<>")) (heads c 95 t (58 ∷ []) e).0
    first_is OpenSquare c t e = ap (one_of (codes "{}().;,^&|!*_[]/+-?=<>")) (heads c 91 t [] e).0
    first_is CloseSquare c t e = ap (one_of (codes "{}().;,^&|!*_[]/+-?=<>")) (heads c 93 t [] e).0
    first_is Caret c t e = ap (one_of (codes "{}().;,^&|!*_[]/+-?=<>")) (heads c 94 t [] e).0
    first_is Bar c t e = ap (one_of (codes "{}().;,^&|!*_[]/+-?=<>")) (heads c 124 t [] e).0
    first_is Slash c t e = ap (one_of (codes "{}().;,^&|!*_[]/+-?=<>")) (heads c 47 t [] e).0
    first_is Plus c t e = ap (one_of (codes "{}().;,^&|!*_[]/+-?=<>")) (heads c 43 t [] e).0
    first_is Dash c t e = ap (one_of (codes "{}().;,^&|!*_[]/+-?=<>")) (heads c 45 t [] e).0
    first_is Question c t e = ap (one_of (codes "{}().;,^&|!*_[]/+-?=<>")) (heads c 63 t [] e).0
    first_is Equal c t e = ap (one_of (codes "{}().;,^&|!*_[]/+-?=<>")) (heads c 61 t [] e).0
    first_is Differs c t e = ap (one_of (codes "{}().;,^&|!*_[]/+-?=<>")) (heads c 33 t (61 ∷ []) e).0
    first_is Less c t e = ap (one_of (codes "{}().;,^&|!*_[]/+-?=<>")) (heads c 60 t [] e).0
    first_is Greater c t e = ap (one_of (codes "{}().;,^&|!*_[]/+-?=<>")) (heads c 62 t [] e).0
    first_is AtMost c t e = ap (one_of (codes "{}().;,^&|!*_[]/+-?=<>")) (heads c 60 t (61 ∷ []) e).0
    first_is AtLeast c t e = ap (one_of (codes "{}().;,^&|!*_[]/+-?=<>")) (heads c 62 t (61 ∷ []) e).0

pub one_sign : OneValue SignToken
one_sign text v w h k = same v w (sym h ∙ k)
  where
    whole : (s : Sign) → sign_front (sign_text s) ≡ Some (Mark s, [])
    whole OpenGroup = refl
    whole CloseGroup = refl
    whole Open = refl
    whole Close = refl
    whole Dot = refl
    whole Semicolon = refl
    whole Comma = refl
    whole Carets = refl
    whole And = refl
    whole Or = refl
    whole Bang = refl
    whole Star = refl
    whole BlankMark = refl
    whole OpenSquare = refl
    whole CloseSquare = refl
    whole Caret = refl
    whole Bar = refl
    whole Slash = refl
    whole Plus = refl
    whole Dash = refl
    whole Question = refl
    whole Equal = refl
    whole Differs = refl
    whole Less = refl
    whole Greater = refl
    whole AtMost = refl
    whole AtLeast = refl

    same : (v w : Sign) → sign_text v ≡ sign_text w → v ≡ w
    same v w e = let k = some_same (sym (whole v) ∙ ap sign_front e ∙ whole w) in let m : Mark v ≡ Mark w = ap (λ (r : Token × List ℕ). r.0) k in cc
