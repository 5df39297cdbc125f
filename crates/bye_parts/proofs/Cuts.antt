-- Two ways to cut one list.
use Rattle.std.proofs.Common.{◌≡◌, refl, List, ◌∷◌, [], ◌++◌, ◌⊎◌, inl, inr, ⊎_elim, sym, ◌∙◌, ap}

pub heads : {A : Type 0} (c d : A) (t u : List A) → c ∷ t ≡ d ∷ u → (c ≡ d) × (t ≡ u)
heads c d t u e = (cc, cc)

pub nil_parts : {A : Type 0} (a b : List A) → [] ≡ a ++ b → (a ≡ []) × (b ≡ [])
nil_parts [] b e = (refl, sym e)
nil_parts (x ∷ a) b e = cc

-- the one is a front of the other
abbrev pub Cut : {T : Type 0} → List T → List T → List T → List T → Type 0
Cut {T} x y a b = ((more : List T) × (a ≡ x ++ more) × (y ≡ more ++ b)) ⊎ ((more : List T) × (x ≡ a ++ more) × (b ≡ more ++ y))

pub cuts : {T : Type 0} (x y a b : List T) → x ++ y ≡ a ++ b → Cut x y a b
cuts {T} [] y a b e = inl (a, refl, e)
cuts {T} (c ∷ x) y [] b e = inr (c ∷ x, refl, sym e)
cuts {T} (c ∷ x) y (d ∷ a) b e =
    let h = heads c d (x ++ y) (a ++ b) e in
    ⊎_elim
    (λ (k : (more : List T) × (a ≡ x ++ more) × (y ≡ more ++ b)). let r : Cut (c ∷ x) y (d ∷ a) b = inl (k.0, ap (λ d. d ∷ a) (sym h.0) ∙ ap (λ t. c ∷ t) k.1, k.2) in r)
    (λ (k : (more : List T) × (x ≡ a ++ more) × (b ≡ more ++ y)). let r : Cut (c ∷ x) y (d ∷ a) b = inr (k.0, ap (λ c. c ∷ x) h.0 ∙ ap (λ t. d ∷ t) k.1, k.2) in r)
    (cuts x y a b h.1)

-- the last token stands in the second part, or the first part is all
abbrev pub LastCut : {T : Type 0} → List T → T → List T → List T → Type 0
LastCut {T} x t a b = ((more : List T) × (x ≡ a ++ more) × (b ≡ more ++ t ∷ [])) ⊎ (a ≡ x ++ t ∷ [])

pub last_cut : {T : Type 0} (x : List T) (t : T) (a b : List T) → x ++ t ∷ [] ≡ a ++ b → LastCut x t a b
last_cut x t [] b e = inl (x, refl, sym e)
last_cut [] t (d ∷ a) b e =
    let h = heads t d [] (a ++ b) e in
    inr (ap (λ d. d ∷ a) (sym h.0) ∙ ap (λ a. t ∷ a) (nil_parts a b h.1).0)
last_cut {T} (c ∷ x) t (d ∷ a) b e =
    let h = heads c d (x ++ t ∷ []) (a ++ b) e in
    ⊎_elim
    (λ (k : (more : List T) × (x ≡ a ++ more) × (b ≡ more ++ t ∷ [])). let r : LastCut (c ∷ x) t (d ∷ a) b = inl (k.0, ap (λ c. c ∷ x) h.0 ∙ ap (λ t. d ∷ t) k.1, k.2) in r)
    (λ (k : a ≡ x ++ t ∷ []). let r : LastCut (c ∷ x) t (d ∷ a) b = inr (ap (λ d. d ∷ a) (sym h.0) ∙ ap (λ a. c ∷ a) k) in r)
    (last_cut x t a b h.1)

-- a list of one token that ends with a token is that token
pub last_alone : {T : Type 0} (x : List T) (t c : T) → x ++ t ∷ [] ≡ c ∷ [] → (x ≡ []) × (t ≡ c)
last_alone [] t c e = (refl, (heads t c [] [] e).0)
last_alone (d ∷ x) t c e =
    let h = nil_parts x (t ∷ []) (sym (heads d c (x ++ t ∷ []) [] e).1) in
    let r : (d ∷ x ≡ []) × (t ≡ c) = cc in r

pub last_some : {T : Type 0} (x : List T) (t : T) → x ++ t ∷ [] ≡ [] → ⊥
last_some x t e = let h = nil_parts x (t ∷ []) (sym e) in let r : ⊥ = cc in r
