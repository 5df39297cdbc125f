-- A token within a longer text, from what its machine reads.
use Rattle.std.proofs.Common.{◌≡◌, refl, ℕ, List, [], ◌∷◌, ◌++◌, Option, Some, None, option_and_then, ◌⊎◌, inl, inr, ⊎_elim, sym, ◌∙◌, ap, subst}
use Rattle.bye_lex.specs.Embedding.{settle, in_closed, enter, in_open}
use Rattle.bye_lex.specs.Languages.{Viable}
use Rattle.bye_lex.proofs.Branches.{heads, none_some, some_same, told}
use Rattle.bye_lex.proofs.Machines.{bind_some}
use Rattle.bye_lex.proofs.Scans.{Exact}

-- the rest of a token, one character or more, and then what goes with its value
pub record Within {S V W : Type 0} (Left : S → List ℕ → V → Type 0) (Rest : V → List ℕ → W → Type 0) (s : S) (text : List ℕ) (w : W) : Type 0 where
  pub first : ℕ
  pub own : List ℕ
  pub value : V
  pub rest : List ℕ
  pub is : Left s (first ∷ own) value
  pub after : Rest value rest w
  pub spelled : text ≡ first ∷ (own ++ rest)

-- the same, where the token may be at its end
pub record Upto {S V W : Type 0} (Left : S → List ℕ → V → Type 0) (Rest : V → List ℕ → W → Type 0) (s : S) (text : List ℕ) (w : W) : Type 0 where
  pub own : List ℕ
  pub value : V
  pub rest : List ℕ
  pub is : Left s own value
  pub after : Rest value rest w
  pub spelled : text ≡ own ++ rest

-- the state that a step leads to, and what it wants
abbrev pub Onward : {A W : Type 0} → (A → List ℕ → W → Type 0) → Option A → List ℕ → W → Type 0
Onward {A} P o t w = (n : A) × (o ≡ Some n) × P n t w

-- a token that ends by itself
module _ {S V W : Type 0} (Left : S → List ℕ → V → Type 0) (step : S → ℕ → Option S) (final : S → Option V) (x : Exact Left step final) (whole : S → Option V) (Rest : V → List ℕ → W → Type 0) where
  -- whole states are at their ends, and others are not
  pub record Ends (n : S) : Type 0 where
    pub closed : (v : V) (text : List ℕ) (w : V) → whole n ≡ Some v → Left n text w → (text ≡ []) × (w ≡ v)
    pub lives : (v : V) → whole n ≡ None → Left n [] v → ⊥
    pub may : (v : V) → whole n ≡ Some v → Left n [] v

  abbrev pub Moves : S → List ℕ → W → Type 0
  Moves n t w = ((whole n ≡ None) × Within Left Rest n t w) ⊎ ((v : V) × (whole n ≡ Some v) × Rest v t w)

  inside : (n : S) (t own : List ℕ) (value : V) (rest : List ℕ) (w : W) → Ends n → whole n ≡ None → Left n own value → Rest value rest w → t ≡ own ++ rest → Within Left Rest n t w
  inside n t [] value rest w ends f h k p = absurd (ends.lives value f h)
  inside n t (y ∷ ys) value rest w ends f h k p = record { first = y; own = ys; value = value; rest = rest; is = h; after = k; spelled = p }

  moves : (n : S) (t own : List ℕ) (value : V) (rest : List ℕ) (w : W) → Ends n → Left n own value → Rest value rest w → t ≡ own ++ rest → Moves n t w
  moves n t own value rest w ends h k p =
      ⊎_elim
      (λ (f : whole n ≡ None). inl (f, inside n t own value rest w ends f h k p))
      (λ (f : (v : V) × (whole n ≡ Some v)).
      let is = ends.closed f.0 own value f.1 h in
      inr (f.0, f.1, subst (λ v. Rest v t w) is.1 (subst (λ r. Rest value r w) (sym (p ∙ ap (λ own. own ++ rest) is.0)) k)))
      (told (whole n))

  token_forth : (s : S) (c : ℕ) (t : List ℕ) (w : W) → ((n : S) → step s c ≡ Some n → Ends n) → Within Left Rest s (c ∷ t) w → (n : S) × (step s c ≡ Some n) × Moves n t w
  token_forth s c t w ends h =
      let k = heads c h.first t (h.own ++ h.rest) h.spelled in
      let m = x.forth s h.first h.own h.value h.is in
      let e : step s c ≡ Some m.0 = ap (λ c. step s c) k.0 ∙ m.1 in
      (m.0, e, moves m.0 t h.own h.value h.rest w (ends m.0 e) m.2 h.after k.1)

  token_back : (s n : S) (c : ℕ) (t : List ℕ) (w : W) → Viable (Left s) [] → step s c ≡ Some n → Ends n → Moves n t w → Within Left Rest s (c ∷ t) w
  token_back s n c t w a e ends m =
      ⊎_elim
      (λ (k : (whole n ≡ None) × Within Left Rest n t w).
      let h : Within Left Rest n t w = k.1 in
      let r : Within Left Rest s (c ∷ t) w =
      record { first = c; own = h.first ∷ h.own; value = h.value; rest = h.rest; is = x.back s n c (h.first ∷ h.own) h.value a e h.is; after = h.after; spelled = ap (λ t. c ∷ t) h.spelled } in r)
      (λ (k : (v : V) × (whole n ≡ Some v) × Rest v t w).
      let r : Within Left Rest s (c ∷ t) w =
      record { first = c; own = []; value = k.0; rest = t; is = x.back s n c [] k.0 a e (ends.may k.0 k.1); after = k.2; spelled = refl } in r)
      m

  module _ {A : Type 0} (P : A → List ℕ → W → Type 0) (within : S → A) (after : V → Option A) where
    pub closed_forth : (s : S) (c : ℕ) (t : List ℕ) (w : W) → ((n : S) → step s c ≡ Some n → Ends n) → ((n : S) → Within Left Rest n t w → P (within n) t w) → ((v : V) → Rest v t w → Onward P (after v) t w)
        → Within Left Rest s (c ∷ t) w → Onward P (in_closed step whole within after s c) t w
    closed_forth s c t w ends into onto h =
        let m = token_forth s c t w ends h in
        let steps : in_closed step whole within after s c ≡ settle within after m.0 (whole m.0) = ap (option_and_then (λ n. settle within after n (whole n))) m.1 in
        let R : Type 0 = Onward P (in_closed step whole within after s c) t w in
        ⊎_elim
        (λ (k : (whole m.0 ≡ None) × Within Left Rest m.0 t w). let r : R = (within m.0, steps ∙ ap (λ o. settle within after m.0 o) k.0, into m.0 k.1) in r)
        (λ (k : (v : V) × (whole m.0 ≡ Some v) × Rest v t w). let n = onto k.0 k.2 in let r : R = (n.0, steps ∙ ap (λ o. settle within after m.0 o) k.1 ∙ n.1, n.2) in r)
        m.2

    -- what a step within it comes to
    abbrev pub ClosedGives : A → S → Type 0
    ClosedGives n m = ((whole m ≡ None) × (n ≡ within m)) ⊎ ((v : V) × (whole m ≡ Some v) × (after v ≡ Some n))

    settled : (n : A) (m : S) → settle within after m (whole m) ≡ Some n → ClosedGives n m
    settled n m e =
        ⊎_elim
        (λ (f : whole m ≡ None). let r : ClosedGives n m = inl (f, sym (some_same (sym (ap (λ o. settle within after m o) f) ∙ e))) in r)
        (λ (f : (v : V) × (whole m ≡ Some v)). let r : ClosedGives n m = inr (f.0, f.1, sym (ap (λ o. settle within after m o) f.1) ∙ e) in r)
        (told (whole m))

    pub closed_gives : (s : S) (n : A) (c : ℕ) → in_closed step whole within after s c ≡ Some n → (m : S) × (step s c ≡ Some m) × ClosedGives n m
    closed_gives s n c e = let m = bind_some (step s c) (λ n. settle within after n (whole n)) n e in (m.0, m.1, settled n m.0 m.2)

    pub closed_back : (s : S) (n : A) (c : ℕ) (t : List ℕ) (w : W) → ((n : S) → step s c ≡ Some n → Ends n) → ((n : S) → P (within n) t w → Within Left Rest n t w) → ((v : V) → after v ≡ Some n → P n t w → Rest v t w)
        → Viable (Left s) [] → in_closed step whole within after s c ≡ Some n → P n t w → Within Left Rest s (c ∷ t) w
    closed_back s n c t w ends from off a e h =
        let m = closed_gives s n c e in
        token_back s m.0 c t w a m.1 (ends m.0 m.1)
        (⊎_elim
        (λ (k : (whole m.0 ≡ None) × (n ≡ within m.0)). inl (k.0, from m.0 (subst (λ n. P n t w) k.1 h)))
        (λ (k : (v : V) × (whole m.0 ≡ Some v) × (after v ≡ Some n)). inr (k.0, k.1, off k.0 k.2 h))
        m.2)

-- a token that ends where a character does not go on in it
module _ {S V W : Type 0} (Left : S → List ℕ → V → Type 0) (step : S → ℕ → Option S) (final : S → Option V) (x : Exact Left step final) (Rest : V → List ℕ → W → Type 0) where
  -- what follows it is no part of it
  abbrev pub Apart : S → ℕ → List ℕ → W → Type 0
  Apart s c t w = (v : V) → final s ≡ Some v → Rest v (c ∷ t) w → step s c ≡ None

  pub longer : (s n : S) (c : ℕ) (t : List ℕ) (w : W) → Viable (Left s) [] → step s c ≡ Some n → Upto Left Rest n t w → Upto Left Rest s (c ∷ t) w
  longer s n c t w a e h = record { own = c ∷ h.own; value = h.value; rest = h.rest; is = x.back s n c h.own h.value a e h.is; after = h.after; spelled = ap (λ t. c ∷ t) h.spelled }

  pub ended : (s : S) (v : V) (text : List ℕ) (w : W) → final s ≡ Some v → Rest v text w → Upto Left Rest s text w
  ended s v text w f k = record { own = []; value = v; rest = text; is = x.may_end s v f; after = k; spelled = refl }

  module _ {A : Type 0} (P : A → List ℕ → W → Type 0) (within : S → A) (after : V → ℕ → Option A) where
    own_forth : (s : S) (c : ℕ) (t own : List ℕ) (value : V) (rest : List ℕ) (w : W) → ((n : S) → Upto Left Rest n t w → P (within n) t w) → ((v : V) → Rest v (c ∷ t) w → Onward P (after v c) t w) → Apart s c t w
        → Left s own value → Rest value rest w → c ∷ t ≡ own ++ rest → Onward P (in_open step final within after s c) t w
    own_forth s c t [] value rest w into onto apart is k p =
        let fin = x.ends s value is in
        let r : Rest value (c ∷ t) w = subst (λ r. Rest value r w) (sym p) k in
        let n = onto value r in
        (n.0, ap (λ o. enter within after (final s) c o) (apart value fin r) ∙ ap (λ o. enter within after o c None) fin ∙ n.1, n.2)
    own_forth s c t (d ∷ own) value rest w into onto apart is k p =
        let same = heads c d t (own ++ rest) p in
        let n = x.forth s d own value is in
        let e : step s c ≡ Some n.0 = ap (step s) same.0 ∙ n.1 in
        (within n.0, ap (λ o. enter within after (final s) c o) e ∙ entered (final s), into n.0 (record { own = own; value = value; rest = rest; is = n.2; after = k; spelled = same.1 }))
      where
        entered : {n : S} (o : Option V) → enter within after o c (Some n) ≡ Some (within n)
        entered None = refl
        entered (Some v) = refl

    pub open_forth : (s : S) (c : ℕ) (t : List ℕ) (w : W) → ((n : S) → Upto Left Rest n t w → P (within n) t w) → ((v : V) → Rest v (c ∷ t) w → Onward P (after v c) t w) → Apart s c t w
        → Upto Left Rest s (c ∷ t) w → Onward P (in_open step final within after s c) t w
    open_forth s c t w into onto apart h = own_forth s c t h.own h.value h.rest w into onto apart h.is h.after h.spelled

    -- what a step within it comes to
    abbrev pub OpenGives : S → ℕ → A → Type 0
    OpenGives s c n = ((k : S) × (step s c ≡ Some k) × (n ≡ within k)) ⊎ ((step s c ≡ None) × ((v : V) × (final s ≡ Some v) × (after v c ≡ Some n)))

    gives : (c : ℕ) (n : A) (f : Option V) (o : Option S) → enter within after f c o ≡ Some n → ((k : S) × (o ≡ Some k) × (n ≡ within k)) ⊎ ((o ≡ None) × ((v : V) × (f ≡ Some v) × (after v c ≡ Some n)))
    gives c n None None e = none_some e
    gives c n (Some v) None e = inr (refl, (v, refl, e))
    gives c n None (Some k) e = inl (k, refl, sym (some_same e))
    gives c n (Some v) (Some k) e = inl (k, refl, sym (some_same e))

    pub open_gives : (s : S) (c : ℕ) (n : A) → in_open step final within after s c ≡ Some n → OpenGives s c n
    open_gives s c n e = gives c n (final s) (step s c) e

    pub open_back : (s : S) (n : A) (c : ℕ) (t : List ℕ) (w : W) → ((n : S) → P (within n) t w → Upto Left Rest n t w) → ((v : V) → final s ≡ Some v → after v c ≡ Some n → P n t w → Rest v (c ∷ t) w)
        → Viable (Left s) [] → in_open step final within after s c ≡ Some n → P n t w → Upto Left Rest s (c ∷ t) w
    open_back s n c t w from off a e h =
        ⊎_elim
        (λ (k : (k : S) × (step s c ≡ Some k) × (n ≡ within k)). longer s k.0 c t w a k.1 (from k.0 (subst (λ n. P n t w) k.2 h)))
        (λ (k : (step s c ≡ None) × ((v : V) × (final s ≡ Some v) × (after v c ≡ Some n))). ended s k.1.0 (c ∷ t) w k.1.1 (off k.1.0 k.1.1 k.1.2 h))
        (open_gives s c n e)
