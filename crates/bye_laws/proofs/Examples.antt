-- Rows, their numbers, and the variables that they bind.
use Rattle.std.proofs.Common.{◌≡◌, refl, ℕ, zero, suc, ◌<◌, List, [], ◌∷◌, ◌⊎◌, inl, inr, ⊎_elim, sym, ◌∙◌, ap, subst, arith}
use Rattle.bye_terms.specs.Members.{EachOnce, In}
use Rattle.bye_table.specs.Domains.{AreSeen, IsBefore, IsRowAt, IsSeen}
use Rattle.bye_table.specs.Mappings.{Mapping, Name}
use Rattle.bye_laws.proofs.Withins.{seen_or_not}

-- a row has the next number in a longer list
next_at : (rows : List Mapping) (r m : Mapping) (i : ℕ) → IsRowAt rows i m → IsRowAt (r ∷ rows) (suc i) m
next_at [] r m i at = absurd at
next_at (s ∷ rows) r m zero at = absurd at
next_at (s ∷ rows) r m (suc i) at = at

-- each row has a number
pub in_at : (rows : List Mapping) (m : Mapping) → In rows m → (i : ℕ) × IsRowAt rows i m
in_at [] m h = absurd h
in_at (r ∷ rows) m (inl e) = (1, e)
in_at (r ∷ rows) m (inr h) = let w = in_at rows m h in (suc w.0, next_at rows r m w.0 w.1)

-- there is a first row
pub some_row : (rows : List Mapping) → (rows ≡ [] → ⊥) → (m : Mapping) × In rows m
some_row [] h = absurd (h refl)
some_row (m ∷ rows) h = (m, inl refl)

-- the variables that some row binds, in the order of a list
pub seen_list : (rows : List Mapping) (xs : List Name) → (vs : List Name) × AreSeen rows xs vs
seen_list rows [] = ([], refl)
seen_list rows (x ∷ xs) =
    let w = seen_list rows xs in
    ⊎_elim (λ s. (x ∷ w.0, inl (s, (w.0, w.1, refl)))) (λ n. (w.0, inr (n, w.1))) (seen_or_not rows x)

-- each of them is in the list and seen
pub seen_in : (rows : List Mapping) (xs vs : List Name) → AreSeen rows xs vs → (v : Name) → In vs v → In xs v × IsSeen rows v
seen_in rows [] vs all v h = absurd (subst (λ vs. In vs v) all h)
seen_in rows (x ∷ xs) vs (inl (s, (ws, rest, e))) v h =
    ⊎_elim (λ same. (inl same, subst (IsSeen rows) same s)) (λ k. let w = seen_in rows xs ws rest v k in (inr w.0, w.1)) (subst (λ vs. In vs v) e h)
seen_in rows (x ∷ xs) vs (inr (n, rest)) v h = let w = seen_in rows xs vs rest v h in (inr w.0, w.1)

-- and each seen variable of the list is one of them
pub in_seen : (rows : List Mapping) (xs vs : List Name) → AreSeen rows xs vs → (v : Name) → In xs v → IsSeen rows v → In vs v
in_seen rows [] vs all v h s = absurd h
in_seen rows (x ∷ xs) vs (inl (t, (ws, rest, e))) v h s =
    subst (λ vs. In vs v) (sym e) (⊎_elim (λ same. inl same) (λ k. inr (in_seen rows xs ws rest v k s)) h)
in_seen rows (x ∷ xs) vs (inr (n, rest)) v h s = ⊎_elim (λ same. absurd (n (subst (IsSeen rows) (sym same) s))) (λ k. in_seen rows xs vs rest v k s) h

-- none stands twice
pub seen_once : (rows : List Mapping) (xs vs : List Name) → AreSeen rows xs vs → EachOnce xs → EachOnce vs
seen_once rows [] vs all once = subst EachOnce (sym all) tt
seen_once rows (x ∷ xs) vs (inl (s, (ws, rest, e))) once =
    subst EachOnce (sym e) ((λ h. once.0 (seen_in rows xs ws rest x h).0), seen_once rows xs ws rest once.1)
seen_once rows (x ∷ xs) vs (inr (n, rest)) once = seen_once rows xs vs rest once.1

-- they are told by the rows
pub one_seen_list : (rows : List Mapping) (xs vs ws : List Name) → AreSeen rows xs vs → AreSeen rows xs ws → vs ≡ ws
one_seen_list rows [] vs ws a b = a ∙ sym b
one_seen_list rows (x ∷ xs) vs ws (inl (s, (us, rest, e))) (inl (t, (zs, other, f))) = e ∙ ap (λ us. x ∷ us) (one_seen_list rows xs us zs rest other) ∙ sym f
one_seen_list rows (x ∷ xs) vs ws (inl (s, a)) (inr (n, b)) = absurd (n s)
one_seen_list rows (x ∷ xs) vs ws (inr (n, a)) (inl (s, b)) = absurd (n s)
one_seen_list rows (x ∷ xs) vs ws (inr (n, a)) (inr (k, b)) = one_seen_list rows xs vs ws a b

-- two names of a list that differ stand one before the other
pub before_or : (xs : List Name) (v w : Name) → In xs v → In xs w → (v ≡ w → ⊥) → IsBefore xs v w ⊎ IsBefore xs w v
before_or [] v w h k d = absurd h
before_or (x ∷ xs) v w (inl e) (inl f) d = absurd (d (sym e ∙ f))
before_or (x ∷ xs) v w (inl e) (inr k) d = inl (inl (e, k))
before_or (x ∷ xs) v w (inr h) (inl f) d = inr (inl (f, h))
before_or (x ∷ xs) v w (inr h) (inr k) d = ⊎_elim (λ b. inl (inr b)) (λ b. inr (inr b)) (before_or xs v w h k d)

-- of two numbers one is less or they are the same
pub either_less : (i j : ℕ) → (i < j) ⊎ ((i ≡ j) ⊎ (j < i))
either_less zero zero = inr (inl refl)
either_less zero (suc j) = inl (omega arith)
either_less (suc i) zero = inr (inr (omega arith))
either_less (suc i) (suc j) = next (either_less i j)
  where
    next : (i < j) ⊎ ((i ≡ j) ⊎ (j < i)) → (suc i < suc j) ⊎ ((suc i ≡ suc j) ⊎ (suc j < suc i))
    next (inl l) = inl (omega arith)
    next (inr (inl e)) = inr (inl (ap suc e))
    next (inr (inr l)) = inr (inr (omega arith))
