-- Domains that lie within one another.
use Rattle.std.proofs.Common.{◌≡◌, refl, List, [], ◌∷◌, ◌⊎◌, inl, inr, ⊎_elim, sym, subst}
use Rattle.bye_terms.specs.Members.{In}
use Rattle.bye_terms.proofs.Members.{all_from, all_in}
use Rattle.bye_table.specs.Domains.{AreAlike, BindsEach, IsBelow, IsSeen, IsWithin}
use Rattle.bye_table.specs.Mappings.{Binds, Mapping, Name}
use Rattle.bye_table.proofs.Merging.{not_bound, some_or_none}

-- a domain is within itself
pub within_self : (rows : List Mapping) (x : Name) → IsWithin rows x x
within_self rows x = all_from (λ m. Binds m x → Binds m x) rows (λ m h b. b)

-- a row that binds a variable binds each one around it
pub within_row : (rows : List Mapping) (m : Mapping) (x y : Name) → In rows m → IsWithin rows x y → Binds m x → Binds m y
within_row rows m x y h up = all_in (λ m. Binds m x → Binds m y) rows m up h

-- what is within a domain is within all that is around it
pub within_trans : (rows : List Mapping) (x y z : Name) → IsWithin rows x y → IsWithin rows y z → IsWithin rows x z
within_trans [] x y z a b = tt
within_trans (m ∷ rows) x y z a b = ((λ h. b.0 (a.0 h)), within_trans rows x y z a.1 b.1)

-- a row binds a variable or does not
pub binds_or_not : (m : Mapping) (x : Name) → Binds m x ⊎ (Binds m x → ⊥)
binds_or_not m x = ⊎_elim inl (λ e. inr (not_bound (m x) e)) (some_or_none (m x))

-- a domain is within another one or is not
pub within_or_not : (rows : List Mapping) (x y : Name) → IsWithin rows x y ⊎ (IsWithin rows x y → ⊥)
within_or_not [] x y = inl tt
within_or_not (m ∷ rows) x y =
    ⊎_elim
    (λ all. ⊎_elim
    (λ b. inl ((λ k. b), all))
    (λ n. ⊎_elim (λ b. inr (λ h. n (h.0 b))) (λ out. inl ((λ b. absurd (out b)), all)) (binds_or_not m x))
    (binds_or_not m y))
    (λ no. inr (λ h. no h.1))
    (within_or_not rows x y)

-- a domain is smaller than another one or is not
pub below_or_not : (rows : List Mapping) (x y : Name) → IsBelow rows x y ⊎ (IsBelow rows x y → ⊥)
below_or_not rows x y =
    ⊎_elim
    (λ up. ⊎_elim (λ back. inr (λ h. h.1 back)) (λ no. inl (up, no)) (within_or_not rows y x))
    (λ no. inr (λ h. no h.0))
    (within_or_not rows x y)

-- two variables are of one class or are not
pub alike_or_not : (rows : List Mapping) (x y : Name) → AreAlike rows x y ⊎ (AreAlike rows x y → ⊥)
alike_or_not rows x y =
    ⊎_elim
    (λ up. ⊎_elim (λ back. inl (up, back)) (λ no. inr (λ h. no h.1)) (within_or_not rows y x))
    (λ no. inr (λ h. no h.0))
    (within_or_not rows x y)

-- variables that are alike one are alike one another
pub alike_trans : (rows : List Mapping) (x y z : Name) → AreAlike rows x y → AreAlike rows y z → AreAlike rows x z
alike_trans rows x y z a b = (within_trans rows x y z a.0 b.0, within_trans rows z y x b.1 a.1)

-- what is within a smaller domain is smaller
pub within_below : (rows : List Mapping) (x y z : Name) → IsWithin rows x y → IsBelow rows y z → IsBelow rows x z
within_below rows x y z up below = (within_trans rows x y z up below.0, λ back. below.1 (within_trans rows z x y back up))

-- a variable around a seen one is seen
pub seen_up : (rows : List Mapping) (x y : Name) → IsSeen rows x → IsWithin rows x y → IsSeen rows y
seen_up rows x y (m, h, b) up = (m, h, within_row rows m x y h up b)

-- a variable that neither the first row nor a later one binds is not seen
seen_later : (m : Mapping) (rows : List Mapping) (x : Name) → (Binds m x → ⊥) → (IsSeen rows x → ⊥) → IsSeen (m ∷ rows) x → ⊥
seen_later m rows x first rest (r, inl e, b) = first (subst (λ (r : Mapping). Binds r x) (sym e) b)
seen_later m rows x first rest (r, inr h, b) = rest (r, h, b)

-- a variable is seen or is not
pub seen_or_not : (rows : List Mapping) (x : Name) → IsSeen rows x ⊎ (IsSeen rows x → ⊥)
seen_or_not [] x = inr (λ s. s.1)
seen_or_not (m ∷ rows) x =
    ⊎_elim
    (λ b. inl (m, inl refl, b))
    (λ n. ⊎_elim (λ s. inl (s.0, inr s.1, s.2)) (λ no. inr (seen_later m rows x n no)) (seen_or_not rows x))
    (binds_or_not m x)

-- all rows bind a variable or not all do
pub each_or_not : (rows : List Mapping) (x : Name) → BindsEach rows x ⊎ (BindsEach rows x → ⊥)
each_or_not [] x = inl tt
each_or_not (m ∷ rows) x =
    ⊎_elim
    (λ b. ⊎_elim (λ all. inl (b, all)) (λ no. inr (λ h. no h.1)) (each_or_not rows x))
    (λ n. inr (λ h. n h.0))
    (binds_or_not m x)

-- each domain is within that of a variable that all rows bind
pub within_each : (rows : List Mapping) (x y : Name) → BindsEach rows y → IsWithin rows x y
within_each rows x y each = all_from (λ m. Binds m x → Binds m y) rows (λ m h b. all_in (λ m. Binds m y) rows m each h)

-- what is around a variable that all rows bind is bound by all rows
pub each_up : (rows : List Mapping) (x y : Name) → BindsEach rows x → IsWithin rows x y → BindsEach rows y
each_up rows x y each up = all_from (λ m. Binds m y) rows (λ m h. within_row rows m x y h up (all_in (λ m. Binds m x) rows m each h))

-- where there is a row, a variable that all rows bind is seen
pub each_seen : (rows : List Mapping) (x : Name) → (rows ≡ [] → ⊥) → BindsEach rows x → IsSeen rows x
each_seen [] x some each = absurd (some refl)
each_seen (m ∷ rows) x some each = (m, inl refl, each.0)
