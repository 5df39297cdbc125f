-- Reading a text, a character at a time.
use Rattle.std.proofs.Common.{◌≡◌, ℕ, ◌+◌, ◌-◌, ◌≤◌, Bool, true, false, cond, List, ◌∷◌, Some, None, ⊎_elim, length, sym, ◌∙◌, ap, subst, arith}
use Rattle.std.specs.Str.{encode_utf8_all}
use Rattle.bye_ntriples.specs.DocSteps.{DocAt, step, is_over, is_over_there, Walked, Stopped, Many, onward, walk, CannotAdvance, CannotWalk}
use Rattle.bye_ntriples.specs.declared.fault.NtErr.{NtErr}
use Rattle.bye_ntriples.specs.declared.fault.NtErr.TheVariants as faults

pub further : (d n : DocAt) (rest after : List ℕ) (c : ℕ) (w : Walked) → walk d rest ≡ w → rest ≡ c ∷ after → step d c ≡ Some n → is_over n ≡ false → walk n after ≡ w
further d n rest after c w same parts e f =
    sym (ap (λ r. walk d r) parts ∙ ap (onward d (c ∷ after) (λ n. walk n after)) e ∙ ap (λ b. cond b Many (walk n after)) f) ∙ same

none_at : (d : DocAt) (rest after : List ℕ) (c : ℕ) (b : Bool) → rest ≡ c ∷ after → step d c ≡ None → is_over_there d ≡ b → walk d rest ≡ cond b Many (Stopped rest)
none_at d rest after c b parts e f = ap (λ r. walk d r) parts ∙ ap (onward d (c ∷ after) (λ n. walk n after)) e ∙ ap (λ b. cond b Many (Stopped (c ∷ after))) f ∙ ap (λ r. cond b Many (Stopped r)) (sym parts)

pub cannot : (d : DocAt) (rest after : List ℕ) (c here total : ℕ) (fault : NtErr) (w : Walked) → walk d rest ≡ w → rest ≡ c ∷ after → length (encode_utf8_all rest) ≤ total → here ≡ total - length (encode_utf8_all rest) → CannotAdvance d here fault (step d c) → CannotWalk total fault w
cannot d rest after c here total (faults.Syntax place) w same parts within at k =
    let is : w ≡ Stopped rest = sym same ∙ none_at d rest after c false parts k.0 k.1.0 in
    let sum : place + length (encode_utf8_all rest) ≡ total = let p = k.1.1 in omega (arith, p, at, within) in
    subst (λ w. CannotWalk total (faults.Syntax place) w) (sym is) sum
cannot d rest after c here total (faults.NotUtf8 place) w same parts within at k = absurd k
cannot d rest after c here total faults.TooMany w same parts within at k =
    ⊎_elim
    (λ (h : (step d c ≡ None) × (is_over_there d ≡ true)). subst (λ w. CannotWalk total faults.TooMany w) (sym (none_at d rest after c true parts h.0 h.1) ∙ same) tt)
    (λ (h : (n : DocAt) × (step d c ≡ Some n) × (is_over n ≡ true)).
    let is : walk d rest ≡ Many = ap (λ r. walk d r) parts ∙ ap (onward d (c ∷ after) (λ n. walk n after)) h.1 ∙ ap (λ b. cond b Many (walk h.0 after)) h.2 in
    subst (λ w. CannotWalk total faults.TooMany w) (sym is ∙ same) tt)
    k
cannot d rest after c here total faults.Memory w same parts within at k = tt
