-- Steps of a search by halves.
use Rattle.std.proofs.Common.{◌≡◌, ℕ, suc, ◌+◌, ◌-◌, ◌*◌, ◌^◌, ◌<◌, ◌≤◌, add-one, arith, subst, sym}
use Rattle.std.proofs.Math.Nat.{mul-le-mul_left, pow-suc}
use Rattle.bye_graph.specs.Graphs.{IsDepth}
use Rattle.bye_graph.specs.Orders.{IsAtMostDepth}

-- after k steps so many places are left of n
pub record IsHalved (n k left : ℕ) : Type 0 where
  pub few : 2 ^ k * left ≤ n
  pub depth : IsAtMostDepth n k

power_more : (k : ℕ) → 2 ^ (k + 1) ≡ 2 * 2 ^ k
power_more k = let e : 2 ^ suc k ≡ 2 ^ k * 2 = pow-suc 2 k in rw add-one (omega (arith, e))

few_more : (p left less n : ℕ) → 2 * less ≤ left → p * left ≤ n → (2 * p) * less ≤ n
few_more p left less n half few = let h : p * (2 * less) ≤ p * left = mul-le-mul_left p half in omega (arith, h)

deep : (p left n : ℕ) → 0 < left → p * left ≤ n → 2 * p ≤ 2 * n + 1
deep p left n some few = let h : p * 1 ≤ p * left = mul-le-mul_left p (omega arith) in omega (arith, h)

halved_more : (n k left less : ℕ) → IsHalved n k left → 0 < left → 2 * less ≤ left → IsHalved n (k + 1) less
halved_more n k left less h some half = record {
  few = subst (λ p. p * less ≤ n) (sym (power_more k)) (few_more (2 ^ k) left less n half h.few);
  depth = subst (λ p. p ≤ 2 * n + 1) (sym (power_more k)) (deep (2 ^ k) left n some h.few);
}

-- before the first step
pub halved_none : (n steps : ℕ) → IsHalved n (steps - steps) n
halved_none n steps = let e : steps - steps ≡ 0 = omega arith in subst (λ k. IsHalved n k n) (sym e) (record { few = omega arith; depth = omega arith })

-- one more step
pub halved_step : (n start old new left less : ℕ) → start ≤ old → new ≡ old + 1 → IsHalved n (old - start) left → 0 < left → 2 * less ≤ left → IsHalved n (new - start) less
halved_step n start old new left less grows step h some half =
    let e : new - start ≡ (old - start) + 1 = omega arith in
    subst (λ k. IsHalved n k less) (sym e) (halved_more n (old - start) left less h some half)

-- one search, and two
pub one_search : (m n d old new : ℕ) → m ≤ n → IsDepth n d → old ≤ new → IsAtMostDepth m (new - old) → new ≤ old + d
one_search m n d old new few depth grows cost =
    let h : 2 ^ (new - old) ≤ 2 * m + 1 = cost in
    let g : new - old ≤ d = depth.greatest (new - old) (omega (arith, h)) in
    omega (arith, g)

pub two_searches : (m k n d old mid new : ℕ) → m ≤ k → k ≤ n → IsDepth n d → old ≤ mid → IsAtMostDepth k (mid - old) → mid ≤ new → IsAtMostDepth m (new - mid) → new ≤ old + 2 * d
two_searches m k n d old mid new less few depth grows cost grows_more more =
    let first : mid ≤ old + d = one_search k n d old mid few depth grows cost in
    let last : new ≤ mid + d = one_search m n d mid new (omega (arith, less, few)) depth grows_more more in
    omega (arith, first, last)
