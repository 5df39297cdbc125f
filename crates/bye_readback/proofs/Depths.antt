-- What holds from some depth of brackets on.
use Rattle.std.proofs.Common.{ℕ, zero, suc, ◌+◌, ◌≤◌, arith}

pub record Later (W : ℕ → Type 0) : Type 0 where
  pub from : ℕ
  pub holds : (d : ℕ) → from ≤ d → W d

pub at_once : {W : ℕ → Type 0} → ((d : ℕ) → W d) → Later W
at_once f = record { from = 0; holds = λ d h. f d }

pub later : {W U : ℕ → Type 0} → ((d : ℕ) → W d → U d) → Later W → Later U
later g f = record { from = f.from; holds = λ d h. g d (f.holds d h) }

pub both_later : {W U S : ℕ → Type 0} → ((d : ℕ) → W d → U d → S d) → Later W → Later U → Later S
both_later join f g = record {
  from = f.from + g.from;
  holds = λ d h.
      let left : f.from ≤ d = omega (arith, h) in
      let right : g.from ≤ d = omega (arith, h) in
      join d (f.holds d left) (g.holds d right);
}

-- one depth further in
pub deeper : {W U : ℕ → Type 0} → ((d : ℕ) → W d → U (suc d)) → Later W → Later U
deeper {W} {U} step f = record { from = suc f.from; holds = below }
  where
    below : (d : ℕ) → suc f.from ≤ d → U d
    below zero h = let r : ⊥ = omega (arith, h) in absurd r
    below (suc d) h = let k : f.from ≤ d = omega (arith, h) in step d (f.holds d k)

pub from_one : {U : ℕ → Type 0} → ((d : ℕ) → U (suc d)) → Later U
from_one f = deeper (λ d (u : Unit {0}). f d) (at_once (λ d. tt))
