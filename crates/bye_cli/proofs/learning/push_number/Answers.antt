use Rattle.std.proofs.Common.{◌≡◌, refl, ℕ, suc, ◌<◌, List, [], ◌∷◌, true, nat_lt, slice_index, arith}
use Rattle.std.specs.List.{list_all}
use Rattle.bye_terms.proofs.Tests.{both}
use Rattle.bye_cli.proofs.learning.push_number.Goals as goal

below : (n : ℕ) → n < 128 → nat_lt n 128 ≡ true
below n less = grind arith

-- digits are ASCII
ascii : (bytes : List ℕ) → ((i : ℕ) → slice_index bytes i < 128) → list_all (λ b. nat_lt b 128) bytes ≡ true
ascii [] h = refl
ascii (b ∷ bytes) h = both _ _ (below b (h 0)) (ascii bytes (λ i. h (suc i)))

pub push_ascii-requires : goal.push_ascii-requires
push_ascii-requires c = ascii c.format.result.now c.format.ensures.ascii
