-- Lines and their keys as the program holds them.
use Rattle.std.specs.Borrow.{Bor}
use Rattle.std.specs.Prelude.{ℕ, List, map, option_map, slice_get}
use Rattle.bye_ntriples.specs.Keys.{Chosen, Keyed}

-- the labels and the fronts of these lists, by their numbers
abbrev pub chosen : List (Bor (List ℕ)) → List (Bor (List ℕ)) → Chosen
chosen labels fronts = record { labels = λ i. option_map (λ s. s.now) (slice_get labels i); fronts = λ i. option_map (λ s. s.now) (slice_get fronts i) }

-- the lines with their keys
abbrev pub keyed_of : List (ℕ × ℕ × Bor (List ℕ)) → List Keyed
keyed_of ks = map (λ k. record { first = k.0; second = k.1; line = k.2.now }) ks
