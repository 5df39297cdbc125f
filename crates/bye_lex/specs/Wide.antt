-- The classes of runs have all characters beyond ASCII, so that the bytes of a text tell whether its characters are of the class.
use Rattle.std.proofs.Common.{◌≡◌, ℕ, ◌≤◌, true, arith}
use Rattle.std.proofs.lemmas.Bool.Decides.{nat_tests}
use Rattle.bye_terms.specs.Characters.{is_iri_char}
use Rattle.bye_lex.specs.Runs.{is_plain}

pub wide_iri : (c : ℕ) → 128 ≤ c → is_iri_char c ≡ true
wide_iri c h = grind (arith, nat_tests)

pub wide_plain : (c : ℕ) → 128 ≤ c → is_plain c ≡ true
wide_plain c h = grind (arith, nat_tests)
