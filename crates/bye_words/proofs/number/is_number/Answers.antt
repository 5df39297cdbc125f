use Rattle.std.proofs.Common.{◌≡◌, ℕ, ◌≤◌, nat_le, true, arith}
use Rattle.bye_words.proofs.Numbers.{between}
use Rattle.bye_words.proofs.number.is_number.Goals as goal

at_most : (m n : ℕ) → nat_le m n ≡ true → m ≤ n
at_most m n e = grind arith

tested : (m n : ℕ) → m ≤ n → nat_le m n ≡ true
tested m n h = grind arith

pub returns-then-least-number : goal.returns-then-least-number
returns-then-least-number c = (
  λ h. record { number = c.in-Some.number; digits = c.in-Some.ensures.some; low = c.if-least-number.true; high = at_most _ _ h },
  λ is. tested _ _ (between c.args.word.now c.args.least c.args.greatest c.in-Some.number c.in-Some.ensures.small (omega arith) c.in-Some.ensures.some is).1,
)

pub returns-else-least-number : goal.returns-else-least-number
returns-else-least-number c = (
  λ h. let low : c.args.least ≤ c.in-Some.number = at_most _ _ h in let high = c.if-least-number.false in absurd (omega arith),
  λ is. tested _ _ (between c.args.word.now c.args.least c.args.greatest c.in-Some.number c.in-Some.ensures.small (omega arith) c.in-Some.ensures.some is).0,
)
