use Rattle.std.proofs.Common.{refl, arith}
use Rattle.bye_member.proofs.Searching.{keeps_pinned, not_kept}
use Rattle.bye_member.proofs.wanted.is_pinned.Goals as goal

pub returns-then-not-is_kept : goal.returns-then-not-is_kept
returns-then-not-is_kept c = (
  λ e. cc,
  λ pinned. absurd (not_kept c.args.pins.now c.args.env.now c.loop-i.i c.cell.result c.is_kept.result c.cell.ensures c.is_kept.ensures.1 c.if-not-is_kept.true pinned),
)

pub returns : goal.returns
returns c = (
  λ t. keeps_pinned c.args.pins.now c.args.env.now (λ k l. c.loop-i.invariant k (omega arith)),
  λ pinned. refl,
)
