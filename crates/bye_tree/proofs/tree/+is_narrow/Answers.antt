use Rattle.std.proofs.Common.{◌≡◌, refl, Bool, true, false}
use Rattle.bye_tree.proofs.Narrow.{all_narrow, not_narrow, too_many}
use Rattle.bye_tree.proofs.tree.+is_narrow.Goals as goal

refused : (b : Bool) → b ≡ false → b ≡ true → ⊥
refused b e h = cc

pub returns-then-children : goal.returns-then-children
returns-then-children t c = ((λ e. cc), λ h. absurd (too_many c.args.node.now c.as_slice-children.result.now c.as_slice-children.ensures c.if-children.true h))

pub returns-then-not-is_narrow : goal.returns-then-not-is_narrow
returns-then-not-is_narrow t c = (
  (λ e. cc),
  λ h. absurd (not_narrow c.args.node.now c.child-item.result c.as_slice-children.result.now c.loop-child.child-index c.as_slice-children.ensures c.loop-child-test.true c.child-item.is c.loop-child.invariant
      (λ k. refused c.is_narrow.result c.if-not-is_narrow.true (c.is_narrow.ensures.1 k)) h),
)

pub returns : goal.returns
returns t c = ((λ e. all_narrow c.args.node.now c.as_slice-children.result.now c.loop-child.child-index c.as_slice-children.ensures c.if-children.false c.loop-child-test.false c.loop-child.invariant), λ h. refl)
