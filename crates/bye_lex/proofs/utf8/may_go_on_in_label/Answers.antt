use Rattle.std.proofs.Common.{◌≡◌, true, false, refl, below_more, IsTrue}
use Rattle.bye_lex.proofs.LabelParts.{found, none_is}
use Rattle.bye_lex.proofs.utf8.may_go_on_in_label.Goals as goal

pub returns-then-is_label_part_from : goal.returns-then-is_label_part_from
returns-then-is_label_part_from c = (λ _. found c.loop-number.number c.args.left.now (c.is_label_part_from.ensures.0 c.if-is_label_part_from.true), λ _. refl)

pub loop-number-preserved : goal.loop-number-preserved
loop-number-preserved c =
    below_more _ _ c.loop-number.invariant (λ h. let passed : c.is_label_part_from.result ≡ true = c.is_label_part_from.ensures.1 h in let failed : c.is_label_part_from.result ≡ false = c.if-is_label_part_from.false in cc)

pub returns : goal.returns
returns c = (
  λ (h : IsTrue false). let e : false ≡ true = h in cc,
  λ b. absurd (none_is c.loop-number.number c.args.left.now c.loop-number-test.false c.loop-number.invariant b),
)
