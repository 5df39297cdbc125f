use Rattle.bye_descent.proofs.Again.{told_unknown, told_known}
use Rattle.bye_descent.proofs.read.refused.Goals as goal

pub returns-in-Ok-true : goal.returns-in-Ok-true
returns-in-Ok-true c ts split wrong =
    told_unknown c.splits_one_way.ensures c.fitting_iris_are_read.ensures c.args.text.now c.utf8.text c.next_place-place.result c.args.left.now c.next_place-place.ensures
    c.in-Ok-true.field-0 c.in-Ok-true.ensures ts split wrong c.in-Ok-true.field-0-test

pub returns-in-Ok-false : goal.returns-in-Ok-false
returns-in-Ok-false c ts split wrong =
    told_known c.splits_one_way.ensures c.fitting_iris_are_read.ensures c.args.text.now c.utf8.text c.next_place-place.result c.args.left.now c.next_place-place.ensures
    c.in-Ok-false.field-0 c.in-Ok-false.ensures ts split wrong c.next_feature.result c.next_feature.ensures c.in-Ok-false.field-0-test
