use Rattle.std.proofs.Common.{◌≡◌, ◌∷◌, ◌++◌, [], ◌+◌, drop, sym, ◌∙◌, subst, ap}
use Rattle.bye_pattern.proofs.Orders.{IsOnce, once_kept, once_left, element_at, is_absent, is_present}
use Rattle.bye_pattern.proofs.ranked.each_once.Goals as goal
use Rattle.bye_pattern.proofs.ranked.each_once.Goals.{then-not-contains+in_ok-copy+in_ok-push_item, else-not-contains}

pub loop-r-preserved : goal.loop-r-preserved
loop-r-preserved c =
    let here : drop c.loop-r.r-index c.args.ranked.now ≡ c.r-item.result ∷ drop (c.loop-r.r-index + 1) c.args.ranked.now = element_at c.args.ranked.now c.loop-r.r-index c.r-item.result c.loop-r-test.true c.r-item.is in
    let state = subst (IsOnce c.args.ranked.now c.loop-r.out.items) here c.loop-r.invariant in
    elim c.if-not-contains.branch [
      | then-not-contains+in_ok-copy+in_ok-push_item w ↦
          subst (λ out. IsOnce c.args.ranked.now out (drop (c.loop-r.r-index + 1) c.args.ranked.now))
          (sym (ap (λ v. v.items) w.out-is ∙ w.in_ok-push_item.ensures.ok ∙ ap (λ p. c.loop-r.out.items ++ p ∷ []) (w.in_ok-copy.ensures ∙ w.pattern-then-not-contains.ensures)))
          (once_kept _ _ _ _ state (is_absent _ _ _ _ _ c.as_slice.ensures.value c.pattern.ensures c.contains.ensures w.if-not-contains.true))
      | else-not-contains w ↦
          subst (λ out. IsOnce c.args.ranked.now out (drop (c.loop-r.r-index + 1) c.args.ranked.now))
          (sym (ap (λ v. v.items) w.out-is))
          (once_left _ _ _ _ state (is_present _ _ _ _ _ c.as_slice.ensures.value c.pattern.ensures c.contains.ensures w.if-not-contains.false))
    ]
