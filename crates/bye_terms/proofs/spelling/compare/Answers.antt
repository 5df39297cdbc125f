use Rattle.std.proofs.Common.{◌≡◌, ◌++◌, ◌≤◌, List, ℕ, [], length, take, drop, min, sym, ◌∙◌, arith, Ordering, Equal, append_assoc}
use Rattle.std.specs.Cmp.Lexicographic.{slice_cmp}
use Rattle.std.specs.Ordering.{nat_cmp}
use Rattle.bye_terms.specs.Pieces.{left_of}
use Rattle.bye_terms.specs.Spellings.{escaped}
use Rattle.bye_terms.specs.declared.spelling.Spelling.{Spelling}
use Rattle.bye_terms.proofs.Orders.{ended, past_equal, at_other}
use Rattle.bye_terms.proofs.spelling.compare.Goals as goal

after_head : Spelling → List ℕ
after_head s = escaped s.lexical.now ++ (s.middle.now ++ (s.text.now ++ s.last.now))

head_first : (s : Spelling) → left_of s ≡ s.head.now ++ after_head s
unfolding after_head
head_first s = simp append_assoc

both_ended : (a b one other : Spelling) (o : Ordering) → left_of a ≡ left_of one → left_of b ≡ left_of other
    → (a.head.now ≡ [] → left_of a ≡ []) → (b.head.now ≡ [] → left_of b ≡ []) → min (length a.head.now) (length b.head.now) ≡ 0
    → o ≡ nat_cmp (length a.head.now) (length b.head.now) → o ≡ slice_cmp nat_cmp (left_of one) (left_of other)
both_ended a b one other o x y u v n e =
    e ∙ ended a.head.now b.head.now (after_head a) (after_head b) (left_of a) (left_of b) (head_first a) (head_first b) u v n
    ∙ (λ i. slice_cmp nat_cmp (x i) (y i))

decided : (a b one other : Spelling) (n : ℕ) (o : Ordering) (f g : List ℕ) → left_of a ≡ left_of one → left_of b ≡ left_of other
    → n ≤ length a.head.now → n ≤ length b.head.now → f ≡ take n a.head.now → g ≡ take n b.head.now
    → o ≡ slice_cmp nat_cmp f g → (o ≡ Equal → ⊥) → o ≡ slice_cmp nat_cmp (left_of one) (left_of other)
decided a b one other n o f g x y in_a in_b front other_front e differ =
    let fronts : o ≡ slice_cmp nat_cmp (take n a.head.now) (take n b.head.now) = e ∙ (λ i. slice_cmp nat_cmp (front i) (other_front i)) in
    fronts
    ∙ at_other a.head.now b.head.now (after_head a) (after_head b) n in_a in_b (λ k. differ (fronts ∙ k))
    ∙ sym (λ i. slice_cmp nat_cmp (head_first a i) (head_first b i))
    ∙ (λ i. slice_cmp nat_cmp (x i) (y i))

passed : (a b one other next following : Spelling) (n : ℕ) (f g : List ℕ) → left_of a ≡ left_of one → left_of b ≡ left_of other
    → left_of next ≡ drop n (left_of a) → left_of following ≡ drop n (left_of b)
    → n ≤ length a.head.now → n ≤ length b.head.now → f ≡ take n a.head.now → g ≡ take n b.head.now → slice_cmp nat_cmp f g ≡ Equal
    → slice_cmp nat_cmp (left_of next) (left_of following) ≡ slice_cmp nat_cmp (left_of one) (left_of other)
passed a b one other next following n f g x y k l in_a in_b front other_front e =
    (λ i. slice_cmp nat_cmp (k i) (l i))
    ∙ (λ i. slice_cmp nat_cmp (drop n (head_first a i)) (drop n (head_first b i)))
    ∙ past_equal a.head.now b.head.now (after_head a) (after_head b) n in_a in_b (sym (λ i. slice_cmp nat_cmp (front i) (other_front i)) ∙ e)
    ∙ sym (λ i. slice_cmp nat_cmp (head_first a i) (head_first b i))
    ∙ (λ i. slice_cmp nat_cmp (x i) (y i))

pub returns-then-count-eq0 : goal.returns-then-count-eq0
returns-then-count-eq0 c =
    both_ended c.refill.new.self c.refill-in-loop-one.new.self c.loop-one.one c.loop-one.other _ c.refill.ensures.same c.refill-in-loop-one.ensures.same
    c.refill.ensures.empty c.refill-in-loop-one.ensures.empty (omega arith) c.cmp.ensures
    ∙ c.loop-one.invariant

pub loop-one-preserved : goal.loop-one-preserved
loop-one-preserved c =
    passed c.refill.new.self c.refill-in-loop-one.new.self c.loop-one.one c.loop-one.other c.skip.new.self c.skip-in-Equal.new.self c.min-count.result _ _ c.refill.ensures.same c.refill-in-loop-one.ensures.same
    c.skip.ensures c.skip-in-Equal.ensures (omega arith) (omega arith) c.split_at.ensures.front c.split_at-in-loop-one.ensures.front (sym c.in-Equal.ensures)
    ∙ c.loop-one.invariant

pub returns-in_default : goal.returns-in_default
returns-in_default c =
    decided c.refill.new.self c.refill-in-loop-one.new.self c.loop-one.one c.loop-one.other c.min-count.result _ _ _ c.refill.ensures.same c.refill-in-loop-one.ensures.same
    (omega arith) (omega arith) c.split_at.ensures.front c.split_at-in-loop-one.ensures.front c.cmp-in-loop-one.ensures c.in_default.not-Equal
    ∙ c.loop-one.invariant
