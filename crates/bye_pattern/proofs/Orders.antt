-- The order of trial: it is total, a sort brings it about, and it stays where an element is left out.
use Rattle.std.proofs.Common.{◌≡◌, refl, ℕ, suc, ◌+◌, ◌<◌, Bool, true, false, cond, not, ◌&&◌, ◌||◌, List, [], ◌∷◌, ◌++◌, length, get_or, drop, drop-cons, IsTrue, ◌↔◌, sym, ◌∙◌, ap, subst, arith, append_assoc, Ordering, Less, Equal, Greater, inr, ⊎_elim}
use Rattle.std.specs.List.{AllByRecursion, Contains}
use Rattle.std.specs.List.Sorted.{IsSortedBy}
use Rattle.std.specs.Str.{bytes_eq}
use Rattle.std.specs.Cmp.{IsTotalOrder, IsStrictWeakOrder}
use Rattle.std.specs.Ordering.{is_lt, is_gt, ordering_reverse}
use Rattle.std.proofs.lemmas.Cmp.{upto, then_total, on_total, nat_cmp_total, nat_list_cmp_total}
use Rattle.bye_terms.specs.Members.{In, EachOnce}
use Rattle.bye_terms.proofs.Members.{in_cases, in_left, in_right, in_contains, contains_in, once_more}
use Rattle.bye_pattern.specs.declared.slot.Slot.{Slot}
use Rattle.bye_pattern.specs.declared.slot.Slot.TheVariants.{Var, Const}
use Rattle.bye_pattern.specs.Patterns.{Pattern, vars, slot_vars}
use Rattle.bye_pattern.specs.Ranking.{variable_count, one_if}
use Rattle.bye_pattern.specs.TrialOrder.{distinct_count, line_bytes, trial_cmp, IsInTrialOrder}

-- three places, of which some are variables
three_vars : (a b d : Bool) → one_if (true && not a && not b) + one_if (true && not d) + one_if true ≡ cond (a || (b || false)) (cond (d || false) 1 2) (1 + cond (d || false) 1 2)
three_vars true true true = refl
three_vars true true false = refl
three_vars true false true = refl
three_vars true false false = refl
three_vars false true true = refl
three_vars false true false = refl
three_vars false false true = refl
three_vars false false false = refl

two_vars : (a : Bool) → one_if (true && not a) + 1 ≡ cond (a || false) 1 2
two_vars true = refl
two_vars false = refl

pub counted : (s p o : Slot) → variable_count s p o ≡ distinct_count (slot_vars s ++ slot_vars p ++ slot_vars o)
unfolding variable_count
counted (Var u) (Var v) (Var w) = three_vars (bytes_eq v u) (bytes_eq w u) (bytes_eq w v)
counted (Var u) (Var v) (Const w) = two (bytes_eq v u)
  where
    two : (a : Bool) → one_if (true && not a && not false) + one_if (true && not false) + 0 ≡ cond (a || false) 1 2
    two true = refl
    two false = refl
counted (Var u) (Const v) (Var w) = two (bytes_eq w u)
  where
    two : (a : Bool) → one_if (true && not false && not a) + one_if (false && not false) + 1 ≡ cond (a || false) 1 2
    two true = refl
    two false = refl
counted (Var u) (Const v) (Const w) = refl
counted (Const u) (Var v) (Var w) = two (bytes_eq w v)
  where
    two : (a : Bool) → one_if (false && not false && not false) + one_if (true && not a) + 1 ≡ cond (a || false) 1 2
    two true = refl
    two false = refl
counted (Const u) (Var v) (Const w) = refl
counted (Const u) (Const v) (Var w) = refl
counted (Const u) (Const v) (Const w) = refl

pub trial_total : IsTotalOrder trial_cmp
trial_total = then_total (on_total (λ p. distinct_count (vars p)) nat_cmp_total) (on_total line_bytes nat_list_cmp_total)

before : Pattern → Pattern → Bool
before p q = is_lt (trial_cmp p q)

reversed : (o : Ordering) → is_lt (ordering_reverse o) ≡ is_gt o
reversed Less = refl
reversed Equal = refl
reversed Greater = refl

after_before : (p q : Pattern) → is_lt (trial_cmp p q) ≡ is_gt (trial_cmp q p)
after_before p q = ap is_lt (trial_total.antisymm p q) ∙ reversed (trial_cmp q p)

one_way : (o : Ordering) → is_gt o ≡ true → is_lt o ≡ false
one_way Less e = cc
one_way Equal e = cc
one_way Greater e = refl

pub trial_weak : IsStrictWeakOrder (λ p q. is_lt (trial_cmp p q))
trial_weak = record {
  one_way = λ p q e. one_way (trial_cmp q p) (sym (after_before p q) ∙ e);
  chain = λ p q r a b. after_before p r ∙ upto trial_total r q p (sym (after_before q r) ∙ b) (sym (after_before p q) ∙ a);
}

all_map : {X : Type 0} (P Q : X → Type 0) → ((x : X) → P x → Q x) → (xs : List X) → AllByRecursion P xs → AllByRecursion Q xs
all_map P Q f [] h = tt
all_map P Q f (x ∷ xs) h = (f x h.0, all_map P Q f xs h.1)

abbrev Adjacent : List Pattern → Type 0
Adjacent ps = (k : ℕ) (d : Pattern) → k + 1 < length ps → is_lt (trial_cmp (get_or ps (k + 1) d) (get_or ps k d)) ≡ false

adjacent_tail : (p : Pattern) (ps : List Pattern) → Adjacent (p ∷ ps) → Adjacent ps
adjacent_tail p ps h = λ k d l.
    let e : suc k + 1 ≡ suc (k + 1) = omega arith in
    subst (λ n. is_lt (trial_cmp (get_or (p ∷ ps) n d) (get_or ps k d)) ≡ false) e (h (suc k) d (omega arith))

ordered : (p : Pattern) (ps : List Pattern) → Adjacent (p ∷ ps) → AllByRecursion (λ q. is_lt (trial_cmp q p) ≡ false) ps × IsInTrialOrder ps
ordered p [] h = (tt, tt)
ordered p (q ∷ ps) h =
    let first : is_lt (trial_cmp q p) ≡ false = h 0 p (omega arith) in
    let w = ordered q ps (adjacent_tail p (q ∷ ps) h) in
    ((first, all_map (λ r. is_lt (trial_cmp r q) ≡ false) (λ r. is_lt (trial_cmp r p) ≡ false) (λ r k. trial_weak.chain r q p k first) ps w.0), w)

pub order_from_sort : (ps : List Pattern) → IsSortedBy (λ p q. is_lt (trial_cmp p q)) ps → IsInTrialOrder ps
order_from_sort [] h = tt
order_from_sort (p ∷ ps) h = ordered p ps (λ k d l. h k d (omega arith) l)

-- an element left out
all_middle : {X : Type 0} (P : X → Type 0) (xs : List X) (y : X) (zs : List X) → AllByRecursion P (xs ++ y ∷ zs) → AllByRecursion P (xs ++ zs)
all_middle P [] y zs h = h.1
all_middle P (x ∷ xs) y zs h = (h.0, all_middle P xs y zs h.1)

order_middle : (xs : List Pattern) (y : Pattern) (zs : List Pattern) → IsInTrialOrder (xs ++ y ∷ zs) → IsInTrialOrder (xs ++ zs)
order_middle [] y zs h = h.1
order_middle (x ∷ xs) y zs h = (all_middle (λ q. is_lt (trial_cmp q x) ≡ false) xs y zs h.0, order_middle xs y zs h.1)

-- what was kept of all, each once and in order, with what is still to come
pub record IsOnce (all out rest : List Pattern) : Type 0 where
  pub kept : (p : Pattern) → In (out ++ rest) p → In all p
  pub none_lost : (p : Pattern) → In all p → In (out ++ rest) p
  pub once : EachOnce out
  pub sorted : IsInTrialOrder all → IsInTrialOrder (out ++ rest)

pub once_start : (all : List Pattern) → IsOnce all [] all
once_start all = record { kept = λ p h. h; none_lost = λ p h. h; once = tt; sorted = λ h. h }

pub once_kept : (all out rest : List Pattern) (r : Pattern) → IsOnce all out (r ∷ rest) → (In out r → ⊥) → IsOnce all (out ++ r ∷ []) rest
once_kept all out rest r state new =
    let e : (out ++ r ∷ []) ++ rest ≡ out ++ r ∷ rest = append_assoc out (r ∷ []) rest in
    record {
      kept = λ p h. state.kept p (subst (λ xs. In xs p) e h);
      none_lost = λ p h. subst (λ xs. In xs p) (sym e) (state.none_lost p h);
      once = once_more out r state.once new;
      sorted = λ h. subst IsInTrialOrder (sym e) (state.sorted h);
    }

pub once_left : (all out rest : List Pattern) (r : Pattern) → IsOnce all out (r ∷ rest) → In out r → IsOnce all out rest
once_left all out rest r state there = record {
  kept = λ p h. state.kept p (⊎_elim (λ k. in_left out (r ∷ rest) p k) (λ k. in_right out (r ∷ rest) p (inr k)) (in_cases out rest p h));
  none_lost = λ p h. ⊎_elim (λ k. in_left out rest p k) (λ k. ⊎_elim (λ e. in_left out rest p (subst (λ q. In out q) e there)) (λ n. in_right out rest p n) k) (in_cases out (r ∷ rest) p (state.none_lost p h));
  once = state.once;
  sorted = λ h. order_middle out r rest (state.sorted h);
}

-- the element at a place, and what follows it
pub element_at : (xs : List Pattern) (i : ℕ) (r : Pattern) → i < length xs → r ≡ get_or xs i r → drop i xs ≡ r ∷ drop (i + 1) xs
element_at xs i r l e = drop-cons xs i r l ∙ (λ j. sym e j ∷ drop (next j) xs)
  where
    next : suc i ≡ i + 1
    next = omega arith

-- what a search of the kept patterns tells
pub is_absent : (out searched : List Pattern) (r q : Pattern) (b : Bool) → searched ≡ out → q ≡ r → (IsTrue b ↔ Contains searched q) → b ≡ false → In out r → ⊥
is_absent out searched r q b same e found not_there h =
    let there : IsTrue b = found.1 (in_contains searched q (subst (λ xs. In xs q) (sym same) (subst (λ p. In out p) (sym e) h))) in
    cc

pub is_present : (out searched : List Pattern) (r q : Pattern) (b : Bool) → searched ≡ out → q ≡ r → (IsTrue b ↔ Contains searched q) → b ≡ true → In out r
is_present out searched r q b same e found there = subst (λ p. In out p) e (subst (λ xs. In xs q) same (contains_in searched q (found.0 there)))
