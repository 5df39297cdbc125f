-- Rows of joins: a Join moves past a LeftJoin whose right side shares with it only what the left side binds.
use Rattle.std.proofs.Common.{◌≡◌, refl, List, [], ◌∷◌, ◌++◌, Option, Some, None, inl, inr, ⊎_elim, sym, ◌∙◌, ap, subst, ◌↔◌}
use Rattle.bye_terms.specs.declared.term.Term.{Term}
use Rattle.bye_terms.specs.Terms.{Statement}
use Rattle.bye_table.specs.Mappings.{Binds, Compatible, Mapping, Name, first_of, merge, nothing}
use Rattle.bye_pattern.specs.Patterns.{Pattern}
use Rattle.bye_pattern.specs.Conditions.{AllHoldExpr, Expr}
use Rattle.bye_pattern.specs.Algebra.{Extends, IsBgpRow, IsJoin, IsLeftJoin, IsMatch}
use Rattle.bye_table.proofs.Merging.{binds, bound, merge_left, merge_right}
use Rattle.bye_laws.proofs.Telling.{merge_tells}

-- the two have the same rows
abbrev pub Same : (Mapping → Type 0) → (Mapping → Type 0) → Type 0
Same A B = (m : Mapping) → A m ↔ B m

pub same_self : (A : Mapping → Type 0) → Same A A
same_self A m = ((λ h. h), (λ h. h))

pub same_turned : (A B : Mapping → Type 0) → Same A B → Same B A
same_turned A B s m = ((s m).1, (s m).0)

pub same_then : (A B C : Mapping → Type 0) → Same A B → Same B C → Same A C
same_then A B C s t m = ((λ h. (t m).0 ((s m).0 h)), (λ h. (s m).1 ((t m).1 h)))

-- joins of the same
join_to : (A B C D : Mapping → Type 0) → ((m : Mapping) → A m → C m) → ((m : Mapping) → B m → D m) → (m : Mapping) → IsJoin A B m → IsJoin C D m
join_to A B C D f h m (a, b, x, y, same, e) = (a, b, f a x, h b y, same, e)

pub join_same : (A B C D : Mapping → Type 0) → Same A C → Same B D → Same (IsJoin A B) (IsJoin C D)
join_same A B C D s t m = (join_to A B C D (λ n. (s n).0) (λ n. (t n).0) m, join_to C D A B (λ n. (s n).1) (λ n. (t n).1) m)

extends_to : (B D : Mapping → Type 0) (es ds : List Expr) → ((m : Mapping) → B m → D m) → ((m : Mapping) → AllHoldExpr es m → AllHoldExpr ds m) → (a m : Mapping) → Extends B es a m → Extends D ds a m
extends_to B D es ds f h a m (b, y, same, hold, e) = (b, f b y, same, h (merge a b) hold, e)

left_to : (A B C D : Mapping → Type 0) (es ds : List Expr) → Same A C → Same B D → Same (AllHoldExpr es) (AllHoldExpr ds) → (m : Mapping) → IsLeftJoin A B es m → IsLeftJoin C D ds m
left_to A B C D es ds s t u m (a, x, inl ext) = (a, (s a).0 x, inl (extends_to B D es ds (λ n. (t n).0) (λ n. (u n).0) a m ext))
left_to A B C D es ds s t u m (a, x, inr (e, none)) = (a, (s a).0 x, inr (e, λ n ext. none n (extends_to D B ds es (λ n. (t n).1) (λ n. (u n).1) a n ext)))

pub left_same : (A B C D : Mapping → Type 0) (es ds : List Expr) → Same A C → Same B D → Same (AllHoldExpr es) (AllHoldExpr ds) → Same (IsLeftJoin A B es) (IsLeftJoin C D ds)
left_same A B C D es ds s t u m =
    (left_to A B C D es ds s t u m, left_to C D A B ds es (same_turned A C s) (same_turned B D t) (same_turned (AllHoldExpr es) (AllHoldExpr ds) u) m)

-- compatible with a merge, and with its parts
first_part : (a b c : Mapping) → Compatible (merge a b) c → Compatible a c
first_part a b c same v s t h k = same v s t (merge_left a b v s h) k

second_part : (a b c : Mapping) → Compatible a b → Compatible (merge a b) c → Compatible b c
second_part a b c agree same v s t h k = same v s t (merge_right a b v s agree h) k

pub from_parts : (a b c : Mapping) → Compatible a c → Compatible b c → Compatible (merge a b) c
from_parts a b c x y v s t h k = ⊎_elim (λ h. x v s t h k) (λ h. y v s t h k) (merge_tells a b v s h)

pub turned : (a b : Mapping) → Compatible a b → Compatible b a
turned a b same v s t h k = sym (same v t s k h)

-- merges in another order
first_assoc : (o p q : Option Term) → first_of (first_of o p) q ≡ first_of o (first_of p q)
first_assoc None p q = refl
first_assoc (Some s) p q = refl

first_swaps : (p q : Option Term) → ((s t : Term) → p ≡ Some s → q ≡ Some t → s ≡ t) → first_of p q ≡ first_of q p
first_swaps None None same = refl
first_swaps None (Some t) same = refl
first_swaps (Some s) None same = refl
first_swaps (Some s) (Some t) same = ap Some (same s t refl refl)

swaps : (o p q : Option Term) → ((s t : Term) → p ≡ Some s → q ≡ Some t → s ≡ t) → first_of (first_of o p) q ≡ first_of (first_of o q) p
swaps None p q same = first_swaps p q same
swaps (Some s) p q same = refl

merge_assoc : (a b c : Mapping) → merge (merge a b) c ≡ merge a (merge b c)
merge_assoc a b c = λ i v. first_assoc (a v) (b v) (c v) i

pub merge_swaps : (a b c : Mapping) → Compatible b c → merge (merge a b) c ≡ merge (merge a c) b
merge_swaps a b c same = λ i v. swaps (a v) (b v) (c v) (λ s t. same v s t) i

-- joins in another order
assoc_to : (A B C : Mapping → Type 0) (m : Mapping) → IsJoin (IsJoin A B) C m → IsJoin A (IsJoin B C) m
assoc_to A B C m (y, c, (a, b, x, z, near, d), w, same, e) =
    let far : Compatible (merge a b) c = subst (λ y. Compatible y c) d same in
    let b_c = second_part a b c near far in (
      a,
      merge b c,
      x,
      (b, c, z, w, b_c, refl),
      turned (merge b c) a (from_parts b c a (turned a b near) (turned a c (first_part a b c far))),
      e ∙ ap (λ y. merge y c) d ∙ merge_assoc a b c,
    )

assoc_from : (A B C : Mapping → Type 0) (m : Mapping) → IsJoin A (IsJoin B C) m → IsJoin (IsJoin A B) C m
assoc_from A B C m (a, y, x, (b, c, z, w, near, d), same, e) =
    let far : Compatible (merge b c) a = turned a (merge b c) (subst (λ y. Compatible a y) d same) in
    let a_b = turned b a (first_part b c a far) in
    let a_c = turned c a (second_part b c a near far) in (
      merge a b,
      c,
      (a, b, x, z, a_b, refl),
      w,
      from_parts a b c a_c near,
      e ∙ ap (λ y. merge a y) d ∙ sym (merge_assoc a b c),
    )

pub join_assoc : (A B C : Mapping → Type 0) → Same (IsJoin (IsJoin A B) C) (IsJoin A (IsJoin B C))
join_assoc A B C m = (assoc_to A B C m, assoc_from A B C m)

-- joined with the empty mapping alone
first_none : (o : Option Term) → first_of o None ≡ o
first_none None = refl
first_none (Some t) = refl

none_first : (b : Mapping) → merge nothing b ≡ b
none_first b = refl

none_last : (a : Mapping) → merge a nothing ≡ a
none_last a = λ i v. first_none (a v) i

nothing_agrees : (b : Mapping) → Compatible nothing b
nothing_agrees b v s t h k = cc

pub nothing_joined : (B : Mapping → Type 0) → Same (IsJoin (λ m. m ≡ nothing) B) B
nothing_joined B m = (
  (λ (a, b, d, y, same, e). subst B (sym (e ∙ ap (λ a. merge a b) d)) y),
  (λ h. (nothing, m, refl, h, nothing_agrees m, refl)),
)

pub joined_nothing : (A : Mapping → Type 0) → Same (IsJoin A (λ m. m ≡ nothing)) A
joined_nothing A m = (
  (λ (a, b, x, d, same, e). subst A (sym (e ∙ ap (λ b. merge a b) d ∙ none_last a)) x),
  (λ h. (m, nothing, h, refl, turned nothing m (nothing_agrees m), sym (none_last m))),
)

-- the rows of two basic graph patterns, joined
pub blocks_joined : (g : List Statement) (ps qs : List Pattern) → Same (IsBgpRow g (ps ++ qs)) (IsJoin (IsBgpRow g ps) (IsBgpRow g qs))
blocks_joined g [] qs = same_turned (IsJoin (IsBgpRow g []) (IsBgpRow g qs)) (IsBgpRow g qs) (nothing_joined (IsBgpRow g qs))
blocks_joined g (p ∷ ps) qs =
    same_then (IsBgpRow g (p ∷ ps ++ qs)) (IsJoin (IsMatch g p) (IsJoin (IsBgpRow g ps) (IsBgpRow g qs))) (IsJoin (IsBgpRow g (p ∷ ps)) (IsBgpRow g qs))
    (join_same (IsMatch g p) (IsBgpRow g (ps ++ qs)) (IsMatch g p) (IsJoin (IsBgpRow g ps) (IsBgpRow g qs)) (same_self (IsMatch g p)) (blocks_joined g ps qs))
    (same_turned (IsJoin (IsJoin (IsMatch g p) (IsBgpRow g ps)) (IsBgpRow g qs)) (IsJoin (IsMatch g p) (IsJoin (IsBgpRow g ps) (IsBgpRow g qs)))
    (join_assoc (IsMatch g p) (IsBgpRow g ps) (IsBgpRow g qs)))

-- What two rows of B and C bind both, each row of A binds; and whether the expressions hold on a row of A with one of B is not changed
-- by a row of C.
pub record Apart (A B C : Mapping → Type 0) (es : List Expr) : Type 0 where
  pub shared : (a b c : Mapping) (v : Name) → A a → B b → C c → Binds b v → Binds c v → Binds a v
  pub holds : (a b c : Mapping) → A a → B b → C c → Compatible a b → Compatible a c → Compatible b c → AllHoldExpr es (merge a b) ↔ AllHoldExpr es (merge (merge a c) b)

-- a Join after the LeftJoin, and one before it
join_first : (A B C : Mapping → Type 0) (es : List Expr) → Apart A B C es → (m : Mapping) → IsJoin (IsLeftJoin A B es) C m → IsLeftJoin (IsJoin A C) B es m
join_first A B C es apart m (y, c, (a, x, inl (b, z, near, hold, d)), w, same, e) =
    let far : Compatible (merge a b) c = subst (λ y. Compatible y c) d same in
    let a_c = first_part a b c far in
    let b_c = second_part a b c near far in (
      merge a c,
      (a, c, x, w, a_c, refl),
      inl (
        b,
        z,
        from_parts a c b near (turned b c b_c),
        (apart.holds a b c x z w near a_c b_c).0 hold,
        e ∙ ap (λ y. merge y c) d ∙ merge_swaps a b c b_c,
      ),
    )
join_first A B C es apart m (y, c, (a, x, inr (d, none)), w, same, e) =
    let a_c : Compatible a c = subst (λ y. Compatible y c) d same in (
      merge a c,
      (a, c, x, w, a_c, refl),
      inr (
        e ∙ ap (λ y. merge y c) d,
        λ n (b, z, far, hold, f).
            let near = first_part a c b far in
            none (merge a b) (b, z, near, (apart.holds a b c x z w near a_c (turned c b (second_part a c b a_c far))).1 hold, refl),
      ),
    )

join_last : (A B C : Mapping → Type 0) (es : List Expr) → Apart A B C es → (m : Mapping) → IsLeftJoin (IsJoin A C) B es m → IsJoin (IsLeftJoin A B es) C m
join_last A B C es apart m (y, (a, c, x, w, a_c, d), inl (b, z, same, hold, e)) =
    let far : Compatible (merge a c) b = subst (λ y. Compatible y b) d same in
    let near = first_part a c b far in
    let b_c = turned c b (second_part a c b a_c far) in (
      merge a b,
      c,
      (a, x, inl (b, z, near, (apart.holds a b c x z w near a_c b_c).1 (subst (λ y. AllHoldExpr es (merge y b)) d hold), refl)),
      w,
      from_parts a b c a_c b_c,
      e ∙ ap (λ y. merge y b) d ∙ sym (merge_swaps a b c b_c),
    )
join_last A B C es apart m (y, (a, c, x, w, a_c, d), inr (e, none)) = (
  a,
  c,
  (
    a,
    x,
    inr (
      refl,
      λ n (b, z, near, hold, f).
          let b_c : Compatible b c = λ v s t h k.
          let u = bound (a v) (apart.shared a b c v x z w (binds (b v) s h) (binds (c v) t k)) in
          sym (near v u.0 s u.1 h) ∙ a_c v u.0 t u.1 k in
          none (merge (merge a c) b) (
            b,
            z,
            subst (λ y. Compatible y b) (sym d) (from_parts a c b near (turned b c b_c)),
            subst (λ y. AllHoldExpr es (merge y b)) (sym d) ((apart.holds a b c x z w near a_c b_c).0 hold),
            ap (λ y. merge y b) (sym d),
          ),
    ),
  ),
  w,
  a_c,
  e ∙ d,
)

pub join_moves : (A B C : Mapping → Type 0) (es : List Expr) → Apart A B C es → Same (IsJoin (IsLeftJoin A B es) C) (IsLeftJoin (IsJoin A C) B es)
join_moves A B C es apart m = (join_first A B C es apart m, join_last A B C es apart m)
