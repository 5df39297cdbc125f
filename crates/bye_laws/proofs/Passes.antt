-- One pass over a tree in the order of trial: what it keeps is one tree, right and minimal.
use Rattle.std.proofs.Common.{◌≡◌, refl, List, [], ◌∷◌, ◌⊎◌, inl, inr, ⊎_elim, sym, subst}
use Rattle.bye_terms.specs.Members.{In}
use Rattle.bye_pattern.specs.declared.cond.Cond.{Cond}
use Rattle.bye_pattern.specs.Conjuncts.{Drops, DropsIn, Less}
use Rattle.bye_pattern.specs.Keeping.{IsThinned, IsThinnedForest, IsThinnedTree}
use Rattle.bye_pattern.specs.Patterns.{Pattern}
use Rattle.bye_pattern.specs.Trees.{Forest, Tree, leaf, more, node}
use Rattle.bye_laws.specs.Parts.{Within, WithinForest, WithinTree}

-- b is the third list without one element, and a is b with later ones left out
abbrev pub Tried : {X : Type 0} → List X → List X → List X → Type 0
Tried a b [] = ⊥
Tried {X} a b (x ∷ xs) = ((b ≡ xs) × Within a xs) ⊎ ((c : List X) × (d : List X) × Tried c d xs × (a ≡ x ∷ c) × (b ≡ x ∷ d))

-- the same for trees in trial order
abbrev mutual
  pub TriedTree : Tree → Tree → Tree → Type 0
  TriedTree a b (node ps cs f) =
      ((qa : List Pattern) × (qb : List Pattern) × Tried qa qb ps × (a ≡ node qa cs f) × (b ≡ node qb cs f))
      ⊎ (((qa : List Pattern) × (da : List Cond) × (db : List Cond) × Within qa ps × Tried da db cs × (a ≡ node qa da f) × (b ≡ node ps db f))
      ⊎ ((qa : List Pattern) × (da : List Cond) × (ea : Forest) × (eb : Forest) × Within qa ps × Within da cs × TriedForest ea eb f × (a ≡ node qa da ea) × (b ≡ node ps cs eb)))

  pub TriedForest : Forest → Forest → Forest → Type 0
  TriedForest a b leaf = ⊥
  TriedForest a b (more t f) =
      ((ta : Tree) × (tb : Tree) × (ea : Forest) × TriedTree ta tb t × WithinForest ea f × (a ≡ more ta ea) × (b ≡ more tb f))
      ⊎ ((ea : Forest) × (eb : Forest) × TriedForest ea eb f × (a ≡ more t ea) × (b ≡ more t eb))

-- where the tree is right with a conjunct, and right without it and without some later ones, it is right without it alone
abbrev pub Lifts : (Tree → Type 0) → Type 0
Lifts Right = (a b c : Tree) → TriedTree a b c → Right c → Right a → Right b

-- equal lists
within_same : {X : Type 0} (xs ys : List X) → xs ≡ ys → Within xs ys
within_same {X} xs ys e = λ x h. subst (λ zs. In zs x) e h

-- with one more element
pub within_more : {X : Type 0} (x : X) (xs ys : List X) → Within xs ys → Within (x ∷ xs) (x ∷ ys)
within_more x xs ys w = λ y h. ⊎_elim (λ e. inl e) (λ k. inr (w y k)) h

-- a tree is part of itself
mutual
  pub tree_within : (t : Tree) → WithinTree t t
  tree_within (node ps cs f) = (λ x h. h, λ x h. h, forest_within f)

  pub forest_within : (f : Forest) → WithinForest f f
  forest_within leaf = tt
  forest_within (more t f) = (tree_within t, forest_within f)

-- one element dropped is tried
less_tried : {X : Type 0} (xs ys : List X) → Less xs ys → Tried ys ys xs
less_tried [] ys h = absurd h
less_tried (x ∷ xs) ys (inl e) = inl (e, within_same ys xs e)
less_tried (x ∷ xs) ys (inr (zs, h, e)) = inr (zs, zs, less_tried xs zs h, e, e)

-- one conjunct dropped is tried
mutual
  drops_tried : (t u : Tree) → Drops t u → TriedTree u u t
  drops_tried (node ps cs f) u (inl (qs, h, e)) = inl (qs, qs, less_tried ps qs h, e, e)
  drops_tried (node ps cs f) u (inr (inl (ds, h, e))) = inr (inl (ps, ds, ds, λ x k. k, less_tried cs ds h, e, e))
  drops_tried (node ps cs f) u (inr (inr (h, k, e))) = inr (inr (ps, cs, h, h, λ x k. k, λ x k. k, drops_in_tried f h k, e, e))

  drops_in_tried : (f e : Forest) → DropsIn f e → TriedForest e e f
  drops_in_tried leaf e h = absurd h
  drops_in_tried (more t f) e (inl (u, h, same)) = inl (u, u, f, drops_tried t u h, forest_within f, same, same)
  drops_in_tried (more t f) e (inr (k, h, same)) = inr (k, k, drops_in_tried f k h, same, same)

record Done {X : Type 0} (Right : List X → Type 0) (xs r : List X) : Type 0 where
  right : Right r
  within : Within r xs
  minimal : (ys : List X) → Less r ys → Right ys → ⊥

-- what was done of an equal list
done_same : {X : Type 0} (Right : List X → Type 0) (xs r s : List X) → r ≡ s → Done Right xs s → Done Right xs r
done_same Right xs r s e d = subst (λ r. Done Right xs r) (sym e) d

-- one pass over a list
thin : {X : Type 0} (Right : List X → Type 0) (xs r : List X) → ((a b c : List X) → Tried a b c → Right c → Right a → Right b) → Right xs → IsThinned Right xs r → Done Right xs r
thin Right [] r up right e = done_same Right [] r [] e (record { right = right; within = λ x h. h; minimal = λ ys h k. absurd h })
thin Right (x ∷ xs) r up right (inl (rest, pass)) =
    let d = thin Right xs r up rest pass in
    record { right = d.right; within = λ y h. inr (d.within y h); minimal = d.minimal }
thin {X} Right (x ∷ xs) r up right (inr (never, (ys, pass, e))) =
    let d = thin (λ zs. Right (x ∷ zs)) xs ys (λ a b c tried. up (x ∷ a) (x ∷ b) (x ∷ c) (inr (a, b, tried, refl, refl))) right pass in
    done_same Right (x ∷ xs) r (x ∷ ys) e (record {
      right = d.right;
      within = within_more x ys xs d.within;
      minimal = λ zs h good. ⊎_elim (λ same. never (up ys xs (x ∷ xs) (inl (refl, d.within)) right (subst Right same good)))
          (λ k. d.minimal k.0 k.1 (subst Right k.2 good)) h;
    })

-- what one pass over a tree leaves
pub record DoneTree (Right : Tree → Type 0) (t r : Tree) : Type 0 where
  pub right : Right r
  pub within : WithinTree r t
  pub minimal : (u : Tree) → Drops r u → Right u → ⊥

-- and over trees beside one another
record DoneForest (Right : Forest → Type 0) (f r : Forest) : Type 0 where
  right : Right r
  within : WithinForest r f
  minimal : (e : Forest) → DropsIn r e → Right e → ⊥

-- one pass over a tree
mutual
  pub thin_tree : (Right : Tree → Type 0) (t r : Tree) → ((a b c : Tree) → TriedTree a b c → Right c → Right a → Right b) → Right t → IsThinnedTree Right t r → DoneTree Right t r
  thin_tree Right (node ps cs f) r up right (e, ds, qs, below, conds, triples, same) =
      let x = thin_forest (λ e. Right (node ps cs e)) f e
      (λ a b c tried. up (node ps cs a) (node ps cs b) (node ps cs c) (inr (inr (ps, cs, a, b, λ x h. h, λ x h. h, tried, refl, refl)))) right below in
      let y = thin (λ ds. Right (node ps ds e)) cs ds
      (λ a b c tried. up (node ps a e) (node ps b e) (node ps c e) (inr (inl (ps, a, b, λ x h. h, tried, refl, refl)))) x.right conds in
      let z = thin (λ qs. Right (node qs ds e)) ps qs
      (λ a b c tried. up (node a ds e) (node b ds e) (node c ds e) (inl (a, b, tried, refl, refl))) y.right triples in
      subst (λ r. DoneTree Right (node ps cs f) r) (sym same) (record {
        right = z.right;
        within = (z.within, y.within, x.within);
        minimal = λ u h good. ⊎_elim (λ k. z.minimal k.0 k.1 (subst Right k.2 good))
            (λ h. ⊎_elim
            (λ k. y.minimal k.0 k.1 (up (node qs k.0 e) (node ps k.0 e) (node ps ds e)
            (inr (inl (qs, k.0, k.0, z.within, less_tried ds k.0 k.1, refl, refl))) y.right (subst Right k.2 good)))
            (λ k. x.minimal k.0 k.1 (up (node qs ds k.0) (node ps cs k.0) (node ps cs e)
            (inr (inr (qs, ds, k.0, k.0, z.within, y.within, drops_in_tried e k.0 k.1, refl, refl))) x.right (subst Right k.2 good))) h) h;
      })

  thin_forest : (Right : Forest → Type 0) (f r : Forest) → ((a b c : Forest) → TriedForest a b c → Right c → Right a → Right b) → Right f → IsThinnedForest Right f r → DoneForest Right f r
  thin_forest Right leaf r up right e = subst (λ r. DoneForest Right leaf r) (sym e) (record { right = right; within = tt; minimal = λ e h k. absurd h })
  thin_forest Right (more t f) r up right (u, e, first, rest, same) =
      let x = thin_tree (λ u. Right (more u f)) t u
      (λ a b c tried. up (more a f) (more b f) (more c f) (inl (a, b, f, tried, forest_within f, refl, refl))) right first in
      let y = thin_forest (λ e. Right (more u e)) f e
      (λ a b c tried. up (more u a) (more u b) (more u c) (inr (a, b, tried, refl, refl))) x.right rest in
      subst (λ r. DoneForest Right (more t f) r) (sym same) (record {
        right = y.right;
        within = (x.within, y.within);
        minimal = λ h k good. ⊎_elim
            (λ k. x.minimal k.0 k.1 (up (more k.0 e) (more k.0 f) (more u f) (inl (k.0, k.0, e, drops_tried u k.0 k.1, y.within, refl, refl)) x.right (subst Right k.2 good)))
            (λ k. y.minimal k.0 k.1 (subst Right k.2 good)) k;
      })
