-- A row of a basic graph pattern is a mapping of exactly its variables under which each triple pattern is a triple of the graph.
use Rattle.std.proofs.Common.{◌≡◌, refl, List, [], ◌∷◌, ◌++◌, Some, inl, inr, ⊎_elim, sym, ◌∙◌, subst}
use Rattle.std.specs.List.{AllByRecursion}
use Rattle.bye_terms.specs.declared.term.Term.{Term}
use Rattle.bye_terms.specs.Terms.{Statement}
use Rattle.bye_terms.specs.Members.{In}
use Rattle.bye_terms.proofs.Members.{in_cases, in_left, in_right}
use Rattle.bye_pattern.specs.declared.slot.Slot.{Slot}
use Rattle.bye_pattern.specs.declared.slot.Slot.TheVariants.{Var, Const}
use Rattle.bye_table.specs.Mappings.{Name, Mapping, Binds, Exactly, merge, Compatible, restrict}
use Rattle.bye_pattern.specs.Patterns.{Pattern, slot_under, slot_vars, vars, all_vars, Becomes, Meets}
use Rattle.bye_pattern.specs.Algebra.{IsMatch, IsBgpRow}
use Rattle.bye_table.proofs.Merging.{bound, binds, unbound, some_or_none, not_bound, nothing_bound, restrict_tells, restrict_binds, restrictions_agree, merge_left, merge_right, merge_bound}

-- what one mapping tells of these variables, the other tells too
abbrev pub Tells : Mapping → Mapping → List Name → Type 0
Tells m n vs = (v : Name) (t : Term) → In vs v → m v ≡ Some t → n v ≡ Some t

-- a variable of a pattern stands in one of its places
pub var_cases : {P : Type 0} (p : Pattern) (v : Name) → In (vars p) v → (In (slot_vars p.s) v → P) → (In (slot_vars p.p) v → P) → (In (slot_vars p.o) v → P) → P
var_cases p v h a b c = ⊎_elim (λ h. ⊎_elim a b (in_cases (slot_vars p.s) _ v h)) c (in_cases (slot_vars p.s ++ slot_vars p.p) _ v h)

slot_told : (m n : Mapping) (s : Slot) (t : Term) → Tells m n (slot_vars s) → slot_under m s ≡ Some t → slot_under n s ≡ Some t
slot_told m n (Var v) t tells e = tells v t (inl refl) e
slot_told m n (Const c) t tells e = e

becomes_told : (m n : Mapping) (p : Pattern) (f : Statement) → Tells m n (vars p) → Becomes m p f → Becomes n p f
becomes_told m n p f tells b = record {
  s = slot_told m n p.s f.s (λ v t h. tells v t (in_left _ _ v (in_left _ _ v h))) b.s;
  p = slot_told m n p.p f.p (λ v t h. tells v t (in_left _ _ v (in_right (slot_vars p.s) _ v h))) b.p;
  o = slot_told m n p.o f.o (λ v t h. tells v t (in_right (slot_vars p.s ++ slot_vars p.p) _ v h)) b.o;
}

slot_binds : (m : Mapping) (s : Slot) (t : Term) (v : Name) → slot_under m s ≡ Some t → In (slot_vars s) v → Binds m v
slot_binds m (Var w) t v e (inl same) = subst (λ w. Binds m w) same (binds (m w) t e)
slot_binds m (Var w) t v e (inr h) = absurd h
slot_binds m (Const c) t v e h = absurd h

-- a mapping under which a pattern is a triple binds its variables
pub becomes_binds : (m : Mapping) (p : Pattern) (f : Statement) (v : Name) → Becomes m p f → In (vars p) v → Binds m v
becomes_binds m p f v b h = var_cases p v h (slot_binds m p.s f.s v b.s) (slot_binds m p.p f.p v b.p) (slot_binds m p.o f.o v b.o)

pub meets_binds : (g : List Statement) (m : Mapping) (p : Pattern) (v : Name) → Meets g m p → In (vars p) v → Binds m v
meets_binds g m p v (f, inside, is) h = becomes_binds m p f v is h

pub all_told : (g : List Statement) (m n : Mapping) (ps : List Pattern) → Tells m n (all_vars ps) → AllByRecursion (Meets g m) ps → AllByRecursion (Meets g n) ps
all_told g m n [] tells all = tt
all_told g m n (p ∷ ps) tells ((f, inside, b), all) = (
  (f, inside, becomes_told m n p f (λ v t h. tells v t (in_left _ _ v h)) b),
  all_told g m n ps (λ v t h. tells v t (in_right (vars p) _ v h)) all,
)

-- a match of the first pattern and a row of the others, merged
merged : (g : List Statement) (p : Pattern) (ps : List Pattern) (a b : Mapping) → IsMatch g p a → Exactly (all_vars ps) b → AllByRecursion (Meets g b) ps
    → Compatible a b → Exactly (all_vars (p ∷ ps)) (merge a b) × AllByRecursion (Meets g (merge a b)) (p ∷ ps)
merged g p ps a b (f, inside, becomes, within) exactly all same = (
  (λ v. (
    λ h. ⊎_elim (λ h. in_left _ _ v (within v h)) (λ h. in_right (vars p) _ v ((exactly v).0 h)) (merge_bound a b v h),
    λ h. ⊎_elim
        (λ h. let w = bound (a v) (becomes_binds a p f v becomes h) in binds _ w.0 (merge_left a b v w.0 w.1))
        (λ h. let w = bound (b v) ((exactly v).1 h) in binds _ w.0 (merge_right a b v w.0 same w.1))
        (in_cases (vars p) _ v h),
  )),
  (
    (f, inside, becomes_told a (merge a b) p f (λ v t h e. merge_left a b v t e) becomes),
    all_told g b (merge a b) ps (λ v t h e. merge_right a b v t same e) all,
  ),
)

pub row_meets : (g : List Statement) (ps : List Pattern) (m : Mapping) → IsBgpRow g ps m → Exactly (all_vars ps) m × AllByRecursion (Meets g m) ps
row_meets g [] m e = ((λ v. (λ h. let k = subst (λ m. Binds m v) e h in cc, λ h. absurd h)), tt)
row_meets g (p ∷ ps) m (a, b, match, row, same, e) =
    let below = row_meets g ps b row in
    subst (λ m. Exactly (all_vars (p ∷ ps)) m × AllByRecursion (Meets g m) (p ∷ ps)) (sym e) (merged g p ps a b match below.0 below.1 same)

-- a mapping of xs and ys is the merge of its parts
parts_merge : (xs ys : List Name) (m : Mapping) → Exactly (xs ++ ys) m → (v : Name) → m v ≡ merge (restrict xs m) (restrict ys m) v
parts_merge xs ys m exactly v =
    ⊎_elim
    (λ h. let w = bound (m v) h in
    ⊎_elim
    (λ x. w.1 ∙ sym (merge_left (restrict xs m) (restrict ys m) v w.0 (restrict_tells xs m v w.0 x w.1)))
    (λ y. w.1 ∙ sym (merge_right (restrict xs m) (restrict ys m) v w.0 (restrictions_agree xs ys m) (restrict_tells ys m v w.0 y w.1)))
    (in_cases xs ys v ((exactly v).0 h)))
    (λ e. e ∙ sym (unbound (merge (restrict xs m) (restrict ys m) v) (λ h. not_bound (m v) e
    (⊎_elim (λ h. (restrict_binds xs m v h).1) (λ h. (restrict_binds ys m v h).1) (merge_bound (restrict xs m) (restrict ys m) v h)))))
    (some_or_none (m v))

pub meets_row : (g : List Statement) (ps : List Pattern) (m : Mapping) → Exactly (all_vars ps) m → AllByRecursion (Meets g m) ps → IsBgpRow g ps m
meets_row g [] m exactly all = nothing_bound m (λ v h. (exactly v).0 h)
meets_row g (p ∷ ps) m exactly ((f, inside, b), all) =
    let a = restrict (vars p) m in
    let r = restrict (all_vars ps) m in (
      a,
      r,
      (f, inside, becomes_told m a p f (λ v t h e. restrict_tells (vars p) m v t h e) b, λ v h. (restrict_binds (vars p) m v h).0),
      meets_row g ps r
          (λ v. (λ h. (restrict_binds (all_vars ps) m v h).0, λ h. let w = bound (m v) ((exactly v).1 (in_right (vars p) _ v h)) in binds _ w.0 (restrict_tells (all_vars ps) m v w.0 h w.1)))
          (all_told g m r ps (λ v t h e. restrict_tells (all_vars ps) m v t h e) all),
      restrictions_agree (vars p) (all_vars ps) m,
      λ i v. parts_merge (vars p) (all_vars ps) m exactly v i,
    )
