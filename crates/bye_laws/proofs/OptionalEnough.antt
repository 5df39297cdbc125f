-- The class with OPTIONAL groups: where no claim shows, the start fits.
use Rattle.bye_pattern.specs.declared.level.Level.{Level}
use Rattle.std.proofs.Common.{◌≡◌, refl, ℕ, List, [], ◌∷◌, Option, Some, None, ◌⊎◌, inl, inr, ⊎_elim, sym, ◌∙◌, ap, subst, IsSome}
use Rattle.bye_terms.specs.declared.term.Term.{Term}
use Rattle.bye_terms.specs.Members.{In}
use Rattle.bye_terms.specs.Terms.{Statement}
use Rattle.bye_terms.proofs.Members.{all_from, all_in, in_cases}
use Rattle.bye_pattern.specs.declared.class.Class.TheVariants.{Optional}
use Rattle.bye_pattern.specs.Certificates.{ShowsExtension, ShowsUncovered}
use Rattle.bye_pattern.specs.Conjuncts.{MeetsCond}
use Rattle.bye_table.specs.Domains.{IsRowAt, IsSeen, IsWithin}
use Rattle.bye_pattern.specs.Keeping.{IsRight}
use Rattle.bye_table.specs.Mappings.{Binds, Mapping, Name, first_of, merge}
use Rattle.bye_pattern.specs.Patterns.{Meets, all_vars, vars}
use Rattle.bye_table.specs.DomainTrees.{Domain, IsLabelIn, Subdomains, also, domain, label, none}
use Rattle.bye_pattern.specs.Trees.{Forest, Tree, leaf, more, node, plain_select}
use Rattle.bye_table.proofs.Merging.{bound, merge_bound, merge_left}
use Rattle.bye_pattern.proofs.OneGroup.{in_all_vars}
use Rattle.bye_pattern.proofs.Solutions.{all_told}
use Rattle.bye_laws.specs.LocalPass.{ByDomain, ByDomains}
use Rattle.bye_laws.specs.Reaching.{MeetsNode}
use Rattle.bye_laws.proofs.CommonConditions.{in_form}
use Rattle.bye_laws.proofs.DomainLabels.{label_self}
use Rattle.bye_laws.proofs.Examples.{in_at}
use Rattle.bye_laws.specs.QueryDomains.{AreDomains}
use Rattle.bye_laws.proofs.Labelled.{AllCommon, AllCommonIn}
use Rattle.bye_laws.specs.QueryDomains.{Selects}
use Rattle.bye_laws.proofs.OptionalKept.{from_labels}
use Rattle.bye_laws.proofs.StartTrees.{Start, StartIn, own_from, root_start, start_down, start_first, start_is_over, start_rest, strictly}
use Rattle.bye_laws.proofs.Telling.{all_meets_bind, met_told}
use Rattle.bye_laws.proofs.Withins.{alike_or_not, seen_up, within_or_not, within_row}

abbrev pick : {P : Type 0} → P ⊎ (P → ⊥) → Option Term → Option Term
pick (inl p) o = o
pick (inr n) o = None

-- the values for the class of y
abbrev part : List Mapping → Name → Mapping → Mapping
part rows y e v = pick (alike_or_not rows y v) (e v)

-- what is picked where it may be
pick_yes : {P : Type 0} (d : P ⊎ (P → ⊥)) (o : Option Term) → P → pick d o ≡ o
pick_yes (inl p) o h = refl
pick_yes (inr n) o h = absurd (n h)

-- and what that tells
pick_some : {P : Type 0} (d : P ⊎ (P → ⊥)) (o : Option Term) → IsSome (pick d o) → P
pick_some (inl p) o h = p
pick_some (inr n) o h = cc

-- values at a node of the start are an extension
values_extend : (level : Level) → (g : List Statement) (header : List Name) (rows : List Mapping) → ((v : Name) → IsSeen rows v → In header v) → ((x : Name) → ShowsUncovered g rows x → ⊥) → (m : Mapping) → In rows m → (parent : List Name) (z : Name) (d : Domain) (t : Tree)
    → Start rows parent d → AllCommon level g header rows d t → ((v : Name) → In parent v → Binds m v) → IsSeen rows z → IsWithin rows (label d) z → (IsWithin rows z (label d) → ⊥) → (Binds m (label d) → ⊥)
    → (e : Mapping) → MeetsNode g (merge m e) t → (i : ℕ) → IsRowAt rows i m → ShowsExtension level g rows i (label d) (part rows (label d) e)
values_extend level g header rows heads covered m row parent z (domain y ds) (node ps cs f) s ((same, conds), below) up z_seen z_up z_shut lacks e met i at =
    let seen = s.known y (inl refl) in
    let greater : (v : Name) → IsSeen rows v → IsWithin rows y v → (IsWithin rows v y → ⊥) → Binds m v = λ v k h shut. up v (strictly rows parent (domain y ds) s v k h shut) in
    let small = part rows y e in
    let told : (v : Name) (k : Term) → IsWithin rows y v → merge m e v ≡ Some k → merge m small v ≡ Some k = λ v k h a.
    ⊎_elim
    (λ back. ap (λ o. first_of (m v) o) (pick_yes (alike_or_not rows y v) (e v) (h, back)) ∙ a)
    (λ shut. let w = bound (m v) (greater v (seen_up rows y v seen h) h shut) in merge_left m small v k (w.1 ∙ sym (merge_left m e v w.0 w.1) ∙ a))
    (within_or_not rows v y) in
    record {
      row = m;
      place = record {
        seen = seen;
        row_at = at;
        lacks = lacks;
        around = λ v k below. greater v k below.0 below.1;
        some_around = (z, z_seen, (z_up, z_shut));
      };
      binds = λ v. (
        λ b. pick_some (alike_or_not rows y v) (e v) b,
        λ h. let b = all_meets_bind g (merge m e) ps v met.0 (own_from g rows covered y ps same v (seen_up rows y v seen h.0) h.0) in
            subst (λ o. IsSome o) (sym (pick_yes (alike_or_not rows y v) (e v) h)) (⊎_elim (λ k. absurd (lacks (within_row rows m v y row h.1 k))) (λ k. k) (merge_bound m e v b)),
      );
      triples = λ p common. (all_told g (merge m e) (merge m small) (p ∷ [])
          (λ v k h a. told v k (common.over v (⊎_elim (λ i. i) (λ i. absurd i) (in_cases (vars p) [] v h))) a)
          (all_in (Meets g (merge m e)) ps p met.0 ((same p).1 common), tt)).0;
      conditions = λ c common.
          let k = in_form level header rows y (λ v up. heads v (seen_up rows y v seen up)) cs conds c common in
          met_told (merge m e) (merge m small) c (λ v t h a. told v t (common.over v h) a) (k.2 (merge m e) (all_in (MeetsCond (merge m e)) cs k.0 met.1 k.1));
    }

-- so each row says what it should of each node
mutual
  enough_at : (level : Level) → (g : List Statement) (header : List Name) (rows : List Mapping) → ((v : Name) → IsSeen rows v → In header v) → ((x : Name) → ShowsUncovered g rows x → ⊥) → ((i : ℕ) (x : Name) (e : Mapping) → ShowsExtension level g rows i x e → ⊥)
      → (m : Mapping) → In rows m → (parent : List Name) (d : Domain) (t : Tree) → Start rows parent d → AllCommon level g header rows d t → ByDomain g m d t
  enough_at level g header rows heads covered closed m row parent (domain x ds) (node ps cs f) s ((same, conds), below) = (
    λ b. (
      all_from (Meets g m) ps (λ p h. all_in (λ m. Binds m x → Meets g m p) rows m ((same p).0 h).holds row b),
      all_from (MeetsCond m) cs (λ c h. all_in (λ m. Binds m x → MeetsCond m c) rows m ((conds c).0 h).0.holds row b),
    ),
    enough_in level g header rows heads covered closed m row (all_vars ps) x (s.known x (inl refl)) ds s.order.0
        (λ b v h. let w = in_all_vars ps v h in within_row rows m x v row (((same w.0).0 w.1).over v w.2) b) ds f (λ y h. h) (start_down g rows parent x ds ps same (own_from g rows covered x ps same) s) below,
  )

  enough_in : (level : Level) → (g : List Statement) (header : List Name) (rows : List Mapping) → ((v : Name) → IsSeen rows v → In header v) → ((x : Name) → ShowsUncovered g rows x → ⊥) → ((i : ℕ) (x : Name) (e : Mapping) → ShowsExtension level g rows i x e → ⊥)
      → (m : Mapping) → In rows m → (parent : List Name) (z : Name) → IsSeen rows z → (all : Subdomains) → ((y : Name) → IsLabelIn all y → IsWithin rows y z × (IsWithin rows z y → ⊥)) → (Binds m z → (v : Name) → In parent v → Binds m v)
      → (ds : Subdomains) (f : Forest) → ((y : Name) → IsLabelIn ds y → IsLabelIn all y) → StartIn rows parent ds → AllCommonIn level g header rows ds f → ByDomains g m z ds f
  enough_in level g header rows heads covered closed m row parent z z_seen all smaller up none leaf sub s below = tt
  enough_in level g header rows heads covered closed m row parent z z_seen all smaller up none (more t f) sub s below = tt
  enough_in level g header rows heads covered closed m row parent z z_seen all smaller up (also d ds) leaf sub s below = tt
  enough_in level g header rows heads covered closed m row parent z z_seen all smaller up (also d ds) (more t f) sub s below =
      let one = start_first rows parent d ds s in
      let low = smaller (label d) (sub (label d) (inl (label_self d))) in (
        λ b lacks e over agree met.
            let at = in_at rows m row in
            closed at.0 (label d) (part rows (label d) e) (values_extend level g header rows heads covered m row parent z d t one below.0 (up b) z_seen low.0 low.1 lacks e met at.0 at.1),
        enough_at level g header rows heads covered closed m row parent d t one below.0,
        enough_in level g header rows heads covered closed m row parent z z_seen all smaller up ds f (λ y h. sub y (inr h)) (start_rest rows parent d ds s) below.1,
      )

-- where no claim shows, the start is right
pub start_tree_enough : (level : Level) → (g : List Statement) (rows : List Mapping) (header vs : List Name) (d : Domain) (t : Tree) → ((v : Name) → IsSeen rows v → In header v) → Selects rows vs → AreDomains rows d
    → AllCommon level g header rows d t → ((x : Name) → ShowsUncovered g rows x → ⊥) → ((i : ℕ) (x : Name) (e : Mapping) → ShowsExtension level g rows i x e → ⊥) → IsRight Optional level g rows [] (plain_select vs t)
start_tree_enough level g rows header vs d t heads selects tree start covered closed =
    from_labels level g rows vs d t selects tree (record {
      over = start_is_over level g header rows d t tree start covered;
      by = all_from (λ m. ByDomain g m d t) rows (λ m row. enough_at level g header rows heads covered closed m row [] d t (root_start rows d tree) start);
    })
