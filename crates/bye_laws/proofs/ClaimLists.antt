-- Claims by the lists of a node, and the values of an extension in the table's order.
use Rattle.std.proofs.Common.{◌≡◌, refl, ℕ, List, [], ◌∷◌, map, Option, Some, None, IsSome, ◌⊎◌, inl, inr, ⊎_elim, sym, subst, ◌↔◌}
use Rattle.std.specs.List.{AllByRecursion}
use Rattle.bye_terms.specs.declared.term.Term.{Term}
use Rattle.bye_terms.specs.Members.{In}
use Rattle.bye_terms.specs.Terms.{Statement}
use Rattle.bye_terms.proofs.Members.{all_from, all_in}
use Rattle.bye_table.specs.Domains.{IsBefore, IsRowAt, IsSeen, Wanted}
use Rattle.bye_table.specs.Mappings.{Binds, Exactly, Mapping, Name, merge, row_mapping}
use Rattle.bye_pattern.specs.declared.cond.Cond.{Cond}
use Rattle.bye_pattern.specs.declared.cond.Cond.TheVariants as conds
use Rattle.bye_pattern.specs.declared.level.Level.{Level}
use Rattle.bye_pattern.specs.Certificates.{BindsClass, IsOpenAt, ShowsAdmitted, ShowsExtension, ShowsUncovered}
use Rattle.bye_pattern.specs.Common.{IsCommonCond}
use Rattle.bye_pattern.specs.Conjuncts.{MeetsCond}
use Rattle.bye_pattern.specs.Patterns.{Meets, Pattern, all_vars}
use Rattle.bye_pattern.specs.Starting.{IsInForm, IsStartNode}
use Rattle.bye_pattern.specs.Trees.{leaf, node}
use Rattle.bye_pattern.proofs.OneGroup.{all_vars_in, in_all_vars}
use Rattle.bye_pattern.specs.FirstClaims.{listing, with_value}
use Rattle.bye_laws.specs.Completeness.{AreExamples}
use Rattle.bye_laws.specs.Ordering.{IsSorted}
use Rattle.bye_laws.specs.Reaching.{MeetsNode}
use Rattle.bye_laws.specs.Strongest.{IsStrongestNode}
use Rattle.bye_laws.proofs.CommonConditions.{in_form, meets_sym}
use Rattle.bye_laws.proofs.Examples.{before_or, some_row}
use Rattle.bye_laws.proofs.Listings.{listed_whole}
use Rattle.bye_laws.proofs.Withins.{seen_up, within_self}

-- a variable is uncovered where the node's patterns lack it
pub uncovered_by_list : (level : Level) (g : List Statement) (w : Wanted) (x : Name) (ps : List Pattern) (cs : List Cond) → IsStartNode level g w x ps cs
    → ShowsUncovered g w.rows x ↔ (IsSeen w.rows x × (In (all_vars ps) x → ⊥))
uncovered_by_list level g w x ps cs n = (
  (λ claim. (claim.seen, λ h. let c = in_all_vars ps x h in claim.none c.0 ((n.triples c.0).0 c.1) c.2)),
  (λ (seen, out). record { seen = seen; none = λ p common k. out (all_vars_in ps p x ((n.triples p).1 common) k) }),
)

-- each common condition over a header has one in form that says the same
form_of : (level : Level) (header : List Name) (rows : List Mapping) (cs : List Cond) → ((c : Cond) → In cs c ↔ (IsCommonCond level header rows c × IsInForm header c)) → (c : Cond) → IsCommonCond level header rows c
    → (d : Cond) × In cs d × ((m : Mapping) → MeetsCond m d → MeetsCond m c)
form_of level header rows cs same (conds.Bound v) common = (conds.Bound v, (same (conds.Bound v)).1 (common, tt), λ m h. h)
form_of level header rows cs same (conds.SameConst v t) common = (conds.SameConst v t, (same (conds.SameConst v t)).1 (common, tt), λ m h. h)
form_of level header rows cs same (conds.KindOf kind v) common = (conds.KindOf kind v, (same (conds.KindOf kind v)).1 (common, tt), λ m h. h)
form_of level header rows cs same (conds.SameVar v w) common =
    ⊎_elim
    (λ b. (conds.SameVar v w, (same (conds.SameVar v w)).1 (common, b), λ m h. h))
    (λ b. (conds.SameVar w v, (same (conds.SameVar w v)).1 (turned, b), λ m h. meets_sym w v m h))
    (before_or header v w (common.over v (inl refl)) (common.over w (inr (inl refl))) common.in_class)
  where
    turned : IsCommonCond level header rows (conds.SameVar w v)
    turned = record {
      in_class = λ e. common.in_class (sym e);
      over = λ u h. ⊎_elim (λ e. common.over u (inr (inl e))) (λ h. ⊎_elim (λ e. common.over u (inl e)) (λ n. absurd n) h) h;
      holds = all_from (λ m. MeetsCond m (conds.SameVar w v)) rows (λ m h. meets_sym v w m (all_in (λ m. MeetsCond m (conds.SameVar v w)) rows m common.holds h));
    }

-- a row is admitted where it meets the lists over the one domain
pub admitted_by_list : (level : Level) (g : List Statement) (rows unwanted : List Mapping) (j : ℕ) (vs : List Name) (ps : List Pattern) (cs : List Cond) → (rows ≡ [] → ⊥)
    → AllByRecursion (Exactly vs) rows → IsStrongestNode level g vs rows ps cs
    → ShowsAdmitted level g rows unwanted j ↔ ((m : Mapping) × IsRowAt unwanted j m × Exactly vs m × MeetsNode g m (node ps cs leaf))
admitted_by_list level g rows unwanted j vs ps cs some exact n = (
  (λ claim.
      let r = some_row rows some in
      let same : (v : Name) → In vs v ↔ In claim.domain v = λ v.
      let here = (all_in (Exactly vs) rows r.0 exact r.1) v in
      let there = (all_in (Exactly claim.domain) rows r.0 claim.same r.1) v in
      ((λ h. there.0 (here.1 h)), (λ h. here.0 (there.1 h))) in (
        claim.row,
        claim.row_at,
        (λ v. ((λ b. (same v).1 ((claim.of_row v).0 b)), (λ h. (claim.of_row v).1 ((same v).0 h)))),
        (
          all_from (Meets g claim.row) ps (λ p h. let c = (n.triples p).0 h in claim.triples p (record { in_class = c.in_class; over = λ v k. (same v).0 (c.over v k); holds = c.holds })),
          all_from (MeetsCond claim.row) cs (λ d h. let c = ((n.conditions d).0 h).0 in claim.conditions d (record { in_class = c.in_class; over = λ v k. (same v).0 (c.over v k); holds = c.holds })),
        ),
      )),
  (λ (m, at, exactly, met). record {
    domain = vs;
    same = exact;
    row = m;
    row_at = at;
    of_row = exactly;
    triples = λ p common. all_in (Meets g m) ps p met.0 ((n.triples p).1 common);
    conditions = λ c common. let d = form_of level vs rows cs n.conditions c common in d.2 m (all_in (MeetsCond m) cs d.0 met.1 d.1);
  }),
)

-- a row is extended where with the values it meets the node's lists
pub extension_by_list : (level : Level) (g : List Statement) (w : Wanted) (i : ℕ) (x : Name) (values : Mapping) (ps : List Pattern) (cs : List Cond) → AreExamples w → IsStartNode level g w x ps cs
    → ShowsExtension level g w.rows i x values ↔ ((m : Mapping) × IsOpenAt w.rows i x m × BindsClass w.rows x values × MeetsNode g (merge m values) (node ps cs leaf))
extension_by_list level g w i x values ps cs examples n = (
  (λ claim. (
    claim.row,
    claim.place,
    claim.binds,
    (
      all_from (Meets g (merge claim.row values)) ps (λ p h. claim.triples p ((n.triples p).0 h)),
      all_from (MeetsCond (merge claim.row values)) cs (λ c h. claim.conditions c ((n.conditions c).0 h).0),
    ),
  )),
  (λ (m, place, class, met). record {
    row = m;
    place = place;
    binds = class;
    triples = λ p common. all_in (Meets g (merge m values)) ps p met.0 ((n.triples p).1 common);
    conditions = λ c common.
        let d = in_form level w.vars w.rows x (λ v up. examples.within v (seen_up w.rows x v place.seen up)) cs n.conditions c common in
        d.2 (merge m values) (all_in (MeetsCond (merge m values)) cs d.0 met.1 d.1);
  }),
)

-- the values in the table's order are the same
pub values_same : (level : Level) (g : List Statement) (w : Wanted) (i : ℕ) (x : Name) (values : Mapping) → AreExamples w → ShowsExtension level g w.rows i x values → row_mapping (listing w.vars values) ≡ values
values_same level g w i x values examples claim = listed_whole w.vars values (λ v b. examples.within v (seen_up w.rows x v claim.place.seen ((claim.binds v).0 b).0))

-- and there are some
pub values_some : (level : Level) (g : List Statement) (w : Wanted) (i : ℕ) (x : Name) (values : Mapping) → AreExamples w → ShowsExtension level g w.rows i x values → listing w.vars values ≡ [] → ⊥
values_some level g w i x values examples claim e =
    let same : row_mapping [] ≡ values = subst (λ row. row_mapping row ≡ values) e (values_same level g w i x values examples claim) in
    let bound : Binds values x = (claim.binds x).1 (within_self w.rows x, within_self w.rows x) in
    unbound (subst (λ (m : Mapping). Binds m x) (sym same) bound)
  where
    unbound : IsSome {T = Term} None → ⊥
    unbound h = cc

-- the names of a longer list
names_more : (v : Name) (o : Option Term) (vs : List Name) (e : Mapping) (y : Name) → In (map (λ p. p.0) (with_value v o (listing vs e))) y → (v ≡ y) ⊎ In (map (λ p. p.0) (listing vs e)) y
names_more v None vs e y h = inr h
names_more v (Some t) vs e y h = h

-- are those of its variables
names_in : (vs : List Name) (e : Mapping) (y : Name) → In (map (λ p. p.0) (listing vs e)) y → In vs y
names_in [] e y h = h
names_in (v ∷ vs) e y h = ⊎_elim inl (λ k. inr (names_in vs e y k)) (names_more v (e v) vs e y h)

-- and stand in their order
later_order : (v : Name) (vs xs : List Name) → IsSorted (IsBefore vs) xs → IsSorted (IsBefore (v ∷ vs)) xs
later_order v vs [] s = tt
later_order v vs (x ∷ xs) s = (all_from (IsBefore (v ∷ vs) x) xs (λ y h. inr (all_in (IsBefore vs x) xs y s.0 h)), later_order v vs xs s.1)

value_order : (v : Name) (o : Option Term) (vs : List Name) (e : Mapping) → IsSorted (IsBefore (v ∷ vs)) (map (λ p. p.0) (listing vs e)) → IsSorted (IsBefore (v ∷ vs)) (map (λ p. p.0) (with_value v o (listing vs e)))
value_order v None vs e s = s
value_order v (Some t) vs e s = (all_from (IsBefore (v ∷ vs) v) (map (λ p. p.0) (listing vs e)) (λ y h. inl (refl, names_in vs e y h)), s)

pub values_order : (vs : List Name) (e : Mapping) → IsSorted (IsBefore vs) (map (λ p. p.0) (listing vs e))
values_order [] e = tt
values_order (v ∷ vs) e = value_order v (e v) vs e (later_order v vs (map (λ p. p.0) (listing vs e)) (values_order vs e))
