-- It is decided of each claim whether it shows, where those of its class that come before it do not.
use Rattle.std.proofs.Common.{◌≡◌, refl, ℕ, zero, suc, ◌<◌, List, [], ◌∷◌, Some, ◌⊎◌, inl, inr, ⊎_elim, sym, ◌∙◌, ap, subst, arith}
use Rattle.std.specs.List.{AllByRecursion, flat_map}
use Rattle.bye_terms.specs.declared.term.Term.{Term}
use Rattle.bye_terms.specs.Members.{In}
use Rattle.bye_terms.specs.Terms.{Statement}
use Rattle.bye_terms.proofs.Members.{all_from, all_in}
use Rattle.bye_table.specs.Domains.{AreAlike, BindsEach, IsBelow, IsRowAt, IsSeen, IsWithin, Wanted}
use Rattle.bye_table.specs.Mappings.{Binds, Exactly, Mapping, Name, first_of, merge}
use Rattle.bye_table.proofs.Merging.{binds, in_or_not, unbound}
use Rattle.bye_pattern.specs.declared.cond.Cond.{Cond}
use Rattle.bye_pattern.specs.declared.level.Level.{Level}
use Rattle.bye_pattern.specs.Certificates.{BindsClass, BindsOne, IsOpenAt, ShowsAdmitted, ShowsDomains, ShowsExtension, ShowsFork, ShowsNoRoot, ShowsUncovered}
use Rattle.bye_pattern.specs.Common.{IsCommon, IsCommonCond}
use Rattle.bye_pattern.specs.Conditions.{cond_vars}
use Rattle.bye_pattern.specs.Conjuncts.{MeetsCond}
use Rattle.bye_pattern.specs.Patterns.{Meets, Pattern, vars}
use Rattle.bye_pattern.specs.Starting.{IsCommonAt, IsCommonCondAt}
use Rattle.bye_pattern.specs.FirstClaims.{IsExtendable, NoDomains, NoneUncovered}
use Rattle.bye_laws.specs.Completeness.{AreExamples}
use Rattle.bye_laws.proofs.AllConjuncts.{cond_in, cond_shapes, shape_in, shapes}
use Rattle.bye_laws.proofs.CommonConditions.{lower}
use Rattle.bye_laws.proofs.ConjunctionStarts.{has_one_domain, one_domain}
use Rattle.bye_laws.proofs.Decided.{all_or_not, both_or_not, each_or_not, either_or_not, meets_or_not, met_or_not, one_or_none, picked, same_decided}
use Rattle.bye_laws.proofs.DomainTrees.{some_each}
use Rattle.bye_table.proofs.RowNumbers.{at_in, one_at}
use Rattle.bye_laws.proofs.Examples.{either_less, seen_list, some_row}
use Rattle.bye_laws.proofs.Searches.{every_or_not, exactly_or_not, graph_terms, implied_or_not, less_or_not, mapping_or_none, met_term, not_or_not, row_is_or_not, row_or_none, some_or_not}
use Rattle.bye_laws.proofs.StrongestThere.{class_or_not, common_cond_or_not, common_or_not, triple_or_not}
use Rattle.bye_laws.proofs.Withins.{alike_or_not, alike_trans, below_or_not, binds_or_not, each_seen, seen_or_not, seen_up, within_below, within_or_not, within_row, within_trans}

-- of two rows exactly one binds the variable, or this is not so
one_binds_or_not : (m n : Mapping) (x : Name) → BindsOne m n x ⊎ (BindsOne m n x → ⊥)
one_binds_or_not m n x =
    either_or_not
    (both_or_not (binds_or_not m x) (not_or_not (binds_or_not n x)))
    (both_or_not (not_or_not (binds_or_not m x)) (binds_or_not n x))

-- two rows by their numbers have different domains, or have not
pub domains_or_not : (rows : List Mapping) (i j : ℕ) (x : Name) → ShowsDomains rows i j x ⊎ (ShowsDomains rows i j x → ⊥)
domains_or_not rows i j x =
    same_decided
    (λ h. record { apart = h.0; one = h.1.0; other = h.1.2.0; one_row = h.1.1; other_row = h.1.2.1; binds = h.1.2.2 })
    (λ c. (c.apart, (c.one, c.one_row, (c.other, c.other_row, c.binds))))
    (both_or_not (less_or_not i j)
    (row_is_or_not rows i (λ m. (n : Mapping) × IsRowAt rows j n × BindsOne m n x) (λ m at. row_is_or_not rows j (λ n. BindsOne m n x) (λ n there. one_binds_or_not m n x))))

-- a variable of which they differ is seen
pub domains_seen : (rows : List Mapping) (i j : ℕ) (x : Name) → ShowsDomains rows i j x → IsSeen rows x
domains_seen rows i j x c = ⊎_elim (λ b. (c.one, at_in rows i c.one c.one_row, b.0)) (λ b. (c.other, at_in rows j c.other c.other_row, b.1)) c.binds

-- numbers of rows begin at 1
from_one : (rows : List Mapping) (i : ℕ) (m : Mapping) → IsRowAt rows i m → 0 < i
from_one [] i m at = absurd at
from_one (r ∷ rows) zero m at = absurd at
from_one (r ∷ rows) (suc i) m at = omega arith

-- where row 1 and no other have different domains, no two rows have
pub domains_by_first : (rows : List Mapping) → ((k : ℕ) (x : Name) → ShowsDomains rows 1 k x → ⊥) → NoDomains rows
domains_by_first [] never i j x c = c.one_row
domains_by_first (r ∷ rows) never i j x c =
    let apart : i < j = c.apart in
    let here : 0 < i = from_one (r ∷ rows) i c.one c.one_row in
    ⊎_elim
    (λ later. ⊎_elim
    (λ b. ⊎_elim
    (λ h. never j x (record { apart = omega arith; one = r; other = c.other; one_row = refl; other_row = c.other_row; binds = inl (b, h.1) }))
    (λ h. never i x (record { apart = later; one = r; other = c.one; one_row = refl; other_row = c.one_row; binds = inl (b, h.0) }))
    c.binds)
    (λ lacks. ⊎_elim
    (λ h. never i x (record { apart = later; one = r; other = c.one; one_row = refl; other_row = c.one_row; binds = inr (lacks, h.0) }))
    (λ h. never j x (record { apart = omega arith; one = r; other = c.other; one_row = refl; other_row = c.other_row; binds = inr (lacks, h.1) }))
    c.binds)
    (binds_or_not r x))
    (λ h. ⊎_elim (λ e. never j x (subst (λ i. ShowsDomains (r ∷ rows) i j x) (sym e) c)) (λ l. absurd (omega arith)) h)
    (either_less 1 i)

-- some variable is bound in all rows, or none is
pub root_or_not : (w : Wanted) → AreExamples w → ((x : Name) × BindsEach w.rows x) ⊎ ShowsNoRoot w.rows
root_or_not w examples = ⊎_elim inl (λ never. inr (λ x each. never x (examples.within x (each_seen w.rows x examples.some each)) each)) (some_each w.rows w.vars)

-- there is a fork of three variables or there is not
pub fork_or_not : (rows : List Mapping) (x y z : Name) → ShowsFork rows x y z ⊎ (ShowsFork rows x y z → ⊥)
fork_or_not rows x y z =
    same_decided
    (λ h. record { seen = h.0; first = h.1.0; second = h.1.1.0; first_apart = h.1.1.1.0; second_apart = h.1.1.1.1 })
    (λ c. (c.seen, (c.first, (c.second, (c.first_apart, c.second_apart)))))
    (both_or_not (seen_or_not rows x) (both_or_not (within_or_not rows x y) (both_or_not (within_or_not rows x z)
    (both_or_not (not_or_not (within_or_not rows y z)) (not_or_not (within_or_not rows z y))))))

-- of two variables, where all are of the table
pub fork_at_or_not : (w : Wanted) → AreExamples w → (x y : Name) → ((z : Name) × ShowsFork w.rows x y z) ⊎ (((z : Name) × ShowsFork w.rows x y z) → ⊥)
fork_at_or_not w examples x y =
    some_or_not (ShowsFork w.rows x y) (fork_or_not w.rows x y) w.vars (λ z c. examples.within z (seen_up w.rows x z c.seen c.second))

-- and of one
pub fork_from_or_not : (w : Wanted) → AreExamples w → (x : Name) → ((y : Name) × (z : Name) × ShowsFork w.rows x y z) ⊎ (((y : Name) × (z : Name) × ShowsFork w.rows x y z) → ⊥)
fork_from_or_not w examples x =
    same_decided (λ h. (h.0, h.1.0, h.1.1)) (λ h. (h.0, (h.1, h.2)))
    (some_or_not (λ y. (z : Name) × ShowsFork w.rows x y z) (fork_at_or_not w examples x) w.vars (λ y c. examples.within y (seen_up w.rows x y c.1.seen c.1.first)))

-- a pattern is common at x or is not
common_at_or_not : (g : List Statement) (rows : List Mapping) (x : Name) (p : Pattern) → IsCommonAt g rows x p ⊎ (IsCommonAt g rows x p → ⊥)
common_at_or_not g rows x p =
    same_decided (λ h. record { in_class = h.0; over = h.1.0; holds = h.1.1 }) (λ c. (c.in_class, (c.over, c.holds)))
    (both_or_not (triple_or_not p) (both_or_not (each_or_not (IsWithin rows x) (within_or_not rows x) (vars p))
    (all_or_not (λ m. Binds m x → Meets g m p) (λ m. implied_or_not (binds_or_not m x) (meets_or_not g m p)) rows)))

-- so is a condition
cond_at_or_not : (level : Level) (rows : List Mapping) (x : Name) (c : Cond) → IsCommonCondAt level rows x c ⊎ (IsCommonCondAt level rows x c → ⊥)
cond_at_or_not level rows x c =
    same_decided (λ h. record { in_class = h.0; over = h.1.0; holds = h.1.1 }) (λ c. (c.in_class, (c.over, c.holds)))
    (both_or_not (class_or_not level c) (both_or_not (each_or_not (IsWithin rows x) (within_or_not rows x) (cond_vars c))
    (all_or_not (λ m. Binds m x → MeetsCond m c) (λ m. implied_or_not (binds_or_not m x) (met_or_not m c)) rows)))

-- the patterns that are common at a seen variable are among finitely many
common_shape : (g : List Statement) (w : Wanted) (x : Name) (p : Pattern) → AreExamples w → IsSeen w.rows x → IsCommonAt g w.rows x p → In (flat_map (shapes w.vars) g) p
common_shape g w x p examples seen common =
    shape_in w.vars seen.0 g p (λ v h. examples.within v (seen_up w.rows x v seen (common.over v h)))
    (all_in (λ m. Binds m x → Meets g m p) w.rows seen.0 common.holds seen.1 seen.2)

-- so are the conditions
common_cond_shape : (level : Level) (w : Wanted) (x : Name) (c : Cond) → AreExamples w → (seen : IsSeen w.rows x) → IsCommonCondAt level w.rows x c → In (cond_shapes w.vars seen.0) c
common_cond_shape level w x c examples seen common =
    cond_in w.vars seen.0 c (λ v h. examples.within v (seen_up w.rows x v seen (common.over v h)))
    (all_in (λ m. Binds m x → MeetsCond m c) w.rows seen.0 common.holds seen.1 seen.2).1

-- a seen variable is in a common pattern, or it is uncovered
pub covered_or_not : (g : List Statement) (w : Wanted) (x : Name) → AreExamples w → IsSeen w.rows x
    → ((p : Pattern) × IsCommonAt g w.rows x p × In (vars p) x) ⊎ ShowsUncovered g w.rows x
covered_or_not g w x examples seen =
    ⊎_elim
    (λ h. inl (h.0, h.2.0, h.2.1))
    (λ never. inr (record { seen = seen; none = λ p common h. never p (common_shape g w x p examples seen common) (common, h) }))
    (one_or_none (λ p. IsCommonAt g w.rows x p × In (vars p) x) (λ p. both_or_not (common_at_or_not g w.rows x p) (in_or_not (vars p) x)) (flat_map (shapes w.vars) g))

-- so it is uncovered or is not
pub uncovered_or_not : (g : List Statement) (w : Wanted) (x : Name) → AreExamples w → ShowsUncovered g w.rows x ⊎ (ShowsUncovered g w.rows x → ⊥)
uncovered_or_not g w x examples =
    ⊎_elim
    (λ seen. ⊎_elim (λ h. inr (λ c. c.none h.0 h.1 h.2)) inl (covered_or_not g w x examples seen))
    (λ n. inr (λ c. n c.seen))
    (seen_or_not w.rows x)

-- the unwanted row meets whatever the wanted rows have in common over these variables, or does not
meets_common_or_not : (g : List Statement) (vs : List Name) (rows : List Mapping) (m : Mapping) → (rows ≡ [] → ⊥)
    → ((p : Pattern) → IsCommon g vs rows p → Meets g m p) ⊎ (((p : Pattern) → IsCommon g vs rows p → Meets g m p) → ⊥)
meets_common_or_not g vs rows m some =
    let row = some_row rows some in
    every_or_not (λ p. IsCommon g vs rows p → Meets g m p) (λ p. implied_or_not (common_or_not g vs rows p) (meets_or_not g m p)) (flat_map (shapes vs) g) (λ p never. ⊎_elim
    (λ common. shape_in vs row.0 g p common.over (all_in (λ m. Meets g m p) rows row.0 common.holds row.1))
    (λ n. absurd (never (λ common. absurd (n common))))
    (common_or_not g vs rows p))

-- of triples and of conditions
meets_conds_or_not : (level : Level) (vs : List Name) (rows : List Mapping) (m : Mapping) → (rows ≡ [] → ⊥)
    → ((c : Cond) → IsCommonCond level vs rows c → MeetsCond m c) ⊎ (((c : Cond) → IsCommonCond level vs rows c → MeetsCond m c) → ⊥)
meets_conds_or_not level vs rows m some =
    let row = some_row rows some in
    every_or_not (λ c. IsCommonCond level vs rows c → MeetsCond m c) (λ c. implied_or_not (common_cond_or_not level vs rows c) (met_or_not m c)) (cond_shapes vs row.0) (λ c never. ⊎_elim
    (λ common. cond_in vs row.0 c common.over (all_in (λ m. MeetsCond m c) rows row.0 common.holds row.1).1)
    (λ n. absurd (never (λ common. absurd (n common))))
    (common_cond_or_not level vs rows c))

-- an admitted row over the one domain: it meets all that is common there
abbrev IsAdmittedOver : Level → List Statement → List Name → List Mapping → Mapping → Type 0
IsAdmittedOver level g vs rows m = Exactly vs m × (((p : Pattern) → IsCommon g vs rows p → Meets g m p) × ((c : Cond) → IsCommonCond level vs rows c → MeetsCond m c))

-- over the one domain an unwanted row is admitted or is not
pub admitted_or_not : (level : Level) (g : List Statement) (rows unwanted : List Mapping) (header vs : List Name) → ((v : Name) → IsSeen unwanted v → In header v)
    → (rows ≡ [] → ⊥) → AllByRecursion (Exactly vs) rows → (j : ℕ)
    → ShowsAdmitted level g rows unwanted j ⊎ (ShowsAdmitted level g rows unwanted j → ⊥)
admitted_or_not level g rows unwanted header vs inside some exact j =
    same_decided
    (λ h. record { domain = vs; same = exact; row = h.0; row_at = h.1; of_row = h.2.0; triples = h.2.1.0; conditions = h.2.1.1 })
    to_row
    (row_is_or_not unwanted j (IsAdmittedOver level g vs rows) (λ m at.
    both_or_not (exactly_or_not header vs m (λ v b. inside v (m, at_in unwanted j m at, b)))
    (both_or_not (meets_common_or_not g vs rows m some) (meets_conds_or_not level vs rows m some))))
  where
    to_row : ShowsAdmitted level g rows unwanted j → (m : Mapping) × IsRowAt unwanted j m × IsAdmittedOver level g vs rows m
    to_row c =
        let row = some_row rows some in
        let here = all_in (Exactly vs) rows row.0 exact row.1 in
        let there = all_in (Exactly c.domain) rows row.0 c.same row.1 in
        let to : (v : Name) → In vs v → In c.domain v = λ v h. (there v).0 ((here v).1 h) in
        let back : (v : Name) → In c.domain v → In vs v = λ v h. (here v).0 ((there v).1 h) in (
          c.row,
          c.row_at,
          (
            (λ v. ((λ b. back v ((c.of_row v).0 b)), (λ h. (c.of_row v).1 (to v h)))),
            (
              (λ p common. c.triples p (record { in_class = common.in_class; over = λ v h. to v (common.over v h); holds = common.holds })),
              (λ d common. c.conditions d (record { in_class = common.in_class; over = λ v h. to v (common.over v h); holds = common.holds })),
            ),
          ),
        )

-- without a claim of domains and with a root the one domain is that of the seen variables
pub one_domain_seen : (w : Wanted) (x : Name) → AreExamples w → NoDomains w.rows → BindsEach w.rows x → AllByRecursion (Exactly (seen_list w.rows w.vars).0) w.rows
one_domain_seen w x examples never bound = (has_one_domain w examples x bound (one_domain w.rows never)).exact

-- a row is open at a variable or is not
open_or_not : (w : Wanted) → AreExamples w → (i : ℕ) (x : Name) (m : Mapping) → IsSeen w.rows x → IsRowAt w.rows i m → IsOpenAt w.rows i x m ⊎ (IsOpenAt w.rows i x m → ⊥)
open_or_not w examples i x m seen at =
    same_decided
    (λ h. record { seen = seen; row_at = at; lacks = h.0; around = h.1.0; some_around = (h.1.1.0, h.1.1.1.0, h.1.1.1.1) })
    (λ o. (o.lacks, (o.around, (o.some_around.0, (o.some_around.1, o.some_around.2)))))
    (both_or_not (not_or_not (binds_or_not m x)) (both_or_not
    (every_or_not (λ y. IsSeen w.rows y → IsBelow w.rows x y → Binds m y)
    (λ y. implied_or_not (seen_or_not w.rows y) (implied_or_not (below_or_not w.rows x y) (binds_or_not m y)))
    w.vars
    (λ y never. ⊎_elim (λ seen. examples.within y seen) (λ n. absurd (never (λ seen. absurd (n seen)))) (seen_or_not w.rows y)))
    (some_or_not (λ y. IsSeen w.rows y × IsBelow w.rows x y) (λ y. both_or_not (seen_or_not w.rows y) (below_or_not w.rows x y)) w.vars (λ y h. examples.within y h.0))))

-- the row with these values meets whatever is common at x
abbrev IsMetAt : Level → List Statement → List Mapping → Name → Mapping → Mapping → Type 0
IsMetAt level g rows x m e = ((p : Pattern) → IsCommonAt g rows x p → Meets g (merge m e) p) × ((c : Cond) → IsCommonCondAt level rows x c → MeetsCond (merge m e) c)

-- it does or does not
met_at_or_not : (level : Level) (g : List Statement) (w : Wanted) (x : Name) (m e : Mapping) → AreExamples w → IsSeen w.rows x
    → IsMetAt level g w.rows x m e ⊎ (IsMetAt level g w.rows x m e → ⊥)
met_at_or_not level g w x m e examples seen =
    both_or_not
    (every_or_not (λ p. IsCommonAt g w.rows x p → Meets g (merge m e) p)
    (λ p. implied_or_not (common_at_or_not g w.rows x p) (meets_or_not g (merge m e) p))
    (flat_map (shapes w.vars) g)
    (λ p never. ⊎_elim (λ common. common_shape g w x p examples seen common) (λ n. absurd (never (λ common. absurd (n common)))) (common_at_or_not g w.rows x p)))
    (every_or_not (λ c. IsCommonCondAt level w.rows x c → MeetsCond (merge m e) c)
    (λ c. implied_or_not (cond_at_or_not level w.rows x c) (met_or_not (merge m e) c))
    (cond_shapes w.vars seen.0)
    (λ c never. ⊎_elim (λ common. common_cond_shape level w x c examples seen common) (λ n. absurd (never (λ common. absurd (n common)))) (cond_at_or_not level w.rows x c)))

-- where no variable is uncovered, the values with which all that is common is met are terms of the graph
value_told : (level : Level) (g : List Statement) (w : Wanted) (x : Name) (m e : Mapping) → AreExamples w → NoneUncovered g w.rows → IsSeen w.rows x → In w.rows m
    → (Binds m x → ⊥) → BindsClass w.rows x e
    → IsMetAt level g w.rows x m e → (v : Name) (t : Term) → e v ≡ Some t → In (graph_terms g) t
value_told level g w x m e examples covered seen row lacks class met v t is =
    let alike = (class v).0 (binds (e v) t is) in
    ⊎_elim
    (λ h. met_term g (merge m e) h.0 v t (met.0 h.0 (lower g w.rows x v h.0 alike.0 h.1)) h.2
    (ap (λ o. first_of o (e v)) (unbound (m v) (λ b. lacks (within_row w.rows m v x row alike.1 b))) ∙ is))
    (λ c. absurd (covered v c))
    (covered_or_not g w v examples (seen_up w.rows x v seen alike.0))

-- so some values extend a row or none do
values_extend_or_none : (level : Level) (g : List Statement) (w : Wanted) (x : Name) (m : Mapping) → AreExamples w → NoneUncovered g w.rows → IsSeen w.rows x → In w.rows m
    → (Binds m x → ⊥)
    → ((e : Mapping) × BindsClass w.rows x e × IsMetAt level g w.rows x m e) ⊎ ((e : Mapping) → BindsClass w.rows x e → IsMetAt level g w.rows x m e → ⊥)
values_extend_or_none level g w x m examples covered seen row lacks =
    let class = picked (AreAlike w.rows x) (alike_or_not w.rows x) w.vars in
    ⊎_elim
    (λ h. inl (
      h.0,
      (λ v. ((λ b. ((class.1 v).0 ((h.1 v).0 b)).1), (λ alike. (h.1 v).1 ((class.1 v).1 (examples.within v (seen_up w.rows x v seen alike.0), alike))))),
      h.2,
    ))
    (λ none. inr (λ e binds met. none e
    (λ v. ((λ b. let alike = (binds v).0 b in (class.1 v).1 (examples.within v (seen_up w.rows x v seen alike.0), alike)), (λ h. (binds v).1 ((class.1 v).0 h).1)))
    (value_told level g w x m e examples covered seen row lacks binds met)
    met))
    (mapping_or_none class.0 (graph_terms g) (IsMetAt level g w.rows x m) (λ e. met_at_or_not level g w x m e examples seen))

-- what an extension says of the row of its number
extended_row : (level : Level) (g : List Statement) (rows : List Mapping) (i : ℕ) (x : Name) (e m : Mapping) → IsRowAt rows i m → ShowsExtension level g rows i x e
    → IsOpenAt rows i x m × IsMetAt level g rows x m e
extended_row level g rows i x e m at c =
    subst (λ m. IsOpenAt rows i x m × IsMetAt level g rows x m e) (one_at rows i c.row m c.place.row_at at) (c.place, (c.triples, c.conditions))

-- where no variable is uncovered, some values extend the row of a number at x or none do
pub extendable_or_not : (level : Level) (g : List Statement) (w : Wanted) (i : ℕ) (x : Name) → AreExamples w → NoneUncovered g w.rows
    → IsExtendable level g w.rows i x ⊎ (IsExtendable level g w.rows i x → ⊥)
extendable_or_not level g w i x examples covered =
    ⊎_elim
    (λ seen. ⊎_elim
    (λ r. ⊎_elim
    (λ o. ⊎_elim
    (λ h. inl (h.0, record { row = r.0; place = o; binds = h.1; triples = h.2.0; conditions = h.2.1 }))
    (λ none. inr (λ c. none c.0 c.1.binds (extended_row level g w.rows i x c.0 r.0 r.1 c.1).1))
    (values_extend_or_none level g w x r.0 examples covered seen (at_in w.rows i r.0 r.1) o.lacks))
    (λ shut. inr (λ c. shut (extended_row level g w.rows i x c.0 r.0 r.1 c.1).0))
    (open_or_not w examples i x r.0 seen r.1))
    (λ none. inr (λ c. none c.1.row c.1.place.row_at))
    (row_or_none w.rows i))
    (λ n. inr (λ c. n c.1.place.seen))
    (seen_or_not w.rows x)

-- what is common at a greater domain is common at a smaller one, of conditions too
lower_condition : (level : Level) (rows : List Mapping) (x v : Name) (c : Cond) → IsWithin rows x v → IsCommonCondAt level rows v c → IsCommonCondAt level rows x c
lower_condition level rows x v c up common = record {
  in_class = common.in_class;
  over = λ w h. within_trans rows x v w up (common.over w h);
  holds = all_from (λ m. Binds m x → MeetsCond m c) rows (λ m row b. all_in (λ m. Binds m v → MeetsCond m c) rows m common.holds row (within_row rows m x v row up b));
}

-- values that extend a row at a variable extend it at each of its class
pub extension_alike : (level : Level) (g : List Statement) (rows : List Mapping) (i : ℕ) (x y : Name) (e : Mapping) → AreAlike rows x y → ShowsExtension level g rows i x e
    → ShowsExtension level g rows i y e
extension_alike level g rows i x y e alike c = record {
  row = c.row;
  place = record {
    seen = seen_up rows x y c.place.seen alike.0;
    row_at = c.place.row_at;
    lacks = λ b. c.place.lacks (within_row rows c.row y x (at_in rows i c.row c.place.row_at) alike.1 b);
    around = λ z seen below. c.place.around z seen (within_below rows x y z alike.0 below);
    some_around = let z = c.place.some_around in (z.0, z.1, within_below rows y x z.0 alike.1 z.2);
  };
  binds = λ v. (
    (λ b. alike_trans rows y x v (alike.1, alike.0) ((c.binds v).0 b)),
    (λ h. (c.binds v).1 (alike_trans rows x y v alike h)),
  );
  triples = λ p common. c.triples p (lower g rows x y p alike.0 common);
  conditions = λ d common. c.conditions d (lower_condition level rows x y d alike.0 common);
}
