-- The worked example of a kind test that is kept.
use Rattle.std.proofs.Common.{refl, ℕ, List, [], ◌∷◌, inl, inr, ⊎_elim, sym, subst, codes}
use Rattle.std.specs.List.{AllByRecursion}
use Rattle.bye_terms.specs.Members.{In}
use Rattle.bye_table.specs.DomainTrees.{domain, none}
use Rattle.bye_table.specs.Domains.{IsBefore}
use Rattle.bye_table.specs.Mappings.{Exactly, Mapping, Name, row_mapping}
use Rattle.bye_pattern.specs.declared.class.Class.TheVariants.{And}
use Rattle.bye_pattern.specs.declared.cond.Cond.{Cond}
use Rattle.bye_pattern.specs.declared.cond.Cond.TheVariants as conds
use Rattle.bye_pattern.specs.declared.kind.Kind.TheVariants as kinds
use Rattle.bye_pattern.specs.declared.level.Level.TheVariants.{One, Two}
use Rattle.bye_pattern.specs.declared.slot.Slot.TheVariants.{Const, Var}
use Rattle.bye_pattern.specs.Candidates.{of_terms}
use Rattle.bye_pattern.specs.Certificates.{Admitted, Shows, ShowsAdmitted, ShowsUncovered}
use Rattle.bye_pattern.specs.Conditions.{Holds}
use Rattle.bye_pattern.specs.Conjuncts.{MeetsCond}
use Rattle.bye_pattern.specs.Keeping.{IsRight, IsStart}
use Rattle.bye_pattern.specs.Patterns.{Meets, Pattern}
use Rattle.bye_pattern.specs.Starting.{IsStartNode}
use Rattle.bye_pattern.specs.Trees.{Select, leaf, node, plain_select}
use Rattle.bye_pattern.specs.Worked.{a, b, c, pattern, text, x, y}
use Rattle.bye_pattern.proofs.WorkedTerms.{differ, row_exactly}
use Rattle.bye_laws.specs.Completeness.{AreExamples}
use Rattle.bye_laws.specs.Parts.{Within}
use Rattle.bye_laws.specs.Strongest.{IsStrongestNode}
use Rattle.bye_laws.specs.Worked.{KindTestsAreKept, d, liked, likes, pair, text_row, unwanted_likes, wanted_likes}
use Rattle.bye_laws.proofs.AllConjuncts.{cond_shapes, kind_conds, value_conds}
use Rattle.bye_laws.proofs.BothClasses.{certificates_sound}
use Rattle.bye_laws.proofs.ClaimLists.{admitted_by_list}
use Rattle.bye_laws.proofs.CommonConditions.{lower}
use Rattle.bye_table.proofs.RowNumbers.{at_in}
use Rattle.bye_laws.proofs.Served.{right_served}
use Rattle.bye_laws.proofs.StartsRight.{by_covering, conjunction_right}
use Rattle.bye_laws.proofs.StrongestAt.{start_at}
use Rattle.bye_laws.proofs.Telling.{holds_meets}
use Rattle.bye_laws.proofs.Withins.{within_each}
use Rattle.bye_laws.proofs.WorkedDomains.{AreFullRows, all_rows, full_around, full_tree, seen_names}
use Rattle.bye_laws.proofs.WorkedLists.{strongest_listed}

abbrev names : List Name
names = x ∷ y ∷ []

-- the pattern, and the conditions of each level
abbrev does_like : Pattern
does_like = pattern (Var x) (Const likes) (Var y)

abbrev are_bound : List Cond
are_bound = conds.Bound x ∷ conds.Bound y ∷ []

abbrev is_iri : Name → Cond
is_iri v = conds.KindOf kinds.Iri v

abbrev with_kinds : List Cond
with_kinds = conds.Bound x ∷ conds.Bound y ∷ is_iri x ∷ is_iri y ∷ []

examples : AreExamples wanted_likes
examples = record {
  once = ((λ h. ⊎_elim (λ e. differ y x refl e) (λ n. n) h), ((λ h. h), tt));
  within = seen_names names (pair a b ∷ pair c d ∷ []) ((inl refl, (inr (inl refl), tt)), ((inl refl, (inr (inl refl), tt)), tt));
  some = λ e. cc;
}

full : AreFullRows wanted_likes
full = record { examples = examples; full = ((refl, (refl, tt)), ((refl, (refl, tt)), tt)); sorted = ((inl (refl, inl refl), tt), (tt, tt)) }

first_row : Exactly names (row_mapping (pair a b))
first_row = row_exactly (pair a b)

exact : AllByRecursion (Exactly names) wanted_likes.rows
exact = (row_exactly (pair a b), (row_exactly (pair c d), tt))

-- all that the rows have in common, with kind tests and without
strongest_one : IsStrongestNode One liked names wanted_likes.rows (does_like ∷ []) are_bound
unfolding of_terms cond_shapes value_conds kind_conds
strongest_one = strongest_listed One liked names (pair a b) (pair a b ∷ pair c d ∷ []) (does_like ∷ []) are_bound (inl refl)
    ((refl, refl), ((refl, refl), ((refl, refl), tt))) (refl, (refl, tt)) examples.once first_row
    (inl refl, tt) (inl refl, tt) (tt, tt)
    (inl refl, (inr (inl refl), tt)) (inl refl, (inr (inl refl), tt)) ((inl (refl, inl refl), tt), (tt, tt))

strongest_two : IsStrongestNode Two liked names wanted_likes.rows (does_like ∷ []) with_kinds
unfolding of_terms cond_shapes value_conds kind_conds
strongest_two = strongest_listed Two liked names (pair a b) (pair a b ∷ pair c d ∷ []) (does_like ∷ []) with_kinds (inl refl)
    ((refl, refl), ((refl, refl), ((refl, refl), tt))) (refl, (refl, tt)) examples.once first_row
    (inl refl, tt) (inl refl, tt) (tt, tt)
    (inl refl, (inr (inl refl), (inr (inr (inl refl)), (inr (inr (inr (inl refl))), tt))))
    (inl refl, (inr (inl refl), (inr (inr (inl refl)), (inr (inr (inr (inl refl))), tt))))
    ((inl (refl, inl refl), (tt, (tt, tt))), ((tt, (tt, tt)), ((inl (inl (refl, inl refl)), tt), (tt, tt))))

start_node : IsStartNode Two liked wanted_likes x (does_like ∷ []) with_kinds
start_node = (start_at Two liked wanted_likes x names wanted_likes.rows (does_like ∷ []) with_kinds examples (full_around wanted_likes x full (inl refl))
    (all_rows wanted_likes.rows x full.full.0)).0 strongest_two

abbrev start : Select
start = plain_select names (node (does_like ∷ []) with_kinds leaf)

begun : IsStart And Two liked wanted_likes start
begun = record {
  domains = domain x none;
  tree = start.tree;
  vars = names;
  allowed = refl;
  over = full_tree wanted_likes x full (inl refl) least;
  conjuncts = (start_node, tt);
  selected = inl ((row_mapping (pair a b), inl refl, refl), (y ∷ [], inl ((row_mapping (pair a b), inl refl, refl), ([], refl, refl)), refl));
  query = refl;
}
  where
    least : (v : Name) → IsBefore names v x → ⊥
    least v (inl (e, inl f)) = differ y x refl f
    least v (inl (e, inr k)) = k
    least v (inr (inl (e, k))) = k
    least v (inr (inr k)) = k

text_exactly : Exactly names text_row
text_exactly = row_exactly (pair a (text (codes "1")))

-- the text is no IRI
fails : Holds text_row (is_iri y) → ⊥
fails e = cc

not_met : (m : Mapping) → In unwanted_likes m → MeetsCond m (is_iri y) → ⊥
not_met m (inl e) h = fails (subst (λ m. Holds m (is_iri y)) (sym e) h.1)
not_met m (inr k) h = k

-- so nothing is admitted at the second level
not_admitted : (j : ℕ) → ShowsAdmitted Two liked wanted_likes.rows unwanted_likes j → ⊥
not_admitted j claim =
    let w = (admitted_by_list Two liked wanted_likes.rows unwanted_likes j names (does_like ∷ []) with_kinds examples.some exact strongest_two).0 claim in
    not_met w.0 (at_in unwanted_likes j w.0 w.1) w.3.1.1.1.1.0

-- the start is right
right : IsRight And Two liked wanted_likes.rows unwanted_likes start
right = (conjunction_right Two liked wanted_likes unwanted_likes start examples begun ((by_covering And Two liked wanted_likes start examples begun).1 covered)).1 not_admitted
  where
    covered : (v : Name) → ShowsUncovered liked wanted_likes.rows v → ⊥
    covered v claim =
        claim.none does_like (lower liked wanted_likes.rows v x does_like (within_each wanted_likes.rows v x full.full.0) ((start_node.triples does_like).0 (inl refl)))
        (examples.within v claim.seen)

-- what is left of the conditions serves, as long as the test of y is there
abbrev Right : List Pattern → List Cond → Type 0
Right ps cs = IsRight And Two liked wanted_likes.rows unwanted_likes (plain_select names (node ps cs leaf))

tested : (cs : List Cond) → Within cs with_kinds → In cs (is_iri y) → Right (does_like ∷ []) cs
tested cs within there = (right_served Two liked wanted_likes.rows unwanted_likes names (does_like ∷ []) (does_like ∷ []) with_kinds cs (λ p h. h) within right).1
    (record { variables = λ v h. h; rows = ((λ exactly. inr (is_iri y, there, not_met text_row (inl refl))), tt) })

-- without it the unwanted row is an answer
text_liked : Meets liked text_row does_like
text_liked = (_, inr (inr (inl refl)), record { s = refl; p = refl; o = refl })

untested : Right (does_like ∷ []) [] → ⊥
untested rest =
    let served = (right_served Two liked wanted_likes.rows unwanted_likes names (does_like ∷ []) (does_like ∷ []) with_kinds [] (λ p h. h) (λ k h. absurd h) right).0 rest in
    ⊎_elim (λ w. ⊎_elim (λ e. w.2 (subst (Meets liked text_row) e text_liked)) (λ k. k) w.1) (λ w. w.1) (served.rows.0 text_exactly)

-- and without the pattern nothing covers x
no_pattern : Right [] (is_iri y ∷ []) → ⊥
no_pattern rest = (rest.in_class.selects x).0 (inl refl)

-- the claim of the first level
shows_one : Shows liked wanted_likes.rows unwanted_likes (record { level = One; class = And; claim = Admitted 1 })
shows_one = record {
  goes = tt;
  shown = (admitted_by_list One liked wanted_likes.rows unwanted_likes 1 names (does_like ∷ []) are_bound examples.some exact strongest_one).1 (
    text_row,
    refl,
    text_exactly,
    ((text_liked, tt), (holds_meets _ (conds.Bound x) refl, (holds_meets _ (conds.Bound y) refl, tt))),
  );
}

pub kind_tests : KindTestsAreKept
kind_tests = record {
  kept = record {
    start = start;
    tree = node (does_like ∷ []) (is_iri y ∷ []) leaf;
    begun = begun;
    thinned = (
      leaf,
      is_iri y ∷ [],
      does_like ∷ [],
      refl,
      inl (
        tested (conds.Bound y ∷ is_iri x ∷ is_iri y ∷ []) (λ k h. inr h) (inr (inr (inl refl))),
        inl (
          tested (is_iri x ∷ is_iri y ∷ []) (λ k h. inr (inr h)) (inr (inl refl)),
          inl (
            tested (is_iri y ∷ []) (λ k h. inr (inr (inr h))) (inl refl),
            inr (untested, ([], refl, refl)),
          ),
        ),
      ),
      inr (no_pattern, ([], refl, refl)),
      refl,
    );
    query = refl;
  };
  written = refl;
  shows = shows_one;
  none = certificates_sound liked wanted_likes unwanted_likes (record { level = One; class = And; claim = Admitted 1 }) examples shows_one;
  refused = λ shows. not_admitted 1 shows.shown;
}
