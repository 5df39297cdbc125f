-- The triples with terms of the rows in them say all of one conjunction that the graph says.
use Rattle.std.proofs.Common.{◌≡◌, refl, ℕ, List, ◌++◌, Some, inl, inr, ⊎_elim, sym, ◌∙◌, ap}
use Rattle.std.specs.List.{AllByRecursion}
use Rattle.bye_terms.specs.declared.term.Term.{Term}
use Rattle.bye_terms.specs.Members.{In}
use Rattle.bye_terms.specs.Terms.{Statement}
use Rattle.bye_terms.proofs.Members.{all_from, all_in, in_cases}
use Rattle.bye_table.specs.Domains.{Wanted}
use Rattle.bye_table.specs.DomainTrees.{Domain, Subdomains, also, domain, none}
use Rattle.bye_table.specs.Mappings.{Binds, Mapping, Name}
use Rattle.bye_pattern.specs.declared.class.Class.TheVariants.{And}
use Rattle.bye_pattern.specs.declared.level.Level.{Level}
use Rattle.bye_pattern.specs.declared.slot.Slot.{Slot}
use Rattle.bye_pattern.specs.declared.slot.Slot.TheVariants.{Var, Const}
use Rattle.bye_pattern.specs.Certificates.{Admitted, Claim, Domains, Extension, Fork, GoesWith, IsShown, NoRoot, ShowsAdmitted, ShowsUncovered, Uncovered}
use Rattle.bye_pattern.specs.Classes.{IsClassTriple}
use Rattle.bye_pattern.specs.Common.{IsCommon}
use Rattle.bye_pattern.specs.Keeping.{IsKept, IsRight, IsStart}
use Rattle.bye_pattern.specs.Laws.{MeetsAll}
use Rattle.bye_pattern.specs.Patterns.{Meets, Pattern, slot_under, slot_vars, vars}
use Rattle.bye_pattern.specs.Starting.{IsCommonAt, IsStartForest, IsStartTree}
use Rattle.bye_pattern.specs.Trees.{Forest, Select, Tree, leaf, more, node, own_triples, plain_select}
use Rattle.bye_pattern.proofs.OneGroup.{fits_meets, meets_fits}
use Rattle.bye_laws.specs.Later.{AreNear, HasTerm, HaveTerms, NearIsEnough}
use Rattle.bye_table.proofs.RowNumbers.{at_in}
use Rattle.bye_laws.proofs.PassMaps.{tree_map}

-- a variable in a place has the term that stands there
slot_term : (m : Mapping) (s : Slot) (t : Term) (v : Name) → In (slot_vars s) v → slot_under m s ≡ Some t → m v ≡ Some t
slot_term m (Var w) t v (inl e) h = ap m (sym e) ∙ h
slot_term m (Var w) t v (inr k) h = absurd k
slot_term m (Const c) t v k h = absurd k

-- a triple that a pattern with a variable becomes has a term of the row
term_there : (m : Mapping) (p : Pattern) (f : Statement) (v : Name) → In (vars p) v → slot_under m p.s ≡ Some f.s → slot_under m p.p ≡ Some f.p → slot_under m p.o ≡ Some f.o
    → (t : Term) × (m v ≡ Some t) × HasTerm f t
term_there m p f v h s r o =
    ⊎_elim
    (λ k. ⊎_elim
    (λ i. (f.s, slot_term m p.s f.s v i s, inl refl))
    (λ i. (f.p, slot_term m p.p f.p v i r, inr (inl refl)))
    (in_cases (slot_vars p.s) (slot_vars p.p) v k))
    (λ i. (f.o, slot_term m p.o f.o v i o, inr (inr refl)))
    (in_cases (slot_vars p.s ++ slot_vars p.p) (slot_vars p.o) v h)

-- a row with these terms that meets a pattern of the class over the one graph meets it over the other
abbrev Carries : List Statement → List Statement → List Term → Type 0
Carries g h terms = (m : Mapping) (p : Pattern) → ((v : Name) (t : Term) → m v ≡ Some t → In terms t) → IsClassTriple p → Meets g m p → Meets h m p

-- so it is from the graph to these triples, and back
to_near : (g near : List Statement) (terms : List Term) → AreNear g terms near → Carries g near terms
to_near g near terms is m p have class (f, at, becomes) =
    let w = term_there m p f class.variable.0 class.variable.1 becomes.s becomes.p becomes.o in
    (f, (is f).1 (at, (w.0, have class.variable.0 w.0 w.1, w.2)), becomes)

from_near : (g near : List Statement) (terms : List Term) → AreNear g terms near → Carries near g terms
from_near g near terms is m p have class (f, at, becomes) = (f, ((is f).0 at).0, becomes)

-- a row of a list has its terms
row_terms : (rows : List Mapping) (terms : List Term) (m : Mapping) → HaveTerms rows terms → In rows m → (v : Name) (t : Term) → m v ≡ Some t → In terms t
row_terms rows terms m have row = all_in (λ m. (v : Name) (t : Term) → m v ≡ Some t → In terms t) rows m have row

-- what is said of one graph is said of another to which it carries
meets_carried : (g h : List Statement) (terms : List Term) (q : Select) (m : Mapping) → Carries g h terms → ((v : Name) (t : Term) → m v ≡ Some t → In terms t)
    → AllByRecursion IsClassTriple (own_triples q.tree) → MeetsAll g q m → MeetsAll h q m
meets_carried g h terms q m carries have classes met = record {
  binds = met.binds;
  triples = all_from (Meets h m) (own_triples q.tree) (λ p k. carries m p have (all_in IsClassTriple (own_triples q.tree) p classes k) (all_in (Meets g m) (own_triples q.tree) p met.triples k));
  conds = met.conds;
}

-- which queries are right
right_carried : (level : Level) (g h : List Statement) (terms : List Term) (rows unwanted : List Mapping) (q : Select) → Carries g h terms → Carries h g terms → HaveTerms rows terms → HaveTerms unwanted terms
    → IsRight And level g rows unwanted q → IsRight And level h rows unwanted q
right_carried level g h terms rows unwanted q there back have too right =
    let met = fits_meets level g rows unwanted q right.in_class right.fits in
    let classes = right.in_class.triples in
    record {
      in_class = right.in_class;
      fits = meets_fits level h rows unwanted q right.in_class (
        all_from (MeetsAll h q) rows (λ m row. meets_carried g h terms q m there (row_terms rows terms m have row) classes (all_in (MeetsAll g q) rows m met.0 row)),
        all_from (λ m. MeetsAll h q m → ⊥) unwanted (λ m row k.
            all_in (λ m. MeetsAll g q m → ⊥) unwanted m met.1 row (meets_carried h g terms q m back (row_terms unwanted terms m too row) classes k)),
      );
    }

-- what is common
common_carried : (g h : List Statement) (terms : List Term) (rows : List Mapping) (x : Name) (p : Pattern) → Carries g h terms → HaveTerms rows terms → IsCommonAt g rows x p → IsCommonAt h rows x p
common_carried g h terms rows x p carries have c = record {
  in_class = c.in_class;
  over = c.over;
  holds = all_from (λ m. Binds m x → Meets h m p) rows (λ m row b. carries m p (row_terms rows terms m have row) c.in_class (all_in (λ m. Binds m x → Meets g m p) rows m c.holds row b));
}

common_over_carried : (g h : List Statement) (terms : List Term) (rows : List Mapping) (vs : List Name) (p : Pattern) → Carries g h terms → HaveTerms rows terms → IsCommon g vs rows p → IsCommon h vs rows p
common_over_carried g h terms rows vs p carries have c = record {
  in_class = c.in_class;
  over = c.over;
  holds = all_from (λ m. Meets h m p) rows (λ m row. carries m p (row_terms rows terms m have row) c.in_class (all_in (λ m. Meets g m p) rows m c.holds row));
}

-- the tree of a start
mutual
  tree_carried : (level : Level) (g h : List Statement) (terms : List Term) (w : Wanted) → Carries g h terms → Carries h g terms → HaveTerms w.rows terms → (d : Domain) (t : Tree)
      → IsStartTree level g w d t → IsStartTree level h w d t
  tree_carried level g h terms w there back have (domain x ds) (node ps cs f) (n, below) = (
    record {
      triples = λ p. (
        (λ k. common_carried g h terms w.rows x p there have ((n.triples p).0 k)),
        (λ c. (n.triples p).1 (common_carried h g terms w.rows x p back have c)),
      );
      sorted = n.sorted;
      conditions = n.conditions;
      conditions_sorted = n.conditions_sorted;
    },
    forest_carried level g h terms w there back have ds f below,
  )

  forest_carried : (level : Level) (g h : List Statement) (terms : List Term) (w : Wanted) → Carries g h terms → Carries h g terms → HaveTerms w.rows terms → (ds : Subdomains) (f : Forest)
      → IsStartForest level g w ds f → IsStartForest level h w ds f
  forest_carried level g h terms w there back have none leaf below = tt
  forest_carried level g h terms w there back have none (more t f) below = below
  forest_carried level g h terms w there back have (also d ds) leaf below = below
  forest_carried level g h terms w there back have (also d ds) (more t f) below =
      (tree_carried level g h terms w there back have d t below.0, forest_carried level g h terms w there back have ds f below.1)

-- starts
start_carried : (level : Level) (g h : List Statement) (terms : List Term) (w : Wanted) (q : Select) → Carries g h terms → Carries h g terms → HaveTerms w.rows terms
    → IsStart And level g w q → IsStart And level h w q
start_carried level g h terms w q there back have s = record {
  domains = s.domains;
  tree = s.tree;
  vars = s.vars;
  allowed = s.allowed;
  over = s.over;
  conjuncts = tree_carried level g h terms w there back have s.domains s.tree s.conjuncts;
  selected = s.selected;
  query = s.query;
}

-- and what is kept
kept_carried : (level : Level) (g h : List Statement) (terms : List Term) (w : Wanted) (unwanted : List Mapping) (q : Select) → Carries g h terms → Carries h g terms → HaveTerms w.rows terms → HaveTerms unwanted terms
    → IsKept And level g w unwanted q → IsKept And level h w unwanted q
kept_carried level g h terms w unwanted q there back have too k = record {
  start = k.start;
  tree = k.tree;
  begun = start_carried level g h terms w k.start there back have k.begun;
  thinned = tree_map (λ t. IsRight And level g w.rows unwanted (plain_select k.start.vars t)) (λ t. IsRight And level h w.rows unwanted (plain_select k.start.vars t)) k.start.tree k.tree
      (λ u part. (
        right_carried level g h terms w.rows unwanted (plain_select k.start.vars u) there back have too,
        right_carried level h g terms w.rows unwanted (plain_select k.start.vars u) back there have too,
      )) k.thinned;
  query = k.query;
}

-- claims
uncovered_carried : (g h : List Statement) (terms : List Term) (rows : List Mapping) (x : Name) → Carries h g terms → HaveTerms rows terms → ShowsUncovered g rows x → ShowsUncovered h rows x
uncovered_carried g h terms rows x back have claim = record { seen = claim.seen; none = λ p common k. claim.none p (common_carried h g terms rows x p back have common) k }

admitted_carried : (level : Level) (g h : List Statement) (terms : List Term) (rows unwanted : List Mapping) (j : ℕ) → Carries g h terms → Carries h g terms → HaveTerms rows terms → HaveTerms unwanted terms
    → ShowsAdmitted level g rows unwanted j → ShowsAdmitted level h rows unwanted j
admitted_carried level g h terms rows unwanted j there back have too claim = record {
  domain = claim.domain;
  same = claim.same;
  row = claim.row;
  row_at = claim.row_at;
  of_row = claim.of_row;
  triples = λ p common. there claim.row p (row_terms unwanted terms claim.row too (at_in unwanted j claim.row claim.row_at)) common.in_class
      (claim.triples p (common_over_carried h g terms rows claim.domain p back have common));
  conditions = claim.conditions;
}

claim_carried : (level : Level) (g h : List Statement) (terms : List Term) (rows unwanted : List Mapping) (claim : Claim) → GoesWith And claim → Carries g h terms → Carries h g terms → HaveTerms rows terms → HaveTerms unwanted terms
    → IsShown level g rows unwanted claim → IsShown level h rows unwanted claim
claim_carried level g h terms rows unwanted (Domains i j x) goes there back have too shown = shown
claim_carried level g h terms rows unwanted NoRoot goes there back have too shown = shown
claim_carried level g h terms rows unwanted (Fork x y z) goes there back have too shown = absurd goes
claim_carried level g h terms rows unwanted (Uncovered x) goes there back have too shown = uncovered_carried g h terms rows x back have shown
claim_carried level g h terms rows unwanted (Admitted j) goes there back have too shown = admitted_carried level g h terms rows unwanted j there back have too shown
claim_carried level g h terms rows unwanted (Extension i x values) goes there back have too shown = absurd goes

-- all of it, both ways
pub near_is_enough : NearIsEnough
near_is_enough = record {
  right = λ level g near terms rows unwanted q is have too. (
    right_carried level g near terms rows unwanted q (to_near g near terms is) (from_near g near terms is) have too,
    right_carried level near g terms rows unwanted q (from_near g near terms is) (to_near g near terms is) have too,
  );
  none = λ level g near terms rows unwanted is have too. (
    (λ never q class fits.
        let right = right_carried level near g terms rows unwanted q (from_near g near terms is) (to_near g near terms is) have too (record { in_class = class; fits = fits }) in
        never q right.in_class right.fits),
    (λ never q class fits.
        let right = right_carried level g near terms rows unwanted q (to_near g near terms is) (from_near g near terms is) have too (record { in_class = class; fits = fits }) in
        never q right.in_class right.fits),
  );
  start = λ level g near terms w q is have. (
    start_carried level g near terms w q (to_near g near terms is) (from_near g near terms is) have,
    start_carried level near g terms w q (from_near g near terms is) (to_near g near terms is) have,
  );
  kept = λ level g near terms w unwanted q is have too. (
    kept_carried level g near terms w unwanted q (to_near g near terms is) (from_near g near terms is) have too,
    kept_carried level near g terms w unwanted q (from_near g near terms is) (to_near g near terms is) have too,
  );
  claims = λ level g near terms rows unwanted claim goes is have too. (
    claim_carried level g near terms rows unwanted claim goes (to_near g near terms is) (from_near g near terms is) have too,
    claim_carried level near g terms rows unwanted claim goes (from_near g near terms is) (to_near g near terms is) have too,
  );
}
