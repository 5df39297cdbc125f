-- Whether a row meets a node.
use Rattle.std.proofs.Common.{◌≡◌, ℕ, ◌<◌, Bool, true, List, [], Option, Some, None, ◌↔◌, sym, ◌∙◌, ap, subst, length, IsTrue}
use Rattle.std.specs.List.{AllByRecursion}
use Rattle.bye_terms.specs.declared.term.Term.{Term}
use Rattle.bye_terms.specs.declared.term.Term.TheVariants.{Iri}
use Rattle.bye_terms.specs.Members.{In}
use Rattle.bye_terms.specs.Terms.{Statement}
use Rattle.bye_terms.proofs.Lists.{in_map, map_in}
use Rattle.bye_table.specs.Mappings.{Mapping}
use Rattle.bye_pattern.specs.declared.cond.Cond.{Cond}
use Rattle.bye_pattern.specs.declared.slot.Slot.{Slot}
use Rattle.bye_pattern.specs.declared.node.Node.{Node, out-Node}
use Rattle.bye_pattern.specs.Conjuncts.{MeetsCond}
use Rattle.bye_pattern.specs.Nodes.{tree_of}
use Rattle.bye_pattern.specs.Patterns.{Meets, Pattern, slot_under}
use Rattle.bye_pattern.specs.Trees.{own_conds, own_triples}
use Rattle.bye_tree.proofs.Opened.{tree_out}
use Rattle.bye_laws.specs.Reaching.{MeetsNode}
use Rattle.bye_graph.specs.Keys.{Key}
use Rattle.bye_graph.specs.Graphs.{GraphValue, IsNumbered, IsUsed, statement_of, statements, term_of}
use Rattle.bye_graph.proofs.Numbers.{term_at}
use Rattle.bye_node.specs.Conds.{all_hold}
use Rattle.bye_node.specs.Steps.{HasNumber}
use Rattle.bye_node.proofs.Cells.{same_some}
use Rattle.bye_node.proofs.Decoding.{get_below, get_once}
use Rattle.bye_node.proofs.Shaping.{all_met, met_all}

-- the term of a number, both ways
has_term : (g : GraphValue) (o : Option Term) (n : ℕ) → HasNumber g o n → o ≡ Some (term_of g.terms n)
has_term g None n h = absurd h
has_term g (Some t) n h = ap Some (sym (term_at g.terms n t h))

number_same : (g : GraphValue) (o : Option Term) (n k : ℕ) (t : Term) → IsNumbered g → HasNumber g o n → o ≡ Some t → k < length g.terms → term_of g.terms k ≡ t → n ≡ k
number_same g None n k t good h is l at = absurd h
number_same g (Some u) n k t good h is l at = get_once g.terms n k u good.terms h (get_below g.terms k (Iri []) l ∙ ap Some (at ∙ sym (same_some u t is)))

-- the number of what stands in a place
pub has_at : (g : GraphValue) (m : Mapping) (s t : Slot) (o : Option Term) (n : ℕ) → o ≡ slot_under m s → s ≡ t → HasNumber g o n → HasNumber g (slot_under m t) n
has_at g m s t o n is same h = subst (λ o. HasNumber g o n) (is ∙ ap (slot_under m) same) h

-- a pattern whose terms have numbers
pub meets_by : (g : GraphValue) (m : Mapping) (p : Pattern) (s q o : ℕ) (b : Bool) → IsNumbered g → HasNumber g (slot_under m p.s) s → HasNumber g (slot_under m p.p) q → HasNumber g (slot_under m p.o) o
    → IsTrue b ↔ In g.keys (s, q, o) → IsTrue b ↔ Meets (statements g) m p
meets_by g m p s q o b good hs hq ho found = (
  λ t.
      let key : Key = (s, q, o) in (
        statement_of g.terms key,
        map_in (statement_of g.terms) g.keys key (found.0 t),
        record { s = has_term g (slot_under m p.s) s hs; p = has_term g (slot_under m p.p) q hq; o = has_term g (slot_under m p.o) o ho },
      ),
  λ (f, inside, becomes).
      let w = in_map (statement_of g.terms) g.keys f inside in
      let key : Key = w.0 in
      let used : IsUsed g.terms key = good.used key w.1 in
      let a : s ≡ key.0 = number_same g (slot_under m p.s) s key.0 f.s good hs becomes.s used.0 (ap (λ f. f.s) w.2) in
      let b2 : q ≡ key.1 = number_same g (slot_under m p.p) q key.1 f.p good hq becomes.p used.1 (ap (λ f. f.p) w.2) in
      let c : o ≡ key.2 = number_same g (slot_under m p.o) o key.2 f.o good ho becomes.o used.2 (ap (λ f. f.o) w.2) in
      let same : key ≡ (s, q, o) = λ i. (sym a i, sym b2 i, sym c i) in
      found.1 (subst (In g.keys) same w.1),
)

-- a node of the program
pub node_meets : (g : List Statement) (m : Mapping) (t : Node) (ps : List Pattern) (cs : List Cond) → ps ≡ (out-Node t).triples → cs ≡ (out-Node t).conds
    → (AllByRecursion (Meets g m) ps × AllByRecursion (MeetsCond m) cs) ↔ MeetsNode g m (tree_of t)
node_meets g m t ps cs same_ps same_cs =
    let triples : own_triples (tree_of t) ≡ ps = ap own_triples (tree_out t) ∙ sym same_ps in
    let conds : own_conds (tree_of t) ≡ cs = ap own_conds (tree_out t) ∙ sym same_cs in (
      λ h. (subst (AllByRecursion (Meets g m)) (sym triples) h.0, subst (AllByRecursion (MeetsCond m)) (sym conds) h.1),
      λ h. (subst (AllByRecursion (Meets g m)) triples h.0, subst (AllByRecursion (MeetsCond m)) conds h.1),
    )

pub node_by : (g : List Statement) (m : Mapping) (t : Node) (ps : List Pattern) (cs : List Cond) (a b : Bool) → ps ≡ (out-Node t).triples → cs ≡ (out-Node t).conds
    → IsTrue a ↔ AllByRecursion (Meets g m) ps → a ≡ true → b ≡ all_hold m cs → IsTrue b ↔ MeetsNode g m (tree_of t)
node_by g m t ps cs a b same_ps same_cs met yes_a held =
    let node = node_meets g m t ps cs same_ps same_cs in (
      λ h. node.0 (met.0 yes_a, all_met m cs (sym held ∙ h)),
      λ h. held ∙ met_all m cs ((node.1 h).1),
    )
