-- A row of terms is an answer exactly where a row by numbers has what it says of each variable.
use Rattle.std.proofs.Common.{◌≡◌, refl, ℕ, zero, suc, ◌<◌, List, [], ◌∷◌, Option, Some, None, ⊎_elim, ◌↔◌, sym, ◌∙◌, ap, subst, length, slice_get, arith}
use Rattle.bye_terms.specs.declared.term.Term.{Term}
use Rattle.bye_terms.specs.Members.{In, EachOnce}
use Rattle.bye_table.specs.Mappings.{Binds, Mapping, Name, restrict}
use Rattle.bye_table.proofs.Merging.{binds, in_or_not, restrict_in, restrict_binds}
use Rattle.bye_pattern.specs.Algebra.{IsAnswer}
use Rattle.bye_pattern.specs.Trees.{Select, alg}
use Rattle.bye_laws.proofs.Restricting.{agrees_restricted}
use Rattle.bye_graph.specs.Graphs.{GraphValue, statements}
use Rattle.bye_node.specs.declared.pin.Pin.{Pin}
use Rattle.bye_node.specs.declared.pin.Pin.TheVariants.{Free, Must, Never}
use Rattle.bye_node.specs.Envs.{Cells, cell}
use Rattle.bye_node.specs.Pins.{Allows, pin_at}
use Rattle.bye_node.specs.Steps.{IsEnv, decode, value_at}
use Rattle.bye_node.proofs.Cells.{none_or_some, same_some}
use Rattle.bye_node.proofs.Decoding.{decode_at, decode_lost, decoded, get_in, get_once, in_get}
use Rattle.bye_member.specs.Searches.{IsPinned}
use Rattle.bye_member.specs.Answers.{ArePins, AreRowsBy, IsPinOf}

-- the pin of a variable, and the variable of a pin
pin_of : (ts : List Term) (sel : List Name) (m : Mapping) (vs : List Name) (pins : List Pin) (i : ℕ) (v : Name) → ArePins ts sel m vs pins → slice_get vs i ≡ Some v → IsPinOf ts sel m v (pin_at pins i)
pin_of ts sel m [] [] i v are at = cc
pin_of ts sel m [] (pin ∷ pins) i v are at = absurd are
pin_of ts sel m (w ∷ vs) [] i v are at = absurd are
pin_of ts sel m (w ∷ vs) (pin ∷ pins) zero v are at = subst (λ w. IsPinOf ts sel m w pin) (same_some w v at) are.0
pin_of ts sel m (w ∷ vs) (pin ∷ pins) (suc i) v are at = pin_of ts sel m vs pins i v are.1 at

of_pin : (ts : List Term) (sel : List Name) (m : Mapping) (vs : List Name) (pins : List Pin) (i n : ℕ) → ArePins ts sel m vs pins → pin_at pins i ≡ Must n → (v : Name) × (slice_get vs i ≡ Some v)
of_pin ts sel m [] [] i n are is = cc
of_pin ts sel m [] (pin ∷ pins) i n are is = absurd are
of_pin ts sel m (w ∷ vs) [] i n are is = absurd are
of_pin ts sel m (w ∷ vs) (pin ∷ pins) zero n are is = (w, refl)
of_pin ts sel m (w ∷ vs) (pin ∷ pins) (suc i) n are is = of_pin ts sel m vs pins i n are.1 is

-- a mapping that has the number, or has none, as the pin says
pinned_value : (ts : List Term) (sel : List Name) (m : Mapping) (v : Name) (pin : Pin) (c : Option ℕ) → In sel v → IsPinOf ts sel m v pin
    → ((n : ℕ) → c ≡ Some n → Allows pin n) → ((n : ℕ) → pin ≡ Must n → c ≡ Some n) → m v ≡ value_at ts c
pinned_value ts sel m v Free c s is allowed there = absurd (is s)
pinned_value ts sel m v (Must n) c s (own, t, has, at) allowed there = has ∙ sym (ap (value_at ts) (there n refl) ∙ at)
pinned_value ts sel m v Never None s is allowed there = is.1
pinned_value ts sel m v Never (Some n) s is allowed there = absurd (allowed n refl)

-- what a row says of the pinned variables is allowed by the pins
value_allowed : (ts : List Term) (sel : List Name) (m : Mapping) (v : Name) (pin : Pin) (n : ℕ) → EachOnce ts → n < length ts → IsPinOf ts sel m v pin
    → (In sel v → m v ≡ slice_get ts n) → Allows pin n
value_allowed ts sel m v Free n once used is says = tt
value_allowed ts sel m v (Must k) n once used (own, t, has, at) says = get_once ts n k t once (sym (says own) ∙ has) at
value_allowed ts sel m v Never n once used (own, none) says = there ts n used (sym (says own) ∙ none)
  where
    there : (ts : List Term) (n : ℕ) → n < length ts → slice_get ts n ≡ None → ⊥
    there [] n l e = omega arith
    there (t ∷ ts) zero l e = cc
    there (t ∷ ts) (suc n) l e = there ts n (omega arith) e

-- and has the number that they ask for
value_there : (ts : List Term) (sel : List Name) (m : Mapping) (v : Name) (pin : Pin) (c : Option ℕ) (n : ℕ) → EachOnce ts → pin ≡ Must n → IsPinOf ts sel m v pin
    → (In sel v → m v ≡ value_at ts c) → c ≡ Some n
value_there ts sel m v Free c n once e is says = cc
value_there ts sel m v Never c n once e is says = cc
value_there ts sel m v (Must k) None n once e (own, t, has, at) says = cc (sym has ∙ says own)
value_there ts sel m v (Must k) (Some j) n once e (own, t, has, at) says = let same : j ≡ k = get_once ts j k t once (sym (says own) ∙ has) at in ap Some same ∙ cc

-- a row of the query that the pins ask for
answer_pinned : (vs : List Name) (g : GraphValue) (sel : List Name) (m : Mapping) (pins : List Pin) (y : Cells) → EachOnce vs → EachOnce g.terms → IsEnv vs g y → ArePins g.terms sel m vs pins
    → ((v : Name) → In sel v → m v ≡ decode vs g.terms y v) → IsPinned pins y
answer_pinned vs g sel m pins y once terms env are says = record {
  agrees = record {
    allowed = λ i n h.
        let v = name i n h in
        value_allowed g.terms sel m v.0 (pin_at pins i) n terms (env.used i n h) (pin_of g.terms sel m vs pins i v.0 are v.1)
        (λ own. says v.0 own ∙ decode_at vs g.terms y i v.0 once v.1 ∙ ap (value_at g.terms) h);
  };
  bound = λ i n is.
      let v = of_pin g.terms sel m vs pins i n are is in
      value_there g.terms sel m v.0 (pin_at pins i) (cell y i) n terms is (pin_of g.terms sel m vs pins i v.0 are v.1) (λ own. says v.0 own ∙ decode_at vs g.terms y i v.0 once v.1);
}
  where
    within : (e : Cells) (i n : ℕ) → cell e i ≡ Some n → i < length e
    within [] i n h = cc
    within (c ∷ e) zero n h = omega arith
    within (c ∷ e) (suc i) n h = let l : i < length e = within e i n h in omega arith

    listed : (ws : List Name) (i : ℕ) → i < length ws → (v : Name) × (slice_get ws i ≡ Some v)
    listed [] i l = absurd (omega arith)
    listed (w ∷ ws) zero l = (w, refl)
    listed (w ∷ ws) (suc i) l = listed ws i (omega arith)

    name : (i n : ℕ) → cell y i ≡ Some n → (v : Name) × (slice_get vs i ≡ Some v)
    name i n h = listed vs i (subst (λ (k : ℕ). i < k) env.len (within y i n h))

-- the pins ask for what the mapping says of the selected variables
pinned_answer : (vs : List Name) (g : GraphValue) (sel : List Name) (m : Mapping) (pins : List Pin) (y : Cells) → EachOnce vs → ArePins g.terms sel m vs pins → IsPinned pins y
    → ((v : Name) → Binds m v → In vs v) → (v : Name) → In sel v → m v ≡ decode vs g.terms y v
pinned_answer vs g sel m pins y once are pinned known v own =
    ⊎_elim
    (λ here.
    let w = in_get vs v here in
    pinned_value g.terms sel m v (pin_at pins w.0) (cell y w.0) own (pin_of g.terms sel m vs pins w.0 v are w.1) (pinned.agrees.allowed w.0) (pinned.bound w.0)
    ∙ sym (decode_at vs g.terms y w.0 v once w.1))
    (λ out. ⊎_elim (λ none. none ∙ sym (decode_lost vs g.terms y v out)) (λ w. absurd (out (known v (binds (m v) w.0 w.1)))) (none_or_some (m v)))
    (in_or_not vs v)

pub answers_pinned : (vs : List Name) (g : GraphValue) (q : Select) (Y : Cells → Type 0) (m : Mapping) (pins : List Pin) → EachOnce vs → EachOnce g.terms → AreRowsBy vs g q Y
    → ArePins g.terms q.vars m vs pins → ((v : Name) → Binds m v → In q.vars v × In vs v) → IsAnswer (statements g) q.vars (alg q) m ↔ ((y : Cells) × Y y × IsPinned pins y)
answers_pinned vs g q Y m pins once terms by are known = (
  λ (n, row, e).
      let (y, here, is) = by.whole n row in
      (y, here, answer_pinned vs g q.vars m pins y once terms (by.env y here) are (λ v own. ap (λ m. m v) e ∙ restrict_in q.vars n v own ∙ ap (λ n. n v) is)),
  λ (y, here, pinned). (
    decode vs g.terms y,
    by.row y here,
    agrees_restricted q.vars m (decode vs g.terms y) (λ v h. (known v h).0) (pinned_answer vs g q.vars m pins y once are pinned (λ v h. (known v h).1)),
  ),
)

-- an answer binds selected variables that have numbers, to terms of the graph
pub answer_known : (vs : List Name) (g : GraphValue) (q : Select) (Y : Cells → Type 0) (m : Mapping) (v : Name) (t : Term) → EachOnce vs → AreRowsBy vs g q Y
    → IsAnswer (statements g) q.vars (alg q) m → m v ≡ Some t → In q.vars v × In vs v × In g.terms t
answer_known vs g q Y m v t once by (n, row, e) has =
    let (y, here, is) = by.whole n row in
    let own = (restrict_binds q.vars n v (binds (restrict q.vars n v) t (sym (ap (λ m. m v) e) ∙ has))).0 in
    let value : decode vs g.terms y v ≡ Some t = sym (ap (λ m. m v) e ∙ restrict_in q.vars n v own ∙ ap (λ n. n v) is) ∙ has in
    let w = decoded vs g.terms y v t once value in
    (own, get_in vs w.0 v w.2, get_in g.terms w.1 t w.4)
