-- Answers and rows.
use Rattle.std.proofs.Common.{◌≡◌, refl, List, [], ◌∷◌, inl, ⊎_elim, sym, ◌∙◌, subst}
use Rattle.bye_terms.specs.Members.{In}
use Rattle.bye_terms.specs.Terms.{Statement}
use Rattle.bye_pattern.specs.Algebra.{IsAnswer, IsRow}
use Rattle.bye_table.specs.Mappings.{Binds, Mapping, Name, restrict}
use Rattle.bye_pattern.specs.Trees.{Select, alg, tree_vars}
use Rattle.bye_pattern.proofs.Reaching.{answer_binds}
use Rattle.bye_table.proofs.Merging.{bound, binds, in_or_not, restrict_binds, restrict_in, restrict_tells, restrict_within, unbound}

-- a row binds variables of the tree alone
pub row_binds : (g : List Statement) (q : Select) (n : Mapping) (v : Name) → IsRow g (alg q) n → Binds n v → In (tree_vars q.tree) v
row_binds g q n v row h =
    let one = v ∷ [] in
    let w = bound (n v) h in
    let alone : Select = record { distinct = q.distinct; vars = one; tree = q.tree; outer = q.outer } in
    (answer_binds g alone (restrict one n) v (n, row, refl) (binds (restrict one n v) w.0 (restrict_tells one n v w.0 (inl refl) w.1))).1

-- a mapping is a restriction where it binds no other names and agrees on these
pub agrees_restricted : (vs : List Name) (m n : Mapping) → ((v : Name) → Binds m v → In vs v) → ((v : Name) → In vs v → m v ≡ n v) → m ≡ restrict vs n
agrees_restricted vs m n within same = λ i v. at v i
  where
    at : (v : Name) → m v ≡ restrict vs n v
    at v = ⊎_elim (λ h. same v h ∙ sym (restrict_in vs n v h))
        (λ out. unbound (m v) (λ h. out (within v h)) ∙ sym (unbound (restrict vs n v) (λ h. out (restrict_binds vs n v h).0))) (in_or_not vs v)

-- an answer agrees with a row
pub answer_agrees : (g : List Statement) (q : Select) (m : Mapping) → IsAnswer g q.vars (alg q) m
    → ((v : Name) → Binds m v → In q.vars v) × ((n : Mapping) × IsRow g (alg q) n × ((v : Name) → In q.vars v → m v ≡ n v))
answer_agrees g q m (n, row, e) = (
  (λ v h. (restrict_binds q.vars n v (subst (λ m. Binds m v) e h)).0),
  (n, row, λ v h. (λ i. e i v) ∙ restrict_in q.vars n v h),
)

-- where all variables of the tree are selected, an answer is a row
pub answer_row : (g : List Statement) (q : Select) (m : Mapping) → ((v : Name) → In (tree_vars q.tree) v → In q.vars v) → IsAnswer g q.vars (alg q) m → IsRow g (alg q) m
answer_row g q m all (n, row, e) =
    subst (λ m. IsRow g (alg q) m) (sym (e ∙ sym (restrict_within q.vars n (λ v h. all v (row_binds g q n v row h))))) row

-- and a row an answer
pub row_answer : (g : List Statement) (q : Select) (m : Mapping) → ((v : Name) → In (tree_vars q.tree) v → In q.vars v) → IsRow g (alg q) m → IsAnswer g q.vars (alg q) m
row_answer g q m all row = (m, row, restrict_within q.vars m (λ v h. all v (row_binds g q m v row h)))
