use Rattle.std.proofs.Common.{◌≡◌, refl, ℕ, inl, ◌==◌, Bool, true, false, List, [], ◌∷◌, length, map, not, Some, None, sym, ◌∙◌, ap, subst, arith}
use Rattle.std.specs.Prelude.{find}
use Rattle.std.specs.List.{AllByRecursion, filter}
use Rattle.bye_terms.specs.Terms.{Statement}
use Rattle.bye_terms.specs.Members.{In}
use Rattle.bye_table.specs.Mappings.{Exactly, Name, Pairs, row_mapping}
use Rattle.bye_table.specs.Tables.{IsTable, TableValue}
use Rattle.bye_pattern.specs.Apart.{binds}
use Rattle.bye_pattern.specs.Certificates.{Domains, NoRoot, Uncovered}
use Rattle.bye_pattern.specs.Covering.{covers}
use Rattle.bye_pattern.specs.Patterns.{Pattern}
use Rattle.bye_pattern.specs.Learning.{IsJustRefused, IsLearnedQuery, IsStrongest, common_query}
use Rattle.bye_pattern.proofs.Answered.{apart, learned, one_domain, rootless, uncovered}
use Rattle.bye_pattern.proofs.learner.learn_rows.Goals as goal

-- rows that begin so
begun : (P : TableValue → Type 0) (vs : List Name) (rows : List Pairs) (first : Pairs) (later : List Pairs)
    → (IsTable (record { vars = vs; rows = first ∷ later }) → P (record { vars = vs; rows = first ∷ later })) → rows ≡ first ∷ later → IsTable (record { vars = vs; rows = rows })
    → P (record { vars = vs; rows = rows })
begun P vs rows first later learn e table =
    subst (λ (rows : List Pairs). P (record { vars = vs; rows = rows })) (sym e) (learn (subst (λ (rows : List Pairs). IsTable (record { vars = vs; rows = rows })) e table))

-- whether there is none
no_length : (n : ℕ) (b : Bool) → b ≡ (n == 0) → b ≡ true → n ≡ 0
no_length n b e t = grind arith

no_name : (xs : List Name) (b : Bool) → b ≡ (length xs == 0) → b ≡ true → xs ≡ []
no_name [] b e t = refl
no_name (x ∷ xs) b e t = let n = no_length (length (x ∷ xs)) b e t in absurd (omega (arith, n))

some_name : (xs : List Name) (b : Bool) → b ≡ (length xs == 0) → b ≡ false → xs ≡ [] → ⊥
some_name [] b e f h = cc
some_name (x ∷ xs) b e f h = cc

pub returns-in-Some : goal.returns-in-Some
returns-in-Some c triples begins table =
    begun (λ t. IsJustRefused c.args.graph.now t (Domains 1 c.in-Some.number c.in_ok-copy.field-0))
    c.args.vars.now c.args.rows.now c.args.first.now c.args.later.now
    (λ t. apart c.args.graph.now c.args.vars.now c.args.first.now c.args.later.now c.in-Some.number c.in_ok-copy.field-0 t.over
    (sym c.in-Some.ensures ∙ ap (λ (v : Name). Some (c.in-Some.number, v)) (sym c.in_ok-copy.ensures)))
    begins table

pub returns-then-is_empty : goal.returns-then-is_empty
returns-then-is_empty c triples begins table =
    let none : filter (binds c.args.first.now) c.args.vars.now ≡ [] =
    sym c.in_ok-bound.ensures ∙ sym c.as_slice.ensures.value ∙ no_name c.as_slice.result.now c.is_empty.result c.is_empty.ensures c.if-is_empty.true in
    begun (λ t. IsJustRefused c.args.graph.now t NoRoot)
    c.args.vars.now c.args.rows.now c.args.first.now c.args.later.now
    (λ t. rootless c.args.graph.now c.args.vars.now c.args.first.now c.args.later.now (subst (λ xs. AllByRecursion (Exactly xs) (map row_mapping (c.args.first.now ∷ c.args.later.now))) none
    (one_domain c.args.vars.now c.args.first.now c.args.later.now t.over (sym c.in_default.ensures))))
    begins table

-- what was kept is the strongest over the one domain
strongest_here : (g : List Statement) (vs : List Name) (rows : List Pairs) (first : Pairs) (later : List Pairs) (ps : List Pattern) → AllByRecursion (Exactly vs) (map row_mapping (first ∷ later)) → rows ≡ first ∷ later
    → (AllByRecursion (Exactly vs) (map row_mapping rows) → In rows first → IsStrongest g vs (map row_mapping rows) ps) → IsStrongest g vs (map row_mapping (first ∷ later)) ps
strongest_here g vs rows first later ps all e strongest =
    subst (λ (rows : List Pairs). IsStrongest g vs (map row_mapping rows) ps) e
    (strongest (subst (λ (rows : List Pairs). AllByRecursion (Exactly vs) (map row_mapping rows)) (sym e) all) (subst (λ (rows : List Pairs). In rows first) (sym e) (inl refl)))

pub returns-in-None : goal.returns-in-None
returns-in-None c triples begins table =
    let bound = filter (binds c.args.first.now) c.args.vars.now in
    let some = some_name c.as_slice.result.now c.is_empty.result c.is_empty.ensures c.if-is_empty.false in
    let none : find (λ v. not (covers c.in_ok-triples.triples.items v)) bound ≡ None =
    sym (c.in-None.ensures ∙ (λ i. find {X = Name} (λ v. not (covers (c.as_slice-3.ensures.value i) v)) ((c.as_slice-2.ensures.value ∙ c.in_ok-bound.ensures) i))) in
    begun (λ t. IsLearnedQuery c.args.graph.now t (common_query c.in_ok-bound.bound.items c.in_ok-triples.triples.items))
    c.args.vars.now c.args.rows.now c.args.first.now c.args.later.now
    (λ t.
    let all = one_domain c.args.vars.now c.args.first.now c.args.later.now t.over (sym c.in_default.ensures) in
    subst (λ xs. IsLearnedQuery c.args.graph.now (record { vars = c.args.vars.now; rows = c.args.first.now ∷ c.args.later.now }) (common_query xs c.in_ok-triples.triples.items)) (sym c.in_ok-bound.ensures)
    (learned c.args.graph.now c.args.vars.now c.args.first.now c.args.later.now c.in_ok-triples.triples.items t.once all (λ e. some (c.as_slice.ensures.value ∙ c.in_ok-bound.ensures ∙ e))
    (strongest_here c.args.graph.now bound c.args.rows.now c.args.first.now c.args.later.now c.in_ok-triples.triples.items all begins (c.in_ok-triples.ensures bound triples)) none))
    begins table

pub returns-in_ok-variable-in-Some-first_uncovered : goal.returns-in_ok-variable-in-Some-first_uncovered
returns-in_ok-variable-in-Some-first_uncovered c triples begins table =
    let bound = filter (binds c.args.first.now) c.args.vars.now in
    let some = some_name c.as_slice.result.now c.is_empty.result c.is_empty.ensures c.if-is_empty.false in
    let found : find (λ v. not (covers c.in_ok-triples.triples.items v)) bound ≡ Some c.in_ok-variable-in-Some-first_uncovered.variable =
    sym (ap (λ (v : Name). Some v) c.in_ok-variable-in-Some-first_uncovered.ensures ∙ c.in-Some-first_uncovered.ensures
    ∙ (λ i. find {X = Name} (λ v. not (covers (c.as_slice-3.ensures.value i) v)) ((c.as_slice-2.ensures.value ∙ c.in_ok-bound.ensures) i))) in
    begun (λ t. IsJustRefused c.args.graph.now t (Uncovered c.in_ok-variable-in-Some-first_uncovered.variable))
    c.args.vars.now c.args.rows.now c.args.first.now c.args.later.now
    (λ t.
    let all = one_domain c.args.vars.now c.args.first.now c.args.later.now t.over (sym c.in_default.ensures) in
    uncovered c.args.graph.now c.args.vars.now c.args.first.now c.args.later.now c.in_ok-triples.triples.items c.in_ok-variable-in-Some-first_uncovered.variable t.once all
    (λ e. some (c.as_slice.ensures.value ∙ c.in_ok-bound.ensures ∙ e))
    (strongest_here c.args.graph.now bound c.args.rows.now c.args.first.now c.args.later.now c.in_ok-triples.triples.items all begins (c.in_ok-triples.ensures bound triples)) found)
    begins table
