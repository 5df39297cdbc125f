-- Rows by numbers on the selected variables are the answers.
use Rattle.std.proofs.Common.{◌≡◌, refl, ℕ, zero, suc, ◌<◌, cond, ◌||◌, List, [], ◌∷◌, map, Option, Some, None, inl, inr, ⊎_elim, sym, ◌∙◌, ap, subst, length, get_or, slice_get, arith}
use Rattle.std.specs.Str.{bytes_eq}
use Rattle.std.proofs.lemmas.List.{get_or_past, same_lists}
use Rattle.std.proofs.lemmas.Slice.Eq.{bytes_eq-Decides}
use Rattle.bye_terms.specs.declared.term.Term.{Term}
use Rattle.bye_terms.specs.Members.{In, EachOnce}
use Rattle.bye_terms.proofs.Lists.{in_map, map_in}
use Rattle.bye_terms.proofs.Tests.{bool_cases}
use Rattle.bye_table.specs.Mappings.{Mapping, Name, is_in, restrict}
use Rattle.bye_pattern.specs.Algebra.{IsAnswer}
use Rattle.bye_pattern.specs.Trees.{Select, alg}
use Rattle.bye_graph.specs.Graphs.{GraphValue, statements}
use Rattle.bye_node.specs.Envs.{Cells, cell}
use Rattle.bye_node.specs.Steps.{IsEnv, decode, value_at}
use Rattle.bye_node.proofs.Decoding.{decode_at, decode_lost, get_below, get_once}
use Rattle.bye_member.specs.Lines.{project}
use Rattle.bye_member.specs.Answers.{AreOf, ArePlaces, AreRowsBy, IsPlaceOf}

-- a selected variable
place_value : (vs : List Name) (ts : List Term) (y : Cells) (v : Name) (i : ℕ) → EachOnce vs → length y ≡ length vs → IsPlaceOf vs v i → value_at ts (cell y i) ≡ decode vs ts y v
place_value vs ts y v i once len (inl at) = sym (decode_at vs ts y i v once at)
place_value vs ts y v i once len (inr (out, past)) = ap (value_at ts) (get_or_past y i None (omega arith)) ∙ sym (decode_lost vs ts y v out)

project_at : (vs sel : List Name) (places : List ℕ) (ts : List Term) (y : Cells) (v : Name) → EachOnce vs → length y ≡ length vs → ArePlaces vs sel places
    → decode sel ts (project places y) v ≡ restrict sel (decode vs ts y) v
project_at vs [] [] ts y v once len are = refl
project_at vs [] (i ∷ places) ts y v once len are = absurd are
project_at vs (w ∷ sel) [] ts y v once len are = absurd are
project_at vs (w ∷ sel) (i ∷ places) ts y v once len are =
    ⊎_elim
    (λ t. ap (λ b. cond b (value_at ts (cell y i)) (decode sel ts (project places y) v)) t
    ∙ place_value vs ts y w i once len are.0 ∙ ap (decode vs ts y) ((bytes_eq-Decides w v).0 t)
    ∙ sym (ap (λ b. cond (b || is_in sel v) (decode vs ts y v) None) t))
    (λ f. ap (λ b. cond b (value_at ts (cell y i)) (decode sel ts (project places y) v)) f
    ∙ project_at vs sel places ts y v once len are.1
    ∙ sym (ap (λ b. cond (b || is_in sel v) (decode vs ts y v) None) f))
    (bool_cases (bytes_eq w v))

project_is : (vs sel : List Name) (places : List ℕ) (ts : List Term) (y : Cells) → EachOnce vs → length y ≡ length vs → ArePlaces vs sel places
    → decode sel ts (project places y) ≡ restrict sel (decode vs ts y)
project_is vs sel places ts y once len are = λ i v. project_at vs sel places ts y v once len are i

-- its numbers are those of terms again
project_cell : (places : List ℕ) (y : Cells) (j n : ℕ) → cell (project places y) j ≡ Some n → (i : ℕ) × (cell y i ≡ Some n)
project_cell [] y j n h = cc
project_cell (i ∷ places) y zero n h = (i, h)
project_cell (i ∷ places) y (suc j) n h = project_cell places y j n h

project_len : (vs sel : List Name) (places : List ℕ) (y : Cells) → ArePlaces vs sel places → length (project places y) ≡ length sel
project_len vs [] [] y are = refl
project_len vs [] (i ∷ places) y are = absurd are
project_len vs (w ∷ sel) [] y are = absurd are
project_len vs (w ∷ sel) (i ∷ places) y are = ap suc (project_len vs sel places y are.1)

project_env : (vs sel : List Name) (g : GraphValue) (places : List ℕ) (y : Cells) → ArePlaces vs sel places → IsEnv vs g y → IsEnv sel g (project places y)
project_env vs sel g places y are env = record {
  len = project_len vs sel places y are;
  used = λ j n h. let w = project_cell places y j n h in env.used w.0 n w.1;
}

-- the rows of a query on the selected variables are its answers
pub only_answers : (vs : List Name) (g : GraphValue) (q : Select) (Y : Cells → Type 0) (places : List ℕ) (rows : List Cells) → EachOnce vs → AreRowsBy vs g q Y → ArePlaces vs q.vars places
    → AreOf places Y rows → (m : Mapping) → In (map (decode q.vars g.terms) rows) m → IsAnswer (statements g) q.vars (alg q) m
only_answers vs g q Y places rows once by are of m h =
    let w = in_map (decode q.vars g.terms) rows m h in
    let (y, here, e) = of w.0 w.1 in
    (decode vs g.terms y, by.row y here, sym w.2 ∙ ap (decode q.vars g.terms) e ∙ project_is vs q.vars places g.terms y once (by.env y here).len are)

pub all_answers : (vs : List Name) (g : GraphValue) (q : Select) (Y : Cells → Type 0) (places : List ℕ) (rows : List Cells) → EachOnce vs → AreRowsBy vs g q Y → ArePlaces vs q.vars places
    → ((y : Cells) → Y y → In rows (project places y)) → (m : Mapping) → IsAnswer (statements g) q.vars (alg q) m → In (map (decode q.vars g.terms) rows) m
all_answers vs g q Y places rows once by are all m (n, row, e) =
    let (y, here, is) = by.whole n row in
    let same : decode q.vars g.terms (project places y) ≡ m = project_is vs q.vars places g.terms y once (by.env y here).len are ∙ sym (e ∙ ap (restrict q.vars) is) in
    subst (In (map (decode q.vars g.terms) rows)) same (map_in (decode q.vars g.terms) rows (project places y) (all y here))

-- different rows by numbers are different mappings
term_there : (ts : List Term) (k : ℕ) → k < length ts → slice_get ts k ≡ None → ⊥
term_there [] k l e = omega arith
term_there (t ∷ ts) zero l e = cc
term_there (t ∷ ts) (suc k) l e = term_there ts k (omega arith) e

value_same : (ts : List Term) (a b : Option ℕ) → EachOnce ts → ((k : ℕ) → a ≡ Some k → k < length ts) → ((k : ℕ) → b ≡ Some k → k < length ts) → value_at ts a ≡ value_at ts b → a ≡ b
value_same ts None None once x y e = refl
value_same ts None (Some k) once x y e = absurd (term_there ts k (y k refl) (sym e))
value_same ts (Some k) None once x y e = absurd (term_there ts k (x k refl) e)
value_same ts (Some j) (Some k) once x y e = same (slice_get ts j) refl
  where
    same : (o : Option Term) → slice_get ts j ≡ o → Some j ≡ Some k
    same None n = absurd (term_there ts j (x j refl) n)
    same (Some t) at = ap Some (get_once ts j k t once at (sym e ∙ at))

decode_same : (sel : List Name) (g : GraphValue) (a b : Cells) → EachOnce sel → EachOnce g.terms → IsEnv sel g a → IsEnv sel g b → decode sel g.terms a ≡ decode sel g.terms b → a ≡ b
decode_same sel g a b once terms x y e =
    same_lists a b (x.len ∙ sym y.len) (λ i d l.
    let k : i < length sel = subst (λ (m : ℕ). i < m) x.len l in
    let at = get_below sel i [] k in
    let v : Name = get_or sel i [] in
    let same : value_at g.terms (cell a i) ≡ value_at g.terms (cell b i) = sym (decode_at sel g.terms a i v once at) ∙ ap (λ m. m v) e ∙ decode_at sel g.terms b i v once at in
    get_any a i d None l ∙ value_same g.terms (cell a i) (cell b i) terms (λ j h. x.used i j h) (λ j h. y.used i j h) same
    ∙ sym (get_any b i d None (subst (λ (m : ℕ). i < m) (x.len ∙ sym y.len) l)))
  where
    get_any : {X : Type 0} (xs : List X) (k : ℕ) (d e : X) → k < length xs → get_or xs k d ≡ get_or xs k e
    get_any [] k d e l = absurd (omega arith)
    get_any (x ∷ xs) zero d e l = refl
    get_any (x ∷ xs) (suc k) d e l = get_any xs k d e (omega arith)

once_mapped : {X Y : Type 0} (f : X → Y) (xs : List X) → ((a b : X) → In xs a → In xs b → f a ≡ f b → a ≡ b) → EachOnce xs → EachOnce (map f xs)
once_mapped f [] same once = tt
once_mapped f (x ∷ xs) same once = (
  (λ h. let w = in_map f xs (f x) h in once.0 (subst (In xs) (same w.0 x (inr w.1) (inl refl) w.2) w.1)),
  once_mapped f xs (λ a b i j e. same a b (inr i) (inr j) e) once.1,
)

pub answers_once : (vs : List Name) (g : GraphValue) (q : Select) (Y : Cells → Type 0) (places : List ℕ) (rows : List Cells) → EachOnce q.vars → EachOnce g.terms → AreRowsBy vs g q Y
    → ArePlaces vs q.vars places → AreOf places Y rows → EachOnce rows → EachOnce (map (decode q.vars g.terms) rows)
answers_once vs g q Y places rows once terms by are of each =
    once_mapped (decode q.vars g.terms) rows (λ a b i j e. decode_same q.vars g a b once terms (env a i) (env b j) e) each
  where
    env : (r : Cells) → In rows r → IsEnv q.vars g r
    env r h = let (y, here, e) = of r h in subst (IsEnv q.vars g) (sym e) (project_env vs q.vars g places y are (by.env y here))
