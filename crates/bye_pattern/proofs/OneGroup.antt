-- The answers of a query of one group, and when such a query fits.
use Rattle.bye_pattern.specs.declared.level.Level.TheVariants.{One}
use Rattle.bye_pattern.specs.declared.level.Level.{Level}
use Rattle.std.proofs.Common.{◌≡◌, refl, List, [], ◌∷◌, ◌++◌, map, ap, Some, ◌⊎◌, inl, inr, ⊎_elim, sym, ◌∙◌, subst, ◌↔◌}
use Rattle.std.specs.Option.{is_some}
use Rattle.std.specs.List.{AllByRecursion}
use Rattle.bye_terms.specs.Terms.{Statement}
use Rattle.bye_terms.specs.Members.{In}
use Rattle.bye_terms.proofs.Members.{in_cases, in_left, in_right, all_in, all_from}
use Rattle.bye_pattern.specs.declared.cond.Cond.{Cond}
use Rattle.bye_table.specs.Mappings.{Name, Mapping, Binds, Exactly}
use Rattle.bye_pattern.specs.Patterns.{Pattern, vars, all_vars, Meets}
use Rattle.bye_pattern.specs.Conditions.{Expr, cond_expr, Holds, AllHold, AllHoldExpr}
use Rattle.bye_pattern.specs.Algebra.{Filter, IsBgpRow, IsRow, IsAnswer}
use Rattle.bye_pattern.specs.Trees.{Tree, node, Forest, leaf, more, body, Select, alg, own_triples, own_conds}
use Rattle.bye_pattern.specs.declared.cond.Cond.TheVariants as conds
use Rattle.bye_pattern.specs.declared.rule.Rule.{Rule}
use Rattle.bye_pattern.specs.declared.rule.Rule.TheVariants.{NoTriples, NoNewVariable, NotWellDesigned, UnsafeCondition}
use Rattle.bye_pattern.specs.Designed.{IsSafe, Keeps, IsWellDesigned}
use Rattle.bye_pattern.specs.Conjuncts.{MeetsCond, Less, Drops, DropsIn, DropsConjunct}
use Rattle.bye_pattern.specs.Classes.{IsClassTriple, HasNoChild, InAnd, InAndPlain}
use Rattle.bye_pattern.specs.Fitting.{Fits, NoFit}
use Rattle.bye_pattern.specs.Common.{IsCommon, IsCovered, IsUncovered}
use Rattle.bye_pattern.specs.Learning.{AreFull, common_query}
use Rattle.bye_pattern.specs.Laws.{MeetsAll, AreCommon}
use Rattle.bye_table.proofs.Merging.{bound, in_or_not, restrict_whole}
use Rattle.bye_pattern.proofs.Solutions.{row_meets, meets_row}

-- the filter of a group with plain conditions alone
pub conds_hold : (cs : List Cond) (m : Mapping) → AllHoldExpr (map cond_expr cs ++ []) m → AllHold cs m
conds_hold [] m h = tt
conds_hold (c ∷ cs) m (h, all) = (h, conds_hold cs m all)

pub hold_conds : (cs : List Cond) (m : Mapping) → AllHold cs m → AllHoldExpr (map cond_expr cs ++ []) m
hold_conds [] m h = tt
hold_conds (c ∷ cs) m (h, all) = (h, hold_conds cs m all)

-- a row of one group
Row : List Statement → List Expr → Tree → Mapping → Type 0
Row g outer t m = IsRow g (Filter (map cond_expr (own_conds t) ++ outer) (body t)) m

row_parts : (g : List Statement) (t : Tree) (outer : List Expr) (m : Mapping) → HasNoChild t → outer ≡ [] → Row g outer t m
    → IsBgpRow g (own_triples t) m × AllHold (own_conds t) m
unfolding Row
row_parts g (node ps cs f) outer m one none row =
    let plain : Row g [] (node ps cs f) m = subst (λ es. Row g es (node ps cs f) m) none row in
    let alone : Row g [] (node ps cs leaf) m = subst (λ f. Row g [] (node ps cs f) m) one plain in
    (alone.0, conds_hold cs m alone.1)

parts_row : (g : List Statement) (t : Tree) (outer : List Expr) (m : Mapping) → HasNoChild t → outer ≡ [] → IsBgpRow g (own_triples t) m → AllHold (own_conds t) m → Row g outer t m
unfolding Row
parts_row g (node ps cs f) outer m one none row all =
    let alone : Row g [] (node ps cs leaf) m = (row, hold_conds cs m all) in
    let plain : Row g [] (node ps cs f) m = subst (λ f. Row g [] (node ps cs f) m) (sym one) alone in
    subst (λ es. Row g es (node ps cs f) m) (sym none) plain

-- in a well-designed root the variables of a condition are those of the triples
root_safe : (t : Tree) → IsWellDesigned t → AllByRecursion (IsSafe [] (own_triples t)) (own_conds t)
root_safe (node ps cs f) designed = designed.0 UnsafeCondition

meets_conds : (m : Mapping) (ps : List Pattern) (cs : List Cond) → ((v : Name) → In (all_vars ps) v → Binds m v) → AllByRecursion (IsSafe [] ps) cs
    → AllHold cs m → AllByRecursion (MeetsCond m) cs
meets_conds m ps [] binds safe all = tt
meets_conds m ps (c ∷ cs) binds (s, safe) (h, all) = (
  ((λ v k. ⊎_elim (λ k. binds v k) (λ k. absurd k) (s v k)), h),
  meets_conds m ps cs binds safe all,
)

conds_met : (m : Mapping) (cs : List Cond) → AllByRecursion (MeetsCond m) cs → AllHold cs m
conds_met m [] all = tt
conds_met m (c ∷ cs) (h, all) = (h.1, conds_met m cs all)

alike : (xs ys : List Name) (m : Mapping) → ((v : Name) → In xs v ↔ In ys v) → Exactly xs m → Exactly ys m
alike xs ys m same exactly = λ v. (λ h. (same v).0 ((exactly v).0 h), λ h. (exactly v).1 ((same v).1 h))

turned : (xs ys : List Name) → ((v : Name) → In xs v ↔ In ys v) → (v : Name) → In ys v ↔ In xs v
turned xs ys same v = ((same v).1, (same v).0)

-- an answer meets the query
pub answer_meets : (level : Level) → (g : List Statement) (q : Select) (m : Mapping) → InAnd level q → IsAnswer g q.vars (alg q) m → MeetsAll g q m
unfolding Row
answer_meets level g q m class (n, row, e) =
    let ps = own_triples q.tree in
    let parts = row_parts g q.tree q.outer n class.one class.outer row in
    let whole = row_meets g ps n parts.0 in
    let exactly = alike (all_vars ps) q.vars n (turned q.vars (all_vars ps) class.selects) whole.0 in
    let is : MeetsAll g q n = record {
      binds = exactly;
      triples = whole.1;
      conds = meets_conds n ps (own_conds q.tree) (λ v h. (whole.0 v).1 h) (root_safe q.tree class.designed) parts.1;
    } in
    subst (MeetsAll g q) (sym (e ∙ sym (restrict_whole q.vars n exactly))) is

-- and what meets the query is an answer
pub meets_answer : (level : Level) → (g : List Statement) (q : Select) (m : Mapping) → InAnd level q → MeetsAll g q m → IsAnswer g q.vars (alg q) m
unfolding Row
meets_answer level g q m class is =
    let ps = own_triples q.tree in
    let row = meets_row g ps m (alike q.vars (all_vars ps) m class.selects is.binds) is.triples in
    (m, parts_row g q.tree q.outer m class.one class.outer row (conds_met m (own_conds q.tree) is.conds), restrict_whole q.vars m is.binds)

-- the variables of a list of patterns
pub in_all_vars : (ps : List Pattern) (v : Name) → In (all_vars ps) v → (p : Pattern) × In ps p × In (vars p) v
in_all_vars [] v h = absurd h
in_all_vars (p ∷ ps) v h =
    ⊎_elim (λ h. (p, inl refl, h)) (λ h. let w = in_all_vars ps v h in (w.0, inr w.1, w.2)) (in_cases (vars p) _ v h)

pub all_vars_in : (ps : List Pattern) (p : Pattern) (v : Name) → In ps p → In (vars p) v → In (all_vars ps) v
all_vars_in [] p v h k = absurd h
all_vars_in (q ∷ ps) p v (inl e) k = in_left _ _ v (subst (λ q. In (vars q) v) (sym e) k)
all_vars_in (q ∷ ps) p v (inr h) k = in_right (vars q) _ v (all_vars_in ps p v h k)

some_in : {X : Type 0} (xs : List X) → (xs ≡ [] → ⊥) → (x : X) × In xs x
some_in [] h = absurd (h refl)
some_in (x ∷ xs) h = (x, inl refl)

-- the triple patterns of a query that fits are common
pub fitting_common : (level : Level) → (g : List Statement) (header : List Name) (wanted : List Mapping) (q : Select) → AreFull header wanted → InAnd level q → Fits g wanted [] q
    → (p : Pattern) → In (own_triples q.tree) p → IsCommon g header wanted p
fitting_common level g header wanted q full class fits p h =
    let ps = own_triples q.tree in
    let w = some_in wanted full.some_row in
    let first = answer_meets level g q w.0 class (all_in (IsAnswer g q.vars (alg q)) wanted w.0 fits.all w.1) in
    record {
      in_class = all_in IsClassTriple ps p class.triples h;
      over = λ v k. ((all_in (Exactly header) wanted w.0 full.bound w.1) v).0 ((first.binds v).1 ((class.selects v).1 (all_vars_in ps p v h k)));
      holds = all_from (λ m. Meets g m p) wanted (λ m k.
          all_in (Meets g m) ps p (answer_meets level g q m class (all_in (IsAnswer g q.vars (alg q)) wanted m fits.all k)).triples h);
    }

-- and they contain each variable
pub fitting_covers : (level : Level) → (g : List Statement) (header : List Name) (wanted : List Mapping) (q : Select) → AreFull header wanted → InAnd level q → Fits g wanted [] q
    → (x : Name) → In header x → IsCovered g header wanted x
fitting_covers level g header wanted q full class fits x h =
    let w = some_in wanted full.some_row in
    let first = answer_meets level g q w.0 class (all_in (IsAnswer g q.vars (alg q)) wanted w.0 fits.all w.1) in
    let at = in_all_vars (own_triples q.tree) x ((class.selects x).0 ((first.binds x).0 (((all_in (Exactly header) wanted w.0 full.bound w.1) x).1 h))) in
    (at.0, fitting_common level g header wanted q full class fits at.0 at.1, at.2)

pub uncovered_none : (g : List Statement) (header : List Name) (wanted : List Mapping) (x : Name) → AreFull header wanted → In header x
    → IsUncovered g header wanted x → NoFit InAndPlain g wanted []
uncovered_none g header wanted x full h uncovered q class fits =
    let c = fitting_covers One g header wanted q full class.in_class fits x h in uncovered c.0 c.1 c.2

-- a root that has a variable and safe conditions keeps the rules
some_pattern : (ps : List Pattern) (v : Name) → In (all_vars ps) v → ps ≡ [] → ⊥
some_pattern [] v h e = h
some_pattern (p ∷ ps) v h e = cc

pub root_rules : (ps : List Pattern) (cs : List Cond) (v : Name) → In (all_vars ps) v → AllByRecursion (IsSafe [] ps) cs → (rule : Rule) → Keeps [] [] [] ps cs rule
root_rules ps cs v h safe NoTriples = some_pattern ps v h
root_rules ps cs v h safe NoNewVariable = (v, (h, λ k. k))
root_rules ps cs v h safe NotWellDesigned = ((λ w k above. above), λ w new beside. beside)
root_rules ps cs v h safe UnsafeCondition = safe

-- the query of all common patterns, where they contain each variable
pub common_class : (g : List Statement) (header : List Name) (wanted : List Mapping) (ps : List Pattern) → AreFull header wanted → AreCommon g header wanted ps
    → ((x : Name) → In header x → IsCovered g header wanted x) → InAndPlain (common_query header ps)
common_class g header wanted ps full common covered =
    let x = some_in header full.some_variable in
    let inside : (v : Name) → In header v → In (all_vars ps) v = λ v h. let c = covered v h in all_vars_in ps c.0 v ((common c.0).1 c.1) c.2 in
    record {
      in_class = record {
        distinct = refl;
        outer = refl;
        designed = (root_rules ps [] x.0 (inside x.0 x.1) tt, tt);
        one = refl;
        triples = all_from IsClassTriple ps (λ p h. ((common p).0 h).in_class);
        conds = tt;
        once = full.distinct;
        selects = λ v. (inside v, λ h. let w = in_all_vars ps v h in ((common w.0).0 w.1).over v w.2);
      };
      no_conds = refl;
    }

pub common_fits : (g : List Statement) (header : List Name) (wanted : List Mapping) (ps : List Pattern) → AreFull header wanted → AreCommon g header wanted ps
    → InAndPlain (common_query header ps) → Fits g wanted [] (common_query header ps)
common_fits g header wanted ps full common class = record {
  all = all_from (IsAnswer g header (alg (common_query header ps))) wanted (λ m k. meets_answer One g (common_query header ps) m class.in_class (record {
    binds = all_in (Exactly header) wanted m full.bound k;
    triples = all_from (Meets g m) ps (λ p h. all_in (λ m. Meets g m p) wanted m ((common p).0 h).holds k);
    conds = tt;
  }));
  none = tt;
}

-- the common patterns contain a variable, or none does
covered_or_not : (g : List Statement) (header : List Name) (wanted : List Mapping) (ps : List Pattern) → AreCommon g header wanted ps → (x : Name)
    → IsCovered g header wanted x ⊎ IsUncovered g header wanted x
covered_or_not g header wanted ps common x =
    ⊎_elim
    (λ h. let w = in_all_vars ps x h in inl (w.0, (common w.0).0 w.1, w.2))
    (λ out. inr (λ p is h. out (all_vars_in ps p x ((common p).1 is) h)))
    (in_or_not (all_vars ps) x)

some_uncovered : (g : List Statement) (header : List Name) (wanted : List Mapping) (ps : List Pattern) → AreCommon g header wanted ps → (vs : List Name)
    → ((x : Name) → In vs x → IsCovered g header wanted x) ⊎ ((x : Name) × In vs x × IsUncovered g header wanted x)
some_uncovered g header wanted ps common [] = inl (λ x h. absurd h)
some_uncovered g header wanted ps common (v ∷ vs) =
    ⊎_elim
    (λ c. ⊎_elim
    (λ all. inl (λ x h. ⊎_elim (λ e. subst (IsCovered g header wanted) e c) (λ k. all x k) h))
    (λ w. inr (w.0, inr w.1, w.2))
    (some_uncovered g header wanted ps common vs))
    (λ u. inr (v, inl refl, u))
    (covered_or_not g header wanted ps common v)

pub none_uncovered : (g : List Statement) (header : List Name) (wanted : List Mapping) (ps : List Pattern) → AreFull header wanted → AreCommon g header wanted ps
    → NoFit InAndPlain g wanted [] → (x : Name) × In header x × IsUncovered g header wanted x
none_uncovered g header wanted ps full common none =
    ⊎_elim
    (λ covered. let class = common_class g header wanted ps full common covered in
    absurd (none (common_query header ps) class (common_fits g header wanted ps full common class)))
    (λ w. w)
    (some_uncovered g header wanted ps common header)

-- fitting, by meeting
fits_meets_each : (level : Level) → (g : List Statement) (q : Select) → InAnd level q → (rows : List Mapping) → AllByRecursion (IsAnswer g q.vars (alg q)) rows → AllByRecursion (MeetsAll g q) rows
fits_meets_each level g q class [] all = tt
fits_meets_each level g q class (m ∷ rows) all = (answer_meets level g q m class all.0, fits_meets_each level g q class rows all.1)

meets_fits_each : (level : Level) → (g : List Statement) (q : Select) → InAnd level q → (rows : List Mapping) → AllByRecursion (MeetsAll g q) rows → AllByRecursion (IsAnswer g q.vars (alg q)) rows
meets_fits_each level g q class [] all = tt
meets_fits_each level g q class (m ∷ rows) all = (meets_answer level g q m class all.0, meets_fits_each level g q class rows all.1)

none_meets : (level : Level) → (g : List Statement) (q : Select) → InAnd level q → (rows : List Mapping) → AllByRecursion (λ m. IsAnswer g q.vars (alg q) m → ⊥) rows → AllByRecursion (λ m. MeetsAll g q m → ⊥) rows
none_meets level g q class [] all = tt
none_meets level g q class (m ∷ rows) all = ((λ h. all.0 (meets_answer level g q m class h)), none_meets level g q class rows all.1)

none_answers : (level : Level) → (g : List Statement) (q : Select) → InAnd level q → (rows : List Mapping) → AllByRecursion (λ m. MeetsAll g q m → ⊥) rows → AllByRecursion (λ m. IsAnswer g q.vars (alg q) m → ⊥) rows
none_answers level g q class [] all = tt
none_answers level g q class (m ∷ rows) all = ((λ h. all.0 (answer_meets level g q m class h)), none_answers level g q class rows all.1)

pub fits_meets : (level : Level) → (g : List Statement) (wanted unwanted : List Mapping) (q : Select) → InAnd level q → Fits g wanted unwanted q
    → AllByRecursion (MeetsAll g q) wanted × AllByRecursion (λ m. MeetsAll g q m → ⊥) unwanted
fits_meets level g wanted unwanted q class fits = (fits_meets_each level g q class wanted fits.all, none_meets level g q class unwanted fits.none)

pub meets_fits : (level : Level) → (g : List Statement) (wanted unwanted : List Mapping) (q : Select) → InAnd level q → AllByRecursion (MeetsAll g q) wanted × AllByRecursion (λ m. MeetsAll g q m → ⊥) unwanted
    → Fits g wanted unwanted q
meets_fits level g wanted unwanted q class h = record { all = meets_fits_each level g q class wanted h.0; none = none_answers level g q class unwanted h.1 }

-- without a conjunct
less_all : {X : Type 0} (P : X → Type 0) (xs ys : List X) → Less xs ys → AllByRecursion P xs → AllByRecursion P ys
less_all P [] ys h all = absurd h
less_all P (x ∷ xs) ys (inl e) all = subst (AllByRecursion P) (sym e) all.1
less_all P (x ∷ xs) ys (inr (zs, less, e)) all = subst (AllByRecursion P) (sym e) (all.0, less_all P xs zs less all.1)

no_drop_below : (f e : Forest) → f ≡ leaf → DropsIn f e → ⊥
no_drop_below leaf e one h = h
no_drop_below (more t f) e one h = cc

drop_meets : (g : List Statement) (m : Mapping) (t u : Tree) → HasNoChild t → Drops t u → AllByRecursion (Meets g m) (own_triples t) → AllByRecursion (MeetsCond m) (own_conds t)
    → AllByRecursion (Meets g m) (own_triples u) × AllByRecursion (MeetsCond m) (own_conds u)
drop_meets g m (node ps cs f) u one (inl (qs, less, e)) ts ds =
    subst (λ u. AllByRecursion (Meets g m) (own_triples u) × AllByRecursion (MeetsCond m) (own_conds u)) (sym e) (less_all (Meets g m) ps qs less ts, ds)
drop_meets g m (node ps cs f) u one (inr (inl (es, less, e))) ts ds =
    subst (λ u. AllByRecursion (Meets g m) (own_triples u) × AllByRecursion (MeetsCond m) (own_conds u)) (sym e) (ts, less_all (MeetsCond m) cs es less ds)
drop_meets g m (node ps cs f) u one (inr (inr (e, drops, is))) ts ds = absurd (no_drop_below f e one drops)

pub dropped_answer : (level : Level) → (g : List Statement) (q r : Select) (m : Mapping) → InAnd level q → InAnd level r → DropsConjunct q r → IsAnswer g q.vars (alg q) m → IsAnswer g r.vars (alg r) m
dropped_answer level g q r m class rest (t, drops, e) answer =
    let is = answer_meets level g q m class answer in
    let w = drop_meets g m q.tree t class.one drops is.triples is.conds in
    let tree : r.tree ≡ t = ap (λ (s : Select). s.tree) e in
    let vars : r.vars ≡ q.vars = ap (λ (s : Select). s.vars) e in
    meets_answer level g r m rest (record {
      binds = subst (λ vs. Exactly vs m) (sym vars) is.binds;
      triples = subst (λ t. AllByRecursion (Meets g m) (own_triples t)) (sym tree) w.0;
      conds = subst (λ t. AllByRecursion (MeetsCond m) (own_conds t)) (sym tree) w.1;
    })

pub bound_true : (g : List Statement) (ps : List Pattern) (m : Mapping) (v : Name) → IsBgpRow g ps m → In (all_vars ps) v → Holds m (conds.Bound v)
bound_true g ps m v row h = let w = bound (m v) (((row_meets g ps m row).0 v).1 h) in ap (λ o. Some (is_some o)) w.1
