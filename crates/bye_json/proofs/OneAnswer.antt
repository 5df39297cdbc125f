-- Bytes have one answer.
use Rattle.std.proofs.Common.{◌≡◌, refl, ℕ, ◌<◌, ◌≤◌, Bool, true, false, cond, nat_lt, List, ◌∷◌, ◌++◌, length, Option, Some, None, IsSome, inl, inr, ⊎_elim, sym, ap, ◌∙◌, subst, arith}
use Rattle.std.specs.Str.{is_utf8}
use Rattle.std.proofs.lemmas.Str.{is_utf8-from_IsUtf8, IsUtf8-from_is_utf8}
use Rattle.std.specs.declared.result.Result.{Result}
use Rattle.std.specs.declared.result.Result.TheVariants.{Ok, Err}
use Rattle.serde_json.specs.Data.{Data}
use Rattle.serde_json.specs.Read.{read}
use Rattle.bye_terms.specs.Members.{EachOnce, In}
use Rattle.bye_terms.specs.Reading.{◌>>=◌}
use Rattle.bye_terms.proofs.Tests.{bool_cases, not_both}
use Rattle.bye_table.specs.Mappings.{Name, Pairs}
use Rattle.bye_table.specs.Tables.{TableValue, distinct}
use Rattle.bye_table.proofs.RowNames.{distinct_once}
use Rattle.bye_json.specs.Answers.{HasBadRow, HasBadVariable, HasLists, HasNames, IsBadRow, IsFirst, IsNoName, IsNoTerm, IsUnlisted, JsonAnswer}
use Rattle.bye_json.specs.Documents.{AreNames, Lists, cell_of, is_listed, lists_of, name_of, pairs_of, row_of}
use Rattle.bye_json.specs.Laws.{OneAnswer}
use Rattle.bye_json.specs.Trees.{IsJson, collect}
use Rattle.bye_json.specs.declared.json_err.JsonErr.{JsonErr}
use Rattle.bye_json.specs.declared.json_err.JsonErr.TheVariants as faults
use Rattle.bye_json.proofs.OneTable.{one_table, same_lists, same_result, same_tree}
use Rattle.bye_json.proofs.Steps.{collected_length}
use Rattle.bye_json.proofs.Splits.{collects_around, first_same, gathers_one, once_apart}

none_some : {A : Type 0} {P : Type 0} (o : Option A) (x : A) → o ≡ None → o ≡ Some x → P
none_some o x e h = let k : ◌≡◌ {A = Option _} None (Some x) = sym e ∙ h in cc

-- the value that is there
there : {A : Type 0} (o : Option A) → IsSome o → (x : A) × (o ≡ Some x)
there None h = cc
there (Some x) h = (x, refl)

-- a value that is no name after others makes them no list of names
no_names : (front : List Data) (d : Data) (later : List Data) (vars : List Name) → IsNoName front d → AreNames (front ++ d ∷ later) vars → ⊥
no_names front d later vars bad are =
    let p = collects_around name_of front d later vars are.0 in
    let same : p.before ≡ bad.0 = same_result refl p.front_is bad.1.0 in
    once_apart p.before p.one p.after (subst EachOnce p.both are.1) (subst (λ vs. In vs p.one) (sym same) (bad.2 p.one p.one_is))

-- nor is one that is no row a row of a list of rows
no_rows : (vars : List Name) (front : List Data) (b : Data) (later : List Data) → row_of vars b ≡ None → IsSome (collect (row_of vars) (front ++ b ∷ later)) → ⊥
no_rows vars front b later e h =
    let all = there (collect (row_of vars) (front ++ b ∷ later)) h in
    let p = collects_around (row_of vars) front b later all.0 all.1 in
    none_some (row_of vars b) p.one e p.one_is

unlisted_row : (vars : List Name) (b : Data) → is_listed vars b ≡ false → row_of vars b ≡ None
unlisted_row vars b e = ap (λ t. cond t (pairs_of vars b) None) e

no_pairs : (b : Data) (front : List Name) (v : Name) (rest : List Name) (o : Option Pairs) → cell_of b v ≡ None → pairs_of (front ++ v ∷ rest) b ≡ o → o ≡ None
no_pairs b front v rest None e h = refl
no_pairs b front v rest (Some pairs) e h = let w = gathers_one (cell_of b) front v rest pairs h in none_some (cell_of b v) w.0 e w.1

bad_term_row : (vars : List Name) (b : Data) (i : ℕ) → is_listed vars b ≡ true → IsFirst (IsNoTerm b) vars i → row_of vars b ≡ None
bad_term_row vars b i e f =
    ap (λ t. cond t (pairs_of vars b) None) e ∙ ap (λ vars. pairs_of vars b) f.parts ∙ no_pairs b f.front f.one f.rest (pairs_of (f.front ++ f.one ∷ f.rest) b) f.wrong.1 refl

no_pairs_there : (b : Data) (front : List Name) (v : Name) (later : List Name) → cell_of b v ≡ None → IsSome (pairs_of (front ++ v ∷ later) b) → ⊥
no_pairs_there b front v later e h = let all = there (pairs_of (front ++ v ∷ later) b) h in none_some _ all.0 (no_pairs b front v later _ e refl) all.1

-- what there is of a document decides how far its reading goes
parsed : List ℕ → Option Data
parsed bytes = cond (is_utf8 bytes) (read bytes) None

is_parsed : (bytes : List ℕ) (d : Data) → IsJson bytes d → parsed bytes ≡ Some d
unfolding parsed
is_parsed bytes d json = ap (λ b. cond b (read bytes) None) (is_utf8-from_IsUtf8 bytes json.0) ∙ json.1

not_parsed : (bytes : List ℕ) → ((d : Data) → IsJson bytes d → ⊥) → parsed bytes ≡ None
unfolding parsed
not_parsed bytes bad =
    ⊎_elim (λ e. ap (λ b. cond b (read bytes) None) e ∙ step (read bytes) (λ d h. bad d (IsUtf8-from_is_utf8 bytes e, h))) (λ e. ap (λ b. cond b (read bytes) None) e) (bool_cases (is_utf8 bytes))
  where
    step : (o : Option Data) → ((d : Data) → o ≡ Some d → ⊥) → o ≡ None
    step None bad = refl
    step (Some d) bad = absurd (bad d refl)

as_names : List Data → Option (List Name)
as_names ds = collect name_of ds >>= (λ vars. cond (distinct vars) (Some vars) None)

are_names : (ds : List Data) (vars : List Name) → AreNames ds vars → as_names ds ≡ Some vars
unfolding as_names
are_names ds vars are =
    ap (λ o. o >>= (λ vars. cond (distinct vars) (Some vars) None)) are.0 ∙ ap (λ b. cond b (Some vars) None) ((distinct_once vars).1 are.1)

are_none : (ds : List Data) → ((vars : List Name) → AreNames ds vars → ⊥) → as_names ds ≡ None
unfolding as_names
are_none ds bad = step (collect name_of ds) refl
  where
    step : (o : Option (List Name)) → collect name_of ds ≡ o → (o >>= (λ vars. cond (distinct vars) (Some vars) None)) ≡ None
    step None e = refl
    step (Some vars) e =
        ⊎_elim (λ once. absurd (bad vars (e, (distinct_once vars).0 once))) (λ repeated. ap (λ b. cond b (Some vars) None) repeated) (bool_cases (distinct vars))

abbrev rank_rows : Option (List Pairs) → ℕ
rank_rows None = 5
rank_rows (Some rows) = 6

abbrev rank_names : ℕ → List Data → Option (List Name) → ℕ
rank_names rows bindings None = 3
rank_names rows bindings (Some names) = cond (nat_lt rows (length bindings)) 4 (rank_rows (collect (row_of names) bindings))

abbrev rank_lists : ℕ → ℕ → Option Lists → ℕ
rank_lists vars rows None = 1
rank_lists vars rows (Some l) = cond (nat_lt vars (length l.vars)) 2 (rank_names rows l.bindings (as_names l.vars))

abbrev rank_tree : ℕ → ℕ → Option Data → ℕ
rank_tree vars rows None = 0
rank_tree vars rows (Some d) = rank_lists vars rows (lists_of d)

abbrev rank_of : List ℕ → ℕ → ℕ → ℕ
rank_of bytes vars rows = rank_tree vars rows (parsed bytes)

-- how far a reader with this answer went
abbrev rank : Result TableValue JsonErr → ℕ
rank (Ok table) = 6
rank (Err faults.NotJson) = 0
rank (Err faults.NotBindings) = 1
rank (Err (faults.BadVariable i)) = 3
rank (Err (faults.Unlisted row)) = 5
rank (Err (faults.BadTerm row i)) = 5
rank (Err faults.TooManyVars) = 2
rank (Err faults.TooManyRows) = 4
rank (Err faults.Memory) = 7

rank_of_tree : (bytes : List ℕ) (vars rows : ℕ) (d : Data) → IsJson bytes d → rank_of bytes vars rows ≡ rank_lists vars rows (lists_of d)
rank_of_tree bytes vars rows d json = ap (rank_tree vars rows) (is_parsed bytes d json)

rank_of_lists : (bytes : List ℕ) (vars rows : ℕ) (lists : Lists) (b : Bool) → HasLists bytes lists → nat_lt vars (length lists.vars) ≡ b
    → rank_of bytes vars rows ≡ cond b 2 (rank_names rows lists.bindings (as_names lists.vars))
rank_of_lists bytes vars rows lists b has e =
    rank_of_tree bytes vars rows has.tree has.json ∙ ap (rank_lists vars rows) has.has ∙ ap (λ b. cond b 2 (rank_names rows lists.bindings (as_names lists.vars))) e

at_most : (n m : ℕ) → n ≤ m → nat_lt m n ≡ false
at_most n m h = grind arith

rank_of_names : (bytes : List ℕ) (vars rows : ℕ) (lists : Lists) (names : List Name) (b : Bool) → HasNames bytes vars lists names → nat_lt rows (length lists.bindings) ≡ b
    → rank_of bytes vars rows ≡ cond b 4 (rank_rows (collect (row_of names) lists.bindings))
rank_of_names bytes vars rows lists names b has e =
    rank_of_lists bytes vars rows lists false has.has (at_most (length lists.vars) vars has.within)
    ∙ ap (rank_names rows lists.bindings) (are_names lists.vars names has.are) ∙ ap (λ b. cond b 4 (rank_rows (collect (row_of names) lists.bindings))) e

more_than : (n m : ℕ) → m < n → nat_lt m n ≡ true
more_than n m h = grind arith

no_rows_at_all : (vars : List Name) (bindings front : List Data) (b : Data) (rest : List Data) (o : Option (List Pairs)) → bindings ≡ front ++ b ∷ rest → row_of vars b ≡ None → collect (row_of vars) bindings ≡ o
    → rank_rows o ≡ 5
no_rows_at_all vars bindings front b rest None parts e is = refl
no_rows_at_all vars bindings front b rest (Some rows) parts e is =
    absurd (no_rows vars front b rest e (subst (λ ds. IsSome (collect (row_of vars) ds)) parts (subst (λ o. IsSome o) (sym is) refl)))

rank_of_bad_row : (Wrong : List Name → List Data → Data → Type 0) (bytes : List ℕ) (vars rows number : ℕ) (bad : HasBadRow Wrong bytes vars rows number) → row_of bad.names bad.first.one ≡ None → rank_of bytes vars rows ≡ 5
rank_of_bad_row Wrong bytes vars rows number bad e =
    rank_of_names bytes vars rows bad.lists bad.names false bad.are (at_most (length bad.lists.bindings) rows bad.within)
    ∙ no_rows_at_all bad.names bad.lists.bindings bad.first.front bad.first.one bad.first.rest _ bad.first.parts e refl

rank_is : (bytes : List ℕ) (vars rows : ℕ) (answer : Result TableValue JsonErr) → JsonAnswer bytes vars rows answer → (answer ≡ Err faults.Memory → ⊥) → rank_of bytes vars rows ≡ rank answer
rank_is bytes vars rows (Ok table) is known =
    let shape = is.doc.shape in
    let names : length table.vars ≡ length shape.lists.vars = collected_length name_of shape.lists.vars table.vars shape.names.0 in
    let all : length table.rows ≡ length shape.lists.bindings = collected_length (row_of table.vars) shape.lists.bindings table.rows shape.rows in
    let least = is.vars_within in
    let most = is.rows_within in
    rank_of_names bytes vars rows shape.lists table.vars false
    (record { has = record { tree = is.doc.tree; json = is.doc.json; has = shape.has }; within = omega arith; are = shape.names })
    (at_most (length shape.lists.bindings) rows (omega arith))
    ∙ ap rank_rows shape.rows
rank_is bytes vars rows (Err faults.NotJson) is known = ap (rank_tree vars rows) (not_parsed bytes is)
rank_is bytes vars rows (Err faults.NotBindings) is known = rank_of_tree bytes vars rows is.tree is.json ∙ ap (rank_lists vars rows) is.none
rank_is bytes vars rows (Err (faults.BadVariable i)) is known =
    rank_of_lists bytes vars rows is.lists false is.has (at_most (length is.lists.vars) vars is.within)
    ∙ ap (rank_names rows is.lists.bindings)
    (are_none is.lists.vars (λ names are. no_names is.first.front is.first.one is.first.rest names is.first.wrong (subst (λ ds. AreNames ds names) is.first.parts are)))
rank_is bytes vars rows (Err (faults.Unlisted row)) is known = rank_of_bad_row IsUnlisted bytes vars rows row is (unlisted_row is.names is.first.one is.first.wrong.1)
rank_is bytes vars rows (Err (faults.BadTerm row i)) is known =
    rank_of_bad_row (λ names. IsBadRow names i) bytes vars rows row is (bad_term_row is.names is.first.one i is.first.wrong.1 is.first.wrong.2)
rank_is bytes vars rows (Err faults.TooManyVars) is known = rank_of_lists bytes vars rows is.lists true is.has (more_than (length is.lists.vars) vars is.many)
rank_is bytes vars rows (Err faults.TooManyRows) is known = rank_of_names bytes vars rows is.lists is.names true is.are (more_than (length is.lists.bindings) rows is.many)
rank_is bytes vars rows (Err faults.Memory) is known = absurd (known refl)

-- the numbers of faults
same_variable : (bytes : List ℕ) (vars i j : ℕ) → HasBadVariable bytes vars i → HasBadVariable bytes vars j → i ≡ j
same_variable bytes vars i j one other =
    let lists = same_lists one.has.tree other.has.tree one.lists other.lists (same_tree bytes one.has.tree other.has.tree one.has.json other.has.json) one.has.has other.has.has in
    let moved = subst (λ (l : Lists). IsFirst IsNoName l.vars j) (sym lists) other.first in
    let apart = λ (front : List Data) (x : Data) (later : List Data) (y : Data) (bad : IsNoName front x) (next : IsNoName (front ++ x ∷ later) y). no_names front x later next.0 bad next.1 in
    (first_same IsNoName IsNoName one.lists.vars i j one.first moved apart apart).number

-- two wrong rows are the same one
record SameRow (Bad : List Name → List Data → Data → Type 0) (names : List Name) (front : List Data) (row : Data) (m n : ℕ) : Type 0 where
  pub number : m ≡ n
  pub bad : Bad names front row

-- such a row is none, and rows stand before it
record IsWrongRow (Wrong : List Name → List Data → Data → Type 0) : Type 0 where
  pub none : (names : List Name) (front : List Data) (b : Data) → Wrong names front b → row_of names b ≡ None
  pub before : (names : List Name) (front : List Data) (b : Data) → Wrong names front b → IsSome (collect (row_of names) front)

same_row : (Wrong Bad : List Name → List Data → Data → Type 0) (bytes : List ℕ) (vars rows m n : ℕ) → IsWrongRow Wrong → IsWrongRow Bad
    → (one : HasBadRow Wrong bytes vars rows m) → HasBadRow Bad bytes vars rows n → SameRow Bad one.names one.first.front one.first.one m n
same_row Wrong Bad bytes vars rows m n wrong bad one other =
    let a = one.are.has in
    let b = other.are.has in
    let lists = same_lists a.tree b.tree one.lists other.lists (same_tree bytes a.tree b.tree a.json b.json) a.has b.has in
    let names = same_result (ap (λ (l : Lists). collect name_of l.vars) lists) one.are.are.0 other.are.are.0 in
    let moved = subst (λ (l : Lists). IsFirst (Bad one.names) l.bindings n) (sym lists) (subst (λ names. IsFirst (Bad names) other.lists.bindings n) (sym names) other.first) in
    let same = first_same (Wrong one.names) (Bad one.names) one.lists.bindings m n one.first moved
    (λ front x later y w v. no_rows one.names front x later (wrong.none one.names front x w) (bad.before one.names (front ++ x ∷ later) y v))
    (λ front x later y w v. no_rows one.names front x later (bad.none one.names front x w) (wrong.before one.names (front ++ x ∷ later) y v)) in
    record { number = same.number; bad = subst (λ front. Bad one.names front one.first.one) (sym same.front) (subst (λ b. Bad one.names moved.front b) (sym same.one) moved.wrong) }

unlisted_wrong : IsWrongRow IsUnlisted
unlisted_wrong = record { none = λ names front b w. unlisted_row names b w.1; before = λ names front b w. w.0 }

bad_term_wrong : (i : ℕ) → IsWrongRow (λ names. IsBadRow names i)
bad_term_wrong i = record { none = λ names front b w. bad_term_row names b i w.1 w.2; before = λ names front b w. w.0 }

same_term : (names : List Name) (b : Data) (i j : ℕ) → IsFirst (IsNoTerm b) names i → IsFirst (IsNoTerm b) names j → i ≡ j
same_term names b i j one other =
    let apart = λ (front : List Name) (x : Name) (later : List Name) (y : Name) (bad : IsNoTerm b front x) (next : IsNoTerm b (front ++ x ∷ later) y). no_pairs_there b front x later bad.1 next.0 in
    (first_same (IsNoTerm b) (IsNoTerm b) names i j one other apart apart).number

pub one_answer : OneAnswer
one_answer bytes vars rows (Err faults.Memory) other is was = inl refl
one_answer bytes vars rows answer (Err faults.Memory) is was = inr (inl refl)
one_answer bytes vars rows (Ok one) (Ok other) is was = inr (inr (ap (λ t. Ok t) (one_table bytes one other is.doc was.doc)))
one_answer bytes vars rows (Err faults.NotJson) (Err faults.NotJson) is was = inr (inr refl)
one_answer bytes vars rows (Err faults.NotBindings) (Err faults.NotBindings) is was = inr (inr refl)
one_answer bytes vars rows (Err faults.TooManyVars) (Err faults.TooManyVars) is was = inr (inr refl)
one_answer bytes vars rows (Err faults.TooManyRows) (Err faults.TooManyRows) is was = inr (inr refl)
one_answer bytes vars rows (Err (faults.BadVariable i)) (Err (faults.BadVariable j)) is was = inr (inr (ap (λ n. Err (faults.BadVariable n)) (same_variable bytes vars i j is was)))
one_answer bytes vars rows (Err (faults.Unlisted m)) (Err (faults.Unlisted n)) is was =
    inr (inr (ap (λ n. Err (faults.Unlisted n)) (same_row IsUnlisted IsUnlisted bytes vars rows m n unlisted_wrong unlisted_wrong is was).number))
one_answer bytes vars rows (Err (faults.Unlisted m)) (Err (faults.BadTerm n j)) is was =
    let same = same_row IsUnlisted (λ names. IsBadRow names j) bytes vars rows m n unlisted_wrong (bad_term_wrong j) is was in
    absurd (not_both _ same.bad.1 is.first.wrong.1)
one_answer bytes vars rows (Err (faults.BadTerm m i)) (Err (faults.Unlisted n)) is was =
    let same = same_row (λ names. IsBadRow names i) IsUnlisted bytes vars rows m n (bad_term_wrong i) unlisted_wrong is was in
    absurd (not_both _ is.first.wrong.1 same.bad.1)
one_answer bytes vars rows (Err (faults.BadTerm m i)) (Err (faults.BadTerm n j)) is was =
    let same = same_row (λ names. IsBadRow names i) (λ names. IsBadRow names j) bytes vars rows m n (bad_term_wrong i) (bad_term_wrong j) is was in
    let numbers = same_term is.names is.first.one i j is.first.wrong.2 same.bad.2 in
    inr (inr (λ k. Err (faults.BadTerm (same.number k) (numbers k))))
one_answer bytes vars rows answer other is was =
    let e : rank answer ≡ rank other = sym (rank_is bytes vars rows answer is (λ h. cc)) ∙ rank_is bytes vars rows other was (λ h. cc) in
    absurd (omega (arith, e))
