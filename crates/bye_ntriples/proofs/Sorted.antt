-- Sorted lines, joined without repeats, are the canonical document.
use Rattle.std.proofs.Common.{◌≡◌, refl, ℕ, suc, ◌+◌, ◌<◌, Bool, true, false, cond, List, [], ◌∷◌, ◌++◌, length, get_or, map, flat_map, ◌⊎◌, inl, inr, ⊎_elim, sym, ◌∙◌, ap, subst, arith, Ordering, Less, Equal, Greater}
use Rattle.std.specs.List.{AllByRecursion}
use Rattle.std.specs.List.Sorted.{IsPermutation, IsSortedBy}
use Rattle.std.specs.Cmp.Lexicographic.{slice_cmp}
use Rattle.std.specs.Ordering.{nat_cmp, is_lt, ordering_then, ordering_reverse}
use Rattle.std.specs.Str.{bytes_eq}
use Rattle.std.proofs.lemmas.Cmp.{ranked, tied_itself, nat_list_cmp_total}
use Rattle.std.proofs.lemmas.List.Sorted.{Contains-permutation, IsPermutation-sym}
use Rattle.std.proofs.lemmas.Str.{encodes_same}
use Rattle.std.proofs.lemmas.Slice.Eq.{bytes_eq-Decides}
use Rattle.bye_terms.specs.Members.{In}
use Rattle.bye_terms.specs.Spellings.{term_text}
use Rattle.bye_terms.specs.Terms.{Statement}
use Rattle.bye_terms.proofs.Members.{all_in, in_contains, contains_in}
use Rattle.bye_ntriples.specs.Canonical.{line_text, line_bytes, ComesBefore, Rises, SameTriples, IsCanonical, IsStatement, OneCanonical}
use Rattle.bye_ntriples.specs.Writing.{joined, Ascends, AreJoined}
use Rattle.bye_ntriples.proofs.SameLines.{line_flat, same_line}

abbrev order : List ℕ → List ℕ → Ordering
order = slice_cmp nat_cmp

-- what the order says of two texts
then_equal : (o r : Ordering) → ordering_then o r ≡ Equal → (o ≡ Equal) × (r ≡ Equal)
then_equal Less r e = cc
then_equal Equal r e = (refl, e)
then_equal Greater r e = cc

equal : (a b : List ℕ) → order a b ≡ Equal → a ≡ b
equal [] [] e = refl
equal [] (y ∷ b) e = cc
equal (x ∷ a) [] e = cc
equal (x ∷ a) (y ∷ b) e =
    let k = then_equal (nat_cmp x y) (order a b) e in
    let first : x ≡ y = ranked x y Equal (sym k.0) in
    let rest = equal a b k.1 in
    λ i. first i ∷ rest i

not_before_itself : (a : List ℕ) → order a a ≡ Less → ⊥
not_before_itself a e = let k = tied_itself nat_list_cmp_total a in let f : Less ≡ Equal = sym e ∙ k in cc

before_all : (a b c : List ℕ) → order a b ≡ Less → order b c ≡ Less → order a c ≡ Less
before_all a b c e f = nat_list_cmp_total.trans a b c e f

reversed : (o : Ordering) → o ≡ Greater → is_lt (ordering_reverse o) ≡ true
reversed Less e = cc
reversed Equal e = cc
reversed Greater e = refl

false_true : false ≡ true → ⊥
false_true e = cc

before : (a b : List ℕ) (o : Ordering) → order a b ≡ o → is_lt (order b a) ≡ false → (b ≡ a → ⊥) → order a b ≡ Less
before a b Less e not_less other = e
before a b Equal e not_less other = absurd (other (sym (equal a b e)))
before a b Greater e not_less other = absurd (false_true (sym not_less ∙ ap is_lt (nat_list_cmp_total.antisymm b a) ∙ reversed (order a b) e))

-- what a sort gives
abbrev Adjacent : {X : Type 0} → (X → X → Bool) → List X → Type 0
Adjacent {X} lt xs = (k : ℕ) (d : X) → k + 1 < length xs → lt (get_or xs (k + 1) d) (get_or xs k d) ≡ false

later : {X : Type 0} (lt : X → X → Bool) (x : X) (xs : List X) → Adjacent lt (x ∷ xs) → Adjacent lt xs
later lt x xs h = λ k d l.
    let e : suc k + 1 ≡ suc (k + 1) = omega arith in
    subst (λ n. lt (get_or (x ∷ xs) n d) (get_or xs k d) ≡ false) e (h (suc k) d (omega arith))

first_after : (a : List ℕ) → is_lt (order a []) ≡ false
first_after [] = refl
first_after (c ∷ a) = refl

-- where the test that they were sorted by tells the order of their lines
module _ {X : Type 0} (f : X → List ℕ) (lt : X → X → Bool) (Good : X → Type 0) (tells : (x y : X) → Good x → Good y → lt y x ≡ false → is_lt (order (f y) (f x)) ≡ false) where
  ascending : (x : X) (xs : List X) → Good x → AllByRecursion Good xs → Adjacent lt (x ∷ xs) → Ascends (f x) (map f xs)
  ascending x [] good all h = tt
  ascending x (y ∷ xs) good all h = (tells x y good all.0 (h 0 x (omega arith)), ascending y xs all.0 all.1 (later lt x (y ∷ xs) h))

  pub ascends : (xs : List X) → AllByRecursion Good xs → IsSortedBy lt xs → Ascends [] (map f xs)
  ascends [] all h = tt
  ascends (x ∷ xs) all h = (first_after (f x), ascending x xs all.0 all.1 (λ k d l. h k d (omega arith) l))

-- the triples of lines
in_map : {X Y : Type 0} (f : X → Y) (xs : List X) (y : Y) → In (map f xs) y → (x : X) × In xs x × (f x ≡ y)
in_map f [] y h = absurd h
in_map f (x ∷ xs) y (inl e) = (x, inl refl, e)
in_map f (x ∷ xs) y (inr h) = let k = in_map f xs y h in (k.0, inr k.1, k.2)

pub map_in : {X Y : Type 0} (f : X → Y) (xs : List X) (x : X) → In xs x → In (map f xs) (f x)
map_in f [] x h = absurd h
map_in f (y ∷ xs) x (inl e) = inl (ap f e)
map_in f (y ∷ xs) x (inr h) = inr (map_in f xs x h)

pub moved : {X : Type 0} (xs ys : List X) (x : X) → IsPermutation xs ys → In xs x → In ys x
moved xs ys x h k = contains_in ys x (Contains-permutation xs ys x h (in_contains xs x k))

pub record AreOf (ts : List Statement) (lines : List (List ℕ)) : Type 0 where
  pub triples : List Statement
  pub are : map line_bytes triples ≡ lines
  pub among : (t : Statement) → In triples t → In ts t

of_lines : (ts : List Statement) (lines : List (List ℕ)) → ((line : List ℕ) → In lines line → In (map line_bytes ts) line) → AreOf ts lines
of_lines ts [] h = record { triples = []; are = refl; among = λ t k. absurd k }
of_lines ts (line ∷ lines) h =
    let one = in_map line_bytes ts line (h line (inl refl)) in
    let all = of_lines ts lines (λ l k. h l (inr k)) in
    record {
      triples = one.0 ∷ all.triples;
      are = λ i. one.2 i ∷ all.are i;
      among = λ t k. ⊎_elim (λ e. subst (λ t. In ts t) e one.1) (λ k. all.among t k) k;
    }

-- the triples without those whose line equals the one before it
abbrev kept : List ℕ → List Statement → List Statement
kept last [] = []
kept last (t ∷ ts) = cond (bytes_eq (line_bytes t) last) [] (t ∷ []) ++ kept (line_bytes t) ts

one_joined : (b : Bool) (t : Statement) (lines : List ℕ) (ts : List Statement) → lines ≡ flat_map line_bytes ts → cond b [] (line_bytes t) ++ lines ≡ flat_map line_bytes (cond b [] (t ∷ []) ++ ts)
one_joined true t lines ts e = e
one_joined false t lines ts e = ap (λ ls. line_bytes t ++ ls) e

kept_joined : (last : List ℕ) (ts : List Statement) → joined last (map line_bytes ts) ≡ flat_map line_bytes (kept last ts)
kept_joined last [] = refl
kept_joined last (t ∷ ts) = one_joined (bytes_eq (line_bytes t) last) t _ _ (kept_joined (line_bytes t) ts)

one_among : (b : Bool) (t : Statement) (ks ts : List Statement) (u : Statement) → (In ks u → In ts u) → In (cond b [] (t ∷ []) ++ ks) u → (t ≡ u) ⊎ In ts u
one_among true t ks ts u f h = inr (f h)
one_among false t ks ts u f (inl e) = inl e
one_among false t ks ts u f (inr h) = inr (f h)

kept_among : (last : List ℕ) (ts : List Statement) (u : Statement) → In (kept last ts) u → In ts u
kept_among last [] u h = h
kept_among last (t ∷ ts) u h = one_among (bytes_eq (line_bytes t) last) t _ ts u (kept_among (line_bytes t) ts u) h

-- no triple is lost, but for one whose line is the one before all
one_lost : (b : Bool) (last : List ℕ) (t : Statement) (ks ts : List Statement) (u : Statement) → bytes_eq (line_bytes t) last ≡ b → (In ts u → line_bytes u ≡ line_bytes t → t ≡ u)
    → (In ts u → In ks u ⊎ (line_bytes u ≡ line_bytes t)) → (t ≡ u) ⊎ In ts u → In (cond b [] (t ∷ []) ++ ks) u ⊎ (line_bytes u ≡ last)
one_lost true last t ks ts u e same f (inl g) = inr (ap line_bytes (sym g) ∙ (bytes_eq-Decides (line_bytes t) last).0 e)
one_lost true last t ks ts u e same f (inr h) = ⊎_elim (λ k. inl k) (λ k. inr (k ∙ (bytes_eq-Decides (line_bytes t) last).0 e)) (f h)
one_lost false last t ks ts u e same f (inl g) = inl (inl g)
one_lost false last t ks ts u e same f (inr h) = ⊎_elim (λ k. inl (inr k)) (λ k. inl (inl (same h k))) (f h)

none_lost : (last : List ℕ) (ts : List Statement) (u : Statement) → ((t v : Statement) → In ts t → In ts v → line_bytes t ≡ line_bytes v → t ≡ v) → In ts u → In (kept last ts) u ⊎ (line_bytes u ≡ last)
none_lost last [] u same h = absurd h
none_lost last (t ∷ ts) u same h =
    one_lost (bytes_eq (line_bytes t) last) last t _ ts u refl
    (λ k e. same t u (inl refl) (inr k) (sym e))
    (λ k. none_lost (line_bytes t) ts u (λ v w i j. same v w (inr i) (inr j)) k)
    h

-- and their lines rise
all_before : (a b : List ℕ) (ts : List Statement) → order a b ≡ Less → AllByRecursion (λ t. order b (line_bytes t) ≡ Less) ts → AllByRecursion (λ t. order a (line_bytes t) ≡ Less) ts
all_before a b [] e h = tt
all_before a b (t ∷ ts) e h = (before_all a b (line_bytes t) e h.0, all_before a b ts e h.1)

abbrev RisesAfter : List ℕ → List Statement → Type 0
RisesAfter last ts = AllByRecursion (λ t. order last (line_bytes t) ≡ Less) ts × Rises ts

one_rises : (b : Bool) (last : List ℕ) (t : Statement) (ks : List Statement) → bytes_eq (line_bytes t) last ≡ b → is_lt (order (line_bytes t) last) ≡ false → RisesAfter (line_bytes t) ks → RisesAfter last (cond b [] (t ∷ []) ++ ks)
one_rises true last t ks e h more = (subst (λ a. AllByRecursion (λ u. order a (line_bytes u) ≡ Less) ks) ((bytes_eq-Decides (line_bytes t) last).0 e) more.0, more.1)
one_rises false last t ks e h more =
    let first = before last (line_bytes t) (order last (line_bytes t)) refl h (λ k. false_true (sym e ∙ (bytes_eq-Decides (line_bytes t) last).1 k)) in
    ((first, all_before last (line_bytes t) ks first more.0), (more.0, more.1))

rising : (last : List ℕ) (ts : List Statement) → Ascends last (map line_bytes ts) → RisesAfter last (kept last ts)
rising last [] h = (tt, tt)
rising last (t ∷ ts) h = one_rises (bytes_eq (line_bytes t) last) last t _ refl h.0 (rising (line_bytes t) ts h.1)

-- no line is empty
not_empty : (a : List ℕ) (c : ℕ) (b : List ℕ) → a ++ c ∷ b ≡ [] → ⊥
not_empty [] c b e = cc
not_empty (d ∷ a) c b e = cc

some_line : (t : Statement) → line_bytes t ≡ [] → ⊥
some_line t e = not_empty (term_text t.s) 32 _ (sym (line_flat t) ∙ encodes_same (line_text t) [] e)

pub canonical : (ts : List Statement) (bytes : List ℕ) → AllByRecursion IsStatement ts → AreJoined (map line_bytes ts) bytes → IsCanonical ts bytes
canonical ts bytes valid j =
    let all = of_lines ts j.sorted (λ line h. moved j.sorted (map line_bytes ts) line (IsPermutation-sym (map line_bytes ts) j.sorted j.same) h) in
    let same : (t v : Statement) → In ts t → In ts v → line_bytes t ≡ line_bytes v → t ≡ v = λ t v h k e. same_line t v (all_in IsStatement ts t valid h) (all_in IsStatement ts v valid k) e in
    let found : (t : Statement) → In ts t → In all.triples t = λ t h.
    let line = subst (λ ls. In ls (line_bytes t)) (sym all.are) (moved (map line_bytes ts) j.sorted (line_bytes t) j.same (map_in line_bytes ts t h)) in
    let one = in_map line_bytes all.triples (line_bytes t) line in
    subst (λ u. In all.triples u) (same one.0 t (all.among one.0 one.1) h one.2) one.1 in
    record {
      distinct = kept [] all.triples;
      same = (
        (λ t h. ⊎_elim (λ k. k) (λ e. absurd (some_line t e)) (none_lost [] all.triples t (λ t v h k e. same t v (all.among t h) (all.among v k) e) (found t h))),
        (λ t h. all.among t (kept_among [] all.triples t h)),
      );
      rises = (rising [] all.triples (subst (Ascends []) (sym all.are) j.ascends)).1;
      written = j.is ∙ ap (joined []) (sym all.are) ∙ kept_joined [] all.triples;
    }

-- triples have one list that rises
no_same : (t u : Statement) → t ≡ u → ComesBefore t u → ⊥
no_same t u e h = not_before_itself (line_bytes t) (subst (λ v. ComesBefore t v) (sym e) h)

first_same : (t u : Statement) (ts us : List Statement) → AllByRecursion (ComesBefore t) ts → AllByRecursion (ComesBefore u) us → (u ≡ t) ⊎ In us t → (t ≡ u) ⊎ In ts u → t ≡ u
first_same t u ts us h k (inl e) j = sym e
first_same t u ts us h k (inr i) (inl e) = e
first_same t u ts us h k (inr i) (inr j) = absurd (not_before_itself (line_bytes t) (before_all (line_bytes t) (line_bytes u) (line_bytes t) (all_in (ComesBefore t) ts u h j) (all_in (ComesBefore u) us t k i)))

later_same : (t u : Statement) (ts us : List Statement) → t ≡ u → AllByRecursion (ComesBefore t) ts → ((v : Statement) → (t ≡ v) ⊎ In ts v → (u ≡ v) ⊎ In us v) → (v : Statement) → In ts v → In us v
later_same t u ts us e h f v k = ⊎_elim (λ g. absurd (no_same t v (e ∙ g) (all_in (ComesBefore t) ts v h k))) (λ i. i) (f v (inr k))

one_list : (ts us : List Statement) → Rises ts → Rises us → SameTriples ts us → ts ≡ us
one_list [] [] h k same = refl
one_list [] (u ∷ us) h k same = absurd (same.1 u (inl refl))
one_list (t ∷ ts) [] h k same = absurd (same.0 t (inl refl))
one_list (t ∷ ts) (u ∷ us) h k same =
    let first = first_same t u ts us h.0 k.0 (same.0 t (inl refl)) (same.1 u (inl refl)) in
    let rest = one_list ts us h.1 k.1 (later_same t u ts us first h.0 same.0, later_same u t us ts (sym first) k.0 same.1) in
    λ i. first i ∷ rest i

pub one_canonical : OneCanonical
one_canonical triples bytes others c d =
    c.written ∙ ap (flat_map line_bytes) (one_list c.distinct d.distinct c.rises d.rises ((λ t h. d.same.0 t (c.same.1 t h)), (λ t h. c.same.0 t (d.same.1 t h)))) ∙ sym d.written
