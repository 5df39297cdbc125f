-- Triples in sorted orders.
use Rattle.std.proofs.Common.{◌≡◌, refl, ℕ, zero, suc, ◌*◌, ◌<◌, ◌≤◌, Bool, true, cond, ◌&&◌, ◌==◌, List, [], ◌∷◌, map, ⊎_elim, ◌↔◌, sym, ◌∙◌, ap, subst, length, take, arith}
use Rattle.std.specs.Cmp.{IsEquivalence, both_tied, unsigned_ties, decided}
use Rattle.std.specs.List.{dedup, dedup_from}
use Rattle.std.specs.List.Sorted.{IsSorted, IsPermutation}
use Rattle.std.specs.Ordering.{nat_cmp, ordering_then, eq_by_cmp}
use Rattle.std.proofs.lemmas.Bool.{eqb-true, eq-eqb}
use Rattle.std.proofs.lemmas.List.Kept.{IsStrictlySortedBy-dedup, Contains-dedup, Contains-from_dedup}
use Rattle.std.proofs.lemmas.List.Sorted.{length_permutation, Contains-permutation, IsPermutation-sym}
use Rattle.bye_terms.specs.declared.term.Term.{Term}
use Rattle.bye_terms.specs.Members.{In, EachOnce}
use Rattle.bye_terms.specs.Terms.{Statement}
use Rattle.bye_terms.proofs.Lists.{in_map, map_in}
use Rattle.bye_terms.proofs.Members.{in_contains, contains_in}
use Rattle.bye_terms.proofs.Tests.{bool_cases, both, both_parts}
use Rattle.bye_graph.specs.declared.entry.Order.TheVariants.{Subject, Predicate, Object}
use Rattle.bye_graph.specs.Graphs.{statements, statement_of, IsUsed}
use Rattle.bye_graph.specs.Keys.{Key}
use Rattle.bye_graph.specs.Orders.{Entry, Order, entry_of, key_of, entry_cmp, keys_of, IsSmall, IsSortedSet, IsOrder, IsGrowing, IsGraph}
use Rattle.bye_graph.proofs.Growing.{map_length}
use Rattle.bye_graph.proofs.Sorted.{entry_total, sorted_once}

-- a triple and its entry
pub back : (order : Order) (key : Key) → key_of order (entry_of order key) ≡ key
back Subject key = refl
back Predicate key = refl
back Object key = refl

pub forth : (order : Order) (entry : Entry) → entry_of order (key_of order entry) ≡ entry
forth Subject entry = refl
forth Predicate entry = refl
forth Object entry = refl

pub entries_same : (order : Order) (j k : Key) → entry_of order j ≡ entry_of order k → j ≡ k
entries_same order j k e = sym (back order j) ∙ ap (key_of order) e ∙ back order k

keys_same : (order : Order) (x y : Entry) → key_of order x ≡ key_of order y → x ≡ y
keys_same order x y e = sym (forth order x) ∙ ap (entry_of order) e ∙ forth order y

pub once_mapped : {X Y : Type 0} (f : X → Y) (xs : List X) → ((a b : X) → f a ≡ f b → a ≡ b) → EachOnce xs → EachOnce (map f xs)
once_mapped f [] same once = tt
once_mapped f (x ∷ xs) same once = (
  (λ h. let w = in_map f xs (f x) h in once.0 (subst (In xs) (same w.0 x w.2) w.1)),
  once_mapped f xs same once.1,
)

pub keys_once : (order : Order) (entries : List Entry) → EachOnce entries → EachOnce (map (key_of order) entries)
keys_once order entries once = once_mapped (key_of order) entries (keys_same order) once

pub key_in : (order : Order) (entries : List Entry) (key : Key) → In (map (key_of order) entries) key ↔ In entries (entry_of order key)
key_in order entries key = (
  λ h. let w = in_map (key_of order) entries key h in subst (In entries) (sym (forth order w.0) ∙ ap (entry_of order) w.2) w.1,
  λ h. subst (In (map (key_of order) entries)) (back order key) (map_in (key_of order) entries (entry_of order key) h),
)

entry_in : (order : Order) (keys : List Key) (key : Key) → In (map (entry_of order) keys) (entry_of order key) ↔ In keys key
entry_in order keys key = (
  λ h. let w = in_map (entry_of order) keys (entry_of order key) h in subst (In keys) (entries_same order w.0 key w.2) w.1,
  λ h. map_in (entry_of order) keys key h,
)

-- the equality of entries
abbrev pub same_entry : Entry → Entry → Bool
same_entry x y = (x.first == y.first) && ((x.second == y.second) && (x.third == y.third))

entry_ties : (x y : Entry) → same_entry x y ≡ eq_by_cmp entry_cmp x y
entry_ties x y =
    both_tied _ _ (nat_cmp x.first y.first) (ordering_then (nat_cmp x.second y.second) (nat_cmp x.third y.third)) (unsigned_ties x.first y.first)
    (both_tied _ _ (nat_cmp x.second y.second) (nat_cmp x.third y.third) (unsigned_ties x.second y.second) (unsigned_ties x.third y.third))

pub same_equal : (x y : Entry) → same_entry x y ≡ true → x ≡ y
same_equal x y e =
    let w = both_parts _ _ e in
    let v = both_parts _ _ w.1 in
    let a = eqb-true x.first y.first w.0 in
    let b = eqb-true x.second y.second v.0 in
    let c = eqb-true x.third y.third v.1 in
    λ i. record { first = a i; second = b i; third = c i }

pub equal_same : (x y : Entry) → x ≡ y → same_entry x y ≡ true
equal_same x y e = subst (λ z. same_entry x z ≡ true) e (both _ _ (eq-eqb x.first x.first refl) (both _ _ (eq-eqb x.second x.second refl) (eq-eqb x.third x.third refl)))

same_equivalence : IsEquivalence same_entry
same_equivalence = decided same_entry (λ x y. (same_equal x y, equal_same x y))

dedup_from_few : (x : Entry) (xs : List Entry) → length (dedup_from same_entry x xs) ≤ suc (length xs)
dedup_from_few x [] = omega arith
dedup_from_few x (y ∷ xs) =
    ⊎_elim
    (λ t. let h : length (dedup_from same_entry x xs) ≤ suc (length xs) = dedup_from_few x xs in
    subst (λ l. length l ≤ suc (suc (length xs))) (sym (ap (λ b. cond b (dedup_from same_entry x xs) (x ∷ dedup_from same_entry y xs)) t)) (omega (arith, h)))
    (λ f. let h : length (dedup_from same_entry y xs) ≤ suc (length xs) = dedup_from_few y xs in
    subst (λ l. length l ≤ suc (suc (length xs))) (sym (ap (λ b. cond b (dedup_from same_entry x xs) (x ∷ dedup_from same_entry y xs)) f)) (omega (arith, h)))
    (bool_cases (same_entry y x))

dedup_few : (xs : List Entry) → length (dedup same_entry xs) ≤ length xs
dedup_few [] = omega arith
dedup_few (x ∷ xs) = dedup_from_few x xs

in_permutation : (xs ys : List Entry) (x : Entry) → IsPermutation xs ys → In xs x ↔ In ys x
in_permutation xs ys x moved = (
  λ h. contains_in ys x (Contains-permutation xs ys x moved (in_contains xs x h)),
  λ h. contains_in xs x (Contains-permutation ys xs x (IsPermutation-sym xs ys moved) (in_contains ys x h)),
)

in_dedup : (xs : List Entry) (x : Entry) → In (dedup same_entry xs) x ↔ In xs x
in_dedup xs x = (
  λ h. contains_in xs x (Contains-from_dedup same_entry xs x (in_contains (dedup same_entry xs) x h)),
  λ h. contains_in (dedup same_entry xs) x (Contains-dedup same_equivalence same_equal xs x (in_contains xs x h)),
)

-- sorted, and each once
pub sorted_set : (entries moved made : List Entry) → IsPermutation entries moved → IsSorted entry_cmp moved → made ≡ dedup same_entry moved → IsSortedSet entries made
sorted_set entries moved made permuted sorted is =
    let count : length moved ≡ length entries = length_permutation entries moved permuted in
    let few : length (dedup same_entry moved) ≤ length moved = dedup_few moved in
    subst (IsSortedSet entries) (sym is) (record {
      strict = IsStrictlySortedBy-dedup entry_total entry_ties moved sorted;
      same = λ x. (
        λ h. (in_permutation entries moved x permuted).1 ((in_dedup moved x).0 h),
        λ h. (in_dedup moved x).1 ((in_permutation entries moved x permuted).0 h),
      );
      count = omega (arith, count, few);
    })

-- a sorted set of entries is an order of their triples
pub order_made : (order : Order) (keys : List Key) (entries : List Entry) → IsSortedSet (map (entry_of order) keys) entries → ((key : Key) → In keys key → IsSmall (entry_of order key)) → IsOrder order keys entries
order_made order keys entries set small = record {
  strict = set.strict;
  same = λ key. (
    λ h. (entry_in order keys key).0 ((set.same (entry_of order key)).0 h),
    λ h. (set.same (entry_of order key)).1 ((entry_in order keys key).1 h),
  );
  count = (let e : length (map (entry_of order) keys) ≡ length keys = map_length (entry_of order) keys in let h : length entries ≤ length (map (entry_of order) keys) = set.count in omega (arith, e, h));
  small = λ x h. let w = in_map (entry_of order) keys x ((set.same x).0 h) in subst IsSmall w.2 (small w.0 w.1);
}

subject_entries : (entries : List Entry) → map (entry_of Subject) (keys_of entries) ≡ entries
subject_entries [] = refl
subject_entries (x ∷ xs) = ap (λ ys. x ∷ ys) (subject_entries xs)

small_used : (order : Order) (n : ℕ) (key : Key) → n < 4294967295 → (key.0 < n) × (key.1 < n) × (key.2 < n) → IsSmall (entry_of order key)
small_used Subject n key few (a, b, c) = ((omega arith), (omega arith), (omega arith))
small_used Predicate n key few (a, b, c) = ((omega arith), (omega arith), (omega arith))
small_used Object n key few (a, b, c) = ((omega arith), (omega arith), (omega arith))

-- the same triples, each once
set_keys : (entries spo : List Entry) → IsSortedSet entries spo → (key : Key) → In (keys_of spo) key ↔ In (keys_of entries) key
set_keys entries spo set key = (
  λ h. (key_in Subject entries key).1 ((set.same (entry_of Subject key)).0 ((key_in Subject spo key).0 h)),
  λ h. (key_in Subject spo key).1 ((set.same (entry_of Subject key)).1 ((key_in Subject entries key).0 h)),
)

pub set_statements : (terms : List Term) (entries spo : List Entry) → IsSortedSet entries spo
    → (f : Statement) → In (statements (record { terms = terms; keys = keys_of spo })) f ↔ In (statements (record { terms = terms; keys = keys_of entries })) f
set_statements terms entries spo set f = (
  λ h. let w = in_map (statement_of terms) (keys_of spo) f h in
      subst (In (statements (record { terms = terms; keys = keys_of entries }))) w.2 (map_in (statement_of terms) (keys_of entries) w.0 ((set_keys entries spo set w.0).0 w.1)),
  λ h. let w = in_map (statement_of terms) (keys_of entries) f h in
      subst (In (statements (record { terms = terms; keys = keys_of spo }))) w.2 (map_in (statement_of terms) (keys_of spo) w.0 ((set_keys entries spo set w.0).1 w.1)),
)

-- the graph of what has grown
pub graph_made : (terms : List Term) (entries spo pos osp : List Entry) → IsGrowing (record { terms = terms; keys = keys_of entries }) → IsSortedSet entries spo
    → IsSortedSet (map (entry_of Predicate) (keys_of spo)) pos → IsSortedSet (map (entry_of Object) (keys_of spo)) osp
    → IsGraph (record { terms = terms; keys = keys_of spo }) spo pos osp
graph_made terms entries spo pos osp growing set by_predicate by_object =
    let used : (key : Key) → In (keys_of spo) key → IsUsed terms key = λ key h. growing.used key ((set_keys entries spo set key).0 h) in
    let few : length terms < 4294967295 = (let a : length terms ≤ 3 * length (keys_of entries) = growing.few in let b : length (keys_of entries) ≤ 1048576 = growing.most in omega (arith, a, b)) in
    let small : (order : Order) (key : Key) → In (keys_of spo) key → IsSmall (entry_of order key) = λ order key h. small_used order (length terms) key few (used key h) in
    let itself : IsSortedSet spo spo = record { strict = set.strict; same = λ x. ((λ h. h), (λ h. h)); count = omega arith } in
    record {
      numbered = record {
        terms = growing.terms;
        keys = keys_once Subject spo (sorted_once spo set.strict);
        used = used;
        stand = λ t h. let w = growing.stand t h in (w.0, (set_statements terms entries spo set w.0).1 w.1, w.2);
      };
      subject = order_made Subject (keys_of spo) spo (subst (λ xs. IsSortedSet xs spo) (sym (subject_entries spo)) itself) (small Subject);
      predicate = order_made Predicate (keys_of spo) pos by_predicate (small Predicate);
      object = order_made Object (keys_of spo) osp by_object (small Object);
    }

-- the entries of triples that stand in subject order
pub map_map : (order : Order) (entries : List Entry) → map (λ x. entry_of order (key_of Subject x)) entries ≡ map (entry_of order) (keys_of entries)
map_map order [] = refl
map_map order (x ∷ xs) = ap (λ ys. entry_of order (key_of Subject x) ∷ ys) (map_map order xs)

pub take_all : (xs : List Entry) (n : ℕ) → length xs ≤ n → take n xs ≡ xs
take_all [] zero l = refl
take_all [] (suc n) l = refl
take_all (x ∷ xs) zero l = absurd (omega arith)
take_all (x ∷ xs) (suc n) l = ap (λ ys. x ∷ ys) (take_all xs n (omega arith))
