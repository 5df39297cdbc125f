-- A graph that grows by a triple.
use Rattle.std.proofs.Common.{◌≡◌, refl, suc, ◌+◌, ◌*◌, ◌<◌, ◌≤◌, List, [], ◌∷◌, ◌++◌, map, inl, inr, ⊎_elim, sym, ◌∙◌, ap, subst, length, arith}
use Rattle.bye_terms.specs.declared.term.Term.{Term}
use Rattle.bye_terms.specs.Members.{In}
use Rattle.bye_terms.specs.Terms.{Statement}
use Rattle.bye_terms.proofs.Members.{in_cases, in_left, in_right}
use Rattle.bye_graph.specs.declared.entry.Order.TheVariants.{Subject}
use Rattle.bye_graph.specs.Graphs.{statements, statement_of, IsUsed, most_triples}
use Rattle.bye_graph.specs.Keys.{Key}
use Rattle.bye_graph.specs.Orders.{Entry, entry_of, keys_of, Grew, AreKept, IsPut, IsGrowing}
use Rattle.bye_graph.proofs.Numbers.{term_at, below_get, grown_at, grown_length}

pub map_join : {X Y : Type 0} (f : X → Y) (xs ys : List X) → map f (xs ++ ys) ≡ map f xs ++ map f ys
map_join f [] ys = refl
map_join f (x ∷ xs) ys = ap (λ zs. f x ∷ zs) (map_join f xs ys)

pub map_length : {X Y : Type 0} (f : X → Y) (xs : List X) → length (map f xs) ≡ length xs
map_length f [] = refl
map_length f (x ∷ xs) = ap suc (map_length f xs)

map_same : {X Y : Type 0} (f g : X → Y) (xs : List X) → ((x : X) → In xs x → f x ≡ g x) → map f xs ≡ map g xs
map_same f g [] same = refl
map_same f g (x ∷ xs) same = λ i. same x (inl refl) i ∷ map_same f g xs (λ y h. same y (inr h)) i

statement_grown : (old new : List Term) (key : Key) → Grew old new → IsUsed old key → statement_of new key ≡ statement_of old key
statement_grown old new key grew used =
    let s = grown_at old new key.0 grew used.0 in
    let p = grown_at old new key.1 grew used.1 in
    let o = grown_at old new key.2 grew used.2 in
    λ i. record { s = s i; p = p i; o = o i }

statement_kept : (old new : List Term) (key : Key) (f : Statement) → AreKept old new key f → statement_of new key ≡ f
statement_kept old new key f kept =
    let s = term_at new key.0 f.s kept.s in
    let p = term_at new key.1 f.p kept.p in
    let o = term_at new key.2 f.o kept.o in
    λ i. record { s = s i; p = p i; o = o i }

used_kept : (old new : List Term) (key : Key) (f : Statement) → AreKept old new key f → IsUsed new key
used_kept old new key f kept = (below_get new key.0 f.s kept.s, below_get new key.1 f.p kept.p, below_get new key.2 f.o kept.o)

used_grown : (old new : List Term) (key : Key) → Grew old new → IsUsed old key → IsUsed new key
used_grown old new key grew used =
    let l = grown_length old new grew in
    let a : key.0 < length old = used.0 in
    let b : key.1 < length old = used.1 in
    let c : key.2 < length old = used.2 in
    ((omega (arith, l, a)), (omega (arith, l, b)), (omega (arith, l, c)))

keys_put : (entries more : List Entry) (key : Key) → more ≡ entries ++ entry_of Subject key ∷ [] → keys_of more ≡ keys_of entries ++ key ∷ []
keys_put entries more key is = ap keys_of is ∙ map_join _ entries (entry_of Subject key ∷ [])

-- the triples after one was put
pub put_statements : (old new : List Term) (entries more : List Entry) (f : Statement) → IsGrowing (record { terms = old; keys = keys_of entries }) → Grew old new → IsPut old new entries more f
    → statements (record { terms = new; keys = keys_of more }) ≡ statements (record { terms = old; keys = keys_of entries }) ++ f ∷ []
put_statements old new entries more f growing grew (key, kept, is) =
    ap (map (statement_of new)) (keys_put entries more key is)
    ∙ map_join (statement_of new) (keys_of entries) (key ∷ [])
    ∙ (λ i. map_same (statement_of new) (statement_of old) (keys_of entries) (λ k h. statement_grown old new k grew (growing.used k h)) i ++ statement_kept old new key f kept i ∷ [])

-- it still grows
pub put_grows : (old new : List Term) (entries more : List Entry) (f : Statement) → IsGrowing (record { terms = old; keys = keys_of entries }) → Grew old new → IsPut old new entries more f
    → length (statements (record { terms = old; keys = keys_of entries })) < most_triples → IsGrowing (record { terms = new; keys = keys_of more })
put_grows old new entries more f growing grew put below =
    let key : Key = put.0 in
    let kept : AreKept old new key f = put.1 in
    let keys = keys_put entries more key put.2 in
    let joined = put_statements old new entries more f growing grew put in
    let count : length (keys_of more) ≡ suc (length (keys_of entries)) = ap length keys ∙ one_more (keys_of entries) key in
    let before : length (statements (record { terms = old; keys = keys_of entries })) ≡ length (keys_of entries) = map_length (statement_of old) (keys_of entries) in
    let few : length old ≤ 3 * length (keys_of entries) = growing.few in
    let fewer : length new ≤ length old + 3 = kept.few in
    record {
      terms = kept.once;
      used = λ k h.
          ⊎_elim
          (λ h. used_grown old new k grew (growing.used k h))
          (λ h. ⊎_elim (λ e. subst (IsUsed new) e (used_kept old new key f kept)) (λ b. absurd b) h)
          (in_cases (keys_of entries) (key ∷ []) k (subst (λ ks. In ks k) keys h));
      stand = λ t h.
          ⊎_elim
          (λ h. let w = growing.stand t h in (w.0, subst (λ fs. In fs w.0) (sym joined) (in_left _ (f ∷ []) w.0 w.1), w.2))
          (λ part. (f, subst (λ fs. In fs f) (sym joined) (in_right _ (f ∷ []) f (inl refl)), part))
          (kept.only t h);
      few = omega (arith, count, few, fewer);
      most = omega (arith, count, before, below);
    }
  where
    one_more : (ks : List Key) (key : Key) → length (ks ++ key ∷ []) ≡ suc (length ks)
    one_more [] key = refl
    one_more (k ∷ ks) key = ap suc (one_more ks key)

-- there is room for the terms of one more
pub room : (old : List Term) (entries : List Entry) → IsGrowing (record { terms = old; keys = keys_of entries }) → length old + 3 < 4294967296
room old entries growing =
    let few : length old ≤ 3 * length (keys_of entries) = growing.few in
    let most : length (keys_of entries) ≤ 1048576 = growing.most in
    omega (arith, few, most)

-- no triples
pub growing_none : IsGrowing (record { terms = []; keys = keys_of [] })
growing_none = record { terms = tt; used = λ k h. absurd h; stand = λ t h. absurd h; few = omega arith; most = omega arith }
