-- Lists that are cut around an element, and first wrong elements.
use Rattle.std.proofs.Common.{◌≡◌, refl, ℕ, suc, List, [], ◌∷◌, ◌++◌, length, Option, Some, inl, inr, sym, ap, ◌∙◌, subst}
use Rattle.bye_terms.specs.Members.{EachOnce, In}
use Rattle.bye_terms.proofs.Members.{in_right}
use Rattle.bye_json.specs.Answers.{IsFirst}
use Rattle.bye_json.specs.Trees.{collect, gather}
use Rattle.bye_json.proofs.Steps.{collect_all, collect_parts, gather_parts}

-- of two elements of a list, they are the same one, or one stands before the other
pub data Places {X : Type 0} (front other : List X) (x y : X) : Type 0 where
  same : front ≡ other → x ≡ y → Places front other x y
  earlier : (later : List X) → other ≡ front ++ x ∷ later → Places front other x y
  behind : (later : List X) → front ≡ other ++ y ∷ later → Places front other x y

longer : {X : Type 0} (z : X) (front other : List X) (x y : X) → Places front other x y → Places (z ∷ front) (z ∷ other) x y
longer z front other x y (same e h) = same (ap (λ xs. z ∷ xs) e) h
longer z front other x y (earlier later e) = earlier later (ap (λ xs. z ∷ xs) e)
longer z front other x y (behind later e) = behind later (ap (λ xs. z ∷ xs) e)

heads : {X : Type 0} (x y : X) (xs ys : List X) → x ∷ xs ≡ y ∷ ys → (x ≡ y) × (xs ≡ ys)
heads x y xs ys e = (cc, cc)

places : {X : Type 0} (front other : List X) (x y : X) (rest more : List X) → front ++ x ∷ rest ≡ other ++ y ∷ more → Places front other x y
places [] [] x y rest more e = same refl (heads x y rest more e).0
places [] (z ∷ other) x y rest more e = earlier other (ap (λ w. w ∷ other) (sym (heads x z rest (other ++ y ∷ more) e).0))
places (z ∷ front) [] x y rest more e = behind front (ap (λ w. w ∷ front) (heads z y (front ++ x ∷ rest) more e).0)
places {X} (z ∷ front) (w ∷ other) x y rest more e =
    let p = heads z w (front ++ x ∷ rest) (other ++ y ∷ more) e in
    subst (λ (v : X). Places (z ∷ front) (v ∷ other) x y) p.0 (longer z front other x y (places front other x y rest more p.1))

-- where neither can be wrong after the other, the first wrong elements are the same
pub record SameFirst {X : Type 0} {Wrong Bad : List X → X → Type 0} {xs : List X} {m n : ℕ} (f : IsFirst Wrong xs m) (g : IsFirst Bad xs n) : Type 0 where
  pub number : m ≡ n
  pub front : f.front ≡ g.front
  pub one : f.one ≡ g.one

pub first_same : {X : Type 0} (Wrong Bad : List X → X → Type 0) (xs : List X) (m n : ℕ) (f : IsFirst Wrong xs m) (g : IsFirst Bad xs n)
    → ((front : List X) (x : X) (later : List X) (y : X) → Wrong front x → Bad (front ++ x ∷ later) y → ⊥)
    → ((front : List X) (x : X) (later : List X) (y : X) → Bad front x → Wrong (front ++ x ∷ later) y → ⊥)
    → SameFirst f g
first_same Wrong Bad xs m n f g apart other =
    elim (places f.front g.front f.one g.one f.rest g.rest (sym f.parts ∙ g.parts)) [
      | same e h ↦ record { number = f.at ∙ ap (λ front. suc (length front)) e ∙ sym g.at; front = e; one = h }
      | earlier later e ↦ absurd (apart f.front f.one later g.one f.wrong (subst (λ front. Bad front g.one) e g.wrong))
      | behind later e ↦ absurd (other g.front g.one later f.one g.wrong (subst (λ front. Wrong front f.one) e f.wrong))
    ]

-- what is gathered from a list with an element in it
pub gathers_one : {A B : Type 0} (f : A → Option (List B)) (front : List A) (x : A) (rest : List A) (ys : List B) → gather f (front ++ x ∷ rest) ≡ Some ys → (here : List B) × (f x ≡ Some here)
gathers_one f [] x rest ys e = let p = gather_parts f x rest ys e in (p.here, p.first)
gathers_one f (w ∷ front) x rest ys e = let p = gather_parts f w (front ++ x ∷ rest) ys e in gathers_one f front x rest p.rest p.later

-- and what is collected
pub record Around {A B : Type 0} (f : A → Option B) (front : List A) (x : A) (ys : List B) : Type 0 where
  pub before : List B
  pub one : B
  pub after : List B
  pub front_is : collect f front ≡ Some before
  pub one_is : f x ≡ Some one
  pub both : ys ≡ before ++ one ∷ after

pub collects_around : {A B : Type 0} (f : A → Option B) (front : List A) (x : A) (rest : List A) (ys : List B) → collect f (front ++ x ∷ rest) ≡ Some ys → Around f front x ys
collects_around f [] x rest ys e = let p = collect_parts f x rest ys e in record { before = []; one = p.one; after = p.rest; front_is = refl; one_is = p.first; both = p.both }
collects_around f (w ∷ front) x rest ys e =
    let p = collect_parts f w (front ++ x ∷ rest) ys e in
    let q = collects_around f front x rest p.rest p.later in
    record {
      before = p.one ∷ q.before;
      one = q.one;
      after = q.after;
      front_is = collect_all f w front p.one q.before p.first q.front_is;
      one_is = q.one_is;
      both = p.both ∙ ap (λ ys. p.one ∷ ys) q.both;
    }

-- an element that stands before another is not the same
pub once_apart : {X : Type 0} (front : List X) (x : X) (rest : List X) → EachOnce (front ++ x ∷ rest) → In front x → ⊥
once_apart [] x rest once h = h
once_apart (y ∷ front) x rest once (inl e) = once.0 (in_right front (x ∷ rest) y (inl (sym e)))
once_apart (y ∷ front) x rest once (inr h) = once_apart front x rest once.1 h
