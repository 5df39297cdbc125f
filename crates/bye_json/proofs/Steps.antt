-- Going down a list one element at a time.
use Rattle.std.proofs.Common.{◌≡◌, refl, ℕ, suc, ◌+◌, ◌<◌, List, [], ◌∷◌, ◌++◌, length, take, drop, get_or, map, Option, Some, None, option_map, sym, ap, ◌∙◌, arith, append_assoc, append-nil, length-take-le}
use Rattle.std.proofs.Math.Seq.{split_at}
use Rattle.std.proofs.lemmas.List.{map-append, take_more, length-map}
use Rattle.bye_terms.specs.Reading.{◌>>=◌}
use Rattle.bye_terms.proofs.Readings.{some_same}
use Rattle.bye_json.specs.Trees.{alone, collect, gather}
use Rattle.bye_json.specs.Answers.{IsFirst}

-- the list around an element
around : {X : Type 0} (xs : List X) (i : ℕ) (x : X) → i < length xs → x ≡ get_or xs i x → xs ≡ take i xs ++ x ∷ drop (suc i) xs
around xs i x l e = split_at xs i x l ∙ ap (λ y. take i xs ++ y ∷ drop (suc i) xs) (sym e)

pub one_more : {X : Type 0} (xs : List X) (i : ℕ) (x : X) → i < length xs → x ≡ get_or xs i x → take (i + 1) xs ≡ take i xs ++ x ∷ []
one_more xs i x l e = take_more xs i x l ∙ ap (λ y. take i xs ++ y ∷ []) (sym e)

pub one_more_of : {X Y : Type 0} (f : X → Y) (xs : List X) (i : ℕ) (x : X) → i < length xs → x ≡ get_or xs i x → map f (take (i + 1) xs) ≡ map f (take i xs) ++ f x ∷ []
one_more_of f xs i x l e = ap (map f) (one_more xs i x l e) ∙ map-append f (take i xs) (x ∷ [])

-- where an element is wrong after those before it, it's the first wrong one
pub first_at : {X : Type 0} (Wrong : List X → X → Type 0) (xs : List X) (i : ℕ) (x : X) → i < length xs → x ≡ get_or xs i x → Wrong (take i xs) x → IsFirst Wrong xs (i + 1)
first_at Wrong xs i x l e wrong = record {
  front = take i xs;
  one = x;
  rest = drop (suc i) xs;
  parts = around xs i x l e;
  at = omega (arith, length-take-le i xs (omega arith));
  wrong = wrong;
}

pub first_of : {X Y : Type 0} (f : X → Y) (Wrong : List Y → Y → Type 0) (xs : List X) (i : ℕ) (x : X) → i < length xs → x ≡ get_or xs i x → Wrong (map f (take i xs)) (f x) → IsFirst Wrong (map f xs) (i + 1)
first_of f Wrong xs i x l e wrong = record {
  front = map f (take i xs);
  one = f x;
  rest = map f (drop (suc i) xs);
  parts = ap (map f) (around xs i x l e) ∙ map-append f (take i xs) (x ∷ drop (suc i) xs);
  at = omega (arith, length-map (take i xs) f, length-take-le i xs (omega arith));
  wrong = wrong;
}

-- one element more of those that are gathered
pub gather_one : {A B : Type 0} (f : A → Option (List B)) (x : A) (zs : List B) → f x ≡ Some zs → gather f (x ∷ []) ≡ Some zs
gather_one f x zs e = ap (λ o. o >>= (λ here. option_map (λ rest. here ++ rest) (Some []))) e ∙ ap (λ ys. Some ys) (append-nil zs)

pub gather_more : {A B : Type 0} (f : A → Option (List B)) (xs : List A) (x : A) (ys zs : List B) → gather f xs ≡ Some ys → f x ≡ Some zs → gather f (xs ++ x ∷ []) ≡ Some (ys ++ zs)
gather_more f [] x ys zs e h = gather_one f x zs h ∙ ap (λ front. Some (front ++ zs)) (some_same e)
gather_more {B = B} f (w ∷ xs) x ys zs e h = step (f w) (gather f xs) (gather f (xs ++ x ∷ [])) (λ front k. gather_more f xs x front zs k h) e
  where
    step : (o p q : Option (List B)) → ((front : List B) → p ≡ Some front → q ≡ Some (front ++ zs))
        → (o >>= (λ here. option_map (λ rest. here ++ rest) p)) ≡ Some ys → (o >>= (λ here. option_map (λ rest. here ++ rest) q)) ≡ Some (ys ++ zs)
    step None p q more e = cc
    step (Some here) None q more e = cc
    step (Some here) (Some front) q more e =
        ap (option_map (λ rest. here ++ rest)) (more front refl) ∙ ap (λ ys. Some ys) (sym (append_assoc here front zs)) ∙ ap (λ ys. Some (ys ++ zs)) (some_same e)

pub collect_more : {A B : Type 0} (f : A → Option B) (xs : List A) (x : A) (ys : List B) (y : B) → collect f xs ≡ Some ys → f x ≡ Some y → collect f (xs ++ x ∷ []) ≡ Some (ys ++ y ∷ [])
collect_more f xs x ys y e h = gather_more (λ x. alone (f x)) xs x ys (y ∷ []) e (ap alone h)

-- what is gathered from a first element and from the others
pub record Parts {A B : Type 0} (f : A → Option (List B)) (x : A) (xs : List A) (ys : List B) : Type 0 where
  pub here : List B
  pub rest : List B
  pub first : f x ≡ Some here
  pub later : gather f xs ≡ Some rest
  pub both : ys ≡ here ++ rest

pub gather_parts : {A B : Type 0} (f : A → Option (List B)) (x : A) (xs : List A) (ys : List B) → gather f (x ∷ xs) ≡ Some ys → Parts f x xs ys
gather_parts f x xs ys e =
    elim (f x) as (λ o. f x ≡ o → (o >>= (λ here. option_map (λ rest. here ++ rest) (gather f xs))) ≡ Some ys → Parts f x xs ys) [
      | None ↦ λ is e. cc
      | Some here ↦ λ is e.
          elim (gather f xs) as (λ p. gather f xs ≡ p → option_map (λ rest. here ++ rest) p ≡ Some ys → Parts f x xs ys) [
            | None ↦ λ was e. cc
            | Some rest ↦ λ was e. record { here = here; rest = rest; first = is; later = was; both = sym (some_same e) }
          ] refl e
    ] refl e

-- what is collected from a first element and from the others
pub record Collected {A B : Type 0} (f : A → Option B) (x : A) (xs : List A) (ys : List B) : Type 0 where
  pub one : B
  pub rest : List B
  pub first : f x ≡ Some one
  pub later : collect f xs ≡ Some rest
  pub both : ys ≡ one ∷ rest

pub collect_parts : {A B : Type 0} (f : A → Option B) (x : A) (xs : List A) (ys : List B) → collect f (x ∷ xs) ≡ Some ys → Collected f x xs ys
collect_parts f x xs ys e =
    let w = gather_parts (λ x. alone (f x)) x xs ys e in
    elim (f x) as (λ o. f x ≡ o → alone o ≡ Some w.here → Collected f x xs ys) [
      | None ↦ λ is e. cc
      | Some one ↦ λ is e. record { one = one; rest = w.rest; first = is; later = w.later; both = w.both ∙ ap (λ here. here ++ w.rest) (sym (some_same e)) }
    ] refl w.first

pub collected_length : {A B : Type 0} (f : A → Option B) (xs : List A) (ys : List B) → collect f xs ≡ Some ys → length ys ≡ length xs
collected_length f [] ys e = ap length (sym (some_same e))
collected_length f (x ∷ xs) ys e = let p = collect_parts f x xs ys e in ap length p.both ∙ ap suc (collected_length f xs p.rest p.later)

-- one element more at the front
pub collect_all : {A B : Type 0} (f : A → Option B) (x : A) (xs : List A) (y : B) (ys : List B) → f x ≡ Some y → collect f xs ≡ Some ys → collect f (x ∷ xs) ≡ Some (y ∷ ys)
collect_all f x xs y ys e h =
    ap (λ o. alone o >>= (λ here. option_map (λ rest. here ++ rest) (collect f xs))) e ∙ ap (option_map (λ rest. y ∷ rest)) h
