-- What the facts of the combinators are stated over: the kinds of tokens.
use Rattle.std.proofs.Common.{◌≡◌, ℕ, true, false, cond, List, ◌∷◌, [], ◌++◌, ◌∙◌, ap}
use Rattle.bye_parts.specs.Sets.{has, disjoint}
use Rattle.bye_parts.specs.Brackets.{Turn, Opens, Closes, Plain, turn_of}
use Rattle.bye_parts.proofs.Sets.{apart_of, lacks}

-- The number of each token's kind, the kinds that open a bracket and that close one, and which tokens another one may stand for at the
-- end of a front.
pub record Kinds (T : Type 0) : Type 1 where
  pub kind : T → ℕ
  pub opening : List ℕ
  pub closing : List ℕ
  pub Alike : T → T → Type 0
  -- the kinds of tokens that another may stand for
  pub alike : List ℕ
  pub is_alike : (t u : T) → Alike t u → has alike (kind t) ≡ true

-- what a token does to brackets
abbrev pub turn_by : {T : Type 0} → Kinds T → T → Turn
turn_by K = turn_of K.kind K.opening K.closing

-- the next token is of none of these kinds
abbrev pub Apart : {T : Type 0} → Kinds T → List ℕ → List T → Type 0
Apart K G [] = Unit {0}
Apart K G (c ∷ cs) = has G (K.kind c) ≡ false

pub apart_join : {T : Type 0} (K : Kinds T) (xs ys : List ℕ) (more : List T) → Apart K (xs ++ ys) more → Apart K xs more × Apart K ys more
apart_join K xs ys [] h = (tt, tt)
apart_join K xs ys (c ∷ cs) h = lacks xs ys (K.kind c) h

-- a token of none of the bracket's kinds is plain
pub turn_by-plain : {T : Type 0} (K : Kinds T) (F : List ℕ) → disjoint F (K.opening ++ K.closing) ≡ true → (c : T) → has F (K.kind c) ≡ true → turn_by K c ≡ Plain
turn_by-plain K F d c h =
    let none = lacks K.opening K.closing (K.kind c) (apart_of F (K.opening ++ K.closing) (K.kind c) d h) in
    ap (λ a. cond a Opens (cond (has K.closing (K.kind c)) Closes Plain)) none.0 ∙ ap (λ b. cond b Closes Plain) none.1
