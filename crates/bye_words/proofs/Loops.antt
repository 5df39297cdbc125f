-- What loops over settings keep.
use Rattle.std.proofs.Common.{◌≡◌, List, [], ◌∷◌, Option, Some, None, is_some, MatchOption, Bool, IsTrue, ◌↔◌, inl, inr, sym, ◌∙◌, ap, subst}
use Rattle.std.specs.List.{AllByRecursion}
use Rattle.bye_terms.specs.Members.{In, EachOnce}
use Rattle.bye_words.specs.Pairs.{Word, Setting}
use Rattle.bye_words.specs.Forms.{Form, IsKnown, names_in}

-- no setting before the rest has the name
pub record Seeks (name : Word) (whole rest : List Setting) : Type 0 where
  pub named : In (names_in whole) name → In (names_in rest) name
  pub kept : (value : Word) → In rest (name, value) → In whole (name, value)

-- no name before the rest stands twice
pub record Repeats (whole rest : List Setting) : Type 0 where
  pub later : EachOnce (names_in whole) → EachOnce (names_in rest)
  pub all : EachOnce (names_in rest) → EachOnce (names_in whole)

-- each setting before the rest is known
pub record Knows (form : Form) (whole rest : List Setting) : Type 0 where
  pub later : AllByRecursion (λ setting. IsKnown form setting) whole → AllByRecursion (λ setting. IsKnown form setting) rest
  pub all : AllByRecursion (λ setting. IsKnown form setting) rest → AllByRecursion (λ setting. IsKnown form setting) whole

-- a setting that is there has its name there
pub name_there : (settings : List Setting) (name value : Word) → In settings (name, value) → In (names_in settings) name
name_there [] name value h = h
name_there (s ∷ settings) name value (inl e) = inl (ap (λ s. s.0) e)
name_there (s ∷ settings) name value (inr h) = inr (name_there settings name value h)

-- whether a name is there, by its value
pub tells : {V : Type 0} (o : Option V) (text : V → Word) (settings : List Setting) (name : Word) (b : Bool) → MatchOption o (In (names_in settings) name → ⊥) (λ v. In settings (name, text v)) → b ≡ is_some o
    → IsTrue b ↔ In (names_in settings) name
tells (Some v) text settings name b h e = (λ t. name_there settings name (text v) h, λ k. e)
tells None text settings name b h e = (λ t. let k = sym e ∙ t in cc, λ k. absurd (h k))

-- a name that is in the rest, or is not
pub twice : (whole rest : List Setting) (name text : Word) (later : List Setting) (value : Word) → Repeats whole rest → rest ≡ (name, value) ∷ later → text ≡ name → In (names_in later) text
    → EachOnce (names_in whole) → ⊥
twice whole rest name text later value h e same there once =
    let k : EachOnce (names_in ((name, value) ∷ later)) = subst (λ (r : List Setting). EachOnce (names_in r)) e (h.later once) in
    k.0 (subst (λ (n : Word). In (names_in later) n) same there)

pub not_twice : (whole rest : List Setting) (name text : Word) (later : List Setting) (value : Word) → Repeats whole rest → rest ≡ (name, value) ∷ later → text ≡ name → (In (names_in later) text → ⊥)
    → Repeats whole later
not_twice whole rest name text later value h e same none =
    let out : In (names_in later) name → ⊥ = λ k. none (subst (λ (n : Word). In (names_in later) n) (sym same) k) in
    record {
      later = λ once. let k : EachOnce (names_in ((name, value) ∷ later)) = subst (λ (r : List Setting). EachOnce (names_in r)) e (h.later once) in k.1;
      all = λ once. h.all (subst (λ (r : List Setting). EachOnce (names_in r)) (sym e) (out, once));
    }
