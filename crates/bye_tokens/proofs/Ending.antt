-- What is left of a text is an end of it.
use Rattle.std.proofs.Common.{◌≡◌, refl, ℕ, true, List, [], ◌∷◌, ◌++◌, Option, Some, None, IfSome, ap, subst, sym, ◌∙◌, append_assoc}
use Rattle.std.specs.List.{list_all}
use Rattle.bye_terms.specs.Characters.{is_iri_char, is_name_start, is_name_part}
use Rattle.bye_terms.specs.Names.{is_name}
use Rattle.bye_terms.proofs.Tests.{both}
use Rattle.bye_tokens.specs.Ends.{EndsIn}
use Rattle.bye_tokens.specs.Reading.{longest, better, onward, after_all, before}
use Rattle.bye_tokens.proofs.Cuts.{before_is}
use Rattle.bye_tokens.proofs.Runs.{run_parts}

abbrev Ends : {V : Type 0} → List ℕ → Option (V × List ℕ) → Type 0
Ends text x = IfSome x (λ r. EndsIn text r.1)

later : (text : List ℕ) (c : ℕ) (cs : List ℕ) → EndsIn text (c ∷ cs) → EndsIn text cs
later text c cs e = record { front = e.front ++ c ∷ []; parts = e.parts ∙ sym (append_assoc e.front (c ∷ []) cs) }

ends_better : {V : Type 0} (text rest : List ℕ) (o : Option V) (best : Option (V × List ℕ)) → EndsIn text rest → Ends text best → Ends text (better o rest best)
ends_better text rest None best e h = h
ends_better text rest (Some v) best e h = e

ends_on : {S V : Type 0} (step : S → ℕ → Option S) (final : S → Option V) (whole : List ℕ) (s : S) (best : Option (V × List ℕ)) (text : List ℕ) → EndsIn whole text → Ends whole best → Ends whole (longest step final s best text)
ends_on step final whole s best [] e h = h
ends_on {S} {V} step final whole s best (c ∷ cs) e h =
    elim (step s c) as (λ o. Ends whole (onward best (λ n. longest step final n (better (final n) cs best) cs) o)) [
      | None ↦ h
      | Some n ↦ let k = later whole c cs e in ends_on step final whole n (better (final n) cs best) cs k (ends_better whole cs (final n) best k h)
    ]

pub longest_ends : {S V : Type 0} (step : S → ℕ → Option S) (final : S → Option V) (s : S) (text : List ℕ) (x : Option (V × List ℕ)) → x ≡ longest step final s None text → IfSome x (λ r. EndsIn text r.1)
longest_ends step final s text x e = subst (Ends text) (sym e) (ends_on step final text s None text (record { front = []; parts = refl }) tt)

pub iri_ends : (text : List ℕ) → EndsIn text (after_all is_iri_char text)
iri_ends text = let k = run_parts is_iri_char text in record { front = k.front; parts = k.parts }

pub name_ends : (c : ℕ) (text : List ℕ) → EndsIn (c ∷ text) (after_all is_name_part text)
name_ends c text = let k = run_parts is_name_part text in record { front = c ∷ k.front; parts = ap (λ t. c ∷ t) k.parts }

-- where a machine found a token
pub found_ends_at : {S V : Type 0} (step : S → ℕ → Option S) (final : S → Option V) (s : S) (text from : List ℕ) (r : V × List ℕ) (rest : List ℕ) → from ≡ text → Some r ≡ longest step final s None from → rest ≡ r.1 → EndsIn text rest
found_ends_at step final s text from r rest e h is = subst (λ t. EndsIn t rest) e (subst (EndsIn from) (sym is) (longest_ends step final s from (Some r) h))

pub iri_ends_at : (text from after : List ℕ) → from ≡ text → after ≡ after_all is_iri_char from → EndsIn text after
iri_ends_at text from after e h = subst (EndsIn text) (sym h) (subst (λ t. EndsIn t (after_all is_iri_char from)) e (iri_ends from))

pub name_ends_at : (text cs after : List ℕ) (c : ℕ) → text ≡ c ∷ cs → after ≡ after_all is_name_part cs → EndsIn text after
name_ends_at text cs after c e h = subst (EndsIn text) (sym h) (subst (λ t. EndsIn t (after_all is_name_part cs)) (sym e) (name_ends c cs))

-- a name before its end
name_is : (c : ℕ) (cs : List ℕ) → is_name_start c ≡ true → is_name (before (c ∷ cs) (after_all is_name_part cs)) ≡ true
name_is c cs e =
    let run = run_parts is_name_part cs in
    ap is_name (before_is (c ∷ cs) (c ∷ run.front) (after_all is_name_part cs) (ap (λ t. c ∷ t) run.parts)) ∙ both (is_name_start c) (list_all is_name_part run.front) e run.all

pub name_is_at : (text cs after name : List ℕ) (c : ℕ) → text ≡ c ∷ cs → after ≡ after_all is_name_part cs → is_name_start c ≡ true → name ≡ before text after → is_name name ≡ true
name_is_at text cs after name c e h start at = ap is_name (at ∙ (λ i. before (e i) (h i))) ∙ name_is c cs start
