-- What the reader of documents comes to says what the answer says.
use Rattle.std.proofs.Common.{◌≡◌, refl, ℕ, ◌≤◌, Bool, true, false, ◌&&◌, not, List, [], ◌∷◌, ◌++◌, Option, Some, None, ◌↔◌, sym, ◌∙◌, ap, subst}
use Rattle.bye_pattern.specs.Written.{Written}
use Rattle.bye_tokens.specs.declared.token.Placed.{Placed}
use Rattle.bye_tokens.specs.Left.{first_place}
use Rattle.bye_tokens.specs.Splitting.{Splits}
use Rattle.bye_parts.specs.Parts.{any}
use Rattle.bye_parts.specs.Readers.{Outcome, Got, Wrong, Deep, to_end, left_of}
use Rattle.bye_parts.specs.Answers.{Answers, WrongToken}
use Rattle.bye_parts.specs.Brackets.{IsWithin}
use Rattle.bye_grammar.specs.TokenKinds.{turn}
use Rattle.bye_grammar.specs.Grammar.{document}
use Rattle.bye_grammar.specs.Reading.{read_document}
use Rattle.bye_grammar.specs.Laws.{DocumentsAreRead, FittingIrisAreRead, FitsIri, IsDocument}
use Rattle.bye_descent.specs.declared.feature.Feature.{Feature}
use Rattle.bye_descent.specs.Answer.{IsUnknownAt, IsWrongAt, IsDeepAt}
use Rattle.bye_descent.specs.Ending.{up_to}
use Rattle.bye_descent.specs.Features.{next_feature}
use Rattle.bye_descent.specs.Opening.{max_open}
use Rattle.bye_descent.specs.Unknown.{UnknownPrefix, is_declared, next_prefix, an_iri, are_none, leaves_none, is_unknown}
use Rattle.bye_descent.proofs.Rising.{size, front_is}

module _ (law : DocumentsAreRead) (placed ts left : List Placed) (same : ts ≡ placed) where
  said : (o : Outcome Placed Written) → to_end (read_document max_open placed) ≡ o → Answers (any document) turn max_open ts o
  said o e = subst (λ ts. Answers (any document) turn max_open ts o) (sym same) (subst (λ o. Answers (any document) turn max_open placed o) e (law max_open placed))

  pub answer_ok : (w : Written) → to_end (read_document max_open placed) ≡ Got w left → IsDocument ts w × IsWithin turn max_open ts
  answer_ok w e = let s = said (Got w left) e in (s.1, s.2)

  pub answer_wrong : to_end (read_document max_open placed) ≡ Wrong left → WrongToken (any document) turn max_open ts left
  answer_wrong e = said (Wrong left) e

  pub answer_deep : (end place : ℕ) → place ≡ first_place left end → to_end (read_document max_open placed) ≡ Deep left → IsDeepAt end ts place
  answer_deep end place at e = (left, said (Deep left) e, at)

none_left : (ts : List Placed) → are_none ts ≡ true → ts ≡ []
none_left [] e = refl
none_left (t ∷ ts) e = cc

both : (b c : Bool) → (b && c) ≡ true → (b ≡ true) × (c ≡ true)
both true c e = (refl, e)
both false c e = cc

undeclared : (b : Bool) → not b ≡ true → b ≡ false
undeclared true e = cc
undeclared false e = refl

no_both : (b : Bool) → b ≡ true → b ≡ false → ⊥
no_both true e h = cc
no_both false e h = cc

-- the wrong token, and what reading again found
module _ (law : FittingIrisAreRead) (end total place : ℕ) (ts left : List Placed) (text : List ℕ) (few : size text ≤ total) (splits : Splits total text ts) (wrong : WrongToken (any document) turn max_open ts left) (at : place ≡ first_place left end) where
  -- the tokens before it
  before_it : (l : List Placed) → left ≡ l → (name : List ℕ) → next_prefix l ≡ Some name → up_to (Some place) ts ≡ wrong.front
  before_it [] e name h = cc
  before_it (t ∷ rest) e name h =
      let parts : ts ≡ wrong.front ++ t ∷ rest = wrong.parts ∙ ap (λ l. wrong.front ++ l) e in
      let here : place ≡ t.place = at ∙ ap (λ l. first_place l end) e in
      ap (λ p. up_to (Some p) ts) here ∙ ap (λ ts. up_to (Some t.place) ts) parts ∙ front_is total wrong.front rest t text few (subst (λ ts. Splits total text ts) parts splits)

  fits : FitsIri wrong.front ↔ (left_of (to_end (read_document max_open (wrong.front ++ an_iri place ∷ []))) ≡ [])
  fits = law max_open wrong.front (an_iri place) (refl, refl) wrong.within

  found : (b : Bool) (o : Option (List ℕ)) → next_prefix left ≡ o → is_unknown place (up_to (Some place) ts) o ≡ b → (name : List ℕ) → o ≡ Some name → (not (is_declared name wrong.front) && leaves_none (wrong.front ++ an_iri place ∷ [])) ≡ b
  found b o e h name is =
      let named = e ∙ is in
      subst (λ f. is_unknown place f (Some name) ≡ b) (before_it left refl name named) (subst (λ o. is_unknown place (up_to (Some place) ts) o ≡ b) is h)

  unknown : (o : Option (List ℕ)) → next_prefix left ≡ o → is_unknown place (up_to (Some place) ts) o ≡ true → UnknownPrefix wrong.front left
  unknown None e h = cc
  unknown (Some name) e h =
      let parts = both (not (is_declared name wrong.front)) (leaves_none (wrong.front ++ an_iri place ∷ [])) (found true (Some name) e h name refl) in
      record { name = name; next = e; undeclared = undeclared (is_declared name wrong.front) parts.0; fits = fits.1 (none_left _ parts.1) }

  pub answer_unknown : is_unknown place (up_to (Some place) ts) (next_prefix left) ≡ true → IsUnknownAt end ts place
  answer_unknown h = (left, wrong, at, unknown (next_prefix left) refl h)

  known : is_unknown place (up_to (Some place) ts) (next_prefix left) ≡ false → UnknownPrefix wrong.front left → ⊥
  known h u =
      let is_so : (not (is_declared u.name wrong.front) && leaves_none (wrong.front ++ an_iri place ∷ [])) ≡ true = ap (λ b. not b && leaves_none (wrong.front ++ an_iri place ∷ [])) u.undeclared ∙ ap (λ ts. are_none ts) (fits.0 u.fits) in
      let is_not = found false (next_prefix left) refl h u.name u.next in
      no_both _ is_so is_not

  pub answer_known : (feature : Option Feature) → feature ≡ next_feature left → is_unknown place (up_to (Some place) ts) (next_prefix left) ≡ false → IsWrongAt end ts place feature
  answer_known feature is h = (left, wrong, at, is, known h)
