-- A bracket that is too deep comes alone: no token before it is wrong, and the tokens with it are not within the limit.
use Rattle.std.proofs.Common.{◌≡◌, ℕ, List, ◌∷◌, [], ◌++◌, ⊎_elim, sym, ◌∙◌, ap, subst, append_assoc}
use Rattle.std.proofs.lemmas.List.{append-nil}
use Rattle.bye_parts.specs.Parts.{Part}
use Rattle.bye_parts.specs.Brackets.{Turn, room, IsWithin}
use Rattle.bye_parts.specs.Answers.{DeepToken, WrongToken}
use Rattle.bye_parts.proofs.Cuts.{heads, cuts}
use Rattle.bye_parts.proofs.Whole.{no_room}

module _ {T V : Type 0} (P : Part T V) (turn : T → Turn) (n : ℕ) (ts left : List T) (deep : DeepToken P turn n ts left) where
  -- so it is not within the limit
  pub none_within : IsWithin turn n ts → ⊥
  none_within within =
      no_room turn n within.0 deep.front deep.rest deep.bracket deep.full deep.opens
      (ap (room turn n) (sym (deep.parts ∙ (ap (λ l. deep.front ++ l) deep.is ∙ sym (append_assoc deep.front (deep.bracket ∷ []) deep.rest)))) ∙ within.1)

  module _ (closed : (x y : List T) → P.front (x ++ y) → P.front x) (other : List T) (wrong : WrongToken P turn n ts other) where
    -- the wrong token is the bracket
    there : wrong.front ≡ deep.front → other ≡ left → ⊥
    there same e = wrong.after deep.bracket deep.rest (e ∙ deep.is) (subst (λ f. P.front (f ++ deep.bracket ∷ [])) (sym same) deep.fits)

    -- it stands after the bracket
    later : (more : List T) → wrong.front ≡ deep.front ++ more → left ≡ more ++ other → ⊥
    later [] e is = there (e ∙ append-nil deep.front) (sym is)
    later (c ∷ cs) e is =
        let same : deep.bracket ≡ c = (heads deep.bracket c deep.rest (cs ++ other) (sym deep.is ∙ is)).0 in
        no_room turn n wrong.within.0 deep.front cs c deep.full (ap turn (sym same) ∙ deep.opens)
        (ap (room turn n) (append_assoc deep.front (c ∷ []) cs ∙ sym e) ∙ wrong.within.1)

    -- it stands before it
    earlier : (more : List T) → deep.front ≡ wrong.front ++ more → other ≡ more ++ left → ⊥
    earlier [] e is = there (sym (e ∙ append-nil wrong.front)) is
    earlier (c ∷ cs) e is =
        let parts : deep.front ++ deep.bracket ∷ [] ≡ (wrong.front ++ c ∷ []) ++ (cs ++ deep.bracket ∷ []) =
        ap (λ f. f ++ deep.bracket ∷ []) e ∙ (append_assoc wrong.front (c ∷ cs) (deep.bracket ∷ []) ∙ sym (append_assoc wrong.front (c ∷ []) (cs ++ deep.bracket ∷ []))) in
        wrong.after c (cs ++ left) is (closed (wrong.front ++ c ∷ []) (cs ++ deep.bracket ∷ []) (subst (λ f. P.front f) parts deep.fits))

    -- no token is wrong
    pub none_wrong : ⊥
    none_wrong =
        ⊎_elim
        (λ (k : (more : List T) × (wrong.front ≡ deep.front ++ more) × (left ≡ more ++ other)). later k.0 k.1 k.2)
        (λ (k : (more : List T) × (deep.front ≡ wrong.front ++ more) × (other ≡ more ++ left)). earlier k.0 k.1 k.2)
        (cuts deep.front left wrong.front other (sym deep.parts ∙ wrong.parts))
