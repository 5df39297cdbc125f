-- Where bytes stop being the front of a document of a rule, they stop once.
use Rattle.std.proofs.Common.{◌≡◌, ℕ, true, List, [], ◌∷◌, ◌++◌, length, ⊎_elim, sym, ◌∙◌, ap, subst, append_assoc, append-nil}
use Rattle.std.specs.Char.{encode_utf8, IsScalar}
use Rattle.std.specs.Str.{encode_utf8_all, all_scalars}
use Rattle.bye_terms.proofs.Tests.{both_parts}
use Rattle.bye_lex.specs.Languages.{Viable}
use Rattle.bye_lex.specs.Stopping.{LeavesOver}
use Rattle.bye_lex.proofs.Branches.{scalars_join}
use Rattle.bye_lex.proofs.Fronts.{Longer, at_char, back_scalars, front_scalars, none_empty, split}
use Rattle.bye_lex.proofs.Utf8Laws.{prefix_free}

-- a text at the front of another's bytes is its front
pub front_of : (a b r : List ℕ) → all_scalars a ≡ true → all_scalars b ≡ true → encode_utf8_all a ++ r ≡ encode_utf8_all b → (z : List ℕ) × (b ≡ a ++ z)
front_of a b r x y e =
    ⊎_elim (λ (h : (z : List ℕ) × (b ≡ a ++ z) × (r ≡ encode_utf8_all z ++ [])). (h.0, h.1))
    (λ (h : Longer a b r []). absurd (none_empty h.next (encode_utf8_all h.more ++ r) h.scalar (h.rest ∙ append_assoc (encode_utf8 h.next) (encode_utf8_all h.more) r)))
    (split a b r [] x y (e ∙ sym (append-nil (encode_utf8_all b))))

-- the text at the front of the bytes can go on to a document, and with no character that follows it can
pub record Halts {V : Type 0} (L : List ℕ → V → Type 0) (bytes front left : List ℕ) : Type 0 where
  pub parts : bytes ≡ encode_utf8_all front ++ left
  pub scalars : all_scalars front ≡ true
  pub viable : Viable L front
  pub stuck : (c : ℕ) (rest : List ℕ) → IsScalar c → left ≡ encode_utf8 c ++ rest → Viable L (front ++ c ∷ []) → ⊥

-- the first character of a text is stuck alone, where it stands before the bytes left
pub stuck_alone : {V : Type 0} (L : List ℕ → V → Type 0) (front : List ℕ) (next : ℕ) (behind : List ℕ) → IsScalar next → (Viable L (front ++ next ∷ []) → ⊥) → (c : ℕ) (rest : List ℕ) → IsScalar c → encode_utf8 next ++ behind ≡ encode_utf8 c ++ rest → Viable L (front ++ c ∷ []) → ⊥
stuck_alone L front next behind is after c rest scalar e w = after (subst (λ c. Viable L (front ++ c ∷ [])) (sym (prefix_free next c behind rest is scalar e).0) w)

module _ {V : Type 0} (L : List ℕ → V → Type 0) where
  -- the fronts of a viable text are viable
  front_viable : (front : List ℕ) (c : ℕ) (more : List ℕ) → all_scalars more ≡ true → Viable L (front ++ c ∷ more) → Viable L (front ++ c ∷ [])
  front_viable front c more scalars w = record {
    more = more ++ w.more;
    scalars = scalars_join more w.more scalars w.scalars;
    value = w.value;
    whole = subst (λ t. L t w.value) (append_assoc front (c ∷ more) w.more ∙ sym (append_assoc front (c ∷ []) (more ++ w.more))) w.whole;
  }

  -- a text that goes on past such a one is not viable
  no_longer : (bytes front left other : List ℕ) (c : ℕ) (more behind : List ℕ) → Halts L bytes front left → all_scalars other ≡ true → Viable L other → other ≡ front ++ c ∷ more → left ≡ encode_utf8_all (c ∷ more) ++ behind → ⊥
  no_longer bytes front left other c more behind h scalars w is rest =
      let k = both_parts _ _ (back_scalars front (c ∷ more) (ap all_scalars (sym is) ∙ scalars)) in
      h.stuck c (encode_utf8_all more ++ behind) k.0 (rest ∙ append_assoc (encode_utf8 c) (encode_utf8_all more) behind) (front_viable front c more k.1 (subst (Viable L) is w))

  -- and so the bytes have one such front
  pub halts_same : (bytes a b r t : List ℕ) → Halts L bytes a r → Halts L bytes b t → (a ≡ b) × (r ≡ t)
  halts_same bytes a b r t x y =
      ⊎_elim (λ (h : (z : List ℕ) × (b ≡ a ++ z) × (r ≡ encode_utf8_all z ++ t)). same h.0 h.1 h.2) (λ (h : Longer a b r t). absurd (no_longer bytes b t a h.next h.more r y x.scalars x.viable h.is h.rest))
      (split a b r t x.scalars y.scalars (sym x.parts ∙ y.parts))
    where
      same : (z : List ℕ) → b ≡ a ++ z → r ≡ encode_utf8_all z ++ t → (a ≡ b) × (r ≡ t)
      same [] e f = (sym (e ∙ append-nil a), f)
      same (c ∷ z) e f = absurd (no_longer bytes a r b c z t x y.scalars y.viable e f)

  -- the bytes of a viable text alone halt at its end
  pub end_halts : (bytes text : List ℕ) → bytes ≡ encode_utf8_all text → all_scalars text ≡ true → Viable L text → Halts L bytes text []
  end_halts bytes text encoded scalars viable = record {
    parts = encoded ∙ sym (append-nil (encode_utf8_all text));
    scalars = scalars;
    viable = viable;
    stuck = λ c rest scalar e w. none_empty c rest scalar e;
  }

  -- bytes halt before a character that no document goes on with
  pub next_halts : (bytes front : List ℕ) (next : ℕ) (rest : List ℕ) → bytes ≡ encode_utf8_all (front ++ next ∷ []) ++ rest → all_scalars (front ++ next ∷ []) ≡ true → Viable L front → (Viable L (front ++ next ∷ []) → ⊥) → Halts L bytes front (encode_utf8 next ++ rest)
  next_halts bytes front next rest parts scalars before after = record {
    parts = parts ∙ at_char front next rest;
    scalars = front_scalars front (next ∷ []) scalars;
    viable = before;
    stuck = stuck_alone L front next rest (both_parts _ _ (back_scalars front (next ∷ []) scalars)).0 after;
  }

  -- and before what is no character
  pub leaves_halts : (bytes : List ℕ) (place : ℕ) (l : LeavesOver L bytes place) → Halts L bytes l.front l.left
  leaves_halts bytes place l = record { parts = l.parts; scalars = l.scalars; viable = l.viable; stuck = λ c rest scalar e w. l.none c rest scalar e }

  pub leaves_same : (bytes : List ℕ) (a b : ℕ) → LeavesOver L bytes a → LeavesOver L bytes b → a ≡ b
  leaves_same bytes a b x y = x.at ∙ ap (λ t. length (encode_utf8_all t)) (halts_same bytes x.front y.front x.left y.left (leaves_halts bytes a x) (leaves_halts bytes b y)).0 ∙ sym y.at
