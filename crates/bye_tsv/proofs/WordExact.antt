-- The machine of the words `true` and `false` reads them.
use Rattle.std.proofs.Common.{◌≡◌, refl, ℕ, Bool, true, false, cond, ◌==◌, List, [], ◌∷◌, Some, None, sym, ap, subst, codes}
use Rattle.bye_lex.specs.Languages.{Viable}
use Rattle.bye_lex.proofs.Branches.{eqb_same, heads, none_some, pick_of, same_eqb, some_same, when}
use Rattle.bye_lex.proofs.Scans.{Exact}
use Rattle.bye_tsv.specs.FieldSteps.{word_step, word_value}
use Rattle.bye_tsv.specs.declared.word.WordAt.{WordAt}
use Rattle.bye_tsv.specs.declared.word.WordAt.TheVariants.{T, Tr, Tru, True, F, Fa, Fal, Fals, False}

-- the letters that a state still wants, and the value of the word
abbrev pub letters : WordAt → List ℕ
letters T = codes "rue"
letters Tr = codes "ue"
letters Tru = codes "e"
letters True = []
letters F = codes "alse"
letters Fa = codes "lse"
letters Fal = codes "se"
letters Fals = codes "e"
letters False = []

abbrev value : WordAt → Bool
value T = true
value Tr = true
value Tru = true
value True = true
value F = false
value Fa = false
value Fal = false
value Fals = false
value False = false

-- What each state still wants, in the grammar's words.
abbrev pub WordLeft : WordAt → List ℕ → Bool → Type 0
WordLeft at text is = (text ≡ letters at) × (is ≡ value at)

abbrev Next : WordAt → ℕ → List ℕ → Bool → Type 0
Next s c t v = (n : WordAt) × (word_step s c ≡ Some n) × WordLeft n t v

forth : (s : WordAt) (c : ℕ) (t : List ℕ) (v : Bool) → WordLeft s (c ∷ t) v → Next s c t v
forth T c t v h = let k = heads c 114 t (letters Tr) h.0 in (Tr, when _ _ _ (same_eqb c 114 k.0), (k.1, h.1))
forth Tr c t v h = let k = heads c 117 t (letters Tru) h.0 in (Tru, when _ _ _ (same_eqb c 117 k.0), (k.1, h.1))
forth Tru c t v h = let k = heads c 101 t (letters True) h.0 in (True, when _ _ _ (same_eqb c 101 k.0), (k.1, h.1))
forth True c t v h = let e = h.0 in cc
forth F c t v h = let k = heads c 97 t (letters Fa) h.0 in (Fa, when _ _ _ (same_eqb c 97 k.0), (k.1, h.1))
forth Fa c t v h = let k = heads c 108 t (letters Fal) h.0 in (Fal, when _ _ _ (same_eqb c 108 k.0), (k.1, h.1))
forth Fal c t v h = let k = heads c 115 t (letters Fals) h.0 in (Fals, when _ _ _ (same_eqb c 115 k.0), (k.1, h.1))
forth Fals c t v h = let k = heads c 101 t (letters False) h.0 in (False, when _ _ _ (same_eqb c 101 k.0), (k.1, h.1))
forth False c t v h = let e = h.0 in cc

-- the letter of a step, which leads to this state
letter : (c d : ℕ) (t : List ℕ) (v : Bool) (m n : WordAt) → cond (c == d) (Some m) None ≡ Some n → WordLeft n t v → (c ∷ t ≡ d ∷ letters m) × (v ≡ value m)
letter c d t v m n e h =
    pick_of _ _ _ _ e
    (λ b k. let a : WordLeft m t v = subst (λ (n : WordAt). WordLeft n t v) k h in ((λ i. eqb_same c d b i ∷ a.0 i), a.1))
    (λ k. none_some k)

back : (s n : WordAt) (c : ℕ) (t : List ℕ) (v : Bool) → word_step s c ≡ Some n → WordLeft n t v → WordLeft s (c ∷ t) v
back T n c t v e h = letter c 114 t v Tr n e h
back Tr n c t v e h = letter c 117 t v Tru n e h
back Tru n c t v e h = letter c 101 t v True n e h
back True n c t v e h = none_some e
back F n c t v e h = letter c 97 t v Fa n e h
back Fa n c t v e h = letter c 108 t v Fal n e h
back Fal n c t v e h = letter c 115 t v Fals n e h
back Fals n c t v e h = letter c 101 t v False n e h
back False n c t v e h = none_some e

-- each state can go on
pub can : (s : WordAt) → Viable (WordLeft s) []
can T = record { more = letters T; scalars = refl; value = true; whole = (refl, refl) }
can Tr = record { more = letters Tr; scalars = refl; value = true; whole = (refl, refl) }
can Tru = record { more = letters Tru; scalars = refl; value = true; whole = (refl, refl) }
can True = record { more = []; scalars = refl; value = true; whole = (refl, refl) }
can F = record { more = letters F; scalars = refl; value = false; whole = (refl, refl) }
can Fa = record { more = letters Fa; scalars = refl; value = false; whole = (refl, refl) }
can Fal = record { more = letters Fal; scalars = refl; value = false; whole = (refl, refl) }
can Fals = record { more = letters Fals; scalars = refl; value = false; whole = (refl, refl) }
can False = record { more = []; scalars = refl; value = false; whole = (refl, refl) }

ends : (s : WordAt) (v : Bool) → WordLeft s [] v → word_value s ≡ Some v
ends T v h = let e = h.0 in cc
ends Tr v h = let e = h.0 in cc
ends Tru v h = let e = h.0 in cc
ends True v h = ap Some (sym h.1)
ends F v h = let e = h.0 in cc
ends Fa v h = let e = h.0 in cc
ends Fal v h = let e = h.0 in cc
ends Fals v h = let e = h.0 in cc
ends False v h = ap Some (sym h.1)

may_end : (s : WordAt) (v : Bool) → word_value s ≡ Some v → WordLeft s [] v
may_end T v e = none_some e
may_end Tr v e = none_some e
may_end Tru v e = none_some e
may_end True v e = (refl, sym (some_same e))
may_end F v e = none_some e
may_end Fa v e = none_some e
may_end Fal v e = none_some e
may_end Fals v e = none_some e
may_end False v e = (refl, sym (some_same e))

pub word_exact : Exact WordLeft word_step word_value
word_exact = record {
  forth = forth;
  back = λ s n c t v a e h. back s n c t v e h;
  alive = λ s n c a e. can n;
  ends = ends;
  may_end = may_end;
}
