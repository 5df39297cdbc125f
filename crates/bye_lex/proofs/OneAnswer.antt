-- A reader has one answer.
use Rattle.std.proofs.Common.{◌≡◌, refl, ℕ, true, List, [], ◌∷◌, ◌++◌, Option, Ok, Err, ◌⊎◌, inl, inr, ⊎_elim, sym, ◌∙◌, ap, subst, append_assoc, arith}
use Rattle.std.specs.Str.{all_scalars}
use Rattle.bye_terms.proofs.Tests.{both_parts}
use Rattle.bye_lex.specs.Languages.{Viable, FaultAfter, NoFront}
use Rattle.bye_lex.specs.Answers.{IsFound, place_after}
use Rattle.bye_lex.specs.Iris.{IriToken}
use Rattle.bye_lex.specs.Strings.{StringToken}
use Rattle.bye_lex.specs.StringSteps as string
use Rattle.bye_lex.specs.declared.style.Style.{Style}
use Rattle.bye_lex.specs.declared.string.StringAt.TheVariants as strings
use Rattle.bye_lex.proofs.StringMeaning as string_meaning
use Rattle.bye_lex.proofs.StringExact.{string_exact}
use Rattle.bye_lex.specs.Marks.{LabelToken, TagToken, NameToken}
use Rattle.bye_lex.specs.IriSteps.{step, final}
use Rattle.bye_lex.specs.Laws.{OneValue, OneAnswer, ReadersAnswerOnce}
use Rattle.bye_lex.specs.declared.fault.LexErr.TheVariants.{NoToken, Cut, Memory}
use Rattle.bye_lex.specs.declared.iri.IriAt.TheVariants.{Start}
use Rattle.bye_lex.proofs.Branches.{heads, some_same, and_true, scalars_join}
use Rattle.bye_lex.proofs.Scans.{Exact}
use Rattle.bye_lex.proofs.IriMeaning.{Left}
use Rattle.bye_lex.proofs.IriExact.{iri_exact}

-- the second front is the first and more, and what follows the first is that and what follows the second
pub record Further (short long after-short after-long : List ℕ) : Type 0 where
  pub next : ℕ
  pub more : List ℕ
  pub whole : long ≡ short ++ next ∷ more
  pub rest : after-short ≡ next ∷ more ++ after-long

one_more : (c : ℕ) (a b s t : List ℕ) → Further a b s t → Further (c ∷ a) (c ∷ b) s t
one_more c a b s t k = record { next = k.next; more = k.more; whole = ap (λ t. c ∷ t) k.whole; rest = k.rest }

-- two fronts of one text
pub fronts : (a b s t : List ℕ) → a ++ s ≡ b ++ t → (a ≡ b) ⊎ (Further a b s t ⊎ Further b a t s)
fronts [] [] s t e = inl refl
fronts [] (d ∷ b) s t e = inr (inl (record { next = d; more = b; whole = refl; rest = e }))
fronts (c ∷ a) [] s t e = inr (inr (record { next = c; more = a; whole = refl; rest = sym e }))
fronts (c ∷ a) (d ∷ b) s t e =
    let same = heads c d (a ++ s) (b ++ t) e in
    subst (λ d. (c ∷ a ≡ d ∷ b) ⊎ (Further (c ∷ a) (d ∷ b) s t ⊎ Further (d ∷ b) (c ∷ a) t s)) same.0
    (⊎_elim (λ k. inl (ap (λ t. c ∷ t) k)) (λ k. inr (⊎_elim (λ q. inl (one_more c a b s t q)) (λ q. inr (one_more c b a t s q)) k)) (fronts a b s t same.1))

-- scalar values
scalars_before : (a b : List ℕ) → all_scalars (a ++ b) ≡ true → all_scalars a ≡ true
scalars_before [] b e = refl
scalars_before (c ∷ a) b e = let k = both_parts _ _ e in and_true _ _ k.0 (scalars_before a b k.1)

scalars_after : (a : List ℕ) (c : ℕ) (b : List ℕ) → all_scalars (a ++ c ∷ b) ≡ true → all_scalars b ≡ true
scalars_after [] c b e = (both_parts _ _ e).1
scalars_after (d ∷ a) c b e = scalars_after a c b (both_parts _ _ e).1

module _ {V : Type 0} (L : List ℕ → V → Type 0) where
  -- the fronts of a viable text are viable
  viable_before : (front : List ℕ) (next : ℕ) (rest : List ℕ) → all_scalars (front ++ next ∷ rest) ≡ true → Viable L (front ++ next ∷ rest) → Viable L (front ++ next ∷ [])
  viable_before front next rest scalars w = record {
    more = rest ++ w.more;
    scalars = scalars_join rest w.more (scalars_after front next rest scalars) w.scalars;
    value = w.value;
    whole = subst (λ t. L t w.value) (append_assoc front (next ∷ rest) w.more ∙ sym (append_assoc front (next ∷ []) (rest ++ w.more))) w.whole;
  }

  -- no text past a fault is viable
  past : (text front long after : List ℕ) (k : FaultAfter L text front) → Further front long (k.next ∷ k.rest) after → all_scalars long ≡ true → Viable L long → ⊥
  past text front long after k f scalars w =
      let same = heads k.next f.next k.rest (f.more ++ after) f.rest in
      let s = subst (λ t. all_scalars t ≡ true) f.whole scalars in
      let v = viable_before front f.next f.more s (subst (λ t. Viable L t) f.whole w) in
      k.after (subst (λ c. Viable L (front ++ c ∷ [])) (sym same.0) v)

  one_fault : (text f g : List ℕ) → all_scalars text ≡ true → FaultAfter L text f → FaultAfter L text g → f ≡ g
  one_fault text f g scalars j k =
      let of_f = scalars_before f (j.next ∷ j.rest) (subst (λ t. all_scalars t ≡ true) j.parts scalars) in
      let of_g = scalars_before g (k.next ∷ k.rest) (subst (λ t. all_scalars t ≡ true) k.parts scalars) in
      ⊎_elim (λ same. same)
      (λ further. absurd (⊎_elim (λ q. past text f g (k.next ∷ k.rest) j q of_g k.before) (λ q. past text g f (j.next ∷ j.rest) k q of_f j.before) further))
      (fronts f g (j.next ∷ j.rest) (k.next ∷ k.rest) (sym j.parts ∙ k.parts))

  -- a text with a fault is not viable
  not_cut : (text front : List ℕ) → all_scalars text ≡ true → FaultAfter L text front → Viable L text → ⊥
  not_cut text front scalars k w =
      k.after (viable_before front k.next k.rest (subst (λ t. all_scalars t ≡ true) k.parts scalars) (subst (λ t. Viable L t) k.parts w))

  not_none : (text : List ℕ) (from : ℕ) (value : V) (place : ℕ) → IsFound L text from value place → NoFront L text → ⊥
  not_none text from value place k none = none k.token k.rest value k.parts k.is.is

  -- the longer of two tokens tells that the shorter is not the longest
  not_longest : (text : List ℕ) (from : ℕ) (v w : V) (p q : ℕ) (j : IsFound L text from v p) (k : IsFound L text from w q) → Further j.token k.token j.rest k.rest → ⊥
  not_longest text from v w p q j k f = j.is.longest (f.next ∷ f.more) k.rest w f.rest (omega arith) (subst (λ t. L t w) f.whole k.is.is)

  one_token : (text : List ℕ) (from : ℕ) (v w : V) (p q : ℕ) (j : IsFound L text from v p) (k : IsFound L text from w q) → j.token ≡ k.token
  one_token text from v w p q j k =
      ⊎_elim (λ same. same)
      (λ further. absurd (⊎_elim (λ f. not_longest text from v w p q j k f) (λ f. not_longest text from w v q p k j f) further))
      (fronts j.token k.token j.rest k.rest (sym j.parts ∙ k.parts))

  one_found : OneValue L → (text : List ℕ) (from : ℕ) (r s : V × ℕ) → IsFound L text from r.0 r.1 → IsFound L text from s.0 s.1 → r ≡ s
  one_found one text from r s j k =
      let token = one_token text from r.0 s.0 r.1 s.1 j k in
      let value : r.0 ≡ s.0 = one k.token r.0 s.0 (subst (λ t. L t r.0) token j.is.is) k.is.is in
      let place : r.1 ≡ s.1 = j.at ∙ ap (λ t. place_after from t) token ∙ sym k.at in
      λ i. (value i, place i)

  one_answer : OneValue L → OneAnswer L
  one_answer one text from (Err Memory) other scalars j k = inl refl
  one_answer one text from (Ok r) (Err Memory) scalars j k = inr (inl refl)
  one_answer one text from (Err (NoToken p)) (Err Memory) scalars j k = inr (inl refl)
  one_answer one text from (Err Cut) (Err Memory) scalars j k = inr (inl refl)
  one_answer one text from (Ok r) (Ok s) scalars j k = inr (inr (ap Ok (one_found one text from r s j k)))
  one_answer one text from (Ok r) (Err (NoToken q)) scalars j k = absurd (not_none text from r.0 r.1 j k.none)
  one_answer one text from (Ok r) (Err Cut) scalars j k = absurd (not_none text from r.0 r.1 j k.none)
  one_answer one text from (Err (NoToken p)) (Ok s) scalars j k = absurd (not_none text from s.0 s.1 k j.none)
  one_answer one text from (Err (NoToken p)) (Err (NoToken q)) scalars j k =
      let place : p ≡ q = j.at ∙ ap (λ t. place_after from t) (one_fault text j.front k.front scalars j.fault k.fault) ∙ sym k.at in
      inr (inr (ap (λ p. Err (NoToken p)) place))
  one_answer one text from (Err (NoToken p)) (Err Cut) scalars j k = absurd (not_cut text j.front scalars j.fault k.viable)
  one_answer one text from (Err Cut) (Ok s) scalars j k = absurd (not_none text from s.0 s.1 k j.none)
  one_answer one text from (Err Cut) (Err (NoToken q)) scalars j k = absurd (not_cut text k.front scalars k.fault j.viable)
  one_answer one text from (Err Cut) (Err Cut) scalars j k = inr (inr refl)

-- what a machine reads stands for one value
one_value : {S V : Type 0} (Left : S → List ℕ → V → Type 0) (step : S → ℕ → Option S) (final : S → Option V) → Exact Left step final
    → (text : List ℕ) (s : S) (v w : V) → Left s text v → Left s text w → v ≡ w
one_value Left step final x [] s v w j k = some_same (sym (x.ends s v j) ∙ x.ends s w k)
one_value Left step final x (c ∷ t) s v w j k =
    let m = x.forth s c t v j in
    let n = x.forth s c t w k in
    one_value Left step final x t n.0 v w (subst (λ n. Left n t v) (some_same (sym m.1 ∙ n.1)) m.2) n.2

pub one_iri : (style : Style) → OneValue (IriToken style)
one_iri style text v w j k = one_value (Left style) (step style) final (iri_exact style) text Start v w j k

pub one_string : (style : Style) → OneValue (StringToken style)
one_string style text v w j k = one_value (string_meaning.Left style) (string.step style) string.final (string_exact style) text strings.Start v w j k

pub one_label : OneValue LabelToken
one_label text v w j k = let e = heads 95 95 (58 ∷ v) (58 ∷ w) (sym j.0 ∙ k.0) in (heads 58 58 v w e.1).1

pub one_tag : OneValue TagToken
one_tag text v w j k = (heads 64 64 v w (sym j.0 ∙ k.0)).1

one_name : OneValue NameToken
one_name text v w j k = sym j.0 ∙ k.0

pub readers_answer_once : ReadersAnswerOnce
readers_answer_once = record {
  iri = λ style. one_answer (IriToken style) (one_iri style);
  string = λ style. one_answer (StringToken style) (one_string style);
  label = one_answer LabelToken one_label;
  tag = one_answer TagToken one_tag;
  name = one_answer NameToken one_name;
}
