-- No text is the tokens of two terms.
use Rattle.std.proofs.Common.{◌≡◌, refl, ℕ, List, [], ◌∷◌, ◌++◌, Option, Some, None, ⊎_elim, sym, ◌∙◌, ap, subst, append_assoc, arith}
use Rattle.bye_terms.specs.Literals.{LiteralValue, xsd_string}
use Rattle.bye_terms.specs.declared.term.Term.TheVariants.{Iri, Blank, Lit}
use Rattle.bye_lex.specs.Languages.{Token}
use Rattle.bye_lex.specs.Iris.{IriToken}
use Rattle.bye_lex.specs.Marks.{LabelToken}
use Rattle.bye_lex.specs.Strings.{mark_of, around, StringToken}
use Rattle.bye_lex.specs.ReadingBack.{DatatypeText, SuffixText, LiteralText, OneTerm}
use Rattle.bye_lex.specs.declared.style.Style.{Style}
use Rattle.bye_lex.specs.declared.quoting.Quote.{Quote}
use Rattle.bye_lex.specs.declared.quoting.Quote.TheVariants.{Double, Single}
use Rattle.bye_lex.specs.declared.quoting.Quoting.{Quoting}
use Rattle.bye_lex.specs.declared.quoting.Quoting.TheVariants.{Short, Long}
use Rattle.bye_lex.proofs.Branches.{heads}
use Rattle.bye_lex.proofs.OneAnswer.{Further, fronts, one_iri, one_string, one_label, one_tag}

-- by their first characters
mark_is : (q : Quote) → (60 ≡ mark_of q → ⊥) × (95 ≡ mark_of q → ⊥)
mark_is Double = (λ e. omega (arith, e), λ e. omega (arith, e))
mark_is Single = (λ e. omega (arith, e), λ e. omega (arith, e))

opens_with : (k : Quoting) (c : ℕ) (t tail : List ℕ) → c ∷ t ≡ around k ++ tail → (q : Quote) × (c ≡ mark_of q)
opens_with (Short q) c t tail e = (q, (heads c (mark_of q) t tail e).0)
opens_with (Long q) c t tail e = (q, (heads c (mark_of q) t (mark_of q ∷ mark_of q ∷ tail) e).0)

no_iri_string : {P : Type 0} (style : Style) (text iri string suffix value : List ℕ) → IriToken style text iri → StringToken style string value → text ≡ string ++ suffix → P
no_iri_string style text iri string suffix value j k e =
    let f = opens_with k.quoting 60 j.rest (k.tail ++ suffix) (sym j.spelled ∙ e ∙ ap (λ t. t ++ suffix) k.spelled ∙ append_assoc (around k.quoting) k.tail suffix) in
    absurd ((mark_is f.0).0 f.1)

no_label_string : {P : Type 0} (style : Style) (text label string suffix value : List ℕ) → LabelToken text label → StringToken style string value → text ≡ string ++ suffix → P
no_label_string style text label string suffix value j k e =
    let f = opens_with k.quoting 95 (58 ∷ label) (k.tail ++ suffix) (sym j.0 ∙ e ∙ ap (λ t. t ++ suffix) k.spelled ∙ append_assoc (around k.quoting) k.tail suffix) in
    absurd ((mark_is f.0).1 f.1)

differ : ◌≡◌ {A = ℕ} 60 95 → ⊥
differ e = omega (arith, e)

no_iri_label : {P : Type 0} (style : Style) (text iri label : List ℕ) → IriToken style text iri → LabelToken text label → P
no_iri_label style text iri label j k = absurd (differ (heads 60 95 j.rest (58 ∷ label) (sym j.spelled ∙ k.0)).0)

-- one string
not_further : (style : Style) (a b s t rest v w : List ℕ) → Token (StringToken style) a (s ++ rest) v → Token (StringToken style) b (t ++ rest) w → Further a b s t → ⊥
not_further style a b s t rest v w j k f =
    j.longest (f.next ∷ f.more) (t ++ rest) w (ap (λ x. x ++ rest) f.rest ∙ append_assoc (f.next ∷ f.more) t rest) (omega arith) (subst (λ b. StringToken style b w) f.whole k.is)

one_front : (style : Style) (text rest : List ℕ) (l m : LiteralValue) (j : LiteralText style text rest l) (k : LiteralText style text rest m) → j.string ≡ k.string
one_front style text rest l m j k =
    ⊎_elim (λ same. same)
    (λ further. absurd (⊎_elim
    (λ f. not_further style j.string k.string j.suffix k.suffix rest l.lexical m.lexical j.is k.is f)
    (λ f. not_further style k.string j.string k.suffix j.suffix rest m.lexical l.lexical k.is j.is f) further))
    (fronts j.string k.string j.suffix k.suffix (sym j.parts ∙ k.parts))

-- one suffix
after_same : (a s t : List ℕ) → a ++ s ≡ a ++ t → s ≡ t
after_same [] s t e = e
after_same (c ∷ a) s t e = after_same a s t (heads c c (a ++ s) (a ++ t) e).1

sign_caret : ◌≡◌ {A = ℕ} 64 94 → ⊥
sign_caret e = omega (arith, e)

no_tag : {P : Type 0} (style : Style) (suffix rest tag datatype : List ℕ) → suffix ≡ 64 ∷ tag → SuffixText style suffix rest None datatype → P
no_tag style suffix rest tag datatype e h =
    ⊎_elim
    (λ (k : (suffix ≡ []) × (datatype ≡ xsd_string)). let f = sym k.0 ∙ e in let no : ⊥ = cc in absurd no)
    (λ (k : DatatypeText style suffix rest datatype). absurd (sign_caret (heads 64 94 tag (94 ∷ k.iri) (sym e ∙ k.parts)).0))
    h

one_suffix : (style : Style) (suffix rest : List ℕ) (tag other_tag : Option (List ℕ)) (datatype other : List ℕ) → SuffixText style suffix rest tag datatype → SuffixText style suffix rest other_tag other → (tag ≡ other_tag) × (datatype ≡ other)
one_suffix style suffix rest (Some tag) (Some other_tag) datatype other j k = (ap Some (one_tag suffix tag other_tag j.0.is k.0.is), j.1 ∙ sym k.1)
one_suffix style suffix rest (Some tag) None datatype other j k = no_tag style suffix rest tag other j.0.is.0 k
one_suffix style suffix rest None (Some tag) datatype other j k = no_tag style suffix rest tag datatype k.0.is.0 j
one_suffix style suffix rest None None datatype other j k = (
  refl,
  ⊎_elim
      (λ (j : (suffix ≡ []) × (datatype ≡ xsd_string)). ⊎_elim
      (λ (k : (suffix ≡ []) × (other ≡ xsd_string)). j.1 ∙ sym k.1)
      (λ (k : DatatypeText style suffix rest other). let f = sym j.0 ∙ k.parts in let no : ⊥ = cc in absurd no) k)
      (λ (j : DatatypeText style suffix rest datatype). ⊎_elim
      (λ (k : (suffix ≡ []) × (other ≡ xsd_string)). let f = sym k.0 ∙ j.parts in let no : ⊥ = cc in absurd no)
      (λ (k : DatatypeText style suffix rest other).
      let same = (heads 94 94 j.iri k.iri (heads 94 94 (94 ∷ j.iri) (94 ∷ k.iri) (sym j.parts ∙ k.parts)).1).1 in
      one_iri style k.iri datatype other (subst (λ t. IriToken style t datatype) same j.is.is) k.is.is) k)
      j,
)

one_literal : (style : Style) (text rest : List ℕ) (l m : LiteralValue) → LiteralText style text rest l → LiteralText style text rest m → l ≡ m
one_literal style text rest l m j k =
    let string = one_front style text rest l m j k in
    let suffix : j.suffix ≡ k.suffix = after_same k.string j.suffix k.suffix (ap (λ s. s ++ j.suffix) (sym string) ∙ sym j.parts ∙ k.parts) in
    let lexical : l.lexical ≡ m.lexical = one_string style k.string l.lexical m.lexical (subst (λ t. StringToken style t l.lexical) string j.is.is) k.is.is in
    let s = one_suffix style k.suffix rest l.tag m.tag l.datatype m.datatype (subst (λ t. SuffixText style t rest l.tag l.datatype) suffix j.after) k.after in
    let tag = s.0 in
    let datatype = s.1 in
    λ i. record { lexical = lexical i; datatype = datatype i; tag = tag i }

pub one_term : OneTerm
one_term style text rest (Iri a) (Iri b) j k = ap Iri (one_iri style text a b j.is k.is)
one_term style text rest (Iri a) (Blank b) j k = no_iri_label style text a b j.is k.is
one_term style text rest (Iri a) (Lit b) j k = no_iri_string style text a k.string k.suffix b.lexical j.is k.is.is k.parts
one_term style text rest (Blank a) (Iri b) j k = no_iri_label style text b a k.is j.is
one_term style text rest (Blank a) (Blank b) j k = ap Blank (one_label text a b j.is k.is)
one_term style text rest (Blank a) (Lit b) j k = no_label_string style text a k.string k.suffix b.lexical j.is k.is.is k.parts
one_term style text rest (Lit a) (Iri b) j k = no_iri_string style text b j.string j.suffix a.lexical k.is j.is.is j.parts
one_term style text rest (Lit a) (Blank b) j k = no_label_string style text b j.string j.suffix a.lexical k.is j.is.is j.parts
one_term style text rest (Lit a) (Lit b) j k = ap Lit (one_literal style text rest a b j k)
