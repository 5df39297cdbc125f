-- What makes a term one of RDF.
use Rattle.std.proofs.Common.{◌≡◌, refl, ℕ, Bool, true, false, cond, ◌==◌, List, [], ◌∷◌, ◌++◌, Some, None, codes, sym, ◌∙◌, ap, subst}
use Rattle.std.specs.Option.{is_some}
use Rattle.std.specs.Str.{all_scalars}
use Rattle.std.proofs.lemmas.Slice.Eq.{bytes_eq-Decides}
use Rattle.bye_terms.specs.Literals.{LiteralValue, is_lang_string, lang_string, is_xsd_string}
use Rattle.bye_terms.specs.Names.{is_iri, is_label, is_tag}
use Rattle.bye_terms.specs.Spellings.{escaped_char, escaped, suffix_text}
use Rattle.bye_terms.specs.Valid.{IsTagged, IsRdfTerm}
use Rattle.bye_terms.specs.declared.term.Term.TheVariants.{Iri, Blank, Lit}
use Rattle.bye_terms.proofs.Tests.{both_parts, both}

pub scalars_join : (a b : List ℕ) → all_scalars a ≡ true → all_scalars b ≡ true → all_scalars (a ++ b) ≡ true
scalars_join [] b e f = f
scalars_join (c ∷ a) b e f = let k = both_parts _ _ e in both _ _ k.0 (scalars_join a b k.1 f)

-- the escapes have characters of Unicode
escape : (c : ℕ) (a b d e : Bool) → all_scalars (c ∷ []) ≡ true → all_scalars (cond a (codes "\\\"") (cond b (codes "\\\\") (cond d (codes "\\n") (cond e (codes "\\r") (c ∷ []))))) ≡ true
escape c true b d e h = refl
escape c false true d e h = refl
escape c false false true e h = refl
escape c false false false true h = refl
escape c false false false false h = h

escaped_scalars : (text : List ℕ) → all_scalars text ≡ true → all_scalars (escaped text) ≡ true
escaped_scalars [] h = refl
escaped_scalars (c ∷ cs) h =
    let k = both_parts _ _ h in
    scalars_join (escaped_char c) (escaped cs) (escape c (c == 34) (c == 92) (c == 10) (c == 13) (both _ _ k.0 refl)) (escaped_scalars cs k.1)

suffix : (b : Bool) (datatype : List ℕ) → all_scalars datatype ≡ true → all_scalars (cond b [] (codes "^^<" ++ datatype ++ codes ">")) ≡ true
suffix true datatype h = refl
suffix false datatype h = scalars_join (codes "^^<" ++ datatype) (codes ">") (scalars_join (codes "^^<") datatype refl h) refl

text : (l : LiteralValue) → all_scalars l.lexical ≡ true → all_scalars (suffix_text l.tag l.datatype) ≡ true → all_scalars (codes "\"" ++ escaped l.lexical ++ codes "\"" ++ suffix_text l.tag l.datatype) ≡ true
text l h k =
    scalars_join (codes "\"" ++ escaped l.lexical ++ codes "\"") (suffix_text l.tag l.datatype)
    (scalars_join (codes "\"" ++ escaped l.lexical) (codes "\"") (scalars_join (codes "\"") (escaped l.lexical) refl (escaped_scalars l.lexical h)) refl)
    k

-- a string with a tag
pub tagged : (l : LiteralValue) (tag : List ℕ) → l.tag ≡ Some tag → is_some l.tag ≡ is_lang_string l.datatype → all_scalars l.lexical ≡ true → all_scalars tag ≡ true → is_tag tag ≡ true → IsRdfTerm (Lit l)
tagged l tag e same lexical scalars valid = record {
  is = subst (λ t. IsTagged t l.datatype) (sym e) (valid, (bytes_eq-Decides l.datatype lang_string).0 (sym same ∙ ap is_some e));
  scalars = text l lexical (subst (λ t. all_scalars (suffix_text t l.datatype) ≡ true) (sym e) (scalars_join (codes "@") tag refl scalars));
}

no_tag : (b : Bool) → b ≡ true → false ≡ b → ⊥
no_tag b e f = let g : false ≡ true = f ∙ e in cc

-- a literal without one
pub untagged : (l : LiteralValue) → l.tag ≡ None → is_some l.tag ≡ is_lang_string l.datatype → all_scalars l.lexical ≡ true → all_scalars l.datatype ≡ true → is_iri l.datatype ≡ true → IsRdfTerm (Lit l)
untagged l e same lexical scalars valid = record {
  is = subst (λ t. IsTagged t l.datatype) (sym e) (valid, λ k. no_tag (is_lang_string l.datatype) ((bytes_eq-Decides l.datatype lang_string).1 k) (sym (ap is_some e) ∙ same));
  scalars = text l lexical (subst (λ t. all_scalars (suffix_text t l.datatype) ≡ true) (sym e) (suffix (is_xsd_string l.datatype) l.datatype scalars));
}

pub iri : (text : List ℕ) → all_scalars text ≡ true → is_iri text ≡ true → IsRdfTerm (Iri text)
iri text scalars valid = record { is = valid; scalars = scalars_join (codes "<" ++ text) (codes ">") (scalars_join (codes "<") text refl scalars) refl }

pub blank : (label : List ℕ) → all_scalars label ≡ true → is_label label ≡ true → IsRdfTerm (Blank label)
blank label scalars valid = record { is = valid; scalars = scalars_join (codes "_:") label refl scalars }
