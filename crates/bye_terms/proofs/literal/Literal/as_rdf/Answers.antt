use Rattle.std.proofs.Common.{◌≡◌, ◌∙◌, ap, subst, sym, true}
use Rattle.std.specs.Option.{is_some}
use Rattle.std.specs.Str.{all_scalars}
use Rattle.bye_terms.specs.Literals.{is_lang_string}
use Rattle.bye_terms.specs.Names.{is_iri}
use Rattle.bye_terms.proofs.RdfTerms.{tagged, untagged}
use Rattle.bye_terms.proofs.literal.Literal.as_rdf.Goals as goal

pub returns-in-Some-clause-valid : goal.returns-in-Some-clause-valid
returns-in-Some-clause-valid c =
    tagged c.args.self.now c.in-Some.tag
    (ap (λ l. l.tag) (sym c.self.view_is) ∙ c.in-Some.is)
    (subst (λ l. is_some l.tag ≡ is_lang_string l.datatype) c.self.view_is c.self.invariant)
    (subst (λ l. all_scalars l.lexical ≡ true) c.self.view_is c.as_unicode-lexical.ensures.scalars)
    c.text.ensures.scalars
    c.text.ensures.valid

pub returns-in-None-clause-valid : goal.returns-in-None-clause-valid
returns-in-None-clause-valid c =
    untagged c.args.self.now
    (ap (λ l. l.tag) (sym c.self.view_is) ∙ c.in-None.is)
    (subst (λ l. is_some l.tag ≡ is_lang_string l.datatype) c.self.view_is c.self.invariant)
    (subst (λ l. all_scalars l.lexical ≡ true) c.self.view_is c.as_unicode-lexical.ensures.scalars)
    (subst (λ l. all_scalars l.datatype ≡ true) c.self.view_is c.text-in-None.ensures.scalars)
    (subst (λ l. is_iri l.datatype ≡ true) c.self.view_is c.text-in-None.ensures.valid)
