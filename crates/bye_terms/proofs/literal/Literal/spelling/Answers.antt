use Rattle.std.proofs.Common.{sym, ◌∙◌, ap}
use Rattle.std.specs.Str.{encode_utf8_all}
use Rattle.bye_terms.specs.Spellings.{literal_bytes}
use Rattle.bye_terms.proofs.Escapes.{tagged_bytes, plain_bytes, typed_bytes}
use Rattle.bye_terms.proofs.literal.Literal.spelling.Goals as goal

pub returns-in-Some : goal.returns-in-Some
returns-in-Some c =
    c.quoted.ensures
    ∙ tagged_bytes (record { lexical = c.self.inside.lexical; datatype = c.self.inside.datatype; tag = c.self.inside.tag }) _ _ c.in-Some.is (c.as_str.ensures.text ∙ ap encode_utf8_all c.text.ensures.text)
    ∙ ap literal_bytes c.self.view_is

pub returns-in-None : goal.returns-in-None
returns-in-None c =
    c.quoted-in-None.ensures
    ∙ plain_bytes (record { lexical = c.self.inside.lexical; datatype = c.self.inside.datatype; tag = c.self.inside.tag }) c.in-None.is (sym c.is_xsd_string.ensures ∙ c.if-is_xsd_string.true)
    ∙ ap literal_bytes c.self.view_is

pub returns-in-None-2 : goal.returns-in-None-2
returns-in-None-2 c =
    c.quoted-in-None-2.ensures
    ∙ typed_bytes (record { lexical = c.self.inside.lexical; datatype = c.self.inside.datatype; tag = c.self.inside.tag }) _ c.in-None-2.is (sym c.is_xsd_string.ensures ∙ c.if-is_xsd_string.false) (c.as_str-in-None-2.ensures.text ∙ ap encode_utf8_all c.text-in-None-2.ensures.text)
    ∙ ap literal_bytes c.self.view_is
