-- Worked examples of queries that are kept: small graphs and rows, the start, what one pass keeps of it, and what does not fit.
use Rattle.std.specs.Prelude.{◌≡◌, List, [], ◌∷◌, map, codes}
use Rattle.bye_terms.specs.declared.term.Term.{Term}
use Rattle.bye_terms.specs.declared.term.Term.TheVariants.{Iri}
use Rattle.bye_terms.specs.Terms.{Statement}
use Rattle.bye_table.specs.Domains.{Wanted}
use Rattle.bye_table.specs.Mappings.{Mapping, Pairs, row_mapping}
use Rattle.bye_pattern.specs.declared.class.Class.TheVariants.{And, Optional}
use Rattle.bye_pattern.specs.declared.cond.Cond.TheVariants as conds
use Rattle.bye_pattern.specs.declared.kind.Kind.TheVariants as kinds
use Rattle.bye_pattern.specs.declared.level.Level.TheVariants.{One, Two}
use Rattle.bye_pattern.specs.declared.slot.Slot.TheVariants.{Const, Var}
use Rattle.bye_pattern.specs.Algebra.{IsAnswer}
use Rattle.bye_pattern.specs.Certificates.{Admitted, Shows}
use Rattle.bye_pattern.specs.Classes.{InAnd}
use Rattle.bye_pattern.specs.Fitting.{NoFit}
use Rattle.bye_pattern.specs.Keeping.{IsKept, IsRight, IsStart}
use Rattle.bye_pattern.specs.Optional.{InOptional}
use Rattle.bye_pattern.specs.Patterns.{Pattern}
use Rattle.bye_pattern.specs.Printed.{query_text}
use Rattle.bye_pattern.specs.Trees.{Select, alg, leaf, more, node, plain_select}
use Rattle.bye_pattern.specs.Worked.{a, b, c, group, has_mail, is_person, kind, m, mail, mail_row, mailed, mails, pattern, person, persons, some_mails, text, triple, with_optional, x, y}

-- three people, of whom a and c have a mail address and b has none
abbrev pub some_mailed : List Statement
some_mailed = triple a mail (text (codes "m1")) ∷ triple c mail (text (codes "m3")) ∷ triple c kind person ∷ persons

abbrev pub wanted_mails : Wanted
wanted_mails = record { vars = x ∷ m ∷ []; rows = some_mails }

-- all that the wanted rows have in common: at the root those of all rows, and at the child those of the rows that bind m
abbrev pub mails_start : Select
mails_start = plain_select (x ∷ m ∷ []) (node (is_person (Var x) ∷ []) (conds.Bound x ∷ [])
    (more (node (is_person (Var x) ∷ has_mail ∷ []) (conds.Bound x ∷ conds.Bound m ∷ []) leaf) leaf))

-- the start is right, and of it this is kept: SELECT DISTINCT ?x ?m WHERE { ?x e:type e:Person OPTIONAL { ?x e:mail ?m } }
pub record MailsAreKept : Type 0 where
  pub begun : IsStart Optional One some_mailed wanted_mails mails_start
  pub right : IsRight Optional One some_mailed wanted_mails.rows [] mails_start
  pub kept : IsKept Optional One some_mailed wanted_mails [] mails
  -- where b has mail too, no query fits
  pub none : NoFit (InOptional One some_mails) mailed some_mails []

-- both a and b have mail, but only a is a VIP, and b is wanted without mail
abbrev pub vip : Term
vip = Iri (codes "e:vip")

abbrev pub affirmed : Term
affirmed = Iri (codes "e:yes")

abbrev pub vip_mailed : List Statement
vip_mailed = triple a vip affirmed ∷ triple a mail (text (codes "m1")) ∷ triple b mail (text (codes "m2")) ∷ persons

abbrev pub wanted_vips : Wanted
wanted_vips = record { vars = x ∷ m ∷ []; rows = mail_row ∷ row_mapping ((x, b) ∷ []) ∷ [] }

abbrev pub is_vip : Pattern
is_vip = pattern (Var x) (Const vip) (Const affirmed)

-- one row alone binds m, so the child has what holds of its terms too
abbrev pub vips_start : Select
vips_start = plain_select (x ∷ m ∷ []) (node (is_person (Var x) ∷ []) (conds.Bound x ∷ []) (more (node
    (pattern (Const a) (Const mail) (Var m) ∷ pattern (Var x) (Const mail) (Const (text (codes "m1"))) ∷ is_person (Var x) ∷ is_vip ∷ has_mail ∷ [])
    (conds.Bound x ∷ conds.Bound m ∷ conds.SameConst x a ∷ conds.SameConst m (text (codes "m1")) ∷ []) leaf) leaf))

-- SELECT DISTINCT ?x ?m WHERE { ?x e:type e:Person OPTIONAL { ?x e:vip e:yes . ?x e:mail ?m } }
abbrev pub vip_mails : Select
vip_mails = plain_select (x ∷ m ∷ []) (with_optional (is_person (Var x) ∷ []) (group (is_vip ∷ has_mail ∷ [])))

-- the start is right, and a pattern of the outer variable alone is kept in the OPTIONAL group
pub record OuterPatternsAreKept : Type 0 where
  pub begun : IsStart Optional One vip_mailed wanted_vips vips_start
  pub right : IsRight Optional One vip_mailed wanted_vips.rows [] vips_start
  pub kept : IsKept Optional One vip_mailed wanted_vips [] vip_mails
  pub written : query_text vip_mails
      ≡ codes "SELECT DISTINCT ?x ?m\nWHERE {\n  ?x <e:type> <e:Person> .\n  OPTIONAL {\n    ?x <e:vip> <e:yes> .\n    ?x <e:mail> ?m .\n  }\n}\n"
  -- without that pattern b has its mail in the one answer, and the wanted row is none
  pub needed : IsAnswer vip_mailed mails.vars (alg mails) (row_mapping ((x, b) ∷ [])) → ⊥

-- a likes b and a text, and c likes d
abbrev pub d : Term
d = Iri (codes "e:d")

abbrev pub likes : Term
likes = Iri (codes "e:likes")

abbrev pub liked : List Statement
liked = triple a likes b ∷ triple c likes d ∷ triple a likes (text (codes "1")) ∷ []

-- what is no text is wanted, and the text is not
abbrev pub pair : Term → Term → Pairs
pair s t = (x, s) ∷ (y, t) ∷ []

abbrev pub wanted_likes : Wanted
wanted_likes = record { vars = x ∷ y ∷ []; rows = map row_mapping (pair a b ∷ pair c d ∷ []) }

abbrev pub text_row : Mapping
text_row = row_mapping (pair a (text (codes "1")))

abbrev pub unwanted_likes : List Mapping
unwanted_likes = text_row ∷ []

-- SELECT DISTINCT ?x ?y WHERE { ?x e:likes ?y FILTER (isIRI(?y)) }
abbrev pub likes_of_iris : Select
likes_of_iris = plain_select (x ∷ y ∷ []) (node (pattern (Var x) (Const likes) (Var y) ∷ []) (conds.KindOf kinds.Iri y ∷ []) leaf)

-- at the second level a test of y is kept
pub record KindTestsAreKept : Type 0 where
  pub kept : IsKept And Two liked wanted_likes unwanted_likes likes_of_iris
  pub written : query_text likes_of_iris ≡ codes "SELECT DISTINCT ?x ?y\nWHERE {\n  ?x <e:likes> ?y .\n  FILTER (isIRI(?y))\n}\n"
  -- at the first level nothing keeps the unwanted row away, and no query fits
  pub shows : Shows liked wanted_likes.rows unwanted_likes (record { level = One; class = And; claim = Admitted 1 })
  pub none : NoFit (InAnd One) liked wanted_likes.rows unwanted_likes
  -- at the second level the same claim does not show
  pub refused : Shows liked wanted_likes.rows unwanted_likes (record { level = Two; class = And; claim = Admitted 1 }) → ⊥
