-- What is learned from a graph and wanted rows for the class of one conjunction without conditions.
use Rattle.std.specs.Prelude.{◌≡◌, List, [], map, ◌↔◌}
use Rattle.std.specs.List.{AllByRecursion}
use Rattle.bye_terms.specs.Terms.{Statement}
use Rattle.bye_terms.specs.Members.{In, EachOnce}
use Rattle.bye_table.specs.Mappings.{Name, Mapping, row_mapping, Exactly}
use Rattle.bye_table.specs.Tables.{TableValue}
use Rattle.bye_table.specs.Domains.{Wanted, AreSelected}
use Rattle.bye_pattern.specs.Patterns.{Pattern}
use Rattle.bye_pattern.specs.Trees.{node, leaf, Select, plain_select}
use Rattle.bye_pattern.specs.Classes.{InAndPlain}
use Rattle.bye_pattern.specs.Fitting.{Fits, NoFit}
use Rattle.bye_pattern.specs.Common.{IsCommon, IsCovered}
use Rattle.bye_pattern.specs.TrialOrder.{IsInTrialOrder}
use Rattle.bye_pattern.specs.Certificates.{Claim, Domains, NoRoot, Uncovered}
use Rattle.bye_pattern.specs.FirstClaims.{IsFirstClaim}
use Rattle.bye_pattern.specs.declared.class.Class.TheVariants.{And}
use Rattle.bye_pattern.specs.declared.level.Level.TheVariants.{One}
use Rattle.bye_pattern.specs.declared.claim.Claim.{Claim as PlainClaim}
use Rattle.bye_pattern.specs.declared.claim.Claim.TheVariants as plain
use Rattle.bye_pattern.specs.declared.learned.Learned.{Learned}
use Rattle.bye_pattern.specs.declared.learned.Learned.TheVariants as learned

-- the rows of the table as mappings
abbrev pub wanted_of : TableValue → List Mapping
wanted_of t = map row_mapping t.rows

-- with the order of the table's variables
abbrev pub wanted_in : TableValue → Wanted
wanted_in t = record { vars = t.vars; rows = wanted_of t }

-- there is a variable and a row, no variable stands twice, and each row binds exactly the variables
pub record AreFull (header : List Name) (wanted : List Mapping) : Type 0 where
  pub some_variable : header ≡ [] → ⊥
  pub distinct : EachOnce header
  pub some_row : wanted ≡ [] → ⊥
  pub bound : AllByRecursion (Exactly header) wanted

-- all triple patterns of the class over these variables that hold in every row, each once, in the order in which they are tried
pub record IsStrongest (g : List Statement) (vars : List Name) (rows : List Mapping) (ps : List Pattern) : Type 0 where
  pub members : (p : Pattern) → In ps p ↔ IsCommon g vars rows p
  pub once : EachOnce ps
  pub sorted : IsInTrialOrder ps

-- SELECT DISTINCT of these variables over one group of triple patterns
abbrev pub common_query : List Name → List Pattern → Select
common_query vs ps = plain_select vs (node ps [] leaf)

-- the query of all common patterns over the variables that the wanted rows bind, where they contain each of these
pub record IsStrongestQuery (g : List Statement) (t : TableValue) (q : Select) : Type 0 where
  pub vars : List Name
  pub selected : AreSelected (wanted_in t) vars
  pub triples : List Pattern
  pub strongest : IsStrongest g vars (wanted_of t) triples
  pub covered : (x : Name) → In vars x → IsCovered g vars (wanted_of t) x
  pub query : q ≡ common_query vars triples

-- the query that is learned: of the class, and every wanted row is one of its answers
pub record IsLearnedQuery (g : List Statement) (t : TableValue) (q : Select) : Type 0 where
  pub strongest : IsStrongestQuery g t q
  pub in_class : InAndPlain q
  pub fits : Fits g (wanted_of t) [] q

-- the first claim of the class of one conjunction, where no query without conditions fits
pub record IsJustRefused (g : List Statement) (t : TableValue) (claim : Claim) : Type 0 where
  pub first : IsFirstClaim And One g (wanted_in t) [] claim
  pub none : NoFit InAndPlain g (wanted_of t) []

-- the claim of a refusal
abbrev pub claim_of : PlainClaim → Claim
claim_of (plain.Domains i j x) = Domains i j x
claim_of plain.NoRoot = NoRoot
claim_of (plain.Uncovered x) = Uncovered x

-- what the learner answers
abbrev pub IsLearned : List Statement → TableValue → Learned → Type 0
IsLearned g t (learned.Query query) = IsLearnedQuery g t (common_query query.vars.items query.triples.items)
IsLearned g t (learned.Refused claim) = IsJustRefused g t (claim_of claim)
