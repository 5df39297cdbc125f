-- The names of variables.
use Rattle.std.proofs.Common.{◌≡◌, true, false, List, [], ◌∷◌, ◌++◌, Option, Some, None, sym, ◌∙◌, subst}
use Rattle.serde_json.specs.Data.{Data}
use Rattle.bye_terms.specs.Members.{In}
use Rattle.bye_terms.proofs.Members.{once_more}
use Rattle.bye_terms.proofs.Readings.{some_same}
use Rattle.bye_terms.proofs.Tests.{not_both}
use Rattle.bye_table.specs.Mappings.{Name, is_in}
use Rattle.bye_table.proofs.Merging.{in_is, is_in_in}
use Rattle.bye_json.specs.Answers.{IsNoName}
use Rattle.bye_json.specs.Documents.{AreNames, name_of}
use Rattle.bye_json.proofs.Steps.{collect_more}

-- a name more, which is new
pub names_more : (ds : List Data) (d : Data) (vars : List Name) (v : Name) → AreNames ds vars → name_of d ≡ Some v → is_in vars v ≡ false → AreNames (ds ++ d ∷ []) (vars ++ v ∷ [])
names_more ds d vars v are e new = (collect_more name_of ds d vars v are.0 e, once_more vars v are.1 (λ h. not_both (is_in vars v) (in_is vars v h) new))

-- a value that is no name, and one that is a repeat
pub no_name : (ds : List Data) (d : Data) (vars : List Name) → AreNames ds vars → name_of d ≡ None → IsNoName ds d
no_name ds d vars are e = (vars, are, λ v h. let k : ◌≡◌ {A = Option Name} None (Some v) = sym e ∙ h in cc)

pub repeat : (ds : List Data) (d : Data) (vars : List Name) (v : Name) → AreNames ds vars → name_of d ≡ Some v → is_in vars v ≡ true → IsNoName ds d
repeat ds d vars v are e same = (vars, are, λ w h. subst (In vars) (some_same (sym e ∙ h)) (is_in_in vars v same))
