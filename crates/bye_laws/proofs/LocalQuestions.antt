-- What is asked before a conjunct goes.
use Rattle.bye_pattern.specs.declared.level.Level.{Level}
use Rattle.std.proofs.Common.{List, ◌↔◌}
use Rattle.std.specs.List.{AllByRecursion}
use Rattle.bye_terms.specs.Characters.{within}
use Rattle.bye_terms.specs.Members.{In}
use Rattle.bye_terms.specs.Terms.{Statement}
use Rattle.bye_terms.proofs.Members.{all_from, all_in}
use Rattle.bye_pattern.specs.declared.cond.Cond.{Cond}
use Rattle.bye_pattern.specs.Classes.{IsClassCond, IsClassTriple}
use Rattle.bye_pattern.specs.Conjuncts.{MeetsCond}
use Rattle.bye_pattern.specs.Designed.{IsSafe}
use Rattle.bye_table.specs.Domains.{AreAlike, IsSeen}
use Rattle.bye_table.specs.Mappings.{Mapping, Name}
use Rattle.bye_pattern.specs.Patterns.{Meets, Pattern, all_vars}
use Rattle.bye_table.specs.DomainTrees.{Subdomains, domain}
use Rattle.bye_pattern.specs.Trees.{Forest, node}
use Rattle.bye_laws.specs.LocalPass.{AreOver, ByDomain, IsSettled, IsShut}
use Rattle.bye_laws.proofs.Conjunctions.{all_vars_within, all_within}
use Rattle.bye_laws.specs.Parts.{Within}

-- a condition may go exactly where no search finds values
pub drop_cond : (level : Level) → (g : List Statement) (rows : List Mapping) (parent : List Name) (z x : Name) (ds : Subdomains) (ps : List Pattern) (cs es : List Cond) (f : Forest) → Within es cs → IsSettled level g rows parent z (domain x ds) (node ps cs f)
    → IsSettled level g rows parent z (domain x ds) (node ps es f) ↔ IsShut g rows z x (node ps es f)
drop_cond level g rows parent z x ds ps cs es f within s = (
  λ t. t.shut,
  λ shut. record {
    over = (
      record {
        over = s.over.0.over;
        cover = s.over.0.cover;
        rises = s.over.0.rises;
        safe = all_within (IsSafe parent ps) es cs within s.over.0.safe;
        triples = s.over.0.triples;
        conds = all_within (IsClassCond level) es cs within s.over.0.conds;
      },
      s.over.1,
    );
    by = all_from (λ m. ByDomain g m (domain x ds) (node ps es f)) rows (λ m row.
        let by = all_in (λ m. ByDomain g m (domain x ds) (node ps cs f)) rows m s.by row in
        (λ b. ((by.0 b).0, all_within (MeetsCond m) es cs within (by.0 b).1), by.1));
    shut = shut;
  },
)

-- a triple may go exactly where the class stays covered, the needs of its conditions and of its children stand, and no search finds values
pub drop_triple : (level : Level) → (g : List Statement) (rows : List Mapping) (parent : List Name) (z x : Name) (ds : Subdomains) (ps qs : List Pattern) (cs : List Cond) (f : Forest) → Within qs ps → IsSettled level g rows parent z (domain x ds) (node ps cs f)
    → IsSettled level g rows parent z (domain x ds) (node qs cs f) ↔ (((v : Name) → IsSeen rows v → AreAlike rows x v → In (all_vars qs) v) × AllByRecursion (IsSafe parent qs) cs
    × AreOver level rows (all_vars qs) ds f × IsShut g rows z x (node qs cs f))
drop_triple level g rows parent z x ds ps qs cs f within s = (
  λ t. (t.over.0.cover, t.over.0.safe, t.over.1, t.shut),
  λ (cover, safe, below, shut). record {
    over = (
      record {
        over = λ v h. s.over.0.over v (all_vars_within qs ps v within h);
        cover = cover;
        rises = λ v h up. s.over.0.rises v (all_vars_within qs ps v within h) up;
        safe = safe;
        triples = all_within IsClassTriple qs ps within s.over.0.triples;
        conds = s.over.0.conds;
      },
      below,
    );
    by = all_from (λ m. ByDomain g m (domain x ds) (node qs cs f)) rows (λ m row.
        let by = all_in (λ m. ByDomain g m (domain x ds) (node ps cs f)) rows m s.by row in
        (λ b. (all_within (Meets g m) qs ps within (by.0 b).0, (by.0 b).1), by.1));
    shut = shut;
  },
)
