-- What the worked examples need of names, terms and rows.
use Rattle.std.proofs.Common.{◌≡◌, refl, Bool, true, false, cond, List, [], ◌∷◌, map, Option, Some, None, ⊎_elim, sym, ◌∙◌, ap}
use Rattle.std.specs.Str.{bytes_eq}
use Rattle.std.specs.List.{AllByRecursion, filter}
use Rattle.std.proofs.lemmas.Slice.Eq.{bytes_eq-Decides}
use Rattle.bye_terms.specs.declared.term.Term.{Term}
use Rattle.bye_terms.specs.Terms.{Statement, IsTriple}
use Rattle.bye_terms.specs.Members.{In}
use Rattle.bye_terms.proofs.Tests.{not_both}
use Rattle.bye_terms.proofs.Members.{all_in}
use Rattle.bye_table.specs.Mappings.{Name, Pairs, Binds, Exactly, row_mapping, first_of, merge, Compatible}
use Rattle.bye_table.proofs.RowNames.{binds_names}
use Rattle.bye_pattern.specs.Patterns.{Pattern, Meets}
use Rattle.bye_pattern.specs.Conditions.{same_term}
use Rattle.bye_pattern.specs.Classes.{IsClassTriple}
use Rattle.bye_pattern.specs.Candidates.{candidates}
use Rattle.bye_pattern.specs.Meeting as test
use Rattle.bye_pattern.proofs.SameTerms.{same_self}
use Rattle.bye_pattern.proofs.Standing.{meets_candidate}
use Rattle.bye_terms.proofs.Lists.{of_each, in_filtered}
use Rattle.bye_pattern.proofs.Covered.{true_meets}

pub differ : (v w : Name) → bytes_eq v w ≡ false → v ≡ w → ⊥
differ v w e h = not_both _ ((bytes_eq-Decides v w).1 h) e

pub terms_differ : (s t : Term) → same_term s t ≡ false → s ≡ t → ⊥
terms_differ s t e h = not_both _ (ap (same_term s) (sym h) ∙ same_self s) e

pub values_differ : (s t : Term) → same_term s t ≡ false → ◌≡◌ {A = Option Term} (Some s) (Some t) → ⊥
values_differ s t e h = let k : s ≡ t = cc in terms_differ s t e k

-- the names that a row binds, in its order
abbrev pub names_of : Pairs → List Name
names_of row = map (λ e. e.0) row

-- a row binds exactly these
pub row_exactly : (row : Pairs) → Exactly (names_of row) (row_mapping row)
row_exactly row v = ((binds_names row v).0, (binds_names row v).1)

pub only_name : (v : Name) (t : Term) (w : Name) → Binds (row_mapping ((v, t) ∷ [])) w → v ≡ w
only_name v t w h = ⊎_elim (λ e. e) (λ k. absurd k) ((binds_names ((v, t) ∷ []) w).0 h)

-- a row of one pair and a longer one that begins with it
head_agrees : (b : Bool) (t : Term) (o : Option Term) (s u : Term) → cond b (Some t) None ≡ Some s → cond b (Some t) o ≡ Some u → s ≡ u
head_agrees true t o s u d e = let k : t ≡ s = cc in let l : t ≡ u = cc in sym k ∙ l
head_agrees false t o s u d e = cc

pub longer_agrees : (v : Name) (t : Term) (row : Pairs) → Compatible (row_mapping ((v, t) ∷ [])) (row_mapping ((v, t) ∷ row))
longer_agrees v t row w s u d e = head_agrees (bytes_eq v w) t (row_mapping row w) s u d e

head_merges : (b : Bool) (t : Term) (o : Option Term) → cond b (Some t) o ≡ first_of (cond b (Some t) None) (cond b (Some t) o)
head_merges true t o = refl
head_merges false t o = refl

pub longer_merges : (v : Name) (t : Term) (row : Pairs) → row_mapping ((v, t) ∷ row) ≡ merge (row_mapping ((v, t) ∷ [])) (row_mapping ((v, t) ∷ row))
longer_merges v t row = λ i w. head_merges (bytes_eq v w) t (row_mapping row w) i

-- the triple patterns that these rows meet are among those of the first that all meet
pub listed : (g : List Statement) (first : Pairs) (rows : List Pairs) (p : Pattern) → AllByRecursion IsTriple g → IsClassTriple p → Meets g (row_mapping first) p
    → AllByRecursion (λ row. Meets g (row_mapping row) p) rows → In (filter (test.meets_all g rows) (candidates first g)) p
listed g first rows p valid class meets all =
    in_filtered (test.meets_all g rows) (candidates first g) p (meets_candidate first g p valid class meets)
    (of_each (test.meets g p) rows (λ row h. true_meets g p row (all_in (λ row. Meets g (row_mapping row) p) rows row all h)))
