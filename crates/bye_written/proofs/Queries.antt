-- Queries as they are written.
use Rattle.std.proofs.Common.{◌≡◌, refl, ℕ, Bool, true, false, List, [], ◌∷◌, ◌++◌, length, sym, ◌∙◌, ap, subst, append_assoc, append-nil, codes}
use Rattle.std.specs.List.{AllByRecursion}
use Rattle.std.specs.Str.{encode_utf8_all}
use Rattle.bye_terms.specs.Names.{is_name}
use Rattle.bye_table.specs.Mappings.{Name}
use Rattle.bye_pattern.specs.Printed.{distinct_text, names_text, query_text}
use Rattle.bye_pattern.specs.Trees.{Select}
use Rattle.bye_grammar.specs.ValidSelects.{IsValidSelect}
use Rattle.bye_tokens.specs.Fronts.{tokens_of}
use Rattle.bye_tokens.specs.declared.sign.Sign.TheVariants.{OpenGroup, CloseGroup}
use Rattle.bye_tokens.specs.declared.token.Token.TheVariants.{Keyword, Mark}
use Rattle.bye_tokens.specs.declared.word.Word.TheVariants as words
use Rattle.bye_tokens.proofs.SplitExact.{splits}
use Rattle.bye_written.specs.Laws.{WrittenTextsSplit}
use Rattle.bye_written.specs.Written.{distinct_tokens, names_tokens, tree_tokens, query_tokens}
use Rattle.bye_written.proofs.Groups.{tree_of}
use Rattle.bye_written.proofs.Joined.{tokens_in, Spells, Any, Ends, joined, and_then, nothing, space, line_end}
use Rattle.bye_written.proofs.Keywords.{select, distinct, where_group}
use Rattle.bye_written.proofs.Signs.{close_group}
use Rattle.bye_written.proofs.Terms.{variable}

distinct_of : (b : Bool) → Spells Ends (distinct_text b) (distinct_tokens b)
distinct_of true = distinct
distinct_of false = nothing

-- a name has a space before it
names_end : (vs : List Name) (rest : List ℕ) → Ends rest → Ends (names_text vs ++ rest)
names_end [] rest q = q
names_end (v ∷ vs) rest q = refl

names_of : (vs : List Name) → AllByRecursion (λ v. is_name v ≡ true) vs → Spells Ends (names_text vs) (names_tokens vs)
names_of [] valid = nothing
names_of (v ∷ vs) valid = joined (and_then space (variable v valid.0)) (names_of vs valid.1) (names_end vs)

distinct_ends : (b : Bool) (rest : List ℕ) → Ends rest → Ends (distinct_text b ++ rest)
distinct_ends true rest q = refl
distinct_ends false rest q = q

query : (q : Select) → IsValidSelect q → Spells Any (query_text q) (query_tokens q)
query q valid =
    let names = distinct_tokens q.distinct ++ names_tokens q.vars in
    let start = Keyword words.Where ∷ Mark OpenGroup ∷ [] in
    let group = tree_tokens q.outer q.tree in
    let stop = Mark CloseGroup ∷ [] in
    let selected = joined (joined select (distinct_of q.distinct) (distinct_ends q.distinct)) (names_of q.vars valid.vars) (names_end q.vars) in
    let opened = joined selected (and_then line_end where_group) (λ rest u. refl) in
    subst (λ ts. Spells Any (query_text q) (Keyword words.Select ∷ ts)) (append_assoc (names ++ start) group stop ∙ append_assoc names start (group ++ stop))
    (and_then (and_then opened (tree_of (codes "  ") (λ rest. refl) q.outer q.tree valid.outer valid.tree)) close_group)

pub written_texts_split : WrittenTextsSplit
written_texts_split q valid =
    let total = length (encode_utf8_all (query_text q)) in (
      tokens_of total (query_text q),
      splits total (query_text q),
      ap (tokens_in total) (sym (append-nil (query_text q))) ∙ (query q valid).read total [] tt ∙ append-nil (query_tokens q),
    )
