-- The tokens of a SELECT.
use Rattle.std.proofs.Common.{◌≡◌, refl, ℕ, Bool, true, false, cond, ◌||◌, List, ◌∷◌, [], Option, Some, None, is_some, inl, inr, sym, ◌∙◌, ap, subst, append_assoc, arith}
use Rattle.bye_terms.specs.Members.{In, EachOnce}
use Rattle.bye_pattern.specs.Trees.{Select}
use Rattle.bye_pattern.specs.Selects.{IsSelect}
use Rattle.bye_pattern.specs.Written.{Group, Written}
use Rattle.bye_pattern.specs.AsWritten.{as_written, tree_group}
use Rattle.bye_table.specs.Mappings.{Name, is_in}
use Rattle.bye_tokens.specs.declared.token.Placed.{Placed}
use Rattle.bye_tokens.specs.declared.token.Token.TheVariants.{Variable, Keyword}
use Rattle.bye_tokens.specs.declared.word.Word.TheVariants as words
use Rattle.bye_parts.specs.Parts.{Run, run, optional}
use Rattle.bye_grammar.specs.declared.place.Place.TheVariants.{Outer}
use Rattle.bye_grammar.specs.Fits as fits
use Rattle.bye_grammar.specs.Grammar.{word, group, names, selection, document}
use Rattle.bye_grammar.specs.ValidSelects.{IsValidSelect}
use Rattle.bye_written.specs.Written.{distinct_tokens, names_tokens, tree_tokens, query_tokens}
use Rattle.bye_readback.specs.Laws.{WrittenTokensDerive}
use Rattle.bye_readback.proofs.Writes.{Writes, bare, writes_as, writes_then, writes_last, writes_mapped, writes_left, writes_none, writes_some, writes_no_rounds}
use Rattle.bye_readback.proofs.Slots.{other_text, writes_word, writes_variable}
use Rattle.bye_readback.proofs.Depths.{Later, later}
use Rattle.bye_readback.proofs.Groups.{in_braces, root_written}

-- a variable, where none of these was it
abbrev new_name : List Name → Placed → Option Name
new_name seen t = fits.new_variable seen t.token

run_of : (seen vs : List Name) → EachOnce vs → ((w : Name) → In vs w → is_in seen w ≡ false) → (ts : List Placed) → bare ts ≡ names_tokens vs → Run new_name seen ts vs
run_of seen [] once fresh [] is = refl
run_of seen [] once fresh (t ∷ ts) is = let r : ⊥ = cc in absurd r
run_of seen (v ∷ vs) once fresh [] is = let r : ⊥ = cc in absurd r
run_of seen (v ∷ vs) once fresh (t ∷ ts) is =
    let same : t.token ≡ Variable v = cc in
    let more : bare ts ≡ names_tokens vs = cc in
    (ap (fits.new_variable seen) same ∙ ap (λ b. cond b None (Some v)) (fresh v (inl refl)), run_of (v ∷ seen) vs once.1 after ts more)
  where
    after : (w : Name) → In vs w → is_in (v ∷ seen) w ≡ false
    after w h = ap (λ b. b || is_in seen w) (other_text v w (λ e. once.0 (subst (In vs) (sym e) h))) ∙ fresh w (inr h)

names_write : (vs : List Name) → (vs ≡ [] → ⊥) → EachOnce vs → Writes names (names_tokens vs) vs
names_write [] some once = absurd (some refl)
names_write (v ∷ vs) some once =
    let others : Writes (run new_name (v ∷ [])) (names_tokens vs) vs = record { derives = run_of (v ∷ []) vs once.1 after } in
    writes_then (writes_variable v) (writes_last (λ vs. v ∷ vs) others)
  where
    after : (w : Name) → In vs w → is_in (v ∷ []) w ≡ false
    after w h = ap (λ b. b || false) (other_text v w (λ e. once.0 (subst (In vs) (sym e) h)))

-- what the word DISTINCT is read as
abbrev asked : Bool → Option (Unit {0})
asked true = Some tt
asked false = None

distinct_writes : (b : Bool) → Writes (optional (word words.Distinct)) (distinct_tokens b) (asked b)
distinct_writes true = writes_some (writes_word words.Distinct)
distinct_writes false = writes_none

asked_is : (b : Bool) → is_some (asked b) ≡ b
asked_is true = refl
asked_is false = refl

-- a query that names the variables of the select
abbrev with_group : Select → Bool → Group → Written
with_group q distinct g = record { distinct = distinct; vars = Some q.vars; group = g }

-- the select, where its group is written so
selection_writes : (q : Select) (d : ℕ) → IsSelect q → Writes (group [] Outer d) (in_braces (tree_tokens q.outer q.tree)) (tree_group q.outer q.tree) → Writes (selection [] d) (query_tokens q) (as_written q)
selection_writes q d h f =
    subst (λ distinct. Writes (selection [] d) (query_tokens q) (with_group q distinct (tree_group q.outer q.tree))) (asked_is q.distinct)
    (writes_as (ap (λ xs. Keyword words.Select ∷ xs) (sym (append_assoc (distinct_tokens q.distinct) (names_tokens q.vars) _)))
    (writes_then (writes_word words.Select) (writes_then (distinct_writes q.distinct) (writes_then (writes_left (writes_mapped Some (names_write q.vars h.some h.once)))
    (writes_then (writes_some (writes_word words.Where)) (writes_last (with_group q (is_some (asked q.distinct))) f))))))

document_written : (q : Select) → IsSelect q → IsValidSelect q → Later (λ d. Writes (document d) (query_tokens q) (as_written q))
document_written q h k = later (λ d f. writes_then writes_no_rounds (selection_writes q d h f)) (root_written q.tree q.outer h.designed k.tree k.outer)

-- the tokens of a SELECT derive as the query that it is written as
pub tokens_derive : WrittenTokensDerive
tokens_derive q ts h k is = let w = document_written q h k in (w.from, (w.holds w.from (omega arith)).derives ts is)
