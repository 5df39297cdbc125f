-- The tokens of triple patterns.
use Rattle.std.proofs.Common.{◌≡◌, refl, List, ◌∷◌, [], ◌++◌, map, sym, ◌∙◌, ap, subst, append_assoc}
use Rattle.std.specs.List.{flat_map, AllByRecursion}
use Rattle.bye_pattern.specs.Patterns.{Pattern}
use Rattle.bye_tokens.specs.declared.token.Token.{Token}
use Rattle.bye_tokens.specs.declared.token.Token.TheVariants.{Mark}
use Rattle.bye_tokens.specs.declared.sign.Sign.TheVariants as signs
use Rattle.bye_parts.specs.Parts.{repeated, ◌>>◌}
use Rattle.bye_grammar.specs.Values.{joined}
use Rattle.bye_grammar.specs.Grammar.{sign, same, block}
use Rattle.bye_grammar.specs.Valid.{IsPattern}
use Rattle.bye_written.specs.Written.{slot_tokens, pattern_tokens}
use Rattle.bye_readback.proofs.Writes.{Writes, writes_as, writes_then, writes_first, writes_last, writes_yield, writes_some, writes_no_rounds, writes_round}
use Rattle.bye_readback.proofs.Slots.{writes_sign, subject_writes, verb_writes, object_writes}

-- a pattern without its dot
abbrev triple_tokens : Pattern → List Token
triple_tokens p = slot_tokens p.s ++ slot_tokens p.p ++ slot_tokens p.o

same_writes : (p : Pattern) → IsPattern p → Writes (same []) (triple_tokens p) (p ∷ [])
same_writes p h =
    writes_as (sym (append_assoc (slot_tokens p.s) (slot_tokens p.p) (slot_tokens p.o)))
    (writes_then (subject_writes p.s h.s) (writes_first (writes_then (verb_writes p.p h.p) (writes_first (object_writes p.o h.o) (writes_then writes_no_rounds (writes_yield (p ∷ [])))))
    (writes_then writes_no_rounds (writes_yield (p ∷ [])))))

-- patterns, each after a dot
abbrev dotted : List Pattern → List Token
dotted [] = []
dotted (p ∷ ps) = Mark signs.Dot ∷ (triple_tokens p ++ dotted ps)

-- each pattern as a list of its own
abbrev alone : List Pattern → List (List Pattern)
alone ps = map (λ p. p ∷ []) ps

dotted_writes : (ps : List Pattern) → AllByRecursion IsPattern ps → Writes (repeated (sign signs.Dot >> same [])) (dotted ps) (alone ps)
dotted_writes [] h = writes_no_rounds
dotted_writes (p ∷ ps) h = writes_round (writes_then (writes_sign signs.Dot) (same_writes p h.0)) (dotted_writes ps h.1)

dot_after : (p : Pattern) (xs : List Token) → pattern_tokens p ++ xs ≡ triple_tokens p ++ Mark signs.Dot ∷ xs
dot_after p xs = append_assoc (triple_tokens p) (Mark signs.Dot ∷ []) xs

dots_before : (ps : List Pattern) → dotted ps ++ Mark signs.Dot ∷ [] ≡ Mark signs.Dot ∷ flat_map pattern_tokens ps
dots_before [] = refl
dots_before (p ∷ ps) =
    ap (λ xs. Mark signs.Dot ∷ xs) (append_assoc (triple_tokens p) (dotted ps) (Mark signs.Dot ∷ []) ∙ ap (λ xs. triple_tokens p ++ xs) (dots_before ps) ∙ sym (dot_after p (flat_map pattern_tokens ps)))

alone_again : (ps : List Pattern) → flat_map (λ ps. ps) (alone ps) ≡ ps
alone_again [] = refl
alone_again (p ∷ ps) = ap (λ ps. p ∷ ps) (alone_again ps)

pub block_writes : (p : Pattern) (ps : List Pattern) → AllByRecursion IsPattern (p ∷ ps) → Writes (block []) (flat_map pattern_tokens (p ∷ ps)) (p ∷ ps)
block_writes p ps h =
    writes_as (ap (λ xs. triple_tokens p ++ xs) (dots_before ps) ∙ sym (dot_after p (flat_map pattern_tokens ps)))
    (subst (λ qs. Writes (block []) (triple_tokens p ++ (dotted ps ++ Mark signs.Dot ∷ [])) (p ∷ qs)) (alone_again ps)
    (writes_then (same_writes p h.0) (writes_last (joined (p ∷ [])) (writes_then (dotted_writes ps h.1) (writes_then (writes_some (writes_sign signs.Dot)) (writes_yield (alone ps)))))))
