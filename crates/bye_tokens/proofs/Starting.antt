-- What begins otherwise is neither a string nor a tag.
use Rattle.std.proofs.Common.{◌≡◌, refl, ℕ, Bool, true, false, cond, ◌==◌, ◌&&◌, ◌||◌, List, [], ◌∷◌, Some, None, option_map, ap}
use Rattle.bye_lex.specs.StringSteps as string
use Rattle.bye_lex.specs.TagSteps as tag
use Rattle.bye_lex.specs.declared.style.Style.TheVariants.{Query}
use Rattle.bye_tokens.specs.Beginnings.{begins_string, begins_tag}
use Rattle.bye_tokens.specs.Fronts.{string_front, tag_front}
use Rattle.bye_tokens.specs.Reading.{longest, better, onward}
use Rattle.bye_tokens.specs.declared.token.Token.{Token}
use Rattle.bye_tokens.specs.declared.token.Token.TheVariants.{Quoted, Tagged}

neither : {S : Type 0} (a b : Bool) (x y : S) → (a || b) ≡ false → cond a (Some x) (cond (b && true) (Some y) None) ≡ None
neither true b x y e = cc
neither false true x y e = cc
neither false false x y e = refl

pub no_string : (text : List ℕ) → begins_string text ≡ false → string_front text ≡ None
no_string [] e = refl
no_string (c ∷ cs) e =
    ap (λ o. option_map {U = Token × List ℕ} (λ r. (Quoted r.0, r.1)) (onward None (λ n. longest (string.step Query) string.final n (better (string.final n) cs None) cs) o))
    (neither (c == 34) (c == 39) _ _ e)

not_one : {S : Type 0} (a : Bool) (x : S) → a ≡ false → cond a (Some x) None ≡ None
not_one true x e = cc
not_one false x e = refl

pub no_tag : (text : List ℕ) → begins_tag text ≡ false → tag_front text ≡ None
no_tag [] e = refl
no_tag (c ∷ cs) e =
    ap (λ o. option_map {U = Token × List ℕ} (λ r. (Tagged r.0, r.1)) (onward None (λ n. longest tag.step tag.final n (better (tag.final n) cs None) cs) o))
    (not_one (c == 64) _ e)
