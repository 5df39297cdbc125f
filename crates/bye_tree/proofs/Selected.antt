-- The names that are put into an empty set, each where it stands first.
use Rattle.std.proofs.Common.{◌≡◌, refl, Bool, true, false, not, cond, ◌&&◌, ◌||◌, List, [], ◌∷◌, ◌++◌, ⊎_elim, sym, ◌∙◌, ap}
use Rattle.std.specs.List.{filter}
use Rattle.std.specs.Str.{bytes_eq}
use Rattle.std.proofs.lemmas.List.{append-nil, append_assoc}
use Rattle.std.proofs.lemmas.Slice.Eq.{bytes_eq-Decides}
use Rattle.bye_terms.proofs.Tests.{bool_cases}
use Rattle.bye_table.specs.Mappings.{Name, is_in}
use Rattle.bye_pattern.specs.Gathered.{firsts}
use Rattle.bye_tree.specs.Names.{with_name, with_names}

-- a name that is not among these
abbrev is_out : List Name → Name → Bool
is_out vs w = not (is_in vs w)

abbrev others : Name → Name → Bool
others v w = not (bytes_eq v w)

and_yes : (a h : Bool) → (a && true) ≡ h → a ≡ h
and_yes true h e = e
and_yes false h e = e

and_no : (a h : Bool) → (a && false) ≡ h → h ≡ false
and_no true h e = sym e
and_no false h e = sym e

-- two filters are one
one_more : (f g h : Name → Bool) → ((w : Name) → (f w && g w) ≡ h w) → (w : Name) (ws : List Name) → filter f (filter g ws) ≡ filter h ws → (b : Bool) → g w ≡ b
    → filter f (cond b (w ∷ filter g ws) (filter g ws)) ≡ cond (h w) (w ∷ filter h ws) (filter h ws)
one_more f g h e w ws rest true is = (λ i. cond (and_yes (f w) (h w) (ap (λ b. f w && b) (sym is) ∙ e w) i) (w ∷ rest i) (rest i))
one_more f g h e w ws rest false is = rest ∙ sym (ap (λ b. cond b (w ∷ filter h ws) (filter h ws)) (and_no (f w) (h w) (ap (λ b. f w && b) (sym is) ∙ e w)))

twice : (f g h : Name → Bool) → ((w : Name) → (f w && g w) ≡ h w) → (ws : List Name) → filter f (filter g ws) ≡ filter h ws
twice f g h e [] = refl
twice f g h e (w ∷ ws) = one_more f g h e w ws (twice f g h e ws) (g w) refl

-- the tests of a name against a longer list
last_test : (b : Bool) → not (b || false) ≡ (true && not b)
last_test true = refl
last_test false = refl

next_test : (a x y z : Bool) → not x ≡ (not y && z) → not (a || x) ≡ (not (a || y) && z)
next_test true x y z e = refl
next_test false x y z e = e

out_of_more : (us : List Name) (v w : Name) → is_out (us ++ v ∷ []) w ≡ (is_out us w && others v w)
out_of_more [] v w = last_test (bytes_eq v w)
out_of_more (u ∷ us) v w = next_test (bytes_eq u w) (is_in (us ++ v ∷ []) w) (is_in us w) (others v w) (out_of_more us v w)

-- a name that is there already tells nothing new
known : (b c : Bool) (us : List Name) (v w : Name) → is_in us v ≡ true → is_in us w ≡ b → bytes_eq v w ≡ c → (not b && not c) ≡ not b
known true c us v w there is same = refl
known false false us v w there is same = refl
known false true us v w there is same =
    let e : v ≡ w = (bytes_eq-Decides v w).0 same in
    let k : true ≡ false = sym there ∙ ap (is_in us) e ∙ is in cc

out_of_known : (us : List Name) (v w : Name) → is_in us v ≡ true → (is_out us w && others v w) ≡ is_out us w
out_of_known us v w there = known (is_in us w) (bytes_eq v w) us v w there refl refl

after : (v : Name) (vs us : List Name) → ((us : List Name) → with_names us vs ≡ us ++ filter (is_out us) (firsts vs)) → (b : Bool) → is_in us v ≡ b
    → with_names (cond b us (us ++ v ∷ [])) vs ≡ us ++ cond (not b) (v ∷ filter (is_out us) (filter (others v) (firsts vs))) (filter (is_out us) (filter (others v) (firsts vs)))
after v vs us rest true is = rest us ∙ ap (λ ws. us ++ ws) (sym (twice (is_out us) (others v) (is_out us) (λ w. out_of_known us v w is) (firsts vs)))
after v vs us rest false is =
    rest (us ++ v ∷ []) ∙ append_assoc us (v ∷ []) (filter (is_out (us ++ v ∷ [])) (firsts vs))
    ∙ ap (λ ws. us ++ (v ∷ ws)) (sym (twice (is_out us) (others v) (is_out (us ++ v ∷ [])) (λ w. sym (out_of_more us v w)) (firsts vs)))

grown : (vs us : List Name) → with_names us vs ≡ us ++ filter (is_out us) (firsts vs)
grown [] us = sym (append-nil us)
grown (v ∷ vs) us = after v vs us (λ us. grown vs us) (is_in us v) refl

filter_all : (ws : List Name) → filter (is_out []) ws ≡ ws
filter_all [] = refl
filter_all (w ∷ ws) = ap (λ ws. w ∷ ws) (filter_all ws)

pub first_names : (vs : List Name) → with_names [] vs ≡ firsts vs
first_names vs = grown vs [] ∙ filter_all (firsts vs)
