-- A written group that is taken apart, element by element.
use Rattle.std.proofs.Common.{◌≡◌, refl, Bool, true, false, List, [], ◌∷◌, ◌++◌, map, sym, ◌∙◌, ap}
use Rattle.std.proofs.lemmas.List.{append-nil, append_assoc, map-append}
use Rattle.bye_pattern.specs.Patterns.{Pattern}
use Rattle.bye_pattern.specs.Conditions.{Expr}
use Rattle.bye_pattern.specs.Trees.{Tree, Forest, leaf, more}
use Rattle.bye_pattern.specs.Nodes.{forest_of}
use Rattle.bye_pattern.specs.Written.{Block, Element, Filter, Group, Optional, also, done, filters, group_of, triples}
use Rattle.bye_pattern.specs.Gathered.{optional_tree, optionals}
use Rattle.bye_tree.specs.declared.written.Element.{Element as Item}
use Rattle.bye_tree.specs.Written.{element_of, elements_of}
use Rattle.bye_tree.specs.Parted.{IsParts}

-- a group with one more element at its end
abbrev then : Group → Element → Group
then done e = also e done
then (also d g) e = also d (then g e)

then_is : (es : List Element) (e : Element) → group_of (es ++ e ∷ []) ≡ then (group_of es) e
then_is [] e = refl
then_is (d ∷ es) e = ap (λ g. also d g) (then_is es e)

pub one_more : (es : List Item) (m : Item) (e : Element) → element_of m ≡ e → elements_of (es ++ m ∷ []) ≡ then (elements_of es) e
one_more es m e is = ap group_of (map-append element_of es (m ∷ []) ∙ ap (λ e. map element_of es ++ e ∷ []) is) ∙ then_is (map element_of es) e

-- a block
triples_block : (g : Group) (ps : List Pattern) → triples (then g (Block ps)) ≡ triples g ++ ps
triples_block done ps = append-nil ps
triples_block (also (Block qs) g) ps = ap (λ ps. qs ++ ps) (triples_block g ps) ∙ sym (append_assoc qs (triples g) ps)
triples_block (also (Optional h) g) ps = triples_block g ps
triples_block (also (Filter e) g) ps = triples_block g ps

filters_block : (g : Group) (ps : List Pattern) → filters (then g (Block ps)) ≡ filters g
filters_block done ps = refl
filters_block (also (Block qs) g) ps = filters_block g ps
filters_block (also (Optional h) g) ps = filters_block g ps
filters_block (also (Filter e) g) ps = ap (λ es. e ∷ es) (filters_block g ps)

optionals_block : (g : Group) (ps : List Pattern) → optionals (then g (Block ps)) ≡ optionals g
optionals_block done ps = refl
optionals_block (also (Block qs) g) ps = optionals_block g ps
optionals_block (also (Optional h) g) ps = ap (λ f. more (optional_tree h) f) (optionals_block g ps)
optionals_block (also (Filter e) g) ps = optionals_block g ps

-- a FILTER
triples_filter : (g : Group) (x : Expr) → triples (then g (Filter x)) ≡ triples g
triples_filter done x = refl
triples_filter (also (Block qs) g) x = ap (λ ps. qs ++ ps) (triples_filter g x)
triples_filter (also (Optional h) g) x = triples_filter g x
triples_filter (also (Filter e) g) x = triples_filter g x

filters_filter : (g : Group) (x : Expr) → filters (then g (Filter x)) ≡ filters g ++ x ∷ []
filters_filter done x = refl
filters_filter (also (Block qs) g) x = filters_filter g x
filters_filter (also (Optional h) g) x = filters_filter g x
filters_filter (also (Filter e) g) x = ap (λ es. e ∷ es) (filters_filter g x)

optionals_filter : (g : Group) (x : Expr) → optionals (then g (Filter x)) ≡ optionals g
optionals_filter done x = refl
optionals_filter (also (Block qs) g) x = optionals_filter g x
optionals_filter (also (Optional h) g) x = ap (λ f. more (optional_tree h) f) (optionals_filter g x)
optionals_filter (also (Filter e) g) x = optionals_filter g x

-- an OPTIONAL
triples_optional : (g k : Group) → triples (then g (Optional k)) ≡ triples g
triples_optional done k = refl
triples_optional (also (Block qs) g) k = ap (λ ps. qs ++ ps) (triples_optional g k)
triples_optional (also (Optional h) g) k = triples_optional g k
triples_optional (also (Filter e) g) k = triples_optional g k

filters_optional : (g k : Group) → filters (then g (Optional k)) ≡ filters g
filters_optional done k = refl
filters_optional (also (Block qs) g) k = filters_optional g k
filters_optional (also (Optional h) g) k = filters_optional g k
filters_optional (also (Filter e) g) k = ap (λ es. e ∷ es) (filters_optional g k)

-- a forest with one more tree at its end
abbrev grown : Forest → Tree → Forest
grown leaf t = more t leaf
grown (more u f) t = more u (grown f t)

grown_is : (ts : List Tree) (t : Tree) → forest_of (ts ++ t ∷ []) ≡ grown (forest_of ts) t
grown_is [] t = refl
grown_is (u ∷ ts) t = ap (λ f. more u f) (grown_is ts t)

optionals_optional : (g k : Group) → optionals (then g (Optional k)) ≡ grown (optionals g) (optional_tree k)
optionals_optional done k = refl
optionals_optional (also (Block qs) g) k = optionals_optional g k
optionals_optional (also (Optional h) g) k = ap (λ f. more (optional_tree h) f) (optionals_optional g k)
optionals_optional (also (Filter e) g) k = optionals_optional g k

-- the parts of the group so far, and of one element more
pub with_block : (now g : Group) (ps new : List Pattern) (es : List Expr) (ts : List Tree) (qs : List Pattern) → now ≡ then g (Block qs) → IsParts g ps es ts → new ≡ ps ++ qs → IsParts now new es ts
with_block now g ps new es ts qs is p n = record {
  triples_are = n ∙ ap (λ ps. ps ++ qs) p.triples_are ∙ sym (ap triples is ∙ triples_block g qs);
  tests_are = p.tests_are ∙ sym (ap filters is ∙ filters_block g qs);
  children_are = p.children_are ∙ sym (ap optionals is ∙ optionals_block g qs);
}

pub with_filter : (now g : Group) (ps : List Pattern) (es new : List Expr) (ts : List Tree) (x : Expr) → now ≡ then g (Filter x) → IsParts g ps es ts → new ≡ es ++ x ∷ [] → IsParts now ps new ts
with_filter now g ps es new ts x is p n = record {
  triples_are = p.triples_are ∙ sym (ap triples is ∙ triples_filter g x);
  tests_are = n ∙ ap (λ es. es ++ x ∷ []) p.tests_are ∙ sym (ap filters is ∙ filters_filter g x);
  children_are = p.children_are ∙ sym (ap optionals is ∙ optionals_filter g x);
}

pub with_optional : (now g k : Group) (ps : List Pattern) (es : List Expr) (ts new : List Tree) (t : Tree) → now ≡ then g (Optional k) → IsParts g ps es ts → t ≡ optional_tree k → new ≡ ts ++ t ∷ [] → IsParts now ps es new
with_optional now g k ps es ts new t is p o n = record {
  triples_are = p.triples_are ∙ sym (ap triples is ∙ triples_optional g k);
  tests_are = p.tests_are ∙ sym (ap filters is ∙ filters_optional g k);
  children_are = ap forest_of n ∙ grown_is ts t ∙ (λ i. grown (p.children_are i) (o i)) ∙ sym (ap optionals is ∙ optionals_optional g k);
}
