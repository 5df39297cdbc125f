-- What the rules of documents stand for is valid.
use Rattle.std.proofs.Common.{◌≡◌, refl, ℕ, zero, suc, true, false, ◌||◌, List, ◌∷◌, [], ◌++◌, Option, Some, None, map, is_some, reverse, IsSome, ap}
use Rattle.std.specs.List.{AllByRecursion, flat_map}
use Rattle.bye_terms.specs.Names.{is_name}
use Rattle.bye_terms.specs.Literals.{xsd_string}
use Rattle.bye_terms.specs.Members.{In, EachOnce}
use Rattle.std.proofs.lemmas.Slice.Eq.{bytes_eq-Decides}
use Rattle.bye_pattern.specs.declared.slot.Slot.{Slot}
use Rattle.bye_pattern.specs.declared.slot.Slot.TheVariants.{Var, Const}
use Rattle.bye_pattern.specs.declared.kind.Kind.{Kind}
use Rattle.bye_pattern.specs.Patterns.{Pattern}
use Rattle.bye_pattern.specs.Conditions.{Expr, IsBound, Same, KindOf, And, Or}
use Rattle.bye_pattern.specs.Written.{Element, Block, Optional, Filter, Group, done, also, group_of}
use Rattle.bye_pattern.specs.Gathered.{plain, conjuncts, tests, HasPlainOptionals}
use Rattle.bye_table.specs.Mappings.{Name}
use Rattle.bye_tokens.specs.declared.token.Placed.{Placed}
use Rattle.bye_tokens.specs.declared.token.Token.{Token}
use Rattle.bye_tokens.specs.declared.sign.Sign.{Sign}
use Rattle.bye_tokens.specs.declared.sign.Sign.TheVariants as signs
use Rattle.bye_tokens.specs.declared.word.Word.TheVariants as words
use Rattle.bye_parts.specs.Parts.{Part, sequence, run}
use Rattle.bye_parts.proofs.Gives.{Gives, Perhaps, gives_token, gives_yield, gives_nothing, gives_then, gives_mapped, gives_either, gives_optional, gives_repeated, gives_trailing, gives_run, gives_between, gives_bracketed}
use Rattle.bye_grammar.specs.declared.place.Place.{Place}
use Rattle.bye_grammar.specs.declared.place.Place.TheVariants.{Outer, Inner}
use Rattle.bye_grammar.specs.Fits as fits
use Rattle.bye_grammar.specs.Fits.{Prefixes, Chars}
use Rattle.bye_grammar.specs.Values.{or_plain, pattern, or_none, joined, negated, grouped, block_of}
use Rattle.bye_grammar.specs.Grammar.{one, suffix, string, object, objects, property, next_property, same, block, argument, constant, arguments, call, call_of, unary, conjunction, disjunction, primary, filter, optional_group, element, body, group, declaration, names, selection, document}
use Rattle.bye_grammar.specs.Valid.{IsToken, IsSlot, IsSubject, IsPattern, IsExpr, IsPlain, IsFilter, IsGroup, AreNames, IsSelection, IsQuery}
use Rattle.bye_grammar.specs.Laws.{DocumentsAreValid}
use Rattle.bye_grammar.proofs.ValidSingles.{valid_subject, valid_verb, valid_typed, valid_tagged, valid_object, IsConstant, IsVariable, valid_constant, valid_datatype, valid_tag, valid_variable, valid_new, not_again, once_each}

-- what derives from the part has this, where the tokens are ones that the program can hold
abbrev pub Valid : {V : Type 0} → (V → Type 0) → Part Placed V → Type 0
Valid Q P = Gives (λ t. IsToken t.token) Q P

-- nothing is said of the value
abbrev Free : {V : Type 0} → V → Type 0
Free v = Unit {0}

one_valid : {V : Type 0} {Q : V → Type 0} (test : Token → Option V) → ((t : Token) (v : V) → IsToken t → test t ≡ Some v → Q v) → Valid Q (one test)
one_valid test f = gives_token (λ t. test t.token) (λ t v ok e. f t.token v ok e)

any_valid : {V : Type 0} (test : Token → Option V) → Valid Free (one test)
any_valid test = one_valid test (λ t v ok e. tt)

-- what holds of the value gives something else of it
gives_seen : {V : Type 0} {Q R : V → Type 0} {P : Part Placed V} → ((v : V) → Q v → R v) → Valid Q P → Valid R P
gives_seen h f = record { gives = λ ts v a d. h v (f.gives ts v a d) }

-- a valid constant
abbrev IsConst : Slot → Type 0
IsConst s = IsSlot s × IsConstant s

suffix_valid : (prefixes : Prefixes) (text : Chars) → Valid IsConst (suffix prefixes text)
suffix_valid prefixes text =
    gives_either
    (gives_mapped IsConst (fits.tagged text) (one_valid fits.tag valid_tag) (λ t h. (valid_tagged text t h, tt)))
    (gives_then (any_valid (fits.is_sign signs.Carets)) (λ _ _. gives_then (one_valid (fits.datatype prefixes) (valid_datatype prefixes)) (λ d h. gives_yield IsConst (fits.typed text d) (valid_typed text d h, tt))))

const_of : (text : Chars) (o : Option Slot) → Perhaps IsConst o → IsConst (or_plain text o)
const_of text None h = (valid_typed text xsd_string (refl, refl), tt)
const_of text (Some s) h = h

string_valid : (prefixes : Prefixes) → Valid IsConst (string prefixes)
string_valid prefixes = gives_then (any_valid fits.string) (λ text _. gives_then (gives_optional (suffix_valid prefixes text)) (λ o h. gives_yield IsConst (or_plain text o) (const_of text o h)))

object_valid : (prefixes : Prefixes) → Valid IsSlot (object prefixes)
object_valid prefixes = gives_either (gives_seen (λ s h. h.0) (string_valid prefixes)) (one_valid (fits.short_object prefixes) (valid_object prefixes))

-- all of them are valid patterns
abbrev ArePatterns : List Pattern → Type 0
ArePatterns ps = AllByRecursion IsPattern ps

patterns_of : (s p : Slot) (os : List Slot) → IsSubject s → IsSubject p → AllByRecursion IsSlot os → ArePatterns (map (pattern s p) os)
patterns_of s p [] hs hp h = tt
patterns_of s p (o ∷ os) hs hp h = (record { s = hs; p = hp; o = h.0 }, patterns_of s p os hs hp h.1)

all_join : {V : Type 0} (Q : V → Type 0) (xs ys : List V) → AllByRecursion Q xs → AllByRecursion Q ys → AllByRecursion Q (xs ++ ys)
all_join Q [] ys h k = k
all_join Q (x ∷ xs) ys h k = (h.0, all_join Q xs ys h.1 k)

all_joined : {V : Type 0} (Q : V → Type 0) (xs : List V) (more : List (List V)) → AllByRecursion Q xs → AllByRecursion (AllByRecursion Q) more → AllByRecursion Q (joined xs more)
all_joined {V} Q xs more h k = all_join Q xs (flat_map (λ ys. ys) more) h (flat more k)
  where
    flat : (more : List (List V)) → AllByRecursion (AllByRecursion Q) more → AllByRecursion Q (flat_map (λ ys. ys) more)
    flat [] k = tt
    flat (ys ∷ more) k = all_join Q ys (flat_map (λ ys. ys) more) k.0 (flat more k.1)

objects_valid : (prefixes : Prefixes) (s p : Slot) → IsSubject s → IsSubject p → Valid ArePatterns (objects prefixes s p)
objects_valid prefixes s p hs hp =
    gives_then (object_valid prefixes) (λ o h. gives_then (gives_repeated (gives_then (any_valid (fits.is_sign signs.Comma)) (λ _ _. object_valid prefixes))) (λ os k.
    gives_yield ArePatterns (map (pattern s p) (o ∷ os)) (patterns_of s p (o ∷ os) hs hp (h, k))))

property_valid : (prefixes : Prefixes) (s : Slot) → IsSubject s → Valid ArePatterns (property prefixes s)
property_valid prefixes s hs = gives_then (one_valid (fits.verb prefixes) (valid_verb prefixes)) (λ p hp. objects_valid prefixes s p hs hp)

given : (o : Option (List Pattern)) → Perhaps ArePatterns o → ArePatterns (or_none o)
given None h = tt
given (Some ps) h = h

next_valid : (prefixes : Prefixes) (s : Slot) → IsSubject s → Valid ArePatterns (next_property prefixes s)
next_valid prefixes s hs = gives_then (any_valid (fits.is_sign signs.Semicolon)) (λ _ _. gives_then (gives_optional (property_valid prefixes s hs)) (λ o h. gives_yield ArePatterns (or_none o) (given o h)))

same_valid : (prefixes : Prefixes) → Valid ArePatterns (same prefixes)
same_valid prefixes =
    gives_then (one_valid (fits.subject prefixes) (valid_subject prefixes)) (λ s hs. gives_then (property_valid prefixes s hs) (λ ps h.
    gives_then (gives_repeated (next_valid prefixes s hs)) (λ more k. gives_yield ArePatterns (joined ps more) (all_joined IsPattern ps more h k))))

block_valid : (prefixes : Prefixes) → Valid ArePatterns (block prefixes)
block_valid prefixes =
    gives_then (same_valid prefixes) (λ ps h. gives_then (gives_trailing (λ t. fits.is_sign signs.Dot t.token) (same_valid prefixes)) (λ more k.
    gives_yield ArePatterns (joined ps more) (all_joined IsPattern ps more h k)))

-- what a kind test is asked of
abbrev IsArgument : Place → Slot → Type 0
IsArgument Outer s = IsSlot s
IsArgument Inner s = IsSlot s × IsVariable s

argument_valid : (prefixes : Prefixes) (place : Place) → Valid (IsArgument place) (argument prefixes place)
argument_valid prefixes Outer = object_valid prefixes
argument_valid prefixes Inner = gives_mapped (IsArgument Inner) Var (one_valid fits.variable valid_variable) (λ v h. (h, tt))

constant_valid : (prefixes : Prefixes) → Valid IsConst (constant prefixes)
constant_valid prefixes = gives_either (string_valid prefixes) (one_valid (fits.short_constant prefixes) (valid_constant prefixes))

plain_same : (v : Name) (o : Slot) → IsPlain (Same (Var v) o)
plain_same v (Var w) = (refl, tt)
plain_same v (Const c) = (refl, tt)

filter_of_same : (place : Place) (v : Name) (o : Slot) → is_name v ≡ true → IsSlot o → IsFilter place (Same (Var v) o)
filter_of_same Outer v o h k = (h, k)
filter_of_same Inner v o h k = ((h, k), plain_same v o)

plain_turned : (c o : Slot) → IsConstant c → IsVariable o → IsPlain (Same c o)
plain_turned (Var v) o h k = absurd h
plain_turned (Const c) (Var w) h k = (refl, tt)
plain_turned (Const c) (Const d) h k = absurd k

filter_of_constant : (place : Place) (c o : Slot) → IsConst c → IsArgument place o → IsFilter place (Same c o)
filter_of_constant Outer c o h k = (h.0, k)
filter_of_constant Inner c o h k = ((h.0, k.0), plain_turned c o h.1 k.1)

arguments_valid : (prefixes : Prefixes) (place : Place) → Valid (IsFilter place) (arguments prefixes place)
arguments_valid prefixes place =
    gives_either
    (gives_then (one_valid fits.variable valid_variable) (λ v h. gives_then (any_valid (fits.is_sign signs.Comma)) (λ _ _. gives_then (object_valid prefixes) (λ o k. gives_yield (IsFilter place) (Same (Var v) o) (filter_of_same place v o h k)))))
    (gives_then (constant_valid prefixes) (λ c h. gives_then (any_valid (fits.is_sign signs.Comma)) (λ _ _. gives_then (argument_valid prefixes place) (λ o k. gives_yield (IsFilter place) (Same c o) (filter_of_constant place c o h k)))))

filter_of_bound : (place : Place) (v : Name) → is_name v ≡ true → IsFilter place (IsBound v)
filter_of_bound Outer v h = h
filter_of_bound Inner v h = (h, (refl, tt))

filter_of_kind : (place : Place) (kind : Kind) (s : Slot) → IsArgument place s → IsFilter place (KindOf kind s)
filter_of_kind Outer kind s h = h
filter_of_kind Inner kind (Var v) h = (h.0, (refl, tt))
filter_of_kind Inner kind (Const c) h = absurd h.1

call_of_valid : {V : Type 0} {Q : V → Type 0} {P : Part Placed V} (d : ℕ) → Valid Q P → Valid Q (call_of d P)
call_of_valid d f = gives_bracketed (λ t. fits.is_sign signs.Open t.token) (λ t. fits.is_sign signs.Close t.token) d f

call_valid : (prefixes : Prefixes) (place : Place) (d : ℕ) → Valid (IsFilter place) (call prefixes place d)
call_valid prefixes place d =
    gives_either (gives_then (any_valid (fits.is_word words.Bound)) (λ _ _. call_of_valid d (gives_mapped (IsFilter place) IsBound (one_valid fits.variable valid_variable) (filter_of_bound place))))
    (gives_either (gives_then (any_valid (fits.is_word words.SameTerm)) (λ _ _. call_of_valid d (arguments_valid prefixes place)))
    (gives_then (any_valid fits.kind_test) (λ kind _. call_of_valid d (gives_mapped (IsFilter place) (KindOf kind) (argument_valid prefixes place) (filter_of_kind place kind)))))

-- a sign of the outermost group's filters alone
abbrev IsOuterSign : Place → Unit {0} → Type 0
IsOuterSign Outer bang = Unit {0}
IsOuterSign Inner bang = ⊥

outer_only : (place : Place) (s : Sign) (t : Token) (v : Unit {0}) → fits.outer_sign place s t ≡ Some v → IsOuterSign place v
outer_only Outer s t v e = tt
outer_only Inner s t v e = let r : ⊥ = cc in r

filter_of_not : (place : Place) (bang : Option (Unit {0})) (e : Expr) → Perhaps (IsOuterSign place) bang → IsFilter place e → IsFilter place (negated bang e)
filter_of_not place None e h k = k
filter_of_not Outer (Some bang) e h k = k
filter_of_not Inner (Some bang) e h k = absurd h

filter_of_and : (place : Place) (d e : Expr) → IsFilter place d → IsFilter place e → IsFilter place (And d e)
filter_of_and Outer d e h k = (h, k)
filter_of_and Inner d e h k = ((h.0, k.0), all_join (λ d. IsSome (plain d)) (conjuncts d) (conjuncts e) h.1 k.1)

filter_of_ands : (place : Place) (e : Expr) (es : List Expr) → IsFilter place e → AllByRecursion (IsFilter place) es → IsFilter place (grouped And e es)
filter_of_ands place e [] h k = h
filter_of_ands place e (d ∷ ds) h k = filter_of_ands place (And e d) ds (filter_of_and place e d h k.0) k.1

-- what follows `||`
abbrev IsChoice : Place → Expr → Type 0
IsChoice Outer e = IsExpr e
IsChoice Inner e = ⊥

choice : (place : Place) (bang : Unit {0}) (e : Expr) → IsOuterSign place bang → IsFilter place e → IsChoice place e
choice Outer bang e h k = k
choice Inner bang e h k = h

filter_of_ors : (place : Place) (e : Expr) (es : List Expr) → IsFilter place e → AllByRecursion (IsChoice place) es → IsFilter place (grouped Or e es)
filter_of_ors place e [] h k = h
filter_of_ors Outer e (d ∷ ds) h k = filter_of_ors Outer (Or e d) ds (h, k.0) k.1
filter_of_ors Inner e (d ∷ ds) h k = absurd k.0

module _ (place : Place) {P : Part Placed Expr} (f : Valid (IsFilter place) P) where
  unary_valid : Valid (IsFilter place) (unary place P)
  unary_valid = gives_then (gives_optional (one_valid (fits.outer_sign place signs.Bang) (λ t v ok e. outer_only place signs.Bang t v e))) (λ bang h. gives_then f (λ e k. gives_yield (IsFilter place) (negated bang e) (filter_of_not place bang e h k)))

  conjunction_valid : Valid (IsFilter place) (conjunction place P)
  conjunction_valid = gives_then unary_valid (λ e h. gives_then (gives_repeated (gives_then (any_valid (fits.is_sign signs.And)) (λ _ _. unary_valid))) (λ es k. gives_yield (IsFilter place) (grouped And e es) (filter_of_ands place e es h k)))

  choice_valid : Valid (IsChoice place) (sequence (one (fits.outer_sign place signs.Or)) (λ _. conjunction place P))
  choice_valid = gives_then (one_valid (fits.outer_sign place signs.Or) (λ t v ok e. outer_only place signs.Or t v e)) (λ bang h. gives_seen (λ e k. choice place bang e h k) conjunction_valid)

  disjunction_valid : Valid (IsFilter place) (disjunction place P)
  disjunction_valid = gives_then conjunction_valid (λ e h. gives_then (gives_repeated choice_valid) (λ es k. gives_yield (IsFilter place) (grouped Or e es) (filter_of_ors place e es h k)))

primary_valid : (prefixes : Prefixes) (place : Place) (d : ℕ) → Valid (IsFilter place) (primary prefixes place d)
primary_valid prefixes place zero = gives_either (gives_nothing (IsFilter place)) (call_valid prefixes place zero)
primary_valid prefixes place (suc d) =
    gives_either (gives_between (λ t. fits.is_sign signs.Open t.token) (λ t. fits.is_sign signs.Close t.token) (disjunction_valid place (primary_valid prefixes place d))) (call_valid prefixes place (suc d))

-- an element of a group
abbrev IsElement : Place → Element → Type 0
IsElement place (Block ps) = ArePatterns ps
IsElement place (Optional h) = IsGroup Inner h
IsElement place (Filter e) = IsFilter place e

filter_valid : (prefixes : Prefixes) (place : Place) (d : ℕ) → Valid (IsElement place) (filter prefixes place d)
filter_valid prefixes place d = gives_then (any_valid (fits.is_word words.Filter)) (λ _ _. gives_then (primary_valid prefixes place d) (λ e h. gives_yield (IsElement place) (Filter e) h))

optional_valid : (place : Place) {P : Part Placed Group} → Valid (IsGroup Inner) P → Valid (IsElement place) (optional_group P)
optional_valid place f = gives_then (any_valid (fits.is_word words.Optional)) (λ _ _. gives_then f (λ g h. gives_yield (IsElement place) (Optional g) h))

-- all of them are elements
abbrev AreElements : Place → List Element → Type 0
AreElements place es = AllByRecursion (IsElement place) es

elements_of : (place : Place) (o : Option (List Pattern)) → Perhaps ArePatterns o → AreElements place (block_of o)
elements_of place None h = tt
elements_of place (Some ps) h = (h, tt)

group_is : (place : Place) (es : List Element) → AreElements place es → IsGroup place (group_of es)
group_is place [] h = tt
group_is place (Block ps ∷ es) h = (h.0, group_is place es h.1)
group_is place (Optional g ∷ es) h = (h.0, group_is place es h.1)
group_is place (Filter e ∷ es) h = (h.0, group_is place es h.1)

element_valid : (prefixes : Prefixes) (place : Place) {P Q : Part Placed Element} → Valid (IsElement place) P → Valid (IsElement place) Q → Valid (AreElements place) (element prefixes P Q)
element_valid prefixes place f g =
    gives_then (gives_either f g) (λ e h. gives_then (gives_optional (any_valid (fits.is_sign signs.Dot))) (λ _ _. gives_then (gives_optional (block_valid prefixes)) (λ o k.
    gives_yield (AreElements place) (e ∷ block_of o) (h, elements_of place o k))))

body_valid : (prefixes : Prefixes) (place : Place) {P Q : Part Placed Element} → Valid (IsElement place) P → Valid (IsElement place) Q → Valid (IsGroup place) (body prefixes P Q)
body_valid prefixes place f g =
    gives_then (gives_optional (block_valid prefixes)) (λ o h. gives_then (gives_repeated (element_valid prefixes place f g)) (λ es k.
    gives_yield (IsGroup place) (group_of (joined (block_of o) es)) (group_is place (joined (block_of o) es) (all_joined (IsElement place) (block_of o) es (elements_of place o h) k))))

group_valid : (prefixes : Prefixes) (place : Place) (d : ℕ) → Valid (IsGroup place) (group prefixes place d)
group_valid prefixes place zero = gives_nothing (IsGroup place)
group_valid prefixes place (suc d) =
    gives_between (λ t. fits.is_sign signs.OpenGroup t.token) (λ t. fits.is_sign signs.CloseGroup t.token) (body_valid prefixes place (optional_valid place (group_valid prefixes Inner d)) (filter_valid prefixes place d))

-- the conjuncts of an OPTIONAL group are plain
plain_tests : (h : Group) → IsGroup Inner h → AllByRecursion (λ e. IsSome (plain e)) (tests h)
plain_tests done k = tt
plain_tests (also (Block ps) g) k = plain_tests g k.1
plain_tests (also (Optional h) g) k = plain_tests g k.1
plain_tests (also (Filter e) g) k = all_join (λ e. IsSome (plain e)) (conjuncts e) (tests g) k.0.1 (plain_tests g k.1)

plain_optionals : (place : Place) (g : Group) → IsGroup place g → HasPlainOptionals g
plain_optionals place done k = tt
plain_optionals place (also (Block ps) g) k = plain_optionals place g k.1
plain_optionals place (also (Optional h) g) k = (plain_tests h k.0, plain_optionals Inner h k.0, plain_optionals place g k.1)
plain_optionals place (also (Filter e) g) k = plain_optionals place g k.1

-- the names that follow this one
abbrev Follow : Name → List Name → Type 0
Follow v vs = AllByRecursion (λ v. is_name v ≡ true) vs × EachOnce vs × (In vs v → ⊥)

more_valid : (v : Name) → Valid (Follow v) (run (λ seen t. fits.new_variable seen t.token) (v ∷ []))
more_valid v =
    let named : Valid (AllByRecursion (λ v. is_name v ≡ true)) (run (λ seen t. fits.new_variable seen t.token) (v ∷ [])) = gives_run (λ seen t. fits.new_variable seen t.token) (λ seen t v ok e. valid_new seen t.token v ok e) (v ∷ []) in
    record { gives = λ ts vs a h. (named.gives ts vs a h, once_each (v ∷ []) ts vs h, not_again (v ∷ []) ts vs h v (ap (λ b. b || false) ((bytes_eq-Decides v v).1 refl))) }

names_valid : Valid AreNames names
names_valid = gives_then (one_valid fits.variable valid_variable) (λ v h. gives_then (more_valid v) (λ vs k. gives_yield AreNames (v ∷ vs) (record { named = (h, k.0); once = (k.2, k.1); some = λ e. cc })))

selection_valid : (prefixes : Prefixes) (d : ℕ) → Valid IsQuery (selection prefixes d)
selection_valid prefixes d =
    gives_then (any_valid (fits.is_word words.Select)) (λ _ _. gives_then (gives_optional (any_valid (fits.is_word words.Distinct))) (λ distinct _.
    gives_then (gives_either (gives_mapped IsSelection Some names_valid (λ vs h. h)) (gives_mapped IsSelection (λ _. None) (any_valid (fits.is_sign signs.Star)) (λ _ _. tt))) (λ vars h.
    gives_then (gives_optional (any_valid (fits.is_word words.Where))) (λ _ _. gives_then (group_valid prefixes Outer d) (λ g k.
    gives_yield IsQuery (record { distinct = is_some distinct; vars = vars; group = g }) (record { vars = h; group = k; optionals = plain_optionals Outer g k }))))))

-- whatever the declarations are
declaration_valid : Valid (λ p. Unit {0}) declaration
declaration_valid = record { gives = λ ts p a h. tt }

document_valid : (d : ℕ) → Valid IsQuery (document d)
document_valid d = gives_then (gives_repeated declaration_valid) (λ ds _. selection_valid (reverse ds) d)

-- a query that derives is one that the program can hold
pub documents_valid : DocumentsAreValid
documents_valid ts w ok h = (document_valid h.0).gives ts w ok h.1
