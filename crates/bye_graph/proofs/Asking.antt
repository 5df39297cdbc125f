-- What a graph answers.
use Rattle.std.proofs.Common.{◌≡◌, refl, ℕ, List, map, Bool, true, Option, Some, None, IsSome, MatchOption, ⊎_elim, ◌↔◌, sym, ◌∙◌, ap, subst, slice_get, take, drop}
use Rattle.std.specs.List.{AllByRecursion}
use Rattle.bye_terms.specs.declared.term.Term.{Term}
use Rattle.bye_terms.specs.Members.{In, EachOnce}
use Rattle.bye_terms.proofs.Lists.{in_map}
use Rattle.bye_graph.specs.declared.span.Span.{Span}
use Rattle.bye_graph.specs.declared.entry.Order.TheVariants.{Subject}
use Rattle.bye_graph.specs.Graphs.{GraphValue, statements, statement_of, StandsIn, IsNumbered, AreMatches}
use Rattle.bye_graph.specs.Keys.{Key, Agrees}
use Rattle.bye_graph.specs.Orders.{Entry, Order, entry_of, key_of, IsBelow, IsFrom, IsWithin, IsSmall, IsOrder}
use Rattle.bye_graph.proofs.Numbers.{get_in, term_in}
use Rattle.bye_graph.proofs.Ordering.{key_in, keys_once, same_entry, same_equal, equal_same}
use Rattle.bye_graph.proofs.Sorted.{found_there, there_found}

-- a term that stands in a triple has a number
pub standing_in : (g : GraphValue) (t : Term) → IsNumbered g → StandsIn (statements g) t → In g.terms t
standing_in g t good (f, h, part) =
    let w = in_map (statement_of g.terms) g.keys f h in
    let used = good.used w.0 w.1 in
    ⊎_elim
    (λ e. subst (In g.terms) (ap (λ f. f.s) w.2 ∙ e) (term_in g.terms w.0.0 used.0))
    (λ r. ⊎_elim
    (λ e. subst (In g.terms) (ap (λ f. f.p) w.2 ∙ e) (term_in g.terms w.0.1 used.1))
    (λ e. subst (In g.terms) (ap (λ f. f.o) w.2 ∙ e) (term_in g.terms w.0.2 used.2))
    r)
    part

pub number_standing : (g : GraphValue) (t : Term) (n : ℕ) → IsNumbered g → slice_get g.terms n ≡ Some t → StandsIn (statements g) t
number_standing g t n good at = good.stand t (get_in g.terms n t at)

pub standing_by : (g : GraphValue) (t : Term) (o : Option ℕ) → IsNumbered g → MatchOption o (In g.terms t → ⊥) (λ n. slice_get g.terms n ≡ Some t) → IsSome o ↔ StandsIn (statements g) t
standing_by g t None good none = ((λ h. cc), (λ s. absurd (none (standing_in g t good s))))
standing_by g t (Some n) good at = ((λ h. number_standing g t n good at), (λ s. refl))

-- what numbers of a pattern are given
pub agrees_by : (P : Type 0) (key : Key) (s p o t q r : Option ℕ) → s ≡ t → p ≡ q → o ≡ r → P ↔ Agrees t q r key → P ↔ Agrees s p o key
agrees_by P key s p o t q r a b c w =
    subst (λ s. P ↔ Agrees s p o key) (sym a) (subst (λ p. P ↔ Agrees t p o key) (sym b) (subst (λ o. P ↔ Agrees t q o key) (sym c) w))

-- the triples of the part of an order within a span
pub part_matches : (order : Order) (span : Span) (keys : List Key) (entries part : List Entry) (s p o : Option ℕ) → IsOrder order keys entries
    → ((key : Key) → IsSmall (entry_of order key) → IsWithin span (entry_of order key) ↔ Agrees s p o key)
    → ((x : Entry) → In part x ↔ (In entries x × IsWithin span x)) → EachOnce part → AreMatches keys s p o (map (key_of order) part)
part_matches order span keys entries part s p o is agrees within once = record {
  once = keys_once order part once;
  exactly = λ key. (
    λ h.
        let w = (within (entry_of order key)).0 ((key_in order part key).0 h) in
        ((is.same key).0 w.0, (agrees key (is.small (entry_of order key) w.0)).0 w.1),
    λ (h, a).
        let there = (is.same key).1 h in
        (key_in order part key).1 ((within (entry_of order key)).1 (there, (agrees key (is.small (entry_of order key) there)).1 a)),
  );
}

-- the triple that a search for it finds
has_found : (keys : List Key) (entries : List Entry) (key : Key) (n : ℕ) → IsOrder Subject keys entries
    → AllByRecursion (IsBelow (entry_of Subject key)) (take n entries) → AllByRecursion (IsFrom (entry_of Subject key)) (drop n entries)
    → (slice_get entries n ≡ Some (entry_of Subject key)) ↔ In keys key
has_found keys entries key n is before after = (
  λ e. (is.same key).0 (found_there entries n (entry_of Subject key) e),
  λ h. there_found entries n (entry_of Subject key) is.strict before after ((is.same key).1 h),
)

some_same : {x y : Entry} → ◌≡◌ {A = Option Entry} (Some x) (Some y) → x ≡ y
some_same e = cc

some_none : {x : Entry} → ◌≡◌ {A = Option Entry} (Some x) None → ⊥
some_none e = cc

pub has_some : (keys : List Key) (entries : List Entry) (key : Key) (bound : Entry) (n : ℕ) (o : Option Entry) (there : Entry) (b : Bool) → IsOrder Subject keys entries → bound ≡ entry_of Subject key
    → AllByRecursion (IsBelow bound) (take n entries) → AllByRecursion (IsFrom bound) (drop n entries)
    → o ≡ slice_get entries n → o ≡ Some there → b ≡ same_entry there bound → (b ≡ true) ↔ In keys key
has_some keys entries key bound n o there b is same before after at some test =
    let w = has_found keys entries key n is (subst (λ x. AllByRecursion (IsBelow x) (take n entries)) same before) (subst (λ x. AllByRecursion (IsFrom x) (drop n entries)) same after) in (
      (λ e. w.0 (sym at ∙ some ∙ ap Some (same_equal there bound (sym test ∙ e) ∙ same))),
      (λ h. test ∙ equal_same there bound (some_same (sym some ∙ at ∙ w.1 h) ∙ sym same)),
    )

pub has_none : (keys : List Key) (entries : List Entry) (key : Key) (bound : Entry) (n : ℕ) (o : Option Entry) → IsOrder Subject keys entries → bound ≡ entry_of Subject key
    → AllByRecursion (IsBelow bound) (take n entries) → AllByRecursion (IsFrom bound) (drop n entries)
    → o ≡ slice_get entries n → o ≡ None → In keys key → ⊥
has_none keys entries key bound n o is same before after at none h =
    let w = has_found keys entries key n is (subst (λ x. AllByRecursion (IsBelow x) (take n entries)) same before) (subst (λ x. AllByRecursion (IsFrom x) (drop n entries)) same after) in
    some_none (sym (w.1 h) ∙ sym at ∙ none)
