-- The three orders in which a graph keeps its triples, each sorted.
use Rattle.std.specs.Prelude.{◌≡◌, ℕ, ◌<◌, ◌≤◌, ◌*◌, ◌+◌, ◌-◌, ◌^◌, ◌↔◌, ◌⊎◌, ◌++◌, ◌∷◌, [], List, Some, map, length, slice_get}
use Rattle.std.specs.List.Sorted.{IsStrictlySortedBy}
use Rattle.std.specs.Ordering.{nat_cmp, then_cmp, on}
use Rattle.std.specs.declared.cmp.Ordering.{Ordering}
use Rattle.std.specs.declared.cmp.Ordering.TheVariants.{Less}
use Rattle.bye_terms.specs.Members.{In, EachOnce}
use Rattle.bye_terms.specs.Terms.{Statement}
use Rattle.bye_terms.specs.declared.term.Term.{Term}
pub use Rattle.bye_graph.specs.declared.entry.Entry.{Entry}
pub use Rattle.bye_graph.specs.declared.entry.Order.{Order}
use Rattle.bye_graph.specs.declared.entry.Order.TheVariants.{Subject, Predicate, Object}
use Rattle.bye_graph.specs.declared.span.Span.{Span}
use Rattle.bye_graph.specs.Keys.{Key}
use Rattle.bye_graph.specs.Graphs.{GraphValue, IsNumbered, IsUsed, IsPartOf, StandsIn, statements, most_triples}

-- the entry of a triple in an order
abbrev pub entry_of : Order → Key → Entry
entry_of Subject key = record { first = key.0; second = key.1; third = key.2 }
entry_of Predicate key = record { first = key.1; second = key.2; third = key.0 }
entry_of Object key = record { first = key.2; second = key.0; third = key.1 }

-- the triple of an entry
abbrev pub key_of : Order → Entry → Key
key_of Subject entry = (entry.first, entry.second, entry.third)
key_of Predicate entry = (entry.third, entry.first, entry.second)
key_of Object entry = (entry.second, entry.third, entry.first)

-- entries are compared by their first numbers, then by their second, then by their third
abbrev pub entry_cmp : Entry → Entry → Ordering
entry_cmp = then_cmp (on (λ e. e.first) nat_cmp) (then_cmp (on (λ e. e.second) nat_cmp) (on (λ e. e.third) nat_cmp))

abbrev pub IsBelow : Entry → Entry → Type 0
IsBelow bound entry = entry_cmp entry bound ≡ Less

abbrev pub IsFrom : Entry → Entry → Type 0
IsFrom bound entry = IsBelow bound entry → ⊥

-- the entry is not below the low bound, and below the high one
abbrev pub IsWithin : Span → Entry → Type 0
IsWithin span entry = IsFrom span.low entry × IsBelow span.high entry

-- the greatest number of 32 bits is in no entry
abbrev pub IsSmall : Entry → Type 0
IsSmall entry = (entry.first < 2 ^ 32 - 1) × (entry.second < 2 ^ 32 - 1) × (entry.third < 2 ^ 32 - 1)

-- the same elements, sorted, each once
pub record IsSortedSet (entries sorted : List Entry) : Type 0 where
  pub strict : IsStrictlySortedBy entry_cmp sorted
  pub same : (entry : Entry) → In sorted entry ↔ In entries entry
  pub count : length sorted ≤ length entries

-- the triples in an order
pub record IsOrder (order : Order) (keys : List Key) (entries : List Entry) : Type 0 where
  pub strict : IsStrictlySortedBy entry_cmp entries
  pub same : (key : Key) → In entries (entry_of order key) ↔ In keys key
  pub count : length entries ≤ length keys
  pub small : (entry : Entry) → In entries entry → IsSmall entry

-- what k steps of a search among n triples are at most
abbrev pub IsAtMostDepth : ℕ → ℕ → Type 0
IsAtMostDepth n k = 2 ^ k ≤ 2 * n + 1

-- the triples in subject order, by their keys
abbrev pub keys_of : List Entry → List Key
keys_of entries = map (key_of Subject) entries

-- a graph that grows: its triples may stand twice
pub record IsGrowing (g : GraphValue) : Type 0 where
  pub terms : EachOnce g.terms
  pub used : (key : Key) → In g.keys key → IsUsed g.terms key
  pub stand : (term : Term) → In g.terms term → StandsIn (statements g) term
  pub few : length g.terms ≤ 3 * length g.keys
  pub most : length g.keys ≤ most_triples

-- the list with more at its end
abbrev pub Grew : List Term → List Term → Type 0
Grew old new = (more : List Term) × (new ≡ old ++ more)

-- the terms of a triple were numbered by its key
pub record AreKept (old new : List Term) (key : Key) (f : Statement) : Type 0 where
  pub s : slice_get new key.0 ≡ Some f.s
  pub p : slice_get new key.1 ≡ Some f.p
  pub o : slice_get new key.2 ≡ Some f.o
  pub once : EachOnce new
  pub few : length new ≤ length old + 3
  pub only : (term : Term) → In new term → In old term ⊎ IsPartOf f term

-- a triple was put at the end of the entries
abbrev pub IsPut : List Term → List Term → List Entry → List Entry → Statement → Type 0
IsPut old new entries more f = (key : Key) × AreKept old new key f × (more ≡ entries ++ entry_of Subject key ∷ [])

-- a graph in its three orders
pub record IsGraph (g : GraphValue) (spo pos osp : List Entry) : Type 0 where
  pub numbered : IsNumbered g
  pub subject : IsOrder Subject g.keys spo
  pub predicate : IsOrder Predicate g.keys pos
  pub object : IsOrder Object g.keys osp
