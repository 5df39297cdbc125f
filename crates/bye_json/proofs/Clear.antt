-- Trees that are written and read back: their strings are UTF-8, they have no numbers, and each object's members ascend by name.
use Rattle.std.proofs.Common.{◌≡◌, refl, ℕ, ◌≤◌, Bool, true, false, List, [], ◌∷◌, Option, Some, option_map, option_and_then, Less, Greater, sym, ap, ◌∙◌, append-nil}
use Rattle.std.specs.Prelude.{⊤}
use Rattle.std.specs.Cmp.Lexicographic.{slice_cmp}
use Rattle.std.specs.Ordering.{nat_cmp, match_ordering, ordering_reverse}
use Rattle.std.specs.Str.{IsUtf8}
use Rattle.std.proofs.lemmas.Cmp.{nat_list_cmp_total}
use Rattle.std.proofs.lemmas.Str.{IsUtf8-append}
use Rattle.json.specs.Token.{Token}
use Rattle.json.specs.Lex.{tokens}
use Rattle.json.specs.Json as json
use Rattle.json.specs.Tree as tree
use Rattle.json.specs.Print.{quoted}
use Rattle.json.proofs.Printed.Tokens.{tokens-print}
use Rattle.json.proofs.Printed.Trees.{ArePrintable-json_tokens, value-json_tokens}
use Rattle.json.proofs.Printed.Utf8.{IsUtf8-are_ascii, IsUtf8-boolean, IsUtf8-quoted}
use Rattle.serde_json.specs.Data.{Data, null, boolean, number, string, array, object, Items, no_items, item, Members, no_members, member, put}
use Rattle.serde_json.specs.Read.{read, of_json, of_items, of_members, max_depth}
use Rattle.serde_json.specs.Written.{comma_if, compact_text, items_outline, items_text, members_outline, members_text, outline}
use Rattle.serde_json.proofs.Texts.{print-outline}

-- the name comes before each of the members' names
abbrev pub Above : List ℕ → Members → Type 0
Above k no_members = ⊤
Above k (member l d ms) = (slice_cmp nat_cmp k l ≡ Less) × Above k ms

abbrev mutual
  pub IsClear : Data → Type 0
  IsClear null = ⊤
  IsClear (boolean b) = ⊤
  IsClear (number n) = ⊥
  IsClear (string s) = IsUtf8 s
  IsClear (array ds) = AreClear ds
  IsClear (object ms) = HasClear ms

  pub AreClear : Items → Type 0
  AreClear no_items = ⊤
  AreClear (item d ds) = IsClear d × AreClear ds

  pub HasClear : Members → Type 0
  HasClear no_members = ⊤
  HasClear (member k d ms) = IsUtf8 k × (IsClear d × (Above k ms × HasClear ms))

mutual
  numbers : (d : Data) → IsClear d → tree.HasNumbers (outline d)
  numbers null h = tt
  numbers (boolean b) h = tt
  numbers (number n) h = absurd h
  numbers (string s) h = tt
  numbers (array ds) h = items_numbers ds h
  numbers (object ms) h = members_numbers ms h

  items_numbers : (ds : Items) → AreClear ds → tree.ItemsHaveNumbers (items_outline ds)
  items_numbers no_items h = tt
  items_numbers (item d ds) h = (numbers d h.0, items_numbers ds h.1)

  members_numbers : (ms : Members) → HasClear ms → tree.MembersHaveNumbers (members_outline ms)
  members_numbers no_members h = tt
  members_numbers (member k d ms) h = (numbers d h.1.0, members_numbers ms h.1.1.1)

-- their text is UTF-8
comma_utf8 : (later : Bool) → IsUtf8 (comma_if later)
comma_utf8 true = IsUtf8-are_ascii (44 ∷ []) refl
comma_utf8 false = IsUtf8-are_ascii [] refl

mutual
  pub text_utf8 : (d : Data) → IsClear d → IsUtf8 (compact_text d)
  text_utf8 null h = IsUtf8-are_ascii _ refl
  text_utf8 (boolean b) h = IsUtf8-boolean b
  text_utf8 (number n) h = absurd h
  text_utf8 (string s) h = IsUtf8-quoted s h
  text_utf8 (array ds) h = IsUtf8-append (91 ∷ []) (items_text false ds) (IsUtf8-are_ascii (91 ∷ []) refl) (items_utf8 false ds h)
  text_utf8 (object ms) h = IsUtf8-append (123 ∷ []) (members_text false ms) (IsUtf8-are_ascii (123 ∷ []) refl) (members_utf8 false ms h)

  items_utf8 : (later : Bool) (ds : Items) → AreClear ds → IsUtf8 (items_text later ds)
  items_utf8 later no_items h = IsUtf8-are_ascii (93 ∷ []) refl
  items_utf8 later (item d ds) h = IsUtf8-append (comma_if later) _ (comma_utf8 later) (IsUtf8-append (compact_text d) _ (text_utf8 d h.0) (items_utf8 true ds h.1))

  members_utf8 : (later : Bool) (ms : Members) → HasClear ms → IsUtf8 (members_text later ms)
  members_utf8 later no_members h = IsUtf8-are_ascii (125 ∷ []) refl
  members_utf8 later (member k d ms) h =
      IsUtf8-append (comma_if later) _ (comma_utf8 later)
      (IsUtf8-append (quoted k) _ (IsUtf8-quoted k h.0)
      (IsUtf8-append (58 ∷ []) _ (IsUtf8-are_ascii (58 ∷ []) refl) (IsUtf8-append (compact_text d) _ (text_utf8 d h.1.0) (members_utf8 true ms h.1.1.1))))

-- members one after another
abbrev join : Members → Members → Members
join no_members later = later
join (member k d ms) later = member k d (join ms later)

-- each of the members' names comes before the name
abbrev Below : Members → List ℕ → Type 0
Below no_members k = ⊤
Below (member l d ms) k = (slice_cmp nat_cmp l k ≡ Less) × Below ms k

turned : (k l : List ℕ) → slice_cmp nat_cmp l k ≡ Less → slice_cmp nat_cmp k l ≡ Greater
turned k l e = nat_list_cmp_total.antisymm k l ∙ ap ordering_reverse e

put_last : (k : List ℕ) (d : Data) (done : Members) → Below done k → put k d done ≡ join done (member k d no_members)
put_last k d no_members below = refl
put_last k d (member l e ms) below =
    ap (λ o. match_ordering o (member k d (member l e ms)) (member l d ms) (member l e (put k d ms))) (turned k l below.0) ∙ ap (member l e) (put_last k d ms below.1)

below_more : (done : Members) (k l : List ℕ) (d : Data) → Below done l → slice_cmp nat_cmp k l ≡ Less → Below (join done (member k d no_members)) l
below_more no_members k l d below less = (less, tt)
below_more (member m e ms) k l d below less = (below.0, below_more ms k l d below.1 less)

join_more : (done : Members) (k : List ℕ) (d : Data) (ms : Members) → join (join done (member k d no_members)) ms ≡ join done (member k d ms)
join_more no_members k d ms = refl
join_more (member l e done) k d ms = ap (member l e) (join_more done k d ms)

join_none : (ms : Members) → join ms no_members ≡ ms
join_none no_members = refl
join_none (member k d ms) = ap (member k d) (join_none ms)

-- all members done so far come before those that follow
abbrev AreBelow : Members → Members → Type 0
AreBelow done no_members = ⊤
AreBelow done (member k d ms) = Below done k × AreBelow done ms

are_below_more : (done : Members) (k : List ℕ) (d : Data) (ms : Members) → AreBelow done ms → Above k ms → AreBelow (join done (member k d no_members)) ms
are_below_more done k d no_members below above = tt
are_below_more done k d (member l e ms) below above = (below_more done k l d below.0 above.0, are_below_more done k d ms below.1 above.1)

none_below : (ms : Members) → AreBelow no_members ms
none_below no_members = tt
none_below (member k d ms) = (tt, none_below ms)

mutual
  pub back : (d : Data) → IsClear d → of_json (outline d) ≡ Some d
  back null h = refl
  back (boolean b) h = refl
  back (number n) h = absurd h
  back (string s) h = refl
  back (array ds) h = ap (option_map array) (items_back ds h)
  back (object ms) h = ap (option_map object) (members_back no_members ms h (none_below ms))

  items_back : (ds : Items) → AreClear ds → of_items (items_outline ds) ≡ Some ds
  items_back no_items h = refl
  items_back (item d ds) h = ap (option_and_then (λ d. option_map (item d) (of_items (items_outline ds)))) (back d h.0) ∙ ap (option_map (item d)) (items_back ds h.1)

  members_back : (done ms : Members) → HasClear ms → AreBelow done ms → of_members (members_outline ms) done ≡ Some (join done ms)
  members_back done no_members h below = ap (λ ms. Some ms) (sym (join_none done))
  members_back done (member k d ms) h below =
      ap (option_and_then (λ d. of_members (members_outline ms) (put k d done))) (back d h.1.0)
      ∙ ap (of_members (members_outline ms)) (put_last k d done below.0)
      ∙ members_back (join done (member k d no_members)) ms h.1.1.1 (are_below_more done k d ms below.1 h.1.1.0)
      ∙ ap (λ ms. Some ms) (join_more done k d ms)

abbrev whole : Option (json.Json × List Token) → Option Data
whole o = option_and_then of_json (option_and_then (λ p. json.if_last p.0 p.1) o)

-- such a tree is read from its text
pub reads_back : (d : Data) → IsClear d → tree.depth (outline d) ≤ max_depth → read (compact_text d) ≡ Some d
reads_back d clear shallow =
    let same : tokens (compact_text d) ≡ tree.json_tokens (outline d) = ap tokens (sym (print-outline d)) ∙ tokens-print _ (ArePrintable-json_tokens (outline d) (numbers d clear)) in
    ap whole (ap (json.value max_depth) (same ∙ sym (append-nil _)) ∙ value-json_tokens (outline d) max_depth [] shallow) ∙ back d clear
