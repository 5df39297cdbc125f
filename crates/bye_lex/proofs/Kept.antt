-- What a machine keeps grows with a character by no more than its bytes.
use Rattle.std.proofs.Common.{◌≡◌, refl, ℕ, zero, suc, ◌+◌, ◌-◌, ◌*◌, ◌<◌, ◌≤◌, Bool, true, false, cond, nat_lt, ◌==◌, ◌&&◌, List, [], ◌∷◌, ◌++◌, length, Option, Some, None, option_map, sym, ◌∙◌, ap, subst, append-nil, arith, length-append}
use Rattle.std.proofs.lemmas.Bool.Decides.{nat_tests}
use Rattle.std.proofs.lemmas.Str.{encodes-append, encode_ascii, length-encode, len_utf8_bounds}
use Rattle.std.specs.Char.{digit_value, encode_utf8}
use Rattle.std.specs.Str.{encode_utf8_all}
use Rattle.bye_terms.specs.Characters.{is_iri_char, is_label_part, is_letter, is_letter_or_digit, is_scheme_char}
use Rattle.bye_lex.specs.EscapeSteps as escape
use Rattle.bye_lex.specs.IriSteps as iri
use Rattle.bye_lex.specs.Iris.{has_numbers}
use Rattle.bye_lex.specs.Kept.{width, size, escape_kept, iri_kept, label_kept, name_kept, string_kept, tag_kept}
use Rattle.bye_lex.specs.LabelSteps as label
use Rattle.bye_lex.specs.NameSteps as name
use Rattle.bye_lex.specs.StringSteps as string
use Rattle.bye_lex.specs.Strings.{has_quoting, mark_of, may_stand, named}
use Rattle.bye_lex.specs.TagSteps as tag
use Rattle.bye_lex.specs.declared.escape.EscapeAt.{EscapeAt}
use Rattle.bye_lex.specs.declared.escape.EscapeStep.{EscapeStep}
use Rattle.bye_lex.specs.declared.escape.EscapeStep.TheVariants.{Within, Whole}
use Rattle.bye_lex.specs.declared.escape.Home.{Home}
use Rattle.bye_lex.specs.declared.escape.Home.TheVariants as homes
use Rattle.bye_lex.specs.declared.iri.IriAt.{IriAt}
use Rattle.bye_lex.specs.declared.iri.IriAt.TheVariants as iris
use Rattle.bye_lex.specs.declared.label.LabelAt.{LabelAt}
use Rattle.bye_lex.specs.declared.label.LabelAt.TheVariants as labels
use Rattle.bye_lex.specs.declared.name.NameAt.{NameAt}
use Rattle.bye_lex.specs.declared.name.NameAt.TheVariants as names
use Rattle.bye_lex.specs.declared.quoting.Quote.{Quote}
use Rattle.bye_lex.specs.declared.quoting.Quote.TheVariants.{Double, Single}
use Rattle.bye_lex.specs.declared.quoting.Quoting.{Quoting}
use Rattle.bye_lex.specs.declared.quoting.Quoting.TheVariants.{Short, Long}
use Rattle.bye_lex.specs.declared.string.StringAt.{StringAt}
use Rattle.bye_lex.specs.declared.string.StringAt.TheVariants as strings
use Rattle.bye_lex.specs.declared.style.Style.{Style}
use Rattle.bye_lex.specs.declared.style.Style.TheVariants.{Triples, Tsv, Query}
use Rattle.bye_lex.specs.declared.tag.TagAt.{TagAt}
use Rattle.bye_lex.specs.declared.tag.TagAt.TheVariants as tags
use Rattle.bye_lex.proofs.Branches.{mapped, none_some, one_way, pick_of, some_same, two_ways}

-- sizes
pub width_some : (c : ℕ) → 1 ≤ width c
width_some c = let l = length-encode c in let b = (len_utf8_bounds c).0 in omega (arith, l, b)

width_four : (c : ℕ) → width c ≤ 4
width_four c = let l = length-encode c in let b = (len_utf8_bounds c).1 in omega (arith, l, b)

width_one : (c : ℕ) → c < 128 → width c ≡ 1
width_one c h = ap length (encode_ascii c h)

pub size_joined : (s t : List ℕ) → size (s ++ t) ≡ size s + size t
size_joined s t = ap length (encodes-append s t) ∙ length-append (encode_utf8_all s) (encode_utf8_all t)

size_of : (c : ℕ) → size (c ∷ []) ≡ width c
size_of c = ap length (append-nil (encode_utf8 c))

pub size_more : (t : List ℕ) (c : ℕ) → size (t ++ c ∷ []) ≡ size t + width c
size_more t c = size_joined t (c ∷ []) ∙ ap (λ n. size t + n) (size_of c)

more_within : (t : List ℕ) (c base : ℕ) → size t ≤ base → size (t ++ c ∷ []) ≤ base + width c
more_within t c base h = let e = size_more t c in omega (arith, e, h)

new_within : (c : ℕ) → size (c ∷ []) ≤ 0 + width c
new_within c = let e = size_of c in omega (arith, e)

one_within : (n c : ℕ) → n + 1 ≤ n + width c
one_within n c = let w = width_some c in omega (arith, w)

-- escapes
begins_at : (c : ℕ) (e : EscapeAt) → escape.begin c ≡ Some e → escape_kept e ≤ 2
begins_at c e is = two_ways (λ (e : EscapeAt). escape_kept e ≤ 2) (c == 117) (c == 85) (record { left = 3; number = 0 }) (record { left = 7; number = 0 }) e (omega arith) (omega arith) is

abbrev StepKept : EscapeStep → ℕ → Type 0
StepKept (Within e) n = escape_kept e ≤ n
StepKept (Whole c) n = width c ≤ n

digit_kept : (home : Home) (left number : ℕ) (x : EscapeStep) → escape.after_digit home left number ≡ Some x → StepKept x (cond (nat_lt 3 left) (9 - left) (5 - left) + 1)
digit_kept home zero number x e = let w = width_four number in one_way (λ x. StepKept x 6) (escape.may_be home zero number) (Whole number) x (omega (arith, w)) e
digit_kept home (suc left) number x e =
    one_way (λ x. StepKept x (cond (nat_lt 3 (suc left)) (9 - suc left) (5 - suc left) + 1)) (escape.may_be home (suc left) number) (Within (record { left = left; number = number })) x (down left) e
  where
    down : (left : ℕ) → cond (nat_lt 3 left) (9 - left) (5 - left) ≤ cond (nat_lt 3 (suc left)) (9 - suc left) (5 - suc left) + 1
    down left = grind (arith, nat_tests)

escape_within : (home : Home) (e : EscapeAt) (c : ℕ) (x : EscapeStep) → escape.step home e c ≡ Some x → StepKept x (escape_kept e + 1)
escape_within home e c x is = go (nat_lt (digit_value c) 16) is
  where
    go : (b : Bool) → cond b (escape.after_digit home e.left (e.number * 16 + digit_value c)) None ≡ Some x → StepKept x (escape_kept e + 1)
    go true k = digit_kept home e.left (e.number * 16 + digit_value c) x k
    go false k = none_some k

-- IRIs
iri_escaped : (text : List ℕ) (x : EscapeStep) (n c : ℕ) → StepKept x (n + 1) → iri_kept (iri.after_escape text x) ≤ (size text + n) + width c
iri_escaped text (Within e) n c h = let w = width_some c in omega (arith, h, w)
iri_escaped text (Whole d) n c h = let w = width_some c in let s = size_more text d in omega (arith, h, w, s)

pub iri_within : (style : Style) (at after : IriAt) (c : ℕ) → iri.step style at c ≡ Some after → iri_kept after ≤ iri_kept at + width c
iri_within style iris.Start n c e = one_way (λ n. iri_kept n ≤ 0 + width c) (c == 60) iris.Opened n (omega arith) e
iri_within style iris.Opened n c e = one_way (λ n. iri_kept n ≤ 0 + width c) (is_letter c) (iris.Scheme (c ∷ [])) n (new_within c) e
iri_within style (iris.Scheme text) n c e =
    two_ways (λ n. iri_kept n ≤ size text + width c) (c == 58) (is_scheme_char c) (iris.Body (text ++ c ∷ [])) (iris.Scheme (text ++ c ∷ [])) n (more_within text c _ (omega arith)) (more_within text c _ (omega arith)) e
iri_within style (iris.Body text) n c e =
    pick_of {P = iri_kept n ≤ size text + width c} (c == 62) (iris.Done text) n _ e
    (λ b k. subst (λ n. iri_kept n ≤ size text + width c) (sym k) (omega arith))
    (λ k. two_ways (λ n. iri_kept n ≤ size text + width c) (c == 92 && has_numbers style) (is_iri_char c) (iris.Backslash text) (iris.Body (text ++ c ∷ [])) n (one_within (size text) c) (more_within text c _ (omega arith)) k)
iri_within style (iris.Backslash text) n c e =
    let m = mapped (λ e. iris.Escape e text) (escape.begin c) n e in
    let b = begins_at c m.0 m.1 in
    let w = width_some c in
    subst (λ n. iri_kept n ≤ (size text + 1) + width c) m.2 (omega (arith, b, w))
iri_within style (iris.Escape x text) n c e =
    let m = mapped (iri.after_escape text) (escape.step homes.Iri x c) n e in
    subst (λ n. iri_kept n ≤ (size text + escape_kept x) + width c) m.2 (iri_escaped text m.0 (escape_kept x) c (escape_within homes.Iri x c m.0 m.1))
iri_within style (iris.Done text) n c e = none_some e

-- labels
pub label_within : (at after : LabelAt) (c : ℕ) → label.step at c ≡ Some after → label_kept after ≤ label_kept at + width c
label_within labels.Start n c e = one_way (λ n. label_kept n ≤ 0 + width c) (c == 95) labels.Underscore n (omega arith) e
label_within labels.Underscore n c e = one_way (λ n. label_kept n ≤ 0 + width c) (c == 58) labels.Colon n (omega arith) e
label_within labels.Colon n c e = one_way (λ n. label_kept n ≤ 0 + width c) _ (labels.In (c ∷ [])) n (new_within c) e
label_within (labels.In t) n c e =
    let d = size_of 46 ∙ width_one 46 (omega arith) in
    let w = width_some c in
    two_ways (λ n. label_kept n ≤ size t + width c) (is_label_part c) (c == 46) (labels.In (t ++ c ∷ [])) (labels.Dotted t (46 ∷ [])) n (more_within t c _ (omega arith)) (omega (arith, d, w)) e
label_within (labels.Dotted t dots) n c e =
    let s = size_joined t dots in
    let d = size_more dots 46 in
    let o = width_one 46 (omega arith) in
    let w = width_some c in
    two_ways (λ n. label_kept n ≤ (size t + size dots) + width c) (is_label_part c) (c == 46) (labels.In ((t ++ dots) ++ c ∷ [])) (labels.Dotted t (dots ++ 46 ∷ [])) n (more_within (t ++ dots) c _ (omega (arith, s))) (omega (arith, d, o, w)) e

-- tags
pub tag_within : (at after : TagAt) (c : ℕ) → tag.step at c ≡ Some after → tag_kept after ≤ tag_kept at + width c
tag_within tags.Start n c e = one_way (λ n. tag_kept n ≤ 0 + width c) (c == 64) tags.Sign n (omega arith) e
tag_within tags.Sign n c e = one_way (λ n. tag_kept n ≤ 0 + width c) (is_letter c) (tags.Letters (c ∷ [])) n (new_within c) e
tag_within (tags.Letters t) n c e =
    two_ways (λ n. tag_kept n ≤ size t + width c) (is_letter c) (c == 45) (tags.Letters (t ++ c ∷ [])) (tags.Hyphen t) n (more_within t c _ (omega arith)) (one_within (size t) c) e
tag_within (tags.Hyphen t) n c e =
    let s = size_more t 45 in
    let o = width_one 45 (omega arith) in
    one_way (λ n. tag_kept n ≤ (size t + 1) + width c) (is_letter_or_digit c) (tags.Subtag ((t ++ 45 ∷ []) ++ c ∷ [])) n (more_within (t ++ 45 ∷ []) c _ (omega (arith, s, o))) e
tag_within (tags.Subtag t) n c e =
    two_ways (λ n. tag_kept n ≤ size t + width c) (is_letter_or_digit c) (c == 45) (tags.Subtag (t ++ c ∷ [])) (tags.Hyphen t) n (more_within t c _ (omega arith)) (one_within (size t) c) e

-- names
pub name_within : (at after : NameAt) (c : ℕ) → name.step at c ≡ Some after → name_kept after ≤ name_kept at + width c
name_within names.Start n c e = one_way (λ n. name_kept n ≤ 0 + width c) _ (names.In (c ∷ [])) n (new_within c) e
name_within (names.In t) n c e = one_way (λ n. name_kept n ≤ size t + width c) _ (names.In (t ++ c ∷ [])) n (more_within t c _ (omega arith)) e

-- strings
mark_one : (q : Quote) → width (mark_of q) ≡ 1
mark_one Double = width_one 34 (omega arith)
mark_one Single = width_one 39 (omega arith)

named_one : (c d : ℕ) → named c ≡ Some d → width d ≡ 1
named_one c d e = width_one d (low c d e)
  where
    low : (c d : ℕ) → named c ≡ Some d → d < 128
    low c d e = grind (arith, nat_tests)

opens : (style : Style) (q : Quote) (c : ℕ) → string_kept (string.opened style q) ≤ 0 + width c
opens Triples q c = omega arith
opens Tsv q c = omega arith
opens Query q c = omega arith

goes_inside : (style : Style) (k : Quoting) (text : List ℕ) (c : ℕ) (n : StringAt) (base : ℕ) → size text ≤ base → string.inside style k text c ≡ Some n → string_kept n ≤ base + width c
goes_inside style k text c n base h e =
    let w = width_some c in
    two_ways (λ n. string_kept n ≤ base + width c) (c == 92) (may_stand style k c) (strings.Backslash k text) (strings.In k (text ++ c ∷ [])) n (omega (arith, h, w)) (more_within text c base h) e

-- after a character that closes a string or may close it, or else within it
closes : (style : Style) (k : Quoting) (text : List ℕ) (c base : ℕ) (b : Bool) (x n : StringAt) → size text ≤ base → string_kept x ≤ base + width c → cond b (Some x) (string.inside style k text c) ≡ Some n → string_kept n ≤ base + width c
closes style k text c base b x n h close e = pick_of b x n _ e (λ b k. subst (λ n. string_kept n ≤ base + width c) (sym k) close) (λ e. goes_inside style k text c n base h e)

string_escaped : (k : Quoting) (text : List ℕ) (x : EscapeStep) (n c : ℕ) → StepKept x (n + 1) → string_kept (string.after_escape k text x) ≤ (size text + n) + width c
string_escaped k text (Within e) n c h = let w = width_some c in omega (arith, h, w)
string_escaped k text (Whole d) n c h = let w = width_some c in let s = size_more text d in omega (arith, h, w, s)

backslash_within : (style : Style) (k : Quoting) (text : List ℕ) (c : ℕ) (o : Option ℕ) (n : StringAt) → named c ≡ o → string.after_backslash style k text c o ≡ Some n → string_kept n ≤ (size text + 1) + width c
backslash_within style k text c None n i e = by (has_numbers style) e
  where
    by : (b : Bool) → cond b (option_map (λ e. strings.Escape k e text) (escape.begin c)) None ≡ Some n → string_kept n ≤ (size text + 1) + width c
    by true e =
        let m = mapped (λ e. strings.Escape k e text) (escape.begin c) n e in
        let b = begins_at c m.0 m.1 in
        let w = width_some c in
        subst (λ n. string_kept n ≤ (size text + 1) + width c) m.2 (omega (arith, b, w))
    by false e = none_some e
backslash_within style k text c (Some d) n i e =
    let w = width_some c in
    let o = named_one c d i in
    let s = size_more text d in
    subst (λ n. string_kept n ≤ (size text + 1) + width c) (some_same e) (omega (arith, w, o, s))

pub string_within : (style : Style) (at after : StringAt) (c : ℕ) → string.step style at c ≡ Some after → string_kept after ≤ string_kept at + width c
string_within style strings.Start n c e =
    two_ways (λ n. string_kept n ≤ 0 + width c) (c == 34) (c == 39 && has_quoting style (Short Single)) (string.opened style Double) (string.opened style Single) n (opens style Double c) (opens style Single c) e
string_within style (strings.Opened q) n c e = closes style (Short q) [] c 0 (c == mark_of q) (strings.Empty q) n (omega arith) (omega arith) e
string_within style (strings.Empty q) n c e = one_way (λ n. string_kept n ≤ 0 + width c) (c == mark_of q) (strings.In (Long q) []) n (omega arith) e
string_within style (strings.In (Short q) t) n c e = closes style (Short q) t c (size t) (c == mark_of q) (strings.Done t) n (omega arith) (omega arith) e
string_within style (strings.In (Long q) t) n c e = closes style (Long q) t c (size t) (c == mark_of q) (strings.OneQuote q t) n (omega arith) (one_within (size t) c) e
string_within style (strings.Backslash k t) n c e = backslash_within style k t c (named c) n refl e
string_within style (strings.Escape k x t) n c e =
    let m = mapped (string.after_escape k t) (escape.step homes.Text x c) n e in
    subst (λ n. string_kept n ≤ (size t + escape_kept x) + width c) m.2 (string_escaped k t m.0 (escape_kept x) c (escape_within homes.Text x c m.0 m.1))
string_within style (strings.OneQuote q t) n c e =
    let m = mark_one q in
    let s = size_more t (mark_of q) in
    let w = width_some c in
    closes style (Long q) (t ++ mark_of q ∷ []) c (size t + 1) (c == mark_of q) (strings.TwoQuotes q t) n (omega (arith, m, s)) (omega (arith, w)) e
string_within style (strings.TwoQuotes q t) n c e =
    let m = mark_one q in
    let s = size_joined t (mark_of q ∷ mark_of q ∷ []) in
    let d = size_more (mark_of q ∷ []) (mark_of q) in
    let o = size_of (mark_of q) in
    closes style (Long q) (t ++ mark_of q ∷ mark_of q ∷ []) c (size t + 2) (c == mark_of q) (strings.Done t) n (omega (arith, m, s, d, o)) (omega arith) e
string_within style (strings.Done t) n c e = none_some e
