-- Places of tokens rise.
use Rattle.std.proofs.Common.{◌≡◌, ℕ, ◌<◌, ◌≤◌, ◌-◌, ◌+◌, Bool, true, false, cond, nat_lt, ◌==◌, List, [], ◌∷◌, ◌++◌, Some, ⊎_elim, ap, ◌∙◌, arith, length, length-append}
use Rattle.std.specs.Str.{encode_utf8_all}
use Rattle.std.proofs.lemmas.Str.{length-le-encodes, encodes-append}
use Rattle.bye_lex.specs.Languages.{Token as Longest}
use Rattle.bye_tokens.specs.Classes.{is_space, is_line_end}
use Rattle.bye_tokens.specs.Kinds.{Lexeme}
use Rattle.bye_tokens.specs.Splitting.{skip, First, BadToken, Splits}
use Rattle.bye_tokens.specs.declared.token.Placed.{Placed}
use Rattle.bye_tokens.specs.declared.token.Token.{Token}
use Rattle.bye_tokens.proofs.IriFront.{iri_starts}
use Rattle.bye_tokens.proofs.OtherFronts.{string_starts, tag_starts, number_starts}
use Rattle.bye_tokens.proofs.PlainFront.{plain_starts}
use Rattle.bye_tokens.proofs.SignFront.{sign_starts}
use Rattle.bye_tokens.proofs.VariableFront.{variable_starts}
use Rattle.bye_descent.specs.Ending.{up_to}

-- how many bytes a text has
abbrev pub size : List ℕ → ℕ
size text = length (encode_utf8_all text)

size_join : (xs ys : List ℕ) → size (xs ++ ys) ≡ size xs + size ys
size_join xs ys = ap length (encodes-append xs ys) ∙ length-append (encode_utf8_all xs) (encode_utf8_all ys)

at_most : (b : Bool) (xs ys : List ℕ) (n : ℕ) → size xs ≤ n → size ys ≤ n → size (cond b xs ys) ≤ n
at_most true xs ys n h k = h
at_most false xs ys n h k = k

-- what is left after spaces and comments is no longer
skip_size : (comment : Bool) (text : List ℕ) → size (skip comment text) ≤ size text
skip_size true [] = omega arith
skip_size false [] = omega arith
skip_size true (c ∷ cs) =
    let join = size_join (c ∷ []) cs in
    let a = skip_size false cs in
    let b = skip_size true cs in
    at_most (is_line_end c) (skip false cs) (skip true cs) (size (c ∷ cs)) (omega (arith, a, join)) (omega (arith, b, join))
skip_size false (c ∷ cs) =
    let join = size_join (c ∷ []) cs in
    let a = skip_size true cs in
    let b = skip_size false cs in
    at_most (c == 35) (skip true cs) (cond (is_space c) (skip false cs) (c ∷ cs)) (size (c ∷ cs)) (omega (arith, a, join))
    (at_most (is_space c) (skip false cs) (c ∷ cs) (size (c ∷ cs)) (omega (arith, b, join)) (omega arith))

-- a token is some text
no_token : (token : Token) → Lexeme [] token → ⊥
no_token t =
    ⊎_elim (string_starts.some t) (⊎_elim (iri_starts.some t) (⊎_elim (tag_starts.some t) (⊎_elim (variable_starts.some t) (⊎_elim (number_starts.some t) (⊎_elim (plain_starts.some t) (sign_starts.some t))))))

first_size : (text own rest : List ℕ) (token : Token) → First text own rest token → size rest < size text
first_size text [] rest token f = absurd (⊎_elim (λ (l : Longest Lexeme [] rest token). no_token token l.is) (λ (b : BadToken text [] token). let e : [] ≡ b.char ∷ [] = b.one in cc) f.is)
first_size text (c ∷ own) rest token f = omega (arith, ap size f.parts, size_join (c ∷ own) rest, length-le-encodes (c ∷ own))

-- the tokens of what is left stand after what came before it
later : (total : ℕ) (front ws : List Placed) (w : Placed) (text : List ℕ) → Splits total text (front ++ w ∷ ws) → total - size text ≤ w.place
later total [] ws w text s = omega (arith, s.3, skip_size false text)
later total (p ∷ front) ws w text s = omega (arith, later total front ws w s.1 s.4, first_size (skip false text) s.0 s.1 p.token s.2, skip_size false text)

not_before : (n : ℕ) → nat_lt n n ≡ false
not_before n = grind arith

below : (m n : ℕ) → m < n → nat_lt m n ≡ true
below m n less = grind arith

-- the tokens before one of them are those that stand before its place
pub front_is : (total : ℕ) (front ws : List Placed) (w : Placed) (text : List ℕ) → size text ≤ total → Splits total text (front ++ w ∷ ws) → up_to (Some w.place) (front ++ w ∷ ws) ≡ front
front_is total [] ws w text few s = ap (λ b. cond b (w ∷ up_to (Some w.place) ws) []) (not_before w.place)
front_is total (p ∷ front) ws w text few s =
    let skipped = skip_size false text in
    let less = first_size (skip false text) s.0 s.1 p.token s.2 in
    let rises : p.place < w.place = omega (arith, s.3, skipped, less, few, later total front ws w s.1 s.4) in
    ap (λ b. cond b (p ∷ up_to (Some w.place) (front ++ w ∷ ws)) []) (below p.place w.place rises)
    ∙ ap (λ ts. p ∷ ts) (front_is total front ws w s.1 (omega (arith, skipped, less, few)) s.4)
