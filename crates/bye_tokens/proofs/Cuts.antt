-- A text that is cut in two, and the places of its parts in bytes.
use Rattle.std.proofs.Common.{◌≡◌, ℕ, ◌-◌, ◌≤◌, List, ◌++◌, length, take, sym, ◌∙◌, ap, subst, arith, length-append}
use Rattle.std.specs.Str.{chars, encode_utf8_all, all_scalars, IsUtf8, IsCharBoundary}
use Rattle.std.proofs.lemmas.Str.{encodes-append, encodes-chars, chars-encodes, scalars-chars, IsCharBoundary-at_seam}
use Rattle.std.proofs.Math.Seq.{take-append_seam}
use Rattle.bye_lex.proofs.Fronts.{front_scalars}
use Rattle.bye_tokens.specs.Ends.{EndsIn}
use Rattle.bye_tokens.specs.Reading.{before}

-- what stands before the rest, where the text is the front and the rest
pub before_is : (text front rest : List ℕ) → text ≡ front ++ rest → before text rest ≡ front
before_is text front rest e =
    let n : length text - length rest ≡ length front = omega (arith, ap length e, length-append front rest) in
    ap (λ n. take n text) n ∙ ap (λ t. take (length front) t) e ∙ take-append_seam front rest

-- the same in bytes
pub record ByteCut (bytes rest : List ℕ) : Type 0 where
  pub within : length rest ≤ length bytes
  pub border : IsCharBoundary bytes (length bytes - length rest)
  pub value : chars (take (length bytes - length rest) bytes) ≡ before (chars bytes) (chars rest)

pub byte_cut : (bytes rest : List ℕ) → IsUtf8 bytes → IsUtf8 rest → EndsIn (chars bytes) (chars rest) → ByteCut bytes rest
byte_cut bytes rest u v h =
    let parts : bytes ≡ encode_utf8_all h.front ++ rest =
    sym (encodes-chars bytes u) ∙ ap encode_utf8_all h.parts ∙ encodes-append h.front (chars rest) ∙ ap (λ r. encode_utf8_all h.front ++ r) (encodes-chars rest v) in
    let long = ap length parts ∙ length-append (encode_utf8_all h.front) rest in
    let n : length bytes - length rest ≡ length (encode_utf8_all h.front) = omega (arith, long) in
    let scalars = front_scalars h.front (chars rest) (ap all_scalars (sym h.parts) ∙ scalars-chars bytes u) in
    record {
      within = omega (arith, long);
      border = subst (IsCharBoundary bytes) (sym n) (IsCharBoundary-at_seam bytes (encode_utf8_all h.front) rest parts v);
      value =
          ap (λ n. chars (take n bytes)) n ∙ ap (λ b. chars (take (length (encode_utf8_all h.front)) b)) parts ∙ ap chars (take-append_seam (encode_utf8_all h.front) rest)
          ∙ chars-encodes h.front scalars ∙ sym (before_is (chars bytes) h.front (chars rest) h.parts);
    }
