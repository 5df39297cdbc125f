-- Reading a line at once comes to the same as reading it a character at a time.
use Rattle.std.proofs.Common.{◌≡◌, ℕ, ◌+◌, ◌<◌, ◌≤◌, false, cond, nat_lt, List, [], ◌∷◌, ◌++◌, Some, option_map, length, sym, ◌∙◌, ap, subst, arith}
use Rattle.std.proofs.lemmas.Bool.Decides.{nat_tests}
use Rattle.std.proofs.lemmas.List.{append-nil, length-append}
use Rattle.std.specs.Char.{encode_utf8}
use Rattle.std.specs.Str.{encode_utf8_all}
use Rattle.std.proofs.lemmas.Str.{encodes-append, length-encode, len_utf8_bounds}
use Rattle.bye_terms.specs.Terms.{Statement}
use Rattle.bye_lex.proofs.Branches.{when, unless, some_same}
use Rattle.bye_ntriples.specs.Answers.{triple_limit}
use Rattle.bye_ntriples.specs.DocSteps.{DocAt, Many, line_moved, line_ended, step, held, is_over, onward, walk}
use Rattle.bye_ntriples.specs.LineSteps as line
use Rattle.bye_ntriples.specs.Lines.{Line}
use Rattle.bye_ntriples.specs.PlainLines.{plain_line}
use Rattle.bye_lex.specs.Running.{run}
use Rattle.bye_ntriples.specs.declared.line.LineAt.{LineAt}
use Rattle.bye_ntriples.specs.declared.line.LineAt.TheVariants.{Begin}
use Rattle.bye_ntriples.proofs.Completing.{held_one}
use Rattle.bye_ntriples.proofs.DocExact.{no_end, of_line}
use Rattle.bye_ntriples.proofs.LineEnds.{line_ends}
use Rattle.bye_ntriples.proofs.LineExact.{line_machine}
use Rattle.bye_ntriples.proofs.LineMeaning.{Good, LeftLine}
use Rattle.bye_ntriples.proofs.PlainLines.{plain_line_is}
use Rattle.bye_lex.proofs.Machines.{bind_some, run_gives}

not_over : (n : ℕ) → n ≤ triple_limit → nat_lt triple_limit n ≡ false
not_over n h = grind (arith, nat_tests)

moves : (d n : DocAt) (c : ℕ) (more : List ℕ) → step d c ≡ Some n → is_over n ≡ false → walk d (c ∷ more) ≡ walk n more
moves d n c more e f = ap (onward d (c ∷ more) (λ n. walk n more)) e ∙ ap (λ b. cond b Many (walk n more)) f

-- along a line
along : (done : List Statement) (s n : LineAt) (own more : List ℕ) → length done < triple_limit → Good s → run line.step s own ≡ Some n
    → walk (line_moved done s) (own ++ more) ≡ walk (line_moved done n) more
along done s n [] more few g e = ap (λ s. walk (line_moved done s) more) (some_same e)
along done s n (c ∷ own) more few g e =
    let m = bind_some (line.step s c) (λ n. run line.step n own) n e in
    let to : step (line_moved done s) c ≡ Some (line_moved done m.0) = unless _ _ _ _ (no_end s m.0 c g m.1) (ap (option_map (line_moved done)) m.1) in
    let one = held_one m.0 in
    let within : length done + held m.0 ≤ triple_limit = omega (arith, few, one) in
    moves (line_moved done s) (line_moved done m.0) c (own ++ more) to (not_over (length done + held m.0) within)
    ∙ along done m.0 n own more few (line_machine.stays s m.0 c g m.1) m.2

-- and past its end
past : (done : List Statement) (text : List ℕ) (r : Statement × List ℕ) → length done < triple_limit → plain_line text ≡ Some r
    → walk (line_moved done Begin) text ≡ walk (line_moved (done ++ r.0 ∷ []) Begin) r.1
past done text r few e =
    let k = plain_line_is text r e in
    let n = run_gives LeftLine line.step Good line_machine Begin k.own [] (Some r.0) tt (of_line (k.own ++ []) (Some r.0) (subst (λ own. Line own (Some r.0)) (sym (append-nil k.own)) k.is)) in
    let to : step (line_moved done n.0) k.end ≡ Some (line_ended done (Some r.0)) = when _ _ _ k.ends ∙ ap (option_map (line_ended done)) (line_ends n.0 (Some r.0) n.2) in
    let count : length (done ++ r.0 ∷ []) ≡ length done + 1 = length-append done (r.0 ∷ []) in
    let within : length (done ++ r.0 ∷ []) + 0 ≤ triple_limit = omega (arith, few, count) in
    ap (walk (line_moved done Begin)) k.parts
    ∙ along done Begin n.0 k.own (k.end ∷ r.1) few tt n.1
    ∙ moves (line_moved done n.0) (line_ended done (Some r.0)) k.end r.1 to (not_over (length (done ++ r.0 ∷ []) + 0) within)

pub taken : (done now : List Statement) (at : LineAt) (text rest : List ℕ) (t : Statement) → at ≡ Begin → length done < triple_limit → plain_line text ≡ Some (t, rest) → now ≡ done ++ t ∷ []
    → walk (line_moved done at) text ≡ walk (line_moved now at) rest
taken done now at text rest t begin few e f =
    ap (λ at. walk (line_moved done at) text) begin
    ∙ past done text (t, rest) few e
    ∙ ap (λ now. walk (line_moved now Begin) rest) (sym f)
    ∙ ap (λ at. walk (line_moved now at) rest) (sym begin)

pub shorter : (text : List ℕ) (r : Statement × List ℕ) → plain_line text ≡ Some r → 1 + length (encode_utf8_all r.1) ≤ length (encode_utf8_all text)
shorter text r e =
    let k = plain_line_is text r e in
    let whole : length (encode_utf8_all text) ≡ length (encode_utf8_all k.own ++ encode_utf8_all (k.end ∷ r.1)) = ap (λ t. length (encode_utf8_all t)) k.parts ∙ ap length (encodes-append k.own (k.end ∷ r.1)) in
    omega (
      arith,
      whole,
      length-append (encode_utf8_all k.own) (encode_utf8_all (k.end ∷ r.1)),
      length-append (encode_utf8 k.end) (encode_utf8_all r.1),
      length-encode k.end,
      (len_utf8_bounds k.end).0,
    )

pub one_less : (text rest : List ℕ) (c : ℕ) → text ≡ c ∷ rest → length (encode_utf8_all rest) < length (encode_utf8_all text)
one_less text rest c e =
    let whole : length (encode_utf8_all text) ≡ length (encode_utf8_all (c ∷ rest)) = ap (λ t. length (encode_utf8_all t)) e in
    omega (arith, whole, length-append (encode_utf8 c) (encode_utf8_all rest), length-encode c, (len_utf8_bounds c).0)
