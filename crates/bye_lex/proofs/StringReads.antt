-- What the machine of strings finds is what reading a string may answer.
use Rattle.std.proofs.Common.{◌≡◌, refl, ℕ, ◌+◌, List, None, Result, length}
use Rattle.std.specs.Str.{encode_utf8_all}
use Rattle.bye_lex.specs.Strings.{StringToken}
use Rattle.bye_lex.specs.StringSteps.{step, final}
use Rattle.bye_lex.specs.Scanning.{scan, Gives}
use Rattle.bye_lex.specs.Answers.{Reads}
use Rattle.bye_lex.specs.declared.style.Style.{Style}
use Rattle.bye_lex.specs.declared.string.StringAt.TheVariants.{Start}
use Rattle.bye_lex.specs.declared.fault.LexErr.{LexErr}
use Rattle.bye_lex.proofs.StringMeaning.{Left}
use Rattle.bye_lex.proofs.StringExact.{string_exact, can_start}
use Rattle.bye_lex.proofs.Answering.{answers}

pub string_reads : (style : Style) (total from : ℕ) (text : List ℕ) (r : Result (List ℕ × ℕ) LexErr) → from + length (encode_utf8_all text) ≡ total
    → Gives r (scan (step style) final total Start None text) → Reads (StringToken style) text from r
string_reads style total from text r long g = answers (Left style) (step style) final (string_exact style) Start total from text r refl (can_start style) long g
