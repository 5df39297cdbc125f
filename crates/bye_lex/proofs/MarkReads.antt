-- What the machines of labels, tags and names find is what reading one may answer.
use Rattle.std.proofs.Common.{◌≡◌, refl, ℕ, ◌+◌, List, None, Result, length}
use Rattle.std.specs.Str.{encode_utf8_all}
use Rattle.bye_lex.specs.Answers.{Reads}
use Rattle.bye_lex.specs.LabelSteps as label
use Rattle.bye_lex.specs.Marks.{LabelToken, TagToken, NameToken}
use Rattle.bye_lex.specs.NameSteps as name
use Rattle.bye_lex.specs.Scanning.{scan, Gives}
use Rattle.bye_lex.specs.TagSteps as tag
use Rattle.bye_lex.specs.declared.fault.LexErr.{LexErr}
use Rattle.bye_lex.specs.declared.label.LabelAt.TheVariants as labels
use Rattle.bye_lex.specs.declared.name.NameAt.TheVariants as names
use Rattle.bye_lex.specs.declared.tag.TagAt.TheVariants as tags
use Rattle.bye_lex.proofs.Answering.{answers}
use Rattle.bye_lex.proofs.LabelExact as label_exactly
use Rattle.bye_lex.proofs.NameExact as name_exactly
use Rattle.bye_lex.proofs.TagExact as tag_exactly

pub label_reads : (total from : ℕ) (text : List ℕ) (r : Result (List ℕ × ℕ) LexErr) → from + length (encode_utf8_all text) ≡ total
    → Gives r (scan label.step label.final total labels.Start None text) → Reads LabelToken text from r
label_reads total from text r long g = answers label_exactly.Left label.step label.final label_exactly.label_exact labels.Start total from text r refl (label_exactly.can labels.Start) long g

pub tag_reads : (total from : ℕ) (text : List ℕ) (r : Result (List ℕ × ℕ) LexErr) → from + length (encode_utf8_all text) ≡ total
    → Gives r (scan tag.step tag.final total tags.Start None text) → Reads TagToken text from r
tag_reads total from text r long g = answers tag_exactly.Left tag.step tag.final tag_exactly.tag_exact tags.Start total from text r refl (tag_exactly.can tags.Start) long g

pub name_reads : (total from : ℕ) (text : List ℕ) (r : Result (List ℕ × ℕ) LexErr) → from + length (encode_utf8_all text) ≡ total
    → Gives r (scan name.step name.final total names.Start None text) → Reads NameToken text from r
name_reads total from text r long g = answers name_exactly.Left name.step name.final name_exactly.name_exact names.Start total from text r refl (name_exactly.can names.Start) long g
