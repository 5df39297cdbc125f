-- What was read, and what is written of it.
use Rattle.std.proofs.Common.{◌≡◌, ℕ, List, Some, Result, Ok, Err, inl, inr, ap, subst}
use Rattle.std.specs.List.{AllByRecursion}
use Rattle.bye_terms.specs.Terms.{IsTriple, Statement}
use Rattle.bye_table.specs.Tables.{TableValue}
use Rattle.bye_words.specs.Pairs.{Word}
use Rattle.bye_cli.specs.Words.{Learn, Convert, ConvertTable, Run, IsSomeCommand}
use Rattle.bye_cli.specs.Problem.{IsAsked, IsWritten, IsOutput, IsWrittenOf}
use Rattle.bye_cli.specs.Documents.{Files, OfGraph, Triples, Good, Verdict, IsVerdict, graph_verdict}
use Rattle.bye_ntriples.specs.Answers.{NtAnswer}
use Rattle.bye_ntriples.specs.declared.fault.NtErr.{NtErr}
use Rattle.bye_ntriples.specs.declared.fault.NtErr.TheVariants as errors
use Rattle.bye_terms.proofs.Readings.{some_same}
use Rattle.bye_cli.specs.declared.ending.Ending.{Ending}
use Rattle.bye_cli.specs.declared.ending.Ending.TheVariants.{Done, Refused}
use Rattle.bye_cli.proofs.Graphs.{graph_triples}

-- the triples that a verdict says, where it says any
listed : Verdict → List Statement → List Statement
listed (Good (Triples triples)) other = triples
listed verdict other = other

-- a graph that was read is of triples
read_triples : (bytes : List ℕ) (triples : List Statement) (answer : Result (List Statement) NtErr) → NtAnswer bytes answer → graph_verdict answer ≡ Some (Good (Triples triples)) → AllByRecursion IsTriple triples
unfolding listed
read_triples bytes triples (Ok read) is e = let same = ap (λ v. listed v triples) (some_same e) in subst (AllByRecursion IsTriple) same (graph_triples is.doc.text read is.doc.lines)
read_triples bytes triples (Err (errors.Syntax place)) is e = cc
read_triples bytes triples (Err (errors.NotUtf8 place)) is e = cc
read_triples bytes triples (Err errors.TooMany) is e = cc
read_triples bytes triples (Err errors.Memory) is e = cc

pub judged_triples : (bytes : List ℕ) (triples : List Statement) → IsVerdict OfGraph bytes (Good (Triples triples)) → AllByRecursion IsTriple triples
judged_triples bytes triples (inl h) = let c = h.1 in cc
judged_triples bytes triples (inr h) = read_triples bytes triples h.1.0 h.1.1 h.1.2

pub is_read : (files : Files) (words : List Word) (graph : List Statement) (wanted : TableValue) → IsAsked files words graph wanted → AllByRecursion IsTriple graph
is_read files words graph wanted asked = judged_triples asked.given.graph_held.bytes graph asked.given.graph_held.judged

pub is_answer : (files : Files) (words : List Word) (graph : List Statement) (wanted : TableValue) (ending : Ending) (bytes : List ℕ)
    → IsAsked files words graph wanted → IsWritten graph wanted ending bytes → IsWrittenOf files words ending bytes
is_answer files words graph wanted Done bytes asked written = inl (written.0, record { graph = graph; wanted = wanted; asked = asked; query = written.1 }, written.2)
is_answer files words graph wanted Refused bytes asked written = (written.0, record { graph = graph; wanted = wanted; asked = asked; refusal = written.1 }, written.2)

-- what is to be written is asked by a command
pub answer_command : (files : Files) (words : List Word) (ending : Ending) (bytes : List ℕ) → IsWrittenOf files words ending bytes → IsSomeCommand words
answer_command files words Done bytes (inl h) = (Learn h.1.asked.given.graph_name h.1.asked.given.wanted_name h.1.asked.given.tables, h.1.asked.given.learn)
answer_command files words Done bytes (inr (inl h)) = (Convert h.asked.graph_name, h.asked.convert)
answer_command files words Done bytes (inr (inr (inl h))) = (ConvertTable h.asked.table_name h.asked.from h.to, h.asked.convert)
answer_command files words Done bytes (inr (inr (inr h))) = (Run h.asked.graph_name h.asked.query_name h.form, h.asked.run)
answer_command files words Refused bytes h = (Learn h.1.asked.given.graph_name h.1.asked.given.wanted_name h.1.asked.given.tables, h.1.asked.given.learn)

-- and is an output
pub is_output : (files : Files) (words : List Word) (ending : Ending) (bytes : List ℕ) → IsWrittenOf files words ending bytes → IsOutput files words bytes
is_output files words Done bytes h = inl h
is_output files words Refused bytes h = inr h
