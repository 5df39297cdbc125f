-- What is written of a learned query.
use Rattle.std.proofs.Common.{◌≡◌, refl, ℕ, List, sym, subst}
use Rattle.std.specs.List.{AllByRecursion}
use Rattle.std.specs.Str.{encode_utf8_all}
use Rattle.bye_terms.specs.Terms.{IsTriple, Statement}
use Rattle.bye_table.specs.Tables.{TableValue}
use Rattle.bye_pattern.specs.Certificates.{Claim}
use Rattle.bye_pattern.specs.Learning.{IsJustRefused, IsLearnedQuery}
use Rattle.bye_pattern.specs.Printed.{query_text}
use Rattle.bye_pattern.specs.Trees.{Select}
use Rattle.bye_grammar.specs.Documents.{QueryDoc}
use Rattle.bye_words.specs.Pairs.{Word}
use Rattle.bye_cli.specs.Documents.{Files, OfGraph, Triples, Good, HasVerdict}
use Rattle.bye_cli.specs.Problem.{IsClaimLine, IsQueryText, IsWritten}
use Rattle.bye_cli.specs.Statuses.{InUtf8}
use Rattle.bye_cli.specs.declared.ending.Ending.{Ending}
use Rattle.bye_cli.specs.declared.ending.Ending.TheVariants.{Refused}
use Rattle.bye_cli.proofs.Asked.{judged_triples}

-- the bytes are those of the text of a select, and read as it
pub query_written : (graph : List Statement) (wanted : TableValue) (query select : Select) (bytes : List ℕ) → IsLearnedQuery graph wanted query → select ≡ query
    → bytes ≡ encode_utf8_all (query_text select) → QueryDoc bytes select → InUtf8 (IsQueryText graph wanted) bytes
query_written graph wanted query select bytes learned same text read =
    let same_text : bytes ≡ encode_utf8_all (query_text query) = subst (λ (q : Select). bytes ≡ encode_utf8_all (query_text q)) same text in (
      query_text query,
      record {
        query = query;
        learned = learned;
        written = refl;
        read = subst (λ (b : List ℕ). QueryDoc b query) same_text (subst (λ (q : Select). QueryDoc bytes q) same read);
      },
      same_text,
    )

-- the line of the first claim
pub refusal_written : (graph : List Statement) (wanted : TableValue) (claim : Claim) (text : List ℕ) (ending : Ending) (bytes : List ℕ) → IsJustRefused graph wanted claim → IsClaimLine claim text
    → (ending ≡ Refused) × (bytes ≡ encode_utf8_all text) → IsWritten graph wanted ending bytes
refusal_written graph wanted claim text ending bytes refused line said =
    subst (λ (e : Ending). IsWritten graph wanted e bytes) (sym said.0) (text, record { claim = claim; refused = refused; written = line }, said.1)

-- a graph that a document says is of triples
pub held_triples : (files : Files) (name : Word) (graph : List Statement) → HasVerdict files (OfGraph, name) (Good (Triples graph)) → AllByRecursion IsTriple graph
held_triples files name graph held = judged_triples held.bytes graph held.judged
