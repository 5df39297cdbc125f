-- What goes to `err`: the line of a refusal, as its bytes.
use Rattle.std.specs.Prelude.{ℕ, List, [], ◌∷◌, ◌++◌, codes}
use Rattle.std.specs.Fmt.{decimal}
use Rattle.std.specs.List.{flat_map}
use Rattle.std.specs.Str.{encode_utf8_all}
use Rattle.bye_words.specs.declared.role.Role.{Role}
use Rattle.bye_words.specs.declared.role.Role.TheVariants as roles
use Rattle.bye_words.specs.declared.rule.Rule.{Rule}
use Rattle.bye_words.specs.declared.rule.Rule.TheVariants as rules
use Rattle.bye_words.specs.declared.count.Count.{Count}
use Rattle.bye_words.specs.declared.count.Count.TheVariants as counts
use Rattle.bye_words.specs.declared.fault.Fault.{Fault}
use Rattle.bye_words.specs.declared.fault.Fault.TheVariants as faults
use Rattle.bye_words.specs.declared.example.Example.{Example}
use Rattle.bye_words.specs.declared.example.Example.TheVariants as examples
use Rattle.bye_words.specs.declared.reply_fault.ReplyFault.{ReplyFault}
use Rattle.bye_words.specs.declared.reply_fault.ReplyFault.TheVariants as replies
use Rattle.bye_words.specs.declared.remote.Remote.{Remote}
use Rattle.bye_words.specs.declared.remote.Remote.TheVariants as remotes
use Rattle.bye_words.specs.declared.refusal.Refusal.{Refusal}
use Rattle.bye_words.specs.declared.refusal.Refusal.TheVariants as refusals

-- the name of the document in a line
abbrev pub role_text : Role → List ℕ
role_text roles.Graph = codes "graph: "
role_text roles.Wanted = codes "wanted: "
role_text roles.Unwanted = codes "unwanted: "
role_text roles.Query = codes "query: "
role_text roles.Certificate = codes "certificate: "
role_text roles.Table = codes "table: "

-- what there is too many of
abbrev pub count_text : Count → List ℕ
count_text counts.Bytes = codes "too many bytes"
count_text counts.Triples = codes "too many triples"
count_text counts.Variables = codes "too many variables"
count_text counts.Rows = codes "too many rows"
count_text counts.Brackets = codes "too many brackets"

-- the rule that a node of a query breaks
abbrev pub rule_text : Rule → List ℕ
rule_text rules.NoTriples = codes "no triples"
rule_text rules.NoNewVariable = codes "no new variable"
rule_text rules.NotWellDesigned = codes "not well-designed"
rule_text rules.UnsafeCondition = codes "unsafe condition"

-- the numbers on the way to a node, joined by dots
abbrev pub node_text : List ℕ → List ℕ
node_text [] = codes "root"
node_text (number ∷ numbers) = decimal number ++ flat_map (λ n. codes "." ++ decimal n) numbers

-- what is wrong with a document, with places and numbers in decimal digits
abbrev pub fault_text : Fault → List ℕ
fault_text (faults.Syntax place) = codes "fault at byte " ++ decimal place
fault_text (faults.Header place) = codes "fault at byte " ++ decimal place
fault_text (faults.Term place) = codes "fault at byte " ++ decimal place
fault_text (faults.NotUtf8 place) = codes "not UTF-8 at byte " ++ decimal place
fault_text (faults.Fields line) = codes "wrong number of fields in line " ++ decimal line
fault_text faults.NotJson = codes "not JSON"
fault_text faults.NotBindings = codes "no bindings"
fault_text (faults.BadVariable number) = codes "bad variable " ++ decimal number
fault_text (faults.Unlisted row) = codes "unlisted variable in row " ++ decimal row
fault_text (faults.BadTerm row variable) = codes "bad term in row " ++ (decimal row ++ (codes ", variable " ++ decimal variable))
fault_text (faults.LeftOut place word) = codes "left out at byte " ++ (decimal place ++ (codes ": " ++ encode_utf8_all word))
fault_text (faults.UnknownPrefix place) = codes "unknown prefix at byte " ++ decimal place
fault_text (faults.Broken rule path) = rule_text rule ++ (codes " at node " ++ node_text path.items)
fault_text faults.Projected = codes "variables left out without DISTINCT"
fault_text faults.Version = codes "unknown version"
fault_text (faults.Line line) = codes "fault in line " ++ decimal line

-- what is wrong with the examples
abbrev pub example_text : Example → List ℕ
example_text examples.NoWanted = codes "no wanted row"
example_text examples.UnwantedWithOptional = codes "unwanted rows do not go with class optional"

-- why a reply is no message
abbrev pub reply_text : ReplyFault → List ℕ
reply_text replies.Malformed = codes "malformed"
reply_text replies.HeadTooLong = codes "head too long"
reply_text replies.BodyTooLong = codes "body too long"
reply_text replies.BadLength = codes "bad length"
reply_text replies.Cut = codes "cut"

-- why the reply of a peer is no answer
abbrev pub remote_text : Remote → List ℕ
remote_text (remotes.Status status) = codes "remote: " ++ (codes "status " ++ decimal status)
remote_text remotes.Media = codes "remote: media type"
remote_text (remotes.Results fault) = codes "remote: results: " ++ fault_text fault
remote_text (remotes.Limit count) = codes "remote: results: " ++ count_text count
remote_text (remotes.Reply fault) = codes "remote: reply: " ++ reply_text fault

-- the text of a refusal
abbrev pub refusal_text : Refusal → List ℕ
refusal_text refusals.Words = codes "words"
refusal_text (refusals.Document role fault) = role_text role ++ fault_text fault
refusal_text (refusals.Limit role count) = role_text role ++ count_text count
refusal_text refusals.Answers = codes "answer: too many rows"
refusal_text (refusals.ReadFault role) = role_text role ++ codes "read failed"
refusal_text refusals.WriteFault = codes "write failed"
refusal_text refusals.Memory = codes "no memory"
refusal_text refusals.LinkFault = codes "link failed"
refusal_text (refusals.Example example) = example_text example
refusal_text (refusals.Remote remote) = remote_text remote

-- the line of a refusal
abbrev pub err_line : Refusal → List ℕ
err_line refusal = codes "sparqlbye: " ++ (refusal_text refusal ++ codes "\n")
