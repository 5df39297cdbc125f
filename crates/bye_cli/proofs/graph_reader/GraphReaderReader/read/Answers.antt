use Rattle.std.proofs.Common.{refl, inr, Ok, Err}
use Rattle.bye_cli.specs.Documents.{OfGraph, graph_verdict}
use Rattle.bye_cli.proofs.Unread.{unfit_verdict}
use Rattle.bye_cli.proofs.graph_reader.GraphReaderReader.read.Goals as goal

pub returns-in-Ok-clause-good : goal.returns-in-Ok-clause-good
returns-in-Ok-clause-good c = inr (c.requires, (Ok c.in-Ok.triples.items, c.in-Ok.ensures.read, refl))

pub returns-in-Err-clause-unfit : goal.returns-in-Err-clause-unfit
returns-in-Err-clause-unfit c = unfit_verdict OfGraph c.args.bytes.now (graph_verdict (Err c.in-Err.err)) c.no_graph.result c.no_graph.ensures c.requires (λ v e. (Err c.in-Err.err, c.in-Err.ensures.fault, e))
