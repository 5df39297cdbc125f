-- The refusals of documents that were not read.
use Rattle.std.specs.Prelude.{Option, Some, None}
use Rattle.bye_io.specs.declared.fault.ReadErr.{ReadErr}
use Rattle.bye_io.specs.declared.fault.ReadErr.TheVariants as errors
use Rattle.bye_words.specs.declared.role.Role.{Role}
use Rattle.bye_words.specs.declared.count.Count.TheVariants as counts
use Rattle.bye_words.specs.declared.refusal.Refusal.{Refusal}
use Rattle.bye_words.specs.declared.refusal.Refusal.TheVariants as refusals
use Rattle.bye_cli.specs.Documents.{Verdict, TooMany, Faulty, Good}

-- of a document whose bytes were not read
abbrev pub refusal_of : Role → ReadErr → Refusal
refusal_of role errors.TooLong = refusals.Limit role counts.Bytes
refusal_of role errors.Failed = refusals.ReadFault role
refusal_of role errors.Memory = refusals.Memory

-- of a document with this verdict, which says no value; without a verdict memory was refused
abbrev pub verdict_refusal : Role → Option Verdict → Refusal
verdict_refusal role (Some (TooMany count)) = refusals.Limit role count
verdict_refusal role (Some (Faulty fault)) = refusals.Document role fault
verdict_refusal role (Some (Good value)) = refusals.Memory
verdict_refusal role None = refusals.Memory
