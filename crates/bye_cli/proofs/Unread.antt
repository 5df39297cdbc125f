-- Why a document is not read, and what it then is for the command.
use Rattle.std.proofs.Common.{◌≡◌, refl, ℕ, zero, suc, ◌<◌, ◌≤◌, List, [], ◌∷◌, length, Option, Some, None, inl, inr, ◌⊎◌, ⊎_elim, sym, subst, arith, IsSomeAnd}
use Rattle.bye_io.specs.Counts.{Rose}
use Rattle.bye_io.specs.Files.{Lacks}
use Rattle.bye_io.specs.declared.fault.ReadErr.{ReadErr}
use Rattle.bye_io.specs.declared.fault.ReadErr.TheVariants as errors
use Rattle.bye_words.specs.Pairs.{Word}
use Rattle.bye_cli.specs.Words.{Command, IsCommand}
use Rattle.bye_cli.specs.Documents.{Files, Holds, HoldsLonger, Document, Kind, due, limit_of, role_of, Verdict, TooMany, Faulty, Good, IsRead, HasVerdict, Reaches, Stops}
use Rattle.bye_cli.specs.Causes.{IsUnfit, IsUnread, IsCause}
use Rattle.bye_cli.specs.Refusals.{refusal_of, verdict_refusal}
use Rattle.bye_words.specs.declared.role.Role.{Role}
use Rattle.bye_words.specs.declared.count.Count.TheVariants as counts
use Rattle.bye_words.specs.declared.refusal.Refusal.{Refusal}
use Rattle.bye_words.specs.declared.refusal.Refusal.TheVariants as refusals

-- bytes that are more than so many
longer : (n : ℕ) → (bytes : List ℕ) × (n < length bytes)
longer zero = (0 ∷ [], omega arith)
longer (suc n) = let w = longer n in let l : n < length w.0 = w.1 in (0 ∷ w.0, omega arith)

long_verdict : (files : Files) (kind : Kind) (name : Word) → HoldsLonger files name (limit_of kind) → HasVerdict files (kind, name) (TooMany counts.Bytes)
long_verdict None kind name h = let w = longer (limit_of kind) in record { bytes = w.0; held = tt; judged = inl (w.1, refl) }
long_verdict (Some files) kind name h = told (files name) refl h
  where
    told : (o : Option (List ℕ)) → files name ≡ o → IsSomeAnd o (λ bytes. limit_of kind < length bytes) → HasVerdict (Some files) (kind, name) (TooMany counts.Bytes)
    told None e h = absurd h
    told (Some bytes) e h = record { bytes = bytes; held = e; judged = inl (h, refl) }

-- a document whose bytes were not read
pub unread : (files : Files) (kind : Kind) (name : Word) (before now : ℕ) (err : ReadErr) (refusal : Refusal) → refusal ≡ refusal_of (role_of kind) err
    → (err ≡ errors.TooLong → HoldsLonger files name (limit_of kind)) → (err ≡ errors.Failed → Rose before now ⊎ Lacks files name) → IsUnread files (kind, name) before now refusal
unread files kind name before now errors.TooLong refusal e long failed = subst (IsUnread files (kind, name) before now) (sym e) (refl, long_verdict files kind name (long refl))
unread files kind name before now errors.Failed refusal e long failed = subst (IsUnread files (kind, name) before now) (sym e) (refl, failed refl)
unread files kind name before now errors.Memory refusal e long failed = subst (IsUnread files (kind, name) before now) (sym e) tt

-- a document whose bytes were read, and are no such document
pub unfit : (files : Files) (kind : Kind) (name : Word) (before now : ℕ) (bytes : List ℕ) (refusal : Refusal)
    → Holds files name bytes → IsUnfit kind bytes refusal → IsUnread files (kind, name) before now refusal
unfit files kind name before now bytes (refusals.Document said fault) held h = (h.0, record { bytes = bytes; held = held; judged = h.1 })
unfit files kind name before now bytes (refusals.Limit said count) held h = (h.0, record { bytes = bytes; held = held; judged = h.1 })
unfit files kind name before now bytes refusals.Memory held h = tt
unfit files kind name before now bytes refusals.Words held h = absurd h
unfit files kind name before now bytes refusals.Answers held h = absurd h
unfit files kind name before now bytes (refusals.ReadFault said) held h = absurd h
unfit files kind name before now bytes refusals.WriteFault held h = absurd h
unfit files kind name before now bytes refusals.LinkFault held h = absurd h
unfit files kind name before now bytes (refusals.Example example) held h = absurd h
unfit files kind name before now bytes (refusals.Remote remote) held h = absurd h

-- bytes within the limit that have a verdict which says no value, or for which memory was refused
pub unfit_verdict : (kind : Kind) (bytes : List ℕ) (verdict : Option Verdict) (refusal : Refusal) → refusal ≡ verdict_refusal (role_of kind) verdict → length bytes ≤ limit_of kind
    → ((v : Verdict) → verdict ≡ Some v → IsRead kind bytes v) → IsUnfit kind bytes refusal
unfit_verdict kind bytes (Some (TooMany count)) refusal e within read = subst (IsUnfit kind bytes) (sym e) (refl, inr (within, read (TooMany count) refl))
unfit_verdict kind bytes (Some (Faulty fault)) refusal e within read = subst (IsUnfit kind bytes) (sym e) (refl, inr (within, read (Faulty fault) refl))
unfit_verdict kind bytes (Some (Good value)) refusal e within read = subst (IsUnfit kind bytes) (sym e) tt
unfit_verdict kind bytes None refusal e within read = subst (IsUnfit kind bytes) (sym e) tt

rose_later : (before mid now : ℕ) → before ≤ mid → Rose mid now → Rose before now
rose_later before mid now l rose = omega arith

stops_at : (files : Files) (ds : List Document) (d : Document) (role : Role) (verdict : Verdict) → role_of d.0 ≡ role → Reaches files ds d → HasVerdict files d verdict → Stops files ds role verdict
stops_at files ds d role verdict e reached has = record { document = d; in_role = e; reached = reached; has = has }

-- where a document that is reached is not read, there is no answer
pub reached_unread : (files : Files) (words : List Word) (command : Command) (d : Document) (before mid now : ℕ) (refusal : Refusal) → IsCommand words command
    → Reaches files (due command) d → before ≤ mid → IsUnread files d mid now refusal → IsCause files words before now refusal
reached_unread files words command d before mid now refusals.Words is reached later h = absurd h
reached_unread files words command d before mid now (refusals.Document role fault) is reached later h = (command, is, stops_at files (due command) d role (Faulty fault) h.0 reached h.1)
reached_unread files words command d before mid now (refusals.Limit role count) is reached later h = (command, is, stops_at files (due command) d role (TooMany count) h.0 reached h.1)
reached_unread files words command d before mid now (refusals.ReadFault role) is reached later h =
    record { command = command; is = is; document = d; in_role = h.0; reached = reached; cause = ⊎_elim (λ rose. inl (rose_later before mid now later rose)) (λ lacks. inr lacks) h.1 }
reached_unread files words command d before mid now refusals.WriteFault is reached later h = absurd h
reached_unread files words command d before mid now refusals.Memory is reached later h = (command, is)
reached_unread files words command d before mid now refusals.Answers is reached later h = absurd h
reached_unread files words command d before mid now refusals.LinkFault is reached later h = absurd h
reached_unread files words command d before mid now (refusals.Example example) is reached later h = absurd h
reached_unread files words command d before mid now (refusals.Remote remote) is reached later h = absurd h
