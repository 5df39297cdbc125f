-- A document of tables has one meaning.
use Rattle.std.proofs.Common.{◌≡◌, ℕ, List, [], ◌∷◌, Some, sym, ◌∙◌, subst, append-nil}
use Rattle.std.specs.Str.{encode_utf8_all}
use Rattle.bye_lex.specs.Running.{run}
use Rattle.bye_lex.proofs.Branches.{some_same}
use Rattle.bye_lex.proofs.Machines.{bind_some}
use Rattle.bye_tsv.specs.Documents.{TsvDoc}
use Rattle.bye_tsv.specs.DocSteps.{DocAt, IsSound, start, step}
use Rattle.bye_tsv.specs.ReadingLaws.{DocumentsAreTables, OneTable}
use Rattle.bye_lex.proofs.Fronts.{none_empty}
use Rattle.bye_tsv.proofs.Passing.{doc_is_front, doc_runs}
use Rattle.bye_tsv.proofs.Refusals.{none_before}
use Rattle.bye_tsv.proofs.Sound.{sound_final, sound_start, sound_step}

pub one_table : OneTable
one_table bytes table other h k =
    let r = doc_runs h.text table h.lines in
    let whole = subst (λ b. TsvDoc b other) (h.encoded ∙ sym (append-nil (encode_utf8_all h.text))) k in
    some_same (sym r.2 ∙ (doc_is_front h.text [] r.0 h.scalars r.1 (none_before r.0 [] none_empty) other whole).1)

sound_run : (d n : DocAt) (text : List ℕ) → IsSound d → run step d text ≡ Some n → IsSound n
sound_run d n [] s e = subst IsSound (some_same e) s
sound_run d n (c ∷ text) s e = let m = bind_some (step d c) (λ n. run step n text) n e in sound_run m.0 n text (sound_step d m.0 c s m.1) m.2

pub documents_are_tables : DocumentsAreTables
documents_are_tables bytes table h = let r = doc_runs h.text table h.lines in sound_final r.0 table (sound_run start r.0 h.text sound_start r.1) r.2
