-- An IRI within a longer text is whole at its closing bracket, and not before.
use Rattle.std.proofs.Common.{◌≡◌, List, ℕ, [], Some, sym, ◌∙◌}
use Rattle.bye_lex.specs.IriSteps.{step, final}
use Rattle.bye_lex.specs.declared.iri.IriAt.{IriAt}
use Rattle.bye_lex.specs.declared.iri.IriAt.TheVariants.{Start, Opened, Scheme, Body, Backslash, Escape, Done}
use Rattle.bye_lex.specs.declared.style.Style.{Style}
use Rattle.bye_lex.proofs.Branches.{none_some, some_same}
use Rattle.bye_lex.proofs.Embedding.{Ends}
use Rattle.bye_lex.proofs.IriExact.{iri_exact}
use Rattle.bye_lex.proofs.IriMeaning.{Left}

closed : (style : Style) (n : IriAt) (v text w : List ℕ) → final n ≡ Some v → Left style n text w → (text ≡ []) × (w ≡ v)
closed style Start v text w e h = none_some e
closed style Opened v text w e h = none_some e
closed style (Scheme out) v text w e h = none_some e
closed style (Body out) v text w e h = none_some e
closed style (Backslash out) v text w e h = none_some e
closed style (Escape at out) v text w e h = none_some e
closed style (Done out) v text w e h = (h.0, h.1 ∙ some_same e)

pub iri_ends : {W : Type 0} (style : Style) (Rest : List ℕ → List ℕ → W → Type 0) (n : IriAt) → Ends (Left style) (step style) final (iri_exact style) final Rest n
iri_ends style Rest n = record {
  closed = λ v text w e h. closed style n v text w e h;
  lives = λ v e h. none_some (sym e ∙ (iri_exact style).ends n v h);
  may = λ v e. (iri_exact style).may_end n v e;
}
