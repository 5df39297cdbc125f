-- IRIs, labels and tags within a line.
use Rattle.std.proofs.Common.{◌≡◌, refl, ℕ, Bool, true, false, List, [], ◌∷◌, ◌++◌, Option, Some, None, ◌⊎◌, inl, inr, ⊎_elim, sym, ◌∙◌, ap, subst}
use Rattle.bye_lex.specs.Iris.{IriToken}
use Rattle.bye_lex.specs.IriSteps as iri
use Rattle.bye_lex.specs.LabelSteps as label_steps
use Rattle.bye_lex.specs.Languages.{Viable}
use Rattle.bye_lex.specs.TagSteps as tag_steps
use Rattle.bye_lex.specs.declared.iri.IriAt.{IriAt}
use Rattle.bye_lex.specs.declared.iri.IriAt.TheVariants as iri_at
use Rattle.bye_lex.specs.declared.label.LabelAt.{LabelAt}
use Rattle.bye_lex.specs.declared.style.Style.TheVariants.{Triples}
use Rattle.bye_lex.specs.declared.tag.TagAt.{TagAt}
use Rattle.bye_lex.proofs.Embedding.{Onward, closed_forth, closed_back, closed_gives, open_forth, open_back, open_gives}
use Rattle.bye_lex.proofs.IriExact.{iri_exact}
use Rattle.bye_lex.proofs.IriMeaning as iris
use Rattle.bye_lex.proofs.IriWithin.{iri_ends}
use Rattle.bye_lex.proofs.LabelExact as label_exactly
use Rattle.bye_lex.proofs.TagExact as tag_exactly
use Rattle.bye_ntriples.specs.Lines.{Then}
use Rattle.bye_ntriples.specs.LineSteps.{in_iri, in_label, within_tag}
use Rattle.bye_ntriples.specs.declared.line.LineAt.{LineAt}
use Rattle.bye_ntriples.proofs.LineMeaning.{WithinIri, WithinLabel, WithinTag, GoodIri}

pub decided : (b : Bool) → (b ≡ true) ⊎ (b ≡ false)
decided true = inl refl
decided false = inr refl

-- an IRI is its first bracket and the rest
pub begin_iri : {W : Type 0} {Rest : List ℕ → List ℕ → W → Type 0} {text : List ℕ} {w : W} → Then (IriToken Triples) Rest text w → WithinIri Rest iri_at.Start text w
begin_iri h = record { first = 60; own = h.token.rest; value = h.value; rest = h.rest; is = record { rest = h.token.rest; after = h.token.after; spelled = refl }; after = h.after; spelled = h.spelled ∙ ap (λ own. own ++ h.rest) h.token.spelled }

module _ {W : Type 0} (P : LineAt → List ℕ → W → Type 0) (Rest : List ℕ → List ℕ → W → Type 0) (within : IriAt → LineAt) (after : List ℕ → Option LineAt) where
  pub iri_forth : (s : IriAt) (c : ℕ) (t : List ℕ) (w : W) → ((n : IriAt) → WithinIri Rest n t w → P (within n) t w) → ((v : List ℕ) → Rest v t w → Onward P (after v) t w)
      → WithinIri Rest s (c ∷ t) w → Onward P (in_iri within after s c) t w
  iri_forth s c t w into onto h = closed_forth (iris.Left Triples) (iri.step Triples) iri.final (iri_exact Triples) iri.final Rest P within after s c t w (λ n e. iri_ends Triples Rest n) into onto h

  pub iri_back : (s : IriAt) (n : LineAt) (c : ℕ) (t : List ℕ) (w : W) → ((n : IriAt) → P (within n) t w → WithinIri Rest n t w) → ((v : List ℕ) → after v ≡ Some n → P n t w → Rest v t w)
      → Viable (iris.Left Triples s) [] → in_iri within after s c ≡ Some n → P n t w → WithinIri Rest s (c ∷ t) w
  iri_back s n c t w from off a e h = closed_back (iris.Left Triples) (iri.step Triples) iri.final (iri_exact Triples) iri.final Rest P within after s n c t w (λ n e. iri_ends Triples Rest n) from off a e h

-- where a step within an IRI leads
pub iri_leads : (Q : LineAt → Type 0) (within : IriAt → LineAt) (after : List ℕ → Option LineAt) (s : IriAt) (n : LineAt) (c : ℕ) → Viable (iris.Left Triples s) []
    → ((m : IriAt) → GoodIri m → Q (within m)) → ((v : List ℕ) → after v ≡ Some n → Q n) → in_iri within after s c ≡ Some n → Q n
iri_leads Q within after s n c a good then e =
    let m = closed_gives (iris.Left Triples) (iri.step Triples) iri.final (iri_exact Triples) iri.final (λ (v t : List ℕ) (w : Unit {0}). Unit {0}) (λ (n : LineAt) (t : List ℕ) (w : Unit {0}). Unit {0}) within after s n c e in
    ⊎_elim
    (λ (k : (iri.final m.0 ≡ None) × (n ≡ within m.0)). subst Q (sym k.1) (good m.0 (record { viable = (iri_exact Triples).alive s m.0 c a m.1; going = k.0 })))
    (λ (k : (v : List ℕ) × (iri.final m.0 ≡ Some v) × (after v ≡ Some n)). then k.0 k.2)
    m.2

-- labels
abbrev pub LabelApart : {W : Type 0} → (List ℕ → List ℕ → W → Type 0) → LabelAt → ℕ → List ℕ → W → Type 0
LabelApart Rest s c t w = (v : List ℕ) → label_steps.final s ≡ Some v → Rest v (c ∷ t) w → label_steps.step s c ≡ None

module _ {W : Type 0} (P : LineAt → List ℕ → W → Type 0) (Rest : List ℕ → List ℕ → W → Type 0) (within : LabelAt → LineAt) (after : List ℕ → ℕ → Option LineAt) where
  pub label_forth : (s : LabelAt) (c : ℕ) (t : List ℕ) (w : W) → ((n : LabelAt) → WithinLabel Rest n t w → P (within n) t w) → ((v : List ℕ) → Rest v (c ∷ t) w → Onward P (after v c) t w) → LabelApart Rest s c t w
      → WithinLabel Rest s (c ∷ t) w → Onward P (in_label within after s c) t w
  label_forth s c t w into onto apart h = open_forth label_exactly.Left label_steps.step label_steps.final label_exactly.label_exact Rest P within after s c t w into onto apart h

  pub label_back : (s : LabelAt) (n : LineAt) (c : ℕ) (t : List ℕ) (w : W) → ((n : LabelAt) → P (within n) t w → WithinLabel Rest n t w) → ((v : List ℕ) → after v c ≡ Some n → P n t w → Rest v (c ∷ t) w)
      → in_label within after s c ≡ Some n → P n t w → WithinLabel Rest s (c ∷ t) w
  label_back s n c t w from off e h =
      open_back label_exactly.Left label_steps.step label_steps.final label_exactly.label_exact Rest P within after s n c t w from (λ v f e h. off v e h) (label_exactly.can s) e h

pub label_gives : (within : LabelAt → LineAt) (after : List ℕ → ℕ → Option LineAt) (s : LabelAt) (c : ℕ) (n : LineAt) → in_label within after s c ≡ Some n
    → ((k : LabelAt) × (label_steps.step s c ≡ Some k) × (n ≡ within k)) ⊎ ((label_steps.step s c ≡ None) × ((v : List ℕ) × (label_steps.final s ≡ Some v) × (after v c ≡ Some n)))
label_gives within after s c n e = open_gives label_exactly.Left label_steps.step label_steps.final label_exactly.label_exact (λ (v t : List ℕ) (w : Unit {0}). Unit {0}) (λ (n : LineAt) (t : List ℕ) (w : Unit {0}). Unit {0}) within after s c n e

-- tags
abbrev pub TagApart : {W : Type 0} → (List ℕ → List ℕ → W → Type 0) → TagAt → ℕ → List ℕ → W → Type 0
TagApart Rest s c t w = (v : List ℕ) → tag_steps.final s ≡ Some v → Rest v (c ∷ t) w → tag_steps.step s c ≡ None

module _ {W : Type 0} (P : LineAt → List ℕ → W → Type 0) (Rest : List ℕ → List ℕ → W → Type 0) (within : TagAt → LineAt) (after : List ℕ → ℕ → Option LineAt) where
  pub tag_forth : (s : TagAt) (c : ℕ) (t : List ℕ) (w : W) → ((n : TagAt) → WithinTag Rest n t w → P (within n) t w) → ((v : List ℕ) → Rest v (c ∷ t) w → Onward P (after v c) t w) → TagApart Rest s c t w
      → WithinTag Rest s (c ∷ t) w → Onward P (within_tag within after s c) t w
  tag_forth s c t w into onto apart h = open_forth tag_exactly.Left tag_steps.step tag_steps.final tag_exactly.tag_exact Rest P within after s c t w into onto apart h

  pub tag_back : (s : TagAt) (n : LineAt) (c : ℕ) (t : List ℕ) (w : W) → ((n : TagAt) → P (within n) t w → WithinTag Rest n t w) → ((v : List ℕ) → after v c ≡ Some n → P n t w → Rest v (c ∷ t) w)
      → within_tag within after s c ≡ Some n → P n t w → WithinTag Rest s (c ∷ t) w
  tag_back s n c t w from off e h =
      open_back tag_exactly.Left tag_steps.step tag_steps.final tag_exactly.tag_exact Rest P within after s n c t w from (λ v f e h. off v e h) (tag_exactly.can s) e h

pub tag_gives : (within : TagAt → LineAt) (after : List ℕ → ℕ → Option LineAt) (s : TagAt) (c : ℕ) (n : LineAt) → within_tag within after s c ≡ Some n
    → ((k : TagAt) × (tag_steps.step s c ≡ Some k) × (n ≡ within k)) ⊎ ((tag_steps.step s c ≡ None) × ((v : List ℕ) × (tag_steps.final s ≡ Some v) × (after v c ≡ Some n)))
tag_gives within after s c n e = open_gives tag_exactly.Left tag_steps.step tag_steps.final tag_exactly.tag_exact (λ (v t : List ℕ) (w : Unit {0}). Unit {0}) (λ (n : LineAt) (t : List ℕ) (w : Unit {0}). Unit {0}) within after s c n e
