-- The forms of tables that the settings of a command name.
use Rattle.std.proofs.Common.{◌≡◌, refl, ℕ, List, [], ◌∷◌, get_or, codes, inl, inr, ◌⊎◌, ⊎_elim, sym, ◌∙◌, ap, subst, arith}
use Rattle.bye_terms.specs.Members.{In}
use Rattle.bye_terms.proofs.Members.{all_in}
use Rattle.bye_words.specs.Pairs.{Word, Setting}
use Rattle.bye_words.specs.Kinds.{IsOfKind}
use Rattle.bye_words.specs.Forms.{AreOf, Form, IsKnown, IsLine, IsOneOf, IsReading, Name, convert, convert_table, forms, learn, names_in, read_forms, run, written_forms}
use Rattle.bye_words.specs.declared.form_name.FormName.{FormName}
use Rattle.bye_words.specs.declared.form_name.FormName.TheVariants as names

-- two names that differ at a place
pub apart : {X : Type 0} (v w : Word) (i m n : ℕ) → get_or v i 0 ≡ m → get_or w i 0 ≡ n → (m ≡ n → ⊥) → v ≡ w → X
apart v w i m n a b differ e = absurd (differ (sym a ∙ ap (λ w. get_or w i 0) e ∙ b))

-- the value of `--tables`
pub tables_kind : (settings : List Setting) (word : Word) → AreOf learn settings → In settings (codes "--tables", word) → In read_forms word
tables_kind settings word are h =
    ⊎_elim
    (λ k. ⊎_elim (λ g. apart (codes "--graph") (codes "--tables") 2 103 116 refl refl (λ e. omega (arith, e)) g.0)
    (λ k. ⊎_elim (λ g. apart (codes "--wanted") (codes "--tables") 2 119 116 refl refl (λ e. omega (arith, e)) g.0) (λ k. absurd k) k) k)
    (λ k. ⊎_elim (λ g. g.1) (λ k. absurd k) k)
    (all_in (IsKnown learn) settings (codes "--tables", word) are.known h)

-- those of `--from` and `--to`
pub from_kind : (settings : List Setting) (word : Word) → AreOf convert_table settings → In settings (codes "--from", word) → In read_forms word
from_kind settings word are h =
    ⊎_elim
    (λ k. ⊎_elim (λ g. apart (codes "--table") (codes "--from") 2 116 102 refl refl (λ e. omega (arith, e)) g.0)
    (λ k. ⊎_elim (λ g. g.1)
    (λ k. ⊎_elim (λ g. apart (codes "--to") (codes "--from") 2 116 102 refl refl (λ e. omega (arith, e)) g.0) (λ k. absurd k) k) k) k)
    (λ k. absurd k)
    (all_in (IsKnown convert_table) settings (codes "--from", word) are.known h)

pub to_kind : (settings : List Setting) (word : Word) → AreOf convert_table settings → In settings (codes "--to", word) → In written_forms word
to_kind settings word are h =
    ⊎_elim
    (λ k. ⊎_elim (λ g. apart (codes "--table") (codes "--to") 3 97 111 refl refl (λ e. omega (arith, e)) g.0)
    (λ k. ⊎_elim (λ g. apart (codes "--from") (codes "--to") 2 102 116 refl refl (λ e. omega (arith, e)) g.0)
    (λ k. ⊎_elim (λ g. g.1) (λ k. absurd k) k) k) k)
    (λ k. absurd k)
    (all_in (IsKnown convert_table) settings (codes "--to", word) are.known h)

-- that of `--as`
pub as_kind : (settings : List Setting) (word : Word) → AreOf run settings → In settings (codes "--as", word) → In written_forms word
as_kind settings word are h =
    ⊎_elim
    (λ k. ⊎_elim (λ g. apart (codes "--graph") (codes "--as") 2 103 97 refl refl (λ e. omega (arith, e)) g.0)
    (λ k. ⊎_elim (λ g. apart (codes "--query") (codes "--as") 2 113 97 refl refl (λ e. omega (arith, e)) g.0) (λ k. absurd k) k) k)
    (λ k. ⊎_elim (λ g. g.1) (λ k. absurd k) k)
    (all_in (IsKnown run) settings (codes "--as", word) are.known h)

-- the form of a name
abbrev form_of : FormName → Form
form_of names.Learn = learn
form_of names.Convert = convert
form_of names.ConvertTable = convert_table
form_of names.Run = run

listed : (f : Form) → In forms f → form_of f.name ≡ f
listed f (inl e) = ap (λ (f : Form). form_of f.name) (sym e) ∙ e
listed f (inr (inl e)) = ap (λ (f : Form). form_of f.name) (sym e) ∙ e
listed f (inr (inr (inl e))) = ap (λ (f : Form). form_of f.name) (sym e) ∙ e
listed f (inr (inr (inr (inl e)))) = ap (λ (f : Form). form_of f.name) (sym e) ∙ e
listed f (inr (inr (inr (inr none)))) = absurd none

-- the form of a reading, by its name
form_line : (words : List Word) (name : FormName) (settings : List Setting) → IsReading forms words name settings → IsLine words (form_of name) settings
form_line words name settings h = subst (λ (f : Form). IsLine words f settings) (sym (listed h.form h.listed) ∙ ap form_of h.named) h.line

pub learn_line : (words : List Word) (settings : List Setting) → IsReading forms words names.Learn settings → IsLine words learn settings
learn_line words settings h = form_line words names.Learn settings h

pub convert_line : (words : List Word) (settings : List Setting) → IsReading forms words names.Convert settings → IsLine words convert settings
convert_line words settings h = form_line words names.Convert settings h

pub convert_table_line : (words : List Word) (settings : List Setting) → IsReading forms words names.ConvertTable settings → IsLine words convert_table settings
convert_table_line words settings h = form_line words names.ConvertTable settings h

pub run_line : (words : List Word) (settings : List Setting) → IsReading forms words names.Run settings → IsLine words run settings
run_line words settings h = form_line words names.Run settings h
