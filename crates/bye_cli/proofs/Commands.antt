-- The words of a command say one command.
use Rattle.std.proofs.Common.{◌≡◌, refl, ℕ, List, [], ◌∷◌, get_or, codes, inl, inr, ⊎_elim, sym, ◌∙◌, ap, subst, arith}
use Rattle.std.specs.List.{flat_map}
use Rattle.bye_terms.specs.Members.{EachOnce, In}
use Rattle.bye_terms.proofs.Lists.{map_in}
use Rattle.bye_terms.proofs.Members.{all_in}
use Rattle.bye_words.specs.Pairs.{Word, Setting, setting_words}
use Rattle.bye_words.specs.Forms.{AreOf, Form, IsKnown, IsLine, convert, convert_table, learn, names_in, run}
use Rattle.bye_words.proofs.Pairs.{same_pairs, one_value}
use Rattle.bye_cli.specs.Words.{Command, Convert, ConvertTable, HasForm, HasTables, IsCommand, IsConvert, IsConvertTable, IsLearn, IsRun, Learn, Run, read_word, written_word}
use Rattle.bye_cli.specs.declared.table_form.TableForm.{TableForm}
use Rattle.bye_cli.specs.declared.table_form.TableForm.TheVariants as read
use Rattle.bye_cli.specs.declared.table_form.WrittenForm.{WrittenForm}
use Rattle.bye_cli.specs.declared.table_form.WrittenForm.TheVariants as written
use Rattle.bye_cli.proofs.Settings.{apart}

same_settings : (words : List Word) (form : Form) (settings others : List Setting) → IsLine words form settings → IsLine words form others → settings ≡ others
same_settings words form settings others h k =
    let one = h.parts in
    let other = k.parts in
    let same : flat_map setting_words settings ≡ flat_map setting_words others = cc in
    same_pairs settings others same

-- the same where two forms have one command
one_pairs : (words : List Word) (form other : Form) (settings others : List Setting) → other.command ≡ form.command → other.command ∷ flat_map setting_words settings ≡ words
    → form.command ∷ flat_map setting_words others ≡ words → settings ≡ others
one_pairs words form other settings others e h k = let same : flat_map setting_words settings ≡ flat_map setting_words others = cc in same_pairs settings others same

same_value : (words : List Word) (form : Form) (settings others : List Setting) (name v w : Word) → IsLine words form settings → IsLine words form others → In settings (name, v) → In others (name, w) → v ≡ w
same_value words form settings others name v w h k a b =
    one_value settings name v w h.of_form.once a (subst (λ (ss : List Setting). In ss (name, w)) (sym (same_settings words form settings others h k)) b)

-- no words are of two forms
pub not_both : (words : List Word) (g w h : Word) (tables : TableForm) → IsLearn words g w tables → IsConvert words h → ⊥
not_both words g w h tables a b = let c : ◌≡◌ {A = ℕ} 108 99 = ap (λ (ws : List Word). get_or (get_or ws 0 []) 0 0) (sym a.line.parts ∙ b.line.parts) in omega arith

pub not_table : (words : List Word) (g w t : Word) (tables from : TableForm) (to : WrittenForm) → IsLearn words g w tables → IsConvertTable words t from to → ⊥
not_table words g w t tables from to a b = let c : ◌≡◌ {A = ℕ} 108 99 = ap (λ (ws : List Word). get_or (get_or ws 0 []) 0 0) (sym a.line.parts ∙ b.line.parts) in omega arith

-- the settings of a graph that is converted have no table
no_table : (settings : List Setting) (table : Word) → AreOf convert settings → In settings (codes "--table", table) → ⊥
no_table settings table are h =
    ⊎_elim (λ k. ⊎_elim (λ g. apart (codes "--graph") (codes "--table") 2 103 116 refl refl (λ e. omega (arith, e)) g.0) (λ k. k) k) (λ k. k)
    (all_in (IsKnown convert) settings (codes "--table", table) are.known h)

pub not_converts : (words : List Word) (h t : Word) (from : TableForm) (to : WrittenForm) → IsConvert words h → IsConvertTable words t from to → ⊥
not_converts words h t from to a b =
    no_table a.settings t a.line.of_form
    (subst (λ (ss : List Setting). In ss (codes "--table", t)) (one_pairs words convert convert_table b.settings a.settings refl (sym b.line.parts) (sym a.line.parts)) b.table_named)

-- `run` begins with another word than the others
pub not_run : {X : Type 0} (words : List Word) (g q : Word) (a : WrittenForm) (form : Form) (settings : List Setting) (first : ℕ) → (first ≡ 114 → ⊥) → get_or form.command 0 0 ≡ first
    → IsLine words form settings → IsRun words g q a → X
not_run words g q a form settings first differ begins line b =
    absurd (differ (sym begins ∙ ap (λ (ws : List Word). get_or (get_or ws 0 []) 0 0) (sym line.parts ∙ b.line.parts)))

-- the words of forms are one
read_words_one : (a b : TableForm) → read_word a ≡ read_word b → a ≡ b
read_words_one read.Tsv read.Tsv e = refl
read_words_one read.Tsv read.Json e = apart (codes "tsv") (codes "json") 0 116 106 refl refl (λ e. omega (arith, e)) e
read_words_one read.Json read.Tsv e = apart (codes "json") (codes "tsv") 0 106 116 refl refl (λ e. omega (arith, e)) e
read_words_one read.Json read.Json e = refl

written_words_one : (a b : WrittenForm) → written_word a ≡ written_word b → a ≡ b
written_words_one written.Tsv written.Tsv e = refl
written_words_one written.Tsv written.Json e = apart (codes "tsv") (codes "json") 0 116 106 refl refl (λ e. omega (arith, e)) e
written_words_one written.Tsv written.Csv e = apart (codes "tsv") (codes "csv") 0 116 99 refl refl (λ e. omega (arith, e)) e
written_words_one written.Json written.Tsv e = apart (codes "json") (codes "tsv") 0 106 116 refl refl (λ e. omega (arith, e)) e
written_words_one written.Json written.Json e = refl
written_words_one written.Json written.Csv e = apart (codes "json") (codes "csv") 0 106 99 refl refl (λ e. omega (arith, e)) e
written_words_one written.Csv written.Tsv e = apart (codes "csv") (codes "tsv") 0 99 116 refl refl (λ e. omega (arith, e)) e
written_words_one written.Csv written.Json e = apart (codes "csv") (codes "json") 0 99 106 refl refl (λ e. omega (arith, e)) e
written_words_one written.Csv written.Csv e = refl

-- a name that has a value is there
named : (settings : List Setting) (name value : Word) → In settings (name, value) → In (names_in settings) name
named settings name value h = map_in (λ (setting : Setting). setting.0) settings (name, value) h

-- settings name one form of tables
one_tables : (settings : List Setting) (a b : TableForm) → EachOnce (names_in settings) → HasTables settings a → HasTables settings b → a ≡ b
one_tables settings a b once (inl h) (inl k) = read_words_one a b (one_value settings (codes "--tables") (read_word a) (read_word b) once h k)
one_tables settings a b once (inl h) (inr k) = absurd (k.0 (named settings (codes "--tables") (read_word a) h))
one_tables settings a b once (inr h) (inl k) = absurd (h.0 (named settings (codes "--tables") (read_word b) k))
one_tables settings a b once (inr h) (inr k) = h.1 ∙ sym k.1

-- and one form of answers
one_form : (settings : List Setting) (a b : WrittenForm) → EachOnce (names_in settings) → HasForm settings a → HasForm settings b → a ≡ b
one_form settings a b once (inl h) (inl k) = written_words_one a b (one_value settings (codes "--as") (written_word a) (written_word b) once h k)
one_form settings a b once (inl h) (inr k) = absurd (k.0 (named settings (codes "--as") (written_word a) h))
one_form settings a b once (inr h) (inl k) = absurd (h.0 (named settings (codes "--as") (written_word b) k))
one_form settings a b once (inr h) (inr k) = h.1 ∙ sym k.1

pub one_command : (words : List Word) (c d : Command) → IsCommand words c → IsCommand words d → c ≡ d
one_command words (Learn g w t) (Learn h v u) a b =
    let graph = same_value words learn a.settings b.settings (codes "--graph") g h a.line b.line a.graph_named b.graph_named in
    let wanted = same_value words learn a.settings b.settings (codes "--wanted") w v a.line b.line a.wanted_named b.wanted_named in
    let tables = one_tables a.settings t u a.line.of_form.once a.tables_named (subst (λ (ss : List Setting). HasTables ss u) (sym (same_settings words learn a.settings b.settings a.line b.line)) b.tables_named) in
    (λ i. Learn (graph i) (wanted i) (tables i))
one_command words (Learn g w t) (Convert h) a b = absurd (not_both words g w h t a b)
one_command words (Learn g w t) (ConvertTable h from to) a b = absurd (not_table words g w h t from to a b)
one_command words (Convert g) (Learn h v u) a b = absurd (not_both words h v g u b a)
one_command words (Convert g) (Convert h) a b = ap Convert (same_value words convert a.settings b.settings (codes "--graph") g h a.line b.line a.graph_named b.graph_named)
one_command words (Convert g) (ConvertTable h from to) a b = absurd (not_converts words g h from to a b)
one_command words (ConvertTable g from to) (Learn h v u) a b = absurd (not_table words h v g u from to b a)
one_command words (ConvertTable g from to) (Convert h) a b = absurd (not_converts words h g from to b a)
one_command words (ConvertTable g from to) (ConvertTable h from2 to2) a b =
    let table = same_value words convert_table a.settings b.settings (codes "--table") g h a.line b.line a.table_named b.table_named in
    let source = read_words_one from from2 (same_value words convert_table a.settings b.settings (codes "--from") (read_word from) (read_word from2) a.line b.line a.from_named b.from_named) in
    let target = written_words_one to to2 (same_value words convert_table a.settings b.settings (codes "--to") (written_word to) (written_word to2) a.line b.line a.to_named b.to_named) in
    (λ i. ConvertTable (table i) (source i) (target i))
one_command words (Run g q a) (Run h r b) x y =
    let graph = same_value words run x.settings y.settings (codes "--graph") g h x.line y.line x.graph_named y.graph_named in
    let query = same_value words run x.settings y.settings (codes "--query") q r x.line y.line x.query_named y.query_named in
    let form = one_form x.settings a b x.line.of_form.once x.form_named (subst (λ (ss : List Setting). HasForm ss b) (sym (same_settings words run x.settings y.settings x.line y.line)) y.form_named) in
    (λ i. Run (graph i) (query i) (form i))
one_command words (Learn g w t) (Run h q b) x y = not_run words h q b learn x.settings 108 (λ e. omega (arith, e)) refl x.line y
one_command words (Convert g) (Run h q b) x y = not_run words h q b convert x.settings 99 (λ e. omega (arith, e)) refl x.line y
one_command words (ConvertTable g from to) (Run h q b) x y = not_run words h q b convert_table x.settings 99 (λ e. omega (arith, e)) refl x.line y
one_command words (Run g q a) (Learn h v u) x y = not_run words g q a learn y.settings 108 (λ e. omega (arith, e)) refl y.line x
one_command words (Run g q a) (Convert h) x y = not_run words g q a convert y.settings 99 (λ e. omega (arith, e)) refl y.line x
one_command words (Run g q a) (ConvertTable h from to) x y = not_run words g q a convert_table y.settings 99 (λ e. omega (arith, e)) refl y.line x
