-- The forms that the words of the command line may have, and the words of a form.
use Rattle.std.specs.Prelude.{◌≡◌, List, [], ◌∷◌, map, codes, ◌⊎◌}
use Rattle.std.specs.List.{flat_map, AllByRecursion}
use Rattle.bye_terms.specs.Members.{In, EachOnce}
use Rattle.bye_words.specs.Pairs.{Word, Setting, setting_words}
use Rattle.bye_words.specs.Kinds.{Kind, File, OneOf, IsOfKind}
use Rattle.bye_words.specs.declared.form_name.FormName.{FormName}
use Rattle.bye_words.specs.declared.form_name.FormName.TheVariants as names

-- a name with the kind of its value
pub record Name : Type 0 where
  pub text : Word
  pub kind : Kind

-- a form: the command, the names that must be there and those that may be there
pub record Form : Type 0 where
  pub name : FormName
  pub command : Word
  pub must : List Name
  pub may : List Name

-- the names of settings
abbrev pub names_in : List Setting → List Word
names_in settings = map (λ setting. setting.0) settings

-- the setting has one of these names, and its value is of the name's kind
abbrev pub IsOneOf : List Name → Setting → Type 0
IsOneOf [] setting = ⊥
IsOneOf (name ∷ names) setting = ((name.text ≡ setting.0) × IsOfKind name.kind setting.1) ⊎ IsOneOf names setting

-- the setting is one of those that the form knows
abbrev pub IsKnown : Form → Setting → Type 0
IsKnown form setting = IsOneOf form.must setting ⊎ IsOneOf form.may setting

-- the settings are of the form: each name is known and its value of its kind, each name stands at most once, and those that
-- must be there are there
pub record AreOf (form : Form) (settings : List Setting) : Type 0 where
  pub known : AllByRecursion (λ setting. IsKnown form setting) settings
  pub once : EachOnce (names_in settings)
  pub there : AllByRecursion (λ name. In (names_in settings) name.text) form.must

-- the words are the form's command and these settings
pub record IsLine (words : List Word) (form : Form) (settings : List Setting) : Type 0 where
  pub parts : words ≡ form.command ∷ flat_map setting_words settings
  pub of_form : AreOf form settings

-- the words are of a form of the table that has this name
pub record IsReading (table : List Form) (words : List Word) (name : FormName) (settings : List Setting) : Type 0 where
  pub form : Form
  pub listed : In table form
  pub named : form.name ≡ name
  pub line : IsLine words form settings

-- no form of the table has these words
abbrev pub IsNoReading : List Form → List Word → Type 0
IsNoReading table words = (form : Form) (settings : List Setting) → In table form → IsLine words form settings → ⊥

-- a name whose value is a file
abbrev pub file : Word → Name
file text = record { text = text; kind = File }

-- a name whose value is one of these words
abbrev pub choice : Word → List Word → Name
choice text words = record { text = text; kind = OneOf words }

-- the forms in which tables are read
abbrev pub read_forms : List Word
read_forms = codes "tsv" ∷ codes "json" ∷ []

-- and those in which they are written
abbrev pub written_forms : List Word
written_forms = codes "tsv" ∷ codes "json" ∷ codes "csv" ∷ []

-- `learn` with `--graph FILE` and `--wanted FILE`, and maybe `--tables FORM`
abbrev pub learn : Form
learn = record {
  name = names.Learn;
  command = codes "learn";
  must = file (codes "--graph") ∷ file (codes "--wanted") ∷ [];
  may = choice (codes "--tables") read_forms ∷ [];
}

-- `convert` with `--graph FILE`
abbrev pub convert : Form
convert = record { name = names.Convert; command = codes "convert"; must = file (codes "--graph") ∷ []; may = [] }

-- `convert` with `--table FILE`, `--from FORM` and `--to FORM`
abbrev pub convert_table : Form
convert_table = record {
  name = names.ConvertTable;
  command = codes "convert";
  must = file (codes "--table") ∷ choice (codes "--from") read_forms ∷ choice (codes "--to") written_forms ∷ [];
  may = [];
}

-- `run` with `--graph FILE` and `--query FILE`, and maybe `--as FORM`
abbrev pub run : Form
run = record {
  name = names.Run;
  command = codes "run";
  must = file (codes "--graph") ∷ file (codes "--query") ∷ [];
  may = choice (codes "--as") written_forms ∷ [];
}

-- the forms of the program
abbrev pub forms : List Form
forms = learn ∷ convert ∷ convert_table ∷ run ∷ []
