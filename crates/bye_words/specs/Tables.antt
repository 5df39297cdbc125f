-- The program's tables, read as forms.
use Rattle.std.specs.Prelude.{ℕ, List, map}
use Rattle.std.specs.Borrow.{Bor}
use Rattle.std.specs.Str.{chars}
use Rattle.bye_words.specs.Pairs.{Word}
use Rattle.bye_words.specs.Kinds as kinds
use Rattle.bye_words.specs.Forms as forms
use Rattle.bye_words.specs.declared.kind.Kind.{Kind}
use Rattle.bye_words.specs.declared.kind.Kind.TheVariants.{File, OneOf, Number, Host, Path, Session}
use Rattle.bye_words.specs.declared.name.Name.{Name}
use Rattle.bye_words.specs.declared.form.Form.{Form}

-- texts, as words
abbrev pub texts_of : List (Bor (List ℕ)) → List Word
texts_of texts = map (λ text. chars text.now) texts

-- a kind
abbrev pub kind_of : Kind → kinds.Kind
kind_of File = kinds.File
kind_of (OneOf texts) = kinds.OneOf (texts_of texts.now)
kind_of (Number least greatest) = kinds.Number least greatest
kind_of Host = kinds.Host
kind_of Path = kinds.Path
kind_of Session = kinds.Session

-- a name with its kind
abbrev pub name_of : Name → forms.Name
name_of name = record { text = chars name.text.now; kind = kind_of name.kind }

-- names
abbrev pub names_of : List Name → List forms.Name
names_of names = map name_of names

-- a form
abbrev pub form_of : Form → forms.Form
form_of form = record { name = form.name; command = chars form.command.now; must = names_of form.must.now; may = names_of form.may.now }

-- a table of forms
abbrev pub forms_of : List Form → List forms.Form
forms_of table = map form_of table
