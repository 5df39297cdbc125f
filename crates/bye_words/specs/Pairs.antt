-- The words of the command line, and pairs of them.
use Rattle.std.specs.Prelude.{ℕ, List, [], ◌∷◌}

-- a word, as the list of its characters
abbrev pub Word : Type 0
Word = List ℕ

-- a name with its value; the word after a name is its value, whatever it is
abbrev pub Setting : Type 0
Setting = Word × Word

-- the two words of a setting
abbrev pub setting_words : Setting → List Word
setting_words setting = setting.0 ∷ setting.1 ∷ []

-- the words in pairs, but for a last one that stands alone
abbrev pub pairs_of : List Word → List Setting
pairs_of [] = []
pairs_of (name ∷ []) = []
pairs_of (name ∷ value ∷ words) = (name, value) ∷ pairs_of words
