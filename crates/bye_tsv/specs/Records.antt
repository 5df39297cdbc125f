-- CSV records as the `csv` crate writes them.
use Rattle.std.specs.Prelude.{◌≡◌, ℕ, false, true, List, ◌++◌, map, Option, Some}
use Rattle.std.specs.Global.{Vec}
use Rattle.std.specs.Str.{encode_utf8_all}
use Rattle.csv.specs.Writing.{default_writer, fields_written, has_written, row_text, text_written, with_flexible, with_terminator, writer_setup}
use Rattle.csv.specs.declared.parser.Terminator.TheVariants.{CRLF}
use Rattle.csv.specs.declared.writer.Writer.{Writer}
use Rattle.csv.specs.declared.writer.WriterBuilder.{WriterBuilder}
use Rattle.bye_terms.specs.declared.term.Term.{Term}
use Rattle.bye_table.specs.Cells.{cells_of}
use Rattle.bye_table.specs.Mappings.{Name, Pairs, row_mapping}
use Rattle.bye_tsv.specs.Written.{csv_cell}

-- records end by CR LF; that each has as many fields as the first is not looked at
abbrev pub setup : WriterBuilder
setup = with_flexible (with_terminator default_writer CRLF) true

-- the text of a record
abbrev pub record_text : List (List ℕ) → List ℕ
record_text fields = row_text setup fields

-- a writer to bytes
abbrev pub ByteWriter : Type 0
ByteWriter = Writer (Vec ℕ)

-- the writer is set up so, stands between two records, and wrote this text
pub record HasWritten (writer : ByteWriter) (text : List ℕ) : Type 0 where
  pub configured : writer_setup writer ≡ setup
  pub ended : fields_written writer ≡ 0
  pub clean : has_written writer ≡ false
  pub is : text_written (λ v. Some v.items) writer ≡ Some text

-- a writer like the old one is like the new one once it has written these bytes more
abbrev pub Adds : ByteWriter → ByteWriter → List ℕ → Type 0
Adds old new bytes = (text : List ℕ) → HasWritten old text → HasWritten new (text ++ bytes)

-- the fields of a row
abbrev pub field_bytes : Option Term → List ℕ
field_bytes cell = encode_utf8_all (csv_cell cell)

-- the text of a row's record
abbrev pub record_bytes : List Name → Pairs → List ℕ
record_bytes vars row = record_text (map field_bytes (cells_of vars (row_mapping row)))
