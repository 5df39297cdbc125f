use Rattle.bye_words.specs.Kinds.{is_path_char}
use Rattle.bye_words.proofs.Runs.{path_ascii, run_of, no_run}
use Rattle.bye_words.proofs.run.is_path_run.Goals as goal

pub returns-then-are_path_chars : goal.returns-then-are_path_chars
returns-then-are_path_chars c =
    run_of is_path_char path_ascii 4096 _ _ _ _ c.as_str-text.ensures.text c.as_str-text.ensures.scalars c.are_path_chars.ensures c.if-are_path_chars.true c.has_length.ensures

pub returns-else-are_path_chars : goal.returns-else-are_path_chars
returns-else-are_path_chars c = no_run is_path_char 4096 _ _ _ c.as_str-text.ensures.text c.as_str-text.ensures.scalars c.are_path_chars.ensures c.if-are_path_chars.false
