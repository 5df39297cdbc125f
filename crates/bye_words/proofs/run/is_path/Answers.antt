use Rattle.bye_words.proofs.Runs.{slash_of}
use Rattle.bye_words.proofs.run.is_path.Goals as goal

pub returns-then-is_path_run : goal.returns-then-is_path_run
returns-then-is_path_run c = slash_of _ _ _ c.as_str.ensures.text (c.is_path_run.ensures.0 c.if-is_path_run.true) c.has_slash.ensures
