use Rattle.bye_words.specs.Kinds.{is_session_char}
use Rattle.bye_words.proofs.Runs.{session_ascii, run_of, no_run}
use Rattle.bye_words.proofs.run.is_session.Goals as goal

pub returns-then-are_session_chars : goal.returns-then-are_session_chars
returns-then-are_session_chars c =
    run_of is_session_char session_ascii 64 _ _ _ _ c.as_str-text.ensures.text c.as_str-text.ensures.scalars c.are_session_chars.ensures c.if-are_session_chars.true c.has_length.ensures

pub returns-else-are_session_chars : goal.returns-else-are_session_chars
returns-else-are_session_chars c = no_run is_session_char 64 _ _ _ c.as_str-text.ensures.text c.as_str-text.ensures.scalars c.are_session_chars.ensures c.if-are_session_chars.false
