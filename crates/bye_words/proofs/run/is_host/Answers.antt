use Rattle.bye_words.specs.Kinds.{is_host_char}
use Rattle.bye_words.proofs.Runs.{host_ascii, run_of, no_run}
use Rattle.bye_words.proofs.run.is_host.Goals as goal

pub returns-then-are_host_chars : goal.returns-then-are_host_chars
returns-then-are_host_chars c =
    run_of is_host_char host_ascii 255 _ _ _ _ c.as_str-text.ensures.text c.as_str-text.ensures.scalars c.are_host_chars.ensures c.if-are_host_chars.true c.has_length.ensures

pub returns-else-are_host_chars : goal.returns-else-are_host_chars
returns-else-are_host_chars c = no_run is_host_char 255 _ _ _ c.as_str-text.ensures.text c.as_str-text.ensures.scalars c.are_host_chars.ensures c.if-are_host_chars.false
