use Rattle.std.proofs.Common.{rules, [], ◌∷◌}
use Rattle.json.specs.Token.{begin_object, end_object, key, string}
use Rattle.std.proofs.Common.{codes}
use Rattle.std.specs.Str.{encode_utf8_all}
use Rattle.bye_json.specs.Tokens.{Adds}
use Rattle.bye_json.proofs.Tokens.{adds_then}
use Rattle.bye_json.proofs.term_writer.write_tagged.Goals as goal

pub returns : goal.returns
returns c =
    let begun : Adds c.args.out.now (begin_object ∷ []) c.begin_object.new.self = search rules in
    let tagged : Adds c.write_type_and_value.new.out (key (codes "xml:lang") ∷ string (encode_utf8_all c.args.tag.now) ∷ []) c.write_text.new.out = search rules in
    let ended : Adds c.write_text.new.out (end_object ∷ []) c.end_object.new.self = search rules in
    adds_then _ _ _ _ _ begun (adds_then _ _ _ _ _ c.in_ok-write_type_and_value.ensures (adds_then _ _ _ _ _ tagged ended))
