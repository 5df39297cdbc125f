use Rattle.std.proofs.Common.{rules, [], ◌∷◌, codes}
use Rattle.json.specs.Token.{begin_object, end_object, key}
use Rattle.bye_json.specs.Tokens.{Adds}
use Rattle.bye_json.proofs.Tokens.{adds_then}
use Rattle.bye_json.proofs.writer.write_bindings.Goals as goal

pub returns : goal.returns
returns c =
    let begun : Adds c.args.out.now (begin_object ∷ []) c.begin_object.new.self = search rules in
    let named : Adds c.begin_object.new.self (key (codes "bindings") ∷ []) c.key.new.self = search rules in
    let ended : Adds c.write_rows.new.out (end_object ∷ []) c.end_object.new.self = search rules in
    adds_then _ _ _ _ _ begun (adds_then _ _ _ _ _ named (adds_then _ _ _ _ _ c.in_ok-write_rows.ensures ended))
