use Rattle.std.proofs.Common.{rules, ◌≡◌, refl, ℕ, ◌<◌, length, cond, Some, ◌∙◌, ap, sym, subst, reverse, take, add-one}
use Rattle.std.proofs.lemmas.Option.{slice_get_read}
use Rattle.std.specs.Str.{bytes_eq}
use Rattle.indexmap.specs.IndexMap.{get}
use Rattle.bye_grammar.specs.Fits.{Chars, look}
use Rattle.bye_descent.specs.Declarations.{iri_at}
use Rattle.bye_descent.proofs.Looking.{numbered}
use Rattle.bye_descent.proofs.prefixes.numbers.Goals as goal

pub loop-number-preserved : goal.loop-number-preserved
loop-number-preserved c =
    let declared = c.args.declared.now in
    let within : c.loop-number.number < length declared = search rules in
    let one = c.index-declared-number.result in
    let key : c.in_ok-copy_of.field-0 ≡ one.0 = c.in_ok-copy_of.ensures ∙ c.name.ensures in
    subst (λ (n : ℕ). (name : Chars) → iri_at declared (get bytes_eq c.insert.new.self name) ≡ look (reverse (take n declared)) name) (sym (add-one c.loop-number.number))
    (numbered declared c.loop-number.number one (slice_get_read declared (length declared) c.loop-number.number one refl within c.index-declared-number.is) (get bytes_eq c.loop-number.last) (get bytes_eq c.insert.new.self)
    (λ name. c.in_ok-insert.ensures.updates.0 name ∙ ap (λ (k : Chars). cond (bytes_eq k name) (Some c.loop-number.number) (get bytes_eq c.loop-number.last name)) key)
    c.loop-number.invariant)
