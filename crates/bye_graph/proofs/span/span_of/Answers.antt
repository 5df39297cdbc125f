use Rattle.std.proofs.Common.{Some, None}
use Rattle.bye_graph.specs.declared.entry.Order.TheVariants.{Subject, Predicate, Object}
use Rattle.bye_graph.specs.Orders.{entry_of}
use Rattle.bye_graph.proofs.Asking.{agrees_by}
use Rattle.bye_graph.proofs.span.span_of.Goals as goal

pub returns-in-None-None-None : goal.returns-in-None-None-None
returns-in-None-None-None c = λ key small.
    let w = c.all.ensures (entry_of Subject key) small in
    agrees_by _ key _ _ _ None None None c.in-None-None-None.is-0 c.in-None-None-None.is-1 c.in-None-None-None.is-2 ((λ h. (tt, tt, tt)), λ a. w)

pub returns-in-Some-None-None : goal.returns-in-Some-None-None
returns-in-Some-None-None c = λ key small.
    let w = c.begin-in-Some-None-None.ensures (entry_of Subject key) small in
    agrees_by _ key _ _ _ (Some c.in-Some-None-None.s) None None c.in-Some-None-None.is-0 c.in-Some-None-None.is-1 c.in-Some-None-None.is-2 ((λ h. (w.0 h, tt, tt)), λ a. w.1 a.0)

pub returns-in-Some-Some-None : goal.returns-in-Some-Some-None
returns-in-Some-Some-None c = λ key small.
    let w = c.begin_two-in-Some-Some-None.ensures (entry_of Subject key) small in
    agrees_by _ key _ _ _ (Some c.in-Some-Some-None.s) (Some c.in-Some-Some-None.p) None c.in-Some-Some-None.is-0 c.in-Some-Some-None.is-1 c.in-Some-Some-None.is-2 ((λ h. let v = w.0 h in (v.0, v.1, tt)), λ a. w.1 (a.0, a.1))

pub returns-in-Some-Some-Some : goal.returns-in-Some-Some-Some
returns-in-Some-Some-Some c = λ key small.
    let w = c.only.ensures (entry_of Subject key) small in
    agrees_by _ key _ _ _ (Some c.in-Some-Some-Some.s) (Some c.in-Some-Some-Some.p) (Some c.in-Some-Some-Some.o) c.in-Some-Some-Some.is-0 c.in-Some-Some-Some.is-1 c.in-Some-Some-Some.is-2 (w.0, w.1)

pub returns-in-None-Some-None : goal.returns-in-None-Some-None
returns-in-None-Some-None c = λ key small.
    let w = c.begin-in-None-Some-None.ensures (entry_of Predicate key) small in
    agrees_by _ key _ _ _ None (Some c.in-None-Some-None.p) None c.in-None-Some-None.is-0 c.in-None-Some-None.is-1 c.in-None-Some-None.is-2 ((λ h. (tt, w.0 h, tt)), λ a. w.1 a.1)

pub returns-in-None-Some-Some : goal.returns-in-None-Some-Some
returns-in-None-Some-Some c = λ key small.
    let w = c.begin_two.ensures (entry_of Predicate key) small in
    agrees_by _ key _ _ _ None (Some c.in-None-Some-Some.p) (Some c.in-None-Some-Some.o) c.in-None-Some-Some.is-0 c.in-None-Some-Some.is-1 c.in-None-Some-Some.is-2 ((λ h. let v = w.0 h in (tt, v.0, v.1)), λ a. w.1 (a.1, a.2))

pub returns-in-None-None-Some : goal.returns-in-None-None-Some
returns-in-None-None-Some c = λ key small.
    let w = c.begin.ensures (entry_of Object key) small in
    agrees_by _ key _ _ _ None None (Some c.in-None-None-Some.o) c.in-None-None-Some.is-0 c.in-None-None-Some.is-1 c.in-None-None-Some.is-2 ((λ h. (tt, tt, w.0 h)), λ a. w.1 a.2)

pub returns-in-Some-None-Some : goal.returns-in-Some-None-Some
returns-in-Some-None-Some c = λ key small.
    let w = c.begin_two-in-Some-None-Some.ensures (entry_of Object key) small in
    agrees_by _ key _ _ _ (Some c.in-Some-None-Some.s) None (Some c.in-Some-None-Some.o) c.in-Some-None-Some.is-0 c.in-Some-None-Some.is-1 c.in-Some-None-Some.is-2 ((λ h. let v = w.0 h in (v.1, tt, v.0)), λ a. w.1 (a.2, a.0))
