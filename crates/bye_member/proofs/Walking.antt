-- The way through the groups of a plan, over plain variables.
use Rattle.std.proofs.Common.{◌≡◌, refl, ℕ, zero, suc, ◌+◌, ◌*◌, ◌<◌, ◌≤◌, Bool, true, false, List, [], ◌∷◌, Option, Some, None, option_map, MatchOption, ◌↔◌, sym, ◌∙◌, ap, subst, length, drop, map, arith}
use Rattle.bye_table.specs.Mappings.{nothing}
use Rattle.bye_pattern.specs.declared.cond.Cond.{Cond}
use Rattle.bye_pattern.specs.Trees.{Forest, Tree, leaf, more, own_triples}
use Rattle.bye_laws.specs.Reaching.{children}
use Rattle.bye_graph.specs.Graphs.{IsNumbered}
use Rattle.bye_node.specs.declared.env.Shape.{Shape}
use Rattle.bye_node.specs.Conds.{all_hold}
use Rattle.bye_node.specs.Envs.{AreReordered, Cells}
use Rattle.bye_node.specs.Pins.{AgreesWith}
use Rattle.bye_node.specs.Steps.{AreShapes, HasLost, IsStepBy, decode, pattern_in}
use Rattle.bye_node.proofs.Cells.{agrees_free}
use Rattle.bye_node.proofs.Shaping.{lost_step, step_is}
use Rattle.bye_member.specs.Plans.{IsPlan, Planned, count, room}
use Rattle.bye_member.specs.Searches.{Adds, Enters, Has, HasAll, LeadsTo, Reached, Task, Tells}
use Rattle.bye_member.proofs.Downing.{joined}
use Rattle.bye_member.proofs.Planning.{plan_front, plan_none, plan_some}
use Rattle.bye_member.proofs.Searching.{adds_more, group_adds, group_all, group_blocked, skip_adds, skip_all}
use Rattle.bye_member.proofs.Taking.{FitsTask, IsFront, fits_reordered}

pub none_left : {X : Type 0} (xs : List X) → length xs ≡ 0 → xs ≡ []
none_left [] e = refl
none_left (x ∷ xs) e = absurd (omega (arith, e))

-- no group is left
end_plan : (task : Task) (f : Forest) (groups : List Planned) → length groups ≡ 0 → IsPlan task.vars task.graph f groups → f ≡ leaf
end_plan task f groups none plan = plan_none task.vars task.graph f (subst (IsPlan task.vars task.graph f) (none_left groups none) plan)

pub last_adds : (task : Task) (e : Cells) (groups : List Planned) (xs ys : List Cells) → length groups ≡ 0 → Adds xs ys (LeadsTo task leaf e)
    → (f : Forest) → IsPlan task.vars task.graph f groups → Adds xs ys (LeadsTo task f e)
last_adds task e groups xs ys none adds f plan = subst (λ f. Adds xs ys (LeadsTo task f e)) (sym (end_plan task f groups none plan)) adds

pub last_all : (task : Task) (e : Cells) (groups : List Planned) (ys : List Cells) → length groups ≡ 0 → HasAll ys (LeadsTo task leaf e)
    → (f : Forest) → IsPlan task.vars task.graph f groups → HasAll ys (LeadsTo task f e)
last_all task e groups ys none all f plan = subst (λ f. HasAll ys (LeadsTo task f e)) (sym (end_plan task f groups none plan)) all

-- the groups of a plan that is not empty
record First (task : Task) (p : Planned) (after : List Planned) (f : Forest) : Type 0 where
  t : Tree
  others : Forest
  is : f ≡ more t others
  plan : IsPlan task.vars task.graph (more t others) (p ∷ after)

first_of : (task : Task) (groups : List Planned) (p : Planned) (after : List Planned) (f : Forest) → groups ≡ p ∷ after → IsPlan task.vars task.graph f groups → First task p after f
first_of task groups p after f is plan =
    let here = subst (IsPlan task.vars task.graph f) is plan in
    let (t, h, same) = plan_some task.vars task.graph f p after here in
    record { t = t; others = h; is = same; plan = subst (λ f. IsPlan task.vars task.graph f (p ∷ after)) same here }

pub first_plan : (task : Task) (groups : List Planned) (p : Planned) (after : List Planned) → groups ≡ p ∷ after → (f : Forest) × IsPlan task.vars task.graph f groups
    → (t : Tree) × (f : Forest) × IsPlan task.vars task.graph (more t f) (p ∷ after)
first_plan task groups p after is (f, plan) = let w = first_of task groups p after f is plan in (w.t, w.others, w.plan)

-- the rows of what it leads to
pub first_adds : (task : Task) (e : Cells) (groups : List Planned) (p : Planned) (after : List Planned) (xs ys : List Cells) → groups ≡ p ∷ after
    → ((t : Tree) (f : Forest) → IsPlan task.vars task.graph (more t f) (p ∷ after) → Adds xs ys (LeadsTo task (more t f) e))
    → (f : Forest) → IsPlan task.vars task.graph f groups → Adds xs ys (LeadsTo task f e)
first_adds task e groups p after xs ys is adds f plan =
    let w = first_of task groups p after f is plan in subst (λ f. Adds xs ys (LeadsTo task f e)) (sym w.is) (adds w.t w.others w.plan)

pub first_all : (task : Task) (e : Cells) (groups : List Planned) (p : Planned) (after : List Planned) (ys : List Cells) (b : Bool) → groups ≡ p ∷ after → b ≡ true
    → ((t : Tree) (f : Forest) → IsPlan task.vars task.graph (more t f) (p ∷ after) → Enters task t f e ys b)
    → (f : Forest) → IsPlan task.vars task.graph f groups → HasAll ys (LeadsTo task f e)
first_all task e groups p after ys b is entered enters f plan =
    let w = first_of task groups p after f is plan in subst (λ f. HasAll ys (LeadsTo task f e)) (sym w.is) ((enters w.t w.others w.plan).all entered)

-- past what is below it
pub below_fits : (task : Task) (groups : List Planned) (p : Planned) (after : List Planned) (below : ℕ) → groups ≡ p ∷ after → below ≡ p.below → (f : Forest) × IsPlan task.vars task.graph f groups → below ≤ length after
below_fits task groups p after below is same (f, plan) =
    let w = first_of task groups p after f is plan in
    let l = (plan_front task.vars task.graph w.t w.others p after w.plan).fits in omega arith

past_front : (task : Task) (t : Tree) (h : Forest) (p : Planned) (after past : List Planned) (below : ℕ) → below ≡ p.below → past ≡ drop below after → IsPlan task.vars task.graph (more t h) (p ∷ after)
    → IsPlan task.vars task.graph h past
past_front task t h p after past below same is plan =
    subst (IsPlan task.vars task.graph h) (sym (is ∙ ap (λ n. drop n after) same)) (plan_front task.vars task.graph t h p after plan).past

pub past_plan : (task : Task) (groups : List Planned) (p : Planned) (after past : List Planned) (below : ℕ) → groups ≡ p ∷ after → below ≡ p.below → past ≡ drop below after → (f : Forest) × IsPlan task.vars task.graph f groups
    → (f : Forest) × IsPlan task.vars task.graph f past
past_plan task groups p after past below is same rest (f, plan) =
    let w = first_of task groups p after f is plan in (w.others, past_front task w.t w.others p after past below same rest w.plan)

room_drop : (ps : List Planned) (n : ℕ) → room (drop n ps) ≤ room ps
room_drop [] zero = omega arith
room_drop [] (suc n) = omega arith
room_drop (p ∷ ps) zero = omega arith
room_drop (p ∷ ps) (suc n) = let l = room_drop ps n in omega arith

length_drop : (ps : List Planned) (n : ℕ) → length (drop n ps) ≤ length ps
length_drop [] zero = omega arith
length_drop [] (suc n) = omega arith
length_drop (p ∷ ps) zero = omega arith
length_drop (p ∷ ps) (suc n) = let l = length_drop ps n in omega arith

pub room_less : (groups : List Planned) (p : Planned) (after past : List Planned) (below : ℕ) → groups ≡ p ∷ after → past ≡ drop below after → (room past ≤ room groups) × (length past < length groups)
room_less groups p after past below is rest =
    let a = room_drop after below in
    let b = length_drop after below in
    let c : room past ≡ room (drop below after) = ap room rest in
    let d : length past ≡ length (drop below after) = ap length rest in
    let e : room groups ≡ count p.shapes + room after = ap room is in
    let f : length groups ≡ suc (length after) = ap length is in
    (omega (arith, a, c, e), omega (arith, b, d, f))

pub past_adds : (task : Task) (e now : Cells) (groups : List Planned) (p : Planned) (after past : List Planned) (below : ℕ) (xs ys zs : List Cells) (b : Bool) → groups ≡ p ∷ after → below ≡ p.below → past ≡ drop below after → now ≡ e → b ≡ false
    → ((t : Tree) (f : Forest) → IsPlan task.vars task.graph (more t f) (p ∷ after) → Adds xs ys (LeadsTo task (more t f) e))
    → ((t : Tree) (f : Forest) → IsPlan task.vars task.graph (more t f) (p ∷ after) → Enters task t f e ys b)
    → ((f : Forest) → IsPlan task.vars task.graph f past → Adds ys zs (LeadsTo task f now))
    → (f : Forest) → IsPlan task.vars task.graph f groups → Adds xs zs (LeadsTo task f e)
past_adds task e now groups p after past below xs ys zs b is same rest at skipped adds enters later f plan =
    let w = first_of task groups p after f is plan in
    let next = subst (λ e. Adds ys zs (LeadsTo task w.others e)) at (later w.others (past_front task w.t w.others p after past below same rest w.plan)) in
    subst (λ f. Adds xs zs (LeadsTo task f e)) (sym w.is)
    (adds_more xs ys zs _ _ _ (λ r h. h) (λ r h. h) (adds w.t w.others w.plan)
    (skip_adds task e w.t w.others ys zs ((enters w.t w.others w.plan).none skipped) next))

pub past_all : (task : Task) (e now : Cells) (groups : List Planned) (p : Planned) (after past : List Planned) (below : ℕ) (ys zs : List Cells) (b : Bool) → groups ≡ p ∷ after → below ≡ p.below → past ≡ drop below after → now ≡ e → b ≡ false
    → ((t : Tree) (f : Forest) → IsPlan task.vars task.graph (more t f) (p ∷ after) → Enters task t f e ys b)
    → ((f : Forest) → IsPlan task.vars task.graph f past → HasAll zs (LeadsTo task f now))
    → (f : Forest) → IsPlan task.vars task.graph f groups → HasAll zs (LeadsTo task f e)
past_all task e now groups p after past below ys zs b is same rest at skipped enters later f plan =
    let w = first_of task groups p after f is plan in
    let next = subst (λ e. HasAll zs (LeadsTo task w.others e)) at (later w.others (past_front task w.t w.others p after past below same rest w.plan)) in
    subst (λ f. HasAll zs (LeadsTo task f e)) (sym w.is) (skip_all task e w.t w.others zs ((enters w.t w.others w.plan).none skipped) next)

-- A group without shapes has no steps.
pub lost_enters : (task : Task) (e : Cells) (t : Tree) (f : Forest) (p : Planned) (after : List Planned) (ys : List Cells) → IsNumbered task.graph → p.shapes ≡ None → IsPlan task.vars task.graph (more t f) (p ∷ after)
    → Enters task t f e ys false
lost_enters task e t f p after ys good none plan =
    let front = plan_front task.vars task.graph t f p after plan in
    let lost = subst (λ o. MatchOption o (HasLost task.vars task.graph.terms (map (pattern_in nothing) (own_triples t))) (AreShapes task.vars task.graph.terms (map (pattern_in nothing) (own_triples t)))) none front.planned.shapes in
    record { all = λ b. cc; none = λ b z s. lost_step nothing task.vars task.graph e t z good front.listed.own lost s }

-- The shapes of a group, as they are put into the room, and what comes after it.
pub record Entered (task : Task) (e : Cells) (p : Planned) (after : List Planned) (conds : List Cond) (here : List Shape) : Type 0 where
  pub good : IsNumbered task.graph
  pub shapes : p.shapes ≡ Some here
  pub tests : conds ≡ p.conds

pub fits_step : (task : Task) (e : Cells) (t : Tree) (f : Forest) (p : Planned) (after : List Planned) (conds : List Cond) (here : List Shape) → Entered task e p after conds here
    → IsPlan task.vars task.graph (more t f) (p ∷ after) → (z : Cells) → FitsTask task conds here e z ↔ IsStepBy nothing task.vars task.graph e t z
fits_step task e t f p after conds here at plan z =
    let front = plan_front task.vars task.graph t f p after plan in
    let shapes : AreShapes task.vars task.graph.terms (map (pattern_in nothing) (own_triples t)) here =
    subst (λ o. MatchOption o (HasLost task.vars task.graph.terms (map (pattern_in nothing) (own_triples t))) (AreShapes task.vars task.graph.terms (map (pattern_in nothing) (own_triples t)))) at.shapes front.planned.shapes in
    let is = step_is nothing task.vars task.graph e t z here at.good plan.listed.once shapes in
    let same = at.tests ∙ front.planned.conds in (
      λ h. is.0 (h.fills, subst (λ cs. all_hold (decode task.vars task.graph.terms z) cs ≡ true) same h.hold),
      λ s. let w = is.1 s in record { fills = w.0; hold = subst (λ cs. all_hold (decode task.vars task.graph.terms z) cs ≡ true) (sym same) w.1 },
    )

pub inner_plan : (task : Task) (p : Planned) (after : List Planned) → (t : Tree) × (f : Forest) × IsPlan task.vars task.graph (more t f) (p ∷ after) → (f : Forest) × IsPlan task.vars task.graph f after
inner_plan task p after (t, f, plan) = (joined (children t) f, (plan_front task.vars task.graph t f p after plan).next)

-- the rows that its values lead to
pub enter_adds : (task : Task) (e : Cells) (p : Planned) (after : List Planned) (conds : List Cond) (here : List Shape) (xs ys : List Cells) → Entered task e p after conds here
    → ((f : Forest) → IsPlan task.vars task.graph f after → Adds xs ys (Reached task f (FitsTask task conds here e)))
    → (t : Tree) (f : Forest) → IsPlan task.vars task.graph (more t f) (p ∷ after) → Adds xs ys (LeadsTo task (more t f) e)
enter_adds task e p after conds here xs ys at adds t f plan =
    group_adds task e t f (FitsTask task conds here e) xs ys (λ z. (fits_step task e t f p after conds here at plan z).0)
    (adds (joined (children t) f) (plan_front task.vars task.graph t f p after plan).next)

-- it has values
pub enter_found : (task : Task) (e : Cells) (p : Planned) (after : List Planned) (conds : List Cond) (here : List Shape) (ys : List Cells) (b : Bool) → Entered task e p after conds here → b ≡ true
    → Tells task.pins (FitsTask task conds here e) b
    → ((f : Forest) → IsPlan task.vars task.graph f after → HasAll ys (Reached task f (FitsTask task conds here e)))
    → (t : Tree) (f : Forest) → IsPlan task.vars task.graph (more t f) (p ∷ after) → Enters task t f e ys true
enter_found task e p after conds here ys b at found tells all t f plan = record {
  all = λ b. group_all task e t f (FitsTask task conds here e) ys (fits_step task e t f p after conds here at plan) (tells.some found)
      (all (joined (children t) f) (plan_front task.vars task.graph t f p after plan).next);
  none = λ b. cc;
}

-- it has none, where all is wanted
pub enter_none : (task : Task) (e : Cells) (p : Planned) (after : List Planned) (conds : List Cond) (here : List Shape) (ys : List Cells) (b : Bool) → Entered task e p after conds here → task.pins ≡ [] → b ≡ false
    → Tells task.pins (FitsTask task conds here e) b
    → (t : Tree) (f : Forest) → IsPlan task.vars task.graph (more t f) (p ∷ after) → Enters task t f e ys false
enter_none task e p after conds here ys b at free missed tells t f plan = record {
  all = λ b. cc;
  none = λ b z s. tells.none missed z ((fits_step task e t f p after conds here at plan z).1 s) (subst (λ pins. AgreesWith pins z) (sym free) (agrees_free z));
}

-- it has none that are wanted: the way ends here where it has others, and goes past it where it has none at all
pub enter_blocked : (task : Task) (e : Cells) (p : Planned) (after : List Planned) (conds : List Cond) (here later : List Shape) (ys : List Cells) (b has : Bool) → Entered task e p after conds here → b ≡ false
    → Tells task.pins (FitsTask task conds here e) b → AreReordered here later → (now : Cells) → now ≡ e → Has (FitsTask task conds later now) has
    → (t : Tree) (f : Forest) → IsPlan task.vars task.graph (more t f) (p ∷ after) → Enters task t f e ys has
enter_blocked task e p after conds here later ys b has at missed tells order now same known t f plan =
    let is = fits_step task e t f p after conds here at plan in
    let back : (z : Cells) → FitsTask task conds later now z → FitsTask task conds here e z =
    λ z h. (fits_reordered task conds here later e z order).1 (subst (λ e. FitsTask task conds later e z) same h) in
    let there : (z : Cells) → FitsTask task conds here e z → FitsTask task conds later now z =
    λ z h. subst (λ e. FitsTask task conds later e z) (sym same) ((fits_reordered task conds here later e z order).0 h) in
    record {
      all = λ h. let w = known.some h in group_blocked task e t f (FitsTask task conds here e) ys is (w.0, back w.0 w.1) (tells.none missed);
      none = λ h z s. known.none h z (there z ((is z).1 s));
    }

-- How much is left to go through falls.
pub enter_less : (groups : List Planned) (p : Planned) (after : List Planned) → groups ≡ p ∷ after → count p.shapes + 2 + (room after + 3 * length after) < room groups + 3 * length groups
enter_less groups p after is =
    let a : room groups ≡ count p.shapes + room after = ap room is in
    let b : length groups ≡ suc (length after) = ap length is in
    omega (arith, a, b)

pub past_less : (groups : List Planned) (p : Planned) (after past : List Planned) (below : ℕ) → groups ≡ p ∷ after → past ≡ drop below after → room past + 3 * length past < room groups + 3 * length groups
past_less groups p after past below is rest = let w = room_less groups p after past below is rest in let a = w.0 in let b = w.1 in omega (arith, a, b)

pub room_first : (groups : List Planned) (p : Planned) (after : List Planned) (n : ℕ) → groups ≡ p ∷ after → room groups ≤ n → count p.shapes + room after ≤ n
room_first groups p after n is l = let a : room groups ≡ count p.shapes + room after = ap room is in omega (arith, a)

pub room_past : (groups : List Planned) (p : Planned) (after past : List Planned) (below n m : ℕ) → groups ≡ p ∷ after → past ≡ drop below after → room groups ≤ n → m ≡ n → room past ≤ m
room_past groups p after past below n m is rest l same = let a = (room_less groups p after past below is rest).0 in omega (arith, a, same)

pub count_shapes : {X : Type 0} (p : Planned) (items : X → List Shape) (o : Option X) (x : X) → option_map items o ≡ p.shapes → o ≡ Some x → p.shapes ≡ Some (items x)
count_shapes p items o x is some = sym is ∙ ap (option_map items) some

pub count_of : (p : Planned) (here : List Shape) → p.shapes ≡ Some here → count p.shapes ≡ length here
count_of p here is = ap count is

pub room_after : (p : Planned) (after : List Planned) (here free : List Shape) (n k : ℕ) → p.shapes ≡ Some here → length free + k ≡ n → k ≡ length here → count p.shapes + room after ≤ n → room after ≤ length free
room_after p after here free n k is split same l = let a = count_of p here is in omega (arith, a, split, same)

pub fill_less : (p : Planned) (here copied : List Shape) (m : ℕ) → p.shapes ≡ Some here → copied ≡ here → length copied + 1 + m < count p.shapes + 2 + m
fill_less p here copied m is same = let a = count_of p here is in let b : length copied ≡ length here = ap length same in omega (arith, a, b)

pub others_less : (shapes front others later : List Shape) (shape : Shape) (m : ℕ) → IsFront shapes front others shape → AreReordered others later → length later + 1 + m < length shapes + 1 + m
others_less shapes front others later shape m is order = let a = is.count in let b = order.count in omega (arith, a, b)

pub room_same : (groups : List Planned) (n m : ℕ) → room groups ≤ n → m ≡ n → room groups ≤ m
room_same groups n m l same = omega (arith, l, same)

pub below_measure : (n m t : ℕ) → m ≡ t → n < m → n < t
below_measure n m t is l = omega (arith, is, l)

pub few_most : (rows : List Cells) (limit : ℕ) → length rows ≤ limit → length rows ≤ limit + 1
few_most rows limit few = omega (arith, few)
