-- The steps of a search, over plain variables.
use Rattle.std.proofs.Common.{◌≡◌, refl, ℕ, ◌<◌, Bool, true, false, List, Option, Some, None, length, inl, inr, ⊎_elim, ◌↔◌, sym, ◌∙◌, ap, subst}
use Rattle.std.proofs.lemmas.Bool.{cases_lt}
use Rattle.std.proofs.lemmas.List.{get_or_past}
use Rattle.bye_terms.proofs.Tests.{not_both}
use Rattle.bye_table.specs.Mappings.{nothing}
use Rattle.bye_pattern.specs.Trees.{Forest, Tree, leaf, more}
use Rattle.bye_laws.specs.Reaching.{children}
use Rattle.bye_node.specs.Envs.{Cells, cell}
use Rattle.bye_node.specs.declared.pin.Pin.{Pin}
use Rattle.bye_node.specs.declared.pin.Pin.TheVariants.{Free, Must, Never}
use Rattle.bye_node.specs.Pins.{AgreesWith, Allows, pin_at}
use Rattle.bye_node.specs.Steps.{IsStepBy}
use Rattle.bye_member.specs.Lines.{AddsRow, project}
use Rattle.bye_member.specs.Searches.{Adds, HasAll, IsPinned, IsWanted, Keeps, LeadsTo, Reached, Task, Tells}
use Rattle.bye_member.proofs.Downing.{down_grows, down_steps, joined, skip_down, steps_down}

-- rows that are added, and others after them
pub adds_none : (xs : List Cells) (P : Cells → Type 0) → Adds xs xs P
adds_none xs P = record { kept = λ r h. h; only = λ r h. inl h }

pub adds_more : (xs ys zs : List Cells) (P Q R : Cells → Type 0) → ((r : Cells) → P r → R r) → ((r : Cells) → Q r → R r) → Adds xs ys P → Adds ys zs Q → Adds xs zs R
adds_more xs ys zs P Q R p q first next = record {
  kept = λ r h. next.kept r (first.kept r h);
  only = λ r h. ⊎_elim (λ h. ⊎_elim inl (λ h. inr (p r h)) (first.only r h)) (λ h. inr (q r h)) (next.only r h);
}

pub adds_change : (xs ys : List Cells) (P Q : Cells → Type 0) → ((r : Cells) → P r → Q r) → Adds xs ys P → Adds xs ys Q
adds_change xs ys P Q to adds = record { kept = adds.kept; only = λ r h. ⊎_elim inl (λ h. inr (to r h)) (adds.only r h) }

-- a mapping that leads to a wanted one agrees with the pins
agrees_back : (task : Task) (f : Forest) (z r : Cells) → LeadsTo task f z r → AgreesWith task.pins z
agrees_back task f z r l = record { allowed = λ i n h. l.wanted.pinned.agrees.allowed i n ((down_grows task.vars task.graph z f l.y l.down).keeps i n h) }

-- fewer mappings, but all that agree with the pins, reach the same rows
pub reached_change : (task : Task) (f : Forest) (Z W : Cells → Type 0) → ((z : Cells) → Z z → AgreesWith task.pins z → W z) → (r : Cells) → Reached task f Z r → Reached task f W r
reached_change task f Z W to r (z, h, l) = (z, to z h (agrees_back task f z r l), l)

pub tells_change : (task : Task) (Z W : Cells → Type 0) (found : Bool) → ((z : Cells) → W z → Z z) → ((z : Cells) → Z z → AgreesWith task.pins z → W z) → Tells task.pins W found → Tells task.pins Z found
tells_change task Z W found up down tells = record {
  some = λ e. let w = tells.some e in (w.0, up w.0 w.1);
  none = λ e z h a. tells.none e z (down z h a) a;
}

-- The end of the way: the mapping itself.
here_leads : (task : Task) (e r : Cells) → IsWanted task e → r ≡ project task.selected e → LeadsTo task leaf e r
here_leads task e r wanted is = record { y = e; down = refl; wanted = wanted; row = is }

leads_here : (task : Task) (e r : Cells) → LeadsTo task leaf e r → IsWanted task e × (r ≡ project task.selected e)
leads_here task e r l = let same : l.y ≡ e = l.down in (subst (IsWanted task) same l.wanted, l.row ∙ ap (project task.selected) same)

pub end_adds : (task : Task) (e : Cells) (xs ys : List Cells) → IsWanted task e → AddsRow xs (project task.selected e) ys → Adds xs ys (LeadsTo task leaf e)
end_adds task e xs ys wanted adds = record {
  kept = λ r h. (adds r).1 (inl h);
  only = λ r h. ⊎_elim inl (λ is. inr (here_leads task e r wanted is)) ((adds r).0 h);
}

pub end_all : (task : Task) (e : Cells) (xs ys : List Cells) → AddsRow xs (project task.selected e) ys → HasAll ys (LeadsTo task leaf e)
end_all task e xs ys adds r l = (adds r).1 (inr (leads_here task e r l).1)

pub end_unwanted : (task : Task) (e : Cells) (ys : List Cells) → (IsWanted task e → ⊥) → HasAll ys (LeadsTo task leaf e)
end_unwanted task e ys unwanted r l = absurd (unwanted (leads_here task e r l).0)

-- The first group of those to come: its steps, what is inside it and what comes after.
steps_lead : (task : Task) (e : Cells) (t : Tree) (f : Forest) (r : Cells)
    → Reached task (joined (children t) f) (IsStepBy nothing task.vars task.graph e t) r → LeadsTo task (more t f) e r
steps_lead task e t f r (z, s, l) = record { y = l.y; down = down_steps task.vars task.graph e z l.y t f s l.down; wanted = l.wanted; row = l.row }

lead_steps : (task : Task) (e : Cells) (t : Tree) (f : Forest) (r : Cells) → ((z : Cells) × IsStepBy nothing task.vars task.graph e t z)
    → LeadsTo task (more t f) e r → Reached task (joined (children t) f) (IsStepBy nothing task.vars task.graph e t) r
lead_steps task e t f r some l =
    let w = steps_down task.vars task.graph e l.y t f some l.down in
    (w.0, w.1, record { y = l.y; down = w.2; wanted = l.wanted; row = l.row })

skip_leads : (task : Task) (e : Cells) (t : Tree) (f : Forest) (r : Cells) → ((z : Cells) → IsStepBy nothing task.vars task.graph e t z → ⊥) → LeadsTo task (more t f) e r ↔ LeadsTo task f e r
skip_leads task e t f r none = (
  λ l. record { y = l.y; down = (skip_down task.vars task.graph e l.y t f none).0 l.down; wanted = l.wanted; row = l.row },
  λ l. record { y = l.y; down = (skip_down task.vars task.graph e l.y t f none).1 l.down; wanted = l.wanted; row = l.row },
)

-- rows that its steps reach are rows of the way
pub group_adds : (task : Task) (e : Cells) (t : Tree) (f : Forest) (Z : Cells → Type 0) (xs ys : List Cells) → ((z : Cells) → Z z → IsStepBy nothing task.vars task.graph e t z)
    → Adds xs ys (Reached task (joined (children t) f) Z) → Adds xs ys (LeadsTo task (more t f) e)
group_adds task e t f Z xs ys is = adds_change xs ys _ _ (λ r (z, h, l). steps_lead task e t f r (z, is z h, l))

-- and, where it has a step, they are all
pub group_all : (task : Task) (e : Cells) (t : Tree) (f : Forest) (Z : Cells → Type 0) (ys : List Cells) → ((z : Cells) → Z z ↔ IsStepBy nothing task.vars task.graph e t z) → ((z : Cells) × Z z)
    → HasAll ys (Reached task (joined (children t) f) Z) → HasAll ys (LeadsTo task (more t f) e)
group_all task e t f Z ys is some all r l =
    let w = lead_steps task e t f r (some.0, (is some.0).0 some.1) l in
    all r (w.0, (is w.0).1 w.1, w.2)

-- where it has steps, but none that agrees with the pins, there are no rows
pub group_blocked : (task : Task) (e : Cells) (t : Tree) (f : Forest) (Z : Cells → Type 0) (ys : List Cells) → ((z : Cells) → Z z ↔ IsStepBy nothing task.vars task.graph e t z) → ((z : Cells) × Z z)
    → ((z : Cells) → Z z → AgreesWith task.pins z → ⊥) → HasAll ys (LeadsTo task (more t f) e)
group_blocked task e t f Z ys is some none r l =
    let w = lead_steps task e t f r (some.0, (is some.0).0 some.1) l in
    absurd (none w.0 ((is w.0).1 w.1) (agrees_back task (joined (children t) f) w.0 r w.2))

-- where it has no steps, the rows are those of the groups after it
pub skip_adds : (task : Task) (e : Cells) (t : Tree) (f : Forest) (xs ys : List Cells) → ((z : Cells) → IsStepBy nothing task.vars task.graph e t z → ⊥)
    → Adds xs ys (LeadsTo task f e) → Adds xs ys (LeadsTo task (more t f) e)
skip_adds task e t f xs ys none = adds_change xs ys _ _ (λ r. (skip_leads task e t f r none).1)

pub skip_all : (task : Task) (e : Cells) (t : Tree) (f : Forest) (ys : List Cells) → ((z : Cells) → IsStepBy nothing task.vars task.graph e t z → ⊥)
    → HasAll ys (LeadsTo task f e) → HasAll ys (LeadsTo task (more t f) e)
skip_all task e t f ys none all r l = all r ((skip_leads task e t f r none).0 l)

-- the pins, one after another
pub keeps_pinned : (pins : List Pin) (y : Cells) → ((k : ℕ) → k < length pins → Keeps (pin_at pins k) (cell y k)) → IsPinned pins y
keeps_pinned pins y each = record {
  agrees = record { allowed = λ i n h. ⊎_elim (λ l. allowed (pin_at pins i) (cell y i) n (each i l) h) (λ past. subst (λ pin. Allows pin n) (sym (get_or_past pins i Free past)) tt) (cases_lt i (length pins)) };
  bound = λ i n is. ⊎_elim (λ l. bound (pin_at pins i) (cell y i) n (each i l) is) (λ past. absurd (not_free n (sym (get_or_past pins i Free past) ∙ is))) (cases_lt i (length pins));
}
  where
    allowed : (pin : Pin) (c : Option ℕ) (n : ℕ) → Keeps pin c → c ≡ Some n → Allows pin n
    allowed Free c n h is = tt
    allowed (Must m) c n h is = let e : Some n ≡ Some m = sym is ∙ h in cc
    allowed Never c n h is = let e : None ≡ Some n = sym h ∙ is in cc

    bound : (pin : Pin) (c : Option ℕ) (n : ℕ) → Keeps pin c → pin ≡ Must n → c ≡ Some n
    bound Free c n h is = cc
    bound (Must m) c n h is = cc
    bound Never c n h is = cc

    not_free : (n : ℕ) → Free ≡ Must n → ⊥
    not_free n e = cc

pub pinned_keeps : (pins : List Pin) (y : Cells) (k : ℕ) → IsPinned pins y → Keeps (pin_at pins k) (cell y k)
pinned_keeps pins y k is = keeps (pin_at pins k) (cell y k) (is.agrees.allowed k) (is.bound k)
  where
    keeps : (pin : Pin) (c : Option ℕ) → ((n : ℕ) → c ≡ Some n → Allows pin n) → ((n : ℕ) → pin ≡ Must n → c ≡ Some n) → Keeps pin c
    keeps Free c allowed bound = tt
    keeps (Must m) c allowed bound = bound m refl
    keeps Never None allowed bound = refl
    keeps Never (Some n) allowed bound = absurd (allowed n refl)

-- a variable that does not have the number that is wanted
pub not_kept : (pins : List Pin) (y : Cells) (k : ℕ) (c : Option ℕ) (b : Bool) → c ≡ cell y k → (Keeps (pin_at pins k) c → b ≡ true) → b ≡ false → IsPinned pins y → ⊥
not_kept pins y k c b is kept fails pinned = not_both b (kept (subst (Keeps (pin_at pins k)) (sym is) (pinned_keeps pins y k pinned))) fails
