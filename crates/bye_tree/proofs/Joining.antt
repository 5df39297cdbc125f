-- Names that are put into a set one after another.
use Rattle.std.proofs.Common.{◌≡◌, refl, Bool, true, false, cond, List, [], ◌∷◌, ◌++◌, ◌⊎◌, inl, inr, ⊎_elim, sym, ◌∙◌, ap, subst}
use Rattle.bye_terms.specs.Members.{In}
use Rattle.bye_terms.proofs.Members.{in_cases, in_left, in_right}
use Rattle.bye_terms.proofs.Tests.{bool_cases}
use Rattle.bye_table.specs.Mappings.{Name, is_in}
use Rattle.bye_table.proofs.Merging.{is_in_in, in_is}
use Rattle.bye_tree.specs.Names.{with_name, with_names}
use Rattle.bye_tree.specs.Judging.{Alike, Stands}

pub names_join : (vs xs ys : List Name) → with_names (with_names vs xs) ys ≡ with_names vs (xs ++ ys)
names_join vs [] ys = refl
names_join vs (x ∷ xs) ys = names_join (with_name vs x) xs ys

-- what is in the set afterwards
one_in : (b : Bool) (vs : List Name) (w v : Name) → In (cond b vs (vs ++ w ∷ [])) v → In vs v ⊎ In (w ∷ []) v
one_in true vs w v h = inl h
one_in false vs w v h = in_cases vs (w ∷ []) v h

in_one : (b : Bool) (vs : List Name) (w v : Name) → In vs v → In (cond b vs (vs ++ w ∷ [])) v
in_one true vs w v h = h
in_one false vs w v h = in_left vs (w ∷ []) v h

last_in : (b : Bool) (vs : List Name) (w : Name) → is_in vs w ≡ b → In (cond b vs (vs ++ w ∷ [])) w
last_in true vs w e = is_in_in vs w e
last_in false vs w e = in_right vs (w ∷ []) w (inl refl)

pub from_names : (vs ws : List Name) (v : Name) → In (with_names vs ws) v → In vs v ⊎ In ws v
from_names vs [] v h = inl h
from_names vs (w ∷ ws) v h =
    ⊎_elim
    (λ k. ⊎_elim inl (λ k. ⊎_elim (λ e. inr (inl e)) (λ n. absurd n) k) (one_in (is_in vs w) vs w v k))
    (λ k. inr (inr k))
    (from_names (with_name vs w) ws v h)

pub old_names : (vs ws : List Name) (v : Name) → In vs v → In (with_names vs ws) v
old_names vs [] v h = h
old_names vs (w ∷ ws) v h = old_names (with_name vs w) ws v (in_one (is_in vs w) vs w v h)

pub new_names : (vs ws : List Name) (v : Name) → In ws v → In (with_names vs ws) v
new_names vs [] v h = absurd h
new_names vs (w ∷ ws) v (inl e) = old_names (with_name vs w) ws v (subst (λ v. In (with_name vs w) v) e (last_in (is_in vs w) vs w refl))
new_names vs (w ∷ ws) v (inr h) = new_names (with_name vs w) ws v h

-- names that were put into a set before go into another one as they first came
again : (b : Bool) (vs us : List Name) (w : Name) → is_in us w ≡ b → with_names vs (cond b us (us ++ w ∷ [])) ≡ with_name (with_names vs us) w
again true vs us w e = sym (ap (λ b. cond b (with_names vs us) (with_names vs us ++ w ∷ [])) (in_is (with_names vs us) w (new_names vs us w (is_in_in us w e))))
again false vs us w e = sym (names_join vs us (w ∷ []))

names_of_names : (vs us ws : List Name) → with_names vs (with_names us ws) ≡ with_names (with_names vs us) ws
names_of_names vs us [] = refl
names_of_names vs us (w ∷ ws) = names_of_names vs (with_name us w) ws ∙ ap (λ xs. with_names xs ws) (again (is_in us w) vs us w refl)

pub names_again : (vs ws xs : List Name) → with_names (with_names vs (with_names [] ws)) xs ≡ with_names vs (ws ++ xs)
names_again vs ws xs = ap (λ us. with_names us xs) (names_of_names vs [] ws) ∙ names_join vs ws xs

pub alike_names : (vs : List Name) → Alike (with_names [] vs) vs
alike_names vs = record { to = λ v h. ⊎_elim (λ n. absurd n) (λ k. k) (from_names [] vs v h); back = λ v h. new_names [] vs v h }

-- the lists of the code for what stands below a group, and for what comes after it
pub into : (parent above seen p a b own ws : List Name) → Stands parent above seen p a b → Alike own ws → Stands own (above ++ own) (with_names seen own) ws (a ++ ws) b
into parent above seen p a b own ws s o = record {
  near = λ v h. in_right a ws v h;
  parent_is = o;
  above_is = record {
    to = λ v h. ⊎_elim (λ k. in_left a ws v (s.above_is.to v k)) (λ k. in_right a ws v (o.to v k)) (in_cases above own v h);
    back = λ v h. ⊎_elim (λ k. in_left above own v (s.above_is.back v k)) (λ k. in_right above own v (o.back v k)) (in_cases a ws v h);
  };
  seen_is = record {
    to = λ v h. ⊎_elim
        (λ k. ⊎_elim (λ k. in_left (a ++ ws) b v (in_left a ws v k)) (λ k. in_right (a ++ ws) b v k) (in_cases a b v (s.seen_is.to v k)))
        (λ k. in_left (a ++ ws) b v (in_right a ws v (o.to v k)))
        (from_names seen own v h);
    back = λ v h. ⊎_elim
        (λ k. ⊎_elim (λ k. old_names seen own v (s.seen_is.back v (in_left a b v k))) (λ k. new_names seen own v (o.back v k)) (in_cases a ws v k))
        (λ k. old_names seen own v (s.seen_is.back v (in_right a b v k)))
        (in_cases (a ++ ws) b v h);
  };
}

pub past : (parent above seen p a b ws : List Name) → Stands parent above seen p a b → Stands parent above (with_names seen ws) p a (b ++ ws)
past parent above seen p a b ws s = record {
  near = s.near;
  parent_is = s.parent_is;
  above_is = s.above_is;
  seen_is = record {
    to = λ v h. ⊎_elim
        (λ k. ⊎_elim (λ k. in_left a (b ++ ws) v k) (λ k. in_right a (b ++ ws) v (in_left b ws v k)) (in_cases a b v (s.seen_is.to v k)))
        (λ k. in_right a (b ++ ws) v (in_right b ws v k))
        (from_names seen ws v h);
    back = λ v h. ⊎_elim
        (λ k. old_names seen ws v (s.seen_is.back v (in_left a b v k)))
        (λ k. ⊎_elim (λ k. old_names seen ws v (s.seen_is.back v (in_right a b v k))) (λ k. new_names seen ws v k) (in_cases b ws v k))
        (in_cases a (b ++ ws) v h);
  };
}
