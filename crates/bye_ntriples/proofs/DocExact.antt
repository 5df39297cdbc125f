-- From the machine of lines to the machine of documents.
use Rattle.std.proofs.Common.{◌≡◌, refl, ℕ, Bool, true, false, List, [], ◌∷◌, ◌++◌, Option, Some, None, option_map, option_to_list, ◌⊎◌, inl, inr, ⊎_elim, sym, ◌∙◌, ap, subst, append_assoc, flat_map}
use Rattle.std.specs.List.{AllByRecursion}
use Rattle.std.proofs.lemmas.List.{append-nil}
use Rattle.bye_terms.specs.Terms.{Statement}
use Rattle.bye_lex.specs.Languages.{Viable}
use Rattle.bye_lex.proofs.Branches.{when, unless, chosen, heads, some_same, none_some}
use Rattle.bye_ntriples.specs.Lines.{is_line_end, Line}
use Rattle.bye_ntriples.specs.LineSteps as line
use Rattle.bye_ntriples.specs.Documents.{LaterLine, IsLaterLine, LaterLines, Lines, NtText}
use Rattle.bye_ntriples.specs.DocSteps.{DocAt, start, line_ended, line_moved, step, final}
use Rattle.bye_ntriples.specs.declared.line.LineAt.{LineAt}
use Rattle.bye_ntriples.specs.declared.line.LineAt.TheVariants.{Begin}
use Rattle.bye_ntriples.proofs.LineMeaning.{LeftLine, Good}
use Rattle.bye_lex.proofs.Machines.{Machine}
use Rattle.bye_ntriples.proofs.LineExact.{line_machine}
use Rattle.bye_ntriples.proofs.LineEnds.{line_ends, line_may_end}
use Rattle.bye_ntriples.proofs.LineReached.{stops}

-- a line from its beginning
pub as_line : (text : List ℕ) (fact : Option Statement) → LeftLine Begin text fact → Line text fact
as_line text fact (inl k) = inl k
as_line text fact (inr k) = inr (record { triple = k.triple; stated = k.stated; is = k.is })

pub of_line : (text : List ℕ) (fact : Option Statement) → Line text fact → LeftLine Begin text fact
of_line text fact (inl k) = inl k
of_line text fact (inr k) = inr (record { triple = k.triple; stated = k.stated; is = k.is })

pub record LeftDoc (d : DocAt) (text : List ℕ) (triples : List Statement) : Type 0 where
  pub later : List Statement
  pub lines : Lines (LeftLine d.at) text later
  pub all : triples ≡ d.done ++ later

abbrev pub GoodDoc : DocAt → Type 0
GoodDoc d = Good d.at

abbrev Next : DocAt → ℕ → List ℕ → List Statement → Type 0
Next d c t v = (n : DocAt) × (step d c ≡ Some n) × LeftDoc n t v

pub no_end : (s n : LineAt) (c : ℕ) → Good s → line.step s c ≡ Some n → is_line_end c ≡ false
no_end s n c g e = go (is_line_end c) refl
  where
    go : (b : Bool) → is_line_end c ≡ b → is_line_end c ≡ false
    go true k = none_some (sym (stops s c g k) ∙ e)
    go false k = k

later_of : (lines : List LaterLine) → AllByRecursion IsLaterLine lines → LaterLines (flat_map (λ line. line.separator ∷ line.text) lines) (flat_map (λ line. option_to_list line.fact) lines)
later_of lines each = record { lines = lines; each = each; spelled = refl; stated = refl }

forth_end : (d : DocAt) (c : ℕ) (t : List ℕ) (triples later : List Statement) (fact : Option Statement) (lines : List LaterLine) → AllByRecursion IsLaterLine lines → LeftLine d.at [] fact
    → c ∷ t ≡ flat_map (λ line. line.separator ∷ line.text) lines → later ≡ flat_map (λ line. option_to_list line.fact) lines → triples ≡ d.done ++ (option_to_list fact ++ later) → Next d c t triples
forth_end d c t triples later fact [] each h e f g = cc
forth_end d c t triples later fact (l ∷ ls) (is, each) h e f g =
    let k = heads c l.separator t (l.text ++ flat_map (λ (l : LaterLine). l.separator ∷ l.text) ls) e in
    let b : is_line_end c ≡ true = ap is_line_end k.0 ∙ is.ends in (
      line_ended d.done fact,
      when _ _ _ b ∙ ap (option_map (line_ended d.done)) (line_ends d.at fact h),
      record {
        later = later;
        lines = record { own = l.text; fact = l.fact; rest = flat_map (λ (l : LaterLine). l.separator ∷ l.text) ls; more = flat_map (λ (l : LaterLine). option_to_list l.fact) ls; first = of_line l.text l.fact is.is; later = later_of ls each; spelled = k.1; stated = f };
        all = g ∙ sym (append_assoc d.done (option_to_list fact) later);
      },
    )

forth_doc : (d : DocAt) (c : ℕ) (t own rest : List ℕ) (triples later more : List Statement) (fact : Option Statement) → Good d.at → LeftLine d.at own fact → LaterLines rest more → c ∷ t ≡ own ++ rest → later ≡ option_to_list fact ++ more → triples ≡ d.done ++ later → Next d c t triples
forth_doc d c t [] rest triples later more fact g h tail e f k = forth_end d c t triples more fact tail.lines tail.each h (e ∙ tail.spelled) tail.stated (k ∙ ap (λ xs. d.done ++ xs) f)
forth_doc d c t (x ∷ own) rest triples later more fact g h tail e f k =
    let q = heads c x t (own ++ rest) e in
    let m = line_machine.forth d.at x own fact g h in
    let same : line.step d.at c ≡ Some m.0 = ap (line.step d.at) q.0 ∙ m.1 in (
      line_moved d.done m.0,
      unless _ _ _ _ (no_end d.at m.0 c g same) (ap (option_map (line_moved d.done)) same),
      record { later = later; lines = record { own = own; fact = fact; rest = rest; more = more; first = m.2; later = tail; spelled = q.1; stated = f }; all = k },
    )

pub map_some : {A B : Type 0} (f : A → B) (o : Option A) (y : B) → option_map f o ≡ Some y → (x : A) × (o ≡ Some x) × (f x ≡ y)
map_some f None y e = none_some e
map_some f (Some x) y e = (x, refl, some_same e)

-- what a step of the document is
pub step_is : (d n : DocAt) (c : ℕ) → step d c ≡ Some n → ((is_line_end c ≡ true) × ((fact : Option Statement) × (line.final d.at ≡ Some fact) × (line_ended d.done fact ≡ n))) ⊎ ((is_line_end c ≡ false) × ((m : LineAt) × (line.step d.at c ≡ Some m) × (line_moved d.done m ≡ n)))
step_is d n c e =
    ⊎_elim
    (λ (k : (is_line_end c ≡ true) × (option_map (line_ended d.done) (line.final d.at) ≡ Some n)). inl (k.0, map_some (line_ended d.done) (line.final d.at) n k.1))
    (λ (k : (is_line_end c ≡ false) × (option_map (line_moved d.done) (line.step d.at c) ≡ Some n)). inr (k.0, map_some (line_moved d.done) (line.step d.at c) n k.1))
    (chosen _ _ _ _ e)

back_end : (d : DocAt) (c : ℕ) (t : List ℕ) (triples : List Statement) (fact : Option Statement) → is_line_end c ≡ true → line.final d.at ≡ Some fact → LeftDoc (line_ended d.done fact) t triples → LeftDoc d (c ∷ t) triples
back_end d c t triples fact b e a =
    let l : LaterLine = record { separator = c; text = a.lines.own; fact = a.lines.fact } in
    record {
      later = option_to_list fact ++ a.later;
      lines = record {
        own = [];
        fact = fact;
        rest = c ∷ t;
        more = a.later;
        first = line_may_end d.at fact e;
        later = record {
          lines = l ∷ a.lines.later.lines;
          each = (record { ends = b; is = as_line a.lines.own a.lines.fact a.lines.first }, a.lines.later.each);
          spelled = ap (λ t. c ∷ t) (a.lines.spelled ∙ ap (λ r. a.lines.own ++ r) a.lines.later.spelled);
          stated = a.lines.stated ∙ ap (λ r. option_to_list a.lines.fact ++ r) a.lines.later.stated;
        };
        spelled = refl;
        stated = refl;
      };
      all = a.all ∙ append_assoc d.done (option_to_list fact) a.later;
    }

back_line : (d : DocAt) (m : LineAt) (c : ℕ) (t : List ℕ) (triples : List Statement) → Good d.at → line.step d.at c ≡ Some m → LeftDoc (line_moved d.done m) t triples → LeftDoc d (c ∷ t) triples
back_line d m c t triples g e a = record {
  later = a.later;
  lines = record {
    own = c ∷ a.lines.own;
    fact = a.lines.fact;
    rest = a.lines.rest;
    more = a.lines.more;
    first = line_machine.back d.at m c a.lines.own a.lines.fact g e a.lines.first;
    later = a.lines.later;
    spelled = ap (λ t. c ∷ t) a.lines.spelled;
    stated = a.lines.stated;
  };
  all = a.all;
}

back_doc : (d n : DocAt) (c : ℕ) (t : List ℕ) (triples : List Statement) → GoodDoc d → step d c ≡ Some n → LeftDoc n t triples → LeftDoc d (c ∷ t) triples
back_doc d n c t triples g e h =
    ⊎_elim
    (λ (k : (is_line_end c ≡ true) × ((fact : Option Statement) × (line.final d.at ≡ Some fact) × (line_ended d.done fact ≡ n))). back_end d c t triples k.1.0 k.0 k.1.1 (subst (λ (n : DocAt). LeftDoc n t triples) (sym k.1.2) h))
    (λ (k : (is_line_end c ≡ false) × ((m : LineAt) × (line.step d.at c ≡ Some m) × (line_moved d.done m ≡ n))). back_line d k.1.0 c t triples g k.1.1 (subst (λ (n : DocAt). LeftDoc n t triples) (sym k.1.2) h))
    (step_is d n c e)

stays_doc : (d n : DocAt) (c : ℕ) → GoodDoc d → step d c ≡ Some n → GoodDoc n
stays_doc d n c g e =
    ⊎_elim
    (λ (k : (is_line_end c ≡ true) × ((fact : Option Statement) × (line.final d.at ≡ Some fact) × (line_ended d.done fact ≡ n))). subst GoodDoc k.1.2 tt)
    (λ (k : (is_line_end c ≡ false) × ((m : LineAt) × (line.step d.at c ≡ Some m) × (line_moved d.done m ≡ n))). subst GoodDoc k.1.2 (line_machine.stays d.at k.1.0 c g k.1.1))
    (step_is d n c e)

can_doc : (d : DocAt) → GoodDoc d → Viable (LeftDoc d) []
can_doc d g =
    let w = line_machine.can d.at g in
    record {
      more = w.more;
      scalars = w.scalars;
      value = d.done ++ (option_to_list w.value ++ []);
      whole = record { later = option_to_list w.value ++ []; lines = record { own = w.more; fact = w.value; rest = []; more = []; first = w.whole; later = later_of [] tt; spelled = sym (append-nil w.more); stated = refl }; all = refl };
    }

pub doc_machine : Machine LeftDoc step GoodDoc
doc_machine = record {
  forth = λ d c t v g h. forth_doc d c t h.lines.own h.lines.rest v h.later h.lines.more h.lines.fact g h.lines.first h.lines.later h.lines.spelled h.lines.stated h.all;
  back = back_doc;
  stays = stays_doc;
  can = can_doc;
}

-- the whole document
pub of_text : (text : List ℕ) (triples : List Statement) → NtText text triples → LeftDoc start text triples
of_text text triples h = record { later = triples; lines = record { own = h.own; fact = h.fact; rest = h.rest; more = h.more; first = of_line h.own h.fact h.first; later = h.later; spelled = h.spelled; stated = h.stated }; all = refl }

pub as_text : (text : List ℕ) (triples : List Statement) → LeftDoc start text triples → NtText text triples
as_text text triples h =
    record { own = h.lines.own; fact = h.lines.fact; rest = h.lines.rest; more = h.lines.more; first = as_line h.lines.own h.lines.fact h.lines.first; later = h.lines.later; spelled = h.lines.spelled; stated = h.all ∙ h.lines.stated }

-- where it may end
pub doc_may_end : (d : DocAt) (triples : List Statement) → final d ≡ Some triples → LeftDoc d [] triples
doc_may_end d triples e =
    let k = map_some (λ fact. d.done ++ option_to_list fact) (line.final d.at) triples e in
    record {
      later = option_to_list k.0;
      lines = record { own = []; fact = k.0; rest = []; more = []; first = line_may_end d.at k.0 k.1; later = later_of [] tt; spelled = refl; stated = sym (append-nil (option_to_list k.0)) };
      all = sym k.2;
    }

ends_own : (d : DocAt) (own rest : List ℕ) (fact : Option Statement) (lines : List LaterLine) (more : List Statement) → LeftLine d.at own fact → rest ≡ flat_map (λ line. line.separator ∷ line.text) lines → more ≡ flat_map (λ line. option_to_list line.fact) lines → ◌≡◌ {A = List ℕ} [] (own ++ rest)
    → (line.final d.at ≡ Some fact) × (more ≡ [])
ends_own d [] rest fact [] more h e f p = (line_ends d.at fact h, f)
ends_own d [] rest fact (l ∷ ls) more h e f p = let k : ◌≡◌ {A = List ℕ} [] (l.separator ∷ (l.text ++ flat_map (λ (l : LaterLine). l.separator ∷ l.text) ls)) = p ∙ e in cc
ends_own d (x ∷ own) rest fact lines more h e f p = cc

pub doc_ends : (d : DocAt) (triples : List Statement) → LeftDoc d [] triples → final d ≡ Some triples
doc_ends d triples h =
    let k = ends_own d h.lines.own h.lines.rest h.lines.fact h.lines.later.lines h.lines.more h.lines.first h.lines.later.spelled h.lines.later.stated h.lines.spelled in
    ap (option_map (λ fact. d.done ++ option_to_list fact)) k.0
    ∙ ap Some (sym (h.all ∙ ap (λ xs. d.done ++ xs) (h.lines.stated ∙ ap (λ more. option_to_list h.lines.fact ++ more) k.1 ∙ append-nil (option_to_list h.lines.fact))))
