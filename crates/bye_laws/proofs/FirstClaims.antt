-- The first claim of a class shows, is there where any shows, and is one.
use Rattle.std.proofs.Common.{◌≡◌, refl, ℕ, List, ◌⊎◌, inl, inr, ⊎_elim, sym, ◌∙◌, ap, subst}
use Rattle.bye_terms.specs.Members.{In}
use Rattle.bye_terms.specs.Terms.{Statement}
use Rattle.bye_table.specs.Domains.{IsSeen, Wanted}
use Rattle.bye_table.specs.DomainTrees.{IsFirstOfClass}
use Rattle.bye_table.specs.Mappings.{Mapping, Name, row_mapping}
use Rattle.bye_pattern.specs.declared.class.Class.{Class}
use Rattle.bye_pattern.specs.declared.class.Class.TheVariants.{And, Optional}
use Rattle.bye_pattern.specs.declared.level.Level.{Level}
use Rattle.bye_pattern.specs.Certificates.{Admitted, CertificateValue, Claim, Domains, Extension, Fork, GoesWith, IsShown, NoRoot, Shows, ShowsAdmitted, ShowsDomains, ShowsExtension, ShowsFork, ShowsNoRoot, ShowsUncovered, Uncovered}
use Rattle.bye_pattern.specs.FirstClaims.{IsExtendable, IsFirstClaim, IsFirstWith, IsLeast, IsOneClaim, NoDomains, NoFork, NoneUncovered, listing}
use Rattle.bye_laws.specs.Claiming.{FirstClaims}
use Rattle.bye_pattern.specs.Fitting.{NoFit}
use Rattle.bye_pattern.specs.Keeping.{IsOfClass}
use Rattle.bye_laws.specs.Completeness.{Allows, AreExamples}
use Rattle.bye_laws.proofs.BothClasses.{certificates_enough, certificates_sound}
use Rattle.bye_laws.proofs.ClaimsDecided.{
  admitted_or_not,
  domains_by_first,
  domains_or_not,
  domains_seen,
  extendable_or_not,
  extension_alike,
  fork_at_or_not,
  fork_from_or_not,
  fork_or_not,
  one_domain_seen,
  root_or_not,
  uncovered_or_not,
}
use Rattle.bye_laws.proofs.Decided.{both_or_not}
use Rattle.bye_laws.proofs.DomainTrees.{class_first, first_or_not}
use Rattle.bye_laws.proofs.Examples.{seen_list}
use Rattle.bye_laws.proofs.Listings.{listed_once, listed_whole}
use Rattle.bye_pattern.proofs.Firsts.{first_has}
use Rattle.bye_laws.proofs.Searches.{first_or_none, least_row_or_none, one_first_with, one_least, some_or_not}
use Rattle.bye_laws.proofs.Withins.{seen_up}

-- a first claim goes with its class and shows
first_shows : (class : Class) (level : Level) (g : List Statement) (w : Wanted) (unwanted : List Mapping) (claim : Claim) → IsFirstClaim class level g w unwanted claim
    → GoesWith class claim × IsShown level g w.rows unwanted claim
first_shows And level g w unwanted (Domains i j x) h = (tt, subst (λ i. ShowsDomains w.rows i j x) (sym h.0) (first_has (ShowsDomains w.rows 1 j) w.vars x h.2).1)
first_shows And level g w unwanted NoRoot h = (tt, h.1)
first_shows And level g w unwanted (Fork x y z) h = absurd h
first_shows And level g w unwanted (Uncovered x) h = (tt, (first_has (ShowsUncovered g w.rows) w.vars x h.2).1)
first_shows And level g w unwanted (Admitted j) h = (tt, h.3.0)
first_shows And level g w unwanted (Extension i x values) h = absurd h
first_shows Optional level g w unwanted (Domains i j x) h = absurd h
first_shows Optional level g w unwanted NoRoot h = (tt, h)
first_shows Optional level g w unwanted (Fork x y z) h = (tt, (first_has (ShowsFork w.rows x y) w.vars z h.3).1)
first_shows Optional level g w unwanted (Uncovered x) h = (tt, (first_has (ShowsUncovered g w.rows) w.vars x h.2).1)
first_shows Optional level g w unwanted (Admitted j) h = absurd h
first_shows Optional level g w unwanted (Extension i x values) h = (tt, h.5)

-- row 1 and the least other row, and the first variable of which they differ, or no rows do
first_domains : (w : Wanted) → AreExamples w
    → ((j : ℕ) × (x : Name) × (IsLeast (λ k. (y : Name) × ShowsDomains w.rows 1 k y) j × IsFirstWith (ShowsDomains w.rows 1 j) w.vars x)) ⊎ NoDomains w.rows
first_domains w examples =
    let inside : (k : ℕ) (y : Name) → ShowsDomains w.rows 1 k y → In w.vars y = λ k y c. examples.within y (domains_seen w.rows 1 k y c) in
    ⊎_elim
    (λ least. ⊎_elim
    (λ first. inl (least.0, first.0, (least.1, first.1)))
    (λ none. let c = least.1.0 in absurd (none c.0 (inside least.0 c.0 c.1) c.1))
    (first_or_none (ShowsDomains w.rows 1 least.0) (domains_or_not w.rows 1 least.0) w.vars))
    (λ none. inr (domains_by_first w.rows (λ k x c. none k (x, c))))
    (least_row_or_none w.rows (λ k. (y : Name) × ShowsDomains w.rows 1 k y)
    (λ k. some_or_not (ShowsDomains w.rows 1 k) (domains_or_not w.rows 1 k) w.vars (inside k))
    (λ k c. (c.1.other, c.1.other_row)))

-- the first fork, or there is none
first_fork : (w : Wanted) → AreExamples w
    → ((x : Name) × (y : Name) × (z : Name)
    × (IsFirstWith (λ a. (b : Name) × (c : Name) × ShowsFork w.rows a b c) w.vars x × (IsFirstWith (λ b. (c : Name) × ShowsFork w.rows x b c) w.vars y × IsFirstWith (ShowsFork w.rows x y) w.vars z)))
    ⊎ NoFork w.rows
first_fork w examples =
    ⊎_elim
    (λ first. let c = (first_has (λ a. (b : Name) × (c : Name) × ShowsFork w.rows a b c) w.vars first.0 first.1).1 in
    ⊎_elim
    (λ second. let d = (first_has (λ b. (c : Name) × ShowsFork w.rows first.0 b c) w.vars second.0 second.1).1 in
    ⊎_elim
    (λ third. inl (first.0, second.0, third.0, (first.1, (second.1, third.1))))
    (λ none. absurd (none d.0 (examples.within d.0 (seen_up w.rows first.0 d.0 d.1.seen d.1.second)) d.1))
    (first_or_none (ShowsFork w.rows first.0 second.0) (fork_or_not w.rows first.0 second.0) w.vars))
    (λ none. absurd (none c.0 (examples.within c.0 (seen_up w.rows first.0 c.0 c.2.seen c.2.first)) (c.1, c.2)))
    (first_or_none (λ b. (c : Name) × ShowsFork w.rows first.0 b c) (fork_at_or_not w examples first.0) w.vars))
    (λ none. inr (λ x y z c. none x (examples.within x c.seen) (y, z, c)))
    (first_or_none (λ a. (b : Name) × (c : Name) × ShowsFork w.rows a b c) (fork_from_or_not w examples) w.vars)

-- the first uncovered variable, or there is none
first_uncovered : (g : List Statement) (w : Wanted) → AreExamples w → ((x : Name) × IsFirstWith (ShowsUncovered g w.rows) w.vars x) ⊎ NoneUncovered g w.rows
first_uncovered g w examples =
    ⊎_elim inl (λ none. inr (λ x c. none x (examples.within x c.seen) c)) (first_or_none (ShowsUncovered g w.rows) (λ x. uncovered_or_not g w x examples) w.vars)

-- the least row that is extended and its first variable, with values in the table's order, or there is none
first_extension : (level : Level) (g : List Statement) (w : Wanted) (unwanted : List Mapping) → AreExamples w → (ShowsNoRoot w.rows → ⊥) → NoFork w.rows → NoneUncovered g w.rows
    → ((claim : Claim) × IsFirstClaim Optional level g w unwanted claim) ⊎ ((i : ℕ) (x : Name) → IsExtendable level g w.rows i x → ⊥)
first_extension level g w unwanted examples root fork covered =
    let inside : (i : ℕ) (y : Name) → IsExtendable level g w.rows i y → In w.vars y = λ i y c. examples.within y c.1.place.seen in
    ⊎_elim
    (λ least. let i : ℕ = least.0 in
    ⊎_elim
    (λ first. let x : Name = first.0 in
    let c = (first_has (λ y. IsFirstOfClass w y × IsExtendable level g w.rows i y) w.vars x first.1).1.1 in
    let same : row_mapping (listing w.vars c.0) ≡ c.0 = listed_whole w.vars c.0 (λ v b. examples.within v (seen_up w.rows x v c.1.place.seen ((c.1.binds v).0 b).0)) in
    inl (
      Extension i x (listing w.vars c.0),
      (
        root,
        fork,
        covered,
        least.1,
        first.1,
        (listed_once w.vars c.0 examples.once, subst (ShowsExtension level g w.rows i x) (sym same) c.1),
        ap (listing w.vars) same,
      ),
    ))
    (λ none. let c = least.1.0 in
    let f = class_first w examples c.0 c.1.1.place.seen in
    absurd (none f.0 (examples.within f.0 f.1.seen) (f.1, (c.1.0, extension_alike level g w.rows i c.0 f.0 c.1.0 (f.2.1, f.2.0) c.1.1))))
    (first_or_none (λ y. IsFirstOfClass w y × IsExtendable level g w.rows i y) (λ y. both_or_not (first_or_not w examples y) (extendable_or_not level g w i y examples covered)) w.vars))
    (λ none. inr (λ i x c. none i (x, c)))
    (least_row_or_none w.rows (λ k. (y : Name) × IsExtendable level g w.rows k y)
    (λ k. some_or_not (IsExtendable level g w.rows k) (λ y. extendable_or_not level g w k y examples covered) w.vars (inside k))
    (λ k c. (c.1.1.row, c.1.1.place.row_at)))

-- where no kind of claim shows, none of the class does
none_of_conjunction : (level : Level) (g : List Statement) (rows unwanted : List Mapping) → NoDomains rows → (ShowsNoRoot rows → ⊥) → NoneUncovered g rows
    → ((j : ℕ) → ShowsAdmitted level g rows unwanted j → ⊥)
    → (claim : Claim) → GoesWith And claim → IsShown level g rows unwanted claim → ⊥
none_of_conjunction level g rows unwanted domains root covered admitted (Domains i j x) goes h = domains i j x h
none_of_conjunction level g rows unwanted domains root covered admitted NoRoot goes h = root h
none_of_conjunction level g rows unwanted domains root covered admitted (Fork x y z) goes h = goes
none_of_conjunction level g rows unwanted domains root covered admitted (Uncovered x) goes h = covered x h
none_of_conjunction level g rows unwanted domains root covered admitted (Admitted j) goes h = admitted j h
none_of_conjunction level g rows unwanted domains root covered admitted (Extension i x values) goes h = goes

-- with OPTIONAL groups too
none_of_optional : (level : Level) (g : List Statement) (rows unwanted : List Mapping) → (ShowsNoRoot rows → ⊥) → NoFork rows → NoneUncovered g rows
    → ((i : ℕ) (x : Name) → IsExtendable level g rows i x → ⊥)
    → (claim : Claim) → GoesWith Optional claim → IsShown level g rows unwanted claim → ⊥
none_of_optional level g rows unwanted root fork covered extended (Domains i j x) goes h = goes
none_of_optional level g rows unwanted root fork covered extended NoRoot goes h = root h
none_of_optional level g rows unwanted root fork covered extended (Fork x y z) goes h = fork x y z h
none_of_optional level g rows unwanted root fork covered extended (Uncovered x) goes h = covered x h
none_of_optional level g rows unwanted root fork covered extended (Admitted j) goes h = goes
none_of_optional level g rows unwanted root fork covered extended (Extension i x values) goes h = extended i x (row_mapping values, h.1)

-- either there is a first claim of a class, or no claim of the class shows
pub first_or_none_shows : (class : Class) (level : Level) (g : List Statement) (w : Wanted) (unwanted : List Mapping) (header : List Name) → AreExamples w
    → ((v : Name) → IsSeen unwanted v → In header v)
    → ((claim : Claim) × IsFirstClaim class level g w unwanted claim) ⊎ ((claim : Claim) → GoesWith class claim → IsShown level g w.rows unwanted claim → ⊥)
first_or_none_shows And level g w unwanted header examples inside =
    ⊎_elim
    (λ d. inl (Domains 1 d.0 d.1, (refl, d.2.0, d.2.1)))
    (λ domains. ⊎_elim
    (λ r. let root : ShowsNoRoot w.rows → ⊥ = λ never. never r.0 r.1 in
    ⊎_elim
    (λ u. inl (Uncovered u.0, (domains, root, u.1)))
    (λ covered. ⊎_elim
    (λ a. inl (Admitted a.0, (domains, root, covered, a.1)))
    (λ none. inr (none_of_conjunction level g w.rows unwanted domains root covered none))
    (least_row_or_none unwanted (ShowsAdmitted level g w.rows unwanted)
    (admitted_or_not level g w.rows unwanted header (seen_list w.rows w.vars).0 inside examples.some (one_domain_seen w r.0 examples domains r.1))
    (λ j c. (c.row, c.row_at))))
    (first_uncovered g w examples))
    (λ root. inl (NoRoot, (domains, root)))
    (root_or_not w examples))
    (first_domains w examples)
first_or_none_shows Optional level g w unwanted header examples inside =
    ⊎_elim
    (λ r. let root : ShowsNoRoot w.rows → ⊥ = λ never. never r.0 r.1 in
    ⊎_elim
    (λ f. inl (Fork f.0 f.1 f.2, (root, f.3.0, f.3.1.0, f.3.1.1)))
    (λ fork. ⊎_elim
    (λ u. inl (Uncovered u.0, (root, fork, u.1)))
    (λ covered. ⊎_elim inl (λ none. inr (none_of_optional level g w.rows unwanted root fork covered none)) (first_extension level g w unwanted examples root fork covered))
    (first_uncovered g w examples))
    (first_fork w examples))
    (λ root. inl (NoRoot, root))
    (root_or_not w examples)

-- of one class and level the first claim is one, but for the values of an extension: what is first or least is one, and of two kinds one excludes the other
one_claim : (class : Class) (level : Level) (g : List Statement) (w : Wanted) (unwanted : List Mapping) (claim other : Claim) → IsFirstClaim class level g w unwanted claim
    → IsFirstClaim class level g w unwanted other
    → IsOneClaim claim other
one_claim And level g w unwanted (Domains i j x) (Domains k l v) a b =
    let e : j ≡ l = one_least (λ k. (y : Name) × ShowsDomains w.rows 1 k y) j l a.1 b.1 in
    let f : x ≡ v = one_first_with (ShowsDomains w.rows 1 j) w.vars x v a.2 (subst (λ l. IsFirstWith (ShowsDomains w.rows 1 l) w.vars v) (sym e) b.2) in
    let d : i ≡ k = a.0 ∙ sym b.0 in
    λ t. Domains (d t) (e t) (f t)
one_claim And level g w unwanted (Domains i j x) NoRoot a b = absurd (b.0 1 j x (first_has (ShowsDomains w.rows 1 j) w.vars x a.2).1)
one_claim And level g w unwanted (Domains i j x) (Uncovered v) a b = absurd (b.0 1 j x (first_has (ShowsDomains w.rows 1 j) w.vars x a.2).1)
one_claim And level g w unwanted (Domains i j x) (Admitted l) a b = absurd (b.0 1 j x (first_has (ShowsDomains w.rows 1 j) w.vars x a.2).1)
one_claim And level g w unwanted NoRoot (Domains k l v) a b = absurd (a.0 1 l v (first_has (ShowsDomains w.rows 1 l) w.vars v b.2).1)
one_claim And level g w unwanted (Uncovered x) (Domains k l v) a b = absurd (a.0 1 l v (first_has (ShowsDomains w.rows 1 l) w.vars v b.2).1)
one_claim And level g w unwanted (Admitted j) (Domains k l v) a b = absurd (a.0 1 l v (first_has (ShowsDomains w.rows 1 l) w.vars v b.2).1)
one_claim And level g w unwanted NoRoot NoRoot a b = refl
one_claim And level g w unwanted NoRoot (Uncovered v) a b = absurd (b.1 a.1)
one_claim And level g w unwanted NoRoot (Admitted l) a b = absurd (b.1 a.1)
one_claim And level g w unwanted (Uncovered x) NoRoot a b = absurd (a.1 b.1)
one_claim And level g w unwanted (Admitted j) NoRoot a b = absurd (a.1 b.1)
one_claim And level g w unwanted (Uncovered x) (Uncovered v) a b = ap Uncovered (one_first_with (ShowsUncovered g w.rows) w.vars x v a.2 b.2)
one_claim And level g w unwanted (Uncovered x) (Admitted l) a b = absurd (b.2 x (first_has (ShowsUncovered g w.rows) w.vars x a.2).1)
one_claim And level g w unwanted (Admitted j) (Uncovered v) a b = absurd (a.2 v (first_has (ShowsUncovered g w.rows) w.vars v b.2).1)
one_claim And level g w unwanted (Admitted j) (Admitted l) a b = ap Admitted (one_least (ShowsAdmitted level g w.rows unwanted) j l a.3 b.3)
one_claim And level g w unwanted (Fork x y z) other a b = absurd a
one_claim And level g w unwanted (Extension i x values) other a b = absurd a
one_claim And level g w unwanted (Domains i j x) (Fork u v s) a b = absurd b
one_claim And level g w unwanted (Domains i j x) (Extension k v others) a b = absurd b
one_claim And level g w unwanted NoRoot (Fork u v s) a b = absurd b
one_claim And level g w unwanted NoRoot (Extension k v others) a b = absurd b
one_claim And level g w unwanted (Uncovered x) (Fork u v s) a b = absurd b
one_claim And level g w unwanted (Uncovered x) (Extension k v others) a b = absurd b
one_claim And level g w unwanted (Admitted j) (Fork u v s) a b = absurd b
one_claim And level g w unwanted (Admitted j) (Extension k v others) a b = absurd b
one_claim Optional level g w unwanted (Domains i j x) other a b = absurd a
one_claim Optional level g w unwanted (Admitted j) other a b = absurd a
one_claim Optional level g w unwanted NoRoot NoRoot a b = refl
one_claim Optional level g w unwanted NoRoot (Fork u v s) a b = absurd (b.0 a)
one_claim Optional level g w unwanted NoRoot (Uncovered v) a b = absurd (b.0 a)
one_claim Optional level g w unwanted NoRoot (Extension k v others) a b = absurd (b.0 a)
one_claim Optional level g w unwanted (Fork x y z) NoRoot a b = absurd (a.0 b)
one_claim Optional level g w unwanted (Uncovered x) NoRoot a b = absurd (a.0 b)
one_claim Optional level g w unwanted (Extension i x values) NoRoot a b = absurd (a.0 b)
one_claim Optional level g w unwanted (Fork x y z) (Fork u v s) a b =
    let d : x ≡ u = one_first_with (λ a. (b : Name) × (c : Name) × ShowsFork w.rows a b c) w.vars x u a.1 b.1 in
    let e : y ≡ v = one_first_with (λ b. (c : Name) × ShowsFork w.rows x b c) w.vars y v a.2 (subst (λ u. IsFirstWith (λ b. (c : Name) × ShowsFork w.rows u b c) w.vars v) (sym d) b.2) in
    let f : z ≡ s = one_first_with (ShowsFork w.rows x y) w.vars z s a.3
    (subst (λ y. IsFirstWith (ShowsFork w.rows x y) w.vars s) (sym e) (subst (λ x. IsFirstWith (ShowsFork w.rows x v) w.vars s) (sym d) b.3)) in
    λ t. Fork (d t) (e t) (f t)
one_claim Optional level g w unwanted (Fork x y z) (Uncovered v) a b = absurd (b.1 x y z (first_has (ShowsFork w.rows x y) w.vars z a.3).1)
one_claim Optional level g w unwanted (Fork x y z) (Extension k v others) a b = absurd (b.1 x y z (first_has (ShowsFork w.rows x y) w.vars z a.3).1)
one_claim Optional level g w unwanted (Uncovered x) (Fork u v s) a b = absurd (a.1 u v s (first_has (ShowsFork w.rows u v) w.vars s b.3).1)
one_claim Optional level g w unwanted (Extension i x values) (Fork u v s) a b = absurd (a.1 u v s (first_has (ShowsFork w.rows u v) w.vars s b.3).1)
one_claim Optional level g w unwanted (Uncovered x) (Uncovered v) a b = ap Uncovered (one_first_with (ShowsUncovered g w.rows) w.vars x v a.2 b.2)
one_claim Optional level g w unwanted (Uncovered x) (Extension k v others) a b = absurd (b.2 x (first_has (ShowsUncovered g w.rows) w.vars x a.2).1)
one_claim Optional level g w unwanted (Extension i x values) (Uncovered v) a b = absurd (a.2 v (first_has (ShowsUncovered g w.rows) w.vars v b.2).1)
one_claim Optional level g w unwanted (Extension i x values) (Extension k v others) a b =
    let e : i ≡ k = one_least (λ k. (y : Name) × IsExtendable level g w.rows k y) i k a.3 b.3 in
    let f : x ≡ v = one_first_with (λ y. IsFirstOfClass w y × IsExtendable level g w.rows i y) w.vars x v a.4
    (subst (λ k. IsFirstWith (λ y. IsFirstOfClass w y × IsExtendable level g w.rows k y) w.vars v) (sym e) b.4) in
    (e, f)
one_claim Optional level g w unwanted NoRoot (Domains k l v) a b = absurd b
one_claim Optional level g w unwanted NoRoot (Admitted l) a b = absurd b
one_claim Optional level g w unwanted (Fork x y z) (Domains k l v) a b = absurd b
one_claim Optional level g w unwanted (Fork x y z) (Admitted l) a b = absurd b
one_claim Optional level g w unwanted (Uncovered x) (Domains k l v) a b = absurd b
one_claim Optional level g w unwanted (Uncovered x) (Admitted l) a b = absurd b
one_claim Optional level g w unwanted (Extension i x values) (Domains k l v) a b = absurd b
one_claim Optional level g w unwanted (Extension i x values) (Admitted l) a b = absurd b

-- a certificate of the first claim shows
first_certificate : (class : Class) (level : Level) (g : List Statement) (w : Wanted) (unwanted : List Mapping) (claim : Claim) → IsFirstClaim class level g w unwanted claim
    → Shows g w.rows unwanted (record { level = level; class = class; claim = claim })
first_certificate class level g w unwanted claim h = let s = first_shows class level g w unwanted claim h in record { goes = s.0; shown = s.1 }

-- where no query of the class fits there is a first claim
pub first_where_none : (class : Class) (level : Level) (g : List Statement) (w : Wanted) (unwanted : List Mapping) (header : List Name) → AreExamples w → Allows class unwanted
    → ((v : Name) → IsSeen unwanted v → In header v) → NoFit (IsOfClass class level w.rows) g w.rows unwanted → (claim : Claim) × IsFirstClaim class level g w unwanted claim
first_where_none class level g w unwanted header examples allowed inside nofit =
    ⊎_elim (λ first. first)
    (λ none. absurd (certificates_enough class level g w unwanted examples allowed nofit (λ c same_class same_level shows.
    none c.claim (subst (λ k. GoesWith k c.claim) same_class shows.goes) (subst (λ l. IsShown l g w.rows unwanted c.claim) same_level shows.shown))))
    (first_or_none_shows class level g w unwanted header examples inside)

-- so some certificate shows it
pub enough : (class : Class) (level : Level) (g : List Statement) (w : Wanted) (unwanted : List Mapping) (header : List Name) → AreExamples w → Allows class unwanted
    → ((v : Name) → IsSeen unwanted v → In header v) → NoFit (IsOfClass class level w.rows) g w.rows unwanted
    → (c : CertificateValue) × (c.class ≡ class) × (c.level ≡ level) × Shows g w.rows unwanted c
enough class level g w unwanted header examples allowed inside nofit =
    let first = first_where_none class level g w unwanted header examples allowed inside nofit in
    (record { level = level; class = class; claim = first.0 }, refl, refl, first_certificate class level g w unwanted first.0 first.1)

-- what is told of first claims
pub first_claims_told : FirstClaims
first_claims_told = record {
  shows = λ class level g w unwanted claim examples h. first_certificate class level g w unwanted claim h;
  there = λ g w unwanted header c examples inside shows.
      ⊎_elim (λ first. first) (λ none. absurd (none c.claim shows.goes shows.shown)) (first_or_none_shows c.class c.level g w unwanted header examples inside);
  one = λ class level g w unwanted claim other examples a b. one_claim class level g w unwanted claim other a b;
  exactly = λ class level g w unwanted header examples allowed inside. (
    first_where_none class level g w unwanted header examples allowed inside,
    (λ first. certificates_sound g w unwanted (record { level = level; class = class; claim = first.0 }) examples (first_certificate class level g w unwanted first.0 first.1)),
  );
}
