-- Starts and certificates, for both classes.
use Rattle.bye_pattern.specs.declared.level.Level.{Level}
use Rattle.std.proofs.Common.{◌≡◌, List, sym, subst, ◌↔◌}
use Rattle.bye_terms.specs.Terms.{Statement}
use Rattle.bye_pattern.specs.declared.class.Class.{Class}
use Rattle.bye_pattern.specs.declared.class.Class.TheVariants.{And, Optional}
use Rattle.bye_pattern.specs.Certificates.{CertificateValue, Claim, GoesWith, IsShown, Shows}
use Rattle.bye_table.specs.Domains.{Wanted}
use Rattle.bye_pattern.specs.Fitting.{NoFit}
use Rattle.bye_pattern.specs.Keeping.{IsOfClass, IsRight, IsStart}
use Rattle.bye_table.specs.Mappings.{Mapping}
use Rattle.bye_pattern.specs.Optional.{InOptional}
use Rattle.bye_pattern.specs.Trees.{Select}
use Rattle.bye_laws.specs.Completeness.{Allows, AreExamples}
use Rattle.bye_laws.proofs.ConjunctionStarts.{conjunction_claims, conjunction_enough, conjunction_start_right}
use Rattle.bye_laws.proofs.OptionalStarts.{optional_claims, optional_enough, optional_start_right}

-- where any query of the class is right, the start is
pub start_fits : (class : Class) (level : Level) (g : List Statement) (w : Wanted) (unwanted : List Mapping) (start q : Select) → AreExamples w → Allows class unwanted → IsStart class level g w start
    → IsRight class level g w.rows unwanted q → IsRight class level g w.rows unwanted start
start_fits And level g w unwanted start q examples allowed is right = conjunction_start_right level g w unwanted start q examples is right
start_fits Optional level g w unwanted start q examples allowed is right =
    subst (λ bad. IsRight Optional level g w.rows bad start) (sym allowed)
    (optional_start_right level g w start q examples is (subst (λ bad. IsRight Optional level g w.rows bad q) allowed right))

-- so none fits exactly where the start is not right
pub none_fits_as_start : (class : Class) (level : Level) (g : List Statement) (w : Wanted) (unwanted : List Mapping) (start : Select) → AreExamples w → Allows class unwanted → IsStart class level g w start
    → NoFit (IsOfClass class level w.rows) g w.rows unwanted ↔ (IsRight class level g w.rows unwanted start → ⊥)
none_fits_as_start class level g w unwanted start examples allowed is = (
  (λ nofit right. nofit start right.in_class right.fits),
  (λ wrong q class_q fits. wrong (start_fits class level g w unwanted start q examples allowed is (record { in_class = class_q; fits = fits }))),
)

-- a certificate that shows is right
pub certificates_sound : (g : List Statement) (w : Wanted) (unwanted : List Mapping) (c : CertificateValue) → AreExamples w → Shows g w.rows unwanted c
    → NoFit (IsOfClass c.class c.level w.rows) g w.rows unwanted
certificates_sound g w unwanted c examples shows = by_class c.class c.claim shows.goes shows.shown
  where
    by_class : (class : Class) (claim : Claim) → GoesWith class claim → IsShown c.level g w.rows unwanted claim → NoFit (IsOfClass class c.level w.rows) g w.rows unwanted
    by_class And claim goes shown = conjunction_claims c.level g w unwanted claim examples goes shown
    by_class Optional claim goes shown = optional_claims c.level g w unwanted claim goes shown

-- and where none fits, it is not so that none shows
pub certificates_enough : (class : Class) (level : Level) (g : List Statement) (w : Wanted) (unwanted : List Mapping) → AreExamples w → Allows class unwanted
    → NoFit (IsOfClass class level w.rows) g w.rows unwanted → ((c : CertificateValue) → c.class ≡ class → c.level ≡ level → Shows g w.rows unwanted c → ⊥) → ⊥
certificates_enough And level g w unwanted examples allowed nofit never = conjunction_enough level g w unwanted examples nofit never
certificates_enough Optional level g w unwanted examples allowed nofit never =
    optional_enough level g w examples (subst (NoFit (InOptional level w.rows) g w.rows) allowed nofit) (λ c e l shows. never c e l (subst (λ bad. Shows g w.rows bad c) (sym allowed) shows))
