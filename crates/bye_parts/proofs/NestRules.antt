-- The facts of the rules of lists in brackets.
use Rattle.std.proofs.Common.{◌≡◌, refl, ℕ, zero, suc, true, false, List, ◌∷◌, [], Option, Some, None}
use Rattle.std.specs.List.{flat_map}
use Rattle.bye_parts.specs.Parts.{Part}
use Rattle.bye_parts.specs.Readers.{Reader}
use Rattle.bye_parts.specs.Sets.{has}
use Rattle.bye_parts.specs.Nests.{Mark, Opening, Closing, Comma, Item, opens, closes, separates, item, kind, entry, entries, nest}
use Rattle.bye_parts.specs.ReadNests.{of, read_entry, read_entries, read_nest}
use Rattle.bye_parts.proofs.TokenKinds.{Kinds}
use Rattle.bye_parts.proofs.Shapes.{shape_nothing}
use Rattle.bye_parts.proofs.Rules.{Reads, Pair, reads_mark, reads_yield, reads_then, reads_mapped, reads_either, reads_trailing, reads_nothing, reads_between, reads_deep}

no_value : {A P : Type 0} {y : A} → ◌≡◌ {A = Option A} None (Some y) → P
no_value e = cc

only_opens : {V : Type 0} (m : Mark V) (v : Unit {0}) → opens m ≡ Some v → has (0 ∷ []) (kind m) ≡ true
only_opens Opening v e = refl
only_opens _ v e = no_value e

opened : {V : Type 0} (m : Mark V) → has (0 ∷ []) (kind m) ≡ true → (v : Unit {0}) × (opens m ≡ Some v)
opened Opening e = (tt, refl)
opened _ e = cc

only_closes : {V : Type 0} (m : Mark V) (v : Unit {0}) → closes m ≡ Some v → has (1 ∷ []) (kind m) ≡ true
only_closes Closing v e = refl
only_closes _ v e = no_value e

only_separates : {V : Type 0} (m : Mark V) (v : Unit {0}) → separates m ≡ Some v → has (2 ∷ []) (kind m) ≡ true
only_separates Comma v e = refl
only_separates _ v e = no_value e

separated : {V : Type 0} (m : Mark V) → has (2 ∷ []) (kind m) ≡ true → (v : Unit {0}) × (separates m ≡ Some v)
separated Comma e = (tt, refl)
separated _ e = cc

only_item : {V : Type 0} (m : Mark V) (v : V) → item m ≡ Some v → has (3 ∷ []) (kind m) ≡ true
only_item (Item w) v e = refl
only_item _ v e = no_value e

module _ {T V : Type 0} (mark : T → Mark V) where
  -- one kind for each mark; no token stands for another
  abbrev pub nest_kinds : Kinds T
  nest_kinds = record { kind = λ t. kind (mark t); opening = 0 ∷ []; closing = 1 ∷ []; Alike = λ t u. ⊥; alike = []; is_alike = λ t u h. absurd h }

  brackets : Pair nest_kinds (of mark (0 ∷ [])) (λ t. opens (mark t)) (λ t. closes (mark t)) 0 1
  brackets = record {
    opens_only = λ t v h. only_opens (mark t) v h;
    opens_at = λ t h. opened (mark t) h;
    same = λ t. refl;
    closes_only = λ t v h. only_closes (mark t) v h;
    turns_open = refl;
    turns_close = refl;
    open_stays = refl;
    close_stays = refl;
  }

  reads_entry : (b : ℕ) {P D : Part T (List V)} {p : Reader T (List V)} → Reads nest_kinds false (0 ∷ []) [] P D p b b → Reads nest_kinds false (0 ∷ 3 ∷ []) [] (entry mark P) (entry mark D) (read_entry mark p) b b
  reads_entry b f = reads_either (of mark (0 ∷ [])) f (reads_mapped (λ v. v ∷ []) (reads_mark nest_kinds b (3 ∷ []) (λ t. item (mark t)) (λ t v h. only_item (mark t) v h) refl refl)) (λ c. refl) refl

  reads_entries : (b : ℕ) {P D : Part T (List V)} {p : Reader T (List V)} → Reads nest_kinds false (0 ∷ []) [] P D p b b → Reads nest_kinds false (0 ∷ 3 ∷ []) (2 ∷ 0 ∷ 3 ∷ []) (entries mark P) (entries mark D) (read_entries mark p) b b
  reads_entries b f =
      reads_then (reads_entry b f) (λ first. reads_then
      (reads_trailing 2 (of mark (2 ∷ [])) (of mark (0 ∷ 3 ∷ [])) (λ t. separates (mark t)) (reads_entry b f) (λ t v h. only_separates (mark t) v h) (λ t h. separated (mark t) h) (λ t. refl) (λ t. refl) refl refl refl) (λ more.
      reads_yield nest_kinds b (flat_map (λ vs. vs) (first ∷ more))) refl) refl

  nest_none : (d : ℕ) → Reads nest_kinds false (0 ∷ []) [] (nest mark d) (nest mark 1) (read_nest mark 0) 0 0
  nest_none zero = reads_deep brackets (entries mark (nest mark 0)) (shape_nothing nest_kinds false (0 ∷ []))
  nest_none (suc d) = let r = reads_between brackets (reads_entries 0 (nest_none d)) refl in reads_deep brackets (entries mark (nest mark 0)) r.shape

  pub reads_nest : (d b : ℕ) → Reads nest_kinds false (0 ∷ []) [] (nest mark d) (nest mark (suc b)) (read_nest mark b) b b
  reads_nest d zero = nest_none d
  reads_nest zero (suc b) = reads_nothing (reads_between brackets (reads_entries b (reads_nest zero b)) refl)
  reads_nest (suc d) (suc b) = reads_between brackets (reads_entries b (reads_nest d b)) refl
