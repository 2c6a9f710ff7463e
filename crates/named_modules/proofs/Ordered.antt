-- What is written of names is at fault exactly where the names are not in order.
use Rattle.std.proofs.Common.{◌≡◌, ℕ, ◌+◌, ◌<◌, ◌≤◌, ◌^◌, Bool, true, false, cond, List, [], ◌∷◌, ◌++◌, map, Option, Some, None, refl, ap, subst, arith, eqb-true, eq-eqb}
use Rattle.std.specs.Prelude.{not, nat_eq, nat_lt}
use Rattle.std.specs.List.{AllByRecursion, Contains}
use Rattle.std.proofs.Math.Logic.{⊎_elim}
use Rattle.std.proofs.lemmas.Bool.{ltb-false}
use Rattle.ir_core.specs.Order.{AreCounted, AreNew, Counts}
use Rattle.ir_types.specs.declared.names.Name.{Name}
use Rattle.ir_types.specs.declared.names.Name.TheVariants.{Text, Number}
use Rattle.name_claims.specs.declared.claims.Fault.{Fault}
use Rattle.name_claims.specs.declared.claims.Reason.TheVariants as reason
use Rattle.ir_core.proofs.NameIndexes.Among.{among_is, not_there}
use Rattle.ir_core.specs.NameIndexes.Among.{is_among}
use Rattle.module_grammar.specs.declared.places.Placed.{Placed}
use Rattle.named_modules.specs.Built.{due_after, name_due}
use Rattle.named_modules.specs.Faults.{Written, at, due_behind_written, due_faults, number_faults, own_name_faults, twice_faults, unless, written_faults}
use Rattle.named_modules.specs.Lines.{HasNone}
use Rattle.named_modules.proofs.Lists.{contains_cases, new_end, new_front}
use Rattle.named_modules.proofs.Ties.{Ties, both, fits, in_turn, none, through}

-- ---- a name that is written

not_true : (b : Bool) → not b ≡ true → b ≡ false
not_true true e = cc
not_true false e = refl

new_name : (taken : List Name) (x : Name) → (b : Bool) → is_among x taken ≡ b → (Contains taken x → ⊥) → b ≡ false
new_name taken x true is fresh = absurd (fresh (among_is x taken is))
new_name taken x false is fresh = refl

pub twice_ties : (taken : List Name) (x : Placed Name) → Ties (unless (not (is_among x.what taken)) (at x reason.Twice)) (Contains taken x.what → ⊥)
twice_ties taken x =
    let test = not (is_among x.what taken) in
    through (unless test (at x reason.Twice)) (fits test (at x reason.Twice)) (λ h. not_there x.what taken (not_true (is_among x.what taken) h)) (λ fresh. ap not (new_name taken x.what (is_among x.what taken) refl fresh))

pub number_ties : (due : ℕ) (x : Placed Name) (name : Name) → Ties (number_faults due x name) (Counts due name (due_after due name))
number_ties due x (Text bytes) = none refl
number_ties due x (Number n) =
    let f = at x (reason.WrongNumber due) in
    through (unless (nat_eq n due) f) (fits (nat_eq n due) f) (λ h. (eqb-true n due h, refl)) (λ h. eq-eqb n due h.0)

pub counts_once : (due : ℕ) (name : Name) (next : ℕ) → Counts due name next → next ≡ due_after due name
counts_once due (Text bytes) next counts = counts
counts_once due (Number n) next counts = counts.1

-- ---- names that may be left out

abbrev pub IsBareName : Written → Type 0
IsBareName w = HasNone (not w.defines) w.name

abbrev pub name_defined : ℕ → Written → List Name
name_defined due w = cond w.defines (name_due due w.name ∷ []) []

abbrev pub names_from : ℕ → List Written → List Name
names_from due [] = []
names_from due (w ∷ ws) = name_defined due w ++ names_from (due_behind_written due w) ws

-- what defines no name has none, and the names are new and counted
pub record StandInOrder (taken : List Name) (due : ℕ) (ws : List Written) : Type 0 where
  pub bare : AllByRecursion IsBareName ws
  pub new : AreNew taken (names_from due ws)
  pub count : ℕ
  pub counted : AreCounted due (names_from due ws) count

abbrev AreBelow : List Name → ℕ → Type 0
AreBelow taken due = (n : ℕ) → Contains taken (Number n) → n < due

number_same : (a b : ℕ) → Number a ≡ Number b → a ≡ b
number_same a b e = cc

small : (due : ℕ) (b : Bool) → nat_lt due (2 ^ 32) ≡ b → cond b due 0 ≤ due
small due true e = omega arith
small due false e = omega arith

below_number : (taken : List Name) (due k : ℕ) → k ≤ due → AreBelow taken due → AreBelow (Number k ∷ taken) (due + 1)
below_number taken due k little below n there =
    ⊎_elim (λ e. let same = number_same k n e in omega (arith, little, same)) (λ more. let less = below n more in omega (arith, less)) (contains_cases (Number k) (Number n) taken there)

below_name : (taken : List Name) (due : ℕ) (name : Name) → Counts due name (due_after due name) → AreBelow taken due → AreBelow (name ∷ taken) (due_after due name)
below_name taken due (Text bytes) counts below n there =
    ⊎_elim (λ e. cc) (λ more. below n more) (contains_cases (Text bytes) (Number n) taken there)
below_name taken due (Number k) counts below n there =
    let little = below_number taken due k (let e = counts.0 in omega (arith, e)) below n there in
    let next = counts.1 in
    omega (arith, little, next)

number_fits : (due : ℕ) (b : Bool) → nat_lt due (2 ^ 32) ≡ b → cond b due 0 ≡ due → b ≡ true
number_fits due true is zero_is = refl
number_fits due false is zero_is = let large = ltb-false due (2 ^ 32) is in absurd (omega (arith, large, zero_is))

-- one more behind what is bare, new and counted
module _ (whole : Placed Name) (taken : List Name) (due : ℕ) (ws : List Written) where
  abbrev Rest : List Name → ℕ → Type 0
  Rest more next = StandInOrder more next ws

  without : (x : Option (Placed Name)) → Ties (written_faults whole taken due ws) (Rest taken due) → Ties (own_name_faults whole taken due x false ++ written_faults whole taken due ws) (StandInOrder taken due (record { name = x; defines = false } ∷ ws))
  without None rest =
      through (written_faults whole taken due ws) rest (λ h. record { bare = (refl, h.bare); new = h.new; count = h.count; counted = h.counted }) (λ h. record { bare = h.bare.1; new = h.new; count = h.count; counted = h.counted })
  without (Some x) rest = record {
    to = λ e. wrong (unless (not (is_among x.what taken)) (at x reason.Twice)) e;
    back = λ h. let e = h.bare.0 in cc;
  }
    where
      wrong : {P : Type 0} (fs : List Fault) → ((fs ++ (at x reason.WrongType ∷ [])) ++ written_faults whole taken due ws) ≡ [] → P
      wrong [] e = cc
      wrong (f ∷ fs) e = cc

  abbrev own : Name
  own = name_due due None

  unnamed : AreBelow taken due → Ties (written_faults whole (own ∷ taken) (due + 1) ws) (Rest (own ∷ taken) (due + 1)) → Ties (own_name_faults whole taken due None true ++ written_faults whole (own ∷ taken) (due + 1) ws) (StandInOrder taken due (record { name = None; defines = true } ∷ ws))
  unnamed below rest =
      let test = nat_lt due (2 ^ 32) in
      let f = at whole reason.WrongType in
      let fs = unless test f ++ written_faults whole (own ∷ taken) (due + 1) ws in
      through fs (both (unless test f) (written_faults whole (own ∷ taken) (due + 1) ws) (fits test f) rest)
      (λ h.
      let is : cond test due 0 ≡ due = ap (λ b. cond b due 0) h.0 in
      record {
        bare = (tt, h.1.bare);
        new = (λ there. let less = below due (subst (λ k. Contains taken (Number k)) is there) in omega (arith, less), new_end own taken (names_from (due + 1) ws) h.1.new);
        count = h.1.count;
        counted = (due + 1, (is, refl), h.1.counted);
      })
      (λ h.
      let next = h.counted.0 in
      let counts = h.counted.1 in (
        number_fits due test refl counts.0,
        record {
          bare = h.bare.1;
          new = new_front own taken (names_from (due + 1) ws) h.new.1;
          count = h.count;
          counted = subst (λ k. AreCounted k (names_from (due + 1) ws) h.count) counts.1 h.counted.2;
        },
      ))

  named : (x : Placed Name) → (Counts due x.what (due_after due x.what) → Ties (written_faults whole (x.what ∷ taken) (due_after due x.what) ws) (Rest (x.what ∷ taken) (due_after due x.what))) → Ties (own_name_faults whole taken due (Some x) true ++ written_faults whole (x.what ∷ taken) (due_after due x.what) ws) (StandInOrder taken due (record { name = Some x; defines = true } ∷ ws))
  named x rest =
      let next = due_after due x.what in
      let twice = unless (not (is_among x.what taken)) (at x reason.Twice) in
      let number = number_faults due x x.what in
      let more = written_faults whole (x.what ∷ taken) next ws in
      through ((twice ++ number) ++ more) (in_turn (twice ++ number) more (both twice number (twice_ties taken x) (number_ties due x x.what)) (λ h. rest h.1))
      (λ h. record {
        bare = (tt, h.1.bare);
        new = (h.0.0, new_end x.what taken (names_from next ws) h.1.new);
        count = h.1.count;
        counted = (next, h.0.1, h.1.counted);
      })
      (λ h.
      let is = counts_once due x.what h.counted.0 h.counted.1 in (
        (h.new.0, subst (Counts due x.what) is h.counted.1),
        record {
          bare = h.bare.1;
          new = new_front x.what taken (names_from next ws) h.new.1;
          count = h.count;
          counted = subst (λ k. AreCounted k (names_from next ws) h.count) is h.counted.2;
        },
      ))

pub written_ties : (whole : Placed Name) (taken : List Name) (due : ℕ) (ws : List Written) → AreBelow taken due → Ties (written_faults whole taken due ws) (StandInOrder taken due ws)
written_ties whole taken due [] below = none (record { bare = tt; new = tt; count = due; counted = refl })
written_ties whole taken due (w ∷ ws) below =
    by w.name w.defines (λ more next little. written_ties whole more next ws little)
  where
    by : (x : Option (Placed Name)) (b : Bool) → ((more : List Name) (next : ℕ) → AreBelow more next → Ties (written_faults whole more next ws) (StandInOrder more next ws)) → Ties (written_faults whole taken due (record { name = x; defines = b } ∷ ws)) (StandInOrder taken due (record { name = x; defines = b } ∷ ws))
    by x false rest = without whole taken due ws x (rest taken due below)
    by None true rest =
        let k = cond (nat_lt due (2 ^ 32)) due 0 in
        unnamed whole taken due ws below (rest (Number k ∷ taken) (due + 1) (below_number taken due k (small due (nat_lt due (2 ^ 32)) refl) below))
    by (Some x) true rest =
        named whole taken due ws x (λ counts. rest (x.what ∷ taken) (due_after due x.what) (below_name taken due x.what counts below))

-- ---- names that are all written

abbrev pub whats : List (Placed Name) → List Name
whats = map (λ (x : Placed Name). x.what)

pub new_ties : (taken : List Name) (xs : List (Placed Name)) → Ties (twice_faults taken xs) (AreNew taken (whats xs))
new_ties taken [] = none tt
new_ties taken (x ∷ xs) =
    let twice = unless (not (is_among x.what taken)) (at x reason.Twice) in
    let more = twice_faults (x.what ∷ taken) xs in
    through (twice ++ more) (both twice more (twice_ties taken x) (new_ties (x.what ∷ taken) xs)) (λ h. (h.0, new_end x.what taken (whats xs) h.1)) (λ h. (h.0, new_front x.what taken (whats xs) h.1))

abbrev pub IsCounted : ℕ → List Name → Type 0
IsCounted due names = (count : ℕ) × AreCounted due names count

pub counted_ties : (due : ℕ) (xs : List (Placed Name)) → Ties (due_faults due xs) (IsCounted due (whats xs))
counted_ties due [] = none (due, refl)
counted_ties due (x ∷ xs) =
    let next = due_after due x.what in
    let number = number_faults due x x.what in
    let more = due_faults next xs in
    through (number ++ more) (both number more (number_ties due x x.what) (counted_ties next xs)) (λ h. (h.1.0, (next, h.0, h.1.1)))
    (λ h.
    let is = counts_once due x.what h.1.0 h.1.1 in
    (subst (Counts due x.what) is h.1.1, (h.0, subst (λ k. AreCounted k (whats xs) h.0) is h.1.2)))
