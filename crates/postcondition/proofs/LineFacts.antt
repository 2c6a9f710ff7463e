-- What a line adds to a side, and how an aligned line goes on, within the limit on facts.
use Rattle.std.proofs.Common.{◌≡◌, ◌∙◌, ℕ, zero, suc, Bool, true, false, ◌&&◌, ◌||◌, arith, nat_eq, nat_lt, cond, not, List, [], ◌∷◌, ◌++◌, map, Option, None, Some, refl, sym, ap, ap₂}
use Rattle.std.proofs.lemmas.Bool.Decides.{nat_tests}
use Rattle.std.specs.List.{list_any, flat_map}
use Rattle.std.specs.Option.{is_none}
use Rattle.ir_types.specs.declared.names.Name.{Name}
use Rattle.ir_types.specs.declared.named.NamedTy.{NamedTy}
use Rattle.ir_core.specs.declared.operands.Atom.{Atom}
use Rattle.ir_core.specs.declared.operands.Atom.TheVariants as atom
use Rattle.ir_core.specs.declared.operands.Operand.{Operand}
use Rattle.ir_core.specs.declared.functions.Argument.{Argument}
use Rattle.ir_core.specs.declared.functions.Calm.{Calm}
use Rattle.ir_core.specs.declared.functions.Instr.{Instr}
use Rattle.ir_core.specs.declared.functions.Instr.TheVariants as line
use Rattle.ir_core.specs.declared.values.Kind.{Kind}
use Rattle.ir_core.specs.declared.expressions.Expr.{Expr}
use Rattle.ir_core.specs.declared.expressions.Load.{Load as LoadOf}
use Rattle.ir_core.specs.declared.operands.Const.TheVariants.{Undef}
use Rattle.ir_core.specs.Functions.{name_set}
use Rattle.ir_core.specs.Types.{kind_of}
use Rattle.ir_types.specs.declared.ty.Ty.{Ty}
use Rattle.ir_machine.specs.Registers.{align_or}
use Rattle.erhl_assert.specs.Matched.{now_operand}
use Rattle.ir_core.specs.declared.expressions.Expr.TheVariants as expr
use Rattle.ir_core.specs.declared.expressions.Reg.{Reg}
use Rattle.ir_core.specs.declared.expressions.Reg.TheVariants.{Now}
use Rattle.ir_core.specs.Expressions.{Expr0, map_expr}
use Rattle.erhl_assert.specs.declared.facts.Fact.{Fact}
use Rattle.erhl_assert.specs.declared.facts.Fact.TheVariants.{LessDef, Unique, Private, NoAlias, Ok}
use Rattle.erhl_assert.specs.declared.facts.Assertion.{Assertion}
use Rattle.erhl_assert.specs.declared.facts.Side.{Side}
use Rattle.erhl_assert.specs.declared.facts.Side.TheVariants.{Src, Tgt}
use Rattle.erhl_assert.specs.declared.fact_set.Kill.{Kill}
use Rattle.erhl_assert.specs.declared.fact_set.Kill.TheVariants as kill
use Rattle.erhl_assert.specs.Facts.{both_ways, expr_names, on_side}
use Rattle.erhl_assert.specs.Kills.{all_killed, is_unique_of, killed, unique_of}
use Rattle.erhl_assert.specs.Alignment.{Line}
use Rattle.erhl_assert.specs.Course.{Course, Ends, Gives, gives, and_then, are_too_many, within}
use Rattle.erhl_assert.specs.Allowed.{line_fault}
use Rattle.erhl_assert.specs.Growth.{adds, adds_all, facts_of, over_side, over_allowed, over_line}
use Rattle.erhl_assert.specs.Postcondition.{accessed, accessed_by, calm_adds, changing, copied_by, line_adds, line_kills, naming, slot_adds, store_adds, with_align, right_side, left_side, diff_after, after_line}
use Rattle.erhl_assert.proofs.Courses.{going_on, within_more, within_none, side_keeps_diff, allowed_ends, line_allowed}
use Rattle.fact_sets.specs.ErhlSides.Joining.{says_unique}
use Rattle.postcondition.specs.LineCourses.{access_at, access_in, are_agreed, diff_by, is_slot}
use Rattle.postcondition.proofs.EdgeCrossing.Copying.{all_two}

-- ---- what goes
pub nothing_killed : (side : Side) (known : Assertion) → known ≡ on_side side (all_killed []) known
nothing_killed Src known = refl
nothing_killed Tgt known = refl

pub killed_then : (ks ls : List Kill) (fs : List Fact) → all_killed (ks ++ ls) fs ≡ all_killed ls (all_killed ks fs)
killed_then [] ls fs = refl
killed_then (k ∷ ks) ls fs = killed_then ks ls (killed k fs)

killed_more : (side : Side) (ks ls : List Kill) (known after last : Assertion)
    → after ≡ on_side side (all_killed ks) known → last ≡ on_side side (all_killed ls) after → last ≡ on_side side (all_killed (ks ++ ls)) known
killed_more Src ks ls known after last first then =
    then ∙ ap (on_side Src (all_killed ls)) first ∙ ap (λ fs. record known { src = fs }) (sym (killed_then ks ls known.src))
killed_more Tgt ks ls known after last first then =
    then ∙ ap (on_side Tgt (all_killed ls)) first ∙ ap (λ fs. record known { tgt = fs }) (sym (killed_then ks ls known.tgt))

none_more : {X : Type 0} (xs : List X) → xs ++ [] ≡ xs
none_more [] = refl
none_more (x ∷ xs) = ap (λ ys. x ∷ ys) (none_more xs)

module _ (side : Side) (a : Atom Name) (xs : List (Atom Name)) (known after last : Assertion) where
  pub shared_more : after ≡ on_side side (all_killed (flat_map unique_of (a ∷ []))) known → last ≡ on_side side (all_killed (flat_map unique_of xs)) after
      → last ≡ on_side side (all_killed (flat_map unique_of (a ∷ xs))) known
  shared_more first then =
      killed_more side (unique_of a) (flat_map unique_of xs) known after last (first ∙ ap (λ ks. on_side side (all_killed ks) known) (none_more (unique_of a))) then

pub shared_two : (side : Side) (a b : Atom Name) (known after last : Assertion)
    → after ≡ on_side side (all_killed (flat_map unique_of (a ∷ []))) known → last ≡ on_side side (all_killed (flat_map unique_of (b ∷ []))) after
    → last ≡ on_side side (all_killed (flat_map unique_of (a ∷ b ∷ []))) known
shared_two side a b known after last first then = shared_more side a (b ∷ []) known after last first then

pub shared_three : (side : Side) (a b c : Atom Name) (known after last : Assertion)
    → after ≡ on_side side (all_killed (flat_map unique_of (a ∷ []))) known → last ≡ on_side side (all_killed (flat_map unique_of (b ∷ c ∷ []))) after
    → last ≡ on_side side (all_killed (flat_map unique_of (a ∷ b ∷ c ∷ []))) known
shared_three side a b c known after last first then = shared_more side a (b ∷ c ∷ []) known after last first then

-- a walk over operands
abbrev atoms : List (Operand Name) → List (Atom Name)
atoms os = map (λ (o : Operand Name). o.atom) os

abbrev pub shared : Side → List (Operand Name) → Assertion → Assertion
shared side os known = on_side side (all_killed (flat_map unique_of (atoms os))) known

pub shared_on : (side : Side) (o : Operand Name) (os : List (Operand Name)) (known after all : Assertion)
    → after ≡ on_side side (all_killed (flat_map unique_of (o.atom ∷ []))) known → shared side (o ∷ os) known ≡ all → shared side os after ≡ all
shared_on side o os known after all first so_far =
    shared_more side o.atom (atoms os) known after (shared side os after) first refl ∙ so_far

-- where no register is said to be unique, no copy takes anything
none_unique : (p q : Bool) → (p || q) ≡ false → (p ≡ false) × (q ≡ false)
none_unique true q h = absurd (cc)
none_unique false q h = (refl, h)

pub not_it : (r : Reg) (f : Fact) → says_unique f ≡ false → is_unique_of r f ≡ false
not_it r (Unique q) h = absurd (cc)
not_it r (Private q) h = refl
not_it r (LessDef a b) h = refl
not_it r (NoAlias a b) h = refl
not_it r (Ok e t align) h = refl

kept_all : (r : Reg) (fs : List Fact) → list_any says_unique fs ≡ false → killed (kill.Unique r) fs ≡ fs
kept_all r [] h = refl
kept_all r (f ∷ fs) h =
    let two = none_unique (says_unique f) (list_any says_unique fs) h in
    ap (λ b. cond (not b) (f ∷ killed (kill.Unique r) fs) (killed (kill.Unique r) fs)) (not_it r f two.0) ∙ ap (λ gs. f ∷ gs) (kept_all r fs two.1)

one_kept : (a : Atom Name) (fs : List Fact) → list_any says_unique fs ≡ false → all_killed (unique_of a) fs ≡ fs
one_kept (atom.Constant c) fs h = refl
one_kept (atom.Register x) fs h = kept_all (Now x) fs h

all_kept : (xs : List (Atom Name)) (fs : List Fact) → list_any says_unique fs ≡ false → all_killed (flat_map unique_of xs) fs ≡ fs
all_kept [] fs h = refl
all_kept (a ∷ xs) fs h =
    killed_then (unique_of a) (flat_map unique_of xs) fs ∙ ap (all_killed (flat_map unique_of xs)) (one_kept a fs h) ∙ all_kept xs fs h

pub none_shared : (side : Side) (xs : List (Atom Name)) (known : Assertion) → list_any says_unique (facts_of side known) ≡ false
    → known ≡ on_side side (all_killed (flat_map unique_of xs)) known
none_shared Src xs known h = ap (λ fs. record known { src = fs }) (sym (all_kept xs known.src h))
none_shared Tgt xs known h = ap (λ fs. record known { tgt = fs }) (sym (all_kept xs known.tgt h))

pub line_killed : (side : Side) (l : Instr) (known after more last : Assertion)
    → after ≡ on_side side (all_killed (naming (name_set l))) known → more ≡ on_side side (all_killed (flat_map unique_of (copied_by l))) after
    → last ≡ on_side side (all_killed (changing l)) more → last ≡ on_side side (all_killed (line_kills l)) known
line_killed side l known after more last first second third =
    killed_more side (naming (name_set l)) (flat_map unique_of (copied_by l) ++ changing l) known after last first
    (killed_more side (flat_map unique_of (copied_by l)) (changing l) after more last second third)

-- a walk over arguments
abbrev passed : List Argument → List (Atom Name)
passed xs = map (λ (a : Argument). a.operand.atom) xs

abbrev pub shared_passed : Side → List Argument → Assertion → Assertion
shared_passed side xs known = on_side side (all_killed (flat_map unique_of (passed xs))) known

pub passed_on : (side : Side) (a : Argument) (xs : List Argument) (known after all : Assertion)
    → after ≡ on_side side (all_killed (flat_map unique_of (a.operand.atom ∷ []))) known → shared_passed side (a ∷ xs) known ≡ all → shared_passed side xs after ≡ all
passed_on side a xs known after all first so_far =
    shared_more side a.operand.atom (passed xs) known after (shared_passed side xs after) first refl ∙ so_far

-- ---- what comes
module _ (side : Side) (f : Fact) (known after : Assertion) (few : Bool) where
  pub one_added : few ≡ true → within (adds side f known) ≡ cond few (Some (Gives after)) None → within (adds_all side (f ∷ []) known) ≡ Some (Gives after)
  one_added e h = within_more (adds side f known) (adds_all side []) after (h ∙ ap (λ b. cond b (Some (Gives after)) None) e)

  pub one_too_many : few ≡ false → within (adds side f known) ≡ cond few (Some (Gives after)) None → within (adds_all side (f ∷ []) known) ≡ None
  one_too_many e h = within_none (adds side f known) (adds_all side []) (h ∙ ap (λ b. cond b (Some (Gives after)) None) e)

module _ (side : Side) (fs gs : List Fact) (known : Assertion) where
  pub all_added : (half after : Assertion) → within (adds_all side fs known) ≡ Some (Gives half) → within (adds_all side gs half) ≡ Some (Gives after)
      → within (adds_all side (fs ++ gs) known) ≡ Some (Gives after)
  all_added half after first then = all_two side fs gs known ∙ ap (λ o. going_on o (λ a. within (adds_all side gs a))) first ∙ then

  pub first_over : within (adds_all side fs known) ≡ None → within (adds_all side (fs ++ gs) known) ≡ None
  first_over first = all_two side fs gs known ∙ ap (λ o. going_on o (λ a. within (adds_all side gs a))) first

  pub second_over : (half : Assertion) → within (adds_all side fs known) ≡ Some (Gives half) → within (adds_all side gs half) ≡ None
      → within (adds_all side (fs ++ gs) known) ≡ None
  second_over half first then = all_two side fs gs known ∙ ap (λ o. going_on o (λ a. within (adds_all side gs a))) first ∙ then

-- a fact, and then others
module _ (side : Side) (f : Fact) (gs : List Fact) (known : Assertion) where
  pub then_added : (half after : Assertion) → within (adds_all side (f ∷ []) known) ≡ Some (Gives half) → within (adds_all side gs half) ≡ Some (Gives after)
      → within (adds_all side (f ∷ gs) known) ≡ Some (Gives after)
  then_added half after first then = all_added side (f ∷ []) gs known half after first then

  pub fact_over : within (adds_all side (f ∷ []) known) ≡ None → within (adds_all side (f ∷ gs) known) ≡ None
  fact_over first = first_over side (f ∷ []) gs known first

  pub then_over : (half : Assertion) → within (adds_all side (f ∷ []) known) ≡ Some (Gives half) → within (adds_all side gs half) ≡ None
      → within (adds_all side (f ∷ gs) known) ≡ None
  then_over half first then = second_over side (f ∷ []) gs known half first then

-- a load that gets its alignment names what it named
named_as : (types : List NamedTy) (r : Reg) (e : Expr0) → expr_names r (with_align types e) ≡ expr_names r e
named_as types r (expr.Load l) = refl
named_as types r (expr.Plain o) = refl
named_as types r (expr.Binary b) = refl
named_as types r (expr.Icmp c) = refl
named_as types r (expr.Cast c) = refl
named_as types r (expr.Select s) = refl
named_as types r (expr.Element e) = refl

module _ (types : List NamedTy) (l : Calm) where
  abbrev equation : List Fact
  equation = both_ways (left_side l) (right_side types l)

  abbrev is_own : Bool
  is_own = expr_names (Now l.name) (map_expr Now l.right)

  load_access : (b : Bool) (o : Option Kind) (a : LoadOf Name) → expr_names (Now l.name) (map_expr Now (expr.Load a)) ≡ b
      → accessed o l.name a.of (now_operand a.pointer) (align_or types a.of a.align) ≡ cond b [] (access_at o types a)
  load_access true None a h = refl
  load_access false None a h = refl
  load_access b (Some k) a h = ap (λ c. cond c [] (access_at (Some k) types a)) h

  access_of : (b : Bool) (e : Expr Name) → expr_names (Now l.name) (map_expr Now e) ≡ b → accessed_by types l e ≡ cond b [] (access_in types e)
  access_of b (expr.Load a) h = load_access b (kind_of a.of) a h
  access_of true (expr.Plain o) h = refl
  access_of false (expr.Plain o) h = refl
  access_of true (expr.Binary o) h = refl
  access_of false (expr.Binary o) h = refl
  access_of true (expr.Icmp o) h = refl
  access_of false (expr.Icmp o) h = refl
  access_of true (expr.Cast o) h = refl
  access_of false (expr.Cast o) h = refl
  access_of true (expr.Select o) h = refl
  access_of false (expr.Select o) h = refl
  access_of true (expr.Element o) h = refl
  access_of false (expr.Element o) h = refl

  comes : (b : Bool) → is_own ≡ b → calm_adds types l ≡ cond b [] equation ++ cond b [] (access_in types l.right)
  comes b h = ap₂ (λ (xs ys : List Fact). xs ++ ys) (ap (λ c. cond c [] equation) (named_as types (Now l.name) (map_expr Now l.right) ∙ h)) (access_of b l.right h)

  module _ (side : Side) (known : Assertion) where
    pub line_added : is_own ≡ false → adds_all side (calm_adds types l) known ≡ adds_all side (equation ++ access_in types l.right) known
    line_added h = ap (λ (fs : List Fact). adds_all side fs known) (comes false h)

    pub line_not_added : is_own ≡ true → within (adds_all side (calm_adds types l) known) ≡ Some (Gives known)
    line_not_added h = ap (λ (fs : List Fact). within (adds_all side fs known)) (comes true h)

-- a slot, and what is none
pub slots : (o : Option Kind) (count : ℕ) (t : Ty) (p : Operand Reg) (align : ℕ)
    → slot_adds o count t p align ≡ cond (is_slot o count align) (store_adds t (record { ty = t; atom = atom.Constant Undef }) p align) []
slots None count t p align = refl
slots (Some k) zero t p align = refl
slots (Some k) (suc count) t p align = ap (λ b. cond b (store_adds t (record { ty = t; atom = atom.Constant Undef }) p align) []) (tested count align)
  where
    tested : (count align : ℕ) → nat_lt 0 align ≡ (not (nat_eq (suc count) 0) && not (nat_eq align 0))
    tested count align = grind (arith, nat_tests)

pub killed_and_added : (types : List NamedTy) (one_sided : Bool) (side : Side) (l : Instr) (known kept : Assertion) → kept ≡ on_side side (all_killed (line_kills l)) known
    → over_side types one_sided side (Some l) known ≡ adds_all side (line_adds types one_sided l) kept
killed_and_added types one_sided side l known kept at = ap (adds_all side (line_adds types one_sided l)) (sym at)

-- ---- an aligned line
diff_is : (known : Assertion) (s t : Option Instr) → diff_after known s t ≡ diff_by (are_agreed known s t) s t known.diff
diff_is known None None = refl
diff_is known None (Some (line.Calm t)) = refl
diff_is known None (Some (line.Alloca t)) = refl
diff_is known None (Some (line.Store t)) = refl
diff_is known None (Some (line.Call t)) = refl
diff_is known (Some (line.Calm s)) None = refl
diff_is known (Some (line.Calm s)) (Some (line.Calm t)) = refl
diff_is known (Some (line.Calm s)) (Some (line.Alloca t)) = refl
diff_is known (Some (line.Calm s)) (Some (line.Store t)) = refl
diff_is known (Some (line.Calm s)) (Some (line.Call t)) = refl
diff_is known (Some (line.Alloca s)) None = refl
diff_is known (Some (line.Alloca s)) (Some (line.Calm t)) = refl
diff_is known (Some (line.Alloca s)) (Some (line.Alloca t)) = refl
diff_is known (Some (line.Alloca s)) (Some (line.Store t)) = refl
diff_is known (Some (line.Alloca s)) (Some (line.Call t)) = refl
diff_is known (Some (line.Store s)) t = refl
diff_is known (Some (line.Call s)) t = refl

module _ (types : List NamedTy) (known : Assertion) (s t : Option Instr) where
  abbrev last_of : Assertion → Course Assertion
  last_of after = gives (record after { diff = diff_after known s t })

  pub all_done : (half after last : Assertion) (agreed : Bool) → agreed ≡ are_agreed known s t
      → within (over_side types (is_none t) Src s known) ≡ Some (Gives half) → within (over_side types (is_none s) Tgt t half) ≡ Some (Gives after)
      → last ≡ record after { diff = diff_by agreed s t after.diff }
      → within (over_allowed types (record { source = s; target = t }) known) ≡ Some (Gives last)
  all_done half after last agreed is first second at =
      within_more (over_side types (is_none t) Src s known) (λ half. and_then (over_side types (is_none s) Tgt t half) last_of) half first
      ∙ within_more (over_side types (is_none s) Tgt t half) last_of after second
      ∙ ap (λ d. Some (Gives (record after { diff = d }))) (diff_is known s t)
      ∙ ap (λ a. Some (Gives a)) (sym (at
      ∙ ap (λ d. record after { diff = diff_by agreed s t d })
      (side_keeps_diff types (is_none s) Tgt t half after second ∙ side_keeps_diff types (is_none t) Src s known half first)
      ∙ ap (λ b. record after { diff = diff_by b s t known.diff }) is))

  pub source_over : within (over_side types (is_none t) Src s known) ≡ None → within (over_allowed types (record { source = s; target = t }) known) ≡ None
  source_over h = within_none (over_side types (is_none t) Src s known) (λ half. and_then (over_side types (is_none s) Tgt t half) last_of) h

  pub target_over : (half : Assertion) → within (over_side types (is_none t) Src s known) ≡ Some (Gives half) → within (over_side types (is_none s) Tgt t half) ≡ None
      → within (over_allowed types (record { source = s; target = t }) known) ≡ None
  target_over half first h =
      within_more (over_side types (is_none t) Src s known) (λ half. and_then (over_side types (is_none s) Tgt t half) last_of) half first
      ∙ within_none (over_side types (is_none s) Tgt t half) last_of h

-- what is within the limit, and what isn't
parts_at : (b : Bool) (e : Ends Assertion) (known : Assertion) → cond b None (Some e) ≡ Some (Gives known) → (b ≡ false) × (e ≡ Gives known)
parts_at true e known h = absurd (cc)
parts_at false e known h = (refl, cc)

passed_at : (b : Bool) (e : Ends Assertion) → cond b None (Some e) ≡ None → b ≡ true
passed_at true e h = refl
passed_at false e h = absurd (cc)

pub known_after : (types : List NamedTy) (l : Line) (known after : Assertion) → within (over_allowed types l known) ≡ Some (Gives after) → after ≡ after_line types known l
known_after types l known after h =
    let e : Gives after ≡ Gives (after_line types known l) =
    sym (parts_at (are_too_many (over_allowed types l known).sizes) (over_allowed types l known).ends after h).1 ∙ allowed_ends types l known in
    cc

sizes_same : (types : List NamedTy) (l : Line) (known : Assertion) (b : Bool) → line_fault types known l ≡ None → are_too_many (over_allowed types l known).sizes ≡ b
    → are_too_many (over_line types l known).sizes ≡ b
sizes_same types l known b allowed h = ap (λ (c : Course Assertion). are_too_many c.sizes) (line_allowed types l known allowed) ∙ h

pub few_after : (types : List NamedTy) (l : Line) (known after : Assertion) → line_fault types known l ≡ None → within (over_allowed types l known) ≡ Some (Gives after)
    → are_too_many (over_line types l known).sizes ≡ false
few_after types l known after allowed h =
    sizes_same types l known false allowed (parts_at (are_too_many (over_allowed types l known).sizes) (over_allowed types l known).ends after h).0

pub too_many_after : (types : List NamedTy) (l : Line) (known : Assertion) → line_fault types known l ≡ None → within (over_allowed types l known) ≡ None
    → are_too_many (over_line types l known).sizes ≡ true
too_many_after types l known allowed h = sizes_same types l known true allowed (passed_at (are_too_many (over_allowed types l known).sizes) (over_allowed types l known).ends h)
