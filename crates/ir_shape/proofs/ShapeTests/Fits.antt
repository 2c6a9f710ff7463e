-- What the tests of one line and one terminator say, and what is so of them where the tests are passed.
use Rattle.std.proofs.Common.{◌≡◌, ◌∙◌, ◌||◌, ⊎_elim, ℕ, suc, zero, ◌<◌, Bool, true, false, not, nat_eq, List, [], ◌∷◌, ◌++◌, length, map, get_or, None, refl, sym, ap, subst, arith, if◌then◌else◌}
use Rattle.std.proofs.lemmas.Bool.{or_cases, or_left, or_right}
use Rattle.std.specs.List.{AllByRecursion, Contains, filter, list_all, list_any}
use Rattle.ir_core.specs.declared.expressions.Expr.{Expr}
use Rattle.ir_core.specs.declared.expressions.Expr.TheVariants as expr
use Rattle.ir_core.specs.declared.functions.Block.{Block}
use Rattle.ir_core.specs.declared.functions.Case.{Case}
use Rattle.ir_core.specs.declared.functions.Term.{Term}
use Rattle.ir_core.specs.declared.functions.Term.TheVariants as term
use Rattle.ir_core.specs.declared.modules.Module.{Module}
use Rattle.ir_types.specs.declared.names.Name.{Name}
use Rattle.ir_types.specs.declared.ty.Ty.{Ty}
use Rattle.ir_types.specs.declared.ty.Ty.TheVariants as ty
use Rattle.ir_core.specs.Functions.{successors_of}
use Rattle.ir_types.specs.NameLaws.{same_nat_refl, same_nat_true}
use Rattle.ir_core.specs.Order.{AreNew}
use Rattle.ir_types.specs.Same.{same_name, same_ty}
use Rattle.ir_core.specs.WellFormed.{BranchesOn, HasCases, IsElement, IsOperator, IsResult, Returns}
use Rattle.ir_types.proofs.SameLaws.{same_ty_refl, same_ty_true}
use Rattle.ir_shape.specs.ShapeTests.Kinds.{are_apart, branch_fits, cases_fit, is_result, leads_to, numbers_of, return_fits, right_kind}
use Rattle.ir_shape.proofs.ShapeTests.Tests.{both_hold, both_left, both_right, fits_by, none_by, not_true}

-- ---- tests and what they say

same_by : (a b : Ty) → a ≡ b → same_ty a b ≡ true
same_by a b e = subst (λ t. same_ty a t ≡ true) e (same_ty_refl a)

-- where it is an address, it is one beside the module
abbrev pub IsAddressed : Module → Expr Name → Type 0
IsAddressed m (expr.Plain o) = Unit {0}
IsAddressed m (expr.Binary b) = Unit {0}
IsAddressed m (expr.Icmp c) = Unit {0}
IsAddressed m (expr.Cast c) = Unit {0}
IsAddressed m (expr.Select s) = Unit {0}
IsAddressed m (expr.Element e) = IsElement m e
IsAddressed m (expr.Load l) = Unit {0}

pub operator_by : (m : Module) (e : Expr Name) → right_kind e ≡ None → IsAddressed m e → IsOperator m e
operator_by m (expr.Plain o) none addressed = cc
operator_by m (expr.Binary b) none addressed = fits_by _ _ none
operator_by m (expr.Icmp c) none addressed = fits_by _ _ none
operator_by m (expr.Cast c) none addressed = fits_by _ _ none
operator_by m (expr.Select s) none addressed =
    let both = fits_by _ _ none in
    (same_ty_true s.condition.ty (ty.Int 1) (both_left _ _ both), same_ty_true s.left.ty s.right.ty (both_right _ _ both))
operator_by m (expr.Element e) none addressed = addressed
operator_by m (expr.Load l) none addressed =
    let both = fits_by _ _ none in
    (same_ty_true l.pointer.ty (ty.Ptr l.of) (both_left _ _ both), both_right _ _ both)

pub operator_is : (m : Module) (e : Expr Name) → IsOperator m e → right_kind e ≡ None
operator_is m (expr.Plain o) is = absurd is
operator_is m (expr.Binary b) is = none_by _ _ is
operator_is m (expr.Icmp c) is = none_by _ _ is
operator_is m (expr.Cast c) is = none_by _ _ is
operator_is m (expr.Select s) is = none_by _ _ (both_hold _ _ (same_by s.condition.ty (ty.Int 1) is.0) (same_by s.left.ty s.right.ty is.1))
operator_is m (expr.Element e) is = refl
operator_is m (expr.Load l) is = none_by _ _ (both_hold _ _ (same_by l.pointer.ty (ty.Ptr l.of) is.0) is.1)

-- the other way round, of an address
pub addressed_is : (m : Module) (e : Expr Name) → IsOperator m e → IsAddressed m e
addressed_is m (expr.Plain o) is = tt
addressed_is m (expr.Binary b) is = tt
addressed_is m (expr.Icmp c) is = tt
addressed_is m (expr.Cast c) is = tt
addressed_is m (expr.Select s) is = tt
addressed_is m (expr.Element e) is = is
addressed_is m (expr.Load l) is = tt

pub return_by : (result : Ty) (t : Term) → return_fits result t ≡ true → Returns result t
return_by result (term.Ret o) fits = same_ty_true o.ty result fits
return_by result term.RetVoid fits = same_ty_true result ty.Void fits
return_by result (term.Br label) fits = tt
return_by result (term.CondBr c) fits = tt
return_by result (term.Switch s) fits = tt
return_by result term.Unreachable fits = tt

pub return_is : (result : Ty) (t : Term) → Returns result t → return_fits result t ≡ true
return_is result (term.Ret o) is = same_by o.ty result is
return_is result term.RetVoid is = same_by result ty.Void is
return_is result (term.Br label) is = refl
return_is result (term.CondBr c) is = refl
return_is result (term.Switch s) is = refl
return_is result term.Unreachable is = refl

pub branch_by : (t : Term) → branch_fits t ≡ true → BranchesOn t
branch_by (term.Ret o) fits = tt
branch_by term.RetVoid fits = tt
branch_by (term.Br label) fits = tt
branch_by (term.CondBr c) fits = same_ty_true c.condition.ty (ty.Int 1) fits
branch_by (term.Switch s) fits = fits
branch_by term.Unreachable fits = tt

pub branch_is : (t : Term) → BranchesOn t → branch_fits t ≡ true
branch_is (term.Ret o) is = refl
branch_is term.RetVoid is = refl
branch_is (term.Br label) is = refl
branch_is (term.CondBr c) is = same_by c.condition.ty (ty.Int 1) is
branch_is (term.Switch s) is = is
branch_is term.Unreachable is = refl

pub result_by : (t : Ty) → is_result t ≡ true → IsResult t
result_by (ty.Int width) fits = refl
result_by ty.Void fits = tt
result_by t fits = fits

pub result_is : (t : Ty) → IsResult t → is_result t ≡ true
result_is (ty.Int width) is = refl
result_is ty.Void is = refl
result_is t is = is

-- ---- cases

typed_by : (value : Ty) (cs : List Case) → list_all (λ (c : Case). same_ty c.ty value) cs ≡ true → AllByRecursion (λ (c : Case). c.ty ≡ value) cs
typed_by value [] e = tt
typed_by value (c ∷ cs) e = (same_ty_true c.ty value (both_left _ _ e), typed_by value cs (both_right _ _ e))

typed_is : (value : Ty) (cs : List Case) → AllByRecursion (λ (c : Case). c.ty ≡ value) cs → list_all (λ (c : Case). same_ty c.ty value) cs ≡ true
typed_is value [] all = refl
typed_is value (c ∷ cs) all = both_hold _ _ (same_by c.ty value all.0) (typed_is value cs all.1)

seen_there : (n : ℕ) (seen : List ℕ) (k : ℕ) → k < length seen → get_or seen k n ≡ n → list_any (nat_eq n) seen ≡ true
seen_there n [] k within is = absurd (omega arith)
seen_there n (m ∷ seen) zero within is = or_left (nat_eq n m) (list_any (nat_eq n) seen) (ap (nat_eq n) is ∙ same_nat_refl n)
seen_there n (m ∷ seen) (suc k) within is = or_right (nat_eq n m) (list_any (nat_eq n) seen) (seen_there n seen k (omega arith) is)

there_seen : (n : ℕ) (seen : List ℕ) → list_any (nat_eq n) seen ≡ true → Contains seen n
there_seen n [] e = cc
there_seen n (m ∷ seen) e =
    ⊎_elim (λ here. (0, omega arith, sym (same_nat_true n m here)))
    (λ later. let more = there_seen n seen later in (suc more.0, omega (arith, more.1), more.2)) (or_cases (nat_eq n m) (list_any (nat_eq n) seen) e)

apart_by : (seen ns : List ℕ) → are_apart seen ns ≡ true → AreNew seen ns
apart_by seen [] e = tt
apart_by seen (n ∷ ns) e =
    let new = not_true (list_any (nat_eq n) seen) (both_left _ _ e) in
    (λ there. let yes = seen_there n seen there.0 there.1 there.2 in absurd (cc), apart_by (seen ++ n ∷ []) ns (both_right _ _ e))

apart_is : (seen ns : List ℕ) → AreNew seen ns → are_apart seen ns ≡ true
apart_is seen [] new = refl
apart_is seen (n ∷ ns) new = both_hold _ _ (go (list_any (nat_eq n) seen) refl) (apart_is (seen ++ n ∷ []) ns new.1)
  where
    go : (b : Bool) → list_any (nat_eq n) seen ≡ b → not (list_any (nat_eq n) seen) ≡ true
    go true e = absurd (new.0 (there_seen n seen e))
    go false e = ap not e

pub cases_by : (t : Term) → cases_fit t ≡ true → HasCases t
cases_by (term.Ret o) fits = tt
cases_by term.RetVoid fits = tt
cases_by (term.Br label) fits = tt
cases_by (term.CondBr c) fits = tt
cases_by (term.Switch s) fits = record {
  typed = typed_by s.value.ty s.cases (both_left _ _ fits);
  apart = apart_by [] (numbers_of s.value.ty s.cases) (both_right _ _ fits);
}
cases_by term.Unreachable fits = tt

pub cases_is : (t : Term) → HasCases t → cases_fit t ≡ true
cases_is (term.Ret o) is = refl
cases_is term.RetVoid is = refl
cases_is (term.Br label) is = refl
cases_is (term.CondBr c) is = refl
cases_is (term.Switch s) is = both_hold _ _ (typed_is s.value.ty s.cases is.typed) (apart_is [] (numbers_of s.value.ty s.cases) is.apart)
cases_is term.Unreachable is = refl

-- ---- edges into a block

none_filtered : {A : Type 0} (p : A → Bool) (xs : List A) → list_any p xs ≡ false → filter p xs ≡ []
none_filtered p [] e = refl
none_filtered p (x ∷ xs) e =
    (elim (p x) as (λ b. (b || list_any p xs) ≡ false → (if b then (x ∷ filter p xs) else filter p xs) ≡ []) [
      | true ↦ λ e. absurd (cc)
      | false ↦ λ e. none_filtered p xs e
    ]) e

filtered_none : {A : Type 0} (p : A → Bool) (xs : List A) → filter p xs ≡ [] → list_any p xs ≡ false
filtered_none p [] e = refl
filtered_none p (x ∷ xs) e =
    (elim (p x) as (λ b. (if b then (x ∷ filter p xs) else filter p xs) ≡ [] → (b || list_any p xs) ≡ false) [
      | true ↦ λ e. absurd (cc)
      | false ↦ λ e. filtered_none p xs e
    ]) e

unmapped : {A B : Type 0} (g : A → B) (xs : List A) → map g xs ≡ [] → xs ≡ []
unmapped g [] e = refl
unmapped g (x ∷ xs) e = absurd (cc)

abbrev pub edges_from : Name → Block → List Name
edges_from name b = map (λ _. b.name) (filter (same_name name) (successors_of b.term))

pub no_edge : (name : Name) (b : Block) → leads_to name b.term ≡ false → edges_from name b ≡ []
no_edge name b e = ap (map (λ _. b.name)) (none_filtered (same_name name) (successors_of b.term) e)

pub edge_none : (name : Name) (b : Block) → edges_from name b ≡ [] → leads_to name b.term ≡ false
edge_none name b e = filtered_none (same_name name) (successors_of b.term) (unmapped (λ _. b.name) (filter (same_name name) (successors_of b.term)) e)
