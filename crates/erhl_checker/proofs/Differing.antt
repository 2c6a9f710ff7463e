-- Two modules differ exactly where their types, globals, declarations or signatures do, and are valid exactly where each pair is accepted.
use Rattle.std.proofs.Common.{◌≡◌, ◌∙◌, ◌&&◌, Bool, true, false, cond, List, [], ◌∷◌, map, Option, None, Some, refl, sym, subst, ap, ap₂}
use Rattle.std.proofs.lemmas.Bool.{false≢true}
use Rattle.std.specs.List.{AllByRecursion}
use Rattle.std.specs.Prelude.{◌↔◌, Result, Ok, Err, IfOk}
use Rattle.ir_machine.specs.Refinement.{Refines}
use Rattle.ir_types.specs.declared.named.NamedTy.{NamedTy}
use Rattle.ir_types.specs.declared.names.Name.{Name}
use Rattle.ir_types.specs.declared.ty.Ty.{Ty}
use Rattle.ir_core.specs.declared.functions.Function.{Function}
use Rattle.ir_core.specs.declared.functions.Param.{Param}
use Rattle.ir_core.specs.declared.modules.GlobalVar.{GlobalVar}
use Rattle.ir_core.specs.declared.modules.Module.{Module}
use Rattle.ir_types.specs.Same.{same_list, same_name, same_ty}
use Rattle.ir_types.proofs.SameLaws.{same_ty_true, same_ty_refl}
use Rattle.ir_core.specs.Modules.{definitions_of, declarations_of}
use Rattle.ir_values.specs.Constants.{Scope}
use Rattle.ir_machine.specs.State.{scope_of}
use Rattle.ir_types.specs.NameLaws.{left_true, right_true, all_true, same_list_true, same_list_refl, same_name_true, same_name_refl}
use Rattle.erhl_assert.specs.declared.hints.Hints.{Hints}
use Rattle.erhl_assert.specs.declared.verdict.Verdict.{Verdict}
use Rattle.erhl_assert.specs.declared.verdict.Verdict.TheVariants as verdict
use Rattle.erhl_assert.specs.declared.verdict.Difference.{Difference}
use Rattle.erhl_assert.specs.declared.verdict.Difference.TheVariants as difference
use Rattle.erhl_assert.specs.declared.verdict.ModuleVerdict.{ModuleVerdict}
use Rattle.erhl_assert.specs.declared.verdict.ModuleVerdict.TheVariants as modules
use Rattle.erhl_assert.specs.Steps.{Rules, beside, AreSound}
use Rattle.erhl_assert.specs.Acceptance.{function_judged, function_answer, hint_for, of_function, functions_answer, definitions_answer, declarations_answer, globals_answer, module_answer, same_fields, same_named_type, same_signature, AreAcceptedUnder, AreAccepted, AreModulesAccepted}
use Rattle.erhl_soundness.specs.Laws.{ArePhisApart, AcceptedModulesRefine}
use Rattle.erhl_checker.specs.declared.checked_pair.ends.CheckEnd.{CheckEnd}
use Rattle.erhl_checker.specs.CheckedPair.Progress.{Answers}
use Rattle.erhl_assert.specs.Globals.{same_global, same_declaration, AreDeclaredAlike}
use Rattle.erhl_assert.proofs.Courses.{answer_is_good, good_answers}
use Rattle.erhl_assert.proofs.SameGlobals.{globals_true, globals_are, declarations_true, declarations_are}

-- parameters are compared by their types
pub same_types : (ps qs : List Param) → same_list (λ p q. same_ty p.ty q.ty) ps qs ≡ same_list same_ty (map (λ p. p.ty) ps) (map (λ p. p.ty) qs)
same_types [] [] = refl
same_types [] (q ∷ qs) = refl
same_types (p ∷ ps) [] = refl
same_types (p ∷ ps) (q ∷ qs) = ap (λ rest. same_ty p.ty q.ty && rest) (same_types ps qs)

of_function_same : (x : Name) (v : Option Verdict) (rest : Option ModuleVerdict) (d : Difference) → (rest ≡ Some (modules.Differs d) → ⊥)
    → of_function x v rest ≡ Some (modules.Differs d) → ⊥
of_function_same x None rest d h e = cc
of_function_same x (Some verdict.Valid) rest d h e = h e
of_function_same x (Some (verdict.Refused block where_ why)) rest d h e = cc

functions_never_differ : (rules : Rules) (scope : Scope) (hints : Hints) (fs gs : List Function) (d : Difference) → same_list same_signature fs gs ≡ true
    → functions_answer rules scope hints fs gs ≡ Some (modules.Differs d) → ⊥
functions_never_differ rules scope hints [] [] d same e = cc
functions_never_differ rules scope hints [] (g ∷ gs) d same e = absurd (false≢true same)
functions_never_differ rules scope hints (f ∷ fs) [] d same e = absurd (false≢true same)
functions_never_differ rules scope hints (f ∷ fs) (g ∷ gs) d same e =
    of_function_same f.name (function_answer (beside rules scope f g (hint_for hints f.name))) (functions_answer rules scope hints fs gs) d
    (functions_never_differ rules scope hints fs gs d (right_true (same_signature f g) (same_list same_signature fs gs) same)) e

of_function_valid : (x : Name) (v : Option Verdict) (rest : Option ModuleVerdict) → of_function x v rest ≡ Some modules.Valid
    → (v ≡ Some verdict.Valid) × (rest ≡ Some modules.Valid)
of_function_valid x None rest h = absurd (cc)
of_function_valid x (Some verdict.Valid) rest h = (refl, h)
of_function_valid x (Some (verdict.Refused block where_ why)) rest h = absurd (cc)

-- a function that is accepted leaves the answer to the others
of_function_good : (x : Name) (o : Option Verdict) → ((v : Verdict) → o ≡ Some v → v ≡ verdict.Valid) → (rest : Option ModuleVerdict) (m : ModuleVerdict)
    → of_function x o rest ≡ Some m → rest ≡ Some m
of_function_good x None good rest m h = absurd (cc)
of_function_good x (Some verdict.Valid) good rest m h = h
of_function_good x (Some (verdict.Refused block where_ why)) good rest m h = let e = good (verdict.Refused block where_ why) refl in absurd (cc)

module _ (rules : Rules) (scope : Scope) (hints : Hints) where
  valid_are_accepted : (fs gs : List Function) → same_list same_signature fs gs ≡ true → functions_answer rules scope hints fs gs ≡ Some modules.Valid
      → AreAcceptedUnder hints rules scope fs gs
  valid_are_accepted [] [] same valid = tt
  valid_are_accepted [] (g ∷ gs) same valid = absurd (false≢true same)
  valid_are_accepted (f ∷ fs) [] same valid = absurd (false≢true same)
  valid_are_accepted (f ∷ fs) (g ∷ gs) same valid =
      let pair = of_function_valid f.name (function_answer (beside rules scope f g (hint_for hints f.name))) (functions_answer rules scope hints fs gs) valid in (
        left_true (same_signature f g) (same_list same_signature fs gs) same,
        answer_is_good (function_judged (beside rules scope f g (hint_for hints f.name))) pair.0,
        valid_are_accepted fs gs (right_true (same_signature f g) (same_list same_signature fs gs) same) pair.1,
      )

  accepted_are_same : (fs gs : List Function) → AreAcceptedUnder hints rules scope fs gs → same_list same_signature fs gs ≡ true
  accepted_are_same [] [] h = refl
  accepted_are_same [] (g ∷ gs) h = absurd h
  accepted_are_same (f ∷ fs) [] h = absurd h
  accepted_are_same (f ∷ fs) (g ∷ gs) h = all_true h.0 (accepted_are_same fs gs h.2)

  accepted_are_valid : (fs gs : List Function) → AreAcceptedUnder hints rules scope fs gs → (m : ModuleVerdict) → functions_answer rules scope hints fs gs ≡ Some m → m ≡ modules.Valid
  accepted_are_valid [] [] h m e = cc
  accepted_are_valid [] (g ∷ gs) h m e = absurd h
  accepted_are_valid (f ∷ fs) [] h m e = absurd h
  accepted_are_valid (f ∷ fs) (g ∷ gs) h m e =
      accepted_are_valid fs gs h.2 m (of_function_good f.name (function_answer (beside rules scope f g (hint_for hints f.name)))
      (λ v. good_answers (function_judged (beside rules scope f g (hint_for hints f.name))) v h.1) (functions_answer rules scope hints fs gs) m e)

-- what the hints accept is accepted under some hint
pub accepted_under_some : (rules : Rules) (scope : Scope) (hints : Hints) (fs gs : List Function) → AreAcceptedUnder hints rules scope fs gs → AreAccepted rules scope fs gs
accepted_under_some rules scope hints [] [] h = tt
accepted_under_some rules scope hints [] (g ∷ gs) h = absurd h
accepted_under_some rules scope hints (f ∷ fs) [] h = absurd h
accepted_under_some rules scope hints (f ∷ fs) (g ∷ gs) h = (h.0, (hint_for hints f.name, h.1), accepted_under_some rules scope hints fs gs h.2)

-- ---- named types

fields_true : (ss ts : Option (List Ty)) → same_fields ss ts ≡ true → ss ≡ ts
fields_true None None e = refl
fields_true None (Some ts) e = absurd (false≢true e)
fields_true (Some ss) None e = absurd (false≢true e)
fields_true (Some ss) (Some ts) e = ap (λ fs. Some fs) (same_list_true same_ty same_ty_true ss ts e)

fields_refl : (ts : Option (List Ty)) → same_fields ts ts ≡ true
fields_refl None = refl
fields_refl (Some ts) = same_list_refl same_ty same_ty_refl ts

named_true : (s t : NamedTy) → same_named_type s t ≡ true → s ≡ t
named_true s t e =
    let name = same_name_true s.name t.name (left_true (same_name s.name t.name) (same_fields s.fields t.fields) e) in
    let fields = fields_true s.fields t.fields (right_true (same_name s.name t.name) (same_fields s.fields t.fields) e) in
    ap (λ (x : Name). record { name = x; fields = s.fields }) name ∙ ap (λ (fs : Option (List Ty)). record { name = t.name; fields = fs }) fields

named_refl : (t : NamedTy) → same_named_type t t ≡ true
named_refl t = all_true (same_name_refl t.name) (fields_refl t.fields)

types_true : (ss ts : List NamedTy) → same_list same_named_type ss ts ≡ true → ss ≡ ts
types_true = same_list_true same_named_type named_true

types_are : (ss ts : List NamedTy) → ss ≡ ts → same_list same_named_type ss ts ≡ true
types_are ss ts e = subst (λ us. same_list same_named_type ss us ≡ true) e (same_list_refl same_named_type named_refl ss)

-- of an answer that is the one on the functions of two modules
module _ (rules : Rules) (source target : Module) (hints : Hints) (v : ModuleVerdict) (is : definitions_answer rules source target hints ≡ Some v) where
  abbrev test : Bool
  test = same_list same_signature (definitions_of source) (definitions_of target)

  abbrev others : Option ModuleVerdict
  others = functions_answer rules (scope_of source) hints (definitions_of source) (definitions_of target)

  by_test : (b : Bool) → test ≡ b → cond b others (Some (modules.Differs difference.Functions)) ≡ Some v
  by_test b e = sym (ap (λ b. cond b others (Some (modules.Differs difference.Functions))) e) ∙ is

  accepted_where : v ≡ modules.Valid ↔ AreAcceptedUnder hints rules (scope_of source) (definitions_of source) (definitions_of target)
  accepted_where = (
    λ valid. (elim test as (λ b. test ≡ b → AreAcceptedUnder hints rules (scope_of source) (definitions_of source) (definitions_of target)) [
      | true ↦ λ same. valid_are_accepted rules (scope_of source) hints (definitions_of source) (definitions_of target) same (by_test true same ∙ ap (λ v. Some v) valid)
      | false ↦ λ other. let e = by_test false other ∙ ap (λ v. Some v) valid in absurd (cc)
    ]) refl,
    λ accepted.
        accepted_are_valid rules (scope_of source) hints (definitions_of source) (definitions_of target) accepted v
        (by_test true (accepted_are_same rules (scope_of source) hints (definitions_of source) (definitions_of target) accepted)),
  )

  differs_where : v ≡ modules.Differs difference.Functions ↔ same_list same_signature (definitions_of source) (definitions_of target) ≡ false
  differs_where = (
    λ differs. (elim test as (λ b. test ≡ b → b ≡ false) [
      | true ↦ λ same.
          absurd (functions_never_differ rules (scope_of source) hints (definitions_of source) (definitions_of target) difference.Functions same
          (by_test true same ∙ ap (λ v. Some v) differs))
      | false ↦ λ other. refl
    ]) refl,
    λ other. let e = by_test false other in cc,
  )

  never_otherwise : (d : Difference) → (difference.Functions ≡ d → ⊥) → v ≡ modules.Differs d → ⊥
  never_otherwise d other differs = (elim test as (λ b. test ≡ b → ⊥) [
    | true ↦ λ same.
        functions_never_differ rules (scope_of source) hints (definitions_of source) (definitions_of target) d same (by_test true same ∙ ap (λ v. Some v) differs)
    | false ↦ λ not. let e = by_test false not ∙ ap (λ v. Some v) differs in other (cc)
  ]) refl

-- ---- a test that comes first, and what differs where it fails

module _ (what : Difference) (rest : Option ModuleVerdict) (v : ModuleVerdict) where
  abbrev after : Bool → Option ModuleVerdict
  after test = cond test rest (Some (modules.Differs what))

  behind_test : (test : Bool) → after test ≡ Some v → test ≡ true → rest ≡ Some v
  behind_test true is passed = is
  behind_test false is passed = absurd (false≢true passed)

  test_fails : (test : Bool) → after test ≡ Some v → (test ≡ true → ⊥) → v ≡ modules.Differs what
  test_fails true is fails = absurd (fails refl)
  test_fails false is fails = cc

  test_passes : (test : Bool) → after test ≡ Some v → (v ≡ modules.Differs what → ⊥) → test ≡ true
  test_passes true is other = refl
  test_passes false is other = absurd (other (cc))

  -- whatever else differs is of the rest
  never_behind : (test : Bool) → after test ≡ Some v → (d : Difference) → (what ≡ d → ⊥) → (rest ≡ Some v → v ≡ modules.Differs d → ⊥) → v ≡ modules.Differs d → ⊥
  never_behind true is d other never differs = never is differs
  never_behind false is d other never differs = other (cc)

-- of an answer that is the one on the two modules, or on what is compared behind their types, their globals or their declarations
module _ (rules : Rules) (source target : Module) (hints : Hints) (v : ModuleVerdict) where
  abbrev IsAnswer : Option ModuleVerdict → Type 0
  IsAnswer answer = answer ≡ Some v

  abbrev AreAlike : Type 0
  AreAlike = AreDeclaredAlike (declarations_of source) (declarations_of target)

  abbrev on_declarations : Option ModuleVerdict
  on_declarations = declarations_answer rules source target hints

  abbrev on_functions : Option ModuleVerdict
  on_functions = definitions_answer rules source target hints

  abbrev on_globals : Option ModuleVerdict
  on_globals = globals_answer rules source target hints

  abbrev one : Bool
  one = same_list same_named_type source.types target.types

  abbrev two : Bool
  two = same_list same_global source.globals target.globals

  abbrev three : Bool
  three = same_list same_declaration (declarations_of source) (declarations_of target)

  behind_types : IsAnswer (module_answer rules source target hints) → source.types ≡ target.types → IsAnswer on_globals
  behind_types is e = behind_test difference.Types on_globals v one is (types_are source.types target.types e)

  behind_globals : IsAnswer on_globals → source.globals ≡ target.globals → IsAnswer on_declarations
  behind_globals is e = behind_test difference.Globals on_declarations v two is (globals_are source.globals target.globals e)

  behind_declarations : IsAnswer on_declarations → AreAlike → IsAnswer on_functions
  behind_declarations is e = behind_test difference.Declarations on_functions v three is (declarations_are (declarations_of source) (declarations_of target) e)

  -- what differs is tested there or behind
  never_functions : (d : Difference) → (difference.Functions ≡ d → ⊥) → IsAnswer on_functions → v ≡ modules.Differs d → ⊥
  never_functions d not is = never_otherwise rules source target hints v is d not

  never_declarations : (d : Difference) → (difference.Declarations ≡ d → ⊥) → (difference.Functions ≡ d → ⊥) → IsAnswer on_declarations → v ≡ modules.Differs d → ⊥
  never_declarations d not nor is = never_behind difference.Declarations on_functions v three is d not (never_functions d nor)

  module _ (is : IsAnswer (module_answer rules source target hints)) where
    -- behind all three
    behind_all : source.types ≡ target.types → source.globals ≡ target.globals → AreAlike → IsAnswer on_functions
    behind_all types globals declarations = behind_declarations (behind_globals (behind_types is types) globals) declarations

    types_pass : (v ≡ modules.Differs difference.Types → ⊥) → source.types ≡ target.types
    types_pass not = types_true source.types target.types (test_passes difference.Types on_globals v one is not)

    globals_pass : (v ≡ modules.Differs difference.Globals → ⊥) → source.types ≡ target.types → source.globals ≡ target.globals
    globals_pass not types = globals_true source.globals target.globals (test_passes difference.Globals on_declarations v two (behind_types is types) not)

    declarations_pass : (v ≡ modules.Differs difference.Declarations → ⊥) → source.types ≡ target.types → source.globals ≡ target.globals → AreAlike
    declarations_pass not types globals =
        declarations_true (declarations_of source) (declarations_of target)
        (test_passes difference.Declarations on_functions v three (behind_globals (behind_types is types) globals) not)

    pub modules_accepted : v ≡ modules.Valid ↔ AreModulesAccepted hints rules source target
    modules_accepted = (
      λ valid.
          let types = types_pass (λ e. let both = sym e ∙ valid in cc) in
          let globals = globals_pass (λ e. let both = sym e ∙ valid in cc) types in
          let declarations = declarations_pass (λ e. let both = sym e ∙ valid in cc) types globals in
          record {
            types = types;
            globals = globals;
            declarations = declarations;
            functions = (accepted_where rules source target hints v (behind_all types globals declarations)).0 valid;
          },
      λ accepted. (accepted_where rules source target hints v (behind_all accepted.types accepted.globals accepted.declarations)).1 accepted.functions,
    )

    pub types_differ : v ≡ modules.Differs difference.Types ↔ (source.types ≡ target.types → ⊥)
    types_differ = (
      λ differs types.
          never_behind difference.Globals on_declarations v two (behind_types is types) difference.Types (λ e. cc) (never_declarations difference.Types (λ e. cc) (λ e. cc)) differs,
      λ other. test_fails difference.Types on_globals v one is (λ same. other (types_true source.types target.types same)),
    )

    pub globals_differ : v ≡ modules.Differs difference.Globals ↔ (source.types ≡ target.types) × (source.globals ≡ target.globals → ⊥)
    globals_differ = (
      λ differs.
          let types = types_pass (λ e. let both = sym e ∙ differs in cc) in
          (types, λ globals. never_declarations difference.Globals (λ e. cc) (λ e. cc) (behind_globals (behind_types is types) globals) differs),
      λ other.
          test_fails difference.Globals on_declarations v two (behind_types is other.0) (λ same. other.1 (globals_true source.globals target.globals same)),
    )

    pub declarations_differ : v ≡ modules.Differs difference.Declarations ↔ (source.types ≡ target.types) × (source.globals ≡ target.globals) × (AreAlike → ⊥)
    declarations_differ = (
      λ differs.
          let types = types_pass (λ e. let both = sym e ∙ differs in cc) in
          let globals = globals_pass (λ e. let both = sym e ∙ differs in cc) types in
          (types, globals, λ declarations. never_functions difference.Declarations (λ e. cc) (behind_all types globals declarations) differs),
      λ other.
          test_fails difference.Declarations on_functions v three (behind_globals (behind_types is other.0) other.1)
          (λ same. other.2 (declarations_true (declarations_of source) (declarations_of target) same)),
    )

    pub functions_differ : v ≡ modules.Differs difference.Functions
        ↔ (source.types ≡ target.types) × (source.globals ≡ target.globals) × AreAlike × (same_list same_signature (definitions_of source) (definitions_of target) ≡ false)
    functions_differ = (
      λ differs.
          let types = types_pass (λ e. let both = sym e ∙ differs in cc) in
          let globals = globals_pass (λ e. let both = sym e ∙ differs in cc) types in
          let declarations = declarations_pass (λ e. let both = sym e ∙ differs in cc) types globals in
          (types, globals, declarations, (differs_where rules source target hints v (behind_all types globals declarations)).0 differs),
      λ other. (differs_where rules source target hints v (behind_all other.0 other.1 other.2)).1 other.3,
    )

-- modules with equal types and globals have one scope
scopes_are : (source target : Module) → source.types ≡ target.types → source.globals ≡ target.globals → scope_of source ≡ scope_of target
scopes_are source target types globals = ap₂ (λ (ts : List NamedTy) (gs : List GlobalVar). record { types = ts; globals = gs }) types globals

-- and of how a check of two modules ends
module _ (rules : Rules) (source target : Module) (hints : Hints) where
  pub accepted_ended : (ended : Result ModuleVerdict CheckEnd) → Answers ended (module_answer rules source target hints)
      → IfOk ended (λ v. v ≡ modules.Valid ↔ AreModulesAccepted hints rules source target)
  accepted_ended (Ok v) is = modules_accepted rules source target hints v is
  accepted_ended (Err fault) is = tt

  pub types_ended : (ended : Result ModuleVerdict CheckEnd) → Answers ended (module_answer rules source target hints)
      → IfOk ended (λ v. v ≡ modules.Differs difference.Types ↔ (source.types ≡ target.types → ⊥))
  types_ended (Ok v) is = types_differ rules source target hints v is
  types_ended (Err fault) is = tt

  pub globals_ended : (ended : Result ModuleVerdict CheckEnd) → Answers ended (module_answer rules source target hints)
      → IfOk ended (λ v. v ≡ modules.Differs difference.Globals ↔ (source.types ≡ target.types) × (source.globals ≡ target.globals → ⊥))
  globals_ended (Ok v) is = globals_differ rules source target hints v is
  globals_ended (Err fault) is = tt

  pub declarations_ended : (ended : Result ModuleVerdict CheckEnd) → Answers ended (module_answer rules source target hints)
      → IfOk ended (λ v. v ≡ modules.Differs difference.Declarations
      ↔ (source.types ≡ target.types) × (source.globals ≡ target.globals) × (AreDeclaredAlike (declarations_of source) (declarations_of target) → ⊥))
  declarations_ended (Ok v) is = declarations_differ rules source target hints v is
  declarations_ended (Err fault) is = tt

  pub differs_ended : (ended : Result ModuleVerdict CheckEnd) → Answers ended (module_answer rules source target hints)
      → IfOk ended (λ v. v ≡ modules.Differs difference.Functions
      ↔ (source.types ≡ target.types) × (source.globals ≡ target.globals) × AreDeclaredAlike (declarations_of source) (declarations_of target)
      × (same_list same_signature (definitions_of source) (definitions_of target) ≡ false))
  differs_ended (Ok v) is = functions_differ rules source target hints v is
  differs_ended (Err fault) is = tt

  pub refines_ended : AreSound rules → AcceptedModulesRefine → (ended : Result ModuleVerdict CheckEnd) → Answers ended (module_answer rules source target hints)
      → IfOk ended (λ v. AllByRecursion ArePhisApart (definitions_of source) → AllByRecursion ArePhisApart (definitions_of target) → v ≡ modules.Valid → Refines source target)
  refines_ended sound refine (Ok v) is = λ apart others_apart valid.
      let accepted = (modules_accepted rules source target hints v is).0 valid in
      refine rules source target sound (scopes_are source target accepted.types accepted.globals) apart others_apart
      (accepted_under_some rules (scope_of source) hints (definitions_of source) (definitions_of target) accepted.functions)
  refines_ended sound refine (Err fault) is = tt
