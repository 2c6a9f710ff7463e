-- There is no fault exactly where all fits: named types, constants, addresses, initialisers, globals and calls.
use Rattle.std.proofs.Common.{◌≡◌, ◌∙◌, ◌↔◌, ◌&&◌, ◌||◌, ℕ, zero, suc, Bool, true, false, cond, not, List, [], ◌∷◌, ◌++◌, length, map, Option, None, Some, refl, sym, ap, subst, arith}
use Rattle.std.proofs.lemmas.List.Elements.{Contains-append_left, Contains-push}
use Rattle.std.specs.List.{AllByRecursion, Contains, list_all}
use Rattle.std.specs.Option.{is_some, option_map}
use Rattle.ir_core.specs.declared.expressions.Element.{Element}
use Rattle.ir_core.specs.declared.functions.Call.{Call}
use Rattle.ir_core.specs.declared.modules.GlobalVar.{GlobalVar}
use Rattle.ir_core.specs.declared.modules.Init.{Init, fold-Init}
use Rattle.ir_core.specs.declared.modules.Init as start
use Rattle.ir_core.specs.declared.modules.Module.{Module}
use Rattle.ir_core.specs.declared.operands.CastOp.TheVariants as conversion
use Rattle.ir_core.specs.declared.operands.Const.{Const, fold-Const}
use Rattle.ir_core.specs.declared.operands.Const as value
use Rattle.ir_core.specs.declared.operands.Const.TheVariants as constant
use Rattle.ir_types.specs.declared.named.NamedTy.{NamedTy}
use Rattle.ir_types.specs.declared.names.Name.{Name}
use Rattle.ir_types.specs.declared.ty.Ty.{Ty, Ptr, out-Ty}
use Rattle.ir_types.specs.declared.ty.Ty.TheVariants as ty
use Rattle.ir_types.specs.Named.{is_sized}
use Rattle.ir_types.specs.NameLaws.{all_true, left_true, right_true, same_name_refl, same_name_true}
use Rattle.ir_types.specs.Same.{same_list, same_name, same_ty}
use Rattle.ir_types.proofs.SameLaws.{same_ty_refl, same_ty_true}
use Rattle.ir_core.specs.Order.{AreNew}
use Rattle.ir_core.specs.StatedTypes.{types_in_global}
use Rattle.ir_core.specs.TypeNames.{names_in_type, type_names}
use Rattle.ir_core.specs.Types.{converts, is_first_class, is_integer, is_pointer}
use Rattle.ir_core.specs.Typing.{Fitting, Index, Signature, are_arguments, are_parts, are_typed, contents_of, element_type, fitting_at_level, index_at, index_of, init_at_level, is_address, is_bytes, is_cast, is_constant_of, is_due, is_init_constant, is_init_of, parts_of_array, parts_of_struct, signatures_of}
use Rattle.ir_core.specs.WellFormed.{HasGlobalShape, HasInit, IsCall, IsElement, IsNamedResult, IsTypeKnown, argument_types}
use Rattle.ir_core.proofs.Constants as constants
use Rattle.ir_core.proofs.Constants.{EachOf}
use Rattle.ir_core.proofs.Inits as folds
use Rattle.ir_core.specs.NameIndexes.Among.{is_among}
use Rattle.ir_core.proofs.NameIndexes.Among.{among_is, is_there}
use Rattle.ir_typing.specs.declared.shape_kinds.kind.ShapeKind.{ShapeKind}
use Rattle.ir_typing.specs.declared.shape_kinds.kind.ShapeKind.TheVariants as kind
use Rattle.ir_typing.specs.ShapeKinds.Kinds.{fault_unless, least, least_of, points_to}
use Rattle.ir_typing.specs.OperandTests.Calls.{call_kind, fits_signature, is_named_result, kind_by_signature, signature_in}
use Rattle.ir_typing.specs.OperandTests.Constants.{Judged, address_kind, address_of_parts, constant_kind, element_kind, global_kind, judged_at_level, judged_index, may_be, parts_kind, recast_kind}
use Rattle.ir_typing.specs.OperandTests.Inits.{Part, are_stated, global_var_kind, held_kind, init_kind, init_kind_at, list_kind, start_kind}
use Rattle.ir_typing.specs.OperandTests.Known.{are_types_known, is_type_known}
use Rattle.ir_typing.proofs.OperandTests.InitParts as inits
use Rattle.ir_typing.proofs.OperandTests.Tests.{all_tested, both_none, joined, left_none, fits_by, none_by, right_none, through, unless_fits}

-- ---- named types

among : (m : Module) (x : Name) → (is_among x (type_names m) ≡ true) ↔ Contains (type_names m) x
among m x = (among_is x (type_names m), is_there x (type_names m))

pub type_known : (m : Module) (t : Ty) → (is_type_known m t ≡ true) ↔ IsTypeKnown m t
type_known m t = all_tested (λ x. is_among x (type_names m)) (Contains (type_names m)) (among m) (names_in_type t)

pub types_known : (m : Module) (ts : List Ty) → (are_types_known m ts ≡ true) ↔ AllByRecursion (IsTypeKnown m) ts
types_known m ts = all_tested (is_type_known m) (IsTypeKnown m) (type_known m) ts

-- ---- addresses

same_types : (a b : Ty) → (same_ty a b ≡ true) ↔ (a ≡ b)
same_types a b = (same_ty_true a b, λ e. subst (λ t. same_ty a t ≡ true) e (same_ty_refl a))

due_is : (e : Option Ty) (t : Ty) → is_due e t ≡ (may_be e t && is_some e)
due_is None t = refl
due_is (Some due) t = go (same_ty due t)
  where
    go : (b : Bool) → b ≡ (b && true)
    go true = refl
    go false = refl

address_fits : (types : List NamedTy) (of base : Ty) (indices : List Index) (to : Ty)
    → (address_kind types of base indices to ≡ None) ↔ ((same_ty base (Ptr of) && is_sized types of && is_due (element_type types of indices) to) ≡ true)
address_fits types of base indices to =
    let found = element_type types of indices in
    let p = points_to base of in
    let d = may_be found to in
    let s = is_sized types of in
    let i = is_some found in
    let behind = least (fault_unless s kind.Unsized) (fault_unless i kind.GepIndex) in
    let later = least (fault_unless d kind.OperandType) behind in (
      λ e.
          let after = right_none (fault_unless p kind.OperandType) later e in
          let last = right_none (fault_unless d kind.OperandType) behind after in
          all_true
          (all_true (fits_by p kind.OperandType (left_none (fault_unless p kind.OperandType) later e)) (fits_by s kind.Unsized (left_none (fault_unless s kind.Unsized) (fault_unless i kind.GepIndex) last)))
          (due_is found to
          ∙ all_true (fits_by d kind.OperandType (left_none (fault_unless d kind.OperandType) behind after)) (fits_by i kind.GepIndex (right_none (fault_unless s kind.Unsized) (fault_unless i kind.GepIndex) last))),
      λ all.
          let both = sym (due_is found to) ∙ right_true (p && s) (is_due found to) all in
          let first = left_true (p && s) (is_due found to) all in
          both_none (fault_unless p kind.OperandType) later (none_by p kind.OperandType (left_true p s first))
          (both_none (fault_unless d kind.OperandType) behind (none_by d kind.OperandType (left_true d i both))
          (both_none (fault_unless s kind.Unsized) (fault_unless i kind.GepIndex) (none_by s kind.Unsized (right_true p s first)) (none_by i kind.GepIndex (right_true d i both)))),
    )

leads_to : (found : Option Ty) (to : Ty) → (is_due found to ≡ true) ↔ (found ≡ Some to)
leads_to None to = (λ e. absurd (cc), λ e. absurd (cc))
leads_to (Some due) to = (λ e. ap Some (same_ty_true due to e), λ e. (same_types due to).1 (cc))

pub element_fits : {R : Type 0} (m : Module) (e : Element R) → (element_kind m e ≡ None) ↔ IsElement m e
element_fits m e =
    let found = element_type m.types e.of (map index_of e.indices) in
    let p = same_ty e.base.ty (Ptr e.of) in
    let s = is_sized m.types e.of in
    let is = address_fits m.types e.of e.base.ty (map index_of e.indices) e.to in (
      λ none.
          let all = is.0 none in
          let first = left_true (p && s) (is_due found e.to) all in
          (same_ty_true e.base.ty (Ptr e.of) (left_true p s first), right_true p s first, (leads_to found e.to).0 (right_true (p && s) (is_due found e.to) all)),
      λ fit. is.1 (all_true (all_true ((same_types e.base.ty (Ptr e.of)).1 fit.0) fit.1) ((leads_to found e.to).1 fit.2)),
    )

-- ---- constants

-- what is told of a constant, and what it is
record Agrees (j : Judged) (f : Fitting) : Type 0 where
  pub fits : (t : Ty) → (j.kind_at t ≡ None) ↔ (f.is_of t ≡ true)
  pub number : j.number ≡ f.number

-- a name of a global variable's is known
contents_fit : (other : Bool) (contents : Option Ty) (t : Ty)
    → (least (fault_unless (is_some contents || other) kind.Name) (fault_unless (is_due (option_map Ptr contents) t) kind.OperandType) ≡ None) ↔ (is_due (option_map Ptr contents) t ≡ true)
contents_fit other None t = (
  λ e. fits_by false kind.OperandType (right_none (fault_unless other kind.Name) (fault_unless false kind.OperandType) e),
  λ e. absurd (cc),
)
contents_fit other (Some contents) t = unless_fits (same_ty (Ptr contents) t) kind.OperandType

module _ (m : Module) where
  abbrev judged : Const → Judged
  judged = fold-Const Judged (judged_at_level m)

  abbrev fitting : Const → Fitting
  fitting = fold-Const Fitting (fitting_at_level m.types m.globals)

  abbrev judged_parts : List (Ty × Const) → List (Ty × Judged)
  judged_parts = constants.folded_parts Judged (judged_at_level m)

  abbrev fitting_parts : List (Ty × Const) → List (Ty × Fitting)
  fitting_parts = constants.folded_parts Fitting (fitting_at_level m.types m.globals)

  abbrev AgreesAt : Const → Type 0
  AgreesAt c = Agrees (judged c) (fitting c)

  at_level : (c : Const) (j : Judged) (f : Fitting) → judged c ≡ j → fitting c ≡ f → Agrees j f → AgreesAt c
  at_level c j f here there agree = subst (λ (k : Judged). Agrees k (fitting c)) (sym here) (subst (Agrees j) (sym there) agree)

  global_fits : (x : Name) (t : Ty) → (global_kind m x t ≡ None) ↔ (is_due (option_map Ptr (contents_of m.globals x)) t ≡ true)
  global_fits x t = contents_fit (is_some (signature_in (signatures_of m) x)) (contents_of m.globals x) t

  parts_fit : (cs : List (Ty × Const)) → EachOf AgreesAt cs → (parts_kind (judged_parts cs) ≡ None) ↔ (are_typed (fitting_parts cs) ≡ true)
  parts_fit [] all = (λ e. refl, λ e. refl)
  parts_fit (c ∷ cs) all = joined _ _ _ _ (all.0.fits c.0) (parts_fit cs all.1)

  same_indices : (cs : List (Ty × Const)) → EachOf AgreesAt cs → map judged_index (judged_parts cs) ≡ map index_at (fitting_parts cs)
  same_indices [] all = refl
  same_indices (c ∷ cs) all = λ i. record { ty = c.0; number = all.0.number i } ∷ same_indices cs all.1 i

  address_of_fits : (of : Ty) (cs : List (Ty × Const)) → EachOf AgreesAt cs → (t : Ty)
      → (address_of_parts m.types of (judged_parts cs) t ≡ None) ↔ (is_address m.types of (fitting_parts cs) t ≡ true)
  address_of_fits of [] all t = (λ e. absurd (cc), λ e. absurd (cc))
  address_of_fits of (base ∷ cs) all t =
      subst (λ (indices : List Index). (address_kind m.types of base.0 (map judged_index (judged_parts cs)) t ≡ None) ↔ ((same_ty base.0 (Ptr of) && is_sized m.types of && is_due (element_type m.types of indices) t) ≡ true))
      (same_indices cs all.1) (address_fits m.types of base.0 (map judged_index (judged_parts cs)) t)

  recast_fits : (to : Ty) (cs : List (Ty × Const)) → (recast_kind to (judged_parts cs) ≡ None) ↔ (is_cast to (fitting_parts cs) ≡ true)
  recast_fits to [] = (λ e. absurd (cc), λ e. absurd (cc))
  recast_fits to (from ∷ []) = unless_fits (converts conversion.BitCast from.0 to) kind.CastWidth
  recast_fits to (from ∷ second ∷ cs) = (λ e. absurd (cc), λ e. absurd (cc))

  cast_fits : (to : Ty) (cs : List (Ty × Const)) → EachOf AgreesAt cs → (t : Ty)
      → (least (parts_kind (judged_parts cs)) (least (fault_unless (same_ty to t) kind.OperandType) (recast_kind to (judged_parts cs))) ≡ None)
      ↔ ((are_typed (fitting_parts cs) && is_cast to (fitting_parts cs) && same_ty to t) ≡ true)
  cast_fits to cs all t =
      let typed = are_typed (fitting_parts cs) in
      let cast = is_cast to (fitting_parts cs) in
      let same = fault_unless (same_ty to t) kind.OperandType in
      let behind = least same (recast_kind to (judged_parts cs)) in
      let parts = parts_fit cs all in (
        λ e.
            let rest = right_none (parts_kind (judged_parts cs)) behind e in
            all_true (all_true (parts.0 (left_none (parts_kind (judged_parts cs)) behind e)) ((recast_fits to cs).0 (right_none same (recast_kind to (judged_parts cs)) rest)))
            (fits_by (same_ty to t) kind.OperandType (left_none same (recast_kind to (judged_parts cs)) rest)),
        λ e.
            let both = left_true (typed && cast) (same_ty to t) e in
            both_none (parts_kind (judged_parts cs)) behind (parts.1 (left_true typed cast both))
            (both_none same (recast_kind to (judged_parts cs)) (none_by (same_ty to t) kind.OperandType (right_true (typed && cast) (same_ty to t) e)) ((recast_fits to cs).1 (right_true typed cast both))),
      )

  agrees : (c : Const) → AgreesAt c
  agrees = constants.by_parts AgreesAt
      (λ n. at_level (value.Number n) _ _ (constants.at_number Judged (judged_at_level m) n) (constants.at_number Fitting (fitting_at_level m.types m.globals) n)
      (record { fits = λ t. unless_fits (is_integer t) kind.OperandType; number = refl }))
      (at_level value.Undef _ _ (constants.at_undef Judged (judged_at_level m)) (constants.at_undef Fitting (fitting_at_level m.types m.globals))
      (record { fits = λ t. unless_fits (is_first_class t) kind.OperandType; number = refl }))
      (at_level value.Null _ _ (constants.at_null Judged (judged_at_level m)) (constants.at_null Fitting (fitting_at_level m.types m.globals))
      (record { fits = λ t. unless_fits (is_pointer t) kind.OperandType; number = refl }))
      (λ x. at_level (value.Global x) _ _ (constants.at_global Judged (judged_at_level m) x) (constants.at_global Fitting (fitting_at_level m.types m.globals) x)
      (record { fits = global_fits x; number = refl }))
      (λ inbounds of cs all. at_level (value.Element (inbounds, of, cs)) _ _ (constants.at_element Judged (judged_at_level m) inbounds of cs)
      (constants.at_element Fitting (fitting_at_level m.types m.globals) inbounds of cs)
      (record {
        fits = λ t. joined (parts_kind (judged_parts cs)) (address_of_parts m.types of (judged_parts cs) t) (are_typed (fitting_parts cs)) (is_address m.types of (fitting_parts cs) t)
            (parts_fit cs all) (address_of_fits of cs all t);
        number = refl;
      }))
      (λ to cs all. at_level (value.Cast (to, cs)) _ _ (constants.at_cast Judged (judged_at_level m) to cs) (constants.at_cast Fitting (fitting_at_level m.types m.globals) to cs)
      (record { fits = cast_fits to cs all; number = refl }))

pub constant_fits : (m : Module) (t : Ty) (c : Const) → (constant_kind m t c ≡ None) ↔ (is_constant_of m t c ≡ true)
constant_fits m t c = (agrees m c).fits t

-- ---- initialisers

-- undef is no fault, also where no value is
start_fits : (m : Module) (t : Ty) (c : Const) → (start_kind m t c ≡ None) ↔ (is_init_constant m t c ≡ true)
start_fits m t constant.Undef = (λ e. refl, λ e. refl)
start_fits m t c = constant_fits m t c

stated_fit : (types : Option (List Ty)) (stated : List Ty) → (fault_unless (are_stated types stated) kind.OperandType ≡ None) ↔ (are_stated types stated ≡ true)
stated_fit types stated = unless_fits (are_stated types stated) kind.OperandType

module _ (m : Module) where
  abbrev told : Init → Ty → Option ShapeKind
  told = fold-Init (Ty → Option ShapeKind) (init_kind_at m)

  abbrev starting : Init → Ty → Bool
  starting = fold-Init (Ty → Bool) (init_at_level m)

  abbrev told_parts : List (Ty × Init) → List Part
  told_parts = folds.folded_parts (Ty → Option ShapeKind) (init_kind_at m)

  abbrev starting_parts : List (Ty × Init) → List (Ty × (Ty → Bool))
  starting_parts = folds.folded_parts (Ty → Bool) (init_at_level m)

  abbrev StartsAt : Init → Type 0
  StartsAt i = (t : Ty) → (told i t ≡ None) ↔ (starting i t ≡ true)

  start_level : (i : Init) (k : Ty → Option ShapeKind) (b : Ty → Bool) → told i ≡ k → starting i ≡ b → ((t : Ty) → (k t ≡ None) ↔ (b t ≡ true)) → StartsAt i
  start_level i k b here there agree t =
      through (λ e. sym (ap (λ (f : Ty → Option ShapeKind). f t) here) ∙ e, λ e. ap (λ (f : Ty → Option ShapeKind). f t) here ∙ e)
      (through (agree t) (λ e. ap (λ (f : Ty → Bool). f t) there ∙ e, λ e. sym (ap (λ (f : Ty → Bool). f t) there) ∙ e))

  same_stated : (parts : List (Ty × Init)) → map (λ (p : Part). p.0) (told_parts parts) ≡ map (λ p. p.0) (starting_parts parts)
  same_stated [] = refl
  same_stated (p ∷ parts) = ap (λ (ts : List Ty). p.0 ∷ ts) (same_stated parts)

  same_length : (parts : List (Ty × Init)) → length (told_parts parts) ≡ length (starting_parts parts)
  same_length [] = refl
  same_length (p ∷ parts) = ap suc (same_length parts)

  each_fits : (parts : List (Ty × Init)) → inits.EachOf StartsAt parts → (least_of (map (λ (p : Part). p.1 p.0) (told_parts parts)) ≡ None) ↔ (list_all (λ p. p.1 p.0) (starting_parts parts) ≡ true)
  each_fits [] all = (λ e. refl, λ e. refl)
  each_fits (p ∷ parts) all = joined _ _ _ _ (all.0 p.0) (each_fits parts all.1)

  list_fits : (types : Option (List Ty)) (parts : List (Ty × Init)) → inits.EachOf StartsAt parts → (list_kind types (told_parts parts) ≡ None) ↔ (are_parts types (starting_parts parts) ≡ true)
  list_fits None parts all = (
    λ e. fits_by false kind.OperandType (left_none (fault_unless false kind.OperandType) (least_of (map (λ (p : Part). p.1 p.0) (told_parts parts))) e),
    λ e. absurd (cc),
  )
  list_fits (Some types) parts all =
      joined _ (least_of (map (λ (p : Part). p.1 p.0) (told_parts parts))) _ (list_all (λ p. p.1 p.0) (starting_parts parts))
      (subst (λ (stated : List Ty). (fault_unless (same_list same_ty types (map (λ (p : Part). p.0) (told_parts parts))) kind.OperandType ≡ None) ↔ (same_list same_ty types stated ≡ true)) (same_stated parts)
      (unless_fits (same_list same_ty types (map (λ (p : Part). p.0) (told_parts parts))) kind.OperandType))
      (each_fits parts all)

  starts : (i : Init) → StartsAt i
  starts = inits.by_parts StartsAt
      (λ c. start_level (start.Const c) _ _ (folds.at_const (Ty → Option ShapeKind) (init_kind_at m) c) (folds.at_const (Ty → Bool) (init_at_level m) c) (λ t. start_fits m t c))
      (start_level start.Zero _ _ (folds.at_zero (Ty → Option ShapeKind) (init_kind_at m)) (folds.at_zero (Ty → Bool) (init_at_level m)) (λ t. (λ e. refl, λ e. refl)))
      (λ bytes. start_level (start.Bytes bytes) _ _ (folds.at_bytes (Ty → Option ShapeKind) (init_kind_at m) bytes) (folds.at_bytes (Ty → Bool) (init_at_level m) bytes)
      (λ t. unless_fits (is_bytes (length bytes) (out-Ty t)) kind.OperandType))
      (λ parts all. start_level (start.Array parts) _ _ (folds.at_array (Ty → Option ShapeKind) (init_kind_at m) parts) (folds.at_array (Ty → Bool) (init_at_level m) parts)
      (λ t. subst (λ (n : ℕ). (list_kind (parts_of_array m.types (out-Ty t) (length (told_parts parts))) (told_parts parts) ≡ None) ↔ (are_parts (parts_of_array m.types (out-Ty t) n) (starting_parts parts) ≡ true)) (same_length parts)
      (list_fits (parts_of_array m.types (out-Ty t) (length (told_parts parts))) parts all)))
      (λ parts all. start_level (start.Struct parts) _ _ (folds.at_struct (Ty → Option ShapeKind) (init_kind_at m) parts) (folds.at_struct (Ty → Bool) (init_at_level m) parts)
      (λ t. list_fits (parts_of_struct m.types (out-Ty t)) parts all))

pub init_fits : (m : Module) (t : Ty) (i : Init) → (init_kind m t i ≡ None) ↔ (is_init_of m t i ≡ true)
init_fits m t i = starts m i t

pub held_fits : (m : Module) (t : Ty) (o : Option Init) → (held_kind m t o ≡ None) ↔ HasInit m t o
held_fits m t None = (λ e. tt, λ is. refl)
held_fits m t (Some i) = init_fits m t i

-- ---- globals

pub global_var_fits : (m : Module) (new : Bool) (g : GlobalVar) → (global_var_kind m new g ≡ None) ↔ ((new ≡ true) × HasGlobalShape m g)
global_var_fits m new g =
    let known = are_types_known m (types_in_global g) in
    let sized = is_sized m.types g.ty in
    let held = held_kind m g.ty g.init in
    let last = least held (fault_unless sized kind.Unsized) in
    let behind = least (fault_unless known kind.Name) last in (
      λ e.
          let after = right_none (fault_unless new kind.Name) behind e in
          let rest = right_none (fault_unless known kind.Name) last after in (
            fits_by new kind.Name (left_none (fault_unless new kind.Name) behind e),
            record {
              types = (types_known m (types_in_global g)).0 (fits_by known kind.Name (left_none (fault_unless known kind.Name) last after));
              sized = fits_by sized kind.Unsized (right_none held (fault_unless sized kind.Unsized) rest);
              init = (held_fits m g.ty g.init).0 (left_none held (fault_unless sized kind.Unsized) rest);
            },
          ),
      λ fit.
          both_none (fault_unless new kind.Name) behind (none_by new kind.Name fit.0)
          (both_none (fault_unless known kind.Name) last (none_by known kind.Name ((types_known m (types_in_global g)).1 fit.1.types))
          (both_none held (fault_unless sized kind.Unsized) ((held_fits m g.ty g.init).1 fit.1.init) (none_by sized kind.Unsized fit.1.sized))),
    )

-- ---- calls

-- the first function of that name is one of them
signature_there : (ss : List (Name × Signature)) (x : Name) (s : Signature) → signature_in ss x ≡ Some s → Contains ss (x, s)
signature_there [] x s e = absurd (cc)
signature_there (p ∷ ss) x s e = go (same_name p.0 x) refl e (signature_there ss x s)
  where
    go : (b : Bool) → same_name p.0 x ≡ b → cond b (Some p.1) (signature_in ss x) ≡ Some s → (signature_in ss x ≡ Some s → Contains ss (x, s)) → Contains (p ∷ ss) (x, s)
    go true same is later =
        let own : p.1 ≡ s = cc in
        let name : p.0 ≡ x = same_name_true p.0 x same in
        (zero, omega arith, λ i. (name i, own i))
    go false same is later = let more = later is in (suc more.0, omega (arith, more.1), more.2)

name_there : (ss : List (Name × Signature)) (taken : List Name) (x : Name) (s : Signature) → AreNew taken (map (λ (p : Name × Signature). p.0) ss) → Contains taken x → Contains ss (x, s) → ⊥
name_there [] taken x s new there at = absurd (omega (arith, at.1))
name_there (p ∷ ss) taken x s new there (zero, inside, is) = new.0 (subst (Contains taken) (sym (ap (λ (q : Name × Signature). q.0) is)) there)
name_there (p ∷ ss) taken x s new there (suc k, inside, is) =
    name_there ss (taken ++ p.0 ∷ []) x s new.1 (Contains-append_left taken (p.0 ∷ []) x there) (k, omega arith, is)

-- where no two have one name, each is the first of its name
signature_found : (ss : List (Name × Signature)) (taken : List Name) (x : Name) (s : Signature) → AreNew taken (map (λ (p : Name × Signature). p.0) ss) → Contains ss (x, s)
    → signature_in ss x ≡ Some s
signature_found [] taken x s new at = absurd (omega (arith, at.1))
signature_found (p ∷ ss) taken x s new (zero, inside, is) =
    ap (λ (q : Name × Signature). cond (same_name q.0 x) (Some q.1) (signature_in ss x)) is ∙ ap (λ b. cond b (Some s) (signature_in ss x)) (same_name_refl x)
signature_found (p ∷ ss) taken x s new (suc k, inside, is) =
    let later : Contains ss (x, s) = (k, omega arith, is) in
    go later (signature_found ss (taken ++ p.0 ∷ []) x s new.1 later) (same_name p.0 x) refl
  where
    go : Contains ss (x, s) → signature_in ss x ≡ Some s → (b : Bool) → same_name p.0 x ≡ b → cond (same_name p.0 x) (Some p.1) (signature_in ss x) ≡ Some s
    go later found true same =
        absurd (name_there ss (taken ++ p.0 ∷ []) x s new.1 (subst (Contains (taken ++ p.0 ∷ [])) (same_name_true p.0 x same) (Contains-push taken p.0)) later)
    go later found false same = ap (λ b. cond b (Some p.1) (signature_in ss x)) same ∙ found

named_by : (t : Ty) (name : Option Name) → is_named_result t name ≡ true → IsNamedResult t name
named_by ty.Void None e = refl
named_by ty.Void (Some x) e = absurd (cc)
named_by t None e = absurd (let never = right_true (is_first_class t) false e in cc)
named_by t (Some x) e = (left_true (is_first_class t) true e, (x, refl))

named_is : (t : Ty) (name : Option Name) → IsNamedResult t name → is_named_result t name ≡ true
named_is ty.Void name is = ap (λ (n : Option Name). not (is_some n)) is
named_is t name is = all_true is.0 (ap (λ (n : Option Name). is_some n) is.1.1)

pub call_by : (m : Module) (c : Call) → call_kind m c ≡ None → IsCall m c
call_by m c none = go (signature_in (signatures_of m) c.callee) refl none
  where
    go : (found : Option Signature) → signature_in (signatures_of m) c.callee ≡ found → kind_by_signature found c ≡ None → IsCall m c
    go None is e = absurd (cc)
    go (Some s) is e =
        let named = is_named_result c.result c.name in
        let fits = fits_by (fits_signature s c) kind.CallType (right_none (fault_unless named kind.OperandType) (fault_unless (fits_signature s c) kind.CallType) e) in
        record {
          signature = s;
          callee = signature_there (signatures_of m) c.callee s is;
          result = same_ty_true c.result s.result (left_true (same_ty c.result s.result) (are_arguments s.variadic s.params (argument_types c)) fits);
          arguments = right_true (same_ty c.result s.result) (are_arguments s.variadic s.params (argument_types c)) fits;
          named = named_by c.result c.name (fits_by named kind.OperandType (left_none (fault_unless named kind.OperandType) (fault_unless (fits_signature s c) kind.CallType) e));
        }

pub call_is : (m : Module) → AreNew [] (map (λ (s : Name × Signature). s.0) (signatures_of m)) → (c : Call) → IsCall m c → call_kind m c ≡ None
call_is m apart c is =
    let s = is.signature in
    ap (λ (found : Option Signature). kind_by_signature found c) (signature_found (signatures_of m) [] c.callee s apart is.callee)
    ∙ both_none (fault_unless (is_named_result c.result c.name) kind.OperandType) (fault_unless (fits_signature s c) kind.CallType)
    (none_by (is_named_result c.result c.name) kind.OperandType (named_is c.result c.name is.named))
    (none_by (fits_signature s c) kind.CallType (all_true ((same_types c.result s.result).1 is.result) is.arguments))
