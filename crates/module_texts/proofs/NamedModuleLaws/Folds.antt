-- What types, constants and initialisers name, and what is at fault in them, at each kind.
use Rattle.std.proofs.Common.{◌≡◌, ◌∙◌, ℕ, Bool, List, [], ◌∷◌, None, map, sym, ap, refl}
use Rattle.std.specs.List.{flat_map}
use Rattle.ir_core.specs.declared.operands.Const as constant
use Rattle.ir_core.specs.declared.operands.Const.{Const}
use Rattle.ir_lexer.specs.declared.token.Number.{Number}
use Rattle.ir_types.proofs.Induction as kinds
use Rattle.ir_types.specs.Same.{same_level, same_parts}
use Rattle.ir_types.specs.declared.names.Name.{Name}
use Rattle.ir_types.specs.declared.ty.Ty as ty
use Rattle.ir_types.specs.declared.ty.Ty.{Ty, out-Ty}
use Rattle.ir_types.specs.declared.ty.Ty.TheOpen as ty_level
use Rattle.ir_types.specs.declared.ty.Ty.TheOpen.{Ty-F}
use Rattle.ir_types.specs.declared.ty.Ty.TheViews.{outs-Int, outs-Ptr, outs-Array, outs-Struct, outs-Named, outs-Void}
use Rattle.module_grammar.specs.declared.constants.ConstText as const
use Rattle.module_grammar.specs.declared.constants.ConstText.{ConstText, fold-ConstText, fold-roll-ConstText}
use Rattle.module_grammar.specs.declared.constants.ConstText.TheOpen as const_level
use Rattle.module_grammar.specs.declared.constants.ConstText.TheViews as const_views
use Rattle.module_grammar.specs.declared.constants.GlobalNameText.{GlobalNameText}
use Rattle.module_grammar.specs.declared.constants.InitText as init
use Rattle.module_grammar.specs.declared.constants.InitText.{InitText, fold-InitText, fold-roll-InitText}
use Rattle.module_grammar.specs.declared.constants.InitText.TheOpen as init_level
use Rattle.module_grammar.specs.declared.constants.InitText.TheViews as init_views
use Rattle.module_grammar.specs.declared.constants.IntText.{IntText}
use Rattle.module_grammar.specs.declared.places.Placed.{Placed}
use Rattle.module_grammar.specs.declared.types.TypeText.{TypeText, TypeText-F, Int, Named, Ptr, Array, Struct, fold-TypeText, fold-roll-TypeText}
use Rattle.module_grammar.specs.declared.types.TypeText.TheOpen as level
use Rattle.module_grammar.specs.declared.types.TypeText.TheViews.{rolls-Int, rolls-Named, rolls-Ptr, rolls-Array, rolls-Struct}
use Rattle.name_claims.specs.declared.claims.Fault.{Fault}
use Rattle.named_modules.specs.Constants.{const_at_level as built_at_level, const_of, global_name, number_or_undef}
use Rattle.named_modules.specs.Faults.{Heads, Told, const_at_level, first_at_level, init_at_level, int_faults, type_faults_at_level}
use Rattle.named_modules.specs.Types.{count_built, int_of, type_at_level, type_of}

-- ---- a fold at each kind of type

module _ (A : Type 0) (step : TypeText-F A → A) where
  at_int : (width : Placed ℕ) → fold-TypeText A step (Int width) ≡ step (level.Int width)
  at_int width = ap (fold-TypeText A step) (sym (rolls-Int width)) ∙ fold-roll-TypeText A step (level.Int width)

  at_named : (name : Placed Name) → fold-TypeText A step (Named name) ≡ step (level.Named name)
  at_named name = ap (fold-TypeText A step) (sym (rolls-Named name)) ∙ fold-roll-TypeText A step (level.Named name)

  at_ptr : (at : ℕ) (t : TypeText) → fold-TypeText A step (Ptr at t) ≡ step (level.Ptr at (fold-TypeText A step t))
  at_ptr at t = ap (fold-TypeText A step) (sym (rolls-Ptr at t)) ∙ fold-roll-TypeText A step (level.Ptr at t)

  at_array : (at : ℕ) (count : Placed Number) (t : TypeText) → fold-TypeText A step (Array at (count, t)) ≡ step (level.Array at (count, fold-TypeText A step t))
  at_array at count t = ap (fold-TypeText A step) (sym (rolls-Array at (count, t))) ∙ fold-roll-TypeText A step (level.Array at (count, t))

  at_struct : (at : ℕ) (ts : List TypeText) → fold-TypeText A step (Struct at ts) ≡ step (level.Struct at (map (fold-TypeText A step) ts))
  at_struct at ts = ap (fold-TypeText A step) (sym (rolls-Struct at ts)) ∙ fold-roll-TypeText A step (level.Struct at ts)

-- ---- the first token of a type

pub first_int : (width : Placed ℕ) → fold-TypeText ℕ first_at_level (Int width) ≡ width.start
first_int = at_int ℕ first_at_level

pub first_named : (name : Placed Name) → fold-TypeText ℕ first_at_level (Named name) ≡ name.start
first_named = at_named ℕ first_at_level

pub first_ptr : (at : ℕ) (t : TypeText) → fold-TypeText ℕ first_at_level (Ptr at t) ≡ fold-TypeText ℕ first_at_level t
first_ptr = at_ptr ℕ first_at_level

pub first_array : (at : ℕ) (count : Placed Number) (t : TypeText) → fold-TypeText ℕ first_at_level (Array at (count, t)) ≡ at
first_array = at_array ℕ first_at_level

pub first_struct : (at : ℕ) (ts : List TypeText) → fold-TypeText ℕ first_at_level (Struct at ts) ≡ at
first_struct = at_struct ℕ first_at_level

pub ruleset first_tokens = (first_int, first_named, first_ptr, first_array, first_struct)

-- ---- faults in types

module _ (h : Heads) where
  pub faults_int : (width : Placed ℕ) → fold-TypeText (List Fault) (type_faults_at_level h) (Int width) ≡ []
  faults_int = at_int (List Fault) (type_faults_at_level h)

  pub faults_named : (name : Placed Name) → fold-TypeText (List Fault) (type_faults_at_level h) (Named name) ≡ type_faults_at_level h (level.Named name)
  faults_named = at_named (List Fault) (type_faults_at_level h)

  pub faults_ptr : (at : ℕ) (t : TypeText) → fold-TypeText (List Fault) (type_faults_at_level h) (Ptr at t) ≡ fold-TypeText (List Fault) (type_faults_at_level h) t
  faults_ptr = at_ptr (List Fault) (type_faults_at_level h)

  pub faults_array : (at : ℕ) (count : Placed Number) (t : TypeText)
      → fold-TypeText (List Fault) (type_faults_at_level h) (Array at (count, t)) ≡ type_faults_at_level h (level.Array at (count, fold-TypeText (List Fault) (type_faults_at_level h) t))
  faults_array = at_array (List Fault) (type_faults_at_level h)

  pub faults_struct : (at : ℕ) (ts : List TypeText)
      → fold-TypeText (List Fault) (type_faults_at_level h) (Struct at ts) ≡ flat_map (λ fs. fs) (map (fold-TypeText (List Fault) (type_faults_at_level h)) ts)
  faults_struct = at_struct (List Fault) (type_faults_at_level h)

pub ruleset types_faulty = (faults_int, faults_named, faults_ptr, faults_array, faults_struct)

-- ---- the type that is named

pub of_int : (width : Placed ℕ) → type_of (Int width) ≡ ty.Int width.what
of_int = at_int Ty type_at_level

pub of_named : (name : Placed Name) → type_of (Named name) ≡ ty.Named name.what
of_named = at_named Ty type_at_level

to_ptr : (at : ℕ) (t : TypeText) (u : Ty) → type_of t ≡ u → type_of (Ptr at t) ≡ ty.Ptr u
to_ptr at t u is = at_ptr Ty type_at_level at t ∙ ap ty.Ptr is

to_array : (at : ℕ) (count : Placed Number) (t : TypeText) (u : Ty) → type_of t ≡ u → type_of (Array at (count, t)) ≡ ty.Array (count_built count.what) u
to_array at count t u is = at_array Ty type_at_level at count t ∙ ap (ty.Array (count_built count.what)) is

to_struct : (at : ℕ) (ts : List TypeText) (us : List Ty) → map type_of ts ≡ us → type_of (Struct at ts) ≡ ty.Struct us
to_struct at ts us are = at_struct Ty type_at_level at ts ∙ ap ty.Struct are

pub ptr_to_int : (at : ℕ) (width : Placed ℕ) → type_of (Ptr at (Int width)) ≡ ty.Ptr (ty.Int width.what)
ptr_to_int at width = to_ptr at (Int width) (ty.Int width.what) (of_int width)

pub ptr_to_named : (at : ℕ) (name : Placed Name) → type_of (Ptr at (Named name)) ≡ ty.Ptr (ty.Named name.what)
ptr_to_named at name = to_ptr at (Named name) (ty.Named name.what) (of_named name)

pub array_of_int : (at : ℕ) (count : Placed Number) (width : Placed ℕ) → type_of (Array at (count, Int width)) ≡ ty.Array (count_built count.what) (ty.Int width.what)
array_of_int at count width = to_array at count (Int width) (ty.Int width.what) (of_int width)

pub ptr_to_array : (star at : ℕ) (count : Placed Number) (width : Placed ℕ) → type_of (Ptr star (Array at (count, Int width))) ≡ ty.Ptr (ty.Array (count_built count.what) (ty.Int width.what))
ptr_to_array star at count width = to_ptr star (Array at (count, Int width)) (ty.Array (count_built count.what) (ty.Int width.what)) (array_of_int at count width)

pub no_fields : (at : ℕ) → type_of (Struct at []) ≡ ty.Struct []
no_fields at = to_struct at [] [] refl

pub one_field : (at : ℕ) (width : Placed ℕ) → type_of (Struct at (Int width ∷ [])) ≡ ty.Struct (ty.Int width.what ∷ [])
one_field at width = to_struct at (Int width ∷ []) (ty.Int width.what ∷ []) (ap (λ u. u ∷ []) (of_int width))

pub ptr_to_struct : (star at : ℕ) (width : Placed ℕ) → type_of (Ptr star (Struct at (Int width ∷ []))) ≡ ty.Ptr (ty.Struct (ty.Int width.what ∷ []))
ptr_to_struct star at width = to_ptr star (Struct at (Int width ∷ [])) (ty.Struct (ty.Int width.what ∷ [])) (one_field at width)

two : {a b : Ty} (t u : TypeText) → type_of t ≡ a → type_of u ≡ b → map type_of (t ∷ u ∷ []) ≡ a ∷ b ∷ []
two t u e f = cc

pub two_fields : (at : ℕ) (first second : Placed ℕ) → type_of (Struct at (Int first ∷ Int second ∷ [])) ≡ ty.Struct (ty.Int first.what ∷ ty.Int second.what ∷ [])
two_fields at first second =
    to_struct at (Int first ∷ Int second ∷ []) (ty.Int first.what ∷ ty.Int second.what ∷ []) (two (Int first) (Int second) (of_int first) (of_int second))

pub field_of_array : (at bracket : ℕ) (count : Placed Number) (first second : Placed ℕ)
    → type_of (Struct at (Array bracket (count, Int first) ∷ Int second ∷ [])) ≡ ty.Struct (ty.Array (count_built count.what) (ty.Int first.what) ∷ ty.Int second.what ∷ [])
field_of_array at bracket count first second =
    to_struct at (Array bracket (count, Int first) ∷ Int second ∷ []) (ty.Array (count_built count.what) (ty.Int first.what) ∷ ty.Int second.what ∷ [])
    (two (Array bracket (count, Int first)) (Int second) (array_of_int bracket count first) (of_int second))

-- a pointer to what is named
pub behind_int : (width : Placed ℕ) → ty.Ptr (type_of (Int width)) ≡ ty.Ptr (ty.Int width.what)
behind_int width = ap ty.Ptr (of_int width)

pub behind_named : (name : Placed Name) → ty.Ptr (type_of (Named name)) ≡ ty.Ptr (ty.Named name.what)
behind_named name = ap ty.Ptr (of_named name)

pub behind_array : (at : ℕ) (count : Placed Number) (width : Placed ℕ) → ty.Ptr (type_of (Array at (count, Int width))) ≡ ty.Ptr (ty.Array (count_built count.what) (ty.Int width.what))
behind_array at count width = ap ty.Ptr (array_of_int at count width)

-- they are told before the types that they point to
pub ruleset pointed = (behind_int, behind_named, behind_array)

pub ruleset types_named = (of_int, of_named, ptr_to_int, ptr_to_named, array_of_int, ptr_to_array, no_fields, one_field, ptr_to_struct, two_fields, field_of_array)

-- ---- faults in constants

module _ (h : Heads) where
  abbrev told : ConstText → Told
  told = fold-ConstText Told (const_at_level h)

  is_int : (i : IntText) → fold-ConstText Told (const_at_level h) (const.Int i) ≡ const_at_level h (const_level.Int i)
  is_int i = ap told (sym (const_views.rolls-Int i)) ∙ fold-roll-ConstText Told (const_at_level h) (const_level.Int i)

  is_null : (at : ℕ) → fold-ConstText Told (const_at_level h) (const.Null at) ≡ const_at_level h (const_level.Null at)
  is_null at = ap told (sym (const_views.rolls-Null at)) ∙ fold-roll-ConstText Told (const_at_level h) (const_level.Null at)

  is_undef : fold-ConstText Told (const_at_level h) const.Undef ≡ const_at_level h const_level.Undef
  is_undef = ap told (sym const_views.rolls-Undef) ∙ fold-roll-ConstText Told (const_at_level h) const_level.Undef

  is_global : (name : GlobalNameText) → fold-ConstText Told (const_at_level h) (const.Global name) ≡ const_at_level h (const_level.Global name)
  is_global name = ap told (sym (const_views.rolls-Global name)) ∙ fold-roll-ConstText Told (const_at_level h) (const_level.Global name)

  is_element :
      (at : ℕ) (inbounds : Bool) (of base_ty : TypeText) (base : ConstText) (indices : List (TypeText × ConstText))
      → fold-ConstText Told (const_at_level h) (const.Element at inbounds (of, base_ty, base, indices))
      ≡ const_at_level h (const_level.Element at inbounds (of, base_ty, told base, map (λ c. (c.0, told c.1)) indices))
  is_element at inbounds of base_ty base indices =
      ap told (sym (const_views.rolls-Element at inbounds (of, base_ty, base, indices)))
      ∙ fold-roll-ConstText Told (const_at_level h) (const_level.Element at inbounds (of, base_ty, base, indices))

  is_cast :
      (at : ℕ) (from : TypeText) (c : ConstText) (target : TypeText)
      → fold-ConstText Told (const_at_level h) (const.Cast at (from, c, target)) ≡ const_at_level h (const_level.Cast at (from, told c, target))
  is_cast at from c target =
      ap told (sym (const_views.rolls-Cast at (from, c, target))) ∙ fold-roll-ConstText Told (const_at_level h) (const_level.Cast at (from, c, target))

module _ (h : Heads) (t : Ty) where
  pub int_told : (i : IntText) → (fold-ConstText Told (const_at_level h) (const.Int i)).faults t ≡ int_faults t i
  int_told i = ap (λ (c : Told). c.faults t) (is_int h i)

  pub int_number : (i : IntText) → (fold-ConstText Told (const_at_level h) (const.Int i)).number t ≡ int_of t i
  int_number i = ap (λ (c : Told). c.number t) (is_int h i)

  pub null_told : (at : ℕ) → (fold-ConstText Told (const_at_level h) (const.Null at)).faults t ≡ (const_at_level h (const_level.Null at)).faults t
  null_told at = ap (λ (c : Told). c.faults t) (is_null h at)

  pub undef_told : (fold-ConstText Told (const_at_level h) const.Undef).faults t ≡ []
  undef_told = ap (λ (c : Told). c.faults t) (is_undef h)

  pub undef_number : (fold-ConstText Told (const_at_level h) const.Undef).number t ≡ None
  undef_number = ap (λ (c : Told). c.number t) (is_undef h)

  pub global_told : (name : GlobalNameText) → (fold-ConstText Told (const_at_level h) (const.Global name)).faults t ≡ (const_at_level h (const_level.Global name)).faults t
  global_told name = ap (λ (c : Told). c.faults t) (is_global h name)

  pub element_told :
      (at : ℕ) (inbounds : Bool) (of base_ty : TypeText) (base : ConstText) (indices : List (TypeText × ConstText))
      → (fold-ConstText Told (const_at_level h) (const.Element at inbounds (of, base_ty, base, indices))).faults t
      ≡ (const_at_level h (const_level.Element at inbounds (of, base_ty, told h base, map (λ c. (c.0, told h c.1)) indices))).faults t
  element_told at inbounds of base_ty base indices = ap (λ (c : Told). c.faults t) (is_element h at inbounds of base_ty base indices)

  pub cast_told :
      (at : ℕ) (from : TypeText) (c : ConstText) (target : TypeText)
      → (fold-ConstText Told (const_at_level h) (const.Cast at (from, c, target))).faults t
      ≡ (const_at_level h (const_level.Cast at (from, told h c, target))).faults t
  cast_told at from c target = ap (λ (c : Told). c.faults t) (is_cast h at from c target)

pub ruleset constants_told = (int_told, int_number, null_told, undef_told, undef_number, global_told, element_told, cast_told)

-- ---- the constant that is named

module _ (t : Ty) where
  abbrev const_there : (Ty → Const) → Const
  const_there built = built t

  pub built_int : (i : IntText) → const_of (const.Int i) t ≡ number_or_undef (int_of t i)
  built_int i = ap const_there (ap const_of (sym (const_views.rolls-Int i)) ∙ fold-roll-ConstText (Ty → Const) built_at_level (const_level.Int i))

  pub built_null : (at : ℕ) → const_of (const.Null at) t ≡ constant.Null
  built_null at = ap const_there (ap const_of (sym (const_views.rolls-Null at)) ∙ fold-roll-ConstText (Ty → Const) built_at_level (const_level.Null at))

  pub built_undef : const_of const.Undef t ≡ constant.Undef
  built_undef = ap const_there (ap const_of (sym const_views.rolls-Undef) ∙ fold-roll-ConstText (Ty → Const) built_at_level const_level.Undef)

  pub built_global : (name : GlobalNameText) → const_of (const.Global name) t ≡ constant.Global (global_name name).what
  built_global name = ap const_there (ap const_of (sym (const_views.rolls-Global name)) ∙ fold-roll-ConstText (Ty → Const) built_at_level (const_level.Global name))

pub ruleset constants_built = (built_int, built_null, built_undef, built_global)

-- ---- faults in initialisers

module _ (h : Heads) (t : Ty) where
  abbrev started : InitText → Ty → List Fault
  started = fold-InitText (Ty → List Fault) (init_at_level h)

  abbrev there : (Ty → List Fault) → List Fault
  there faults = faults t

  abbrev parts_started : List (TypeText × InitText) → List (TypeText × (Ty → List Fault))
  parts_started = map (λ i. (i.0, started i.1))

  pub start_const : (c : ConstText) → fold-InitText (Ty → List Fault) (init_at_level h) (init.Const c) t ≡ init_at_level h (init_level.Const c) t
  start_const c = ap there (ap started (sym (init_views.rolls-Const c)) ∙ fold-roll-InitText (Ty → List Fault) (init_at_level h) (init_level.Const c))

  pub start_zero : fold-InitText (Ty → List Fault) (init_at_level h) init.Zero t ≡ []
  start_zero = ap there (ap started (sym init_views.rolls-Zero) ∙ fold-roll-InitText (Ty → List Fault) (init_at_level h) init_level.Zero)

  pub start_bytes : (bytes : Placed (List ℕ)) → fold-InitText (Ty → List Fault) (init_at_level h) (init.Bytes bytes) t ≡ init_at_level h (init_level.Bytes bytes) t
  start_bytes bytes = ap there (ap started (sym (init_views.rolls-Bytes bytes)) ∙ fold-roll-InitText (Ty → List Fault) (init_at_level h) (init_level.Bytes bytes))

  pub start_array : (at : ℕ) (parts : List (TypeText × InitText))
      → fold-InitText (Ty → List Fault) (init_at_level h) (init.Array at parts) t ≡ init_at_level h (init_level.Array at (parts_started parts)) t
  start_array at parts =
      ap there (ap started (sym (init_views.rolls-Array at parts)) ∙ fold-roll-InitText (Ty → List Fault) (init_at_level h) (init_level.Array at parts))

  pub start_struct : (at : ℕ) (parts : List (TypeText × InitText))
      → fold-InitText (Ty → List Fault) (init_at_level h) (init.Struct at parts) t ≡ init_at_level h (init_level.Struct at (parts_started parts)) t
  start_struct at parts =
      ap there (ap started (sym (init_views.rolls-Struct at parts)) ∙ fold-roll-InitText (Ty → List Fault) (init_at_level h) (init_level.Struct at parts))

pub ruleset inits_started = (start_const, start_zero, start_bytes, start_array, start_struct)

-- ---- the test of types, part by part

abbrev test : Ty-F (Ty → Bool) → Ty → Bool
test part t = same_level part (out-Ty t)

pub same_int : (width : ℕ) (t : Ty) → same_parts (ty.Int width) t ≡ same_level (ty_level.Int width) (out-Ty t)
same_int width t = ap (λ (same : Ty → Bool). same t) (kinds.at_int (Ty → Bool) test width)

pub same_ptr : (a t : Ty) → same_parts (ty.Ptr a) t ≡ same_level (ty_level.Ptr (same_parts a)) (out-Ty t)
same_ptr a t = ap (λ (same : Ty → Bool). same t) (kinds.at_ptr (Ty → Bool) test a)

pub same_array : (n : ℕ) (a t : Ty) → same_parts (ty.Array n a) t ≡ same_level (ty_level.Array n (same_parts a)) (out-Ty t)
same_array n a t = ap (λ (same : Ty → Bool). same t) (kinds.at_array (Ty → Bool) test n a)

pub same_struct : (ts : List Ty) (t : Ty) → same_parts (ty.Struct ts) t ≡ same_level (ty_level.Struct (map same_parts ts)) (out-Ty t)
same_struct ts t = ap (λ (same : Ty → Bool). same t) (kinds.at_struct (Ty → Bool) test ts)

pub same_named : (name : Name) (t : Ty) → same_parts (ty.Named name) t ≡ same_level (ty_level.Named name) (out-Ty t)
same_named name t = ap (λ (same : Ty → Bool). same t) (kinds.at_named (Ty → Bool) test name)

pub ruleset same_types = (same_int, same_ptr, same_array, same_struct, same_named)

pub ruleset types_out = (outs-Int, outs-Ptr, outs-Array, outs-Struct, outs-Named, outs-Void)

-- what folds over trees compute to
pub ruleset trees = (first_tokens, types_faulty, types_named, constants_told, constants_built, inits_started, same_types, types_out)
