-- What holds of where the names among a tree's symbols begin and end holds of its faults; and what holds of each number that is due, at its name.
use Rattle.std.proofs.Common.{◌≡◌, ◌+◌, ◌-◌, ◌^◌, ℕ, Bool, true, false, cond, List, [], ◌∷◌, ◌++◌, length, map, Option, Some, None, nat_eq, nat_lt, sym, subst}
use Rattle.std.specs.Prelude.{not, is_some}
use Rattle.std.specs.List.{AllByRecursion, cons_option, filter, filter_map, flat_map}
use Rattle.ir_core.specs.Types.{is_first_class, is_pointer}
use Rattle.ir_core.specs.Typing.{Signature, contents_of, is_bytes, parts_of_array, parts_of_struct}
use Rattle.ir_lexer.specs.declared.token.Number.{Number}
use Rattle.ir_types.specs.declared.names.Name.{Name}
use Rattle.ir_types.specs.declared.names.Name.TheVariants as name
use Rattle.ir_types.specs.declared.ty.Ty.{Ty, Ptr, out-Ty}
use Rattle.ir_types.specs.Same.{same_ty}
use Rattle.name_claims.specs.declared.claims.Fault.{Fault}
use Rattle.name_claims.specs.declared.claims.Reason.{Reason}
use Rattle.name_claims.specs.declared.claims.Reason.TheVariants as reason
use Rattle.module_grammar.proofs.ConstFolds as const_written
use Rattle.module_grammar.proofs.InitFolds as init_written
use Rattle.module_grammar.proofs.TypeFolds as type_written
use Rattle.module_grammar.specs.Attributes as attributes
use Rattle.module_grammar.specs.Constants as constants
use Rattle.module_grammar.specs.Flow as flow
use Rattle.module_grammar.specs.Functions as functions
use Rattle.module_grammar.specs.Lines as lines
use Rattle.module_grammar.specs.Listed.{further, listed}
use Rattle.module_grammar.specs.Modules as modules
use Rattle.module_grammar.specs.Symbols.{Symbol}
use Rattle.module_grammar.specs.Symbols as symbols
use Rattle.module_grammar.specs.Types.{called, function_type, open_end, result, ty, types}
use Rattle.module_grammar.specs.declared.constants.ConstText.{ConstText, fold-ConstText}
use Rattle.module_grammar.specs.declared.constants.ConstText.TheOpen as level
use Rattle.module_grammar.specs.declared.constants.ConstText as const
use Rattle.module_grammar.specs.declared.constants.GlobalNameText.{GlobalNameText}
use Rattle.module_grammar.specs.declared.constants.GlobalNameText.TheVariants as global
use Rattle.module_grammar.specs.declared.constants.InitText.{InitText}
use Rattle.module_grammar.specs.declared.constants.InitText.TheOpen as holds
use Rattle.module_grammar.specs.declared.constants.InitText as init
use Rattle.module_grammar.specs.declared.constants.IntText.{IntText}
use Rattle.module_grammar.specs.declared.constants.IntText.TheVariants as int
use Rattle.module_grammar.specs.declared.constants.OperandText.{OperandText}
use Rattle.module_grammar.specs.declared.constants.ValueText.{ValueText}
use Rattle.module_grammar.specs.declared.constants.ValueText.TheVariants as text
use Rattle.module_grammar.specs.declared.flow.BlockText.{BlockText}
use Rattle.module_grammar.specs.declared.flow.BranchText.{BranchText}
use Rattle.module_grammar.specs.declared.flow.BranchText.TheVariants as branch
use Rattle.module_grammar.specs.declared.flow.CaseText.{CaseText}
use Rattle.module_grammar.specs.declared.flow.EntryText.{EntryText}
use Rattle.module_grammar.specs.declared.flow.PhiText.{PhiText}
use Rattle.module_grammar.specs.declared.flow.TermText.{TermText}
use Rattle.module_grammar.specs.declared.flow.TermText.TheVariants as term
use Rattle.module_grammar.specs.declared.functions.DeclarationText.{DeclarationText}
use Rattle.module_grammar.specs.declared.functions.DeclaredNameText.{DeclaredNameText}
use Rattle.module_grammar.specs.declared.functions.DeclaredNameText.TheVariants as declared
use Rattle.module_grammar.specs.declared.functions.DeclaredText.{DeclaredText}
use Rattle.module_grammar.specs.declared.functions.DefinitionText.{DefinitionText}
use Rattle.module_grammar.specs.declared.functions.ParamText.{ParamText}
use Rattle.module_grammar.specs.declared.functions.ResultText.{ResultText}
use Rattle.module_grammar.specs.declared.items.GlobalBodyText.{GlobalBodyText}
use Rattle.module_grammar.specs.declared.items.HeldText.{HeldText}
use Rattle.module_grammar.specs.declared.items.HeldText.TheVariants as held
use Rattle.module_grammar.specs.declared.items.ItemText.{ItemText}
use Rattle.module_grammar.specs.declared.items.ItemText.TheVariants as item
use Rattle.module_grammar.specs.declared.items.ModuleText.{ModuleText}
use Rattle.module_grammar.specs.declared.items.TypeBodyText.{TypeBodyText}
use Rattle.module_grammar.specs.declared.items.TypeBodyText.TheVariants as body
use Rattle.module_grammar.specs.declared.lines.ArgumentText.{ArgumentText}
use Rattle.module_grammar.specs.declared.lines.CallBodyText.{CallBodyText}
use Rattle.module_grammar.specs.declared.lines.CallBodyText.TheVariants as call
use Rattle.module_grammar.specs.declared.lines.CallEndText.{CallEndText}
use Rattle.module_grammar.specs.declared.lines.CalleeText.{CalleeText}
use Rattle.module_grammar.specs.declared.lines.CountText.{CountText}
use Rattle.module_grammar.specs.declared.lines.InstructionText.{InstructionText}
use Rattle.module_grammar.specs.declared.lines.InstructionText.TheVariants as instruction
use Rattle.module_grammar.specs.declared.lines.LineText.{LineText}
use Rattle.module_grammar.specs.declared.lines.OperationText.{OperationText}
use Rattle.module_grammar.specs.declared.lines.OperationText.TheVariants as form
use Rattle.module_grammar.specs.declared.lines.VoidCallText.{VoidCallText}
use Rattle.module_grammar.specs.declared.lines.VoidCallText.TheVariants as of_void
use Rattle.module_grammar.specs.declared.places.Placed.{Placed}
use Rattle.module_grammar.specs.declared.types.CalledText.{CalledText}
use Rattle.module_grammar.specs.declared.types.TypeText.{TypeText}
use Rattle.module_grammar.specs.declared.types.TypeText as type
use Rattle.module_spelling.specs.Around.{called_in_block, called_in_body, called_in_definition, called_in_instruction, called_in_line, called_names, called_of_void, debug_declared, debug_name, declared_names}
use Rattle.named_modules.proofs.ConstKinds as const_told
use Rattle.named_modules.proofs.Lists.{all_append, all_left, all_right}
use Rattle.named_modules.proofs.TypeKinds as type_told
use Rattle.named_modules.specs.Built.{declared_params, due_after, function_of, label_name, module_of}
use Rattle.named_modules.specs.Constants.{global_name}
use Rattle.named_modules.specs.Faults.{Heads, Thing, Things, Told, Written, align_faults, argument_faults, at, block_faults, block_faults_of, block_written, branch_faults, call_faults, called_faults, callee_faults, case_faults, const_at_level, const_faults, count_faults, declaration_faults, defined, due_behind_written, due_faults, entry_faults, faults_of, field_faults, fields_faults, fields_of_type, first_of, from, function_faults, function_written, further_faults, global_faults, global_name_faults, global_var_faults, global_written, heads_of, held_faults, init_at_level, init_faults, instruction_faults, int_fault, int_faults, is_align, is_called, is_function, is_global, item_faults, label_faults, line_faults, line_written, list_faults, number_faults, operand_faults, operation_faults, own_faults, own_name_faults, param_faults, part_faults, phi_faults, register_faults, result_faults, returned_faults, signature_in, stated_before, stated_faults, taken_behind, term_faults, thing_of, things_of, twice_faults, type_faults, type_faults_at_level, type_name, type_name_faults, unless, value_faults, value_type_faults, void_faults, written_faults}
use Rattle.named_modules.specs.Faults as faults
use Rattle.named_modules.specs.Flow.{entries_in}
use Rattle.named_modules.specs.Functions.{blocks_in, is_dropped_name, name_declared}
use Rattle.named_modules.specs.Modules.{declarations_from, definition_item}
use Rattle.named_modules.specs.Types.{int_of, type_of}

-- ---- numbers that are due, by their places

module _ (T : ℕ → ℕ → Type 0) where
  abbrev pub IsMarked : ℕ → Option (Placed Name) → Type 0
  IsMarked due None = Unit {0}
  IsMarked due (Some x) = T x.start due

  -- the number that is due at each of these, in their order
  abbrev pub AreMarked : ℕ → List Written → Type 0
  AreMarked due [] = Unit {0}
  AreMarked due (w ∷ ws) = IsMarked due w.name × AreMarked (due_behind_written due w) ws

  abbrev pub AreDue : ℕ → List (Placed Name) → Type 0
  AreDue due [] = Unit {0}
  AreDue due (x ∷ xs) = T x.start due × AreDue (due_after due x.what) xs

  abbrev pub IsMarkedIn : ItemText → Type 0
  IsMarkedIn (item.Definition d) = AreMarked 0 (function_written d)
  IsMarkedIn i = Unit {0}

  pub record AreMarkedIn (written : List ItemText) : Type 0 where
    pub items : AllByRecursion IsMarkedIn written
    pub globals : AreDue 0 (filter_map global_written (filter is_global written) ++ filter_map global_written (filter (λ i. not (is_global i)) written))
    pub types : AreDue 0 (filter_map type_name written)

module _ (Q T : ℕ → ℕ → Type 0) where
  -- ---- symbols and faults

  abbrev pub SymbolStands : Symbol → Type 0
  SymbolStands (symbols.Local w) = Q w.start w.end
  SymbolStands (symbols.Global w) = Q w.start w.end
  SymbolStands (symbols.Debug w) = Q w.start w.end
  SymbolStands (symbols.Label w) = Q w.start (w.end - 1)
  SymbolStands s = Unit {0}

  abbrev pub AllStand : List Symbol → Type 0
  AllStand = AllByRecursion SymbolStands

  -- of a wrong number the one that is due is told, and of a wrong type the place alone
  abbrev pub ReasonStands : Reason → ℕ → ℕ → Type 0
  ReasonStands reason.Twice start end = Q start end
  ReasonStands (reason.WrongNumber due) start end = T start due
  ReasonStands reason.Unknown start end = Q start end
  ReasonStands reason.LeftOut start end = Q start end
  ReasonStands reason.WrongType start end = Unit {0}

  abbrev pub FaultStands : Fault → Type 0
  FaultStands f = ReasonStands f.reason f.start f.end

  abbrev pub Faults : List Fault → Type 0
  Faults = AllByRecursion FaultStands

  plus : (xs ys : List Fault) → Faults xs → Faults ys → Faults (xs ++ ys)
  plus = all_append FaultStands

  left : (ss ts : List Symbol) → AllStand (ss ++ ts) → AllStand ss
  left = all_left SymbolStands

  right : (ss ts : List Symbol) → AllStand (ss ++ ts) → AllStand ts
  right = all_right SymbolStands

  unless_stands : (b : Bool) (f : Fault) → FaultStands f → Faults (unless b f)
  unless_stands true f stands = tt
  unless_stands false f stands = (stands, tt)

  -- ---- lists

  module _ {X : Type 0} (write : X → List Symbol) where
    abbrev Each : List X → Type 0
    Each = AllByRecursion (λ x. AllStand (write x))

    flat_each : (xs : List X) → AllStand (flat_map write xs) → Each xs
    flat_each [] all = tt
    flat_each (x ∷ xs) all = (left (write x) (flat_map write xs) all, flat_each xs (right (write x) (flat_map write xs) all))

    further_each : (xs : List X) → AllStand (further (map write xs)) → Each xs
    further_each [] all = tt
    further_each (x ∷ xs) all = (left (write x) (further (map write xs)) all.1, further_each xs (right (write x) (further (map write xs)) all.1))

    listed_each : (xs : List X) → AllStand (listed (map write xs)) → Each xs
    listed_each [] all = tt
    listed_each (x ∷ xs) all = (left (write x) (further (map write xs)) all, further_each xs (right (write x) (further (map write xs)) all))

    -- before what may stand at the end
    further_front : (xs : List X) (end : List (List Symbol)) → AllStand (further (map write xs ++ end)) → Each xs
    further_front [] end all = tt
    further_front (x ∷ xs) end all = (left (write x) (further (map write xs ++ end)) all.1, further_front xs end (right (write x) (further (map write xs ++ end)) all.1))

    pub listed_front : (xs : List X) (end : List (List Symbol)) → AllStand (listed (map write xs ++ end)) → Each xs
    listed_front [] end all = tt
    listed_front (x ∷ xs) end all = (left (write x) (further (map write xs ++ end)) all, further_front xs end (right (write x) (further (map write xs ++ end)) all))

  faults_each : {X : Type 0} (P : X → Type 0) (told : X → List Fault) → ((x : X) → P x → Faults (told x)) → (xs : List X) → AllByRecursion P xs → Faults (flat_map told xs)
  faults_each P told each [] all = tt
  faults_each P told each (x ∷ xs) all = plus (told x) (flat_map told xs) (each x all.0) (faults_each P told each xs all.1)

  -- the types of parameters, and the parameters, that stand before a name
  abbrev pub StatedStands : (Placed Name → CalledText) → Placed Name → Type 0
  StatedStands stated x = Each ty (stated x).types

  abbrev pub ParamsStand : (Placed Name → DeclaredText) → Placed Name → Type 0
  ParamsStand params x = Each functions.param (params x).params

  -- ---- types

  module _ (h : Heads) where
    abbrev TypeStands : TypeText → Type 0
    TypeStands t = AllStand (ty t) → Faults (type_faults h t)

    abbrev told_type : TypeText → List Fault
    told_type = type_faults h

    int_type : (width : Placed ℕ) → TypeStands (type.Int width)
    int_type width all = subst Faults (sym (type_told.at_int (List Fault) (type_faults_at_level h) width)) tt

    named_type : (x : Placed Name) → TypeStands (type.Named x)
    named_type x all =
        let stands = subst AllStand (type_written.at_named x) all in
        subst Faults (sym (type_told.at_named (List Fault) (type_faults_at_level h) x)) (unless_stands _ (at x reason.Unknown) stands.0)

    pointer_type : (star : ℕ) (t : TypeText) → TypeStands t → TypeStands (type.Ptr star t)
    pointer_type star t of all =
        let stand = subst AllStand (type_written.at_ptr star t) all in
        subst Faults (sym (type_told.at_ptr (List Fault) (type_faults_at_level h) star t)) (of (left (ty t) (symbols.Star star ∷ []) stand))

    array_type : (start : ℕ) (count : Placed Number) (t : TypeText) → TypeStands t → TypeStands (type.Array start (count, t))
    array_type start count t of all =
        let stand = subst AllStand (type_written.at_array start count t) all in
        subst Faults (sym (type_told.at_array (List Fault) (type_faults_at_level h) start count t))
        (plus _ (type_faults h t) (unless_stands _ (at count reason.WrongType) tt) (of (left (ty t) (symbols.close_bracket ∷ []) stand.1.1.1)))

    fields_stand : (ts : List TypeText) → AllByRecursion TypeStands ts → Each ty ts → Faults (flat_map (λ fs. fs) (map told_type ts))
    fields_stand [] of all = tt
    fields_stand (t ∷ ts) of all = plus (told_type t) (flat_map (λ fs. fs) (map told_type ts)) (of.0 all.0) (fields_stand ts of.1 all.1)

    struct_type : (start : ℕ) (ts : List TypeText) → AllByRecursion TypeStands ts → TypeStands (type.Struct start ts)
    struct_type start ts of all =
        let stand = subst AllStand (type_written.at_struct start ts) all in
        subst Faults (sym (type_told.at_struct (List Fault) (type_faults_at_level h) start ts))
        (fields_stand ts of (listed_each ty ts (left (listed (map ty ts)) (symbols.close_brace ∷ []) stand.1)))

    of_type : (t : TypeText) → TypeStands t
    of_type = type_written.by_parts TypeStands int_type named_type pointer_type array_type struct_type

    of_types : (ts : List TypeText) → Each ty ts → Faults (flat_map (type_faults h) ts)
    of_types = faults_each (λ t. AllStand (ty t)) (type_faults h) of_type

    of_value_type : (t : TypeText) → AllStand (ty t) → Faults (value_type_faults h t)
    of_value_type t all = plus (type_faults h t) _ (of_type t all) (unless_stands _ (from (first_of t) 1 reason.WrongType) tt)

    -- ---- constants

    abbrev ConstStands : ConstText → Type 0
    ConstStands c = AllStand (constants.const c) → (t : Ty) → Faults (const_faults h c t)

    -- what is told of a constant by its kind
    retold : (c : ConstText) (r : Told) → fold-ConstText Told (const_at_level h) c ≡ r → (t : Ty) → Faults (r.faults t) → Faults (const_faults h c t)
    retold c r is t stand = subst (λ (r : Told). Faults (r.faults t)) (sym is) stand

    int_stands : (i : IntText) → FaultStands (int_fault i)
    int_stands (int.Number n) = tt
    int_stands (int.Truth b) = tt

    of_int : (t : Ty) (i : IntText) → Faults (int_faults t i)
    of_int t i = unless_stands (is_some (int_of t i)) (int_fault i) (int_stands i)

    global_stands : (g : GlobalNameText) → SymbolStands (constants.global_name g) → Q (global_name g).start (global_name g).end
    global_stands (global.Plain x) stands = stands
    global_stands (global.Debug x) stands = stands

    absent : (x : Placed Name) (b : Bool) → Q x.start x.end → FaultStands (at x (cond b reason.LeftOut reason.Unknown))
    absent x true stands = stands
    absent x false stands = stands

    of_global : (t : Ty) (x : Placed Name) (contents : Option Ty) → Q x.start x.end → Faults (global_faults h t x contents)
    of_global t x None stands = (absent x (is_function h x.what) stands, tt)
    of_global t x (Some contents) stands = unless_stands (same_ty (Ptr contents) t) (at x reason.WrongType) tt

    of_part : (p : TypeText × Told) → Faults (type_faults h p.0) → ((t : Ty) → Faults (p.1.faults t)) → Faults (part_faults h p)
    of_part p types values =
        plus (value_type_faults h p.0) (p.1.faults (type_of p.0))
        (plus (type_faults h p.0) (unless (is_first_class (type_of p.0)) (from (first_of p.0) 1 reason.WrongType)) types (unless_stands (is_first_class (type_of p.0)) (from (first_of p.0) 1 reason.WrongType) tt))
        (values (type_of p.0))

    integer : (i : IntText) → ConstStands (const.Int i)
    integer i all t = retold (const.Int i) (const_at_level h (level.Int i)) (const_told.at_int Told (const_at_level h) i) t (of_int t i)

    null : (start : ℕ) → ConstStands (const.Null start)
    null start all t = retold (const.Null start) (const_at_level h (level.Null start)) (const_told.at_null Told (const_at_level h) start) t (unless_stands (is_pointer t) (from start 4 reason.WrongType) tt)

    undefined : ConstStands const.Undef
    undefined all t = retold const.Undef (const_at_level h level.Undef) (const_told.at_undef Told (const_at_level h)) t tt

    global_const : (g : GlobalNameText) → ConstStands (const.Global g)
    global_const g all t =
        let stand = subst AllStand (const_written.at_global g) all in
        retold (const.Global g) (const_at_level h (level.Global g)) (const_told.at_global Told (const_at_level h) g) t
        (of_global t (global_name g) (contents_of h.globals (global_name g).what) (global_stands g stand.0))

    abbrev told_const : ConstText → Told
    told_const = fold-ConstText Told (const_at_level h)

    indices_stand : (cs : List (TypeText × ConstText)) → AllByRecursion (λ (c : TypeText × ConstText). ConstStands c.1) cs → Each constants.typed_const cs → Faults (flat_map (part_faults h) (const_told.told_each told_const cs))
    indices_stand [] of all = tt
    indices_stand (c ∷ cs) of all =
        let part : TypeText × Told = (c.0, told_const c.1) in
        plus (part_faults h part) (flat_map (part_faults h) (const_told.told_each told_const cs))
        (of_part part (of_type c.0 (left (ty c.0) (constants.const c.1) all.0)) (of.0 (right (ty c.0) (constants.const c.1) all.0)))
        (indices_stand cs of.1 all.1)

    element :
        (start : ℕ) (is_inbounds : Bool) (of base_ty : TypeText) (base : ConstText) (indices : List (TypeText × ConstText))
        → ConstStands base → AllByRecursion (λ (c : TypeText × ConstText). ConstStands c.1) indices → ConstStands (const.Element start is_inbounds (of, base_ty, base, indices))
    element start is_inbounds of base_ty base indices of_base of_indices all t =
        let stand = subst AllStand (const_written.at_element start is_inbounds of base_ty base indices) all in
        let ends = symbols.close_paren ∷ [] in
        let more = further (map constants.typed_const indices) in
        let bases = ty base_ty ++ (constants.const base ++ (more ++ ends)) in
        let opened = (right (constants.inbounds is_inbounds) (symbols.open_paren ∷ (ty of ++ (symbols.comma ∷ bases))) stand.1).1 in
        let behind = (right (ty of) (symbols.comma ∷ bases) opened).1 in
        let rest = right (ty base_ty) (constants.const base ++ (more ++ ends)) behind in
        let others = left more ends (right (constants.const base) (more ++ ends) rest) in
        let first : TypeText × ConstText = (base_ty, base) in
        let parts : Faults (flat_map (part_faults h) (const_told.told_each told_const (first ∷ indices))) =
        indices_stand (first ∷ indices) (of_base, of_indices)
        (all_append SymbolStands (ty base_ty) (constants.const base) (left (ty base_ty) (constants.const base ++ (more ++ ends)) behind) (left (constants.const base) (more ++ ends) rest), further_each constants.typed_const indices others) in
        let told = const_at_level h (const_told.element_level start is_inbounds of base_ty (told_const base) (const_told.told_each told_const indices)) in
        retold (const.Element start is_inbounds (of, base_ty, base, indices)) told (const_told.at_element Told (const_at_level h) start is_inbounds of base_ty base indices) t
        (plus (type_faults h of) _ (of_type of (left (ty of) (symbols.comma ∷ bases) opened))
        (plus (flat_map (part_faults h) (const_told.told_each told_const (first ∷ indices))) _ parts (unless_stands _ (from start 13 reason.WrongType) tt)))

    cast : (start : ℕ) (source : TypeText) (c : ConstText) (target : TypeText) → ConstStands c → ConstStands (const.Cast start (source, c, target))
    cast start source c target of_c all t =
        let stand = subst AllStand (const_written.at_cast start source c target) all in
        let ends = symbols.close_paren ∷ [] in
        let behind = symbols.to ∷ (ty target ++ ends) in
        let rest = right (ty source) (constants.const c ++ behind) stand.1.1 in
        let targets = (right (constants.const c) behind rest).1 in
        let part : TypeText × Told = (source, told_const c) in
        let told = const_at_level h (const_told.cast_level start source (told_const c) target) in
        retold (const.Cast start (source, c, target)) told (const_told.at_cast Told (const_at_level h) start source c target) t
        (plus (part_faults h part) _
        (of_part part (of_type source (left (ty source) (constants.const c ++ behind) stand.1.1)) (of_c (left (constants.const c) behind rest)))
        (plus (type_faults h target) _ (of_type target (left (ty target) ends targets)) (unless_stands (same_ty (type_of target) t) (from start 7 reason.WrongType) tt)))

    of_const : (c : ConstText) → ConstStands c
    of_const = const_written.by_parts ConstStands integer null undefined global_const element cast

    -- ---- initialisers

    abbrev AtType : Type 0
    AtType = Ty → List Fault

    abbrev InitStands : InitText → Type 0
    InitStands i = AllStand (constants.init i) → (t : Ty) → Faults (init_faults h i t)

    abbrev PartStands : TypeText × AtType → Type 0
    PartStands p = Faults (type_faults h p.0) × ((t : Ty) → Faults (p.1 t))

    of_further : (p : TypeText × AtType) → PartStands p → Faults (further_faults h p)
    of_further p stands = plus (type_faults h p.0) (p.1 (type_of p.0)) stands.0 (stands.1 (type_of p.0))

    of_field : (due : Ty) (p : TypeText × AtType) → PartStands p → Faults (field_faults h due p)
    of_field due p stands =
        plus (type_faults h p.0) _ stands.0
        (plus (unless (same_ty due (type_of p.0)) (from (first_of p.0) 1 reason.WrongType)) (p.1 (type_of p.0))
        (unless_stands (same_ty due (type_of p.0)) (from (first_of p.0) 1 reason.WrongType) tt) (stands.1 (type_of p.0)))

    of_fields : (ts : List Ty) (ps : List (TypeText × AtType)) → AllByRecursion PartStands ps → Faults (fields_faults h ts ps)
    of_fields ts [] all = tt
    of_fields [] (p ∷ ps) all = plus (further_faults h p) (fields_faults h [] ps) (of_further p all.0) (of_fields [] ps all.1)
    of_fields (t ∷ ts) (p ∷ ps) all = plus (field_faults h t p) (fields_faults h ts ps) (of_field t p all.0) (of_fields ts ps all.1)

    of_list : (start : ℕ) (o : Option (List Ty)) (ps : List (TypeText × AtType)) → AllByRecursion PartStands ps → Faults (list_faults h start o ps)
    of_list start None ps all = (tt, faults_each PartStands (further_faults h) of_further ps all)
    of_list start (Some ts) ps all =
        plus (unless (nat_eq (length ts) (length ps)) (from start 1 reason.WrongType)) (fields_faults h ts ps)
        (unless_stands (nat_eq (length ts) (length ps)) (from start 1 reason.WrongType) tt) (of_fields ts ps all)

    abbrev told_init : InitText → AtType
    told_init = init_faults h

    parts_stand : (ps : List (TypeText × InitText)) → AllByRecursion (λ (p : TypeText × InitText). InitStands p.1) ps → Each constants.typed_init ps → AllByRecursion PartStands (const_told.told_each told_init ps)
    parts_stand [] of all = tt
    parts_stand (p ∷ ps) of all =
        ((of_type p.0 (left (ty p.0) (constants.init p.1) all.0), of.0 (right (ty p.0) (constants.init p.1) all.0)), parts_stand ps of.1 all.1)

    begun : (i : InitText) (r : AtType) → init_faults h i ≡ r → (t : Ty) → Faults (r t) → Faults (init_faults h i t)
    begun i r is t stand = subst (λ (r : AtType). Faults (r t)) (sym is) stand

    const_init : (c : ConstText) → InitStands (init.Const c)
    const_init c all t =
        begun (init.Const c) (init_at_level h (const_told.const_level c)) (const_told.at_const AtType (init_at_level h) c) t (of_const c (subst AllStand (init_written.at_const c) all) t)

    zero_init : InitStands init.Zero
    zero_init all t = begun init.Zero (init_at_level h holds.Zero) (const_told.at_zero AtType (init_at_level h)) t tt

    bytes_init : (bytes : Placed (List ℕ)) → InitStands (init.Bytes bytes)
    bytes_init bytes all t =
        begun (init.Bytes bytes) (init_at_level h (const_told.bytes_level bytes)) (const_told.at_bytes AtType (init_at_level h) bytes) t
        (unless_stands (is_bytes (length bytes.what) (out-Ty t)) (from (bytes.start - 1) 1 reason.WrongType) tt)

    array_init : (start : ℕ) (ps : List (TypeText × InitText)) → AllByRecursion (λ (p : TypeText × InitText). InitStands p.1) ps → InitStands (init.Array start ps)
    array_init start ps of all t =
        let stand = subst AllStand (init_written.at_array start ps) all in
        let parts = const_told.told_each told_init ps in
        begun (init.Array start ps) (init_at_level h (const_told.array_level start parts)) (const_told.at_array AtType (init_at_level h) start ps) t
        (of_list start (parts_of_array h.types (out-Ty t) (length parts)) parts
        (parts_stand ps of (listed_each constants.typed_init ps (left (constants.inits ps) (symbols.close_bracket ∷ []) stand.1))))

    struct_init : (start : ℕ) (ps : List (TypeText × InitText)) → AllByRecursion (λ (p : TypeText × InitText). InitStands p.1) ps → InitStands (init.Struct start ps)
    struct_init start ps of all t =
        let stand = subst AllStand (init_written.at_struct start ps) all in
        let parts = const_told.told_each told_init ps in
        begun (init.Struct start ps) (init_at_level h (const_told.struct_level start parts)) (const_told.at_struct AtType (init_at_level h) start ps) t
        (of_list start (parts_of_struct h.types (out-Ty t)) parts
        (parts_stand ps of (listed_each constants.typed_init ps (left (constants.inits ps) (symbols.close_brace ∷ []) stand.1))))

    of_init : (i : InitText) → InitStands i
    of_init = init_written.by_parts InitStands const_init zero_init bytes_init array_init struct_init

    -- ---- values

    of_align : (n : Option (Placed Number)) → Faults (align_faults n)
    of_align None = tt
    of_align (Some n) = unless_stands (is_align n.what) (at n reason.WrongType) tt

    of_count : (w : Option CountText) → AllStand (lines.count w) → Faults (count_faults h w)
    of_count None all = tt
    of_count (Some w) all =
        plus (type_faults h w.ty) (int_faults (type_of w.ty) w.number) (of_type w.ty (left (ty w.ty) (constants.int w.number ∷ []) all.1)) (of_int (type_of w.ty) w.number)

    of_result : (w : Option TypeText) → AllStand (result w) → Faults (result_faults h w)
    of_result None all = tt
    of_result (Some t) all = of_value_type t all

    module _ (ts : Things) where
      of_own : (t : Ty) (x : Placed Name) (own : Option Ty) → Faults (own_faults t x own)
      of_own t x None = tt
      of_own t x (Some own) = unless_stands (same_ty own t) (at x reason.WrongType) tt

      of_register : (t : Ty) (x : Placed Name) (o : Option Thing) → Q x.start x.end → Faults (register_faults t x o)
      of_register t x None stands = (stands, tt)
      of_register t x (Some faults.Block') stands = (tt, tt)
      of_register t x (Some (faults.Register' own)) stands = of_own t x own

      of_block_name : (x : Placed Name) (o : Option Thing) → Q x.start x.end → Faults (block_faults_of x o)
      of_block_name x None stands = (stands, tt)
      of_block_name x (Some faults.Block') stands = tt
      of_block_name x (Some (faults.Register' own)) stands = (tt, tt)

      of_label : (x : Placed Name) → Q x.start x.end → Faults (label_faults ts x)
      of_label x stands = of_block_name x (thing_of ts x.what) stands

      of_value : (t : Ty) (v : ValueText) → AllStand (constants.value v) → Faults (value_faults h ts t v)
      of_value t (text.Const c) all = of_const c all t
      of_value t (text.Local x) all = of_register t x (thing_of ts x.what) all.0
      of_value t (text.Tagged tag x) all = (tt, tt)

      of_operand : (w : OperandText) → AllStand (constants.operand w) → Faults (operand_faults h ts w)
      of_operand w all =
          plus (value_type_faults h w.ty) (value_faults h ts (type_of w.ty) w.value) (of_value_type w.ty (left (ty w.ty) (constants.value w.value) all))
          (of_value (type_of w.ty) w.value (right (ty w.ty) (constants.value w.value) all))

      -- ---- lines

      of_pair : (o : OperandText) (v : ValueText) → AllStand (constants.operand o ++ (symbols.comma ∷ constants.value v)) → Faults (operand_faults h ts o ++ value_faults h ts (type_of o.ty) v)
      of_pair o v all =
          plus (operand_faults h ts o) (value_faults h ts (type_of o.ty) v) (of_operand o (left (constants.operand o) (symbols.comma ∷ constants.value v) all))
          (of_value (type_of o.ty) v (right (constants.operand o) (symbols.comma ∷ constants.value v) all).1)

      of_operation : (w : OperationText) → AllStand (lines.operation w) → Faults (operation_faults h ts w)
      of_operation (form.Binary w) all = of_pair w.left w.right (right (lines.operator w.operator) (constants.operand w.left ++ (symbols.comma ∷ constants.value w.right)) all)
      of_operation (form.Compare w) all = of_pair w.left w.right all.1.1
      of_operation (form.Cast w) all =
          plus (operand_faults h ts w.from) (value_type_faults h w.to) (of_operand w.from (left (constants.operand w.from) (symbols.to ∷ ty w.to) all.1))
          (of_value_type w.to (right (constants.operand w.from) (symbols.to ∷ ty w.to) all.1).1)
      of_operation (form.Select w) all =
          let other = symbols.comma ∷ constants.operand w.other in
          let then = symbols.comma ∷ (constants.operand w.then ++ other) in
          let rest = (right (constants.operand w.condition) then all.1).1 in
          plus (operand_faults h ts w.condition) (operand_faults h ts w.then ++ operand_faults h ts w.other) (of_operand w.condition (left (constants.operand w.condition) then all.1))
          (plus (operand_faults h ts w.then) (operand_faults h ts w.other) (of_operand w.then (left (constants.operand w.then) other rest)) (of_operand w.other (right (constants.operand w.then) other rest).1))

      uncalled : (x : Placed Name) (b : Bool) → Q x.start x.end → FaultStands (at x (cond b reason.WrongType reason.Unknown))
      uncalled x true stands = tt
      uncalled x false stands = stands

      of_callee : (x : Placed Name) (called : Option CalledText) (s : Option Signature) → Q x.start x.end → Faults (callee_faults h x called s)
      of_callee x called None stands = (uncalled x (is_some (contents_of h.globals x.what)) stands, tt)
      of_callee x called (Some s) stands = unless_stands (is_called s called) (at x reason.WrongType) tt

      -- the types of parameters that are stated
      abbrev TypesStand : CalledText → Type 0
      TypesStand c = Each ty c.types

      abbrev StatedStand : Option CalledText → Type 0
      StatedStand None = Unit {0}
      StatedStand (Some c) = TypesStand c

      of_stated : (c : Option CalledText) → StatedStand c → Faults (stated_faults h c)
      of_stated None stand = tt
      of_stated (Some c) stand = of_types c.types stand

      of_argument : (w : ArgumentText) → AllStand (lines.argument w) → Faults (argument_faults h ts w)
      of_argument w all =
          let rest = right (ty w.ty) (flat_map attributes.param_attribute w.attributes ++ constants.value w.value) all in
          plus (value_type_faults h w.ty) (value_faults h ts (type_of w.ty) w.value) (of_value_type w.ty (left (ty w.ty) (flat_map attributes.param_attribute w.attributes ++ constants.value w.value) all))
          (of_value (type_of w.ty) w.value (right (flat_map attributes.param_attribute w.attributes) (constants.value w.value) rest))

      of_arguments : (end : CallEndText) → AllStand (lines.call_end end) → Faults (flat_map (argument_faults h ts) end.arguments)
      of_arguments end all =
          faults_each (λ (w : ArgumentText). AllStand (lines.argument w)) (argument_faults h ts) of_argument end.arguments
          (listed_each lines.argument end.arguments (left (lines.arguments end.arguments) (symbols.close_paren ∷ flat_map attributes.function_attribute end.attributes) all.1))

      of_called : (of : Option TypeText) (c : Option CalledText) (x : Placed Name) (end : CallEndText) → AllStand (result of) → StatedStand c → Q x.start x.end → AllStand (lines.call_end end) → Faults (called_faults h ts of c x end)
      of_called of c x end results stated stands ends =
          plus (result_faults h of) _ (of_result of results)
          (plus (stated_faults h c) _ (of_stated c stated)
          (plus (callee_faults h x c (signature_in h.signatures x.what)) (flat_map (argument_faults h ts) end.arguments) (of_callee x c (signature_in h.signatures x.what) stands) (of_arguments end ends)))

      function_types : (c : Option CalledText) → AllStand (function_type c) → StatedStand c
      function_types None all = tt
      function_types (Some c) all = listed_front ty c.types (open_end c.is_open) (left (called c) (symbols.close_paren ∷ []) all.1)

      of_callee_text : (c : CalleeText) (end : CallEndText) → AllStand (lines.callee c) → AllStand (lines.call_end end) → Faults (called_faults h ts c.result c.called (global_name c.name) end)
      of_callee_text c end all ends =
          let named = constants.global_name c.name ∷ [] in
          let rest = right (result c.result) (function_type c.called ++ named) all in
          of_called c.result c.called (global_name c.name) end (left (result c.result) (function_type c.called ++ named) all) (function_types c.called (left (function_type c.called) named rest))
          (global_stands c.name (right (function_type c.called) named rest).0) ends

      module _ (stated : Placed Name → CalledText) where
        abbrev NamesStand : List (Placed Name) → Type 0
        NamesStand = AllByRecursion (StatedStands stated)

        of_void_call : (is_stated : Bool) (v : VoidCallText) → AllStand (lines.void_call v) → NamesStand (called_of_void is_stated v) → Faults (void_faults h stated ts is_stated v)
        of_void_call true (of_void.Call x end) all names = of_called None (Some (stated x)) x end (tt, tt) names.0 all.0 all.1
        of_void_call false (of_void.Call x end) all names = of_called None None x end (tt, tt) tt all.0 all.1
        of_void_call is_stated (of_void.Debug x attributes) all names = tt

        of_call : (b : CallBodyText) → AllStand (lines.call_body b) → NamesStand (called_in_body b) → Faults (call_faults h stated ts b)
        of_call (call.Convention some c end) all names =
            let rest = right (flat_map attributes.param_attribute some) (lines.callee c ++ lines.call_end end) all.1 in
            of_callee_text c end (left (lines.callee c) (lines.call_end end) rest) (right (lines.callee c) (lines.call_end end) rest)
        of_call (call.Attributes first others c end) all names =
            let behind = right (attributes.param_attribute first) (flat_map attributes.param_attribute others ++ (lines.callee c ++ lines.call_end end)) all in
            let rest = right (flat_map attributes.param_attribute others) (lines.callee c ++ lines.call_end end) behind in
            of_callee_text c end (left (lines.callee c) (lines.call_end end) rest) (right (lines.callee c) (lines.call_end end) rest)
        of_call (call.Typed t c x end) all names =
            let ends = constants.global_name x ∷ lines.call_end end in
            let rest = right (ty t) (function_type c ++ ends) all in
            let named = right (function_type c) ends rest in
            of_called (Some t) c (global_name x) end (left (ty t) (function_type c ++ ends) all) (function_types c (left (function_type c) ends rest)) (global_stands x named.0) named.1
        of_call (call.Void v) all names = of_void_call v.is_stated v.call (right (lines.stated v.is_stated) (lines.void_call v.call) all.1) names

        of_instruction : (w : InstructionText) → AllStand (lines.instruction w) → NamesStand (called_in_instruction w) → Faults (instruction_faults h stated ts w)
        of_instruction (instruction.Operation w) all names = of_operation w all
        of_instruction (instruction.Element w) all names =
            let indices = further (map constants.operand w.indices) in
            let bases = constants.operand w.base ++ indices in
            let inner = right (constants.inbounds w.inbounds) (ty w.of ++ (symbols.comma ∷ bases)) all.1 in
            let rest = (right (ty w.of) (symbols.comma ∷ bases) inner).1 in
            plus (type_faults h w.of) _ (of_type w.of (left (ty w.of) (symbols.comma ∷ bases) inner))
            (plus (operand_faults h ts w.base) (flat_map (operand_faults h ts) w.indices) (of_operand w.base (left (constants.operand w.base) indices rest))
            (faults_each (λ (o : OperandText). AllStand (constants.operand o)) (operand_faults h ts) of_operand w.indices (further_each constants.operand w.indices (right (constants.operand w.base) indices rest))))
        of_instruction (instruction.Alloca w) all names =
            let ends = lines.count w.count ++ lines.align w.align in
            plus (type_faults h w.ty) _ (of_type w.ty (left (ty w.ty) ends all.1))
            (plus (count_faults h w.count) (align_faults w.align) (of_count w.count (left (lines.count w.count) (lines.align w.align) (right (ty w.ty) ends all.1))) (of_align w.align))
        of_instruction (instruction.Load w) all names =
            let ends = constants.operand w.address ++ lines.align w.align in
            let rest = (right (ty w.ty) (symbols.comma ∷ ends) all.1).1 in
            plus (value_type_faults h w.ty) _ (of_value_type w.ty (left (ty w.ty) (symbols.comma ∷ ends) all.1))
            (plus (operand_faults h ts w.address) (align_faults w.align) (of_operand w.address (left (constants.operand w.address) (lines.align w.align) rest)) (of_align w.align))
        of_instruction (instruction.Store w) all names =
            let ends = constants.operand w.address ++ lines.align w.align in
            let rest = (right (constants.operand w.value) (symbols.comma ∷ ends) all.1).1 in
            plus (operand_faults h ts w.value) _ (of_operand w.value (left (constants.operand w.value) (symbols.comma ∷ ends) all.1))
            (plus (operand_faults h ts w.address) (align_faults w.align) (of_operand w.address (left (constants.operand w.address) (lines.align w.align) rest)) (of_align w.align))
        of_instruction (instruction.Call w) all names =
            of_call w.body (right (lines.tail w.tail) (symbols.call ∷ lines.call_body w.body) all).1 names

        abbrev LineStands : LineText → Type 0
        LineStands w = AllStand (lines.line w) × NamesStand (called_in_line w)

        of_line : (w : LineText) → LineStands w → Faults (line_faults h stated ts w)
        of_line w stands =
            let attached = right (lines.register w.register) (lines.attached w.attached) stands.0 in
            of_instruction w.attached.instruction (left (lines.instruction w.attached.instruction) (attributes.attachments w.attached.attachments) attached) stands.1

        -- ---- blocks

        of_entry : (t : Ty) (w : EntryText) → AllStand (flow.entry w) → Faults (entry_faults h ts t w)
        of_entry t w all =
            let ends = symbols.comma ∷ symbols.Local w.from ∷ symbols.close_bracket ∷ [] in
            plus (value_faults h ts t w.value) (label_faults ts w.from) (of_value t w.value (left (constants.value w.value) ends all.1))
            (of_label w.from (right (constants.value w.value) ends all.1).1.0)

        of_phi : (w : PhiText) → AllStand (flow.phi_node w) → Faults (phi_faults h ts w)
        of_phi w all =
            let n = w.node in
            let others = further (map flow.entry n.others) ++ attributes.attachments n.attachments in
            let node = right (lines.register w.register) (flow.node n) all in
            let rest = right (ty n.ty) (flow.entry n.first ++ others) node.1 in
            plus (value_type_faults h n.ty) (flat_map (entry_faults h ts (type_of n.ty)) (entries_in n)) (of_value_type n.ty (left (ty n.ty) (flow.entry n.first ++ others) node.1))
            (faults_each (λ (e : EntryText). AllStand (flow.entry e)) (entry_faults h ts (type_of n.ty)) (of_entry (type_of n.ty)) (entries_in n)
            (left (flow.entry n.first) others rest, further_each flow.entry n.others (left (further (map flow.entry n.others)) (attributes.attachments n.attachments) (right (flow.entry n.first) others rest))))

        of_returned : (w : Option OperandText) → AllStand (flow.returned w) → Faults (returned_faults h ts w)
        of_returned None all = tt
        of_returned (Some w) all = of_operand w all

        of_branch : (w : BranchText) → AllStand (flow.branch w) → Faults (branch_faults h ts w)
        of_branch (branch.Always x) all = of_label x all.1.0
        of_branch (branch.Condition w) all =
            let labels = symbols.comma ∷ (flow.target w.on_true ++ (symbols.comma ∷ flow.target w.on_false)) in
            let behind = right (constants.operand w.condition) labels all in
            plus (operand_faults h ts w.condition) _ (of_operand w.condition (left (constants.operand w.condition) labels all))
            (plus (label_faults ts w.on_true) (label_faults ts w.on_false) (of_label w.on_true behind.1.1.0) (of_label w.on_false behind.1.1.1.1.1.0))

        of_case : (w : CaseText) → AllStand (flow.case w) → Faults (case_faults h ts w)
        of_case w all =
            let ends = constants.int w.number ∷ symbols.comma ∷ flow.target w.label in
            plus (type_faults h w.ty) _ (of_type w.ty (left (ty w.ty) ends all))
            (plus (int_faults (type_of w.ty) w.number) (label_faults ts w.label) (of_int (type_of w.ty) w.number) (of_label w.label (right (ty w.ty) ends all).1.1.1.0))

        of_term : (w : TermText) → AllStand (flow.term w) → Faults (term_faults h ts w)
        of_term (term.Ret w) all = of_returned w all.1
        of_term (term.Br w) all = of_branch w all.1
        of_term (term.Switch w) all =
            let ends = symbols.close_bracket ∷ [] in
            let cases = flat_map flow.case w.cases in
            let labels = symbols.comma ∷ (flow.target w.default ++ (symbols.Bracket w.at ∷ (cases ++ ends))) in
            let rest = (right (constants.operand w.value) labels all.1).1.1 in
            plus (operand_faults h ts w.value) _ (of_operand w.value (left (constants.operand w.value) labels all.1))
            (plus (label_faults ts w.default) (flat_map (case_faults h ts) w.cases) (of_label w.default rest.0)
            (faults_each (λ (c : CaseText). AllStand (flow.case c)) (case_faults h ts) of_case w.cases (flat_each flow.case w.cases (left cases ends rest.1.1))))
        of_term term.Unreachable all = tt

        lines_stand : (ws : List LineText) → Each lines.line ws → NamesStand (flat_map called_in_line ws) → Faults (flat_map (line_faults h stated ts) ws)
        lines_stand [] all names = tt
        lines_stand (w ∷ ws) all names =
            plus (line_faults h stated ts w) (flat_map (line_faults h stated ts) ws)
            (of_line w (all.0, all_left (StatedStands stated) (called_in_line w) (flat_map called_in_line ws) names))
            (lines_stand ws all.1 (all_right (StatedStands stated) (called_in_line w) (flat_map called_in_line ws) names))

        of_block : (w : BlockText) → AllStand (flow.block w) → NamesStand (called_in_block w) → Faults (block_faults h stated ts w)
        of_block w all names =
            let phis = flat_map flow.phi_node w.body.phis in
            let all_lines = flat_map lines.line w.body.lines in
            let rest = right (flow.label w.label) (flow.body w.body ++ flow.end w.end) all in
            let body_stands = left (flow.body w.body) (flow.end w.end) rest in
            let ends = right (flow.body w.body) (flow.end w.end) rest in
            plus (flat_map (phi_faults h ts) w.body.phis) _ (faults_each (λ (p : PhiText). AllStand (flow.phi_node p)) (phi_faults h ts) of_phi w.body.phis (flat_each flow.phi_node w.body.phis (left phis all_lines body_stands)))
            (plus (flat_map (line_faults h stated ts) w.body.lines) (term_faults h ts w.end.term) (lines_stand w.body.lines (flat_each lines.line w.body.lines (right phis all_lines body_stands)) names)
            (of_term w.end.term (left (flow.term w.end.term) (attributes.attachments w.end.attachments) ends)))

        blocks_stand : (ws : List BlockText) → Each flow.block ws → NamesStand (flat_map called_in_block ws) → Faults (flat_map (block_faults h stated ts) ws)
        blocks_stand [] all names = tt
        blocks_stand (w ∷ ws) all names =
            plus (block_faults h stated ts w) (flat_map (block_faults h stated ts) ws)
            (of_block w all.0 (all_left (StatedStands stated) (called_in_block w) (flat_map called_in_block ws) names))
            (blocks_stand ws all.1 (all_right (StatedStands stated) (called_in_block w) (flat_map called_in_block ws) names))

    -- ---- names

    abbrev PlacedStands : Placed Name → Type 0
    PlacedStands x = Q x.start x.end

    abbrev NameStands : Option (Placed Name) → Type 0
    NameStands None = Unit {0}
    NameStands (Some x) = PlacedStands x

    abbrev WrittenStands : Written → Type 0
    WrittenStands w = NameStands w.name

    number_stands : (due : ℕ) (x : Placed Name) (n : Name) → T x.start due → Faults (number_faults due x n)
    number_stands due x (name.Text bytes) marked = tt
    number_stands due x (name.Number n) marked = unless_stands (nat_eq n due) (at x (reason.WrongNumber due)) marked

    twice_stands : (fits : Bool) (x : Placed Name) → PlacedStands x → Faults (unless fits (at x reason.Twice))
    twice_stands fits x stands = unless_stands fits (at x reason.Twice) stands

    own_stands : (whole : Placed Name) (taken : List Name) (due : ℕ) (x : Option (Placed Name)) (defines : Bool) → NameStands x → IsMarked T due x → Faults (own_name_faults whole taken due x defines)
    own_stands whole taken due None true stands marked = unless_stands (nat_lt due (2 ^ 32)) (at whole reason.WrongType) tt
    own_stands whole taken due None false stands marked = tt
    own_stands whole taken due (Some x) true stands marked =
        plus _ (number_faults due x x.what) (twice_stands _ x stands) (number_stands due x x.what marked)
    own_stands whole taken due (Some x) false stands marked =
        plus _ (at x reason.WrongType ∷ []) (twice_stands _ x stands) (tt, tt)

    of_written : (whole : Placed Name) (taken : List Name) (due : ℕ) (ws : List Written) → AllByRecursion WrittenStands ws → AreMarked T due ws → Faults (written_faults whole taken due ws)
    of_written whole taken due [] stand marked = tt
    of_written whole taken due (w ∷ ws) stand marked =
        plus (own_name_faults whole taken due w.name w.defines) (written_faults whole (taken_behind taken due w) (due_behind_written due w) ws)
        (own_stands whole taken due w.name w.defines stand.0 marked.0) (of_written whole (taken_behind taken due w) (due_behind_written due w) ws stand.1 marked.1)

    local_stands : (x : Option (Placed Name)) → AllStand (functions.local x) → NameStands x
    local_stands None all = tt
    local_stands (Some x) all = all.0

    set_stands : (x : Option (Placed Name)) → AllStand (lines.register x) → NameStands x
    set_stands None all = tt
    set_stands (Some x) all = all.0

    label_stands : (x : Option (Placed Name)) → AllStand (flow.label x) → NameStands (label_name x)
    label_stands None all = tt
    label_stands (Some x) all = all.0

    param_type : (p : ParamText) → AllStand (functions.param p) → AllStand (ty p.ty)
    param_type p all = left (ty p.ty) (flat_map attributes.param_attribute p.attributes ++ functions.local p.name) all

    param_name : (p : ParamText) → AllStand (functions.param p) → NameStands p.name
    param_name p all =
        local_stands p.name (right (flat_map attributes.param_attribute p.attributes) (functions.local p.name) (right (ty p.ty) (flat_map attributes.param_attribute p.attributes ++ functions.local p.name) all))

    params_written : (ps : List ParamText) → Each functions.param ps → AllByRecursion WrittenStands (map (λ (p : ParamText). defined p.name) ps)
    params_written [] all = tt
    params_written (p ∷ ps) all = (param_name p all.0, params_written ps all.1)

    phis_written : (ps : List PhiText) → Each flow.phi_node ps → AllByRecursion WrittenStands (map (λ (p : PhiText). defined p.register) ps)
    phis_written [] all = tt
    phis_written (p ∷ ps) all = (set_stands p.register (left (lines.register p.register) (flow.node p.node) all.0), phis_written ps all.1)

    lines_written : (ws : List LineText) → Each lines.line ws → AllByRecursion WrittenStands (map line_written ws)
    lines_written [] all = tt
    lines_written (w ∷ ws) all = (set_stands w.register (left (lines.register w.register) (lines.attached w.attached) all.0), lines_written ws all.1)

    of_block_written : (w : BlockText) → AllStand (flow.block w) → AllByRecursion WrittenStands (block_written w)
    of_block_written w all =
        let phis = flat_map flow.phi_node w.body.phis in
        let all_lines = flat_map lines.line w.body.lines in
        let body_stands = left (flow.body w.body) (flow.end w.end) (right (flow.label w.label) (flow.body w.body ++ flow.end w.end) all) in (
          label_stands w.label (left (flow.label w.label) (flow.body w.body ++ flow.end w.end) all),
          all_append WrittenStands (map (λ (p : PhiText). defined p.register) w.body.phis) (map line_written w.body.lines)
              (phis_written w.body.phis (flat_each flow.phi_node w.body.phis (left phis all_lines body_stands)))
              (lines_written w.body.lines (flat_each lines.line w.body.lines (right phis all_lines body_stands))),
        )

    blocks_written : (ws : List BlockText) → Each flow.block ws → AllByRecursion WrittenStands (flat_map block_written ws)
    blocks_written [] all = tt
    blocks_written (w ∷ ws) all = all_append WrittenStands (block_written w) (flat_map block_written ws) (of_block_written w all.0) (blocks_written ws all.1)

    -- ---- functions

    of_param : (p : ParamText) → AllStand (functions.param p) → Faults (param_faults h p)
    of_param p all = of_value_type p.ty (param_type p all)

    of_params : (ps : List ParamText) → Each functions.param ps → Faults (flat_map (param_faults h) ps)
    of_params = faults_each (λ (p : ParamText). AllStand (functions.param p)) (param_faults h) of_param

    result_type : (r : ResultText) → AllStand (functions.result r) → AllStand (result r.ty)
    result_type r all =
        right (flat_map attributes.param_attribute r.attributes) (result r.ty) (right (attributes.convention r.is_ccc) (flat_map attributes.param_attribute r.attributes ++ result r.ty) all)

    of_function : (stated : Placed Name → CalledText) (w : DefinitionText) → AllStand (functions.definition w) → AllByRecursion (StatedStands stated) (called_in_definition w) → AreMarked T 0 (function_written w) → Faults (function_faults h stated w)
    of_function stated w all names marked =
        let blocks = flow.block w.entry ++ (flat_map flow.block w.others ++ (symbols.close_brace ∷ [])) in
        let attached = attributes.attached w.attachment ++ (symbols.Brace w.at ∷ blocks) in
        let headed = right (functions.linkage w.linkage) (functions.head w.head ++ attached) all.1 in
        let head = left (functions.head w.head) attached headed in
        let inner = (right (attributes.attached w.attachment) (symbols.Brace w.at ∷ blocks) (right (functions.head w.head) attached headed)).1 in
        let others = flat_each flow.block w.others (left (flat_map flow.block w.others) (symbols.close_brace ∷ []) (right (flow.block w.entry) (flat_map flow.block w.others ++ (symbols.close_brace ∷ [])) inner)) in
        let each_block : Each flow.block (blocks_in w) = (left (flow.block w.entry) (flat_map flow.block w.others ++ (symbols.close_brace ∷ [])) inner, others) in
        let behind = constants.global_name w.head.name ∷ symbols.open_paren ∷ (functions.params w.head.params ++ (symbols.close_paren ∷ functions.head_end w.head.end)) in
        let params = listed_each functions.param w.head.params (left (functions.params w.head.params) (symbols.close_paren ∷ functions.head_end w.head.end) (right (functions.result w.head.result) behind head).1.1) in
        let ts = things_of h.types (function_of h.types w) in
        plus (result_faults h w.head.result.ty) _ (of_result w.head.result.ty (result_type w.head.result (left (functions.result w.head.result) behind head)))
        (plus (flat_map (param_faults h) w.head.params) _ (of_params w.head.params params)
        (plus (flat_map (block_faults h stated ts) (blocks_in w)) (written_faults (global_name w.head.name) [] 0 (function_written w)) (blocks_stand ts stated (blocks_in w) each_block names)
        (of_written (global_name w.head.name) [] 0 (function_written w)
        (all_append WrittenStands (map (λ (p : ParamText). defined p.name) w.head.params) (flat_map block_written (blocks_in w)) (params_written w.head.params params) (blocks_written (blocks_in w) each_block)) marked)))

    -- ---- items

    module _ (stated : Placed Name → CalledText) (params : Placed Name → DeclaredText) where
      of_declared : (w : DeclaredNameText) → AllStand (functions.declared w) → AllByRecursion (ParamsStand params) (debug_name w) → Each functions.param (declared_params params w).params
      of_declared (declared.Plain x ps end) all names =
          listed_front functions.param ps.params (open_end ps.is_open) (left (functions.declared_params ps) (symbols.close_paren ∷ functions.head_end end) all.1.1)
      of_declared (declared.Debug x end) all names = names.0

      -- what is at fault in a declaration that is dropped or not, and what is told of those behind it
      of_declaration :
          (count : ℕ) (d : DeclarationText) (more : List (ℕ × DeclarationText)) (dropped : Bool) → AllStand (functions.declaration d)
          → AllByRecursion (ParamsStand params) (flat_map debug_declared (cond dropped [] ((count, d) ∷ []) ++ more))
          → Faults (cond dropped [] (result_faults h d.result.ty ++ flat_map (param_faults h) (declared_params params d.declared).params))
          × AllByRecursion (ParamsStand params) (flat_map debug_declared more)
      of_declaration count d more true all names = (tt, names)
      of_declaration count d more false all names =
          let here = all_left (ParamsStand params) (debug_name d.declared) (flat_map debug_declared more) names in
          let later = all_right (ParamsStand params) (debug_name d.declared) (flat_map debug_declared more) names in
          let results = result_type d.result (left (functions.result d.result) (functions.declared d.declared) all.1) in
          let each_param = of_declared d.declared (right (functions.result d.result) (functions.declared d.declared) all.1) here in
          (plus (result_faults h d.result.ty) (flat_map (param_faults h) (declared_params params d.declared).params) (of_result d.result.ty results) (of_params (declared_params params d.declared).params each_param), later)

      of_fields_of : (b : TypeBodyText) → AllStand (modules.type_body b) → Faults (flat_map (type_faults h) (fields_of_type b))
      of_fields_of body.Opaque all = tt
      of_fields_of (body.Struct start fields) all = of_types fields (listed_each ty fields (left (types fields) (symbols.close_brace ∷ []) all.1))

      of_held : (t : Ty) (w : HeldText) → AllStand (modules.held w) → Faults (held_faults h t w)
      of_held t held.External all = tt
      of_held t (held.Init linkage i) all = of_init i all t

      of_global_body : (w : GlobalBodyText) → AllStand (modules.global_body w) → Faults (global_var_faults h w)
      of_global_body w all =
          let ends = modules.held w.held ++ lines.align w.align in
          let typed = symbols.Holding w.word ∷ (ty w.ty ++ ends) in
          let rest = (right (attributes.unnamed_addr w.unnamed_addr) typed (right (modules.held_where w.held) (attributes.unnamed_addr w.unnamed_addr ++ typed) all)).1 in
          plus (type_faults h w.ty) _ (of_type w.ty (left (ty w.ty) ends rest))
          (plus (held_faults h (type_of w.ty) w.held) (align_faults w.align) (of_held (type_of w.ty) w.held (left (modules.held w.held) (lines.align w.align) (right (ty w.ty) ends rest))) (of_align w.align))

      of_items :
          (count : ℕ) (items : List ItemText) → AllStand (flat_map modules.item items) → AllByRecursion (StatedStands stated) (flat_map called_in_definition (filter_map definition_item items))
          → AllByRecursion (ParamsStand params) (flat_map debug_declared (declarations_from count items)) → AllByRecursion (IsMarkedIn T) items → Faults (flat_map (item_faults h stated params) items)
      of_items count [] all calls names marked = tt
      of_items count (item.Declaration d ∷ items) all calls names marked =
          let here = of_declaration count d (declarations_from count items) (is_dropped_name d.declared) (left (functions.declaration d) (flat_map modules.item items) all) names in
          plus (declaration_faults h params d) (flat_map (item_faults h stated params) items) here.0 (of_items count items (right (functions.declaration d) (flat_map modules.item items) all) calls here.1 marked.1)
      of_items count (item.Definition d ∷ items) all calls names marked =
          plus (function_faults h stated d) (flat_map (item_faults h stated params) items)
          (of_function stated d (left (functions.definition d) (flat_map modules.item items) all) (all_left (StatedStands stated) (called_in_definition d) (flat_map called_in_definition (filter_map definition_item items)) calls) marked.0)
          (of_items (count + 1) items (right (functions.definition d) (flat_map modules.item items) all) (all_right (StatedStands stated) (called_in_definition d) (flat_map called_in_definition (filter_map definition_item items)) calls) names marked.1)
      of_items count (item.Type x b ∷ items) all calls names marked =
          plus (flat_map (type_faults h) (fields_of_type b)) (flat_map (item_faults h stated params) items)
          (of_fields_of b (left (modules.type_body b) (flat_map modules.item items) all.1.1.1)) (of_items count items (right (modules.type_body b) (flat_map modules.item items) all.1.1.1) calls names marked.1)
      of_items count (item.Global g b ∷ items) all calls names marked =
          plus (global_var_faults h b) (flat_map (item_faults h stated params) items)
          (of_global_body b (left (modules.global_body b) (flat_map modules.item items) all.1.1)) (of_items count items (right (modules.global_body b) (flat_map modules.item items) all.1.1) calls names marked.1)
      of_items count (item.Target ∷ items) all calls names marked = of_items count items all.1.1.1.1 calls names marked.1
      of_items count (item.Attributes start ∷ items) all calls names marked = of_items count items all.1.1.1.1.1.1 calls names marked.1
      of_items count (item.Metadata is_distinct m ∷ items) all calls names marked =
          of_items count items (right (modules.item (item.Metadata is_distinct m)) (flat_map modules.item items) all) calls names marked.1

    -- ---- names of items

    abbrev NamesOf : List (Placed Name) → Type 0
    NamesOf = AllByRecursion PlacedStands

    of_twice : (taken : List Name) (xs : List (Placed Name)) → NamesOf xs → Faults (twice_faults taken xs)
    of_twice taken [] all = tt
    of_twice taken (x ∷ xs) all = plus _ (twice_faults (x.what ∷ taken) xs) (twice_stands _ x all.0) (of_twice (x.what ∷ taken) xs all.1)

    of_dues : (due : ℕ) (xs : List (Placed Name)) → AreDue T due xs → Faults (due_faults due xs)
    of_dues due [] dues = tt
    of_dues due (x ∷ xs) dues = plus (number_faults due x x.what) (due_faults (due_after due x.what) xs) (number_stands due x x.what dues.0) (of_dues (due_after due x.what) xs dues.1)

    one_more : (o : Option (Placed Name)) (xs : List (Placed Name)) → NameStands o → NamesOf xs → NamesOf (cons_option o xs)
    one_more None xs stands all = all
    one_more (Some x) xs stands all = (stands, all)

    filtered : (name_of : ItemText → Option (Placed Name)) → ((i : ItemText) → AllStand (modules.item i) → NameStands (name_of i)) → (items : List ItemText) → AllStand (flat_map modules.item items) → NamesOf (filter_map name_of items)
    filtered name_of each [] all = tt
    filtered name_of each (i ∷ items) all =
        one_more (name_of i) (filter_map name_of items) (each i (left (modules.item i) (flat_map modules.item items) all)) (filtered name_of each items (right (modules.item i) (flat_map modules.item items) all))

    unless_dropped : (dropped : Bool) (x : Placed Name) → PlacedStands x → NameStands (cond dropped None (Some x))
    unless_dropped true x stands = tt
    unless_dropped false x stands = stands

    declared_stands : (w : DeclaredNameText) → AllStand (functions.declared w) → PlacedStands (name_declared w)
    declared_stands (declared.Plain x ps end) all = all.0
    declared_stands (declared.Debug x end) all = all.0

    defined_stands : (d : DefinitionText) → AllStand (functions.definition d) → PlacedStands (global_name d.head.name)
    defined_stands d all =
        let attached = attributes.attached d.attachment ++ (symbols.Brace d.at ∷ (flow.block d.entry ++ (flat_map flow.block d.others ++ (symbols.close_brace ∷ [])))) in
        let head = left (functions.head d.head) attached (right (functions.linkage d.linkage) (functions.head d.head ++ attached) all.1) in
        let behind = constants.global_name d.head.name ∷ symbols.open_paren ∷ (functions.params d.head.params ++ (symbols.close_paren ∷ functions.head_end d.head.end)) in
        global_stands d.head.name (right (functions.result d.head.result) behind head).0

    global_written_stands : (i : ItemText) → AllStand (modules.item i) → NameStands (global_written i)
    global_written_stands (item.Global g b) all = global_stands g all.0
    global_written_stands (item.Declaration d) all =
        unless_dropped (is_dropped_name d.declared) (name_declared d.declared) (declared_stands d.declared (right (functions.result d.result) (functions.declared d.declared) all.1))
    global_written_stands (item.Definition d) all = defined_stands d all
    global_written_stands (item.Type x b) all = tt
    global_written_stands item.Target all = tt
    global_written_stands (item.Attributes start) all = tt
    global_written_stands (item.Metadata is_distinct m) all = tt

    type_name_stands : (i : ItemText) → AllStand (modules.item i) → NameStands (type_name i)
    type_name_stands (item.Type x b) all = all.0
    type_name_stands (item.Global g b) all = tt
    type_name_stands (item.Declaration d) all = tt
    type_name_stands (item.Definition d) all = tt
    type_name_stands item.Target all = tt
    type_name_stands (item.Attributes start) all = tt
    type_name_stands (item.Metadata is_distinct m) all = tt

  -- ---- modules

  pub of_module :
      (stated : Placed Name → CalledText) (params : Placed Name → DeclaredText) (w : ModuleText) → AllStand (modules.written w)
      → AllByRecursion (StatedStands stated) (called_names w) → AllByRecursion (ParamsStand params) (declared_names w) → AreMarkedIn T w.items → Faults (faults_of stated params w)
  of_module stated params w all calls names marked =
      let h = heads_of (module_of params w) in
      let globals = filter_map global_written (filter is_global w.items) in
      let others = filter_map global_written (filter (λ i. not (is_global i)) w.items) in
      plus (flat_map (item_faults h stated params) w.items) _ (of_items h stated params 0 w.items all calls names marked.items)
      (plus (global_name_faults w.items) (type_name_faults w.items)
      (plus (twice_faults [] (filter_map global_written w.items)) (due_faults 0 (globals ++ others)) (of_twice h [] (filter_map global_written w.items) (filtered h global_written (global_written_stands h) w.items all)) (of_dues h 0 (globals ++ others) marked.globals))
      (plus (twice_faults [] (filter_map type_name w.items)) (due_faults 0 (filter_map type_name w.items)) (of_twice h [] (filter_map type_name w.items) (filtered h type_name (type_name_stands h) w.items all)) (of_dues h 0 (filter_map type_name w.items) marked.types)))
