-- What is wrong with a module (LangRef 3.7, Well-Formedness), in the order of the places, and what is first.
use Rattle.std.specs.Prelude.{◌≡◌, ◌+◌, ℕ, Bool, false, not, ◌&&◌, List, [], ◌∷◌, ◌++◌, map, Option, None, Some}
use Rattle.ir_core.specs.declared.functions.Block.{Block}
use Rattle.ir_core.specs.declared.functions.Function.{Function}
use Rattle.ir_core.specs.declared.functions.Instr.{Instr}
use Rattle.ir_core.specs.declared.modules.Declaration.{Declaration}
use Rattle.ir_core.specs.declared.modules.GlobalVar.{GlobalVar}
use Rattle.ir_core.specs.declared.modules.Module.{Module}
use Rattle.ir_core.specs.declared.functions.Phi.{Phi}
use Rattle.ir_types.specs.declared.named.NamedTy.{NamedTy}
use Rattle.ir_types.specs.declared.names.Name.{Name}
use Rattle.ir_types.specs.declared.names.Sigil.{Sigil}
use Rattle.ir_types.specs.declared.names.Sigil.TheVariants as sigil
use Rattle.ir_core.specs.Functions.{edges_into, name_set, names_in, params_of, phi_registers, set_by}
use Rattle.ir_core.specs.Depths.{AreShallow, IsShallow, depths_in_function}
use Rattle.ir_core.specs.Modules.{those_before, those_behind}
use Rattle.ir_core.specs.Sizes.{AreSmall, IsSmall, wanted_in_function}
use Rattle.ir_types.specs.Named.{fields_or_none}
use Rattle.ir_core.specs.NameIndexes.Among.{is_among}
use Rattle.ir_shape.specs.declared.fault.LinePlace.{LinePlace}
use Rattle.ir_shape.specs.declared.fault.ShapeEnd.{ShapeEnd}
use Rattle.ir_shape.specs.declared.fault.ShapeEnd.TheVariants as end
use Rattle.ir_shape.specs.declared.fault.ShapeFault.{ShapeFault}
use Rattle.ir_typing.specs.declared.shape_kinds.kind.ShapeKind.{ShapeKind}
use Rattle.ir_typing.specs.declared.shape_kinds.kind.ShapeKind.TheVariants as kind
pub use Rattle.ir_typing.specs.ModuleLimits.Passed.{AreShort, IsFirstPassed, IsShort}
use Rattle.ir_typing.specs.OperandTests.Inits.{global_var_kind}
use Rattle.ir_typing.specs.OperandTests.Known.{are_types_known}
pub use Rattle.ir_typing.specs.ShapeKinds.Kinds.{kind_text}
use Rattle.ir_typing.specs.ShapeKinds.Kinds.{fault_unless, least}
use Rattle.ir_typing.specs.ShapeKinds.Names.{with_name, with_names, are_new}
use Rattle.ir_typing.specs.ShapeKinds.Typed.{Types}
use Rattle.ir_shape.specs.ShapeTests.Kinds.{labels_of, types_of, block_kind, name_kind}
use Rattle.ir_shape.specs.LineShapes.Told.{declared_kind, end_kind, header_kind, line_kind, phi_kind}

-- the fault of that kind at a place, if there is one
abbrev pub fault_of : Sigil → Name → Option LinePlace → Option ShapeKind → List ShapeFault
fault_of sigil name place None = []
fault_of sigil name place (Some kind) = record { sigil = sigil; function = name; place = place; kind = kind } ∷ []

-- in the named type of that name
abbrev pub in_name : Name → Option ShapeKind → List ShapeFault
in_name name kind = fault_of sigil.Local name None kind

-- in the global, the function or the declaration of that name
abbrev pub fault_at : Name → Option LinePlace → Option ShapeKind → List ShapeFault
fault_at function place kind = fault_of sigil.Global function place kind

-- in the line of that number
abbrev pub in_line : Name → Name → ℕ → Option ShapeKind → List ShapeFault
in_line function block line kind = fault_at function (Some (record { block = block; line = line })) kind

-- In the phis and lines of a block from the one of that number on, and then in its terminator; what is wrong with the block's own name
-- stands in the first of them.
abbrev pub in_kinds : Name → Name → ℕ → Option ShapeKind → List (Option ShapeKind) → Option ShapeKind → List ShapeFault
in_kinds function block line own [] end = in_line function block line (least own end)
in_kinds function block line own (kind ∷ kinds) end =
    in_line function block line (least own kind) ++ in_kinds function block (line + 1) None kinds end

-- the kinds of phis, where those names are taken before them
abbrev pub phi_kinds : Module → List Name → Types → List Name → List Name → List Phi → List (Option ShapeKind)
phi_kinds m labels types edges taken [] = []
phi_kinds m labels types edges taken (p ∷ ps) =
    phi_kind m labels types edges (not (is_among p.name taken)) p ∷ phi_kinds m labels types edges (with_name taken p.name) ps

abbrev pub with_phis : List Name → List Phi → List Name
with_phis taken ps = with_names taken (names_in (phi_registers ps))

abbrev pub is_name_taken : List Name → Option Name → Bool
is_name_taken taken None = false
is_name_taken taken (Some name) = is_among name taken

-- the name of the register that a line sets, if it sets one
abbrev pub is_taken : List Name → Instr → Bool
is_taken taken line = is_name_taken taken (name_set line)

abbrev pub with_lines : List Name → List Instr → List Name
with_lines taken ls = with_names taken (names_in (set_by ls))

abbrev pub line_kinds : Module → Types → List Name → List Instr → List (Option ShapeKind)
line_kinds m types taken [] = []
line_kinds m types taken (l ∷ ls) = line_kind m types (not (is_taken taken l)) l ∷ line_kinds m types (with_lines taken (l ∷ [])) ls

-- What is wrong in a block of a function of those labels and registers: lines are counted from its first phi on, so its body begins
-- behind its phis, and its terminator stands behind its body. Names of earlier blocks are given, and those that are taken.
abbrev pub in_block : Module → Function → List Name → Types → Name → List Name → List Name → Block → List ShapeFault
in_block m f labels types entry earlier taken b =
    in_kinds f.name b.name 0 (block_kind (is_among b.name earlier) (is_among b.name taken))
    (phi_kinds m labels types (edges_into f b.name) (with_name taken b.name) b.phis ++ line_kinds m types (with_phis (with_name taken b.name) b.phis) b.body)
    (end_kind m labels types entry f.result b.term)

abbrev pub with_block : List Name → Block → List Name
with_block taken b = with_lines (with_phis (with_name taken b.name) b.phis) b.body

abbrev pub in_blocks : Module → Function → List Name → Types → Name → List Name → List Name → List Block → List ShapeFault
in_blocks m f labels types entry earlier taken [] = []
in_blocks m f labels types entry earlier taken (b ∷ bs) =
    in_block m f labels types entry earlier taken b ++ in_blocks m f labels types entry (with_name earlier b.name) (with_block taken b) bs

-- the first block is the entry
abbrev pub in_body : Module → Function → List Name → Types → List Name → List Block → List ShapeFault
in_body m f labels types params [] = []
in_body m f labels types params (first ∷ further) = in_blocks m f labels types first.name [] params (first ∷ further)

-- a function's name, which may be taken, comes before its header, and this before its blocks
abbrev pub in_function : Module → Bool → Function → List ShapeFault
in_function m taken f =
    fault_at f.name None (name_kind taken f.name)
    ++ (fault_at f.name None (header_kind m (are_new [] (names_in (params_of f))) f)
    ++ in_body m f (labels_of f) (types_of m f) (with_names [] (names_in (params_of f))) f.blocks)

abbrev pub in_declaration : Module → Bool → Declaration → List ShapeFault
in_declaration m taken d = fault_at d.name None (name_kind taken d.name) ++ fault_at d.name None (declared_kind m d)

-- one by one, behind those of the names that are taken
abbrev pub in_declarations : Module → List Name → List Declaration → List ShapeFault
in_declarations m taken [] = []
in_declarations m taken (d ∷ ds) = in_declaration m (is_among d.name taken) d ++ in_declarations m (with_name taken d.name) ds

abbrev pub with_declared : List Name → List Declaration → List Name
with_declared taken ds = with_names taken (map (λ (d : Declaration). d.name) ds)

-- Definitions and declarations in the order of the file, from the definition of that number on: the declarations that stand before it, and
-- then the definition itself.
abbrev pub in_functions : Module → List Name → ℕ → List Declaration → List Function → List ShapeFault
in_functions m taken count ds [] = in_declarations m taken ds
in_functions m taken count ds (f ∷ fs) =
    in_declarations m taken (those_before count ds)
    ++ (in_function m (is_among f.name (with_declared taken (those_before count ds))) f
    ++ in_functions m (with_name (with_declared taken (those_before count ds)) f.name) (count + 1) (those_behind count ds) fs)

-- global by global, behind those of the names that are taken
abbrev pub in_globals : Module → List Name → List GlobalVar → List ShapeFault
in_globals m taken [] = []
in_globals m taken (g ∷ gs) = fault_at g.name None (global_var_kind m (not (is_among g.name taken)) g) ++ in_globals m (with_name taken g.name) gs

-- A named type's name, which may be taken, is new, and each named type that stands in it is one of the module's.
abbrev pub in_type : Module → Bool → NamedTy → List ShapeFault
in_type m taken t = in_name t.name (fault_unless (not taken && are_types_known m (fields_or_none t.fields)) kind.Name)

-- type by type, behind those of the names that are taken
abbrev pub in_types : Module → List Name → List NamedTy → List ShapeFault
in_types m taken [] = []
in_types m taken (t ∷ ts) = in_type m (is_among t.name taken) t ++ in_types m (with_name taken t.name) ts

abbrev pub with_globals : List Name → List GlobalVar → List Name
with_globals taken gs = with_names taken (map (λ (g : GlobalVar). g.name) gs)

-- named types come before globals, and these before functions
abbrev pub faults_of : Module → List ShapeFault
faults_of m = in_types m [] m.types ++ (in_globals m [] m.globals ++ in_functions m (with_globals [] m.globals) 0 m.declarations m.functions)

abbrev pub first_of : List ShapeFault → Option ShapeFault
first_of [] = None
first_of (fault ∷ further) = Some fault

-- Of `define i32 @f(i32 %x) { %y = zext i32 %x to i8 ret void }` it is the `cast width` in line 0 of the block `%0` of `@f`; the
-- `return type` in line 1 comes behind it.
abbrev pub first_fault : Module → Option ShapeFault
first_fault m = first_of (faults_of m)

-- it is told that this one is the first; want of memory says nothing
abbrev pub IsFirstOf : List ShapeFault → ShapeEnd → Type 0
IsFirstOf faults (end.Fault f) = first_of faults ≡ Some f
IsFirstOf faults (end.Limit l) = ⊥
IsFirstOf faults end.Memory = Unit {0}

-- ---- the limits, which count before all faults

-- of these limits none is passed, and this fault is the first; or it is the first limit that is passed
abbrev pub IsEndWithin : Type 0 → Type 0 → Type 0 → List ShapeFault → ShapeEnd → Type 0
IsEndWithin shallow short small faults (end.Fault f) = (shallow × short × small) × (first_of faults ≡ Some f)
IsEndWithin shallow short small faults (end.Limit l) = IsFirstPassed shallow short small l
IsEndWithin shallow short small faults end.Memory = Unit {0}

-- why a module isn't one that has shape within the limits, and why a function beside one isn't
abbrev pub IsEndOf : Module → ShapeEnd → Type 0
IsEndOf m e = IsEndWithin (IsShallow m) (AreShort m.functions) (IsSmall m) (faults_of m) e

abbrev pub IsEndOfFunction : Module → Function → ShapeEnd → Type 0
IsEndOfFunction m f e =
    IsEndWithin (AreShallow (depths_in_function f)) (IsShort f) (AreSmall m.types (wanted_in_function m.types f)) (in_function m false f) e
