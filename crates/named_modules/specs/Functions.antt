-- What definitions and declarations name (LangRef 3.7, Functions, Linkage Types, Identifiers).
use Rattle.std.specs.Prelude.{◌≡◌, ◌≤◌, ℕ, Bool, true, false, cond, List, [], ◌∷◌, ◌++◌, map, None, Some, is_some}
use Rattle.std.specs.List.{AllZip, flat_map}
use Rattle.ir_core.specs.declared.expressions.Expr.{Expr}
use Rattle.ir_core.specs.declared.expressions.Expr.TheVariants as expr
use Rattle.ir_core.specs.declared.functions.Block.{Block}
use Rattle.ir_core.specs.declared.functions.Function.{Function}
use Rattle.ir_core.specs.declared.functions.Instr.{Instr}
use Rattle.ir_core.specs.declared.functions.Instr.TheVariants as instr
use Rattle.ir_core.specs.declared.functions.Param.{Param}
use Rattle.ir_core.specs.declared.modules.Declaration.{Declaration}
use Rattle.ir_core.specs.declared.modules.DeclaredParam.{DeclaredParam}
use Rattle.ir_core.specs.declared.modules.Linkage.{Linkage}
use Rattle.ir_core.specs.declared.modules.Linkage.TheVariants as linkage
use Rattle.ir_core.specs.declared.modules.Module.{Module}
use Rattle.ir_core.specs.Functions.{line_count, names_of, params_of, phi_registers, set_by}
use Rattle.ir_core.specs.Limits.{line_limit}
use Rattle.ir_core.specs.Order.{AreInOrder}
use Rattle.ir_core.specs.Typing.{element_type, index_of}
use Rattle.ir_types.specs.declared.named.NamedTy.{NamedTy}
use Rattle.ir_types.specs.declared.names.Name.{Name}
use Rattle.ir_types.specs.declared.ty.Ty.{Ty}
use Rattle.module_grammar.specs.declared.flow.BlockText.{BlockText}
use Rattle.module_grammar.specs.declared.functions.DeclarationText.{DeclarationText}
use Rattle.module_grammar.specs.declared.functions.DeclaredNameText.{DeclaredNameText}
use Rattle.module_grammar.specs.declared.functions.DeclaredNameText.TheVariants as declared
use Rattle.module_grammar.specs.declared.functions.DeclaredText.{DeclaredText}
use Rattle.module_grammar.specs.declared.functions.DefinitionText.{DefinitionText}
use Rattle.module_grammar.specs.declared.functions.LinkageText.{LinkageText}
use Rattle.module_grammar.specs.declared.functions.LinkageText.TheVariants as word
use Rattle.module_grammar.specs.declared.functions.ParamText.{ParamText}
use Rattle.module_grammar.specs.declared.functions.ResultText.{ResultText}
use Rattle.module_grammar.specs.declared.places.Placed.{Placed}
use Rattle.module_grammar.specs.Operators.{linkage_of}
use Rattle.named_modules.specs.Constants.{global_name}
use Rattle.named_modules.specs.Flow.{NamesBlock}
use Rattle.named_modules.specs.Lines.{IsResult, Stated}
use Rattle.named_modules.specs.Values.{IsNamed, IsValueType, Registers, extensions_of}

-- ---- registers and their types

abbrev pub typed : List (Name × Ty) → Registers
typed = map (λ (r : Name × Ty). (r.0, Some r.1))

abbrev pub right_gives_type : List NamedTy → Expr Name → Bool
right_gives_type types (expr.Element e) = is_some (element_type types e.of (map index_of e.indices))
right_gives_type types e = true

-- A line's register has the type that the line gives, but where it is a getelementptr whose indices lead nowhere, which gives none.
abbrev pub gives_type : List NamedTy → Instr → Bool
gives_type types (instr.Calm c) = right_gives_type types c.right
gives_type types line = true

abbrev pub told_of : List NamedTy → Instr → Registers
told_of types line = map (λ (r : Name × Ty). (r.0, cond (gives_type types line) (Some r.1) None)) (set_by (line ∷ []))

abbrev pub told_in : List NamedTy → Block → Registers
told_in types b = typed (phi_registers b.phis) ++ flat_map (told_of types) b.body

abbrev pub registers_of : Module → Function → Registers
registers_of m f = typed (params_of f) ++ flat_map (told_in m.types) f.blocks

-- ---- heads

-- a word or none; `external` says what no word says
abbrev pub linkage_said : LinkageText → Linkage
linkage_said word.None = linkage.External
linkage_said (word.Word w) = linkage_of w
linkage_said word.External = linkage.External

abbrev pub IsResultOf : Module → ResultText → Ty → Type 0
IsResultOf m w t = IsResult m w.ty t

-- `i8 zeroext %x`
abbrev pub IsParam : Module → ParamText → Param → Type 0
IsParam m w p = IsNamed w.name p.name × IsValueType m w.ty p.ty × (p.extensions ≡ extensions_of w.attributes)

-- of a declaration, whose parameters' names are dropped
abbrev pub IsDeclaredParam : Module → ParamText → DeclaredParam → Type 0
IsDeclaredParam m w p = IsValueType m w.ty p.ty × (p.extensions ≡ extensions_of w.attributes)

-- ---- definitions

-- the names of a function's blocks
abbrev pub labels_of : Function → List Name
labels_of f = map (λ (b : Block). b.name) f.blocks

-- the blocks of a function, of which it has one at least
abbrev pub blocks_in : DefinitionText → List BlockText
blocks_in d = d.entry ∷ d.others

-- A function. Parameters, blocks and registers share one name space and one count of what has no name. Phis and terminators are
-- lines, and what is dropped isn't one.
pub record NamesFunction (m : Module) (stated : Stated) (w : DefinitionText) (f : Function) : Type 0 where
  pub linkage : f.linkage ≡ linkage_said w.linkage
  pub extensions : f.result_extensions ≡ extensions_of w.head.result.attributes
  pub result : IsResultOf m w.head.result f.result
  pub name : f.name ≡ (global_name w.head.name).what
  pub params : AllZip (IsParam m) w.head.params f.params
  pub blocks : AllZip (NamesBlock m (registers_of m f) stated (labels_of f)) (blocks_in w) f.blocks
  pub order : AreInOrder (names_of f)
  pub few : line_count f ≤ line_limit

-- ---- declarations

-- the parameters between parentheses behind a name of debugging at its place, which the tree doesn't keep
abbrev pub StatedParams : Type 1
StatedParams = Placed Name → DeclaredText → Type 0

-- A declaration of debugging is dropped, unless `unnamed_addr` stands behind its parentheses.
abbrev pub is_dropped_name : DeclaredNameText → Bool
is_dropped_name (declared.Plain name params end) = false
is_dropped_name (declared.Debug name end) = cond end.unnamed_addr false true

abbrev pub name_declared : DeclaredNameText → Placed Name
name_declared (declared.Plain name params end) = name
name_declared (declared.Debug name end) = name

abbrev pub HasParams : Module → DeclaredText → Declaration → Type 0
HasParams m w d = AllZip (IsDeclaredParam m) w.params d.params × (d.variadic ≡ w.is_open)

abbrev pub IsDeclared : Module → StatedParams → DeclaredNameText → Declaration → Type 0
IsDeclared m stated (declared.Plain name params end) d = HasParams m params d
IsDeclared m stated (declared.Debug name end) d = (params : DeclaredText) × stated name params × HasParams m params d

-- A declaration behind so many definitions.
pub record NamesDeclaration (m : Module) (stated : StatedParams) (w : ℕ × DeclarationText) (d : Declaration) : Type 0 where
  pub before : d.before ≡ w.0
  pub extensions : d.result_extensions ≡ extensions_of w.1.result.attributes
  pub result : IsResultOf m w.1.result d.result
  pub name : d.name ≡ (name_declared w.1.declared).what
  pub params : IsDeclared m stated w.1.declared d
