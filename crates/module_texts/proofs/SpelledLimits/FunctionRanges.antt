-- A function that is named is in range where what is written of its definition or its declaration is.
use Rattle.std.proofs.Common.{ℕ, List, [], ◌∷◌, ◌++◌, Option, Some, None, sym, subst}
use Rattle.std.specs.List.{AllByRecursion, flat_map}
use Rattle.ir_core.proofs.Narrow.{all_so}
use Rattle.ir_core.specs.Functions.{block_names, cases_of, names_in, operands_in_block, params_of, registers_of}
use Rattle.ir_core.specs.Ranges.{IsCaseInRange, IsDeclarationInRange, IsFunctionInRange, IsLineInRange, IsNameInRange, IsOperandInRange, IsTypeInRange}
use Rattle.ir_core.specs.declared.functions.Block.{Block}
use Rattle.ir_core.specs.declared.functions.Function.{Function}
use Rattle.ir_core.specs.declared.functions.Param.{Param}
use Rattle.ir_core.specs.declared.modules.Declaration.{Declaration}
use Rattle.ir_core.specs.declared.modules.DeclaredParam.{DeclaredParam}
use Rattle.ir_core.specs.declared.modules.Module.{Module}
use Rattle.ir_types.specs.declared.names.Name.{Name}
use Rattle.ir_types.specs.declared.ty.Ty.{Ty}
use Rattle.module_grammar.specs.Attributes.{attached, convention, param_attribute}
use Rattle.module_grammar.specs.Constants.{global_name as global}
use Rattle.module_grammar.specs.Flow as flow
use Rattle.module_grammar.specs.Functions as functions
use Rattle.module_grammar.specs.Symbols.{Symbol, Brace, close_brace, close_paren, open_paren, unnamed_addr}
use Rattle.module_grammar.specs.Types as types
use Rattle.module_grammar.specs.declared.flow.BlockText.{BlockText}
use Rattle.module_grammar.specs.declared.functions.DeclarationText.{DeclarationText}
use Rattle.module_grammar.specs.declared.functions.DeclaredNameText.{DeclaredNameText}
use Rattle.module_grammar.specs.declared.functions.DeclaredNameText.TheVariants as declared
use Rattle.module_grammar.specs.declared.functions.DeclaredText.{DeclaredText}
use Rattle.module_grammar.specs.declared.functions.DefinitionText.{DefinitionText}
use Rattle.module_grammar.specs.declared.functions.ParamText.{ParamText}
use Rattle.module_grammar.specs.declared.functions.ResultText.{ResultText}
use Rattle.module_grammar.specs.declared.places.Placed.{Placed}
use Rattle.module_spelling.specs.Spells.{StatesParams}
use Rattle.named_modules.proofs.Lists.{all_append, all_left, all_right}
use Rattle.named_modules.specs.Functions.{HasParams, IsDeclared, IsDeclaredParam, IsParam, NamesDeclaration, NamesFunction, blocks_in, labels_of, name_declared}
use Rattle.named_modules.specs.Functions as named_functions
use Rattle.named_modules.specs.Lines.{Stated}
use Rattle.module_texts.proofs.SpelledLimits.FlowRanges.{IsWholeBlock, blocks_range}
use Rattle.module_texts.proofs.SpelledLimits.LineRanges.{IsRegisterInRange}
use Rattle.module_texts.proofs.SpelledLimits.Lists.{all_flat, all_lists, all_mapped, all_zipped, listed_before, listed_each}
use Rattle.module_texts.proofs.SpelledLimits.SymbolRanges.{AllInRange, IsSymbolInRange, written_in_range}
use Rattle.module_texts.proofs.SpelledLimits.TypeRanges.{AreNamedWritten}
use Rattle.module_texts.proofs.SpelledLimits.ValueRanges.{IsOptionInRange, global_range, named_range, result_there, type_there}

-- ---- heads

local_range : (name : Option (Placed Name)) → AllInRange (functions.local name) → IsOptionInRange name
local_range None all = tt
local_range (Some name) all = all.0

abbrev IsParamWritten : ParamText → Type 0
IsParamWritten p = AllInRange (functions.param p)

-- the type that is stated behind attributes
result_written : (w : ResultText) → AllInRange (functions.result w) → AllInRange (types.result w.ty)
result_written w all =
    let attributes : List Symbol = flat_map param_attribute w.attributes in
    all_right IsSymbolInRange attributes (types.result w.ty) (all_right IsSymbolInRange (convention w.is_ccc) (attributes ++ types.result w.ty) all)

module _ (m : Module) where
  param_range : (w : ParamText) (p : Param) → IsParamWritten w → IsParam m w p → IsRegisterInRange (p.name, p.ty)
  param_range w p all is =
      let attributes : List Symbol = flat_map param_attribute w.attributes in
      let behind = all_right IsSymbolInRange (types.ty w.ty) (attributes ++ functions.local w.name) all in (
        named_range w.name p.name (local_range w.name (all_right IsSymbolInRange attributes (functions.local w.name) behind)) is.0,
        type_there w.ty p.ty (all_left IsSymbolInRange (types.ty w.ty) (attributes ++ functions.local w.name) all) is.1.0,
      )

  declared_param_range : (w : ParamText) (p : DeclaredParam) → IsParamWritten w → IsDeclaredParam m w p → IsTypeInRange p.ty
  declared_param_range w p all is =
      type_there w.ty p.ty (all_left IsSymbolInRange (types.ty w.ty) (flat_map param_attribute w.attributes ++ functions.local w.name) all) is.0.0

  -- ---- definitions

  abbrev all_registers : Function → List (Name × Ty)
  all_registers f = params_of f ++ flat_map registers_of f.blocks

  names_range : (rs : List (Name × Ty)) → AllByRecursion IsRegisterInRange rs → AllByRecursion IsNameInRange (names_in rs)
  names_range rs all = all_mapped IsRegisterInRange IsNameInRange (λ (r : Name × Ty). r.0) (λ r one. one.0) rs all

  pub function_range : (stated : Stated) → AreNamedWritten m.types → (w : DefinitionText) (f : Function) → AllInRange (functions.definition w) → NamesFunction m stated w f → IsFunctionInRange f
  function_range stated named w f all is =
      let others : List Symbol = flat_map flow.block w.others ++ (close_brace ∷ []) in
      let blocks : List Symbol = flow.block w.entry ++ others in
      let braced : List Symbol = attached w.attachment ++ (Brace w.at ∷ blocks) in
      let headed = all_right IsSymbolInRange (functions.linkage w.linkage) (functions.head w.head ++ braced) all.1 in
      let head = all_left IsSymbolInRange (functions.head w.head) braced headed in
      let inside = (all_right IsSymbolInRange (attached w.attachment) (Brace w.at ∷ blocks) (all_right IsSymbolInRange (functions.head w.head) braced headed)).1 in
      let Written : BlockText → Type 0 = λ b. AllInRange (flow.block b) in
      let later = all_left IsSymbolInRange (flat_map flow.block w.others) (close_brace ∷ []) (all_right IsSymbolInRange (flow.block w.entry) others inside) in
      let each : AllByRecursion Written (blocks_in w) = (all_left IsSymbolInRange (flow.block w.entry) others inside, all_lists IsSymbolInRange Written flow.block w.others (λ b there. there) later) in
      let whole = blocks_range m (named_functions.registers_of m f) stated (labels_of f) named (blocks_in w) f.blocks each is.blocks in
      let end : List Symbol = close_paren ∷ functions.head_end w.head.end in
      let opened : List Symbol = open_paren ∷ (functions.params w.head.params ++ end) in
      let behind = all_right IsSymbolInRange (functions.result w.head.result) (global w.head.name ∷ opened) head in
      let written = listed_each IsSymbolInRange functions.param w.head.params (all_left IsSymbolInRange (functions.params w.head.params) end behind.1.1) in
      let Kept : Param → Type 0 = λ p. IsRegisterInRange (p.name, p.ty) in
      let params = all_mapped Kept IsRegisterInRange (λ (p : Param). (p.name, p.ty)) (λ p there. there) f.params (all_zipped IsParamWritten (IsParam m) Kept param_range w.head.params f.params written is.params) in
      record {
        name = subst IsNameInRange (sym is.name) (global_range w.head.name behind.0);
        names =
            all_append IsNameInRange (names_in (params_of f)) (flat_map block_names f.blocks) (names_range (params_of f) params)
            (all_flat IsWholeBlock IsNameInRange block_names (λ b one. (one.name, names_range (registers_of b) one.registers)) f.blocks whole);
        result = result_there m w.head.result.ty f.result (result_written w.head.result (all_left IsSymbolInRange (functions.result w.head.result) (global w.head.name ∷ opened) head)) is.result;
        registers =
            all_so IsRegisterInRange (λ (r : Name × Ty). IsTypeInRange r.1) (λ r one. one.1) (all_registers f)
            (all_append IsRegisterInRange (params_of f) (flat_map registers_of f.blocks) params (all_flat IsWholeBlock IsRegisterInRange registers_of (λ b one. one.registers) f.blocks whole));
        operands = all_flat IsWholeBlock IsOperandInRange operands_in_block (λ b one. one.operands) f.blocks whole;
        lines = all_flat IsWholeBlock IsLineInRange (λ (b : Block). b.body) (λ b one. one.lines) f.blocks whole;
        cases = all_flat IsWholeBlock IsCaseInRange (λ (b : Block). cases_of b.term) (λ b one. one.cases) f.blocks whole;
      }

  -- ---- declarations

  has_params : (w : DeclaredText) (d : Declaration) → AllInRange (functions.declared_params w) → HasParams m w d → AllByRecursion (λ (p : DeclaredParam). IsTypeInRange p.ty) d.params
  has_params w d all is =
      all_zipped IsParamWritten (IsDeclaredParam m) (λ (p : DeclaredParam). IsTypeInRange p.ty) declared_param_range w.params d.params
      (listed_before IsSymbolInRange functions.param w.params (types.open_end w.is_open) all) is.0

  module _ (symbols : List Symbol) (range : AllInRange symbols) where
    -- the parameters behind a name of debugging stand in the text
    stated_written : (x : Placed Name) (c : DeclaredText) → StatesParams symbols x c → AllInRange (functions.declared_params c)
    stated_written x c s =
        let row : List Symbol = close_paren ∷ unnamed_addr ∷ s.behind in
        let behind = (all_right IsSymbolInRange s.before _ (subst AllInRange s.same range)).1.1 in
        written_in_range (functions.declared_params c) s.params s.written (all_left IsSymbolInRange s.params row behind)

    declared_range : (w : DeclaredNameText) (d : Declaration) → AllInRange (functions.declared w) → IsDeclared m (StatesParams symbols) w d → AllByRecursion (λ (p : DeclaredParam). IsTypeInRange p.ty) d.params
    declared_range (declared.Plain x params end) d all is =
        has_params params d (all_left IsSymbolInRange (functions.declared_params params) (close_paren ∷ functions.head_end end) all.1.1) is
    declared_range (declared.Debug x end) d all is = has_params is.0 d (stated_written x is.0 is.1) is.2

    declared_name : (w : DeclaredNameText) → AllInRange (functions.declared w) → IsNameInRange (name_declared w).what
    declared_name (declared.Plain x params end) all = all.0
    declared_name (declared.Debug x end) all = all.0

    pub declaration_range : (w : ℕ × DeclarationText) (d : Declaration) → AllInRange (functions.declaration w.1) → NamesDeclaration m (StatesParams symbols) w d → IsDeclarationInRange d
    declaration_range w d all is =
        let result = all_left IsSymbolInRange (functions.result w.1.result) (functions.declared w.1.declared) all.1 in
        let behind = all_right IsSymbolInRange (functions.result w.1.result) (functions.declared w.1.declared) all.1 in
        record {
          name = subst IsNameInRange (sym is.name) (declared_name w.1.declared behind);
          result = result_there m w.1.result.ty d.result (result_written w.1.result result) is.result;
          params = declared_range w.1.declared d behind is.params;
        }
