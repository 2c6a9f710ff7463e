-- Modules in the order of the file, of shape, in range and within the limits can be written as text.
use Rattle.std.proofs.Common.{◌≡◌, ◌<◌, ◌≤◌, true, List, [], ◌∷◌, ◌++◌, map, length, Option, None, Some, sym, subst, arith}
use Rattle.std.specs.List.{AllByRecursion, Contains, filter, flat_map}
use Rattle.std.proofs.lemmas.List.Sorted.{Contains-permutation, IsPermutation-sym}
use Rattle.ir_core.specs.declared.functions.Block.{Block}
use Rattle.ir_core.specs.declared.functions.Entry.{Entry}
use Rattle.ir_core.specs.declared.functions.Function.{Function}
use Rattle.ir_core.specs.declared.functions.Param.{Param}
use Rattle.ir_core.specs.declared.functions.Phi.{Phi}
use Rattle.ir_core.specs.declared.modules.Declaration.{Declaration}
use Rattle.ir_core.specs.declared.modules.DeclaredParam.{DeclaredParam}
use Rattle.ir_core.specs.declared.modules.GlobalVar.{GlobalVar}
use Rattle.ir_core.specs.declared.modules.Init.{Init}
use Rattle.ir_core.specs.declared.modules.Linkage.{Linkage}
use Rattle.ir_core.specs.declared.modules.Module.{Module}
use Rattle.ir_core.specs.declared.operands.Operand.{Operand}
use Rattle.ir_core.specs.Depths.{AreShallow, IsShallow, depth_of, depths_in_declaration, depths_in_function, depths_in_global, depths_in_named}
use Rattle.ir_core.specs.Functions.{block_names, cases_of, edges_into, names_in, names_of, operands_in_block, params_of, successors_of, typed_of}
use Rattle.ir_core.specs.Functions.{registers_of as registers_in}
use Rattle.ir_core.specs.Limits.{depth_limit}
use Rattle.ir_core.specs.Order.{AreInOrder}
use Rattle.ir_core.specs.Ranges.{IsCaseInRange, IsDeclarationInRange, IsFunctionInRange, IsGlobalInRange, IsInRange, IsLineInRange, IsNameInRange, IsNamedTypeInRange, IsOperandInRange, IsStartInRange, IsTypeInRange}
use Rattle.ir_core.specs.StatedTypes.{stated_at_start, stated_by_block}
use Rattle.ir_core.specs.TypeNames.{names_in_type, type_names}
use Rattle.ir_core.specs.Types.{is_first_class}
use Rattle.ir_core.specs.Typing.{Signature, signatures_of}
use Rattle.ir_core.specs.WellFormed.{FitsEdges, HasBlockShape, HasDeclaredShape, HasFunctionShape, HasGlobalShape, HasInit, HasShape, HasType, IsTypeKnown, NamesTypes}
use Rattle.ir_types.specs.declared.named.NamedTy.{NamedTy}
use Rattle.ir_types.specs.declared.names.Name.{Name}
use Rattle.ir_types.specs.declared.ty.Ty.{Ty}
use Rattle.ir_types.specs.Named.{fields_or_none}
use Rattle.ir_types.specs.Same.{same_name}
use Rattle.ir_typing.specs.ModuleLimits.Passed.{AreShort, IsShort}
use Rattle.named_modules.specs.Functions.{labels_of, registers_of}
use Rattle.named_modules.proofs.Lists.{all_append, all_left, all_right}
use Rattle.printed_modules.specs.Order.{IsInFileOrder}
use Rattle.printed_modules.proofs.Callable.{IsCallee, is_callee, states_as}
use Rattle.printed_modules.proofs.Each.{all_both, all_contained, all_from_mapped, all_so, all_to}
use Rattle.printed_modules.proofs.Fit.{FitsBlock, FitsDeclaration, FitsDeclaredParam, FitsFunction, FitsGlobal, FitsModule, FitsNamedType, FitsParam, FitsStart, FitsType}
use Rattle.printed_modules.proofs.Formed.{ComeFrom, IsCalled, IsSurrounding, IsUsable, fits_block}
use Rattle.printed_modules.proofs.ToldRegisters.{IsTold, all_told}
use Rattle.printed_modules.proofs.TypeFits.{fits_result, fits_type, fits_value_type}

-- ---- where edges come from

all_alike : {A B : Type 0} (P : B → Type 0) (x : B) → P x → (ys : List A) → AllByRecursion P (map (λ (y : A). x) ys)
all_alike P x is [] = tt
all_alike P x is (y ∷ ys) = (is, all_alike P x is ys)

-- a block's name is one of the labels
own_labels : (f : Function) → AllByRecursion (λ (b : Block). Contains (labels_of f) b.name) f.blocks
own_labels f =
    all_from_mapped (Contains (labels_of f)) (λ (b : Block). b.name) f.blocks (all_contained (Contains (labels_of f)) (labels_of f) (λ name there. there))

edges_from : (labels : List Name) (name : Name) (bs : List Block) → AllByRecursion (λ (b : Block). Contains labels b.name) bs
    → AllByRecursion (Contains labels) (flat_map (λ (b : Block). map (λ (s : Name). b.name) (filter (same_name name) (successors_of b.term))) bs)
edges_from labels name [] own = tt
edges_from labels name (b ∷ bs) own =
    all_append (Contains labels) (map (λ (s : Name). b.name) (filter (same_name name) (successors_of b.term)))
    (flat_map (λ (b : Block). map (λ (s : Name). b.name) (filter (same_name name) (successors_of b.term))) bs)
    (all_alike (Contains labels) b.name own.0 (filter (same_name name) (successors_of b.term))) (edges_from labels name bs own.1)

come_from : (f : Function) (b : Block) (p : Phi) → FitsEdges f b p → ComeFrom f p
come_from f b p fits =
    let froms = map (λ (e : Entry). e.from) p.entries in
    let known = edges_from (labels_of f) b.name f.blocks (own_labels f) in
    all_from_mapped (Contains (labels_of f)) (λ (e : Entry). e.from) p.entries
    (all_contained (Contains (labels_of f)) froms
    (λ name there. all_to (Contains (labels_of f)) (edges_into f b.name) known name (Contains-permutation froms (edges_into f b.name) name (IsPermutation-sym (edges_into f b.name) froms fits.edges) there)))

-- ---- functions

module _ (m : Module) (f : Function) (range : IsFunctionInRange f) (shape : HasFunctionShape m f) where
  register_names : (bs : List Block) → AllByRecursion IsNameInRange (flat_map block_names bs) → AllByRecursion (λ (r : Name × Ty). IsNameInRange r.0) (flat_map registers_in bs)
  register_names [] all = tt
  register_names (b ∷ bs) all =
      all_append (λ (r : Name × Ty). IsNameInRange r.0) (registers_in b) (flat_map registers_in bs)
      (all_from_mapped IsNameInRange (λ (r : Name × Ty). r.0) (registers_in b) (all_left IsNameInRange (names_in (registers_in b)) (flat_map block_names bs) all.1))
      (register_names bs (all_right IsNameInRange (names_in (registers_in b)) (flat_map block_names bs) all.1))

  label_names : (bs : List Block) → AllByRecursion IsNameInRange (flat_map block_names bs) → AllByRecursion IsNameInRange (map (λ (b : Block). b.name) bs)
  label_names [] all = tt
  label_names (b ∷ bs) all = (all.0, label_names bs (all_right IsNameInRange (names_in (registers_in b)) (flat_map block_names bs) all.1))

  names_of_blocks : AllByRecursion IsNameInRange (flat_map block_names f.blocks)
  names_of_blocks = all_right IsNameInRange (names_in (params_of f)) (flat_map block_names f.blocks) range.names

  all_named : AllByRecursion (λ (r : Name × Ty). IsNameInRange r.0) (typed_of f)
  all_named =
      all_append (λ (r : Name × Ty). IsNameInRange r.0) (params_of f) (flat_map registers_in f.blocks)
      (all_from_mapped IsNameInRange (λ (r : Name × Ty). r.0) (params_of f) (all_left IsNameInRange (names_in (params_of f)) (flat_map block_names f.blocks) range.names))
      (register_names f.blocks names_of_blocks)

  abbrev HasRange : Name × Ty → Type 0
  HasRange r = IsNameInRange r.0 × IsTypeInRange r.1

  abbrev HasValues : Name × Ty → Type 0
  HasValues r = (is_first_class r.1 ≡ true) × IsTold (registers_of m f) r

  all_usable : AllByRecursion (IsUsable m f) (typed_of f)
  all_usable =
      all_both HasRange HasValues (IsUsable m f) (λ r h k. record { name = h.0; range = h.1; values = k.0; told = k.1 }) (typed_of f)
      (all_both (λ (r : Name × Ty). IsNameInRange r.0) (λ (r : Name × Ty). IsTypeInRange r.1) HasRange (λ r h k. (h, k)) (typed_of f) all_named range.registers)
      (all_both (λ (r : Name × Ty). is_first_class r.1 ≡ true) (IsTold (registers_of m f)) HasValues (λ r h k. (h, k)) (typed_of f) shape.registers (all_told m f))

  abbrev IsUsed : Operand Name → Type 0
  IsUsed o = IsOperandInRange o × HasType m (typed_of f) o.ty o.atom

  all_used : AllByRecursion IsUsed (flat_map operands_in_block f.blocks)
  all_used =
      all_both IsOperandInRange (λ (o : Operand Name). HasType m (typed_of f) o.ty o.atom) IsUsed (λ o h k. (h, k)) (flat_map operands_in_block f.blocks)
      range.operands shape.operands

  module _ (calls : (x : Name) (s : Signature) → Contains (signatures_of m) (x, s) → IsCalled m x s) where
    around : IsSurrounding m f
    around = record { registers = all_usable; labels = label_names f.blocks names_of_blocks; calls = calls }

    fits_blocks :
        (bs : List Block) → AllByRecursion IsNameInRange (flat_map block_names bs) → AllByRecursion (IsUsable m f) (flat_map registers_in bs)
        → AllByRecursion IsUsed (flat_map operands_in_block bs) → AllByRecursion (IsTypeKnown m) (flat_map stated_by_block bs)
        → AllByRecursion IsLineInRange (flat_map (λ (b : Block). b.body) bs) → AllByRecursion IsCaseInRange (flat_map (λ (b : Block). cases_of b.term) bs)
        → AllByRecursion (HasBlockShape m f) bs → AllByRecursion (FitsBlock m (registers_of m f) (labels_of f)) bs
    fits_blocks [] names registers operands types lines cases shapes = tt
    fits_blocks (b ∷ bs) names registers operands types lines cases shapes =
        let more_lines = flat_map (λ (b : Block). b.body) bs in
        let more_cases = flat_map (λ (b : Block). cases_of b.term) bs in (
          fits_block m f around b (record {
            name = names.0;
            registers = all_left (IsUsable m f) (registers_in b) (flat_map registers_in bs) registers;
            operands = all_left IsUsed (operands_in_block b) (flat_map operands_in_block bs) operands;
            types = all_left (IsTypeKnown m) (stated_by_block b) (flat_map stated_by_block bs) types;
            lines = all_left IsLineInRange b.body more_lines lines;
            cases = all_left IsCaseInRange (cases_of b.term) more_cases cases;
            shape = shapes.0;
            froms = all_so (FitsEdges f b) (ComeFrom f) (come_from f b) b.phis shapes.0.phis;
          }),
          fits_blocks bs (all_right IsNameInRange (names_in (registers_in b)) (flat_map block_names bs) names.1)
              (all_right (IsUsable m f) (registers_in b) (flat_map registers_in bs) registers)
              (all_right IsUsed (operands_in_block b) (flat_map operands_in_block bs) operands)
              (all_right (IsTypeKnown m) (stated_by_block b) (flat_map stated_by_block bs) types) (all_right IsLineInRange b.body more_lines lines)
              (all_right IsCaseInRange (cases_of b.term) more_cases cases) shapes.1,
        )

    fits_params : (ps : List Param) → AllByRecursion (IsUsable m f) (map (λ (p : Param). (p.name, p.ty)) ps) → AllByRecursion (IsTypeKnown m) (map (λ (p : Param). p.ty) ps) → AllByRecursion (FitsParam m) ps
    fits_params [] is known = tt
    fits_params (p ∷ ps) is known = ((is.0.name, fits_value_type m p.ty is.0.range known.0 is.0.values), fits_params ps is.1 known.1)

    pub fits_function : AreInOrder (names_of f) → IsShort f → FitsFunction m f
    fits_function order short =
        let of_params = map (λ (p : Param). p.ty) f.params in
        let of_blocks = flat_map stated_by_block f.blocks in
        record {
          name = range.name;
          plain = shape.name;
          result = fits_result m f.result range.result shape.types.0 shape.result;
          params = fits_params f.params (all_left (IsUsable m f) (params_of f) (flat_map registers_in f.blocks) all_usable) (all_left (IsTypeKnown m) of_params of_blocks shape.types.1);
          some = subst (λ (bs : List Block). 0 < length bs) (sym shape.blocks) (omega arith);
          blocks = fits_blocks f.blocks names_of_blocks (all_right (IsUsable m f) (params_of f) (flat_map registers_in f.blocks) all_usable) all_used
              (all_right (IsTypeKnown m) of_params of_blocks shape.types.1) range.lines range.cases shape.each;
          order = order;
          few = short;
        }

-- ---- declarations, globals and named types

module _ (m : Module) where
  fits_declared : (ps : List DeclaredParam) → AllByRecursion (λ (p : DeclaredParam). IsTypeInRange p.ty) ps → AllByRecursion (IsTypeKnown m) (map (λ (p : DeclaredParam). p.ty) ps)
      → AllByRecursion (λ (p : DeclaredParam). is_first_class p.ty ≡ true) ps → AreShallow (map (λ (p : DeclaredParam). depth_of p.ty) ps) → AllByRecursion (FitsDeclaredParam m) ps
  fits_declared [] range known values shallow = tt
  fits_declared (p ∷ ps) range known values shallow =
      ((fits_value_type m p.ty range.0 known.0 values.0, shallow.0), fits_declared ps range.1 known.1 values.1 shallow.1)

  fits_declaration : (d : Declaration) → IsDeclarationInRange d → HasDeclaredShape m d → AreShallow (depths_in_declaration d) → FitsDeclaration m d
  fits_declaration d range shape shallow = record {
    name = range.name;
    plain = shape.name;
    result = fits_result m d.result range.result shape.types.0 shape.result;
    params = fits_declared d.params range.params shape.types.1 shape.params shallow.1;
  }

  fits_declarations : (ds : List Declaration) → AllByRecursion IsDeclarationInRange ds → AllByRecursion (HasDeclaredShape m) ds → AreShallow (flat_map depths_in_declaration ds) → AllByRecursion (FitsDeclaration m) ds
  fits_declarations [] range shape shallow = tt
  fits_declarations (d ∷ ds) range shape shallow =
      let rest = flat_map depths_in_declaration ds in (
        fits_declaration d range.0 shape.0 (all_left (λ n. n ≤ depth_limit) (depths_in_declaration d) rest shallow),
        fits_declarations ds range.1 shape.1 (all_right (λ n. n ≤ depth_limit) (depths_in_declaration d) rest shallow),
      )

  fits_start : (link : Linkage) (t : Ty) (o : Option Init) → IsStartInRange link t o → HasInit m t o → AllByRecursion (IsTypeKnown m) (stated_at_start o) → FitsStart m t o
  fits_start link t None range typed known = tt
  fits_start link t (Some i) range typed known = record { written = range; typed = typed; types = known }

  fits_global : (g : GlobalVar) → IsGlobalInRange g → HasGlobalShape m g → FitsGlobal m g
  fits_global g range shape = record {
    name = range.name;
    ty = fits_type m g.ty range.ty shape.types.0;
    linkage = range.init;
    start = fits_start g.linkage g.ty g.init range.init shape.init shape.types.1;
    align = range.align;
  }

  fits_fields : (ts : List Ty) → AllByRecursion IsTypeInRange ts → AllByRecursion (Contains (type_names m)) (flat_map names_in_type ts) → AllByRecursion (FitsType m) ts
  fits_fields [] range names = tt
  fits_fields (t ∷ ts) range names =
      let rest = flat_map names_in_type ts in (
        fits_type m t range.0 (all_left (Contains (type_names m)) (names_in_type t) rest names),
        fits_fields ts range.1 (all_right (Contains (type_names m)) (names_in_type t) rest names),
      )

  fits_named : (t : NamedTy) → IsNamedTypeInRange t → NamesTypes (type_names m) t → FitsNamedType m t
  fits_named t range names = record { name = range.name; fields = fits_fields (fields_or_none t.fields) range.fields names }

-- ---- modules

pub fits_module : (m : Module) → IsInFileOrder m → HasShape m → IsInRange m → IsShallow m → AreShort m.functions → FitsModule m
fits_module m order shape range shallow short =
    let of_types = flat_map depths_in_named m.types in
    let of_globals = flat_map depths_in_global m.globals in
    let of_functions = flat_map depths_in_function m.functions in
    let of_declarations = flat_map depths_in_declaration m.declarations in
    let behind_types = all_right (λ n. n ≤ depth_limit) of_types (of_globals ++ (of_functions ++ of_declarations)) shallow in
    let behind_globals = all_right (λ n. n ≤ depth_limit) of_globals (of_functions ++ of_declarations) behind_types in
    let declared = fits_declarations m m.declarations range.declarations shape.declarations (all_right (λ n. n ≤ depth_limit) of_functions of_declarations behind_globals) in
    let defined = all_both IsFunctionInRange (HasFunctionShape m) (λ (f : Function). IsCallee f.name) (λ f r s. record { name = r.name; plain = s.name }) m.functions range.functions shape.functions in
    let calls : (x : Name) (s : Signature) → Contains (signatures_of m) (x, s) → IsCalled m x s =
    λ x s there. record { callee = is_callee m shape.names declared defined x s there; states = states_as m shape.names declared defined x s there } in
    record {
      types = all_both IsNamedTypeInRange (NamesTypes (type_names m)) (FitsNamedType m) (fits_named m) m.types range.types shape.types;
      globals = all_both IsGlobalInRange (HasGlobalShape m) (FitsGlobal m) (fits_global m) m.globals range.globals shape.globals;
      functions = all_contained (FitsFunction m) m.functions
          (λ f there.
          fits_function m f (all_to IsFunctionInRange m.functions range.functions f there) (all_to (HasFunctionShape m) m.functions shape.functions f there) calls
          (all_to (λ (f : Function). AreInOrder (names_of f)) m.functions order.functions f there) (all_to IsShort m.functions short f there));
      declarations = declared;
      behind = range.order;
      type_order = order.types;
      order = order.globals;
    }
