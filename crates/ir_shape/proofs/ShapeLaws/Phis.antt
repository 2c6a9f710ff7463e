-- Phis have no fault exactly where they fit.
use Rattle.std.proofs.Common.{◌≡◌, ◌&&◌, Bool, true, not, List, [], ◌∷◌, map, Option, None, refl}
use Rattle.std.proofs.lemmas.List.Sorted.{Contains-permutation, IsPermutation-sym}
use Rattle.std.specs.List.{AllByRecursion, Contains, filter, flat_map}
use Rattle.ir_core.specs.declared.functions.Block.{Block}
use Rattle.ir_core.specs.declared.functions.Function.{Function}
use Rattle.ir_core.specs.declared.functions.Phi.{Phi}
use Rattle.ir_core.specs.declared.modules.Module.{Module}
use Rattle.ir_types.specs.declared.names.Name.{Name}
use Rattle.ir_types.specs.Same.{same_name}
use Rattle.ir_core.specs.Functions.{edges_into, names_in, operands_of_phi, phi_registers, successors_of, typed_of}
use Rattle.ir_core.specs.Order.{AreNew}
use Rattle.ir_core.specs.StatedTypes.{stated_by_phi}
use Rattle.ir_core.specs.Types.{is_first_class}
use Rattle.ir_core.specs.WellFormed.{FitsEdges, IsTypeKnown}
use Rattle.ir_core.specs.NameIndexes.Among.{is_among}
use Rattle.ir_typing.specs.OperandTests.Known.{are_types_known}
use Rattle.ir_typing.proofs.OperandTests.Fits.{types_known}
use Rattle.ir_typing.specs.declared.shape_kinds.kind.ShapeKind.{ShapeKind}
use Rattle.ir_typing.specs.declared.shape_kinds.kind.ShapeKind.TheVariants as kind
use Rattle.ir_typing.specs.ShapeKinds.Kinds.{fault_unless, least}
use Rattle.ir_typing.specs.ShapeKinds.Names.{are_new, with_name}
use Rattle.ir_shape.specs.ShapeTests.Kinds.{are_labels, froms_of, labels_of, phi_fits}
use Rattle.ir_shape.proofs.ShapeTests.Entries.{fits_edges_by, fits_edges_is}
use Rattle.ir_shape.proofs.ShapeTests.Fits.{edges_from}
use Rattle.ir_shape.proofs.ShapeTests.Taken.{labels_are}
use Rattle.ir_shape.proofs.ShapeTests.Tests.{all_joined, all_left, all_right, all_there, both_hold, both_left, both_none, both_right, fits_by, least_none_left, least_none_right, none_by, one_there}
use Rattle.ir_shape.proofs.ShapeTests.Typed.{AreTyped}
use Rattle.ir_shape.specs.Shape.{phi_kinds}
use Rattle.ir_shape.specs.LineShapes.Told.{operands_kind, phi_kind}
use Rattle.ir_shape.proofs.ShapeLaws.Faults.{AllNone}
use Rattle.ir_shape.proofs.ShapeLaws.Lines.{IsValue, all_told, operands_are, operands_by}

abbrev pub names_of_blocks : List Block → List Name
names_of_blocks = map (λ (b : Block). b.name)

-- what is so of phis that have no fault, where those names are taken before them
pub record PhisFit (m : Module) (f : Function) (b : Block) (taken : List Name) (ps : List Phi) : Type 0 where
  pub new : are_new taken (names_in (phi_registers ps)) ≡ true
  pub known : AllByRecursion (IsTypeKnown m) (flat_map stated_by_phi ps)
  pub values : AllByRecursion IsValue (phi_registers ps)
  pub operands : AreTyped m (typed_of f) (flat_map operands_of_phi ps)
  pub edges : AllByRecursion (FitsEdges f b) ps

-- what is so of one, but for its name
record PhiFits (m : Module) (f : Function) (b : Block) (p : Phi) : Type 0 where
  pub known : AllByRecursion (IsTypeKnown m) (stated_by_phi p)
  pub value : is_first_class p.ty ≡ true
  pub operands : AreTyped m (typed_of f) (operands_of_phi p)
  pub edges : FitsEdges f b p

abbrev pub of_phis : Module → Function → Block → List Name → List Phi → List (Option ShapeKind)
of_phis m f b = phi_kinds m (labels_of f) (all_told (typed_of f)) (edges_into f b.name)

abbrev of_phi : Module → Function → Block → Bool → Phi → Option ShapeKind
of_phi m f b = phi_kind m (labels_of f) (all_told (typed_of f)) (edges_into f b.name)

phi_by : (m : Module) (f : Function) (b : Block) (new : Bool) (p : Phi) → of_phi m f b new p ≡ None → (new ≡ true) × PhiFits m f b p
phi_by m f b new p e =
    let known = are_types_known m (stated_by_phi p) in
    let name = fault_unless (new && known) kind.Name in
    let label = fault_unless (are_labels (labels_of f) (froms_of p.entries)) kind.Label in
    let edges = phi_fits (edges_into f b.name) p.entries in
    let operands = operands_kind m (all_told (typed_of f)) (operands_of_phi p) in
    let last = least (fault_unless (is_first_class p.ty) kind.OperandType) operands in
    let third = least (fault_unless edges kind.PhiEntries) last in
    let own = fits_by (new && known) kind.Name (least_none_left name (least label third) e) in
    let after = least_none_right label third (least_none_right name (least label third) e) in
    let end = least_none_right (fault_unless edges kind.PhiEntries) last after in (
      both_left new known own,
      record {
        known = (types_known m (stated_by_phi p)).0 (both_right new known own);
        value = fits_by (is_first_class p.ty) kind.OperandType (least_none_left (fault_unless (is_first_class p.ty) kind.OperandType) operands end);
        operands = operands_by m (typed_of f) (operands_of_phi p) (least_none_right (fault_unless (is_first_class p.ty) kind.OperandType) operands end);
        edges = fits_edges_by f b p (fits_by edges kind.PhiEntries (least_none_left (fault_unless edges kind.PhiEntries) last after));
      },
    )

pub phis_by : (m : Module) (f : Function) (b : Block) (taken : List Name) (ps : List Phi) → AllNone (of_phis m f b taken ps) → PhisFit m f b taken ps
phis_by m f b taken [] all = record { new = refl; known = tt; values = tt; operands = tt; edges = tt }
phis_by m f b taken (p ∷ ps) all =
    let fresh = not (is_among p.name taken) in
    let one = phi_by m f b fresh p all.0 in
    let more = phis_by m f b (with_name taken p.name) ps all.1 in
    record {
      new = both_hold fresh (are_new (with_name taken p.name) (names_in (phi_registers ps))) one.0 more.new;
      known = all_joined (IsTypeKnown m) (stated_by_phi p) (flat_map stated_by_phi ps) one.1.known more.known;
      values = (one.1.value, more.values);
      operands = all_joined _ (operands_of_phi p) (flat_map operands_of_phi ps) one.1.operands more.operands;
      edges = (one.1.edges, more.edges);
    }

-- ---- entries of blocks

one_from : {A : Type 0} (P : Name → Type 0) (name : Name) (xs : List A) → P name → AllByRecursion P (map (λ _. name) xs)
one_from P name [] is = tt
one_from P name (x ∷ xs) is = (is, one_from P name xs is)

edges_from_blocks : (name : Name) (P : Name → Type 0) (bs : List Block) → AllByRecursion P (names_of_blocks bs) → AllByRecursion P (flat_map (edges_from name) bs)
edges_from_blocks name P [] all = tt
edges_from_blocks name P (b ∷ bs) all =
    all_joined P (edges_from name b) (flat_map (edges_from name) bs) (one_from P b.name (filter (same_name name) (successors_of b.term)) all.0) (edges_from_blocks name P bs all.1)

-- the entries of a phi that fits the edges are of blocks
entries_from : (f : Function) (b : Block) (p : Phi) → FitsEdges f b p → are_labels (labels_of f) (froms_of p.entries) ≡ true
entries_from f b p fits =
    let names = names_of_blocks f.blocks in
    labels_are names (froms_of p.entries)
    (all_there (Contains names) (froms_of p.entries)
    (λ n there. one_there (Contains names) (edges_into f b.name) n (edges_from_blocks b.name (Contains names) f.blocks (all_there (Contains names) names (λ m at. at)))
    (Contains-permutation (froms_of p.entries) (edges_into f b.name) n (IsPermutation-sym (edges_into f b.name) (froms_of p.entries) fits.edges) there)))

phi_is : (m : Module) (f : Function) (b : Block) → AreNew [] (names_in (typed_of f)) → (new : Bool) (p : Phi) → new ≡ true → PhiFits m f b p → of_phi m f b new p ≡ None
phi_is m f b unique new p fresh fit =
    let known = are_types_known m (stated_by_phi p) in
    let labels = are_labels (labels_of f) (froms_of p.entries) in
    let edges = phi_fits (edges_into f b.name) p.entries in
    let operands = operands_kind m (all_told (typed_of f)) (operands_of_phi p) in
    both_none (fault_unless (new && known) kind.Name) _ (none_by (new && known) kind.Name (both_hold new known fresh ((types_known m (stated_by_phi p)).1 fit.known)))
    (both_none (fault_unless labels kind.Label) _ (none_by labels kind.Label (entries_from f b p fit.edges))
    (both_none (fault_unless edges kind.PhiEntries) _ (none_by edges kind.PhiEntries (fits_edges_is f b p fit.edges))
    (both_none (fault_unless (is_first_class p.ty) kind.OperandType) operands (none_by (is_first_class p.ty) kind.OperandType fit.value)
    (operands_are m (typed_of f) unique (operands_of_phi p) fit.operands))))

pub phis_are : (m : Module) (f : Function) (b : Block) → AreNew [] (names_in (typed_of f)) → (taken : List Name) (ps : List Phi) → PhisFit m f b taken ps → AllNone (of_phis m f b taken ps)
phis_are m f b unique taken [] fit = tt
phis_are m f b unique taken (p ∷ ps) fit =
    let fresh = not (is_among p.name taken) in
    let later = are_new (with_name taken p.name) (names_in (phi_registers ps)) in (
      phi_is m f b unique fresh p (both_left fresh later fit.new) (
          record {
            known = all_left (IsTypeKnown m) (stated_by_phi p) (flat_map stated_by_phi ps) fit.known;
            value = fit.values.0;
            operands = all_left _ (operands_of_phi p) (flat_map operands_of_phi ps) fit.operands;
            edges = fit.edges.0;
          }
          ),
      phis_are m f b unique (with_name taken p.name) ps (
          record {
            new = both_right fresh later fit.new;
            known = all_right (IsTypeKnown m) (stated_by_phi p) (flat_map stated_by_phi ps) fit.known;
            values = fit.values.1;
            operands = all_right _ (operands_of_phi p) (flat_map operands_of_phi ps) fit.operands;
            edges = fit.edges.1;
          }
          ),
    )
