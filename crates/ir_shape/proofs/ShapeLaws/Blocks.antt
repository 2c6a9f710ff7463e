-- Blocks have no fault exactly where all fits in them.
use Rattle.std.proofs.Common.{◌≡◌, ◌∙◌, ◌&&◌, ⊎_elim, Bool, true, false, not, List, [], ◌∷◌, ◌++◌, Option, None, refl, sym, ap, subst}
use Rattle.std.specs.List.{AllByRecursion, Contains, flat_map}
use Rattle.ir_core.specs.declared.functions.Block.{Block}
use Rattle.ir_core.specs.declared.functions.Function.{Function}
use Rattle.ir_core.specs.declared.functions.Instr.{Instr}
use Rattle.ir_core.specs.declared.modules.Module.{Module}
use Rattle.ir_types.specs.declared.names.Name.{Name}
use Rattle.ir_core.specs.Functions.{block_names, names_in, operands_at_end, operands_in_block, operands_of, operands_of_phi, phi_registers, registers_of, set_by, typed_of}
use Rattle.ir_core.specs.Order.{AreNew}
use Rattle.ir_core.specs.StatedTypes.{stated_by_block, stated_by_line, stated_by_phi}
use Rattle.ir_core.specs.WellFormed.{HasBlockShape, IsTypeKnown}
use Rattle.ir_core.specs.NameIndexes.Among.{is_among}
use Rattle.ir_shape.specs.declared.fault.ShapeFault.{ShapeFault}
use Rattle.ir_typing.specs.declared.shape_kinds.kind.ShapeKind.{ShapeKind}
use Rattle.ir_typing.specs.declared.shape_kinds.kind.ShapeKind.TheVariants as kind
use Rattle.ir_typing.specs.ShapeKinds.Names.{are_new, with_name, with_names}
use Rattle.ir_shape.specs.ShapeTests.Kinds.{block_kind, labels_of, leads_to}
use Rattle.ir_shape.proofs.ShapeTests.Taken.{Among, all_kept, kept, names_joined, new_joined, not_taken, old_or_new, put, registers_joined}
use Rattle.ir_shape.proofs.ShapeTests.Tests.{all_joined, all_left, all_right, both_hold, both_left, both_right, fits_by, joined_none, left_none, none_by, not_true, right_none}
use Rattle.ir_shape.proofs.ShapeTests.Typed.{AreTyped}
use Rattle.ir_shape.specs.Shape.{in_block, in_blocks, line_kinds, with_block, with_phis}
use Rattle.ir_shape.specs.LineShapes.Told.{stated_at_end}
use Rattle.ir_shape.proofs.ShapeLaws.Ends.{end_by, end_is, of_end}
use Rattle.ir_shape.proofs.ShapeLaws.Faults.{kinds_are, kinds_by}
use Rattle.ir_shape.proofs.ShapeLaws.Lines.{AreApart, IsValue, all_told, lines_are, lines_by}
use Rattle.ir_shape.proofs.ShapeLaws.Phis.{of_phis, phis_are, phis_by}

-- what is so of a block without fault in a function with that entry, but for its names
pub record BlockFits (m : Module) (f : Function) (entry : Name) (b : Block) : Type 0 where
  pub known : AllByRecursion (IsTypeKnown m) (stated_by_block b)
  pub values : AllByRecursion IsValue (registers_of b)
  pub operands : AreTyped m (typed_of f) (operands_in_block b)
  pub not_entered : leads_to entry b.term ≡ false
  pub shape : HasBlockShape m f b

block_taken : (taken : List Name) (b : Block) → with_block taken b ≡ with_names taken (block_names b)
block_taken taken b =
    sym (ap (with_names (with_name taken b.name)) (registers_joined (phi_registers b.phis) (set_by b.body))
    ∙ names_joined (with_name taken b.name) (names_in (phi_registers b.phis)) (names_in (set_by b.body)))

own_new : (doubled taken : Bool) → block_kind doubled taken ≡ None → not taken ≡ true
own_new true taken e = absurd (cc)
own_new false taken e = fits_by (not taken) kind.Name e

own_none : (doubled taken : Bool) → doubled ≡ false → taken ≡ false → block_kind doubled taken ≡ None
own_none doubled taken d t = ap (λ x. block_kind x taken) d ∙ none_by (not taken) kind.Name (ap not t)

abbrev in_one : Module → Function → Name → List Name → List Name → Block → List ShapeFault
in_one m f entry earlier taken b = in_block m f (labels_of f) (all_told (typed_of f)) entry earlier taken b

abbrev of_lines : Module → Function → List Name → List Instr → List (Option ShapeKind)
of_lines m f = line_kinds m (all_told (typed_of f))

-- the names of a block's registers are new where those of its phis are, and behind them those of its lines
registers_new : (taken : List Name) (b : Block)
    → are_new (with_name taken b.name) (names_in (registers_of b))
    ≡ (are_new (with_name taken b.name) (names_in (phi_registers b.phis)) && are_new (with_phis (with_name taken b.name) b.phis) (names_in (set_by b.body)))
registers_new taken b =
    ap (are_new (with_name taken b.name)) (registers_joined (phi_registers b.phis) (set_by b.body))
    ∙ new_joined (with_name taken b.name) (names_in (phi_registers b.phis)) (names_in (set_by b.body))

block_by : (m : Module) (f : Function) (entry : Name) (earlier taken : List Name) (b : Block) → in_one m f entry earlier taken b ≡ []
    → (are_new taken (block_names b) ≡ true) × BlockFits m f entry b
block_by m f entry earlier taken b e =
    let phis = of_phis m f b (with_name taken b.name) b.phis in
    let lines = of_lines m f (with_phis (with_name taken b.name) b.phis) b.body in
    let all = kinds_by f.name b.name 0 (block_kind (is_among b.name earlier) (is_among b.name taken)) (phis ++ lines) (of_end m f entry b.term) e in
    let of_phi = phis_by m f b (with_name taken b.name) b.phis (all_left _ phis lines all.1) in
    let of_line = lines_by m (typed_of f) (with_phis (with_name taken b.name) b.phis) b.body (all_right _ phis lines all.1) in
    let end = end_by m f entry b.term all.2 in (
      both_hold (not (is_among b.name taken)) (are_new (with_name taken b.name) (names_in (registers_of b))) (own_new (is_among b.name earlier) (is_among b.name taken) all.0)
          (registers_new taken b
          ∙ both_hold (are_new (with_name taken b.name) (names_in (phi_registers b.phis))) (are_new (with_phis (with_name taken b.name) b.phis) (names_in (set_by b.body))) of_phi.new of_line.new),
      record {
        known = all_joined (IsTypeKnown m) (flat_map stated_by_phi b.phis) (flat_map stated_by_line b.body ++ stated_at_end b.term) of_phi.known
            (all_joined (IsTypeKnown m) (flat_map stated_by_line b.body) (stated_at_end b.term) of_line.known end.known);
        values = all_joined IsValue (phi_registers b.phis) (set_by b.body) of_phi.values of_line.values;
        operands = all_joined _ (flat_map operands_of_phi b.phis) (flat_map operands_of b.body ++ operands_at_end b.term) of_phi.operands
            (all_joined _ (flat_map operands_of b.body) (operands_at_end b.term) of_line.operands end.operands);
        not_entered = end.not_entered;
        shape = record { phis = of_phi.edges; lines = of_line.lines; labels = end.labels; branches = end.branches; returns = end.returns; cases = end.cases };
      },
    )

block_is : (m : Module) → AreApart m → (f : Function) → AreNew [] (names_in (typed_of f)) → (entry : Name) (earlier taken : List Name) (b : Block) → is_among b.name earlier ≡ false
    → are_new taken (block_names b) ≡ true → BlockFits m f entry b → in_one m f entry earlier taken b ≡ []
block_is m apart f unique entry earlier taken b first new fit =
    let phis = of_phis m f b (with_name taken b.name) b.phis in
    let lines = of_lines m f (with_phis (with_name taken b.name) b.phis) b.body in
    let own = both_left (not (is_among b.name taken)) (are_new (with_name taken b.name) (names_in (registers_of b))) new in
    let phis_new = are_new (with_name taken b.name) (names_in (phi_registers b.phis)) in
    let lines_new = are_new (with_phis (with_name taken b.name) b.phis) (names_in (set_by b.body)) in
    let both = sym (registers_new taken b) ∙ both_right (not (is_among b.name taken)) (are_new (with_name taken b.name) (names_in (registers_of b))) new in
    let behind = all_right _ (flat_map operands_of_phi b.phis) (flat_map operands_of b.body ++ operands_at_end b.term) fit.operands in
    let stated = all_right (IsTypeKnown m) (flat_map stated_by_phi b.phis) (flat_map stated_by_line b.body ++ stated_at_end b.term) fit.known in
    let of_phi = phis_are m f b unique (with_name taken b.name) b.phis (
    record {
      new = both_left phis_new lines_new both;
      known = all_left (IsTypeKnown m) (flat_map stated_by_phi b.phis) (flat_map stated_by_line b.body ++ stated_at_end b.term) fit.known;
      values = all_left IsValue (phi_registers b.phis) (set_by b.body) fit.values;
      operands = all_left _ (flat_map operands_of_phi b.phis) (flat_map operands_of b.body ++ operands_at_end b.term) fit.operands;
      edges = fit.shape.phis;
    }
    ) in
    let of_line = lines_are m apart (typed_of f) unique (with_phis (with_name taken b.name) b.phis) b.body (
    record {
      new = both_right phis_new lines_new both;
      known = all_left (IsTypeKnown m) (flat_map stated_by_line b.body) (stated_at_end b.term) stated;
      values = all_right IsValue (phi_registers b.phis) (set_by b.body) fit.values;
      operands = all_left _ (flat_map operands_of b.body) (operands_at_end b.term) behind;
      lines = fit.shape.lines;
    }
    ) in
    let end = end_is m f entry b.term unique (
    record {
      known = all_right (IsTypeKnown m) (flat_map stated_by_line b.body) (stated_at_end b.term) stated;
      operands = all_right _ (flat_map operands_of b.body) (operands_at_end b.term) behind;
      labels = fit.shape.labels;
      not_entered = fit.not_entered;
      branches = fit.shape.branches;
      returns = fit.shape.returns;
      cases = fit.shape.cases;
    }
    ) in
    kinds_are f.name b.name 0 (block_kind (is_among b.name earlier) (is_among b.name taken)) (phis ++ lines) (of_end m f entry b.term)
    (own_none (is_among b.name earlier) (is_among b.name taken) first (not_true (is_among b.name taken) own)) (all_joined _ phis lines of_phi of_line) end

-- ---- blocks one after the other

abbrev pub in_these : Module → Function → Name → List Name → List Name → List Block → List ShapeFault
in_these m f = in_blocks m f (labels_of f) (all_told (typed_of f))

pub blocks_by : (m : Module) (f : Function) (entry : Name) (earlier taken : List Name) (bs : List Block) → in_these m f entry earlier taken bs ≡ []
    → (are_new taken (flat_map block_names bs) ≡ true) × AllByRecursion (BlockFits m f entry) bs
blocks_by m f entry earlier taken [] e = (refl, tt)
blocks_by m f entry earlier taken (b ∷ bs) e =
    let further = in_these m f entry (with_name earlier b.name) (with_block taken b) bs in
    let here = block_by m f entry earlier taken b (left_none (in_one m f entry earlier taken b) further e) in
    let more = blocks_by m f entry (with_name earlier b.name) (with_block taken b) bs (right_none (in_one m f entry earlier taken b) further e) in (
      new_joined taken (block_names b) (flat_map block_names bs)
          ∙ both_hold (are_new taken (block_names b)) (are_new (with_names taken (block_names b)) (flat_map block_names bs)) here.0
          (subst (λ ts. are_new ts (flat_map block_names bs) ≡ true) (block_taken taken b) more.0),
      (here.1, more.1),
    )

earlier_among : (earlier taken : List Name) (b : Block) → Among earlier taken → Among (with_name earlier b.name) (with_block taken b)
earlier_among earlier taken b among n there =
    subst (λ ts. Contains ts n) (sym (block_taken taken b))
    (all_kept (names_in (registers_of b)) (with_name taken b.name) n
    (⊎_elim (λ old. kept b.name taken n (among n old)) (λ new. subst (Contains (with_name taken b.name)) new (put b.name taken)) (old_or_new b.name earlier n there)))

pub blocks_are : (m : Module) → AreApart m → (f : Function) → AreNew [] (names_in (typed_of f)) → (entry : Name) (earlier taken : List Name) (bs : List Block) → Among earlier taken
    → are_new taken (flat_map block_names bs) ≡ true → AllByRecursion (BlockFits m f entry) bs → in_these m f entry earlier taken bs ≡ []
blocks_are m apart f unique entry earlier taken [] among new all = refl
blocks_are m apart f unique entry earlier taken (b ∷ bs) among new all =
    let here = are_new taken (block_names b) in
    let later = are_new (with_names taken (block_names b)) (flat_map block_names bs) in
    let both = sym (new_joined taken (block_names b) (flat_map block_names bs)) ∙ new in
    let own = not_true (is_among b.name taken) (both_left (not (is_among b.name taken)) (are_new (with_name taken b.name) (names_in (registers_of b))) (both_left here later both)) in
    joined_none (in_one m f entry earlier taken b) (in_these m f entry (with_name earlier b.name) (with_block taken b) bs)
    (block_is m apart f unique entry earlier taken b (not_taken b.name taken earlier among own) (both_left here later both) all.0)
    (blocks_are m apart f unique entry (with_name earlier b.name) (with_block taken b) bs (earlier_among earlier taken b among)
    (subst (λ ts. are_new ts (flat_map block_names bs) ≡ true) (sym (block_taken taken b)) (both_right here later both)) all.1)
