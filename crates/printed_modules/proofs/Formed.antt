-- Functions of shape, in order and in range can be written as text.
use Rattle.std.proofs.Common.{◌≡◌, ◌∙◌, ◌<◌, true, List, [], ◌∷◌, ◌++◌, map, length, Option, None, Some, ap}
use Rattle.std.specs.List.{AllByRecursion, Contains, cons_option, flat_map}
use Rattle.ir_core.specs.declared.expressions.Expr.{Expr}
use Rattle.ir_core.specs.declared.expressions.Expr.TheVariants as expr
use Rattle.ir_core.specs.declared.functions.Argument.{Argument}
use Rattle.ir_core.specs.declared.functions.Block.{Block}
use Rattle.ir_core.specs.declared.functions.Call.{Call}
use Rattle.ir_core.specs.declared.functions.Case.{Case}
use Rattle.ir_core.specs.declared.functions.Entry.{Entry}
use Rattle.ir_core.specs.declared.functions.Function.{Function}
use Rattle.ir_core.specs.declared.functions.Instr.{Instr}
use Rattle.ir_core.specs.declared.functions.Instr.TheVariants as instr
use Rattle.ir_core.specs.declared.functions.Phi.{Phi}
use Rattle.ir_core.specs.declared.functions.Term.{Term}
use Rattle.ir_core.specs.declared.functions.Term.TheVariants as term
use Rattle.ir_core.specs.declared.modules.Module.{Module}
use Rattle.ir_core.specs.declared.operands.Atom.{Atom}
use Rattle.ir_core.specs.declared.operands.Atom.TheVariants.{Constant, Register}
use Rattle.ir_core.specs.declared.operands.Operand.{Operand}
use Rattle.ir_core.specs.Expressions.{operands_in, type_of}
use Rattle.ir_core.specs.Functions.{cases_of, operands_at_end, operands_in_block, operands_of, operands_of_phi, phi_registers, register_of, set_by, named_register, successors_of, typed_of}
use Rattle.ir_core.specs.Functions.{registers_of as registers_in}
use Rattle.ir_core.specs.Ranges.{IsAtomInRange, IsCaseInRange, IsLineInRange, IsNameInRange, IsOperandInRange, IsRightInRange, IsTypeInRange}
use Rattle.ir_core.specs.StatedTypes.{stated_apart, stated_by_atom, stated_by_block, stated_by_line, stated_by_operand, stated_by_phi}
use Rattle.ir_core.specs.Types.{is_first_class}
use Rattle.ir_core.specs.Typing.{Signature, index_of, signatures_of}
use Rattle.ir_core.specs.WellFormed.{FitsEdges, HasBlockShape, HasType, IsCall, IsLine, IsOperator, IsTypeKnown}
use Rattle.ir_types.specs.declared.names.Name.{Name}
use Rattle.ir_types.specs.declared.ty.Ty.{Ty}
use Rattle.ir_printer.specs.Printed.{called_in}
use Rattle.named_modules.specs.Addresses.{address_type}
use Rattle.named_modules.specs.Functions.{labels_of, registers_of}
use Rattle.named_modules.specs.Values.{IsRegister}
use Rattle.printed_tokens.proofs.Addresses.{from_pointer}
use Rattle.named_modules.proofs.Lists.{all_left, all_right}
use Rattle.printed_modules.proofs.Callable.{IsCallee}
use Rattle.printed_modules.proofs.ConstantValues.{constant_values}
use Rattle.printed_modules.proofs.Each.{all_to}
use Rattle.printed_modules.proofs.Fit.{FitsAtom, FitsBlock, FitsCall, FitsCase, FitsEntry, FitsLabel, FitsLine, FitsOperand, FitsOperator, FitsPhi, FitsRight, FitsTerm, StatesAs, named_of}
use Rattle.printed_modules.proofs.TypeFits.{constant_in_range, fits_result, fits_type, fits_value_type, named_result}

-- a register that may be used anywhere in the function
pub record IsUsable (m : Module) (f : Function) (r : Name × Ty) : Type 0 where
  pub name : IsNameInRange r.0
  pub range : IsTypeInRange r.1
  pub values : is_first_class r.1 ≡ true
  pub told : IsRegister (registers_of m f) r.1 r.0

-- a function that may be called
pub record IsCalled (m : Module) (x : Name) (s : Signature) : Type 0 where
  pub callee : IsCallee x
  pub states : StatesAs m (called_in m.declarations x) s

-- what is known of all parts of a function together
pub record IsSurrounding (m : Module) (f : Function) : Type 0 where
  pub registers : AllByRecursion (IsUsable m f) (typed_of f)
  pub labels : AllByRecursion IsNameInRange (labels_of f)
  pub calls : (x : Name) (s : Signature) → Contains (signatures_of m) (x, s) → IsCalled m x s

-- where edges into the block come from
abbrev pub ComeFrom : Function → Phi → Type 0
ComeFrom f p = AllByRecursion (λ (e : Entry). Contains (labels_of f) e.from) p.entries

module _ (m : Module) (f : Function) (around : IsSurrounding m f) where
  abbrev Known : List Ty → Type 0
  Known = AllByRecursion (IsTypeKnown m)

  -- ---- operands

  abbrev IsUsed : Operand Name → Type 0
  IsUsed o = IsOperandInRange o × HasType m (typed_of f) o.ty o.atom

  abbrev AreUsed : List (Operand Name) → Type 0
  AreUsed = AllByRecursion IsUsed

  abbrev FitOperands : List (Operand Name) → Type 0
  FitOperands = AllByRecursion (FitsOperand m (registers_of m f) (labels_of f))

  usable : (t : Ty) (x : Name) → Contains (typed_of f) (x, t) → IsUsable m f (x, t)
  usable t x there = all_to (IsUsable m f) (typed_of f) around.registers (x, t) there

  of_values : (t : Ty) (a : Atom Name) → HasType m (typed_of f) t a → is_first_class t ≡ true
  of_values t (Constant c) has = constant_values m c t has
  of_values t (Register x) has = (usable t x has).values

  fits_atom : (t : Ty) (a : Atom Name) → IsAtomInRange t a → HasType m (typed_of f) t a → Known (stated_by_atom a) → FitsAtom m (registers_of m f) (labels_of f) t a
  fits_atom t (Constant c) range has known = record { written = constant_in_range t c range; typed = has; types = known }
  fits_atom t (Register x) range has known = let r = usable t x has in (r.name, r.told)

  fits_operand : (o : Operand Name) → IsUsed o → Known (stated_by_operand o) → FitsOperand m (registers_of m f) (labels_of f) o
  fits_operand o used known = (
    fits_value_type m o.ty used.0.0 known.0 (of_values o.ty o.atom used.1),
    fits_atom o.ty o.atom used.0.1 used.1 known.1,
  )

  fits_operands : (os : List (Operand Name)) → AreUsed os → Known (flat_map stated_by_operand os) → FitOperands os
  fits_operands [] used known = tt
  fits_operands (o ∷ os) used known =
      let rest = flat_map stated_by_operand os in (
        fits_operand o used.0 (all_left (IsTypeKnown m) (stated_by_operand o) rest known),
        fits_operands os used.1 (all_right (IsTypeKnown m) (stated_by_operand o) rest known),
      )

  fits_arguments :
      (xs : List Argument) → AreUsed (map (λ (a : Argument). a.operand) xs) → Known (flat_map (λ (a : Argument). stated_by_operand a.operand) xs)
      → AllByRecursion (λ (a : Argument). FitsOperand m (registers_of m f) (labels_of f) a.operand) xs
  fits_arguments [] used known = tt
  fits_arguments (a ∷ xs) used known =
      let rest = flat_map (λ (a : Argument). stated_by_operand a.operand) xs in (
        fits_operand a.operand used.0 (all_left (IsTypeKnown m) (stated_by_operand a.operand) rest known),
        fits_arguments xs used.1 (all_right (IsTypeKnown m) (stated_by_operand a.operand) rest known),
      )

  fits_label : (x : Name) → Contains (labels_of f) x → FitsLabel m (registers_of m f) (labels_of f) x
  fits_label x there = (all_to IsNameInRange (labels_of f) around.labels x there, there)

  -- ---- lines

  fits_operator : (e : Expr Name) → IsTypeInRange (type_of e) → is_first_class (type_of e) ≡ true → IsRightInRange e → Known (stated_apart e) → IsOperator m e → FitsOperator m (registers_of m f) (labels_of f) e
  fits_operator (expr.Plain o) type values range known is = is
  fits_operator (expr.Binary b) type values range known is = tt
  fits_operator (expr.Icmp c) type values range known is = tt
  fits_operator (expr.Cast c) type values range known is = fits_value_type m c.to type known.0 values
  fits_operator (expr.Select s) type values range known is = tt
  fits_operator (expr.Element e) type values range known is = (
    fits_type m e.of range known.0,
    ap (λ t. address_type m.types t e.of (map index_of e.indices)) is.0 ∙ from_pointer m.types e.of (map index_of e.indices) ∙ is.2,
  )
  fits_operator (expr.Load l) type values range known is = fits_value_type m l.of type known.0 values

  -- the register that a line sets, if it sets one
  abbrev SetsUsable : Option (Name × Ty) → Type 0
  SetsUsable None = Unit {0}
  SetsUsable (Some r) = IsUsable m f r

  named_in_range : (t : Ty) (name : Option Name) → SetsUsable (named_register t name) → AllByRecursion IsNameInRange (named_of name)
  named_in_range t None sets = tt
  named_in_range t (Some x) sets = (sets.name, tt)

  fits_right : (e : Expr Name) → IsTypeInRange (type_of e) → is_first_class (type_of e) ≡ true → IsRightInRange e → IsOperator m e → AreUsed (operands_in e)
      → Known (stated_apart e ++ flat_map stated_by_operand (operands_in e)) → FitsRight m (registers_of m f) (labels_of f) e
  fits_right e type values range is used known =
      let operands = flat_map stated_by_operand (operands_in e) in
      record {
        operator = fits_operator e type values range (all_left (IsTypeKnown m) (stated_apart e) operands known) is;
        range = range;
        operands = fits_operands (operands_in e) used (all_right (IsTypeKnown m) (stated_apart e) operands known);
      }

  fits_call : (c : Call) → SetsUsable (named_register c.result c.name) → IsLineInRange (instr.Call c) → IsCall m c → AreUsed (map (λ (a : Argument). a.operand) c.arguments)
      → Known (stated_by_line (instr.Call c)) → FitsCall m (registers_of m f) (labels_of f) c
  fits_call c sets range is used known =
      let called = around.calls c.callee is.signature is.callee in
      record {
        result = fits_result m c.result range known.0 (named_result c.result c.name is.named);
        names = named_in_range c.result c.name sets;
        named = is.named;
        name = called.callee.name;
        plain = called.callee.plain;
        signature = is.signature;
        known = is.callee;
        states = called.states;
        arguments = fits_arguments c.arguments used known.1;
      }

  fits_line : (l : Instr) → SetsUsable (register_of l) → IsLineInRange l → IsLine m l → AreUsed (operands_of l) → Known (stated_by_line l) → FitsLine m (registers_of m f) (labels_of f) l
  fits_line (instr.Calm c) sets range is used known = (sets.name, fits_right c.right sets.range sets.values range is used known)
  fits_line (instr.Alloca a) sets range is used known = record {
    name = sets.name;
    of = fits_type m a.of range.0 known.0;
    to = is.0;
    count = range.1;
    counted = known.1;
    align = range.2;
  }
  fits_line (instr.Store s) sets range is used known = record {
    value = fits_operand s.value used.0 (all_left (IsTypeKnown m) (stated_by_operand s.value) (stated_by_operand s.pointer) known);
    pointer = fits_operand s.pointer used.1.0 (all_right (IsTypeKnown m) (stated_by_operand s.value) (stated_by_operand s.pointer) known);
    align = range;
  }
  fits_line (instr.Call c) sets range is used known = fits_call c sets range is used known

  first_set : (o : Option (Name × Ty)) (rs : List (Name × Ty)) → AllByRecursion (IsUsable m f) (cons_option o rs) → SetsUsable o × AllByRecursion (IsUsable m f) rs
  first_set None rs all = (tt, all)
  first_set (Some r) rs all = (all.0, all.1)

  fits_lines : (ls : List Instr) → AllByRecursion (IsUsable m f) (set_by ls) → AllByRecursion IsLineInRange ls → AllByRecursion (IsLine m) ls → AreUsed (flat_map operands_of ls) → Known (flat_map stated_by_line ls)
      → AllByRecursion (FitsLine m (registers_of m f) (labels_of f)) ls
  fits_lines [] sets range is used known = tt
  fits_lines (l ∷ ls) sets range is used known =
      let registers = first_set (register_of l) (set_by ls) sets in
      let operands = flat_map operands_of ls in
      let types = flat_map stated_by_line ls in (
        fits_line l registers.0 range.0 is.0 (all_left IsUsed (operands_of l) operands used) (all_left (IsTypeKnown m) (stated_by_line l) types known),
        fits_lines ls registers.1 range.1 is.1 (all_right IsUsed (operands_of l) operands used) (all_right (IsTypeKnown m) (stated_by_line l) types known),
      )

  -- ---- phis

  abbrev entry_operand : Ty → Entry → Operand Name
  entry_operand t e = record { ty = t; atom = e.value }

  fits_entries : (t : Ty) (es : List Entry) → AreUsed (map (entry_operand t) es) → Known (flat_map stated_by_operand (map (entry_operand t) es)) → AllByRecursion (λ (e : Entry). Contains (labels_of f) e.from) es
      → AllByRecursion (FitsEntry m (registers_of m f) (labels_of f) t) es
  fits_entries t [] used known froms = tt
  fits_entries t (e ∷ es) used known froms =
      let rest = flat_map stated_by_operand (map (entry_operand t) es) in (
        ((fits_operand (entry_operand t e) used.0 (all_left (IsTypeKnown m) (stated_by_operand (entry_operand t e)) rest known)).1, fits_label e.from froms.0),
        fits_entries t es used.1 (all_right (IsTypeKnown m) (stated_by_operand (entry_operand t e)) rest known) froms.1,
      )

  fits_phi : (p : Phi) → IsUsable m f (p.name, p.ty) → 0 < length p.entries → ComeFrom f p → AreUsed (operands_of_phi p) → Known (stated_by_phi p) → FitsPhi m (registers_of m f) (labels_of f) p
  fits_phi p is some froms used known = record {
    name = is.name;
    typed = fits_value_type m p.ty is.range known.0 is.values;
    some = some;
    entries = fits_entries p.ty p.entries used known.1 froms;
  }

  fits_phis : (b : Block) (ps : List Phi) → AllByRecursion (IsUsable m f) (phi_registers ps) → AllByRecursion (FitsEdges f b) ps → AllByRecursion (ComeFrom f) ps → AreUsed (flat_map operands_of_phi ps) → Known (flat_map stated_by_phi ps)
      → AllByRecursion (FitsPhi m (registers_of m f) (labels_of f)) ps
  fits_phis b [] sets edges froms used known = tt
  fits_phis b (p ∷ ps) sets edges froms used known =
      let operands = flat_map operands_of_phi ps in
      let types = flat_map stated_by_phi ps in (
        fits_phi p sets.0 edges.0.some froms.0 (all_left IsUsed (operands_of_phi p) operands used) (all_left (IsTypeKnown m) (stated_by_phi p) types known),
        fits_phis b ps sets.1 edges.1 froms.1 (all_right IsUsed (operands_of_phi p) operands used) (all_right (IsTypeKnown m) (stated_by_phi p) types known),
      )

  -- ---- terminators

  fits_cases : (cs : List Case) → AllByRecursion IsCaseInRange cs → Known (map (λ (c : Case). c.ty) cs) → AllByRecursion (Contains (labels_of f)) (map (λ (c : Case). c.label) cs)
      → AllByRecursion (FitsCase m (registers_of m f) (labels_of f)) cs
  fits_cases [] range known labels = tt
  fits_cases (c ∷ cs) range known labels = (
    (fits_type m c.ty range.0.0 known.0, range.0.1, fits_label c.label labels.0),
    fits_cases cs range.1 known.1 labels.1,
  )

  fits_term : (t : Term) → FitOperands (operands_at_end t) → AllByRecursion IsCaseInRange (cases_of t) → Known (map (λ (c : Case). c.ty) (cases_of t))
      → AllByRecursion (Contains (labels_of f)) (successors_of t) → FitsTerm m (registers_of m f) (labels_of f) t
  fits_term (term.Ret o) operands cases known labels = operands.0
  fits_term term.RetVoid operands cases known labels = tt
  fits_term (term.Br label) operands cases known labels = fits_label label labels.0
  fits_term (term.CondBr c) operands cases known labels = (operands.0, fits_label c.on_true labels.0, fits_label c.on_false labels.1.0)
  fits_term (term.Switch s) operands cases known labels =
      (operands.0, fits_label s.default labels.0, fits_cases s.cases cases known labels.1)
  fits_term term.Unreachable operands cases known labels = tt

  -- ---- blocks

  -- what is known of a block
  pub record IsKnownBlock (b : Block) : Type 0 where
    pub name : IsNameInRange b.name
    pub registers : AllByRecursion (IsUsable m f) (registers_in b)
    pub operands : AllByRecursion (λ (o : Operand Name). IsOperandInRange o × HasType m (typed_of f) o.ty o.atom) (operands_in_block b)
    pub types : AllByRecursion (IsTypeKnown m) (stated_by_block b)
    pub lines : AllByRecursion IsLineInRange b.body
    pub cases : AllByRecursion IsCaseInRange (cases_of b.term)
    pub shape : HasBlockShape m f b
    pub froms : AllByRecursion (ComeFrom f) b.phis

  pub fits_block : (b : Block) → IsKnownBlock b → FitsBlock m (registers_of m f) (labels_of f) b
  fits_block b is =
      let of_phis = flat_map operands_of_phi b.phis in
      let of_lines = flat_map operands_of b.body in
      let phis = flat_map stated_by_phi b.phis in
      let lines = flat_map stated_by_line b.body in
      let ends = flat_map stated_by_operand (operands_at_end b.term) in
      let cases = map (λ (c : Case). c.ty) (cases_of b.term) in
      let used = all_right IsUsed of_phis (of_lines ++ operands_at_end b.term) is.operands in
      let known = all_right (IsTypeKnown m) phis (lines ++ (ends ++ cases)) is.types in
      let last = all_right IsUsed of_lines (operands_at_end b.term) used in
      let behind = all_right (IsTypeKnown m) lines (ends ++ cases) known in
      record {
        name = is.name;
        phis = fits_phis b b.phis (all_left (IsUsable m f) (phi_registers b.phis) (set_by b.body) is.registers) is.shape.phis is.froms
            (all_left IsUsed of_phis (of_lines ++ operands_at_end b.term) is.operands) (all_left (IsTypeKnown m) phis (lines ++ (ends ++ cases)) is.types);
        lines = fits_lines b.body (all_right (IsUsable m f) (phi_registers b.phis) (set_by b.body) is.registers) is.lines is.shape.lines
            (all_left IsUsed of_lines (operands_at_end b.term) used) (all_left (IsTypeKnown m) lines (ends ++ cases) known);
        ends = fits_term b.term (fits_operands (operands_at_end b.term) last (all_left (IsTypeKnown m) ends cases behind)) is.cases
            (all_right (IsTypeKnown m) ends cases behind) is.shape.labels;
      }
