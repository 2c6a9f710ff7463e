-- Each register of a function is told with its type.
use Rattle.std.proofs.Common.{Bool, true, false, cond, List, [], ◌∷◌, ◌++◌, map, Option, Some, None, refl}
use Rattle.std.specs.List.{AllByRecursion, cons_option, flat_map}
use Rattle.std.proofs.lemmas.List.Elements.{Contains-append_left, Contains-append_right}
use Rattle.ir_core.specs.declared.functions.Block.{Block}
use Rattle.ir_core.specs.declared.functions.Function.{Function}
use Rattle.ir_core.specs.declared.functions.Instr.{Instr}
use Rattle.ir_core.specs.declared.modules.Module.{Module}
use Rattle.ir_core.specs.Functions.{params_of, phi_registers, register_of, set_by, typed_of}
use Rattle.ir_core.specs.Functions.{registers_of as registers_in}
use Rattle.ir_types.specs.declared.named.NamedTy.{NamedTy}
use Rattle.ir_types.specs.declared.names.Name.{Name}
use Rattle.ir_types.specs.declared.ty.Ty.{Ty}
use Rattle.named_modules.specs.Functions.{gives_type, registers_of, told_in, told_of, typed}
use Rattle.named_modules.specs.Values.{IsRegister, Registers}
use Rattle.named_modules.proofs.Lists.{all_append, contains_here}
use Rattle.printed_modules.proofs.Each.{all_so}

-- the register is told with this type, or without one
abbrev pub IsTold : Registers → Name × Ty → Type 0
IsTold rs r = IsRegister rs r.1 r.0

abbrev AreTold : Registers → List (Name × Ty) → Type 0
AreTold rs = AllByRecursion (IsTold rs)

before : (rs more : Registers) (xs : List (Name × Ty)) → AreTold rs xs → AreTold (rs ++ more) xs
before rs more = all_so (IsTold rs) (IsTold (rs ++ more)) (λ r h. (h.0, Contains-append_left rs more (r.0, h.0) h.1, h.2))

behind : (rs more : Registers) (xs : List (Name × Ty)) → AreTold more xs → AreTold (rs ++ more) xs
behind rs more = all_so (IsTold more) (IsTold (rs ++ more)) (λ r h. (h.0, Contains-append_right rs more (r.0, h.0) h.1, h.2))

joined : (rs more : Registers) (xs ys : List (Name × Ty)) → AreTold rs xs → AreTold more ys → AreTold (rs ++ more) (xs ++ ys)
joined rs more xs ys one other = all_append (IsTold (rs ++ more)) xs ys (before rs more xs one) (behind rs more ys other)

with_types : (xs : List (Name × Ty)) → AreTold (typed xs) xs
with_types [] = tt
with_types (x ∷ xs) =
    ((Some x.1, contains_here (x.0, Some x.1) (typed xs), refl), behind ((x.0, Some x.1) ∷ []) (typed xs) xs (with_types xs))

-- whether or not it gives a type
by_line : (b : Bool) (o : Option (Name × Ty)) (more : Registers) (xs : List (Name × Ty)) → AreTold more xs
    → AreTold (map (λ (r : Name × Ty). (r.0, cond b (Some r.1) None)) (cons_option o []) ++ more) (cons_option o xs)
by_line b None more xs rest = rest
by_line true (Some r) more xs rest = ((Some r.1, contains_here (r.0, Some r.1) more, refl), behind ((r.0, Some r.1) ∷ []) more xs rest)
by_line false (Some r) more xs rest = ((None, contains_here (r.0, None) more, tt), behind ((r.0, None) ∷ []) more xs rest)

module _ (types : List NamedTy) where
  by_lines : (lines : List Instr) → AreTold (flat_map (told_of types) lines) (set_by lines)
  by_lines [] = tt
  by_lines (l ∷ lines) = by_line (gives_type types l) (register_of l) (flat_map (told_of types) lines) (set_by lines) (by_lines lines)

  by_block : (b : Block) → AreTold (told_in types b) (registers_in b)
  by_block b = joined (typed (phi_registers b.phis)) (flat_map (told_of types) b.body) (phi_registers b.phis) (set_by b.body) (with_types (phi_registers b.phis)) (by_lines b.body)

  by_blocks : (bs : List Block) → AreTold (flat_map (told_in types) bs) (flat_map registers_in bs)
  by_blocks [] = tt
  by_blocks (b ∷ bs) = joined (told_in types b) (flat_map (told_in types) bs) (registers_in b) (flat_map registers_in bs) (by_block b) (by_blocks bs)

pub all_told : (m : Module) (f : Function) → AllByRecursion (IsTold (registers_of m f)) (typed_of f)
all_told m f =
    joined (typed (params_of f)) (flat_map (told_in m.types) f.blocks) (params_of f) (flat_map registers_in f.blocks) (with_types (params_of f))
    (by_blocks m.types f.blocks)
