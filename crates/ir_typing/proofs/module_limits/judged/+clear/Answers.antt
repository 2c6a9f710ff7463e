use Rattle.std.proofs.Common.{◌≡◌, ◌∙◌, true, sym, subst}
use Rattle.std.specs.List.{AllByRecursion}
use Rattle.ir_typing.specs.ModuleLimits.Small.{IsClear, is_small}
use Rattle.ir_typing.proofs.ModuleLimits.Clear.{array_clear, leaf_clear, struct_clear}
use Rattle.ir_typing.proofs.module_limits.judged.+clear.Goals as goal

pub is_clear-returns-in-Array : goal.is_clear-returns-in-Array
is_clear-returns-in-Array t c = λ yes.
    let types = c.args.«module».now.types in
    subst (IsClear types) (sym c.in-Array.is)
    (array_clear types c.in-Array.field-0 c.in-Array.element
    (subst (λ u. is_small types (u, 1) ≡ true) c.in-Array.is (sym c.makes_block.ensures ∙ c.if-not-makes_block.false))
    (subst (IsClear types) c.get.ensures (c.is_clear.ensures yes)))

pub is_clear-returns-in-Struct : goal.is_clear-returns-in-Struct
is_clear-returns-in-Struct t c = λ yes.
    let types = c.args.«module».now.types in
    subst (IsClear types) (sym c.in-Struct.is)
    (struct_clear types c.in-Struct.fields
    (subst (λ u. is_small types (u, 1) ≡ true) c.in-Struct.is (sym c.makes_block.ensures ∙ c.if-not-makes_block.false))
    (subst (AllByRecursion (IsClear types)) (c.as_slice.ensures ∙ c.get-in-Struct.ensures) (c.are_clear.ensures yes)))

pub is_clear-returns-in-Int : goal.is_clear-returns-in-Int
is_clear-returns-in-Int t c = λ yes. leaf_clear c.args.«module».now.types c.args.ty.now c.in-Int.is (sym c.makes_block.ensures ∙ c.if-not-makes_block.false)

pub is_clear-returns-in-Int-2 : goal.is_clear-returns-in-Int-2
is_clear-returns-in-Int-2 t c = λ yes. leaf_clear c.args.«module».now.types c.args.ty.now c.in-Int.is (sym c.makes_block.ensures ∙ c.if-not-makes_block.false)

pub is_clear-returns-in-Int-3 : goal.is_clear-returns-in-Int-3
is_clear-returns-in-Int-3 t c = λ yes. leaf_clear c.args.«module».now.types c.args.ty.now c.in-Int.is (sym c.makes_block.ensures ∙ c.if-not-makes_block.false)

pub is_clear-returns-in-Int-4 : goal.is_clear-returns-in-Int-4
is_clear-returns-in-Int-4 t c = λ yes. leaf_clear c.args.«module».now.types c.args.ty.now c.in-Int.is (sym c.makes_block.ensures ∙ c.if-not-makes_block.false)
