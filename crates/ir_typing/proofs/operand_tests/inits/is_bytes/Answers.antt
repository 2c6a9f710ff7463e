use Rattle.std.proofs.Common.{◌≡◌, ◌∙◌, ◌&&◌, ℕ, Bool, nat_eq, refl, sym, ap}
use Rattle.std.proofs.lemmas.Bool.{eq-eqb}
use Rattle.ir_core.specs.Typing.{is_bytes}
use Rattle.ir_types.specs.declared.ty.Ty.{Ty, Int, Array, out-Ty}
use Rattle.ir_types.specs.declared.ty.Ty.TheOpen.{Ty-F}
use Rattle.ir_types.specs.declared.ty.Ty.TheViews.{outs-Array}
use Rattle.ir_types.specs.Same.{same_ty}
use Rattle.ir_typing.proofs.operand_tests.inits.is_bytes.Goals as goal

-- an array of so many
of_count : (t e f : Ty) (size n : ℕ) (b : Bool) → t ≡ Array size e → f ≡ e → size ≡ n → b ≡ same_ty f (Int 8) → b ≡ is_bytes n (out-Ty t)
of_count t e f size n b is got count bytes =
    bytes
    ∙ ap (λ (u : Ty). same_ty u (Int 8)) got
    ∙ sym (ap (λ (k : ℕ). nat_eq k n && same_ty e (Int 8)) count ∙ ap (λ (yes : Bool). yes && same_ty e (Int 8)) (eq-eqb n n refl))
    ∙ sym (ap (λ (level : Ty-F Ty). is_bytes n level) (outs-Array size e))
    ∙ sym (ap (λ (u : Ty). is_bytes n (out-Ty u)) is)

pub returns-then-size-count : goal.returns-then-size-count
returns-then-size-count c =
    of_count c.args.ty.now c.in-Array.element c.get.result.now c.in-Array.size c.args.count c.same_ty.result c.in-Array.is c.get.ensures c.if-size-count.true c.same_ty.ensures
