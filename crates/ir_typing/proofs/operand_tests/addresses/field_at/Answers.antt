use Rattle.std.proofs.Common.{◌≡◌, ◌∙◌, ℕ, cond, true, List, Option, None, Some, sym, ap, rules, arith}
use Rattle.std.proofs.lemmas.Grind.{common_steps}
use Rattle.std.proofs.lemmas.Option.{gets}
use Rattle.std.specs.List.{slice_get}
use Rattle.std.specs.Option.{option_and_then, option_copied}
use Rattle.ir_core.specs.Typing.{field_at}
use Rattle.ir_types.specs.declared.ty.Ty.{Ty, Int}
use Rattle.ir_types.specs.Same.{same_ty}
use Rattle.ir_typing.proofs.operand_tests.addresses.field_at.Goals as goal

-- an index of i32 that is a number
by_number : (fields : List Ty) (i : Ty) (told : Option ℕ) (n : ℕ) (field : Option Ty) → same_ty i (Int 32) ≡ true → told ≡ Some n → field ≡ slice_get fields n
    → field ≡ field_at fields (record { ty = i; number = told })
by_number fields i told n field wide is got =
    got
    ∙ sym (ap (λ (o : Option ℕ). option_and_then (slice_get fields) o) is)
    ∙ sym (ap (λ b. cond b (option_and_then (slice_get fields) told) None) wide)

pub returns-then-not-same_ty : goal.returns-then-not-same_ty
returns-then-not-same_ty c = search rules

pub returns-in-Some : goal.returns-in-Some
returns-in-Some c =
    let got : option_copied c.get.result ≡ slice_get c.args.fields.now c.in-Some.number = grind (arith, common_steps, gets) in
    by_number c.args.fields.now c.args.index.now c.args.number c.in-Some.number (option_copied c.get.result) (sym c.same_ty.ensures ∙ c.if-not-same_ty.false) c.in-Some.is got

pub returns-in-None : goal.returns-in-None
returns-in-None c = search rules
