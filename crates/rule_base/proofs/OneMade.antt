-- Where the first of some operands is the one that is made, the others decide; where it isn't, it stays.
use Rattle.std.proofs.Common.{◌≡◌, ◌||◌, ◌&&◌, Bool, true, false, List, [], ◌∷◌, refl, sym, ◌∙◌, subst}
use Rattle.std.specs.Prelude.{◌⊎◌}
use Rattle.ir_types.specs.NameLaws.{all_true, left_true, right_true}
use Rattle.ir_types.specs.Same.{same_list}
use Rattle.ir_core.specs.declared.expressions.Reg.{Reg}
use Rattle.ir_core.specs.declared.operands.Operand.{Operand}
use Rattle.ir_core.specs.Same.{same_operand, same_reg}
use Rattle.ir_core.proofs.SameLaws.{same_reg_operand_refl, same_reg_operand_true}
use Rattle.rule_base.specs.Rows.{one_made}

abbrev same : Operand Reg → Operand Reg → Bool
same x y = same_operand same_reg x y

either : (p q : Bool) (P : Type 0) → (p ≡ true → P) → (q ≡ true → P) → (p || q) ≡ true → P
either true q P f g h = f refl
either false q P f g h = g h

one_of : (a b x y : Operand Reg) → a ≡ b → same x a ≡ true → same y b ≡ true → same x y ≡ true
one_of a b x y e p q =
    let there : x ≡ y = same_reg_operand_true x a p ∙ e ∙ sym (same_reg_operand_true y b q) in
    subst (λ z. same x z ≡ true) there (same_reg_operand_refl x)

-- where an operand is made itself, nothing changes
made_same : (a b : Operand Reg) → a ≡ b → (xs ys : List (Operand Reg)) → one_made a b xs ys ≡ true → same_list same xs ys ≡ true
made_same a b e [] ys h = absurd (cc)
made_same a b e (x ∷ xs) [] h = absurd (cc)
made_same a b e (x ∷ xs) (y ∷ ys) h =
    let p = same x a in
    let q = same y b in
    let rest = same_list same xs ys in
    let s = same x y in
    let later = one_made a b xs ys in
    either (p && q && rest) (s && later) (same_list same (x ∷ xs) (y ∷ ys) ≡ true)
    (λ here. all_true (one_of a b x y e (left_true p q (left_true (p && q) rest here)) (right_true p q (left_true (p && q) rest here))) (right_true (p && q) rest here))
    (λ there. all_true (left_true s later there) (made_same a b e xs ys (right_true s later there))) h

or_nothing : (r t : Bool) → (t ≡ true → r ≡ true) → (r || t) ≡ r
or_nothing true t h = refl
or_nothing false true h = sym (h refl)
or_nothing false false h = refl

pub made_here : (a b x y : Operand Reg) (xs ys : List (Operand Reg)) → (same x a && same y b) ≡ true → one_made a b (x ∷ xs) (y ∷ ys) ≡ same_list same xs ys
made_here a b x y xs ys h =
    let p = same x a in
    let q = same y b in
    let rest = same_list same xs ys in
    let s = same x y in
    let later = one_made a b xs ys in
    let e : a ≡ x = sym (same_reg_operand_true x a (left_true p q h)) in
    let f : y ≡ b = same_reg_operand_true y b (right_true p q h) in
    rw h (or_nothing rest (s && later) (λ there. made_same a b (e ∙ same_reg_operand_true x y (left_true s later there) ∙ f) xs ys (right_true s later there)))

pub made_later : (a b x y : Operand Reg) (xs ys : List (Operand Reg)) → (same x a && same y b) ≡ false
    → one_made a b (x ∷ xs) (y ∷ ys) ≡ (same x y && one_made a b xs ys)
made_later a b x y xs ys h = rw h refl
