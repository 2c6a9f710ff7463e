-- A number that is one of a type has no more bits than the type.
use Rattle.std.proofs.Common.{◌≡◌, ◌∙◌, ℕ, ◌<◌, ◌^◌, ◌-◌, ◌%◌, Bool, true, false, cond, nat_eq, nat_le, nat_lt, Option, Some, None, sym, ap, subst, lit<, lt-ltb, ltb-true}
use Rattle.std.proofs.lemmas.Bool.{eqb-true}
use Rattle.std.proofs.lemmas.Nat.{mod_below, pow_pos}
use Rattle.ir_core.specs.Types.{constant_fits, is_width}
use Rattle.ir_core.specs.declared.operands.Const.TheVariants as const
use Rattle.ir_types.proofs.Induction as kinds
use Rattle.ir_types.specs.declared.ty.Ty as ty
use Rattle.ir_types.specs.declared.ty.Ty.{Ty}
use Rattle.ir_types.specs.declared.ty.Ty.TheOpen.{Ty-F}
use Rattle.ir_types.specs.declared.ty.Ty.TheViews.{outs-Int, outs-Ptr, outs-Array, outs-Struct, outs-Named, outs-Void}
use Rattle.module_grammar.specs.declared.constants.IntText.{IntText}
use Rattle.module_grammar.specs.declared.constants.IntText.TheVariants as integer
use Rattle.named_modules.specs.Types.{int_at_level, int_of, int_of_width, kept_negative, kept_positive, truth}
use Rattle.module_texts.proofs.SpelledLimits.Lists.{guard_ok}

guarded : {A : Type 0} (b : Bool) (o : Option A) (x : A) → cond b o None ≡ Some x → o ≡ Some x
guarded true o x e = e
guarded false o x e = cc

negative_fits : (width magnitude k : ℕ) → kept_negative width magnitude ≡ Some k → k < 2 ^ width
negative_fits width magnitude k e =
    let both = guard_ok (nat_le magnitude (2 ^ (width - 1))) ((2 ^ width - magnitude) % 2 ^ width) k e in
    subst (λ n. n < 2 ^ width) both.1 (mod_below (2 ^ width - magnitude) (2 ^ width) (pow_pos width))

positive_fits : (width magnitude k : ℕ) → kept_positive width magnitude ≡ Some k → k < 2 ^ width
positive_fits width magnitude k e =
    let both = guard_ok (nat_lt magnitude (2 ^ width)) magnitude k e in
    subst (λ n. n < 2 ^ width) both.1 (ltb-true magnitude (2 ^ width) both.0)

signed_fits : (negative : Bool) (width magnitude k : ℕ) → cond negative (kept_negative width magnitude) (kept_positive width magnitude) ≡ Some k → k < 2 ^ width
signed_fits true width magnitude k e = negative_fits width magnitude k e
signed_fits false width magnitude k e = positive_fits width magnitude k e

bit_fits : (b : Bool) → cond b 1 0 < 2 ^ 1
bit_fits true = lit< tt
bit_fits false = lit< tt

truth_fits : (width : ℕ) (b : Bool) (k : ℕ) → truth width b ≡ Some k → k < 2 ^ width
truth_fits width b k e =
    let both = guard_ok (nat_eq width 1) (cond b 1 0) k e in
    subst (λ m. m < 2 ^ width) both.1 (subst (λ w. cond b 1 0 < 2 ^ w) (sym (eqb-true width 1 both.0)) (bit_fits b))

width_fits : (width : ℕ) (i : IntText) (k : ℕ) → int_of_width width i ≡ Some k → k < 2 ^ width
width_fits width (integer.Number n) k e = signed_fits n.what.negative width n.what.magnitude k e
width_fits width (integer.Truth b) k e = truth_fits width b.what k e

module _ (i : IntText) where
  abbrev Fits : Ty → Type 0
  Fits t = (n : ℕ) → int_of t i ≡ Some n → constant_fits t (const.Number n) ≡ true

  at_level : (t : Ty) (l : Ty-F Ty) (n : ℕ) → ty.out-Ty t ≡ l → int_of t i ≡ Some n → int_at_level l i ≡ Some n
  at_level t l n is e = sym (ap (λ l. int_at_level l i) is) ∙ e

  at_int : (width : ℕ) → Fits (ty.Int width)
  at_int width n e =
      let kept_there = guarded (is_width width) (int_of_width width i) n (at_level (ty.Int width) _ n (outs-Int width) e) in
      lt-ltb n (2 ^ width) (width_fits width i n kept_there)

  -- the number is one of its type
  pub int_fits : (t : Ty) → Fits t
  int_fits =
      kinds.by_parts Fits at_int
      (λ t also n e. let none = at_level (ty.Ptr t) _ n (outs-Ptr t) e in cc)
      (λ k t also n e. let none = at_level (ty.Array k t) _ n (outs-Array k t) e in cc)
      (λ ts also n e. let none = at_level (ty.Struct ts) _ n (outs-Struct ts) e in cc)
      (λ x n e. let none = at_level (ty.Named x) _ n (outs-Named x) e in cc)
      (λ n e. let none = at_level ty.Void _ n outs-Void e in cc)
